use Rattle.std.proofs.Common.{◌≡◌, ◌+◌, ◌-◌, ◌<◌, ℕ, [], ◌∷◌, ◌++◌, List, length, length-append, take, set, refl, ap, sym, ◌∙◌, arith}
use Rattle.std.proofs.lemmas.List.{length-take-le, length-set}
use Rattle.std.proofs.lemmas.Grind.{take-set_at}
use Rattle.blic_messages.specs.declared.ask.Ask.{Ask}
use Rattle.blic_messages.specs.declared.ask_decoder.AskState.{AskState}
use Rattle.blic_messages.specs.declared.ask_decoder.AskState.TheVariants as states
use Rattle.blic_messages.specs.declared.feeding.Fed.TheVariants as feds
use Rattle.blic_messages.specs.Grammar.{Whole, Partial, front}
use Rattle.blic_messages.specs.Fronts.{ask_grammar}
use Rattle.blic_messages.specs.Decoding.{Decoding, Inside, fed_at, fed_with, held_by}
use Rattle.blic_messages.specs.AskStates.{ask_decoding}
use Rattle.blic_messages.proofs.Headers.{front_early}
use Rattle.blic_messages.proofs.AskBodies.{asks_short, ask_sizes}
use Rattle.blic_messages.proofs.Pieces.{byte_ends}
use Rattle.blic_messages.proofs.ask_decoder.AskDecoder.take.Goals as goal

-- with the byte written behind those held
written : (held : List ℕ) (len byte : ℕ) → length held ≡ 43 → len < 43 → take (len + 1) (set held len byte) ≡ take len held ++ byte ∷ []
written held len byte long room = take-set_at held len (len + 1) byte refl (omega arith)

pub invariant_of-self : goal.invariant_of-self
invariant_of-self c =
    let partial : front ask_grammar (take (c.self.inside.len + 1) (set c.self.inside.held c.self.inside.len c.args.byte)) ≡ Partial = sym (c.in-Partial.ensures) in
    let more = written c.self.inside.held c.self.inside.len c.args.byte c.self.told c.self.invariant.0 in
    let long : length (take c.self.inside.len c.self.inside.held ++ c.args.byte ∷ []) ≡ c.self.inside.len + 1 =
    length-append (take c.self.inside.len c.self.inside.held) (c.args.byte ∷ []) ∙ omega (arith, length-take-le c.self.inside.len c.self.inside.held (omega arith)) in
    let short = asks_short (take c.self.inside.len c.self.inside.held ++ c.args.byte ∷ []) (ap (front ask_grammar) (sym more) ∙ partial) in
    (omega arith, partial, omega (arith, length-set {A = ℕ}, c.self.told))

open_held : (s : AskState) (held : List ℕ) (d : Decoding Ask) → ask_decoding s held ≡ d → d ≡ Inside (held_by d) → d ≡ Inside held
open_held states.Open held d e is = sym e
open_held (states.Whole ask) held d e is = cc
open_held states.Broken held d e is = cc

ends : (d : Decoding Ask) (held new : List ℕ) (byte n : ℕ) (ask : Ask) → d ≡ Inside held → new ≡ held ++ byte ∷ [] → front ask_grammar held ≡ Partial
    → Whole ask n ≡ front ask_grammar new → feds.Whole 1 ≡ fed_with ask_grammar d (byte ∷ [])
ends d held new byte n ask is more partial whole =
    let told : front ask_grammar (held ++ byte ∷ []) ≡ Whole ask n = ap (front ask_grammar) (sym more) ∙ sym whole in
    let last = byte_ends ask_grammar ask_sizes held byte ask n partial told in
    sym (ap (λ e. fed_with ask_grammar e (byte ∷ [])) is ∙ (ap (fed_at (length held)) told ∙ ap feds.Whole (let e : n - length held ≡ 1 = omega arith in e)))

pub invariant_of-self-in-Whole : goal.invariant_of-self-in-Whole
invariant_of-self-in-Whole c = (omega arith, front_early ask_grammar [] (omega arith), omega arith)

pub invariant_of-self-in-Broken : goal.invariant_of-self-in-Broken
invariant_of-self-in-Broken c = (omega arith, front_early ask_grammar [] (omega arith), omega arith)

pub returns-in-Whole-clause-answer : goal.returns-in-Whole-clause-answer
returns-in-Whole-clause-answer c =
    ends c.args.self.now (take c.self.inside.len c.self.inside.held) (take (c.self.inside.len + 1) (set c.self.inside.held c.self.inside.len c.args.byte)) c.args.byte
    c.in-Whole.field-1 c.in-Whole.ask (open_held c.self.inside.state (take c.self.inside.len c.self.inside.held) c.args.self.now c.self.view_is c.requires)
    (written c.self.inside.held c.self.inside.len c.args.byte c.self.told c.self.invariant.0) c.self.invariant.1 c.in-Whole.ensures
