use Rattle.std.proofs.Common.{◌≡◌, ℕ, List, take, [], refl, ap, sym, ◌∙◌, arith}
use Rattle.blic_messages.specs.declared.ask.Ask.{Ask}
use Rattle.blic_messages.specs.declared.ask_decoder.AskState.{AskState}
use Rattle.blic_messages.specs.declared.ask_decoder.AskState.TheVariants as states
use Rattle.blic_messages.specs.Grammar.{front}
use Rattle.blic_messages.specs.Fronts.{ask_grammar}
use Rattle.blic_messages.specs.Decoding.{Decoding, Inside, held_by}
use Rattle.blic_messages.specs.AskStates.{ask_decoding}
use Rattle.blic_messages.proofs.Headers.{front_early}
use Rattle.blic_messages.proofs.ask_decoder.AskDecoder.begin.Goals as goal

nothing_held : (s : AskState) (held : List ℕ) (d : Decoding Ask) → ask_decoding s held ≡ d → (s ≡ states.Open → ⊥) → held_by d ≡ []
nothing_held states.Open held d e shut = absurd (shut refl)
nothing_held (states.Whole ask) held d e shut = sym (ap held_by e)
nothing_held states.Broken held d e shut = sym (ap held_by e)

pub returns-in_default : goal.returns-in_default
returns-in_default c =
    let none = nothing_held c.self.inside.state (take c.self.inside.len c.self.inside.held) c.args.self.now c.self.view_is c.in_default.not-Open in
    record { held = c.reset.ensures ∙ ap Inside (sym none); partial = ap (front ask_grammar) none ∙ front_early ask_grammar [] (omega arith) }
