use Rattle.std.proofs.Common.{◌≡◌, ℕ, List, take, [], refl, ap, sym, ◌∙◌, arith}
use Rattle.blic_field.specs.Quadratic.{Quadratic}
use Rattle.blic_messages.specs.declared.reply_decoder.ReplyState.{ReplyState}
use Rattle.blic_messages.specs.declared.reply_decoder.ReplyState.TheVariants as states
use Rattle.blic_messages.specs.Replies.{Said}
use Rattle.blic_messages.specs.Grammar.{front}
use Rattle.blic_messages.specs.Fronts.{reply_grammar}
use Rattle.blic_messages.specs.Decoding.{Decoding, Inside, held_by}
use Rattle.blic_messages.specs.ReplyStates.{reply_decoding}
use Rattle.blic_messages.proofs.Headers.{front_early}
use Rattle.blic_messages.proofs.reply_decoder.ReplyDecoder.begin.Goals as goal

nothing_held : (s : ReplyState) (kept : List ℕ) (ps : List Quadratic) (d : Decoding Said) → reply_decoding s kept ps ≡ d → (s ≡ states.Open → ⊥) → held_by d ≡ []
nothing_held states.Open kept ps d e shut = absurd (shut refl)
nothing_held (states.Whole k) kept ps d e shut = sym (ap held_by e)
nothing_held states.Broken kept ps d e shut = sym (ap held_by e)

pub returns-in_default : goal.returns-in_default
returns-in_default c =
    let none = nothing_held c.self.inside.state (take c.self.inside.len c.self.inside.held) c.self.inside.polys.items c.args.self.now c.self.view_is c.in_default.not-Open in
    record { held = c.reset.ensures ∙ ap Inside (sym none); partial = ap (front reply_grammar) none ∙ front_early reply_grammar [] (omega arith) }
