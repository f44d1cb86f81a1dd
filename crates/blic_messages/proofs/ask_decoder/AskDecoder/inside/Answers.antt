use Rattle.std.proofs.Common.{take, nat_lt, ap, sym, ◌∙◌}
use Rattle.std.proofs.lemmas.List.{length-take-le}
use Rattle.blic_messages.specs.AskStates.{ask_decoding}
use Rattle.blic_messages.proofs.Pieces.{some_inside}
use Rattle.blic_messages.proofs.ask_decoder.AskDecoder.inside.Goals as goal

pub returns-in-Open : goal.returns-in-Open
returns-in-Open c =
    let held = take c.self.inside.len c.self.inside.held in
    ap (nat_lt 0) (sym (length-take-le c.self.inside.len c.self.inside.held c.self.invariant.2))
    ∙ some_inside c.args.self.now held (ap (λ s. ask_decoding s held) (sym c.in-Open.is) ∙ c.self.view_is)
