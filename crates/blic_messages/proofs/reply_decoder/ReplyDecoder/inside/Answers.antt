use Rattle.std.proofs.Common.{take, nat_lt, ap, sym, ◌∙◌, subst}
use Rattle.std.proofs.lemmas.List.{length-take-le}
use Rattle.blic_messages.specs.ReplyStates.{reply_decoding, IsReplyState}
use Rattle.blic_messages.proofs.Pieces.{some_inside}
use Rattle.blic_messages.proofs.ReplySteps.{stream_begun}
use Rattle.blic_messages.proofs.reply_decoder.ReplyDecoder.inside.Goals as goal

pub returns-in-Open : goal.returns-in-Open
returns-in-Open c =
    let kept = take c.self.inside.len c.self.inside.held in
    let ps = c.self.inside.polys.items in
    let now = subst (λ s. IsReplyState s kept ps) c.in-Open.is c.self.invariant.0 in
    ap (nat_lt 0) (sym (length-take-le c.self.inside.len c.self.inside.held c.self.invariant.2))
    ∙ (stream_begun kept ps now ∙ some_inside c.args.self.now _ (ap (λ s. reply_decoding s kept ps) (sym c.in-Open.is) ∙ c.self.view_is))
