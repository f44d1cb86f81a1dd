use Rattle.std.proofs.Common.{subst}
use Rattle.blic_draw.specs.DrawRun.{draw_from}
use Rattle.blic_link.specs.Passing.{got, sent_bytes}
use Rattle.blic_verifier.specs.Hearing.{record_frames}
use Rattle.blic_client.specs.Linked.{IsHeld, IsRecorded}
use Rattle.blic_client.proofs.client.verify_link.Goals as goal

pub returns-clause-held : goal.returns-clause-held
returns-clause-held g c =
    let h = c.lead.ensures.held in
    let draw = draw_from (record { seed = c.args.draws.0; first = c.args.draws.1 }) in (
      h.0,
      h.1,
      subst (λ z. IsHeld z draw h.0 (g.K.Link.coming c.lead.new.link) (g.K.Link.faults c.args.link.now) (g.K.Link.faults c.lead.new.link) c.lead.result) c.client.view_is h.2,
      subst (λ z. IsRecorded z (record_frames z.about draw (got h.0) (sent_bytes h.0)) (g.O.Sink.held c.args.out.now) (g.O.Sink.held c.lead.new.out) c.lead.result) c.client.view_is h.3,
    )
