use Rattle.std.proofs.Common.{arith, suc, ◌≡◌, ◌∙◌, ap, subst, sym, length}
use Rattle.blic_claims.specs.Points.{coordinate}
use Rattle.blic_verifier.specs.declared.next.Next.TheVariants.{Go, Done, Rejected}
use Rattle.blic_verifier.specs.Verdict.{Talked, judged, next_of, IsAcceptedAs}
use Rattle.blic_verifier.specs.Standing.{Verifying, IsReady}
use Rattle.blic_verifier.specs.Holding.{value_in, WalksTo}
use Rattle.blic_verifier.specs.Fitted.{IsOnWalk}
use Rattle.blic_claims.proofs.Places.{rows_of_layout, row_of_layout}
use Rattle.blic_verifier.proofs.Stopping.{walk_stop}
use Rattle.blic_verifier.proofs.Accepting.{end_said, stop_said}
use Rattle.blic_verifier.proofs.verifier.Verifier.go_on.Goals as goal

pub row-left-requires : goal.row-left-requires
row-left-requires c = omega (arith, rows_of_layout c.self.inside.circuit.now c.self.inside.layout.now c.self.invariant.laid_out, c.in-Binary.ensures.right.0)

pub invariant_of-self : goal.invariant_of-self
invariant_of-self c =
    let own = row_of_layout c.self.inside.circuit.now c.self.inside.layout.now c.in-Binary.node c.row-left.result c.self.invariant.laid_out c.in-Binary.ensures.right.0 c.row-left.ensures in
    let wide = own.width in
    record {
      laid_out = c.self.invariant.laid_out;
      room = c.in-Binary.ensures.room;
      most = c.self.invariant.most;
      at_work = (c.in-Binary.ensures.right.0, c.in-Binary.ensures.right.1, omega arith);
      few_turns = c.self.invariant.few_turns;
    }

pub returns-in-Binary-clause-says : goal.returns-in-Binary-clause-says
returns-in-Binary-clause-says c = λ answer draws replies w.
    let inside = c.self.inside in
    let circuit = inside.circuit.now in
    let s : Verifying = record { circuit = circuit; points = inside.held.points; values = inside.held.values.items; polys = inside.polys.items; stage = inside.stage; answer = inside.answer; turn = inside.turn } in
    let here : IsOnWalk s answer draws replies c.args.top = subst (λ z. IsOnWalk z answer draws replies c.args.top) (sym c.self.view_is) w in
    let walk : WalksTo circuit answer draws replies (suc c.in-Binary.node) c.walk.new.self.points c.walk.new.self.values.items = c.in-Binary.ensures.ends answer draws replies here.walks in
    subst (λ z. Go ≡ next_of (judged z.circuit.nodes (length z.circuit.order) answer draws replies)) c.self.view_is
    (sym (ap next_of (stop_said circuit.nodes (length circuit.order) answer draws replies c.in-Binary.node (coordinate c.walk.new.self.points) (value_in c.walk.new.self.points c.walk.new.self.values.items) c.in-Binary.ensures.right.1 walk)))

pub returns-in-Binary-clause-stands : goal.returns-in-Binary-clause-stands
returns-in-Binary-clause-stands c = λ answer draws replies w.
    let inside = c.self.inside in
    let circuit = inside.circuit.now in
    let s : Verifying = record { circuit = circuit; points = inside.held.points; values = inside.held.values.items; polys = inside.polys.items; stage = inside.stage; answer = inside.answer; turn = inside.turn } in
    let here : IsOnWalk s answer draws replies c.args.top = subst (λ z. IsOnWalk z answer draws replies c.args.top) (sym c.self.view_is) w in
    let walk : WalksTo circuit answer draws replies (suc c.in-Binary.node) c.walk.new.self.points c.walk.new.self.values.items = c.in-Binary.ensures.ends answer draws replies here.walks in
    let own = row_of_layout circuit inside.layout.now c.in-Binary.node c.row-left.result c.self.invariant.laid_out c.in-Binary.ensures.right.0 c.row-left.ensures in (
      here.same_answer,
      here.same_turn,
      subst (λ z. IsReady circuit.nodes (length circuit.order) answer draws replies c.in-Binary.node z (coordinate c.walk.new.self.points) (value_in c.walk.new.self.points c.walk.new.self.values.items)) (sym own.width)
          (walk_stop circuit.nodes (length circuit.order) answer draws replies c.in-Binary.node (coordinate c.walk.new.self.points) (value_in c.walk.new.self.points c.walk.new.self.values.items) c.in-Binary.ensures.right.1 walk),
    )

pub returns-in-Fault-clause-says : goal.returns-in-Fault-clause-says
returns-in-Fault-clause-says c = λ answer draws replies w.
    let inside = c.self.inside in
    let circuit = inside.circuit.now in
    let s : Verifying = record { circuit = circuit; points = inside.held.points; values = inside.held.values.items; polys = inside.polys.items; stage = inside.stage; answer = inside.answer; turn = inside.turn } in
    let here : IsOnWalk s answer draws replies c.args.top = subst (λ z. IsOnWalk z answer draws replies c.args.top) (sym c.self.view_is) w in
    subst (λ z. Rejected c.in-Fault.place ≡ next_of (judged z.circuit.nodes (length z.circuit.order) answer draws replies)) c.self.view_is
    (sym (ap next_of (c.in-Fault.ensures.ends answer draws replies here.walks)))

pub returns-in-End-clause-says : goal.returns-in-End-clause-says
returns-in-End-clause-says c = λ answer draws replies w.
    let inside = c.self.inside in
    let circuit = inside.circuit.now in
    let s : Verifying = record { circuit = circuit; points = inside.held.points; values = inside.held.values.items; polys = inside.polys.items; stage = inside.stage; answer = inside.answer; turn = inside.turn } in
    let here : IsOnWalk s answer draws replies c.args.top = subst (λ z. IsOnWalk z answer draws replies c.args.top) (sym c.self.view_is) w in
    let walk : WalksTo circuit answer draws replies 0 c.walk.new.self.points c.walk.new.self.values.items = c.in-End.ensures.ends answer draws replies here.walks in
    let end = end_said circuit.nodes (length circuit.order) answer draws replies (coordinate c.walk.new.self.points) (value_in c.walk.new.self.points c.walk.new.self.values.items) walk in
    subst (λ z. Done inside.answer ≡ next_of (judged z.circuit.nodes (length z.circuit.order) answer draws replies)) c.self.view_is
    (ap Done here.same_answer ∙ sym (ap next_of end.0))

pub returns-in-End-clause-accepted : goal.returns-in-End-clause-accepted
returns-in-End-clause-accepted c = λ answer draws replies w b e.
    let inside = c.self.inside in
    let circuit = inside.circuit.now in
    let s : Verifying = record { circuit = circuit; points = inside.held.points; values = inside.held.values.items; polys = inside.polys.items; stage = inside.stage; answer = inside.answer; turn = inside.turn } in
    let here : IsOnWalk s answer draws replies c.args.top = subst (λ z. IsOnWalk z answer draws replies c.args.top) (sym c.self.view_is) w in
    let walk : WalksTo circuit answer draws replies 0 c.walk.new.self.points c.walk.new.self.values.items = c.in-End.ensures.ends answer draws replies here.walks in
    let end = end_said circuit.nodes (length circuit.order) answer draws replies (coordinate c.walk.new.self.points) (value_in c.walk.new.self.points c.walk.new.self.values.items) walk in
    let same : b ≡ inside.answer = cc in
    subst (λ z. IsAcceptedAs z.circuit b (Talked answer draws replies)) c.self.view_is (same ∙ here.same_answer, end.1)
