use Rattle.std.proofs.Common.{arith, ◌≡◌, ◌∙◌, refl, ap, subst, sym, length}
use Rattle.blic_claims.specs.Places.{row_at}
use Rattle.blic_verifier.specs.Verdict.{Talk, with_draw}
use Rattle.blic_verifier.specs.Standing.{Verifying, HoldsFor, claims_waiting}
use Rattle.blic_verifier.specs.Fitted.{StageFits}
use Rattle.blic_verifier.specs.declared.stage.Stage.TheVariants.{Ready, Drawing}
use Rattle.blic_claims.proofs.Places.{rows_of_layout, row_of_layout, row_within}
use Rattle.blic_verifier.proofs.TakenDraw.{drawn_stands, waiting_is}
use Rattle.blic_verifier.proofs.TalkElements.{holds_of, elements_of, stands_from, elements_with_draw}
use Rattle.blic_verifier.proofs.verifier.Verifier.drawn.Goals as goal

pub row-row-requires : goal.row-row-requires
row-row-requires g c =
    let at_work : StageFits c.self.inside.circuit.now (Drawing c.in-Drawing.node c.in-Drawing.level) = subst (StageFits c.self.inside.circuit.now) c.in-Drawing.is c.self.invariant.at_work in
    omega (arith, rows_of_layout c.self.inside.circuit.now c.self.inside.layout.now c.self.invariant.laid_out, at_work.0)

pub draw-requires-clause-node : goal.draw-requires-clause-node
draw-requires-clause-node g c =
    let at_work : StageFits c.self.inside.circuit.now (Drawing c.in-Drawing.node c.in-Drawing.level) = subst (StageFits c.self.inside.circuit.now) c.in-Drawing.is c.self.invariant.at_work in
    omega (arith, rows_of_layout c.self.inside.circuit.now c.self.inside.layout.now c.self.invariant.laid_out, at_work.0, ap (λ z. length z.rows) c.self.invariant.laid_out, ap length c.self.invariant.room.same_rows)

pub draw-requires-clause-row : goal.draw-requires-clause-row
draw-requires-clause-row g c = c.row-row.ensures ∙ ap (λ z. row_at z c.in-Drawing.node) (ap (λ z. z.rows) c.self.invariant.laid_out ∙ sym c.self.invariant.room.same_rows)

pub draw-requires-clause-level : goal.draw-requires-clause-level
draw-requires-clause-level g c =
    let at_work : StageFits c.self.inside.circuit.now (Drawing c.in-Drawing.node c.in-Drawing.level) = subst (StageFits c.self.inside.circuit.now) c.in-Drawing.is c.self.invariant.at_work in
    let own = row_of_layout c.self.inside.circuit.now c.self.inside.layout.now c.in-Drawing.node c.row-row.result c.self.invariant.laid_out at_work.0 c.row-row.ensures in
    omega (arith, own.width, at_work.2)

pub draw-requires-clause-polys : goal.draw-requires-clause-polys
draw-requires-clause-polys g c =
    let at_work : StageFits c.self.inside.circuit.now (Drawing c.in-Drawing.node c.in-Drawing.level) = subst (StageFits c.self.inside.circuit.now) c.in-Drawing.is c.self.invariant.at_work in
    let own = row_of_layout c.self.inside.circuit.now c.self.inside.layout.now c.in-Drawing.node c.row-row.result c.self.invariant.laid_out at_work.0 c.row-row.ensures in
    rw c.deref.ensures.value (omega (arith, own.count, c.self.invariant.most c.in-Drawing.node at_work.0 at_work.1))

pub draw-requires-clause-room : goal.draw-requires-clause-room
draw-requires-clause-room g c =
    let at_work : StageFits c.self.inside.circuit.now (Drawing c.in-Drawing.node c.in-Drawing.level) = subst (StageFits c.self.inside.circuit.now) c.in-Drawing.is c.self.invariant.at_work in
    let own = row_of_layout c.self.inside.circuit.now c.self.inside.layout.now c.in-Drawing.node c.row-row.result c.self.invariant.laid_out at_work.0 c.row-row.ensures in
    row_within c.self.inside.circuit.now c.in-Drawing.node (length c.self.inside.held.values.items) c.row-row.result own at_work.0 c.self.invariant.room.enough

pub returns-in-Drawing-clause-drawn : goal.returns-in-Drawing-clause-drawn
returns-in-Drawing-clause-drawn g c =
    let inside = c.self.inside in
    let at_work : StageFits inside.circuit.now (Drawing c.in-Drawing.node c.in-Drawing.level) = subst (StageFits inside.circuit.now) c.in-Drawing.is c.self.invariant.at_work in
    let own = row_of_layout inside.circuit.now inside.layout.now c.in-Drawing.node c.row-row.result c.self.invariant.laid_out at_work.0 c.row-row.ensures in
    let s : Verifying = record { circuit = inside.circuit.now; points = inside.held.points; values = inside.held.values.items; polys = inside.polys.items; stage = inside.stage; answer = inside.answer; turn = inside.turn } in
    let n : Verifying = record { circuit = inside.circuit.now; points = c.draw.new.self.points; values = c.draw.new.self.values.items; polys = inside.polys.items; stage = Ready c.in-Drawing.node c.in-Drawing.level; answer = inside.answer; turn = inside.turn } in
    let made : (t : Talk) → HoldsFor s t → HoldsFor n (with_draw t c.args.r) =
    drawn_stands s n c.in-Drawing.node c.in-Drawing.level c.args.r c.row-row.result c.in-Drawing.is refl refl refl refl c.self.invariant.room.same_rows own c.draw.ensures.rows c.draw.ensures.drawn
    (rw (← c.deref.ensures.value) c.draw.ensures.inside) c.draw.ensures.outside in
    λ t st. stands_from n (with_draw t c.args.r) ((subst (λ z. (t : Talk) → HoldsFor z t → HoldsFor n (with_draw t c.args.r)) c.self.view_is made) t (holds_of c.args.self.now t st))
    (elements_with_draw t c.args.r c.is_element.ensures (elements_of c.args.self.now t st))

pub returns-in-Drawing-clause-at_most : goal.returns-in-Drawing-clause-at_most
returns-in-Drawing-clause-at_most g c =
    let inside = c.self.inside in
    let at_work : StageFits inside.circuit.now (Drawing c.in-Drawing.node c.in-Drawing.level) = subst (StageFits inside.circuit.now) c.in-Drawing.is c.self.invariant.at_work in
    let own = row_of_layout inside.circuit.now inside.layout.now c.in-Drawing.node c.row-row.result c.self.invariant.laid_out at_work.0 c.row-row.ensures in
    let s : Verifying = record { circuit = inside.circuit.now; points = inside.held.points; values = inside.held.values.items; polys = inside.polys.items; stage = inside.stage; answer = inside.answer; turn = inside.turn } in
    let waiting : claims_waiting c.args.self.now.circuit.nodes c.args.self.now.stage ≡ c.row-row.result.claims = subst (λ z. claims_waiting z.circuit.nodes z.stage ≡ c.row-row.result.claims) c.self.view_is (waiting_is s c.in-Drawing.node c.in-Drawing.level c.row-row.result c.in-Drawing.is own) in
    rw waiting c.draw.ensures.at_most
