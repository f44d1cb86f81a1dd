use Rattle.std.proofs.Common.{arith, ◌≡◌, ◌∙◌, ◌+◌, refl, ap, subst, sym, length, get_or}
use Rattle.std.specs.Vec.{with_items}
use Rattle.std.proofs.lemmas.List.{with_items_is}
use Rattle.blic_claims.specs.Places.{row_at}
use Rattle.blic_messages.specs.Replies.{Polys}
use Rattle.blic_verifier.specs.Acceptance.{no_poly}
use Rattle.blic_verifier.specs.Verdict.{Talk, next_after, next_of, with_reply, told_count}
use Rattle.blic_verifier.specs.Standing.{Verifying, HoldsFor}
use Rattle.blic_verifier.specs.Fitted.{StageFits}
use Rattle.blic_verifier.specs.declared.place.Part.TheVariants.{Poly}
use Rattle.blic_verifier.specs.declared.next.Next.TheVariants.{Draw, Rejected, WrongCount}
use Rattle.blic_verifier.specs.declared.stage.Stage.TheVariants.{Ready, Drawing}
use Rattle.blic_claims.proofs.Places.{rows_of_layout, row_of_layout, row_within}
use Rattle.blic_verifier.proofs.TakenPolys.{count_said, fault_said, fine_said, fine_stands}
use Rattle.blic_verifier.proofs.verifier.Verifier.take_polys.Goals as goal

pub row-row-requires : goal.row-row-requires
row-row-requires g c =
    let at_work : StageFits c.self.inside.circuit.now (Ready c.args.node (c.args.level + 1)) = subst (StageFits c.self.inside.circuit.now) (ap (λ z. z.stage) c.self.view_is ∙ c.requires) c.self.invariant.at_work in
    omega (arith, rows_of_layout c.self.inside.circuit.now c.self.inside.layout.now c.self.invariant.laid_out, at_work.0)

pub returns-then-polys-row-clause-says : goal.returns-then-polys-row-clause-says
returns-then-polys-row-clause-says g c =
    let inside = c.self.inside in
    let ready = ap (λ z. z.stage) c.self.view_is ∙ c.requires in
    let at_work : StageFits inside.circuit.now (Ready c.args.node (c.args.level + 1)) = subst (StageFits inside.circuit.now) ready c.self.invariant.at_work in
    let own = row_of_layout inside.circuit.now inside.layout.now c.args.node c.row-row.result c.self.invariant.laid_out at_work.0 c.row-row.ensures in
    let s : Verifying = record { circuit = inside.circuit.now; points = inside.held.points; values = inside.held.values.items; polys = inside.polys.items; stage = inside.stage; answer = inside.answer; turn = inside.turn } in
    let said : (t : Talk) → HoldsFor s t → WrongCount s.turn c.row-row.result.claims (told_count (length c.args.polys.now)) ≡ next_of (next_after s.circuit.nodes (length s.circuit.order) t (Polys c.args.polys.now)) =
    count_said s c.args.node c.args.level c.row-row.result c.args.polys.now ready own c.if-polys-row.true in
    λ t st. c.wrong_count.ensures.says ∙ (ap (WrongCount c.args.self.now.turn c.row-row.result.claims) c.min.ensures
    ∙ (subst (λ z. (t : Talk) → HoldsFor z t → WrongCount z.turn c.row-row.result.claims (told_count (length c.args.polys.now)) ≡ next_of (next_after z.circuit.nodes (length z.circuit.order) t (Polys c.args.polys.now))) c.self.view_is said) t st)

pub first_unreduced-requires-clause-node : goal.first_unreduced-requires-clause-node
first_unreduced-requires-clause-node g c =
    let at_work : StageFits c.self.inside.circuit.now (Ready c.args.node (c.args.level + 1)) = subst (StageFits c.self.inside.circuit.now) (ap (λ z. z.stage) c.self.view_is ∙ c.requires) c.self.invariant.at_work in
    omega (arith, rows_of_layout c.self.inside.circuit.now c.self.inside.layout.now c.self.invariant.laid_out, at_work.0, ap (λ z. length z.rows) c.self.invariant.laid_out, ap length c.self.invariant.room.same_rows)

pub first_unreduced-requires-clause-row : goal.first_unreduced-requires-clause-row
first_unreduced-requires-clause-row g c = c.row-row.ensures ∙ ap (λ z. row_at z c.args.node) (ap (λ z. z.rows) c.self.invariant.laid_out ∙ sym c.self.invariant.room.same_rows)

pub first_unreduced-requires-clause-level : goal.first_unreduced-requires-clause-level
first_unreduced-requires-clause-level g c =
    let at_work : StageFits c.self.inside.circuit.now (Ready c.args.node (c.args.level + 1)) = subst (StageFits c.self.inside.circuit.now) (ap (λ z. z.stage) c.self.view_is ∙ c.requires) c.self.invariant.at_work in
    let own = row_of_layout c.self.inside.circuit.now c.self.inside.layout.now c.args.node c.row-row.result c.self.invariant.laid_out at_work.0 c.row-row.ensures in
    omega (arith, own.width, at_work.2)

pub first_unreduced-requires-clause-room : goal.first_unreduced-requires-clause-room
first_unreduced-requires-clause-room g c =
    let at_work : StageFits c.self.inside.circuit.now (Ready c.args.node (c.args.level + 1)) = subst (StageFits c.self.inside.circuit.now) (ap (λ z. z.stage) c.self.view_is ∙ c.requires) c.self.invariant.at_work in
    let own = row_of_layout c.self.inside.circuit.now c.self.inside.layout.now c.args.node c.row-row.result c.self.invariant.laid_out at_work.0 c.row-row.ensures in
    row_within c.self.inside.circuit.now c.args.node (length c.self.inside.held.values.items) c.row-row.result own at_work.0 c.self.invariant.room.enough

pub keep-requires : goal.keep-requires
keep-requires g c =
    let at_work : StageFits c.self.inside.circuit.now (Ready c.args.node (c.args.level + 1)) = subst (StageFits c.self.inside.circuit.now) (ap (λ z. z.stage) c.self.view_is ∙ c.requires) c.self.invariant.at_work in
    let own = row_of_layout c.self.inside.circuit.now c.self.inside.layout.now c.args.node c.row-row.result c.self.invariant.laid_out at_work.0 c.row-row.ensures in
    rw c.deref_mut.ensures.value (omega (arith, own.count, c.if-polys-row.false, c.self.invariant.most c.args.node at_work.0 at_work.1))

pub returns-in-Some-clause-says : goal.returns-in-Some-clause-says
returns-in-Some-clause-says g c =
    let inside = c.self.inside in
    let ready = ap (λ z. z.stage) c.self.view_is ∙ c.requires in
    let at_work : StageFits inside.circuit.now (Ready c.args.node (c.args.level + 1)) = subst (StageFits inside.circuit.now) ready c.self.invariant.at_work in
    let own = row_of_layout inside.circuit.now inside.layout.now c.args.node c.row-row.result c.self.invariant.laid_out at_work.0 c.row-row.ensures in
    let s : Verifying = record { circuit = inside.circuit.now; points = inside.held.points; values = inside.held.values.items; polys = inside.polys.items; stage = inside.stage; answer = inside.answer; turn = inside.turn } in
    let said : (t : Talk) → HoldsFor s t → Rejected (record { node = c.args.node; part = Poly c.args.level; claim = c.in-Some.claim }) ≡ next_of (next_after s.circuit.nodes (length s.circuit.order) t (Polys c.args.polys.now)) =
    fault_said s c.args.node c.args.level c.in-Some.claim c.row-row.result c.args.polys.now ready c.self.invariant.room.same_rows own c.if-polys-row.false c.in-Some.ensures.first in
    (rw c.reject.ensures.says (subst (λ z. (t : Talk) → HoldsFor z t → Rejected (record { node = c.args.node; part = Poly c.args.level; claim = c.in-Some.claim }) ≡ next_of (next_after z.circuit.nodes (length z.circuit.order) t (Polys c.args.polys.now))) c.self.view_is said))

pub returns-in-None-clause-says : goal.returns-in-None-clause-says
returns-in-None-clause-says g c =
    let inside = c.self.inside in
    let ready = ap (λ z. z.stage) c.self.view_is ∙ c.requires in
    let at_work : StageFits inside.circuit.now (Ready c.args.node (c.args.level + 1)) = subst (StageFits inside.circuit.now) ready c.self.invariant.at_work in
    let own = row_of_layout inside.circuit.now inside.layout.now c.args.node c.row-row.result c.self.invariant.laid_out at_work.0 c.row-row.ensures in
    let s : Verifying = record { circuit = inside.circuit.now; points = inside.held.points; values = inside.held.values.items; polys = inside.polys.items; stage = inside.stage; answer = inside.answer; turn = inside.turn } in
    subst (λ z. (t : Talk) → HoldsFor z t → Draw ≡ next_of (next_after z.circuit.nodes (length z.circuit.order) t (Polys c.args.polys.now))) c.self.view_is
    (fine_said s c.args.node c.args.level c.row-row.result c.args.polys.now ready c.self.invariant.room.same_rows own c.if-polys-row.false c.in-None.ensures.first)

pub returns-in-None-clause-taken : goal.returns-in-None-clause-taken
returns-in-None-clause-taken g c = λ t st _.
    let inside = c.self.inside in
    let ready = ap (λ z. z.stage) c.self.view_is ∙ c.requires in
    let at_work : StageFits inside.circuit.now (Ready c.args.node (c.args.level + 1)) = subst (StageFits inside.circuit.now) ready c.self.invariant.at_work in
    let own = row_of_layout inside.circuit.now inside.layout.now c.args.node c.row-row.result c.self.invariant.laid_out at_work.0 c.row-row.ensures in
    let s : Verifying = record { circuit = inside.circuit.now; points = inside.held.points; values = inside.held.values.items; polys = inside.polys.items; stage = inside.stage; answer = inside.answer; turn = inside.turn } in
    let n : Verifying = record { circuit = inside.circuit.now; points = inside.held.points; values = inside.held.values.items; polys = (with_items inside.polys c.keep.new.kept).items; stage = Drawing c.args.node c.args.level; answer = inside.answer; turn = c.saturating_add-self-inside.result } in
    let long : length c.keep.new.kept ≡ length c.deref_mut.result.now = omega arith in
    let same : length c.deref_mut.result.now ≡ length inside.polys.items = ap length c.deref_mut.ensures.value in
    let written : (with_items inside.polys c.keep.new.kept).items ≡ c.keep.new.kept = with_items_is inside.polys c.keep.new.kept (omega (arith, long, same, inside.polys.ok)) in
    let made : (t : Talk) → HoldsFor s t → HoldsFor n (with_reply t (Polys c.args.polys.now)) =
    fine_stands s n c.args.node c.args.level c.row-row.result c.args.polys.now ready refl refl refl refl refl c.saturating_add-self-inside.ensures c.self.invariant.few_turns c.self.invariant.room.same_rows own c.if-polys-row.false c.in-None.ensures.first
    (λ d h. ap (λ z. get_or z d no_poly) written ∙ c.keep.ensures d h) in
    (subst (λ z. (t : Talk) → HoldsFor z t → HoldsFor n (with_reply t (Polys c.args.polys.now))) c.self.view_is made) t st
