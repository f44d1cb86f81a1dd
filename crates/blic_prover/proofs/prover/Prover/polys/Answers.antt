use Rattle.std.proofs.Common.{arith, suc, ◌≡◌, ◌+◌, ◌*◌, ◌≤◌, ◌∙◌, ap, subst, sym, length, get_or}
use Rattle.std.specs.Prelude.{map, take}
use Rattle.std.specs.Vec.{with_items}
use Rattle.std.proofs.lemmas.List.{with_items_is}
use Rattle.blic_model.specs.Circuit.{below}
use Rattle.blic_model.specs.Counts.{claims}
use Rattle.blic_claims.specs.Honest.{honest_replies}
use Rattle.blic_claims.specs.Points.{stored_poly}
use Rattle.blic_claims.specs.Turns.{Polys, no_reply}
use Rattle.blic_claims.proofs.Places.{rows_of_layout, row_of_layout}
use Rattle.blic_prover.specs.Fitted.{IsAtWork}
use Rattle.blic_prover.specs.Standing.{IsReady}
use Rattle.blic_prover.proofs.Saying.{polys_said, polys_given}
use Rattle.blic_prover.proofs.prover.Prover.polys.Goals as goal

pub row-count-requires : goal.row-count-requires
row-count-requires g c =
    let work : IsAtWork c.self.inside.circuit.now c.self.inside.points c.args.node (suc c.args.level) = subst (λ z. IsAtWork z.circuit z.points c.args.node (suc c.args.level)) (sym c.self.view_is) c.requires.at_work in
    omega (arith, rows_of_layout c.self.inside.circuit.now c.self.inside.layout.now c.self.invariant.laid_out, work.inside)

pub fill-requires-clause-count : goal.fill-requires-clause-count
fill-requires-clause-count g c =
    let inside = c.self.inside in
    let work : IsAtWork inside.circuit.now inside.points c.args.node (suc c.args.level) = subst (λ z. IsAtWork z.circuit z.points c.args.node (suc c.args.level)) (sym c.self.view_is) c.requires.at_work in
    let own = row_of_layout inside.circuit.now inside.layout.now c.args.node c.row-count.result c.self.invariant.laid_out work.inside c.row-count.ensures in
    own.count ∙ ap (λ z. claims z.nodes c.args.node) (sym (c.requires.answers ∙ sym (ap (λ z. z.circuit) c.self.view_is)))

pub fill-requires-clause-room : goal.fill-requires-clause-room
fill-requires-clause-room g c =
    let inside = c.self.inside in
    let work : IsAtWork inside.circuit.now inside.points c.args.node (suc c.args.level) = subst (λ z. IsAtWork z.circuit z.points c.args.node (suc c.args.level)) (sym c.self.view_is) c.requires.at_work in
    let own = row_of_layout inside.circuit.now inside.layout.now c.args.node c.row-count.result c.self.invariant.laid_out work.inside c.row-count.ensures in
    rw c.deref_mut.ensures.value (omega (arith, own.count, c.self.invariant.most c.args.node work.inside work.binary))

pub invariant_of-self : goal.invariant_of-self
invariant_of-self g c =
    let inside = c.self.inside in
    let inv = c.self.invariant in
    let work : IsAtWork inside.circuit.now inside.points c.args.node (suc c.args.level) = subst (λ z. IsAtWork z.circuit z.points c.args.node (suc c.args.level)) (sym c.self.view_is) c.requires.at_work in
    let own = row_of_layout inside.circuit.now inside.layout.now c.args.node c.row-count.result inv.laid_out work.inside c.row-count.ensures in
    let same : length c.deref_mut.result.now ≡ length inside.polys.items = ap length c.deref_mut.ensures.value in
    let long : length c.fill.new.room ≡ length c.deref_mut.result.now = c.fill.ensures.long in
    let written : (with_items inside.polys c.fill.new.room).items ≡ c.fill.new.room = with_items_is inside.polys c.fill.new.room (omega (arith, long, same, inside.polys.ok)) in
    let len : length (with_items inside.polys c.fill.new.room).items ≡ length inside.polys.items = ap length written ∙ (long ∙ same) in
    record {
      laid_out = inv.laid_out;
      few = subst (λ z. z ≤ 65536) (sym len) inv.few;
      same_rows = inv.same_rows;
      most = λ k lk b. subst (λ z. claims inside.circuit.now.nodes k ≤ z) (sym len) (inv.most k lk b);
      within = subst (λ z. c.row-count.result.claims ≤ z) (sym len) (omega (arith, own.count, inv.most c.args.node work.inside work.binary));
      at_work = work;
    }

pub returns-clause-honest : goal.returns-clause-honest
returns-clause-honest g c = λ draws t r.
    let inside = c.self.inside in
    let circuit = inside.circuit.now in
    let here : IsReady circuit draws t c.args.node (suc c.args.level) inside.points = subst (λ z. IsReady z.circuit draws t c.args.node (suc c.args.level) z.points) (sym c.self.view_is) r in
    let same : length c.deref_mut.result.now ≡ length inside.polys.items = ap length c.deref_mut.ensures.value in
    let long : length c.fill.new.room ≡ length c.deref_mut.result.now = c.fill.ensures.long in
    let written : (with_items inside.polys c.fill.new.room).items ≡ c.fill.new.room = with_items_is inside.polys c.fill.new.room (omega (arith, long, same, inside.polys.ok)) in
    let of_circuit = c.requires.answers ∙ sym (ap (λ z. z.circuit) c.self.view_is) in
    ap (λ z. Polys (take c.row-count.result.claims z)) written
    ∙ (ap Polys c.fill.ensures.filled
    ∙ (ap (λ z. Polys (map (stored_poly z inside.points c.args.node c.args.level) (below (claims z.nodes c.args.node)))) of_circuit
    ∙ (polys_said circuit draws t c.args.node c.args.level inside.points c.is_within_limits.ensures.shaped here
    ∙ ap (λ z. get_or (honest_replies z.circuit.nodes (length z.circuit.order) draws (suc t)) t no_reply) c.self.view_is)))

pub returns-clause-stands : goal.returns-clause-stands
returns-clause-stands g c = λ draws t r.
    let inside = c.self.inside in
    polys_given inside.circuit.now draws t c.args.node c.args.level inside.points
    (subst (λ z. IsReady z.circuit draws t c.args.node (suc c.args.level) z.points) (sym c.self.view_is) r)

pub returns-clause-at_most : goal.returns-clause-at_most
returns-clause-at_most g c =
    let inside = c.self.inside in
    let work : IsAtWork inside.circuit.now inside.points c.args.node (suc c.args.level) = subst (λ z. IsAtWork z.circuit z.points c.args.node (suc c.args.level)) (sym c.self.view_is) c.requires.at_work in
    let own = row_of_layout inside.circuit.now inside.layout.now c.args.node c.row-count.result c.self.invariant.laid_out work.inside c.row-count.ensures in
    let e : c.row-count.result.claims ≡ claims c.args.self.now.circuit.nodes c.args.node = own.count ∙ ap (λ z. claims z.circuit.nodes c.args.node) c.self.view_is in
    subst (λ z. c.fill.new.steps ≤ c.args.steps.now + z * g.A.Answers.most c.args.answers.now c.args.node) e c.fill.ensures.at_most
