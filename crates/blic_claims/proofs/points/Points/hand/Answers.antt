use Rattle.std.proofs.Common.{arith, ◌≡◌, ◌∙◌, ap, subst, inr, length}
use Rattle.std.specs.Prelude.{IsTrue}
use Rattle.std.specs.Vec.{with_items}
use Rattle.std.proofs.lemmas.List.{with_items_is}
use Rattle.blic_claims.specs.Elements.{spaced}
use Rattle.blic_claims.proofs.Handing.{claim_is_there, point_room, points_apart, point_handed_here}
use Rattle.blic_claims.proofs.points.Points.hand.Goals as goal

pub start-requires-clause-node : goal.start-requires-clause-node
start-requires-clause-node c = (claim_is_there c.args.circuit.now c.args.self.now c.args.node c.args.claim c.requires.points c.requires.node c.requires.claim).0

pub start-requires-clause-claim : goal.start-requires-clause-claim
start-requires-clause-claim c = (claim_is_there c.args.circuit.now c.args.self.now c.args.node c.args.claim c.requires.points c.requires.node c.requires.claim).1

pub start-requires-2-clause-node : goal.start-requires-2-clause-node
start-requires-2-clause-node c = (claim_is_there c.args.circuit.now c.args.self.now c.args.child c.args.place c.requires.points (omega arith) c.requires.place).0

pub start-requires-2-clause-claim : goal.start-requires-2-clause-claim
start-requires-2-clause-claim c = (claim_is_there c.args.circuit.now c.args.self.now c.args.child c.args.place c.requires.points (omega arith) c.requires.place).1

pub copy_point-requires-clause-source : goal.copy_point-requires-clause-source
copy_point-requires-clause-source c =
    let s : IsTrue (spaced 0 c.args.self.now.rows (length c.args.self.now.elements)) = subst (λ z. IsTrue (spaced 0 z.rows (length z.elements))) c.self.view_is c.self.invariant in
    let same : c.deref_mut.result.now ≡ c.args.self.now.elements = c.deref_mut.ensures.value ∙ ap (λ z. z.elements) c.self.view_is in
    let room = point_room c.args.circuit.now c.args.self.now c.args.node c.args.claim s c.requires.points c.requires.node c.requires.claim in
    omega (arith, ap length same)

pub copy_point-requires-clause-room : goal.copy_point-requires-clause-room
copy_point-requires-clause-room c =
    let s : IsTrue (spaced 0 c.args.self.now.rows (length c.args.self.now.elements)) = subst (λ z. IsTrue (spaced 0 z.rows (length z.elements))) c.self.view_is c.self.invariant in
    let same : c.deref_mut.result.now ≡ c.args.self.now.elements = c.deref_mut.ensures.value ∙ ap (λ z. z.elements) c.self.view_is in
    let room = point_room c.args.circuit.now c.args.self.now c.args.child c.args.place s c.requires.points (omega arith) c.requires.place in
    omega (arith, ap length same)

pub copy_point-requires-clause-apart : goal.copy_point-requires-clause-apart
copy_point-requires-clause-apart c =
    let s : IsTrue (spaced 0 c.args.self.now.rows (length c.args.self.now.elements)) = subst (λ z. IsTrue (spaced 0 z.rows (length z.elements))) c.self.view_is c.self.invariant in
    let apart = points_apart c.args.circuit.now c.args.self.now c.args.child c.args.place c.args.node c.args.claim s c.requires.points c.requires.child c.requires.node c.requires.place in
    inr (omega arith)

pub returns-clause-point : goal.returns-clause-point
returns-clause-point c =
    let s : IsTrue (spaced 0 c.args.self.now.rows (length c.args.self.now.elements)) = subst (λ z. IsTrue (spaced 0 z.rows (length z.elements))) c.self.view_is c.self.invariant in
    let same : c.deref_mut.result.now ≡ c.args.self.now.elements = c.deref_mut.ensures.value ∙ ap (λ z. z.elements) c.self.view_is in
    let w : (with_items c.self.inside.elements c.copy_point.new.elements).items ≡ c.copy_point.new.elements =
    with_items_is c.self.inside.elements c.copy_point.new.elements (omega (arith, c.self.inside.elements.ok, ap length c.deref_mut.ensures.value)) in
    point_handed_here c.args.circuit.now c.args.self.now _ c.args.node c.args.claim c.args.child c.args.place c.start.result c.start-2.result c.args.fixed
    c.deref_mut.result.now c.copy_point.new.elements s c.requires.points (omega arith) c.requires.place c.start.ensures c.start-2.ensures same
    (ap (λ z. z.rows) c.self.view_is) w c.copy_point.ensures.written c.copy_point.ensures.kept
