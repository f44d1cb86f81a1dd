use Rattle.std.proofs.Common.{arith, ◌∙◌, ap, length}
use Rattle.blic_claims.proofs.LayoutRows.{length_handed}
use Rattle.blic_claims.proofs.Handable.{HasPlaces, not_asks, fix_handable, left_handable, right_handable}
use Rattle.blic_claims.proofs.HandedDown.{not_hands, fix_hands, binary_hands}
use Rattle.blic_claims.proofs.points.Points.hand_down.Goals as goal

pub handed-first-requires : goal.handed-first-requires
handed-first-requires c = omega (arith, ap (λ l. length l.handed) c.requires.layout, length_handed c.args.circuit.now)

pub copy_claims-requires : goal.copy_claims-requires
copy_claims-requires c =
    let places : HasPlaces c.args.circuit.now c.args.layout.now c.args.node c.handed-first.result.0 c.handed-first.result.1 =
    record { shaped = c.is_within_limits.ensures.shaped; inside = c.requires.node; layout_is = c.requires.layout; first_is = c.handed-first.ensures.first; second_is = c.handed-first.ensures.second } in
    let asks = not_asks c.args.circuit.now c.args.layout.now c.args.node c.handed-first.result.0 c.handed-first.result.1 c.in-Not.child c.args.self.now places c.in-Not.ensures c.requires.points in
    record { node = asks.has_row; child = asks.below; width = asks.same_width; room = asks.has_room }

pub hand_all-requires : goal.hand_all-requires
hand_all-requires c =
    let places : HasPlaces c.args.circuit.now c.args.layout.now c.args.node c.handed-first.result.0 c.handed-first.result.1 =
    record { shaped = c.is_within_limits.ensures.shaped; inside = c.requires.node; layout_is = c.requires.layout; first_is = c.handed-first.ensures.first; second_is = c.handed-first.ensures.second } in
    let all = fix_handable c.args.circuit.now c.args.layout.now c.args.node c.handed-first.result.0 c.handed-first.result.1 c.in-Fix.level c.in-Fix.child c.in-Fix.bit places c.in-Fix.ensures in
    record { points = c.requires.points; node = c.requires.node; child = all.is_below; room = all.has_room; covered = all.is_covered }

pub hand-requires : goal.hand-requires
hand-requires c =
    let places : HasPlaces c.args.circuit.now c.args.layout.now c.args.node c.handed-first.result.0 c.handed-first.result.1 =
    record { shaped = c.is_within_limits.ensures.shaped; inside = c.requires.node; layout_is = c.requires.layout; first_is = c.handed-first.ensures.first; second_is = c.handed-first.ensures.second } in
    let one = left_handable c.args.circuit.now c.args.layout.now c.args.node c.handed-first.result.0 c.handed-first.result.1 c.in-And.left c.in-And.right c.node.result places c.in-And.is c.node.ensures in
    record { points = c.requires.points; node = c.requires.node; claim = one.has_claim; child = one.is_below; place = one.has_place; covered = one.is_covered }

pub hand-requires-in-And : goal.hand-requires-in-And
hand-requires-in-And c =
    let places : HasPlaces c.args.circuit.now c.args.layout.now c.args.node c.handed-first.result.0 c.handed-first.result.1 =
    record { shaped = c.is_within_limits.ensures.shaped; inside = c.requires.node; layout_is = c.requires.layout; first_is = c.handed-first.ensures.first; second_is = c.handed-first.ensures.second } in
    let one = right_handable c.args.circuit.now c.args.layout.now c.args.node c.handed-first.result.0 c.handed-first.result.1 c.in-And.left c.in-And.right c.node.result places c.in-And.is c.node.ensures in
    record { points = c.hand.ensures.rows ∙ c.requires.points; node = c.requires.node; claim = one.has_claim; child = one.is_below; place = one.has_place; covered = one.is_covered }

pub returns-in-Not-clause-handed : goal.returns-in-Not-clause-handed
returns-in-Not-clause-handed c =
    let places : HasPlaces c.args.circuit.now c.args.layout.now c.args.node c.handed-first.result.0 c.handed-first.result.1 =
    record { shaped = c.is_within_limits.ensures.shaped; inside = c.requires.node; layout_is = c.requires.layout; first_is = c.handed-first.ensures.first; second_is = c.handed-first.ensures.second } in
    not_hands c.args.circuit.now c.args.layout.now c.args.node c.handed-first.result.0 c.handed-first.result.1 c.in-Not.child c.args.self.now _ places c.in-Not.ensures c.requires.points c.copy_claims.ensures.copied

pub returns-in-Fix-clause-handed : goal.returns-in-Fix-clause-handed
returns-in-Fix-clause-handed c =
    let places : HasPlaces c.args.circuit.now c.args.layout.now c.args.node c.handed-first.result.0 c.handed-first.result.1 =
    record { shaped = c.is_within_limits.ensures.shaped; inside = c.requires.node; layout_is = c.requires.layout; first_is = c.handed-first.ensures.first; second_is = c.handed-first.ensures.second } in
    fix_hands c.args.circuit.now c.args.layout.now c.args.node c.handed-first.result.0 c.handed-first.result.1 c.in-Fix.level c.in-Fix.child c.in-Fix.bit c.args.self.now _ places c.in-Fix.ensures c.hand_all.ensures.points

pub returns-in-And-clause-handed : goal.returns-in-And-clause-handed
returns-in-And-clause-handed c =
    let places : HasPlaces c.args.circuit.now c.args.layout.now c.args.node c.handed-first.result.0 c.handed-first.result.1 =
    record { shaped = c.is_within_limits.ensures.shaped; inside = c.requires.node; layout_is = c.requires.layout; first_is = c.handed-first.ensures.first; second_is = c.handed-first.ensures.second } in
    binary_hands c.args.circuit.now c.args.layout.now c.args.node c.handed-first.result.0 c.handed-first.result.1 c.in-And.left c.in-And.right c.node.result c.args.self.now c.hand.new.self _ places c.in-And.is c.node.ensures c.requires.points c.hand.ensures.rows
    c.hand.ensures.point c.hand-in-And.ensures.point
