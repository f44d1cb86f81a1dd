use Rattle.std.proofs.Common.{arith, ◌+◌}
use Rattle.std.specs.Prelude.{slice_index}
use Rattle.std.proofs.lemmas.Bool.{cond-false}
use Rattle.blic_model.specs.Counts.{is_binary}
use Rattle.blic_model.proofs.ClaimCounts.{sum_after_add, entry_within_sum, sum_take_next, one_child, two_children, cond_at_most}
use Rattle.blic_model.proofs.claim_counts.hand_down.Goals as goal

pub returns-in-Not-clause-few : goal.returns-in-Not-clause-few
returns-in-Not-clause-few c =
    let w = one_child c.args.i c.in-Not.child c.args.parent c.in-Not.is c.requires.children in
    let s = sum_after_add c.args.counts.now c.add-in-Not.new.counts c.args.i c.in-Not.child _ c.add-in-Not.ensures w.0 (omega arith) in
    let none = cond-false (is_binary c.args.parent) (slice_index c.args.counts.now c.args.i) 0 w.1 in
    omega arith

pub add-requires-in-And-clause-room : goal.add-requires-in-And-clause-room
add-requires-in-And-clause-room c =
    let w = two_children c.args.i c.in-And.left c.in-And.right c.args.parent c.in-And.is c.requires.children in
    let s = sum_after_add c.args.counts.now c.add.new.counts c.args.i c.in-And.left 1 c.add.ensures w.0 (omega arith) in
    let e = entry_within_sum c.add.new.counts c.args.i c.in-And.right w.1 (omega arith) in
    omega (arith, sum_take_next c.args.counts.now c.args.i (c.args.i + 1) (omega arith) c.requires.inside)

pub returns-in-And-clause-few : goal.returns-in-And-clause-few
returns-in-And-clause-few c =
    let w = two_children c.args.i c.in-And.left c.in-And.right c.args.parent c.in-And.is c.requires.children in
    let s = sum_after_add c.args.counts.now c.add.new.counts c.args.i c.in-And.left 1 c.add.ensures w.0 (omega arith) in
    let t = sum_after_add c.add.new.counts c.add-in-And.new.counts c.args.i c.in-And.right 1 c.add-in-And.ensures w.1 (omega arith) in
    omega (arith, cond_at_most (is_binary c.args.parent) (slice_index c.args.counts.now c.args.i))
