use Rattle.std.proofs.Common.{arith, ◌+◌, ◌*◌, ◌∙◌, sym, refl}
use Rattle.blic_model.specs.Circuit.{is_free}
use Rattle.blic_model.specs.CircuitTables.{points_at}
use Rattle.blic_model.specs.LevelSets.{levels_from}
use Rattle.blic_model.proofs.ChildEntries.{sum_below_none}
use Rattle.blic_model.proofs.LevelBits.{length_of_levels}
use Rattle.blic_model.proofs.PointCounts.{points_fit, next_binary, next_other}
use Rattle.blic_model.proofs.circuit_limits.count_within.Goals as goal
use Rattle.blic_model.proofs.circuit_limits.count_within.Goals.{then-is_binary, else-is_binary}

pub loop-k-init : goal.loop-k-init
loop-k-init c = sym (sum_below_none (points_at c.args.nodes.now (levels_from c.args.first 256)))

pub overflow_add-points : goal.overflow_add-points
overflow_add-points c =
    let k = c.loop-k.k in
    let levels = levels_from c.args.first 256 in
    let next = next_binary c.args.nodes.now c.args.counts.now levels k (k + 1) c.loop-k.points (c.loop-k.points + c.from.result * c.from-then-is_binary.result) c.from.result
    c.from-then-is_binary.result c.requires.claims (omega arith) refl (sym c.is_binary.ensures ∙ c.if-is_binary.true) c.loop-k.invariant c.from.ensures
    (c.from-then-is_binary.ensures ∙ c.len.ensures (is_free c.args.nodes.now k) c.args.first (c.get.ensures ∙ c.fill.ensures.each k (omega arith))) refl in
    omega (arith, next, points_fit c.args.nodes.now c.args.counts.now levels (k + 1) c.requires.claims c.requires.nodes.few (omega (arith, length_of_levels c.args.first 256)) (omega arith))

pub loop-k-preserved : goal.loop-k-preserved
loop-k-preserved c =
    let k = c.loop-k.k in
    let levels = levels_from c.args.first 256 in
    elim c.if-is_binary.branch [
      | then-is_binary w ↦
          w.points-is
          ∙ next_binary c.args.nodes.now c.args.counts.now levels k (k + 1) c.loop-k.points (c.loop-k.points + w.from.result * w.from-then-is_binary.result) w.from.result
          w.from-then-is_binary.result c.requires.claims (omega arith) refl (sym c.is_binary.ensures ∙ w.if-is_binary.true) c.loop-k.invariant w.from.ensures
          (w.from-then-is_binary.ensures ∙ w.len.ensures (is_free c.args.nodes.now k) c.args.first (w.get.ensures ∙ c.fill.ensures.each k (omega arith))) refl
      | else-is_binary w ↦
          w.points-is ∙ next_other c.args.nodes.now levels k (k + 1) c.loop-k.points refl (sym c.is_binary.ensures ∙ w.if-is_binary.false) c.loop-k.invariant
    ]
