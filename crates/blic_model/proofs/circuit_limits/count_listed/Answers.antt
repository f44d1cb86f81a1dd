use Rattle.std.proofs.Common.{arith, ◌≡◌, ◌+◌, ◌*◌, ◌∙◌, ap, sym, refl, length, sum_by}
use Rattle.blic_model.specs.Circuit.{below}
use Rattle.blic_model.specs.CircuitTables.{points_at}
use Rattle.blic_model.proofs.ChildEntries.{length_of_below, sum_below_none}
use Rattle.blic_model.proofs.FreeLists.{length_of_lists}
use Rattle.blic_model.proofs.PointCounts.{points_fit, next_binary, next_other, listed_len, points_is}
use Rattle.blic_model.proofs.circuit_limits.count_listed.Goals as goal
use Rattle.blic_model.proofs.circuit_limits.count_listed.Goals.{then-is_binary, else-is_binary}

pub loop-k-init : goal.loop-k-init
loop-k-init c = sym (sum_below_none (points_at c.args.nodes.now (below c.args.levels)))

pub len-requires : goal.len-requires
len-requires c = omega (arith, ap length c.requires.lists, length_of_lists c.args.nodes.now c.args.levels (length c.args.nodes.now))

pub overflow_mul-points : goal.overflow_mul-points
overflow_mul-points c =
    let k = c.loop-k.k in
    let levels = below c.args.levels in
    let next = next_binary c.args.nodes.now c.args.counts.now levels k (k + 1) c.loop-k.points (c.loop-k.points + c.from.result * c.len.result) c.from.result
    c.len.result c.requires.claims (omega arith) refl (sym c.is_binary.ensures ∙ c.if-is_binary.true) c.loop-k.invariant c.from.ensures
    (listed_len c.args.nodes.now c.args.levels k c.len.result c.args.lists.now c.requires.lists (omega arith) c.len.ensures) refl in
    omega (arith, next, points_fit c.args.nodes.now c.args.counts.now levels (k + 1) c.requires.claims c.requires.nodes.few (omega (arith, length_of_below c.args.levels, c.requires.levels.few)) (omega arith))

pub overflow_add-points : goal.overflow_add-points
overflow_add-points c =
    let k = c.loop-k.k in
    let levels = below c.args.levels in
    let next = next_binary c.args.nodes.now c.args.counts.now levels k (k + 1) c.loop-k.points (c.loop-k.points + c.from.result * c.len.result) c.from.result
    c.len.result c.requires.claims (omega arith) refl (sym c.is_binary.ensures ∙ c.if-is_binary.true) c.loop-k.invariant c.from.ensures
    (listed_len c.args.nodes.now c.args.levels k c.len.result c.args.lists.now c.requires.lists (omega arith) c.len.ensures) refl in
    omega (arith, next, points_fit c.args.nodes.now c.args.counts.now levels (k + 1) c.requires.claims c.requires.nodes.few (omega (arith, length_of_below c.args.levels, c.requires.levels.few)) (omega arith))

pub loop-k-preserved : goal.loop-k-preserved
loop-k-preserved c =
    let k = c.loop-k.k in
    let levels = below c.args.levels in
    elim c.if-is_binary.branch [
      | then-is_binary w ↦
          w.points-is
          ∙ next_binary c.args.nodes.now c.args.counts.now levels k (k + 1) c.loop-k.points (c.loop-k.points + w.from.result * w.len.result) w.from.result
          w.len.result c.requires.claims (omega arith) refl (sym c.is_binary.ensures ∙ w.if-is_binary.true) c.loop-k.invariant w.from.ensures
          (listed_len c.args.nodes.now c.args.levels k w.len.result c.args.lists.now c.requires.lists (omega arith) w.len.ensures) refl
      | else-is_binary w ↦
          w.points-is ∙ next_other c.args.nodes.now levels k (k + 1) c.loop-k.points refl (sym c.is_binary.ensures ∙ w.if-is_binary.false) c.loop-k.invariant
    ]

pub returns : goal.returns
returns c =
    let n : c.loop-k.k ≡ length c.args.nodes.now = omega arith in
    c.loop-k.invariant ∙ (ap (λ k. sum_by (points_at c.args.nodes.now (below c.args.levels)) (below k)) n ∙ sym (points_is c.args.nodes.now c.args.levels))
