use Rattle.std.proofs.Common.{arith, ◌-◌, ◌∙◌, get_or, ap, List}
use Rattle.blic_model.specs.declared.prefix.Quant.TheVariants.{Exists}
use Rattle.blic_model.specs.declared.prefix.Bound.{Bound}
use Rattle.blic_model.specs.Building.{add_level}
use Rattle.blic_circuit.proofs.Literals.{added}
use Rattle.blic_circuit.proofs.Levels.{levels_start, levels_more}
use Rattle.blic_circuit.proofs.building.add_levels.Goals as goal

pub loop-level-init : goal.loop-level-init
loop-level-init c = record {
  inside = omega (arith, c.level_count-level.ensures.count);
  so_far = levels_start c.args.formula.now.prefix c.args.formula.now.clauses (added c.args.list.now c.args.matrix) c.level_count-level.result c.level_count-level.result
      (omega (arith, c.level_count-level.ensures.count));
  few = omega (arith, c.level_count-level.ensures.count);
}

pub loop-level-preserved : goal.loop-level-preserved
loop-level-preserved c =
    let d : Bound = record { quant = Exists; var = 0 } in
    let j = c.loop-level.level - 1 in
    record {
      inside = omega arith;
      so_far = levels_more c.args.formula.now.prefix c.args.formula.now.clauses (added c.args.list.now c.args.matrix)
          (added c.loop-level.list c.loop-level.number) (added c.add_level.new.list c.in_ok-number.number) c.loop-level.level (c.loop-level.level - 1) d
          (omega arith) (omega arith) c.loop-level.invariant.so_far
          (c.in_ok-number.ensures.nodes ∙ ap (λ (xs : List Bound). add_level (c.loop-level.level - 1) (get_or xs (c.loop-level.level - 1) d) c.args.formula.now.clauses (added c.loop-level.list c.loop-level.number)) c.prefix-prefix.ensures);
      few = omega (arith, c.in_ok-number.ensures.grown);
    }
