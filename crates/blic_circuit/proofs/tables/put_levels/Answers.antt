use Rattle.std.proofs.Common.{arith, ◌-◌, ◌∙◌, ◌<◌, length}
use Rattle.std.proofs.lemmas.List.{length-set}
use Rattle.blic_model.specs.declared.prefix.Quant.TheVariants.{Exists}
use Rattle.blic_model.specs.declared.prefix.Bound.{Bound}
use Rattle.blic_circuit.proofs.Bounds.{var_in_range}
use Rattle.blic_circuit.proofs.Levels.{level_put, level_behind_all}
use Rattle.blic_circuit.proofs.tables.put_levels.Goals as goal

pub loop-i-init : goal.loop-i-init
loop-i-init c = record {
  inside = omega arith;
  table = c.requires.table;
  known = λ v. c.requires.clean v ∙ omega (arith, level_behind_all c.args.prefix.now v);
}

pub loop-i-preserved : goal.loop-i-preserved
loop-i-preserved c =
    let d : Bound = record { quant = Exists; var = 0 } in
    let inside : c.loop-i.i - 1 < length c.args.prefix.now = omega arith in
    record {
      inside = omega arith;
      table = simp length-set c.loop-i.invariant.table;
      known = λ v. level_put c.args.prefix.now c.loop-i.levels c.loop-i.i (c.loop-i.i - 1) (length c.args.prefix.now) v d (omega arith) inside
          (omega (arith, var_in_range c.args.vars c.args.prefix.now (c.loop-i.i - 1) d c.requires.in_range inside, c.loop-i.invariant.table))
          (c.loop-i.invariant.known v);
    }
