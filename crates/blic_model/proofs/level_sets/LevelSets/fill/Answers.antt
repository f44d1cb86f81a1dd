use Rattle.std.proofs.Common.{arith, ap, length}
use Rattle.std.proofs.lemmas.List.{length-set}
use Rattle.blic_model.specs.Circuit.{is_free}
use Rattle.blic_model.proofs.SetTables.{fill_step}
use Rattle.blic_model.proofs.level_sets.LevelSets.fill.Goals as goal

pub loop-k-preserved : goal.loop-k-preserved
loop-k-preserved c =
    let children = c.requires.nodes.children c.loop-k.k (omega arith) in
    record {
      long = omega (arith, ap length c.put.ensures, length-set c.loop-k.self c.loop-k.k c.free_set-set.result);
      filled =
          fill_step c.args.nodes.now c.args.first c.loop-k.k _ c.loop-k.self c.put.new.self c.free_set-set.result (omega arith) (omega arith) children c.loop-k.invariant.filled
          (c.free_set-set.ensures c.loop-k.k (is_free c.args.nodes.now) children c.loop-k.invariant.filled) c.put.ensures;
    }
