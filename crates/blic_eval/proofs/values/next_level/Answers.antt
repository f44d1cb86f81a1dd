use Rattle.std.proofs.Common.{arith, ap, ◌∙◌, get_or}
use Rattle.blic_store.specs.Diagram.{level_of}
use Rattle.blic_eval.proofs.Sorting.{level_of-decision}
use Rattle.blic_eval.proofs.values.next_level.Goals as goal

pub returns-clause-some : goal.returns-clause-some
returns-clause-some c =
    let nodes = c.args.store.now.nodes in
    let k = get_or c.args.reached.now c.args.n 0 in (
      omega arith,
      c.level.ensures ∙ (ap (level_of nodes) c.numbered.ensures ∙ level_of-decision nodes k),
    )
