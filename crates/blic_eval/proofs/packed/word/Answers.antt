use Rattle.std.proofs.Common.{arith, ap, ◌∙◌}
use Rattle.blic_store.specs.Diagram.{level_of}
use Rattle.blic_eval.proofs.Packing.{word_of-def}
use Rattle.blic_eval.proofs.Sorting.{level_of-decision}
use Rattle.blic_eval.proofs.packed.word.Goals as goal

pub returns : goal.returns
returns c =
    let nodes = c.args.store.now.nodes in
    let k = c.args.k in
    let level = c.level-level.ensures ∙ (ap (level_of nodes) c.numbered.ensures ∙ level_of-decision nodes k) in
    let high = c.from.ensures in
    let low = c.from-2.ensures in
    let def = word_of-def nodes k in
    omega arith
