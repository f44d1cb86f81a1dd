use Rattle.std.proofs.Common.{◌<◌, sym, subst, inl, inr, ◌⊎◌}
use Rattle.blic_graph.specs.Pairs.{IsGraph}
use Rattle.blic_graph.proofs.Graphs.{graph_none}
use Rattle.blic_graph.proofs.lister.Lister.list.Goals.{then-is_const-via-then-is_const, then-is_const-via-else-is_const+then-is_const-2}
use Rattle.blic_graph.proofs.lister.Lister.list.Goals as goal

pub returns-then-is_const-clause-graph : goal.returns-then-is_const-clause-graph
returns-then-is_const-clause-graph c =
    let nodes = c.args.store.now.nodes in
    let const : (c.args.a < 2) ⊎ (c.args.b < 2) = elim c.then-is_const.branch [
      | then-is_const-via-then-is_const w ↦ inl (c.is_const.ensures.0 w.if-is_const.true)
      | then-is_const-via-else-is_const+then-is_const-2 w ↦ inr (w.is_const-else-is_const.ensures.0 w.if-is_const-2.true)
    ] in
    subst (IsGraph nodes c.args.a c.args.b) (sym c.none.ensures) (graph_none nodes c.canonical_law.ensures.canonical c.args.a c.args.b c.requires.a_held c.requires.b_held const)
