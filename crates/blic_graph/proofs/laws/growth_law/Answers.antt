use Rattle.blic_graph.proofs.Kept.{graph_kept}
use Rattle.blic_graph.proofs.laws.growth_law.Goals as goal

pub returns : goal.returns
returns c = graph_kept
