use Rattle.blic_model.proofs.Ordered.{ordered_all}
use Rattle.blic_model.proofs.BitPoints.{value_holds}
use Rattle.blic_model.proofs.laws.boolean_value_law.Goals as goal

pub returns : goal.returns
returns c nodes levels o = value_holds nodes levels (ordered_all nodes o)
