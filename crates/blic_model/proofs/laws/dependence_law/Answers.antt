use Rattle.blic_model.proofs.Ordered.{ordered_all}
use Rattle.blic_model.proofs.Values.{value_below}
use Rattle.blic_model.proofs.Depends.{value_depends, part_depends}
use Rattle.blic_model.proofs.laws.dependence_law.Goals as goal

pub returns : goal.returns
returns c = record {
  value = λ nodes levels o. value_depends nodes levels (ordered_all nodes o);
  part = λ nodes levels o. part_depends nodes levels (ordered_all nodes o);
  element = λ nodes levels o. value_below nodes levels (ordered_all nodes o);
}
