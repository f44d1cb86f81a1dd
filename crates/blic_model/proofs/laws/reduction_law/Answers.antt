use Rattle.blic_model.proofs.Ordered.{ordered_all}
use Rattle.blic_model.proofs.LinearValues.{value_linear}
use Rattle.blic_model.proofs.Reduced.{part_quadratic, at-poly, HasElements-poly, poly_unique, part_none, part_more, part_all, reduced_linear}
use Rattle.blic_model.proofs.laws.reduction_law.Goals as goal

pub returns : goal.returns
returns c = record {
  first = part_none;
  next = part_more;
  last = λ nodes levels o. part_all nodes levels (ordered_all nodes o);
  value_is_linear = λ nodes levels o k x l. value_linear nodes levels (ordered_all nodes o) x l k;
  part_is_quadratic = λ nodes levels o. part_quadratic nodes levels (ordered_all nodes o);
  reduced_is_linear = reduced_linear;
  polynomial = λ nodes levels o. at-poly nodes levels (ordered_all nodes o);
  coefficients = HasElements-poly;
  unique = λ nodes levels o. poly_unique nodes levels (ordered_all nodes o);
}
