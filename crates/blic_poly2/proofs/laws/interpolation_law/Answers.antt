use Rattle.blic_field.proofs.Interpolation.{at-interpolate, HasElements-interpolate, interpolate-at, interpolate_unique}
use Rattle.blic_poly2.proofs.LinearValues.{lin_unique}
use Rattle.blic_poly2.proofs.laws.interpolation_law.Goals as goal

pub returns : goal.returns
returns c = record {
  back = interpolate-at;
  elements = HasElements-interpolate;
  values = at-interpolate;
  unique = interpolate_unique;
  linear_unique = lin_unique;
}
