use Rattle.blic_field.proofs.Ring.{add_below, mul_below, neg_below, add_comm, add_assoc, add_zero, add_neg, neg_one, add_halves, sub_is, mul_comm, mul_assoc, mul_one, mul_add}
use Rattle.blic_field.proofs.laws.ring_laws.Goals as goal

pub returns : goal.returns
returns c = record {
  sum_is_element = add_below;
  product_is_element = mul_below;
  negative_is_element = neg_below;
  add_comm = add_comm;
  add_assoc = add_assoc;
  zero = add_zero;
  negative = add_neg;
  minus_one = neg_one;
  half = add_halves;
  difference = sub_is;
  mul_comm = mul_comm;
  mul_assoc = mul_assoc;
  one = mul_one;
  distrib = mul_add;
}
