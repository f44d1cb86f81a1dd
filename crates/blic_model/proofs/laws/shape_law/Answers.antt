use Rattle.blic_model.proofs.Shaped.{size_of, ordered_of, in_range_of, distinct_of, child_of, closed_of}
use Rattle.blic_model.proofs.laws.shape_law.Goals as goal

pub returns : goal.returns
returns c = record {
  size = size_of;
  ordered = ordered_of;
  in_range = in_range_of;
  distinct = distinct_of;
  child = child_of;
  closed = closed_of;
}
