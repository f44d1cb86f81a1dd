use Rattle.std.proofs.Common.{◌≡◌, ◌<◌, ℕ, length, slice_index_or}
use Rattle.blic_eval.proofs.number_set.write_places.Given as goal

-- the first numbers have their places
abbrev pub invariant-loop-place : goal.invariant-loop-place
invariant-loop-place l = record {
  long : length l.places ≡ length l.fn.places;
  placed : (i : ℕ) → i < l.place → slice_index_or l.places (slice_index_or l.numbers i 0) 0 ≡ i;
}
