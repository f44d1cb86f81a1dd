use Rattle.std.proofs.Common.{◌≡◌, map, take, vec_capacity}
use Rattle.blic_eval.specs.Packed.{number_in}
use Rattle.blic_eval.proofs.packed.unpack.Given as goal

-- the numbers of the first words are there
abbrev pub invariant-loop-word : goal.invariant-loop-word
invariant-loop-word l = record {
  numbers : l.numbers.items ≡ map number_in (take l.word-index l.words);
  capacity : vec_capacity l.numbers ≡ vec_capacity l.fn.numbers;
}
