use Rattle.std.proofs.Common.{◌≡◌, map, take, vec_capacity}
use Rattle.blic_eval.specs.Packed.{word_of}
use Rattle.blic_eval.proofs.packed.pack.Given as goal

-- the words of the first decisions are there
abbrev pub invariant-loop-k : goal.invariant-loop-k
invariant-loop-k l = record {
  words : l.words.items ≡ map (word_of l.store.nodes) (take l.k-index l.numbers);
  capacity : vec_capacity l.words ≡ vec_capacity l.fn.words;
}
