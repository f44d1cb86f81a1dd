use Rattle.std.proofs.Common.{◌∙◌, ◌++◌, ◌%◌, ◌∷◌, [], ap, sym, map, take, get_or}
use Rattle.std.proofs.lemmas.List.{map_more}
use Rattle.blic_eval.specs.Packed.{number_in}
use Rattle.blic_eval.proofs.Packing.{number_in-def}
use Rattle.blic_eval.proofs.packed.unpack.Goals as goal

pub loop-word-preserved : goal.loop-word-preserved
loop-word-preserved c =
    let words = c.args.words.now in
    let i = c.loop-word.word-index in
    record {
      numbers = c.push_reserved.ensures.items
          ∙ (ap (λ z. z ++ (get_or words i 0 % 4294967296) ∷ []) c.loop-word.invariant.numbers
          ∙ (ap (λ z. map number_in (take i words) ++ z ∷ []) (sym (number_in-def (get_or words i 0)))
          ∙ sym (map_more number_in words i 0 c.loop-word-test.true)));
      capacity = c.push_reserved.ensures.capacity ∙ c.loop-word.invariant.capacity;
    }
