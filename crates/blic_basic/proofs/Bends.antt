-- Bends, one after another.
use Rattle.std.proofs.Common.{◌≡◌, ℕ, suc, ◌+◌, ◌<◌, List, [], ◌∷◌, take, length, get_or, ◌∙◌, ap, arith}
use Rattle.std.proofs.Math.Seq.{take-suc}
use Rattle.std.proofs.lemmas.List.Sums.{fold-append}
use Rattle.blic_basic.specs.declared.bend_watch.Bend.{Bend}
use Rattle.blic_basic.specs.Watching.{bent, bent_once}

-- one bend more
pub bent_more : (bends : List Bend) (i reply : ℕ) (b : Bend) (frame : List ℕ) → i < length bends
    → bent (take (i + 1) bends) reply frame ≡ bent_once reply (bent (take i bends) reply frame) (get_or bends i b)
unfolding bent
bent_more bends i reply b frame inside =
    let next : i + 1 ≡ suc i = omega arith in
    ap (λ n. bent (take n bends) reply frame) next ∙ ap (λ bs. bent bs reply frame) (take-suc bends i b inside) ∙ fold-append (bent_once reply) frame (take i bends) (get_or bends i b ∷ [])
