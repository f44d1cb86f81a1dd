-- Replies that fit their turns.
use Rattle.std.proofs.Common.{arith, ℕ, suc, ◌≡◌, ◌<◌, sym, ◌∙◌, ap, subst, List, [], ◌∷◌, ◌++◌, length, get_or, take}
use Rattle.std.specs.List.{AllZip}
use Rattle.std.proofs.Math.Seq.{take-suc}
use Rattle.std.proofs.lemmas.List.{length_push}
use Rattle.blic_model.specs.declared.node.Node.{Node}
use Rattle.blic_claims.specs.Turns.{Turn, ForValues, Reply, turns, Fits, AllFit}

zip_push : {A B : Type 0} (R : A → B → Type 0) (xs : List A) (ys : List B) (x : A) (y : B) → AllZip R xs ys → R x y → AllZip R (xs ++ x ∷ []) (ys ++ y ∷ [])
zip_push R [] [] x y h r = (r, h)
zip_push R [] (b ∷ ys) x y h r = absurd h
zip_push R (a ∷ xs) [] x y h r = absurd h
zip_push R (a ∷ xs) (b ∷ ys) x y h r = (h.0, zip_push R xs ys x y h.1 r)

-- one more reply that fits
pub fits_more : (nodes : List Node) (levels : ℕ) (replies : List Reply) (t : Turn) (r : Reply) → AllFit nodes levels replies
    → length replies < length (turns nodes levels) → get_or (turns nodes levels) (length replies) (ForValues 0) ≡ t → Fits nodes t r
    → AllFit nodes levels (replies ++ r ∷ [])
fits_more nodes levels replies t r h l e f =
    let n : length (replies ++ r ∷ []) ≡ suc (length replies) = omega (arith, length_push replies r) in
    subst (λ z. AllZip (Fits nodes) z (replies ++ r ∷ []))
    (sym (ap (λ z. take z (turns nodes levels)) n ∙ (take-suc (turns nodes levels) (length replies) (ForValues 0) l ∙ ap (λ z. take (length replies) (turns nodes levels) ++ z ∷ []) e)))
    (zip_push (Fits nodes) (take (length replies) (turns nodes levels)) replies t r h f)
