-- A front in two parts.
use Rattle.std.proofs.Common.{arith, ℕ, ◌≡◌, ◌+◌, sym, ◌∙◌, ap, List, ◌++◌, length, take, drop}
use mathlib.Core.Path.{ap₂}
use Rattle.std.proofs.Math.Seq.{take-add}
use Rattle.std.proofs.lemmas.List.{take-take, drop-take, take_at, drop_at}

pub two_parts : (n m : ℕ) (xs A B : List ℕ) → take n xs ≡ A → take m (drop n xs) ≡ B → take (n + m) xs ≡ A ++ B
two_parts n m xs A B p q = take-add n m xs ∙ ap₂ (λ ys zs. ys ++ zs) p q

pub first_part : (n m : ℕ) (xs A B : List ℕ) → length A ≡ n → take (n + m) xs ≡ A ++ B → take n xs ≡ A
first_part n m xs A B l e = sym (take-take n (n + m) xs (omega arith)) ∙ (ap (take n) e ∙ take_at A B n l)

pub second_part : (n m : ℕ) (xs A B : List ℕ) → length A ≡ n → take (n + m) xs ≡ A ++ B → take m (drop n xs) ≡ B
second_part n m xs A B l e = sym (drop-take n m xs) ∙ (ap (drop n) e ∙ drop_at A B n l)
