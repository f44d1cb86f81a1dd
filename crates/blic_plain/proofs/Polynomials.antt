-- The polynomials of parts, and a slice that is filled with those of the claims on a node.
use Rattle.std.proofs.Common.{arith, ℕ, suc, ◌≡◌, ◌+◌, ◌*◌, ◌<◌, refl, sym, ◌∙◌, ap, add-one, List, [], ◌∷◌, ◌++◌, length, get_or, take, set}
use Rattle.std.specs.Prelude.{map}
use mathlib.Core.Path.{ap₂}
use Rattle.std.proofs.lemmas.List.{take_more_set, map-append}
use Rattle.std.proofs.Math.Nat.{add-mul}
use Rattle.blic_field.specs.Field.{minus_one, half, add, mul, sub}
use Rattle.blic_field.specs.Quadratic.{Quadratic, interpolate}
use Rattle.blic_model.specs.declared.node.Node.{Node}
use Rattle.blic_model.specs.Circuit.{below, free}
use Rattle.blic_model.specs.Value.{Point, put}
use Rattle.blic_model.specs.Reduction.{part, poly}

-- the polynomial of a part, by its values at 0, 1 and -1
pub poly_is : (nodes : List Node) (levels k i x m : ℕ) (s : Point) (u w z : ℕ) (p : Quadratic) → x ≡ get_or (free nodes levels k) i 0 → m ≡ minus_one
    → u ≡ part nodes levels k i (put s x 0) → w ≡ part nodes levels k i (put s x 1) → z ≡ part nodes levels k i (put s x m)
    → p.c0 ≡ u → p.c1 ≡ mul half (sub w z) → p.c2 ≡ sub (mul half (add w z)) u → p ≡ poly nodes levels k i s
unfolding poly interpolate
poly_is nodes levels k i x m s u w z p ex em eu ew ez e0 e1 e2 =
    let y = get_or (free nodes levels k) i 0 in
    let f = λ (t : ℕ). part nodes levels k i (put s y t) in
    let at_zero : u ≡ f 0 = eu ∙ ap (λ y. part nodes levels k i (put s y 0)) ex in
    let at_one : w ≡ f 1 = ew ∙ ap (λ y. part nodes levels k i (put s y 1)) ex in
    let at_last : z ≡ f minus_one = ez ∙ ap₂ (λ y t. part nodes levels k i (put s y t)) ex em in
    let c0 : p.c0 ≡ f 0 = e0 ∙ at_zero in
    let c1 : p.c1 ≡ mul half (sub (f 1) (f minus_one)) = e1 ∙ ap₂ (λ a b. mul half (sub a b)) at_one at_last in
    let c2 : p.c2 ≡ sub (mul half (add (f 1) (f minus_one))) (f 0) = e2 ∙ ap₂ sub (ap₂ (λ a b. mul half (add a b)) at_one at_last) at_zero in
    λ i. record { c0 = c0 i; c1 = c1 i; c2 = c2 i }

pub below_none : below 0 ≡ []
unfolding below
below_none = refl

below_more : (n : ℕ) → below (suc n) ≡ below n ++ n ∷ []
unfolding below
below_more n = refl

-- one entry more
pub filled_more : {X : Type 0} (f : ℕ → X) (xs : List X) (i : ℕ) (y : X) → i < length xs → take i xs ≡ map f (below i) → y ≡ f i
    → take (i + 1) (set xs i y) ≡ map f (below (i + 1))
filled_more f xs i y l h e =
    take_more_set xs i y l
    ∙ (ap₂ (λ a b. a ++ b ∷ []) h e
    ∙ (sym (map-append f (below i) (i ∷ [])) ∙ (ap (map f) (sym (below_more i)) ∙ ap (λ n. map f (below n)) (sym (add-one i)))))

pub count_more : (i m : ℕ) → (i + 1) * m ≡ i * m + m
count_more i m = add-mul i 1 m ∙ omega arith
