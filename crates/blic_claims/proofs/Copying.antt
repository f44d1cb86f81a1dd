-- A point copied to a child, one level after another.
use Rattle.std.proofs.Common.{arith, ℕ, zero, suc, ◌≡◌, ◌+◌, ◌<◌, ◌≤◌, refl, sym, ◌∙◌, ap, subst, ◌⊎◌, inl, inr, List, [], ◌∷◌, length, get_or, Bool, true, false, cond, ◌==◌, Option, Some, None, get_or-set_same, get_or-set_other}
use Rattle.std.specs.Prelude.{slice_set, map}
use Rattle.std.proofs.lemmas.List.{length-set}
use Rattle.std.proofs.lemmas.Bool.{cases_eq, cases_lt, eq-eqb, ne_eqb, cond-true, cond-false}
use Rattle.blic_model.specs.Circuit.{below}
use Rattle.blic_model.specs.Value.{Point, bit}
use Rattle.blic_claims.specs.Points.{point_of}
use Rattle.blic_claims.specs.Elements.{point_from, fixed_bit, fixed_point, StandsFrom}
use Rattle.blic_claims.specs.declared.elements.Fixed.{Fixed}
use Rattle.blic_claims.proofs.BelowSums.{length_map_below, entry_map_below}
use Rattle.blic_claims.proofs.FreeLevels.{Rising}

-- the element of a level that stands in no place before
entry_of_point : (levels es : List ℕ) (i y : ℕ) → i < length levels → length es ≡ length levels → get_or levels i 0 ≡ y
    → ((q : ℕ) → q < i → get_or levels q 0 ≡ y → ⊥) → point_of levels es y ≡ get_or es i 0
entry_of_point [] es i y l n e h = absurd (omega arith)
entry_of_point (x ∷ xs) [] i y l n e h = absurd (omega arith)
entry_of_point (x ∷ xs) (z ∷ zs) zero y l n e h = cond-true (y == x) z (point_of xs zs y) (eq-eqb y x (sym e))
entry_of_point (x ∷ xs) (z ∷ zs) (suc i) y l n e h =
    cond-false (y == x) z (point_of xs zs y) (ne_eqb y x (λ q. h 0 (omega arith) (sym q)))
    ∙ entry_of_point xs zs i y (omega arith) (omega arith) e (λ q m. h (suc q) (omega arith))

-- where the levels rise, the point has the elements of the list at them
pub point_at_entry : (levels : List ℕ) (f : ℕ → ℕ) (i : ℕ) → Rising levels → i < length levels → point_of levels (map f (below (length levels))) (get_or levels i 0) ≡ f i
point_at_entry levels f i r l =
    entry_of_point levels (map f (below (length levels))) i (get_or levels i 0) l (length_map_below f (length levels)) refl
    (λ q m e. (let u = r q i m l in omega arith))
    ∙ entry_map_below f (length levels) i 0 l

fixed_here : (fixed : Option Fixed) (s : Point) (y : ℕ) (b : Bool) → fixed_bit fixed y ≡ Some b → fixed_point fixed s y ≡ bit b
fixed_here None s y b e = absurd (cc e)
fixed_here (Some f) s y b e = go (y == f.level) refl e
  where
    go : (t : Bool) → (y == f.level) ≡ t → cond t (Some f.bit) None ≡ Some b → cond t (bit f.bit) (s y) ≡ bit b
    go true q e = ap bit (some_injective f.bit b e)
      where
        some_injective : (a b : Bool) → Some a ≡ Some b → a ≡ b
        some_injective a b e = cc
    go false q e = absurd (cc e)

fixed_elsewhere : (fixed : Option Fixed) (s : Point) (y : ℕ) → fixed_bit fixed y ≡ None → fixed_point fixed s y ≡ s y
fixed_elsewhere None s y e = refl
fixed_elsewhere (Some f) s y e = go (y == f.level) e
  where
    go : (t : Bool) → cond t (Some f.bit) None ≡ None → cond t (bit f.bit) (s y) ≡ s y
    go true e = absurd (cc e)
    go false e = refl

-- the elements at the first i levels are written, and the levels behind stand in the first list from j on
pub record IsCopiedTo (from : List ℕ) (source : ℕ) (levels : List ℕ) (target : ℕ) (fixed : Option Fixed) (old : List ℕ) (i j : ℕ) (new : List ℕ) : Type 0 where
  pub long : length new ≡ length old
  pub written : (q : ℕ) → q < i → get_or new (target + q) 0 ≡ fixed_point fixed (point_from from source old) (get_or levels q 0)
  pub kept : (q : ℕ) → (q < target) ⊎ (target + i ≤ q) → get_or new q 0 ≡ get_or old q 0
  pub ahead : (q : ℕ) → i ≤ q → q < length levels → fixed_bit fixed (get_or levels q 0) ≡ None → StandsFrom j from (get_or levels q 0)

-- an element more
write : (from : List ℕ) (source : ℕ) (levels : List ℕ) (target : ℕ) (fixed : Option Fixed) (old new : List ℕ) (i j k n e : ℕ) → n ≡ i + 1
    → IsCopiedTo from source levels target fixed old i j new → target + i < length old
    → e ≡ fixed_point fixed (point_from from source old) (get_or levels i 0)
    → ((q : ℕ) → n ≤ q → q < length levels → fixed_bit fixed (get_or levels q 0) ≡ None → StandsFrom k from (get_or levels q 0))
    → IsCopiedTo from source levels target fixed old n k (slice_set new (target + i) e)
write from source levels target fixed old new i j k n e en c l w ahead = record {
  long = length-set new (target + i) e ∙ c.long;
  written = λ q m. elim (cases_eq q i) [
    | inl s ↦
        ap (λ z. get_or (slice_set new (target + i) e) (target + z) 0) s
        ∙ (get_or-set_same new (target + i) e 0 (let u = c.long in omega arith)
        ∙ (w ∙ ap (λ z. fixed_point fixed (point_from from source old) (get_or levels z 0)) (sym s)))
    | inr ne ↦
        get_or-set_other new (target + i) (target + q) e 0 (λ s. ne (omega arith)) ∙ c.written q (omega arith)
  ];
  kept = λ q h. get_or-set_other new (target + i) q e 0 (outside q h) ∙ c.kept q (wider q h);
  ahead = ahead;
}
  where
    outside : (q : ℕ) → (q < target) ⊎ (target + n ≤ q) → q ≡ target + i → ⊥
    outside q (inl h) s = omega arith
    outside q (inr h) s = omega arith

    wider : (q : ℕ) → (q < target) ⊎ (target + n ≤ q) → (q < target) ⊎ (target + i ≤ q)
    wider q (inl h) = inl h
    wider q (inr h) = inr (omega arith)

pub write_fixed : (from : List ℕ) (source : ℕ) (levels : List ℕ) (target : ℕ) (fixed : Option Fixed) (old new : List ℕ) (i j k n y e : ℕ) (b : Bool) → n ≡ i + 1
    → IsCopiedTo from source levels target fixed old i j new → target + i < length old → y ≡ get_or levels i 0 → Some b ≡ fixed_bit fixed y → e ≡ bit b → k ≡ j
    → IsCopiedTo from source levels target fixed old n k (slice_set new (target + i) e)
write_fixed from source levels target fixed old new i j k n y e b en c l ey eb ee ek =
    write from source levels target fixed old new i j k n e en c l
    (ee ∙ sym (fixed_here fixed (point_from from source old) (get_or levels i 0) b (ap (fixed_bit fixed) (sym ey) ∙ sym eb)))
    (λ q m u none. subst (λ z. StandsFrom z from (get_or levels q 0)) (sym ek) (c.ahead q (omega arith) u none))

pub write_copied : (from : List ℕ) (source : ℕ) (levels : List ℕ) (target : ℕ) (fixed : Option Fixed) (old new : List ℕ) (i j k n y e : ℕ) → n ≡ i + 1
    → Rising from → Rising levels → (source + length from ≤ target) ⊎ (target + length levels ≤ source)
    → IsCopiedTo from source levels target fixed old i j new → target + i < length old → i < length levels → y ≡ get_or levels i 0 → None ≡ fixed_bit fixed y
    → k < length from → get_or from k 0 ≡ y → e ≡ get_or new (source + k) 0
    → IsCopiedTo from source levels target fixed old n k (slice_set new (target + i) e)
write_copied from source levels target fixed old new i j k n y e en rf rl apart c l li ey eb lk ek ee =
    write from source levels target fixed old new i j k n e en c l is_element behind
  where
    away : (source + length from ≤ target) ⊎ (target + length levels ≤ source) → (source + k < target) ⊎ (target + i ≤ source + k)
    away (inl h) = inl (omega arith)
    away (inr h) = inr (omega arith)

    is_element : e ≡ fixed_point fixed (point_from from source old) (get_or levels i 0)
    is_element =
        ee
        ∙ (c.kept (source + k) (away apart)
        ∙ (sym (point_at_entry from (λ j. get_or old (source + j) 0) k rf lk)
        ∙ (ap (point_from from source old) (ek ∙ ey)
        ∙ sym (fixed_elsewhere fixed (point_from from source old) (get_or levels i 0) (ap (fixed_bit fixed) (sym ey) ∙ sym eb)))))

    behind : (q : ℕ) → n ≤ q → q < length levels → fixed_bit fixed (get_or levels q 0) ≡ None → StandsFrom k from (get_or levels q 0)
    behind q m u none =
        let w = c.ahead q (omega arith) u none in
        let higher = rl i q (omega arith) u in
        (w.0, later w.0 w.2 w.3 higher, w.2, w.3)
      where
        later : (m : ℕ) → m < length from → get_or from m 0 ≡ get_or levels q 0 → get_or levels i 0 < get_or levels q 0 → k ≤ m
        later m lm em h = elim (cases_lt m k) [
          | inl s ↦ (let lower = rf m k s lk in absurd (omega arith))
          | inr s ↦ s
        ]
