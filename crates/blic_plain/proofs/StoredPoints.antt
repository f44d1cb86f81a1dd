-- The element of a stored point at a level.
use Rattle.std.proofs.Common.{arith, ℕ, zero, suc, ◌≡◌, ◌<◌, refl, sym, ◌∙◌, List, [], ◌∷◌, length, get_or, eqb}
use Rattle.std.specs.Prelude.{map}
use Rattle.std.proofs.lemmas.Bool.{eq-eqb, ne_eqb, cond-true, cond-false}
use Rattle.blic_model.specs.Circuit.{OrderedCircuit, below, free}
use Rattle.blic_claims.specs.Points.{PointTable, coordinate, point_of, stored_point}
use Rattle.blic_claims.proofs.BelowSums.{length_map_below, entry_map_below}

-- none of the first n levels of the list is this one
abbrev pub IsNoneOf : List ℕ → ℕ → ℕ → Type 0
IsNoneOf levels n level = (i : ℕ) → i < n → get_or levels i 0 ≡ level → ⊥

point_here : (xs es : List ℕ) (y j : ℕ) → length es ≡ length xs → j < length xs → IsNoneOf xs j y → get_or xs j 0 ≡ y
    → point_of xs es y ≡ get_or es j 0
point_here [] es y j n l h q = absurd (omega arith)
point_here (x ∷ xs) [] y j n l h q = absurd (omega arith)
point_here (x ∷ xs) (e ∷ es) y zero n l h q = cond-true (eqb y x) e (point_of xs es y) (eq-eqb y x (sym q))
point_here (x ∷ xs) (e ∷ es) y (suc j) n l h q =
    cond-false (eqb y x) e (point_of xs es y) (ne_eqb y x (λ w. h 0 (omega arith) (sym w)))
    ∙ point_here xs es y j (omega arith) (omega arith) (λ i m. h (suc i) (omega arith)) q

point_elsewhere : (xs es : List ℕ) (y : ℕ) → IsNoneOf xs (length xs) y → point_of xs es y ≡ 0
point_elsewhere [] es y h = refl
point_elsewhere (x ∷ xs) [] y h = refl
point_elsewhere (x ∷ xs) (e ∷ es) y h =
    cond-false (eqb y x) e (point_of xs es y) (ne_eqb y x (λ w. h 0 (omega arith) (sym w)))
    ∙ point_elsewhere xs es y (λ i l. h (suc i) (omega arith))

-- at a free level of the node, where it first stands
pub stored_here : (c : OrderedCircuit) (p : PointTable) (k a y j : ℕ) → j < length (free c.nodes (length c.order) k)
    → IsNoneOf (free c.nodes (length c.order) k) j y → get_or (free c.nodes (length c.order) k) j 0 ≡ y → coordinate p k a j ≡ stored_point c p k a y
unfolding stored_point
stored_here c p k a y j l h q =
    let xs = free c.nodes (length c.order) k in
    let es = map (coordinate p k a) (below (length xs)) in
    sym (point_here xs es y j (length_map_below (coordinate p k a) (length xs)) l h q ∙ entry_map_below (coordinate p k a) (length xs) j 0 l)

-- at another level
pub stored_elsewhere : (c : OrderedCircuit) (p : PointTable) (k a y : ℕ)
    → IsNoneOf (free c.nodes (length c.order) k) (length (free c.nodes (length c.order) k)) y → 0 ≡ stored_point c p k a y
unfolding stored_point
stored_elsewhere c p k a y h =
    let xs = free c.nodes (length c.order) k in sym (point_elsewhere xs (map (coordinate p k a) (below (length xs))) y h)
