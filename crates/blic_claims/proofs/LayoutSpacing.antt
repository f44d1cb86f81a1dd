-- The rows of a layout follow each other, and so do the places of their values.
use Rattle.std.proofs.Common.{arith, ℕ, zero, suc, ◌≡◌, ◌+◌, ◌*◌, refl, sym, ◌∙◌, ap, subst, inl, inr, List, [], ◌∷◌, ◌++◌, length, get_or, Bool, true, ◌==◌, ◌&&◌}
use Rattle.std.specs.Prelude.{IsTrue, sum_by}
use Rattle.std.proofs.lemmas.Bool.{cases_eq, eq-eqb, eqb-true, false≢true}
use Rattle.blic_model.specs.declared.node.Node.{Node}
use Rattle.blic_model.specs.Circuit.{OrderedCircuit, root, below, free}
use Rattle.blic_model.specs.Counts.{claims}
use Rattle.blic_model.specs.Shape.{IsShaped}
use Rattle.blic_model.proofs.Shaped.{size_of, closed_of}
use Rattle.blic_model.proofs.ChildEntries.{sum_below_more}
use Rattle.blic_claims.specs.Places.{layout_of, row_of, row_at}
use Rattle.blic_claims.specs.Counters.{rows_below}
use Rattle.blic_claims.specs.Elements.{spaced}
use Rattle.blic_claims.specs.declared.layout.Row.{Row}
use Rattle.blic_claims.proofs.BelowSums.{map_below_more}
use Rattle.blic_claims.proofs.FreeLevels.{free_passing}
use Rattle.blic_claims.proofs.LayoutRows.{row_is_of}

both : (a b : Bool) → a ≡ true → b ≡ true → (a && b) ≡ true
both a b e f = grind arith

parts : (a b : Bool) → (a && b) ≡ true → (a ≡ true) × (b ≡ true)
parts a b e = grind arith

-- a row more, at the end
spaced_push : (at : ℕ) (rows : List Row) (m end : ℕ) (r : Row) → IsTrue (spaced at rows m) → r.start ≡ m → m + r.claims * r.width ≡ end
    → IsTrue (spaced at (rows ++ r ∷ []) end)
spaced_push at [] m end r s e f =
    let same = eqb-true at m s in
    both (r.start == at) (at + r.claims * r.width == end) (eq-eqb r.start at (omega arith)) (eq-eqb (at + r.claims * r.width) end (omega arith))
spaced_push at (q ∷ rows) m end r s e f =
    let w = parts (q.start == at) (spaced (at + q.claims * q.width) rows m) s in
    both (q.start == at) (spaced (at + q.claims * q.width) (rows ++ r ∷ []) end) w.0 (spaced_push (at + q.claims * q.width) rows m end r w.1 e f)

-- the coordinates of the nodes below n
abbrev pub coordinates_below : List Node → ℕ → ℕ → ℕ
coordinates_below nodes levels n = sum_by (λ j. claims nodes j * length (free nodes levels j)) (below n)

rows_spaced : (nodes : List Node) (levels n : ℕ) → IsTrue (spaced 0 (rows_below nodes levels n) (coordinates_below nodes levels n))
unfolding below row_of
rows_spaced nodes levels zero = refl
rows_spaced nodes levels (suc n) =
    subst (λ rows. IsTrue (spaced 0 rows (coordinates_below nodes levels (suc n)))) (sym (map_below_more (row_of nodes levels) n))
    (spaced_push 0 (rows_below nodes levels n) (coordinates_below nodes levels n) (coordinates_below nodes levels (suc n)) (row_of nodes levels n)
    (rows_spaced nodes levels n) refl (sym (sum_below_more (λ j. claims nodes j * length (free nodes levels j)) n)))

-- the root depends on no level
root_is_closed : (nodes : List Node) (levels : ℕ) → IsShaped nodes levels → length (free nodes levels (root nodes)) ≡ 0
root_is_closed nodes levels shaped = elim (cases_eq (length (free nodes levels (root nodes))) 0) [
  | inl e ↦ e
  | inr ne ↦
      let w = free_passing nodes levels (root nodes) 0 (omega arith) in
      absurd (false≢true (sym (closed_of nodes levels shaped (get_or (free nodes levels (root nodes)) 0 0) w.0) ∙ w.1))
]

coordinates_of_root : (nodes : List Node) (levels : ℕ) → IsShaped nodes levels → coordinates_below nodes levels (length nodes) ≡ coordinates_below nodes levels (root nodes)
coordinates_of_root nodes levels shaped =
    let size = (size_of nodes levels shaped).0 in
    let last : length nodes ≡ suc (root nodes) = omega arith in
    let none : claims nodes (root nodes) * length (free nodes levels (root nodes)) ≡ claims nodes (root nodes) * 0 =
    ap (λ w. claims nodes (root nodes) * w) (root_is_closed nodes levels shaped) in
    ap (coordinates_below nodes levels) last ∙ (sum_below_more (λ j. claims nodes j * length (free nodes levels j)) (root nodes) ∙ omega arith)

-- the root's row starts where the elements end
pub layout_spaced : (c : OrderedCircuit) → IsShaped c.nodes (length c.order) → IsTrue (spaced 0 (layout_of c).rows (row_at (layout_of c).rows (root c.nodes)).start)
unfolding layout_of row_of
layout_spaced c shaped =
    let size = (size_of c.nodes (length c.order) shaped).0 in
    subst (λ end. IsTrue (spaced 0 (rows_below c.nodes (length c.order) (length c.nodes)) end))
    (coordinates_of_root c.nodes (length c.order) shaped ∙ sym (ap (λ r. r.start) (row_is_of c (root c.nodes) (omega arith))))
    (rows_spaced c.nodes (length c.order) (length c.nodes))
