-- A free level that is set in every claim on a node.
use Rattle.std.proofs.Common.{arith, ℕ, zero, suc, ◌≡◌, ◌+◌, ◌*◌, ◌<◌, refl, sym, ◌∙◌, ap, subst, inl, inr, List, length, get_or, ◌==◌, ◌&&◌, get_or-set_same, get_or-set_other}
use Rattle.std.specs.Prelude.{IsTrue}
use Rattle.std.proofs.lemmas.List.{length-set}
use Rattle.std.proofs.lemmas.Bool.{cases_eq, eq-eqb, ne_eqb, and_from, and_left, and_right, cond-true, cond-false}
use Rattle.blic_claims.specs.Places.{row_at}
use Rattle.blic_claims.specs.Points.{PointTable, element_place, Draws}
use Rattle.blic_claims.specs.Elements.{spaced, column}
use Rattle.blic_claims.specs.declared.layout.Row.{Row}
use Rattle.blic_claims.proofs.Spacing.{times_more, place_room, place_only, row_is, ReadsRow}

pub length-column : (start w j r n : ℕ) (xs : List ℕ) → length (column start w j r n xs) ≡ length xs
length-column start w j r zero xs = refl
length-column start w j r (suc n) xs = length-set (column start w j r n xs) (start + (n * w + j)) r ∙ length-column start w j r n xs

column_miss : (start w j r n : ℕ) (xs : List ℕ) (q : ℕ) → ((c : ℕ) → c < n → q ≡ start + (c * w + j) → ⊥) → get_or (column start w j r n xs) q 0 ≡ get_or xs q 0
column_miss start w j r zero xs q h = refl
column_miss start w j r (suc n) xs q h =
    let ne : q ≡ start + (n * w + j) → ⊥ = h n (omega arith) in
    get_or-set_other (column start w j r n xs) (start + (n * w + j)) q r 0 ne ∙ column_miss start w j r n xs q (λ c l. h c (omega arith))

column_hit : (start w j r n : ℕ) (xs : List ℕ) (c : ℕ) → c < n → 0 < w → start + (c * w + j) < length xs → get_or (column start w j r n xs) (start + (c * w + j)) 0 ≡ r
column_hit start w j r zero xs c l p h = absurd (omega arith)
column_hit start w j r (suc n) xs c l p h = elim (cases_eq c n) [
  | inl e ↦
      let place = ap (λ z. start + (z * w + j)) e in
      let inside : start + (n * w + j) < length (column start w j r n xs) = omega (arith, length-column start w j r n xs) in
      ap (λ q. get_or (column start w j r (suc n) xs) q 0) place ∙ get_or-set_same (column start w j r n xs) (start + (n * w + j)) r 0 inside
  | inr ne ↦
      let u = times_more c n w (omega arith) in
      let q : start + (c * w + j) ≡ start + (n * w + j) → ⊥ = λ e. omega arith in
      get_or-set_other (column start w j r n xs) (start + (n * w + j)) (start + (c * w + j)) r 0 q ∙ column_hit start w j r n xs c (omega arith) p h
]

-- the column of a row is the drawn level of its claims
column_draws : (rows : List Row) (elements : List ℕ) (node j r : ℕ) → IsTrue (spaced 0 rows (length elements)) → node < length rows → j < (row_at rows node).width
    → Draws (record { rows = rows; elements = elements }) node j r
    (record { rows = rows; elements = column (row_at rows node).start (row_at rows node).width j r (row_at rows node).claims elements })
column_draws rows elements node j r s ln lj k c i p = elim (cases_eq k node) [
  | inl e ↦ elim (cases_eq i j) [
    | inl f ↦ hit e f ∙ sym (cond-true ((k == node) && (i == j)) r old (and_from (k == node) (i == j) (eq-eqb k node e) (eq-eqb i j f)))
    | inr nf ↦ miss (λ w. nf w.1) ∙ sym (cond-false ((k == node) && (i == j)) r old (and_right (k == node) (i == j) (ne_eqb i j nf)))
  ]
  | inr ne ↦ miss (λ w. ne w.0) ∙ sym (cond-false ((k == node) && (i == j)) r old (and_left (k == node) (i == j) (ne_eqb k node ne)))
]
  where
    own : Row
    own = row_at rows node

    place : ℕ
    place = element_place (row_at rows k) c i

    old : ℕ
    old = get_or elements place 0

    new : List ℕ
    new = column own.start own.width j r own.claims elements

    miss : ((k ≡ node) × (i ≡ j) → ⊥) → get_or new place 0 ≡ old
    miss other =
        column_miss own.start own.width j r own.claims elements place
        (λ d l q. (let w = place_only rows (length elements) k c i node d j s p (ln, l, lj) q in other (w.0, w.2)))

    hit : k ≡ node → i ≡ j → get_or new place 0 ≡ r
    hit e f =
        let to : place ≡ element_place own c j = ap (λ z. element_place (row_at rows z) c i) e ∙ ap (element_place own c) f in
        let lc : c < own.claims = subst (λ z. c < (row_at rows z).claims) e p.1 in
        let room = place_room rows (length elements) node c j s (ln, lc, lj) in
        ap (λ z. get_or new z 0) to ∙ column_hit own.start own.width j r own.claims elements c lc (omega arith) room

-- the same in what the code reads and writes
pub column_written : (rows : List Row) (elements new : List ℕ) (p : PointTable) (node j v : ℕ) (r : Row) → ReadsRow rows elements p node r → node < length p.rows
    → j < (row_at p.rows node).width → new ≡ column r.start r.width j v r.claims elements → Draws p node j v (record { rows = rows; elements = new })
column_written rows elements new p node j v r h l lj e =
    let there : node < length rows = subst (λ z. node < length z.rows) (sym h.seen) l in
    let inside : j < (row_at rows node).width = subst (λ z. j < (row_at z.rows node).width) (sym h.seen) lj in
    let to : new ≡ column (row_at rows node).start (row_at rows node).width j v (row_at rows node).claims elements =
    e ∙ ap (λ z. column z.start z.width j v z.claims elements) (row_is rows node r there h.is_read) in
    subst (λ z. Draws z node j v (record { rows = rows; elements = new })) h.seen
    (subst (λ es. Draws (record { rows = rows; elements = elements }) node j v (record { rows = rows; elements = es })) (sym to)
    (column_draws rows elements node j v h.are_spaced there inside))
