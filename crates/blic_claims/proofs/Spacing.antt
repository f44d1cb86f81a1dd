-- Rows that follow each other in one list.
use Rattle.std.proofs.Common.{arith, ℕ, zero, suc, ◌≡◌, ◌+◌, ◌*◌, ◌<◌, ◌≤◌, sym, ◌∙◌, ap, subst, inl, inr, List, [], ◌∷◌, length, get_or, ◌==◌}
use Rattle.std.specs.Prelude.{IsTrue}
use Rattle.std.proofs.lemmas.Bool.{cases_eq, cases_lt, eqb-true, and_parts}
use Rattle.std.proofs.lemmas.List.{get_or_read}
use Rattle.std.proofs.lemmas.Nat.{mul-le}
use Rattle.blic_claims.specs.Places.{no_row, row_at}
use Rattle.blic_claims.specs.Points.{PointTable, element_place, coordinate, IsPlace}
use Rattle.blic_claims.specs.Elements.{spaced}
use Rattle.blic_claims.specs.declared.layout.Row.{Row}

head : (at : ℕ) (r : Row) (rs : List Row) (end : ℕ) → IsTrue (spaced at (r ∷ rs) end) → r.start ≡ at
head at r rs end s = eqb-true r.start at (and_parts (r.start == at) (spaced (at + r.claims * r.width) rs end) s).0

tail : (at : ℕ) (r : Row) (rs : List Row) (end : ℕ) → IsTrue (spaced at (r ∷ rs) end) → IsTrue (spaced (at + r.claims * r.width) rs end)
tail at r rs end s = (and_parts (r.start == at) (spaced (at + r.claims * r.width) rs end) s).1

-- no row begins before the first place
spaced_from : (at : ℕ) (rows : List Row) (end k : ℕ) → IsTrue (spaced at rows end) → k < length rows → at ≤ (row_at rows k).start
spaced_from at [] end k s l = absurd (omega arith)
spaced_from at (r ∷ rs) end zero s l = (let e = head at r rs end s in omega arith)
spaced_from at (r ∷ rs) end (suc k) s l =
    let u = spaced_from (at + r.claims * r.width) rs end k (tail at r rs end s) (omega arith) in
    omega arith

spaced_to : (at : ℕ) (rows : List Row) (end : ℕ) → IsTrue (spaced at rows end) → at ≤ end
spaced_to at [] end s = (let e = eqb-true at end s in omega arith)
spaced_to at (r ∷ rs) end s = (let u = spaced_to (at + r.claims * r.width) rs end (tail at r rs end s) in omega arith)

-- each row ends within the list
pub spaced_room : (at : ℕ) (rows : List Row) (end k : ℕ) → IsTrue (spaced at rows end) → k < length rows
    → (row_at rows k).start + (row_at rows k).claims * (row_at rows k).width ≤ end
spaced_room at [] end k s l = absurd (omega arith)
spaced_room at (r ∷ rs) end zero s l =
    let e = head at r rs end s in
    let u = spaced_to (at + r.claims * r.width) rs end (tail at r rs end s) in
    omega arith
spaced_room at (r ∷ rs) end (suc k) s l = spaced_room (at + r.claims * r.width) rs end k (tail at r rs end s) (omega arith)

-- a row ends before a later one begins
pub spaced_apart : (at : ℕ) (rows : List Row) (end j k : ℕ) → IsTrue (spaced at rows end) → j < k → k < length rows
    → (row_at rows j).start + (row_at rows j).claims * (row_at rows j).width ≤ (row_at rows k).start
spaced_apart at [] end j k s h l = absurd (omega arith)
spaced_apart at (r ∷ rs) end j zero s h l = absurd (omega arith)
spaced_apart at (r ∷ rs) end zero (suc k) s h l =
    let e = head at r rs end s in
    let u = spaced_from (at + r.claims * r.width) rs end k (tail at r rs end s) (omega arith) in
    omega arith
spaced_apart at (r ∷ rs) end (suc j) (suc k) s h l = spaced_apart (at + r.claims * r.width) rs end j k (tail at r rs end s) (omega arith) (omega arith)

pub times_more : (c n w : ℕ) → c < n → c * w + w ≤ n * w
times_more c n w l = (let u : (c + 1) * w ≤ n * w = mul-le (c + 1) w n w (omega arith) (omega arith) in omega arith)

-- a place within its row
pub place_inside : (c n w j : ℕ) → c < n → j < w → c * w + j < n * w
place_inside c n w j l h = (let u = times_more c n w l in omega arith)

-- two places of a row are the same only at the same claim and coordinate
places_apart : (c d w i j : ℕ) → i < w → j < w → c * w + i ≡ d * w + j → (c ≡ d) × (i ≡ j)
places_apart c d w i j hi hj e = elim (cases_lt c d) [
  | inl q ↦ (let u = times_more c d w q in absurd (omega arith))
  | inr q ↦ elim (cases_eq c d) [
    | inl s ↦ (let u : c * w ≡ d * w = ap (λ z. z * w) s in (s, omega arith))
    | inr ne ↦ (let u = times_more d c w (omega arith) in absurd (omega arith))
  ]
]

-- each place is in the list
pub place_room : (rows : List Row) (end k c i : ℕ) → IsTrue (spaced 0 rows end) → IsPlace rows k c i → element_place (row_at rows k) c i < end
place_room rows end k c i s p =
    let inside = place_inside c (row_at rows k).claims (row_at rows k).width i p.1 p.2 in
    let room = spaced_room 0 rows end k s p.0 in
    omega arith

place_before : (rows : List Row) (end k c i m d j : ℕ) → IsTrue (spaced 0 rows end) → IsPlace rows k c i → IsPlace rows m d j → k < m
    → element_place (row_at rows k) c i < element_place (row_at rows m) d j
place_before rows end k c i m d j s p q l =
    let inside = place_inside c (row_at rows k).claims (row_at rows k).width i p.1 p.2 in
    let apart = spaced_apart 0 rows end k m s l q.0 in
    omega arith

-- no two claims, and no two levels of a claim, share a place
pub place_only : (rows : List Row) (end k c i m d j : ℕ) → IsTrue (spaced 0 rows end) → IsPlace rows k c i → IsPlace rows m d j
    → element_place (row_at rows k) c i ≡ element_place (row_at rows m) d j → (k ≡ m) × (c ≡ d) × (i ≡ j)
place_only rows end k c i m d j s p q e = elim (cases_lt k m) [
  | inl l ↦ (let u = place_before rows end k c i m d j s p q l in absurd (omega arith))
  | inr l ↦ elim (cases_eq k m) [
    | inl same ↦ own same
    | inr ne ↦ (let u = place_before rows end m d j k c i s q p (omega arith) in absurd (omega arith))
  ]
]
  where
    own : k ≡ m → (k ≡ m) × (c ≡ d) × (i ≡ j)
    own same =
        let to : (row_at rows k).start + (c * (row_at rows k).width + i) ≡ (row_at rows k).start + (d * (row_at rows k).width + j) =
        e ∙ ap (λ z. element_place (row_at rows z) d j) (sym same) in
        let hj : j < (row_at rows k).width = subst (λ z. j < (row_at rows z).width) (sym same) q.2 in
        let w = places_apart c d (row_at rows k).width i j p.2 hj (omega arith) in
        (same, w.0, w.1)

-- the row that the code reads
pub row_is : (rows : List Row) (k : ℕ) (r : Row) → k < length rows → r ≡ get_or rows k r → r ≡ row_at rows k
row_is rows k r l e = get_or_read rows k r l e no_row

-- row k, as it is read from what is seen as p
pub record ReadsRow (rows : List Row) (elements : List ℕ) (p : PointTable) (k : ℕ) (r : Row) : Type 0 where
  pub are_spaced : IsTrue (spaced 0 rows (length elements))
  pub seen : ◌≡◌ {A = PointTable} (record { rows = rows; elements = elements }) p
  pub is_read : r ≡ get_or rows k r

pub row_room : (rows : List Row) (elements : List ℕ) (p : PointTable) (k : ℕ) (r : Row) → ReadsRow rows elements p k r → k < length p.rows
    → r.start + r.claims * r.width ≤ length elements
row_room rows elements p k r h l =
    let there : k < length rows = subst (λ z. k < length z.rows) (sym h.seen) l in
    subst (λ z. z.start + z.claims * z.width ≤ length elements) (sym (row_is rows k r there h.is_read)) (spaced_room 0 rows (length elements) k h.are_spaced there)

-- a coordinate's place is in the list
pub place_read : (rows : List Row) (elements : List ℕ) (p : PointTable) (k c j : ℕ) (r : Row) → ReadsRow rows elements p k r → IsPlace p.rows k c j
    → (element_place r c j < length elements) × (get_or elements (element_place r c j) 0 ≡ coordinate p k c j)
place_read rows elements p k c j r h l =
    let there : IsPlace rows k c j = subst (λ z. IsPlace z.rows k c j) (sym h.seen) l in
    let same = row_is rows k r there.0 h.is_read in (
      subst (λ z. element_place z c j < length elements) (sym same) (place_room rows (length elements) k c j h.are_spaced there),
      ap (λ z. get_or elements (element_place z c j) 0) same ∙ ap (λ z. coordinate z k c j) h.seen,
    )

-- and so is the start of a claim's point
pub start_read : (rows : List Row) (elements : List ℕ) (p : PointTable) (k c : ℕ) (r : Row) → ReadsRow rows elements p k r → k < length p.rows
    → c < (row_at p.rows k).claims
    → (r.start + c * r.width ≤ length elements) × (r.start + c * r.width ≡ (row_at p.rows k).start + c * (row_at p.rows k).width)
start_read rows elements p k c r h lk lc =
    let l : k < length rows = subst (λ z. k < length z.rows) (sym h.seen) lk in
    let m : c < (row_at rows k).claims = subst (λ z. c < (row_at z.rows k).claims) (sym h.seen) lc in
    let u = times_more c (row_at rows k).claims (row_at rows k).width m in
    let room = spaced_room 0 rows (length elements) k h.are_spaced l in
    let w : (row_at rows k).start + c * (row_at rows k).width ≤ length elements = omega arith in
    let same = row_is rows k r l h.is_read in (
      subst (λ z. z.start + c * z.width ≤ length elements) (sym same) w,
      ap (λ z. z.start + c * z.width) same ∙ ap (λ z. (row_at z.rows k).start + c * (row_at z.rows k).width) h.seen,
    )

-- the point of a claim is in the list
pub claim_room : (rows : List Row) (elements : List ℕ) (p : PointTable) (k c : ℕ) (r : Row) → ReadsRow rows elements p k r → k < length p.rows
    → c < (row_at p.rows k).claims → (r.start + c * r.width + r.width ≤ length elements) × (r.width ≡ (row_at p.rows k).width)
claim_room rows elements p k c r h lk lc =
    let l : k < length rows = subst (λ z. k < length z.rows) (sym h.seen) lk in
    let m : c < (row_at rows k).claims = subst (λ z. c < (row_at z.rows k).claims) (sym h.seen) lc in
    let u = times_more c (row_at rows k).claims (row_at rows k).width m in
    let room = spaced_room 0 rows (length elements) k h.are_spaced l in
    let w : (row_at rows k).start + c * (row_at rows k).width + (row_at rows k).width ≤ length elements = omega arith in
    let same = row_is rows k r l h.is_read in (
      subst (λ z. z.start + c * z.width + z.width ≤ length elements) (sym same) w,
      ap (λ z. z.width) same ∙ ap (λ z. (row_at z.rows k).width) h.seen,
    )
