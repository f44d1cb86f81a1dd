-- A claim's point handed down to a child.
use Rattle.std.proofs.Common.{arith, ℕ, ◌≡◌, ◌+◌, ◌*◌, ◌-◌, ◌<◌, ◌≤◌, sym, ◌∙◌, ap, subst, ◌⊎◌, inl, inr, List, length, get_or, ◌==◌, ◌&&◌, Option}
use Rattle.std.specs.Prelude.{IsTrue, map}
use mathlib.Core.Path.{ap₂, fun_ext}
use Rattle.std.proofs.lemmas.Bool.{cases_eq, cases_lt, eq-eqb, ne_eqb, and_from, and_left, and_right, cond-true, cond-false}
use Rattle.blic_model.specs.Circuit.{OrderedCircuit, below}
use Rattle.blic_model.specs.Counts.{claims}
use Rattle.blic_claims.specs.Places.{layout_of, row_at}
use Rattle.blic_claims.specs.Points.{PointTable, ArePointsOf, element_place, coordinate, IsPlace, point_of, stored_point}
use Rattle.blic_claims.specs.Elements.{spaced, levels_of, point_from, fixed_point, HandsPoint}
use Rattle.blic_claims.specs.declared.layout.Row.{Row}
use Rattle.blic_claims.specs.declared.elements.Fixed.{Fixed}
use Rattle.blic_claims.proofs.BelowSums.{map_below_agree}
use Rattle.blic_claims.proofs.LayoutRows.{length_rows, claims_of_row, width_of_row}
use Rattle.blic_claims.proofs.Spacing.{spaced_room, spaced_apart, times_more, place_only, row_is}

-- where the point of a claim starts
abbrev pub point_start : PointTable → ℕ → ℕ → ℕ
point_start p k c = (row_at p.rows k).start + c * (row_at p.rows k).width

-- the point that starts there is the stored one
pub stored_is : (circuit : OrderedCircuit) (p : PointTable) (k c : ℕ) → point_from (levels_of circuit k) (point_start p k c) p.elements ≡ stored_point circuit p k c
unfolding stored_point
stored_is circuit p k c =
    ap (λ f. point_of (levels_of circuit k) (map f (below (length (levels_of circuit k)))))
    (fun_ext (λ j. ap (λ q. get_or p.elements q 0) (together (row_at p.rows k) j)))
  where
    together : (r : Row) (j : ℕ) → r.start + c * r.width + j ≡ element_place r c j
    together r j = omega arith

abbrev handed_value : OrderedCircuit → PointTable → ℕ → ℕ → Option Fixed → ℕ → ℕ → ℕ
handed_value circuit p node claim fixed a i = fixed_point fixed (stored_point circuit p node claim) (get_or (levels_of circuit a) i 0)

-- what is written from the start of the child's claim on is the handed point
pub point_handed : (circuit : OrderedCircuit) (p : PointTable) (node claim child place : ℕ) (fixed : Option Fixed) (new : List ℕ)
    → IsTrue (spaced 0 p.rows (length p.elements)) → ArePointsOf p circuit → child < length circuit.nodes → place < claims circuit.nodes child
    → ((i : ℕ) → i < length (levels_of circuit child) → get_or new (point_start p child place + i) 0
    ≡ fixed_point fixed (point_from (levels_of circuit node) (point_start p node claim) p.elements) (get_or (levels_of circuit child) i 0))
    → ((q : ℕ) → (q < point_start p child place) ⊎ (point_start p child place + length (levels_of circuit child) ≤ q) → get_or new q 0 ≡ get_or p.elements q 0)
    → HandsPoint circuit p node claim fixed child place (record { rows = p.rows; elements = new })
point_handed circuit p node claim child place fixed new s are lc lp written kept a c i h = elim (cases_eq a child) [
  | inl ea ↦ elim (cases_eq c place) [
    | inl ec ↦ here ea ec ∙ sym (cond-true ((a == child) && (c == place)) value old (and_from (a == child) (c == place) (eq-eqb a child ea) (eq-eqb c place ec)))
    | inr nc ↦ other (λ w. nc w.1) ∙ sym (cond-false ((a == child) && (c == place)) value old (and_right (a == child) (c == place) (ne_eqb c place nc)))
  ]
  | inr na ↦ other (λ w. na w.0) ∙ sym (cond-false ((a == child) && (c == place)) value old (and_left (a == child) (c == place) (ne_eqb a child na)))
]
  where
    value : ℕ
    value = handed_value circuit p node claim fixed a i

    at : ℕ
    at = element_place (row_at p.rows a) c i

    old : ℕ
    old = get_or p.elements at 0

    width : (row_at p.rows child).width ≡ length (levels_of circuit child)
    width = ap (λ rows. (row_at rows child).width) are ∙ width_of_row circuit child lc

    here : a ≡ child → c ≡ place → get_or new at 0 ≡ value
    here ea ec =
        let hi : i < (row_at p.rows child).width = subst (λ z. i < (row_at p.rows z).width) ea h.2 in
        let row = row_at p.rows child in
        let same = width in
        let to : at ≡ point_start p child place + i =
        ap (λ z. element_place (row_at p.rows z) c i) ea ∙ (ap (λ z. element_place row z i) ec ∙ together row) in
        ap (λ q. get_or new q 0) to
        ∙ (written i (omega arith)
        ∙ (ap (λ f. fixed_point fixed f (get_or (levels_of circuit child) i 0)) (stored_is circuit p node claim)
        ∙ ap (λ z. handed_value circuit p node claim fixed z i) (sym ea)))
      where
        together : (r : Row) → element_place r place i ≡ r.start + place * r.width + i
        together r = omega arith

    other : ((a ≡ child) × (c ≡ place) → ⊥) → get_or new at 0 ≡ old
    other ne = kept at (elim (cases_lt at (point_start p child place)) [
      | inl l ↦ inl l
      | inr l ↦ elim (cases_lt at (point_start p child place + length (levels_of circuit child))) [
        | inl m ↦ absurd (inside l m)
        | inr m ↦ inr m
      ]
    ])
      where
        inside : point_start p child place ≤ at → at < point_start p child place + length (levels_of circuit child) → ⊥
        inside l m =
            let j = at - point_start p child place in
            let same = width in
            let hp : place < (row_at p.rows child).claims = subst (λ rows. place < (row_at rows child).claims) (sym are) (let u = claims_of_row circuit child lc in omega arith) in
            let hr : child < length p.rows = subst (λ rows. child < length rows) (sym are) (let u = length_rows circuit in omega arith) in
            let w = place_only p.rows (length p.elements) a c i child place j s h (hr, hp, omega arith) (together (row_at p.rows child) l) in
            ne (w.0, w.1)
          where
            together : (r : Row) → r.start + place * r.width ≤ at → at ≡ element_place r place (at - (r.start + place * r.width))
            together r l = omega arith

-- the same in what the calls of the code say
pub point_handed_here : (circuit : OrderedCircuit) (p n : PointTable) (node claim child place from to : ℕ) (fixed : Option Fixed) (read new : List ℕ)
    → IsTrue (spaced 0 p.rows (length p.elements)) → ArePointsOf p circuit → child < length circuit.nodes → place < claims circuit.nodes child
    → from ≡ point_start p node claim → to ≡ point_start p child place → read ≡ p.elements → n.rows ≡ p.rows → n.elements ≡ new
    → ((i : ℕ) → i < length (levels_of circuit child) → get_or new (to + i) 0 ≡ fixed_point fixed (point_from (levels_of circuit node) from read) (get_or (levels_of circuit child) i 0))
    → ((q : ℕ) → (q < to) ⊎ (to + length (levels_of circuit child) ≤ q) → get_or new q 0 ≡ get_or read q 0) → HandsPoint circuit p node claim fixed child place n
point_handed_here circuit p n node claim child place from to fixed read new s are lc lp ef et er rows es written kept =
    subst (λ z. HandsPoint circuit p node claim fixed child place z) (λ i. record { rows = sym rows i; elements = sym es i })
    (point_handed circuit p node claim child place fixed new s are lc lp
    (λ i l. ap (λ q. get_or new (q + i) 0) (sym et)
    ∙ (written i l ∙ ap₂ (λ q xs. fixed_point fixed (point_from (levels_of circuit node) q xs) (get_or (levels_of circuit child) i 0)) ef er))
    (λ q h. kept q (subst (λ z. (q < z) ⊎ (z + length (levels_of circuit child) ≤ q)) (sym et) h) ∙ ap (λ xs. get_or xs q 0) er))

-- a claim of the circuit has its place among the points
pub claim_is_there : (circuit : OrderedCircuit) (p : PointTable) (k c : ℕ) → ArePointsOf p circuit → k < length circuit.nodes → c < claims circuit.nodes k
    → (k < length p.rows) × (c < (row_at p.rows k).claims) × ((row_at p.rows k).width ≡ length (levels_of circuit k))
claim_is_there circuit p k c are l lc =
    subst (λ rows. (k < length rows) × (c < (row_at rows k).claims) × ((row_at rows k).width ≡ length (levels_of circuit k))) (sym are)
    (omega (arith, length_rows circuit), omega (arith, claims_of_row circuit k l), width_of_row circuit k l)

-- its point is in the list
pub point_room : (circuit : OrderedCircuit) (p : PointTable) (k c : ℕ) → IsTrue (spaced 0 p.rows (length p.elements)) → ArePointsOf p circuit → k < length circuit.nodes
    → c < claims circuit.nodes k → point_start p k c + length (levels_of circuit k) ≤ length p.elements
point_room circuit p k c s are l lc =
    let w = claim_is_there circuit p k c are l lc in
    let width = w.2 in
    let room = spaced_room 0 p.rows (length p.elements) k s w.0 in
    let more = times_more c (row_at p.rows k).claims (row_at p.rows k).width w.1 in
    omega arith

-- before those of the greater nodes
pub points_apart : (circuit : OrderedCircuit) (p : PointTable) (k c m d : ℕ) → IsTrue (spaced 0 p.rows (length p.elements)) → ArePointsOf p circuit → k < m
    → m < length circuit.nodes → c < claims circuit.nodes k → point_start p k c + length (levels_of circuit k) ≤ point_start p m d
points_apart circuit p k c m d s are h l lc =
    let w = claim_is_there circuit p k c are (omega arith) lc in
    let width = w.2 in
    let lm : m < length p.rows = subst (λ rows. m < length rows) (sym are) (omega (arith, length_rows circuit)) in
    let apart = spaced_apart 0 p.rows (length p.elements) k m s h lm in
    let more = times_more c (row_at p.rows k).claims (row_at p.rows k).width w.1 in
    omega arith

-- the points of a node stay where its coordinates do
pub own_points_stay : (circuit : OrderedCircuit) (p n : PointTable) (k c : ℕ) → ArePointsOf p circuit → k < length circuit.nodes → c < claims circuit.nodes k
    → ((i : ℕ) → IsPlace p.rows k c i → coordinate n k c i ≡ coordinate p k c i) → stored_point circuit n k c ≡ stored_point circuit p k c
unfolding stored_point
own_points_stay circuit p n k c are l lc same =
    ap (λ es. point_of (levels_of circuit k) es)
    (map_below_agree (coordinate n k c) (coordinate p k c) (length (levels_of circuit k)) (λ i li. same i (place i li)))
  where
    place : (i : ℕ) → i < length (levels_of circuit k) → IsPlace p.rows k c i
    place i li = (let w = claim_is_there circuit p k c are l lc in let width = w.2 in (w.0, w.1, omega arith))

-- the row that the code reads has the node's claims
pub row_read : (circuit : OrderedCircuit) (rows : List Row) (elements : List ℕ) (p : PointTable) (k : ℕ) → record { rows = rows; elements = elements } ≡ p
    → ArePointsOf p circuit → k < length circuit.nodes → (k < length rows) × ((r : Row) → r ≡ get_or rows k r → r.claims ≡ claims circuit.nodes k)
row_read circuit rows elements p k v are l =
    let same : rows ≡ (layout_of circuit).rows = ap (λ z. z.rows) v ∙ are in
    let there : k < length rows = subst (λ rs. k < length rs) (sym same) (omega (arith, length_rows circuit)) in
    (there, λ r e. ap (λ z. z.claims) (row_is rows k r there e) ∙ (ap (λ rs. (row_at rs k).claims) same ∙ claims_of_row circuit k l))
