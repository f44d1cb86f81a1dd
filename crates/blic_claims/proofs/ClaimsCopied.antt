-- The points of all claims on a node copied to a child with the same free levels.
use Rattle.std.proofs.Common.{arith, ℕ, suc, ◌≡◌, ◌+◌, ◌*◌, ◌-◌, ◌<◌, ◌≤◌, sym, ◌∙◌, ap, subst, inl, inr, List, length, get_or, Bool, true, false, cond, ◌==◌, nat_lt, ◌&&◌}
use Rattle.std.specs.Prelude.{IsTrue}
use mathlib.Core.Path.{ap₂}
use Rattle.std.specs.List.{SameBelow, SameFrom, CopiedTo}
use Rattle.std.proofs.lemmas.Bool.{cases_eq, cases_lt, eq-eqb, ne_eqb, lt-ltb, le-ltb, and_from, and_left, and_right, cond-true, cond-false}
use Rattle.std.proofs.lemmas.Nat.{mul-le}
use Rattle.blic_claims.specs.Places.{row_at}
use Rattle.blic_claims.specs.Points.{PointTable, element_place, coordinate, is_among}
use Rattle.blic_claims.specs.Elements.{spaced, CopiesClaims}
use Rattle.blic_claims.specs.declared.layout.Row.{Row}
use Rattle.blic_claims.proofs.Spacing.{spaced_room, spaced_apart, times_more, place_inside, row_is, ReadsRow}

-- where the copied claims start on the child
abbrev pub copy_start : PointTable → ℕ → ℕ → ℕ → ℕ
copy_start p node child first = (row_at p.rows child).start + first * (row_at p.rows node).width

abbrev pub copy_size : PointTable → ℕ → ℕ
copy_size p node = (row_at p.rows node).claims * (row_at p.rows node).width

-- the copied claims are in the child's row
copy_inside : (p : PointTable) (node child first : ℕ) → (row_at p.rows child).width ≡ (row_at p.rows node).width
    → first + (row_at p.rows node).claims ≤ (row_at p.rows child).claims
    → copy_start p node child first + copy_size p node ≤ (row_at p.rows child).start + (row_at p.rows child).claims * (row_at p.rows child).width
copy_inside p node child first e room =
    let all = mul-le (first + (row_at p.rows node).claims) (row_at p.rows node).width (row_at p.rows child).claims (row_at p.rows node).width room (omega arith) in
    let same : (row_at p.rows child).claims * (row_at p.rows child).width ≡ (row_at p.rows child).claims * (row_at p.rows node).width =
    ap (λ w. (row_at p.rows child).claims * w) e in
    omega arith

pub copy_room : (p : PointTable) (node child first : ℕ) → IsTrue (spaced 0 p.rows (length p.elements)) → node < length p.rows → child < node
    → (row_at p.rows child).width ≡ (row_at p.rows node).width → first + (row_at p.rows node).claims ≤ (row_at p.rows child).claims
    → ((row_at p.rows node).start + copy_size p node ≤ length p.elements) × (copy_start p node child first + copy_size p node ≤ length p.elements)
copy_room p node child first s ln lc e room =
    let inside = copy_inside p node child first e room in
    let own = spaced_room 0 p.rows (length p.elements) node s ln in
    let its = spaced_room 0 p.rows (length p.elements) child s (omega arith) in
    (own, omega arith)

pub claims_copied : (p : PointTable) (new : List ℕ) (node child first : ℕ) → IsTrue (spaced 0 p.rows (length p.elements)) → node < length p.rows → child < node
    → (row_at p.rows child).width ≡ (row_at p.rows node).width → first + (row_at p.rows node).claims ≤ (row_at p.rows child).claims
    → CopiedTo p.elements new (row_at p.rows node).start (copy_start p node child first) (copy_size p node)
    → SameBelow p.elements new (copy_start p node child first) → SameFrom p.elements new (copy_start p node child first + copy_size p node)
    → CopiesClaims p node child first (record { rows = p.rows; elements = new })
claims_copied p new node child first s ln lc e room copied below behind a c i h = elim (cases_eq a child) [
  | inl ea ↦ elim (cases_lt c first) [
    | inl l ↦ below at 0 (before ea l) ∙ sym (unchanged (and_right (a == child) among (and_right in_front from_first (le-ltb first (suc c) (omega arith)))))
    | inr l ↦ elim (cases_lt c (first + m)) [
      | inl u ↦ here ea l u ∙ sym (changed (and_from (a == child) among (eq-eqb a child ea) (and_from in_front from_first (lt-ltb c (first + m) u) (lt-ltb first (suc c) (omega arith)))))
      | inr u ↦ behind at 0 (past ea u) ∙ sym (unchanged (and_right (a == child) among (and_left in_front from_first (le-ltb c (first + m) u))))
    ]
  ]
  | inr na ↦ elsewhere na ∙ sym (unchanged (and_left (a == child) among (ne_eqb a child na)))
]
  where
    own : Row
    own = row_at p.rows node

    down : Row
    down = row_at p.rows child

    m : ℕ
    m = own.claims

    at : ℕ
    at = element_place (row_at p.rows a) c i

    in_front : Bool
    in_front = nat_lt c (first + m)

    from_first : Bool
    from_first = nat_lt first (suc c)

    among : Bool
    among = is_among first m c

    moved : ℕ
    moved = coordinate p node (c - first) i

    old : ℕ
    old = coordinate p a c i

    unchanged : ((a == child) && among) ≡ false → cond ((a == child) && among) moved old ≡ old
    unchanged q = cond-false ((a == child) && among) moved old q

    changed : ((a == child) && among) ≡ true → cond ((a == child) && among) moved old ≡ moved
    changed q = cond-true ((a == child) && among) moved old q

    -- the place, where the claim is on the child
    on_child : a ≡ child → (at ≡ down.start + (c * own.width + i)) × (i < own.width)
    on_child ea = (
      ap (λ z. element_place (row_at p.rows z) c i) ea ∙ ap (λ w. down.start + (c * w + i)) e,
      (let hi : i < down.width = subst (λ z. i < (row_at p.rows z).width) ea h.2 in omega arith),
    )

    before : a ≡ child → c < first → at < copy_start p node child first
    before ea l =
        let w = on_child ea in
        let here = w.0 in
        let inside = w.1 in
        let more = times_more c first own.width l in
        omega arith

    past : a ≡ child → first + m ≤ c → copy_start p node child first + copy_size p node ≤ at
    past ea l =
        let here = (on_child ea).0 in
        let more = mul-le (first + m) own.width c own.width l (omega arith) in
        omega arith

    here : a ≡ child → first ≤ c → c < first + m → get_or new at 0 ≡ moved
    here ea l u =
        let w = on_child ea in
        let place = w.0 in
        let split : c * own.width ≡ first * own.width + (c - first) * own.width = shift c first own.width l in
        let inside = place_inside (c - first) m own.width i (omega arith) w.1 in
        let from : own.start + (at - copy_start p node child first) ≡ element_place own (c - first) i = omega arith in
        copied at 0 (omega arith) (omega arith) ∙ ap (λ q. get_or p.elements q 0) from
      where
        shift : (c f w : ℕ) → f ≤ c → c * w ≡ f * w + (c - f) * w
        shift c f w l = (let d : c ≡ f + (c - f) = omega arith in ap (λ z. z * w) d ∙ omega arith)

    elsewhere : (a ≡ child → ⊥) → get_or new at 0 ≡ old
    elsewhere na = elim (cases_lt a child) [
      | inl l ↦
          let inside = place_inside c (row_at p.rows a).claims (row_at p.rows a).width i h.1 h.2 in
          let apart = spaced_apart 0 p.rows (length p.elements) a child s l (omega arith) in
          below at 0 (omega arith)
      | inr l ↦
          let inside = copy_inside p node child first e room in
          let apart = spaced_apart 0 p.rows (length p.elements) child a s (omega arith) h.0 in
          behind at 0 (omega arith)
    ]

-- what the copy asks of its row and of the child's row, as the code reads them
pub record Asks (p : PointTable) (node child first : ℕ) : Type 0 where
  pub has_row : node < length p.rows
  pub below : child < node
  pub same_width : (row_at p.rows child).width ≡ (row_at p.rows node).width
  pub has_room : first + (row_at p.rows node).claims ≤ (row_at p.rows child).claims

abbrev table_of : List Row → List ℕ → PointTable
table_of rows elements = record { rows = rows; elements = elements }

pub copy_fits : (rows : List Row) (elements : List ℕ) (p : PointTable) (node child first : ℕ) (row down : Row) → Asks p node child first
    → ReadsRow rows elements p node row → ReadsRow rows elements p child down
    → (row.start + row.claims * row.width ≤ length elements) × (down.start + first * row.width + row.claims * row.width ≤ length elements)
copy_fits rows elements p node child first row down a reads reads_down =
    let b : Asks (table_of rows elements) node child first = subst (λ z. Asks z node child first) (sym reads.seen) a in
    let w = copy_room (table_of rows elements) node child first reads.are_spaced b.has_row b.below b.same_width b.has_room in
    let same = row_is rows node row b.has_row reads.is_read in
    let same_down = row_is rows child down (let l = b.has_row in let m = b.below in omega arith) reads_down.is_read in (
      subst (λ r. r.start + r.claims * r.width ≤ length elements) (sym same) w.0,
      subst (λ d. d.start + first * row.width + row.claims * row.width ≤ length elements) (sym same_down)
          (subst (λ r. (row_at rows child).start + first * r.width + r.claims * r.width ≤ length elements) (sym same) w.1),
    )

pub claims_copied_here : (rows : List Row) (elements new : List ℕ) (p : PointTable) (node child first from to size : ℕ) (row down : Row) → Asks p node child first
    → ReadsRow rows elements p node row → ReadsRow rows elements p child down → from ≡ row.start → to ≡ down.start + first * row.width → size ≡ row.claims * row.width
    → CopiedTo elements new from to size × SameBelow elements new to × SameFrom elements new (to + size)
    → CopiesClaims p node child first (record { rows = rows; elements = new })
claims_copied_here rows elements new p node child first from to size row down a reads reads_down ef et es h =
    let b : Asks (table_of rows elements) node child first = subst (λ z. Asks z node child first) (sym reads.seen) a in
    let same = row_is rows node row b.has_row reads.is_read in
    let same_down = row_is rows child down (let l = b.has_row in let m = b.below in omega arith) reads_down.is_read in
    let from_is : from ≡ (row_at rows node).start = ef ∙ ap (λ r. r.start) same in
    let to_is : to ≡ copy_start (table_of rows elements) node child first = et ∙ ap₂ (λ d r. d.start + first * r.width) same_down same in
    let size_is : size ≡ copy_size (table_of rows elements) node = es ∙ ap (λ r. r.claims * r.width) same in
    let w = at_numbers (λ f t z. CopiedTo elements new f t z × SameBelow elements new t × SameFrom elements new (t + z)) from to size _ _ _ from_is to_is size_is h in
    subst (λ z. CopiesClaims z node child first (table_of rows new)) reads.seen
    (claims_copied (table_of rows elements) new node child first reads.are_spaced b.has_row b.below b.same_width b.has_room w.0 w.1 w.2)
  where
    at_numbers : (P : ℕ → ℕ → ℕ → Type 0) (f t z g u y : ℕ) → f ≡ g → t ≡ u → z ≡ y → P f t z → P g u y
    at_numbers P f t z g u y ef et ez h = subst (λ q. P g u q) ez (subst (λ q. P g q z) et (subst (λ q. P q t z) ef h))
