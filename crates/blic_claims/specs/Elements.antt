-- Private: rows and points in one list of elements; only points speak of it.
use Rattle.std.specs.Prelude.{ℕ, zero, suc, ◌≡◌, ◌+◌, ◌*◌, ◌-◌, ◌<◌, ◌≤◌, ◌⊎◌, Bool, cond, ◌==◌, ◌&&◌, List, [], ◌∷◌, slice_index, slice_set, map, length, Option, Some, None}
use Rattle.blic_model.specs.Circuit.{OrderedCircuit, below, free}
use Rattle.blic_model.specs.Value.{Point, put, bit}
use Rattle.blic_claims.specs.Places.{row_at}
use Rattle.blic_claims.specs.Points.{PointTable, IsPlace, coordinate, point_of, stored_point, is_among}
use Rattle.blic_claims.specs.declared.layout.Row.{Row}
use Rattle.blic_claims.specs.declared.elements.Fixed.{Fixed}

-- the rows follow each other and fill the list
abbrev pub spaced : ℕ → List Row → ℕ → Bool
spaced at [] end = at == end
spaced at (r ∷ rs) end = (r.start == at) && spaced (at + r.claims * r.width) rs end

-- in the first n of the blocks of `width` elements from `start` on, element j becomes r
abbrev pub column : ℕ → ℕ → ℕ → ℕ → ℕ → List ℕ → List ℕ
column start width j r zero xs = xs
column start width j r (suc c) xs = slice_set (column start width j r c xs) (start + (c * width + j)) r

-- the free levels of a node
abbrev pub levels_of : OrderedCircuit → ℕ → List ℕ
levels_of c k = free c.nodes (length c.order) k

-- the point that has the elements from `start` on at these levels
abbrev pub point_from : List ℕ → ℕ → List ℕ → Point
point_from levels start elements = point_of levels (map (λ j. slice_index elements (start + j)) (below (length levels)))

-- the bit of a level, if it is the one that is fixed
abbrev pub fixed_bit : Option Fixed → ℕ → Option Bool
fixed_bit None y = None
fixed_bit (Some f) y = cond (y == f.level) (Some f.bit) None

-- the point with the level fixed
abbrev pub fixed_point : Option Fixed → Point → Point
fixed_point None s = s
fixed_point (Some f) s = put s f.level (bit f.bit)

-- from `to` on stand the elements of the point at the levels
abbrev pub HasPointAt : List ℕ → ℕ → Point → List ℕ → Type 0
HasPointAt elements to s levels = (i : ℕ) → i < length levels → slice_index elements (to + i) ≡ s (slice_index levels i)

-- the elements stay, but for the n from `to` on
abbrev pub StaysOutside : ℕ → ℕ → List ℕ → List ℕ → Type 0
StaysOutside to n old new = (q : ℕ) → (q < to) ⊎ (to + n ≤ q) → slice_index new q ≡ slice_index old q

-- this level stands in the list, from place j on
abbrev pub StandsFrom : ℕ → List ℕ → ℕ → Type 0
StandsFrom j levels y = (m : ℕ) × (j ≤ m) × (m < length levels) × (slice_index levels m ≡ y)

-- each level of the second list that isn't fixed is one of the first list
abbrev pub Covers : List ℕ → Option Fixed → List ℕ → Type 0
Covers levels fixed more = (i : ℕ) → i < length more → fixed_bit fixed (slice_index more i) ≡ None → StandsFrom 0 levels (slice_index more i)

-- claim `place` on the child gets the point of the claim on the node, with the level fixed, and nothing else changes
abbrev pub HandsPoint : OrderedCircuit → PointTable → ℕ → ℕ → Option Fixed → ℕ → ℕ → PointTable → Type 0
HandsPoint circuit old node claim fixed child place new =
    (a c i : ℕ) → IsPlace old.rows a c i
    → coordinate new a c i
    ≡ cond (a == child && c == place) (fixed_point fixed (stored_point circuit old node claim) (slice_index (levels_of circuit a) i)) (coordinate old a c i)

-- the claims on the child from `first` on get the points of the claims on the node
abbrev pub HandsAll : OrderedCircuit → PointTable → ℕ → ℕ → Option Fixed → ℕ → ℕ → PointTable → Type 0
HandsAll circuit old node count fixed child first new =
    (a c i : ℕ) → IsPlace old.rows a c i
    → coordinate new a c i
    ≡ cond (a == child && is_among first count c) (fixed_point fixed (stored_point circuit old node (c - first)) (slice_index (levels_of circuit a) i))
    (coordinate old a c i)

-- the claims on the child from `first` on get the elements of the claims on the node, and nothing else changes
abbrev pub CopiesClaims : PointTable → ℕ → ℕ → ℕ → PointTable → Type 0
CopiesClaims old node child first new =
    (a c i : ℕ) → IsPlace old.rows a c i
    → coordinate new a c i
    ≡ cond (a == child && is_among first (row_at old.rows node).claims c) (coordinate old node (c - first) i) (coordinate old a c i)
