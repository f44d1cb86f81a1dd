-- The points of all claims of a circuit, as they are kept: an element for each claim and each free level of its node.
use Rattle.std.specs.Prelude.{ℕ, suc, ◌+◌, ◌*◌, ◌-◌, ◌≡◌, ◌<◌, Bool, cond, ◌==◌, nat_lt, ◌&&◌, ◌||◌, List, [], ◌∷◌, slice_index_or, map, length}
use Rattle.blic_field.specs.Quadratic.{Quadratic}
use Rattle.blic_model.specs.declared.node.Node.{Node}
use Rattle.blic_model.specs.declared.node.Node.TheVariants.{Const, Var, Not, Fix, And, Or}
use Rattle.blic_model.specs.Circuit.{OrderedCircuit, node_at, below, free}
use Rattle.blic_model.specs.Value.{Point, put, bit}
use Rattle.blic_model.specs.Counts.{claims}
use Rattle.blic_model.specs.Reduction.{poly}
use Rattle.blic_claims.specs.Places.{Places, layout_of, row_at, first_place, second_place}
use Rattle.blic_claims.specs.declared.layout.Row.{Row}

-- the rows of a layout, and the elements
pub record PointTable : Type 0 where
  pub rows : List Row
  pub elements : List ℕ

-- they are of the circuit's claims
abbrev pub ArePointsOf : PointTable → OrderedCircuit → Type 0
ArePointsOf p c = p.rows ≡ (layout_of c).rows

abbrev pub element_place : Row → ℕ → ℕ → ℕ
element_place r c j = r.start + (c * r.width + j)

-- the element of claim c on node k at free level j
abbrev pub coordinate : PointTable → ℕ → ℕ → ℕ → ℕ
coordinate p k c j = slice_index_or p.elements (element_place (row_at p.rows k) c j) 0

-- node k has a claim c and a free level j
abbrev pub IsPlace : List Row → ℕ → ℕ → ℕ → Type 0
IsPlace rows k c j = (k < length rows) × (c < (row_at rows k).claims) × (j < (row_at rows k).width)

-- the point that has these elements at these levels, and 0 elsewhere
abbrev pub point_of : List ℕ → List ℕ → Point
point_of [] es y = 0
point_of (x ∷ xs) [] y = 0
point_of (x ∷ xs) (e ∷ es) y = cond (y == x) e (point_of xs es y)

-- the point of claim c on node k
unfoldable pub stored_point : OrderedCircuit → PointTable → ℕ → ℕ → Point
stored_point circuit p k c =
    let levels = free circuit.nodes (length circuit.order) k in
    point_of levels (map (coordinate p k c) (below (length levels)))

-- the polynomial of claim c on node k in the node's free level j
abbrev pub stored_poly : OrderedCircuit → PointTable → ℕ → ℕ → ℕ → Quadratic
stored_poly circuit p k j c = poly circuit.nodes (length circuit.order) k j (stored_point circuit p k c)

-- free level j of every claim on a node becomes r, and nothing else changes
abbrev pub Draws : PointTable → ℕ → ℕ → ℕ → PointTable → Type 0
Draws old node j r new =
    (k c i : ℕ) → IsPlace old.rows k c i → coordinate new k c i ≡ cond (k == node && i == j) r (coordinate old k c i)

-- whether c is one of the n places from `from` on
abbrev pub is_among : ℕ → ℕ → ℕ → Bool
is_among from n c = nat_lt c (from + n) && nat_lt from (suc c)

-- the point that node k, whose claims are at the points `own`, hands down to claim c of node a; `old` if it hands down none there
abbrev pub handed_point : Places → ℕ → Node → (ℕ → Point) → ℕ → ℕ → Point → Point
handed_point l k (Const b) own a c old = old
handed_point l k (Var x) own a c old = old
handed_point l k (Not b) own a c old = cond (a == b && is_among (first_place l k) (row_at l.rows k).claims c) (own (c - first_place l k)) old
handed_point l k (Fix x v b) own a c old = cond (a == b && is_among (first_place l k) (row_at l.rows k).claims c) (put (own (c - first_place l k)) x (bit v)) old
handed_point l k (And b d) own a c old = cond ((a == b && c == first_place l k) || (a == d && c == second_place l k)) (own 0) old
handed_point l k (Or b d) own a c old = cond ((a == b && c == first_place l k) || (a == d && c == second_place l k)) (own 0) old

-- the claims that node k hands down get their points, restricted to the children's free levels, and nothing else changes
abbrev pub HandsDown : OrderedCircuit → ℕ → PointTable → PointTable → Type 0
HandsDown circuit k old new =
    (a c i : ℕ) → IsPlace old.rows a c i
    → coordinate new a c i
    ≡ handed_point (layout_of circuit) k (node_at circuit.nodes k) (stored_point circuit old k) a c (λ y. coordinate old a c i)
    (slice_index_or (free circuit.nodes (length circuit.order) a) i 0)

-- all claims on node k are at one point
abbrev pub HasOnePoint : OrderedCircuit → PointTable → ℕ → Type 0
HasOnePoint circuit p k =
    (c j : ℕ) → c < claims circuit.nodes k → j < length (free circuit.nodes (length circuit.order) k) → coordinate p k c j ≡ coordinate p k 0 j
