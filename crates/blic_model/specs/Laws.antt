-- What holds of the values of circuits, of their degree reduction, and of the circuits of formulas. Nothing is assumed of the modulus.
use Rattle.std.specs.Prelude.{◌≡◌, ◌+◌, ◌<◌, ℕ, Bool, true, List, slice_index_or, length, drop, sum_by}
use Rattle.blic_field.specs.Field.{modulus}
use Rattle.blic_field.specs.Quadratic.{Quadratic, at, HasElements}
use Rattle.blic_model.specs.declared.node.Node.{Node}
use Rattle.blic_model.specs.Formula.{PrenexFormula}
use Rattle.blic_model.specs.Limits.{IsFormula}
use Rattle.blic_model.specs.Truth.{truth}
use Rattle.blic_model.specs.Circuit.{node_at, root, below, free_step, is_free, free}
use Rattle.blic_model.specs.Building.{circuit_of}
use Rattle.blic_model.specs.Value.{Point, RootIs, put, bit, holds_step, holds, linearize, value_step, value}
use Rattle.blic_model.specs.Counts.{is_binary, handed_down, claims}
use Rattle.blic_model.specs.Reduction.{combined, part, poly}
use Rattle.blic_model.specs.Degree.{IsPoint, GivesElements, IsLinear, IsQuadratic, DependsOn}
use Rattle.blic_model.specs.Order.{IsOrdered}

-- free level i of node k
abbrev pub free_level : List Node → ℕ → ℕ → ℕ → ℕ
free_level nodes levels k i = slice_index_or (free nodes levels k) i 0

-- whether a node depends on a level follows from whether its children do
abbrev pub FreeFollowsChildren : Type 0
FreeFollowsChildren =
    (nodes : List Node) → IsOrdered nodes → (k : ℕ) → k < length nodes
    → (x : ℕ) → is_free nodes k x ≡ free_step k (node_at nodes k) (is_free nodes) x

-- a node's Boolean value follows from those of its children
abbrev pub HoldsFollowsChildren : Type 0
HoldsFollowsChildren =
    (nodes : List Node) → IsOrdered nodes → (k : ℕ) → k < length nodes
    → (a : ℕ → Bool) → holds nodes k a ≡ holds_step k (node_at nodes k) (holds nodes) a

-- a node's value at a point follows from the values of its children
abbrev pub ValueFollowsChildren : Type 0
ValueFollowsChildren =
    (nodes : List Node) (levels : ℕ) → IsOrdered nodes → (k : ℕ) → k < length nodes
    → (s : Point) → value nodes levels k s ≡ value_step nodes levels k (node_at nodes k) (value nodes levels) s

-- the numbers of the nodes after node k, up to the root
abbrev pub numbers_after : List Node → ℕ → List ℕ
numbers_after nodes k = drop (k + 1) (below (length nodes))

-- the root has one claim
abbrev pub RootHasOneClaim : Type 0
RootHasOneClaim = (nodes : List Node) → claims nodes (root nodes) ≡ 1

-- another node has the sum of the claims that the nodes after it hand down to it
abbrev pub ClaimsFollowParents : Type 0
ClaimsFollowParents =
    (nodes : List Node) (k : ℕ) → k < root nodes
    → claims nodes k ≡ sum_by (λ j. handed_down (node_at nodes j) (claims nodes j) k) (numbers_after nodes k)

-- at a point of bits a node's value is its Boolean value
abbrev pub ValueIsBoolean : Type 0
ValueIsBoolean = (nodes : List Node) (levels : ℕ) → IsOrdered nodes → (k : ℕ) (a : ℕ → Bool) → value nodes levels k (λ x. bit (a x)) ≡ bit (holds nodes k a)

-- a node's value depends on its free levels alone
abbrev pub ValueDependsOnFree : Type 0
ValueDependsOnFree = (nodes : List Node) (levels : ℕ) → IsOrdered nodes → (k : ℕ) → DependsOn (value nodes levels k) (is_free nodes k)

-- and so does each part of it
abbrev pub PartDependsOnFree : Type 0
PartDependsOnFree = (nodes : List Node) (levels : ℕ) → IsOrdered nodes → (k i : ℕ) → DependsOn (part nodes levels k i) (is_free nodes k)

-- a node's value at a point is an element
abbrev pub ValueIsElement : Type 0
ValueIsElement = (nodes : List Node) (levels : ℕ) → IsOrdered nodes → (k : ℕ) → GivesElements (value nodes levels k)

-- a node's value is of degree at most 1 in each level
abbrev pub ValueIsLinear : Type 0
ValueIsLinear = (nodes : List Node) (levels : ℕ) → IsOrdered nodes → (k x : ℕ) → x < levels → IsLinear (value nodes levels k) x

-- each part of a node is of degree at most 2 in each level
abbrev pub PartIsQuadratic : Type 0
PartIsQuadratic = (nodes : List Node) (levels : ℕ) → IsOrdered nodes → (k i x : ℕ) → x < levels → IsQuadratic (part nodes levels k i) x

-- and of degree at most 1 in each level that is reduced
abbrev pub ReducedIsLinear : Type 0
ReducedIsLinear =
    (nodes : List Node) (levels k i j : ℕ) → j < i → j < length (free nodes levels k) → IsLinear (part nodes levels k i) (free_level nodes levels k j)

-- if no level is reduced, the part is the operands combined
abbrev pub FirstPart : Type 0
FirstPart = (nodes : List Node) (levels k : ℕ) (s : Point) → part nodes levels k 0 s ≡ combined (node_at nodes k) (value nodes levels) s

-- the part with one more level reduced is the part made linear in that level
abbrev pub NextPart : Type 0
NextPart =
    (nodes : List Node) (levels k i : ℕ) → i < length (free nodes levels k)
    → (s : Point) → part nodes levels k (i + 1) s ≡ linearize (part nodes levels k i) (free_level nodes levels k i) s

-- if each level is reduced, the part of a binary node is its value
abbrev pub LastPart : Type 0
LastPart =
    (nodes : List Node) (levels : ℕ) → IsOrdered nodes → (k : ℕ) → is_binary (node_at nodes k) ≡ true
    → (s : Point) → part nodes levels k (length (free nodes levels k)) s ≡ value nodes levels k s

-- the polynomial of a level gives the part's value at each element
abbrev pub PolyGivesPart : Type 0
PolyGivesPart =
    (nodes : List Node) (levels : ℕ) → IsOrdered nodes → (k i : ℕ) → i < length (free nodes levels k) → (s : Point) → IsPoint s
    → (t : ℕ) → t < modulus → at (poly nodes levels k i s) t ≡ part nodes levels k i (put s (free_level nodes levels k i) t)

-- its coefficients are elements
abbrev pub PolyHasElements : Type 0
PolyHasElements = (nodes : List Node) (levels k i : ℕ) (s : Point) → HasElements (poly nodes levels k i s)

-- and no other polynomial with elements for coefficients gives the part's values
abbrev pub PolyIsUnique : Type 0
PolyIsUnique =
    (nodes : List Node) (levels : ℕ) → IsOrdered nodes → (k i : ℕ) → i < length (free nodes levels k) → (s : Point) → IsPoint s
    → (p : Quadratic) → HasElements p → ((t : ℕ) → t < modulus → at p t ≡ part nodes levels k i (put s (free_level nodes levels k i) t))
    → p ≡ poly nodes levels k i s

-- the value of the root of a formula's circuit is the formula's truth, at every point
abbrev pub RootValueIsTruth : Type 0
RootValueIsTruth = (f : PrenexFormula) → IsFormula f → RootIs (circuit_of f) (truth f)
