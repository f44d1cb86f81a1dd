-- What a node means: its Boolean value at an assignment of the levels, and its value at a point (arithmetization).
use Rattle.std.specs.Prelude.{ℕ, ◌≡◌, Bool, false, cond, not, ◌&&◌, ◌||◌, ◌==◌, List, fold, length}
use Rattle.blic_field.specs.Field.{mul, sub, or, blend}
use Rattle.blic_model.specs.declared.node.Node.{Node}
use Rattle.blic_model.specs.declared.node.Node.TheVariants.{Const, Var, Not, Fix, And, Or}
use Rattle.blic_model.specs.Circuit.{OrderedCircuit, at_node, free, root}

-- s with level x set to t
abbrev pub put : {A : Type 0} → (ℕ → A) → ℕ → A → ℕ → A
put s x t y = cond (y == x) t (s y)

-- the Boolean value of a node; no field is in it
abbrev pub holds_step : ℕ → Node → (ℕ → (ℕ → Bool) → Bool) → (ℕ → Bool) → Bool
holds_step k (Const b) holds a = b
holds_step k (Var x) holds a = a x
holds_step k (Not c) holds a = not (holds c a)
holds_step k (Fix x b c) holds a = holds c (put a x b)
holds_step k (And c d) holds a = holds c a && holds d a
holds_step k (Or c d) holds a = holds c a || holds d a

unfoldable pub holds : List Node → ℕ → (ℕ → Bool) → Bool
holds nodes = at_node (λ a. false) holds_step nodes

-- a point gives an element to each level
abbrev pub Point : Type 0
Point = ℕ → ℕ

-- 1 for true and 0 for false
abbrev pub bit : Bool → ℕ
bit b = cond b 1 0

-- f made linear in level x: on the line through its values with the level at 0 and at 1
unfoldable pub linearize : (Point → ℕ) → ℕ → Point → ℕ
linearize f x s = blend (s x) (f (put s x 0)) (f (put s x 1))

-- the value of a node; that of a binary one is the product or the or of its operands, made linear in each free level
abbrev pub value_step : List Node → ℕ → ℕ → Node → (ℕ → Point → ℕ) → Point → ℕ
value_step nodes levels k (Const b) value s = bit b
value_step nodes levels k (Var x) value s = s x
value_step nodes levels k (Not a) value s = sub 1 (value a s)
value_step nodes levels k (Fix x b a) value s = value a (put s x (bit b))
value_step nodes levels k (And a b) value s = fold linearize (λ r. mul (value a r) (value b r)) (free nodes levels k) s
value_step nodes levels k (Or a b) value s = fold linearize (λ r. or (value a r) (value b r)) (free nodes levels k) s

unfoldable pub value : List Node → ℕ → ℕ → Point → ℕ
value nodes levels = at_node (λ s. 0) (value_step nodes levels) nodes

-- the value of the circuit's root is the bit, at every point
abbrev pub RootIs : OrderedCircuit → Bool → Type 0
RootIs c t = (s : Point) → value c.nodes (length c.order) (root c.nodes) s ≡ bit t
