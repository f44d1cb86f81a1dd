-- Degree reduction: a binary node between the product of its operands and its value, one free level after another.
use Rattle.std.specs.Prelude.{ℕ, List, fold, take, slice_index_or}
use Rattle.blic_field.specs.Field.{mul, or}
use Rattle.blic_field.specs.Quadratic.{Quadratic, interpolate}
use Rattle.blic_model.specs.declared.node.Node.{Node}
use Rattle.blic_model.specs.declared.node.Node.TheVariants.{Const, Var, Not, Fix, And, Or}
use Rattle.blic_model.specs.Circuit.{node_at, free}
use Rattle.blic_model.specs.Value.{Point, put, linearize, value}

-- the operands of a binary node at a point: their product, or their or
abbrev pub combined : Node → (ℕ → Point → ℕ) → Point → ℕ
combined (Const b) value s = 0
combined (Var x) value s = 0
combined (Not a) value s = 0
combined (Fix x b a) value s = 0
combined (And a b) value s = mul (value a s) (value b s)
combined (Or a b) value s = or (value a s) (value b s)

-- node k with its first i free levels made linear
unfoldable pub part : List Node → ℕ → ℕ → ℕ → Point → ℕ
part nodes levels k i = fold linearize (combined (node_at nodes k) (value nodes levels)) (take i (free nodes levels k))

-- `part` as a polynomial in free level i, whose other levels are at the point s
unfoldable pub poly : List Node → ℕ → ℕ → ℕ → Point → Quadratic
poly nodes levels k i s = interpolate (λ t. part nodes levels k i (put s (slice_index_or (free nodes levels k) i 0) t))
