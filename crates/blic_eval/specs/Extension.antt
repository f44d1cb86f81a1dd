-- The polynomial of a Boolean function, and of two of them joined.
use Rattle.std.specs.Prelude.{ℕ, Bool, ◌==◌, fold}
use Rattle.blic_field.specs.Field.{mul, or}
use Rattle.blic_field.specs.Quadratic.{Quadratic, interpolate}
use Rattle.blic_model.specs.Circuit.{below}
use Rattle.blic_model.specs.Value.{Point, put, bit, linearize}
use Rattle.blic_store.specs.Function.{Function}
use Rattle.blic_apply.specs.declared.operation.Op.{Op}
use Rattle.blic_apply.specs.declared.operation.Op.TheVariants.{And, Or}

-- the bits of a point: whether each level's element is 1
abbrev pub bits_of : Point → ℕ → Bool
bits_of s x = s x == 1

-- a Boolean function at points: linear in each of the topmost levels, of which there are so many, and at bits the function itself
unfoldable pub extension : Function → ℕ → Point → ℕ
extension f levels = fold linearize (λ s. bit (f (bits_of s))) (below levels)

-- two values joined: their product, or their or
abbrev pub joined : Op → ℕ → ℕ → ℕ
joined And u w = mul u w
joined Or u w = or u w

-- the two functions joined, made linear in each level above `level`, as a polynomial in that level whose other levels are at the point s
unfoldable pub joined_poly : Op → Function → Function → ℕ → ℕ → Point → Quadratic
joined_poly op f g levels level s =
    interpolate (λ t. fold linearize (λ r. joined op (extension f levels r) (extension g levels r)) (below level) (put s level t))
