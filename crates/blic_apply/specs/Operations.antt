-- Operations on Boolean functions.
use Rattle.std.specs.Prelude.{ℕ, Bool, cond, not, ◌&&◌, ◌||◌, ◌==◌}
use Rattle.blic_store.specs.Function.{Function}
use Rattle.blic_apply.specs.declared.operation.Op.{Op}
use Rattle.blic_apply.specs.declared.operation.Op.TheVariants.{And, Or}

-- two functions joined at each point
abbrev pub combined : Op → Function → Function → Function
combined And f g p = f p && g p
combined Or f g p = f p || g p

-- the other value at each point
abbrev pub negated : Function → Function
negated f p = not (f p)

-- the function with a level's bit fixed
abbrev pub fixed : ℕ → Bool → Function → Function
fixed level bit f p = f (λ x. cond (x == level) bit (p x))
