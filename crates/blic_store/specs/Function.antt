-- Boolean functions over levels, and their parts.
use Rattle.std.specs.Prelude.{ℕ, ◌≡◌, Bool, cond, List, slice_index_or}

-- a Boolean function of a point, which gives each level its bit
abbrev pub Function : Type 0
Function = (ℕ → Bool) → Bool

-- two functions that agree at all points
abbrev pub Same : Function → Function → Type 0
Same f g = (p : ℕ → Bool) → f p ≡ g p

-- `high` if the level's bit is set, else `low`
abbrev pub choice : ℕ → Function → Function → Function
choice level low high p = cond (p level) (high p) (low p)

-- the point with its topmost bits replaced
abbrev pub after : List Bool → (ℕ → Bool) → ℕ → Bool
after bits p x = slice_index_or bits x (p x)

-- g is f with some topmost levels fixed
abbrev pub IsPart : Function → Function → Type 0
IsPart f g = (bits : List Bool) × Same g (λ p. f (after bits p))
