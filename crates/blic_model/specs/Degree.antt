-- How a function of points depends on the levels.
use Rattle.std.specs.Prelude.{◌≡◌, ◌<◌, ℕ, Bool, true}
use Rattle.blic_field.specs.Field.{modulus, add, mul}
use Rattle.blic_model.specs.Value.{Point, put}

-- each level has an element
abbrev pub IsPoint : Point → Type 0
IsPoint s = (x : ℕ) → s x < modulus

-- at points, the values of f are elements
abbrev pub GivesElements : (Point → ℕ) → Type 0
GivesElements f = (s : Point) → IsPoint s → f s < modulus

-- f is of degree at most 1 in level x
abbrev pub IsLinear : (Point → ℕ) → ℕ → Type 0
IsLinear f x = (s : Point) → IsPoint s → (a : ℕ) × (b : ℕ) × ((t : ℕ) → t < modulus → f (put s x t) ≡ add a (mul b t))

-- f is of degree at most 2 in level x
abbrev pub IsQuadratic : (Point → ℕ) → ℕ → Type 0
IsQuadratic f x = (s : Point) → IsPoint s → (a : ℕ) × (b : ℕ) × (c : ℕ) × ((t : ℕ) → t < modulus → f (put s x t) ≡ add a (add (mul b t) (mul c (mul t t))))

-- f gives two points, or assignments, the same value if they agree at each level of the test
abbrev pub DependsOn : {A : Type 0} → ((ℕ → A) → ℕ) → (ℕ → Bool) → Type 0
DependsOn {A} f test = (s r : ℕ → A) → ((x : ℕ) → test x ≡ true → s x ≡ r x) → f s ≡ f r
