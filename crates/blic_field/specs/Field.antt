-- The field of 2^61 - 1 elements: its elements are the numbers below `modulus`.
use Rattle.std.specs.Prelude.{ℕ, ◌≡◌, ◌+◌, ◌*◌, ◌%◌, ◌<◌, ◌⊎◌}

-- how many elements there are
abbrev pub modulus : ℕ
modulus = 2305843009213693951

-- the element -1
abbrev pub minus_one : ℕ
minus_one = 2305843009213693950

-- the inverse of 2, which is 2^60
abbrev pub half : ℕ
half = 1152921504606846976

-- the sum
unfoldable pub add : ℕ → ℕ → ℕ
add a b = (a + b) % modulus

-- the product
unfoldable pub mul : ℕ → ℕ → ℕ
mul a b = (a * b) % modulus

-- the negative: minus one times a
unfoldable pub neg : ℕ → ℕ
neg a = (minus_one * a) % modulus

-- the difference: a plus minus one times b
unfoldable pub sub : ℕ → ℕ → ℕ
sub a b = (a + minus_one * b) % modulus

-- the or of two values, u + w - u*w: at 0 and 1 it is that of two bits
unfoldable pub or : ℕ → ℕ → ℕ
or u w = sub (add u w) (mul u w)

-- the value at s on the line that is u at 0 and w at 1
unfoldable pub blend : ℕ → ℕ → ℕ → ℕ
blend s u w = add (mul (sub 1 s) u) (mul s w)

-- a number above one that only one and itself divide
abbrev pub IsPrime : ℕ → Type 0
IsPrime p = (1 < p) × ((d : ℕ) → p % d ≡ 0 → (d ≡ 1) ⊎ (d ≡ p))
