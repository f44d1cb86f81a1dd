-- The rules by which `simp ring` turns an equation between elements into one of numbers modulo `modulus`, for `omega`.
use Rattle.std.proofs.Common.{ℕ, ◌≡◌, ◌+◌, ◌*◌, ◌<◌, arith, refl}
use Prim.Native.Nat.{◌%◌}
use Rattle.std.proofs.lemmas.Nat.{mul-mod_first, mul-mod_second}
use Rattle.blic_field.specs.Field.{modulus, minus_one, half, add, mul, neg, sub, or, blend}

pub add-def : (a b : ℕ) → add a b ≡ (a + b) % modulus
unfolding add
add-def a b = refl

pub mul-def : (a b : ℕ) → mul a b ≡ (a * b) % modulus
unfolding mul
mul-def a b = refl

pub neg-def : (a : ℕ) → neg a ≡ (minus_one * a) % modulus
unfolding neg
neg-def a = refl

pub sub-def : (a b : ℕ) → sub a b ≡ (a + minus_one * b) % modulus
unfolding sub
sub-def a b = refl

pub or-def : (u w : ℕ) → or u w ≡ sub (add u w) (mul u w)
unfolding or
or-def u w = refl

pub blend-def : (s u w : ℕ) → blend s u w ≡ add (mul (sub 1 s) u) (mul s w)
unfolding blend
blend-def s u w = refl

pub mod_add_left : (a b : ℕ) → (a % modulus + b) % modulus ≡ (a + b) % modulus
mod_add_left a b = omega arith

pub mod_add_right : (a b : ℕ) → (a + b % modulus) % modulus ≡ (a + b) % modulus
mod_add_right a b = omega arith

-- a reduced number behind the factor minus one
pub mod_minus : (a b : ℕ) → (a + minus_one * (b % modulus)) % modulus ≡ (a + minus_one * b) % modulus
mod_minus a b = omega arith

pub mod_mul_left : (a b : ℕ) → (a % modulus * b) % modulus ≡ (a * b) % modulus
mod_mul_left a b = mul-mod_first a b modulus

pub mod_mul_right : (a b : ℕ) → (a * (b % modulus)) % modulus ≡ (a * b) % modulus
mod_mul_right a b = mul-mod_second a b modulus

pub ruleset ring = (add-def, mul-def, neg-def, sub-def, or-def, blend-def, mod_add_left, mod_add_right, mod_mul_left, mod_mul_right, mod_minus)

-- what the operations give is an element

pub add_below : (a b : ℕ) → add a b < modulus
unfolding add
add_below a b = omega arith

pub mul_below : (a b : ℕ) → mul a b < modulus
unfolding mul
mul_below a b = omega arith

pub neg_below : (a : ℕ) → neg a < modulus
unfolding neg
neg_below a = omega arith

pub sub_below : (a b : ℕ) → sub a b < modulus
unfolding sub
sub_below a b = omega arith

pub or_below : (u w : ℕ) → or u w < modulus
unfolding or
or_below u w = sub_below (add u w) (mul u w)

pub blend_below : (s u w : ℕ) → blend s u w < modulus
unfolding blend
blend_below s u w = add_below (mul (sub 1 s) u) (mul s w)

-- the laws of a commutative ring

pub add_comm : (a b : ℕ) → add a b ≡ add b a
add_comm a b = simp ring (omega arith)

pub add_assoc : (a b c : ℕ) → add (add a b) c ≡ add a (add b c)
add_assoc a b c = simp ring (omega arith)

pub add_zero : (a : ℕ) → a < modulus → add a 0 ≡ a
add_zero a l = simp ring (omega arith)

pub add_neg : (a : ℕ) → add a (neg a) ≡ 0
add_neg a = simp ring (omega arith)

pub neg_one : neg 1 ≡ minus_one
neg_one = simp ring (omega arith)

pub add_halves : add half half ≡ 1
add_halves = simp ring (omega arith)

pub sub_is : (a b : ℕ) → sub a b ≡ add a (neg b)
sub_is a b = simp ring (omega arith)

pub mul_comm : (a b : ℕ) → mul a b ≡ mul b a
mul_comm a b = simp ring (omega arith)

pub mul_assoc : (a b c : ℕ) → mul (mul a b) c ≡ mul a (mul b c)
mul_assoc a b c = simp ring (omega arith)

pub mul_one : (a : ℕ) → a < modulus → mul a 1 ≡ a
mul_one a l = simp ring (omega arith)

pub mul_add : (a b c : ℕ) → mul a (add b c) ≡ add (mul a b) (mul a c)
mul_add a b c = simp ring (omega arith)
