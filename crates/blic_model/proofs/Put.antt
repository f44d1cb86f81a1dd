-- Points, and assignments, with one level set.
use Rattle.std.proofs.Common.{arith, ℕ, ◌≡◌, ◌<◌}
use mathlib.Core.Path.{fun_ext}
use Rattle.blic_field.specs.Field.{modulus}
use Rattle.blic_model.specs.Value.{Point, put}
use Rattle.blic_model.specs.Degree.{IsPoint}

pub put_here : {A : Type 0} (s : ℕ → A) (x : ℕ) (t : A) → put s x t x ≡ t
put_here s x t = grind arith

pub put_other : {A : Type 0} (s : ℕ → A) (x : ℕ) (t : A) (y : ℕ) → (y ≡ x → ⊥) → put s x t y ≡ s y
put_other s x t y n = grind arith

pub put_twice : {A : Type 0} (s : ℕ → A) (x : ℕ) (t u : A) → put (put s x t) x u ≡ put s x u
put_twice s x t u = fun_ext (λ z. grind arith)

pub put_swap : {A : Type 0} (s : ℕ → A) (x : ℕ) (t : A) (y : ℕ) (u : A) → (y ≡ x → ⊥) → put (put s x t) y u ≡ put (put s y u) x t
put_swap s x t y u n = fun_ext (λ z. grind arith)

pub put_own : {A : Type 0} (s : ℕ → A) (x : ℕ) (t : A) → t ≡ s x → put s x t ≡ s
put_own s x t e = fun_ext (λ z. grind arith)

pub IsPoint-put : (s : Point) (x t : ℕ) → IsPoint s → t < modulus → IsPoint (put s x t)
IsPoint-put s x t h l y = grind arith
