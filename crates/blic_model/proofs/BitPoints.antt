-- At a point of bits a node's value is its Boolean value.
use Rattle.std.proofs.Common.{arith, ℕ, ◌≡◌, ◌<◌, refl, sym, ◌∙◌, ap, inl, inr, List, [], ◌∷◌, Bool, true, false, not, ◌&&◌, ◌||◌}
use Rattle.std.specs.Prelude.{fold}
use mathlib.Core.Path.{ap₂, fun_ext}
use Rattle.std.proofs.lemmas.Bool.{cases_Bool}
use Rattle.blic_field.specs.Field.{modulus, add, mul, sub, or, blend}
use Rattle.blic_field.proofs.Ring.{ring, mul_below, or_below}
use Rattle.blic_model.specs.declared.node.Node.{Node}
use Rattle.blic_model.specs.declared.node.Node.TheVariants.{Const, Var, Not, Fix, And, Or}
use Rattle.blic_model.specs.Circuit.{node_at, free}
use Rattle.blic_model.specs.Value.{Point, put, bit, linearize, value_step, value, holds_step, holds}
use Rattle.blic_model.specs.Degree.{IsPoint, GivesElements}
use Rattle.blic_model.proofs.Put.{put_own}
use Rattle.blic_model.proofs.Ordered.{ChildrenBelow, AllOrdered, strong}
use Rattle.blic_model.proofs.Entries.{value-step, holds-step}
use Rattle.blic_model.proofs.Degrees.{linearize-def}
use Rattle.blic_model.proofs.Values.{bit_below, GivesElements-linearize}

abbrev pub bits : (ℕ → Bool) → Point
bits a x = bit (a x)

bits-put : (a : ℕ → Bool) (x : ℕ) (b : Bool) → put (bits a) x (bit b) ≡ bits (put a x b)
bits-put a x b = fun_ext (λ z. grind arith)

one : (u w : ℕ) → w < modulus → blend 1 u w ≡ w
one u w l = simp ring (omega arith)

nought : (u w : ℕ) → w < modulus → blend 0 w u ≡ w
nought u w l = simp ring (omega arith)

linearize_bit : (f : Point → ℕ) (x : ℕ) (a : ℕ → Bool) → f (bits a) < modulus → linearize f x (bits a) ≡ f (bits a)
linearize_bit f x a l = linearize-def f x (bits a) ∙ elim (cases_Bool (a x)) [
  | inl e ↦ rw (ap bit e) (rw (put_own (bits a) x 1 (sym (ap bit e))) (one _ _ l))
  | inr e ↦ rw (ap bit e) (rw (put_own (bits a) x 0 (sym (ap bit e))) (nought _ _ l))
]

fold_bit : (xs : List ℕ) (f : Point → ℕ) (a : ℕ → Bool) → GivesElements f → IsPoint (bits a) → fold linearize f xs (bits a) ≡ f (bits a)
fold_bit [] f a h p = refl
fold_bit (y ∷ ys) f a h p = fold_bit ys (linearize f y) a (GivesElements-linearize f y) p ∙ linearize_bit f y a (h (bits a) p)

bit_not : (b : Bool) → sub 1 (bit b) ≡ bit (not b)
unfolding sub
bit_not true = refl
bit_not false = refl

bit_and : (b c : Bool) → mul (bit b) (bit c) ≡ bit (b && c)
unfolding mul
bit_and true true = refl
bit_and true false = refl
bit_and false true = refl
bit_and false false = refl

bit_or : (b c : Bool) → or (bit b) (bit c) ≡ bit (b || c)
unfolding or add mul sub
bit_or true true = refl
bit_or true false = refl
bit_or false true = refl
bit_or false false = refl

holds_step_bit : (nodes : List Node) (levels k : ℕ) → ((j : ℕ) → j < k → (a : ℕ → Bool) → value nodes levels j (bits a) ≡ bit (holds nodes j a))
    → (m : Node) → ChildrenBelow k m → (a : ℕ → Bool)
    → value_step nodes levels k m (value nodes levels) (bits a) ≡ bit (holds_step k m (holds nodes) a)
holds_step_bit nodes levels k ih (Const b) h a = refl
holds_step_bit nodes levels k ih (Var x) h a = refl
holds_step_bit nodes levels k ih (Not c) h a = ap (λ z. sub 1 z) (ih c h a) ∙ bit_not _
holds_step_bit nodes levels k ih (Fix x b c) h a = ap (value nodes levels c) (bits-put a x b) ∙ ih c h (put a x b)
holds_step_bit nodes levels k ih (And c d) h a =
    fold_bit (free nodes levels k) _ a (λ r q. mul_below _ _) (λ x. bit_below (a x)) ∙ (ap₂ mul (ih c h.0 a) (ih d h.1 a) ∙ bit_and _ _)
holds_step_bit nodes levels k ih (Or c d) h a =
    fold_bit (free nodes levels k) _ a (λ r q. or_below _ _) (λ x. bit_below (a x)) ∙ (ap₂ or (ih c h.0 a) (ih d h.1 a) ∙ bit_or _ _)

pub value_holds : (nodes : List Node) (levels : ℕ) → AllOrdered nodes → (k : ℕ) (a : ℕ → Bool) → value nodes levels k (bits a) ≡ bit (holds nodes k a)
value_holds nodes levels o = strong (λ k. (a : ℕ → Bool) → value nodes levels k (bits a) ≡ bit (holds nodes k a))
    (λ k ih a. value-step nodes levels k (o k) (bits a) ∙ (holds_step_bit nodes levels k ih (node_at nodes k) (o k) a ∙ sym (ap bit (holds-step nodes k (o k) a))))
