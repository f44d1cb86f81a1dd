-- A node's value is of degree at most 1 in each level.
use Rattle.std.proofs.Common.{arith, ℕ, zero, suc, ◌≡◌, ◌<◌, refl, sym, ◌∙◌, ap, subst, inl, inr, List, [], ◌∷◌, Bool, true}
use Rattle.std.specs.Prelude.{fold, filter}
use mathlib.Core.Path.{fun_ext}
use Rattle.std.proofs.lemmas.Bool.{cases_eq, cases_Bool}
use Rattle.std.proofs.lemmas.List.Elements.{filter-append}
use Rattle.std.proofs.lemmas.List.Sums.{fold-append}
use Rattle.blic_field.specs.Field.{modulus, add, mul, or}
use Rattle.blic_field.proofs.Ring.{ring}
use Rattle.blic_model.specs.declared.node.Node.{Node}
use Rattle.blic_model.specs.declared.node.Node.TheVariants.{Const, Var, Not, Fix, And, Or}
use Rattle.blic_model.specs.Circuit.{node_at, below, is_free}
use Rattle.blic_model.specs.Value.{Point, put, bit, linearize, value_step, value}
use Rattle.blic_model.specs.Degree.{GivesElements, IsLinear}
use Rattle.blic_model.proofs.Put.{put_here, put_other, put_twice, put_swap, IsPoint-put}
use Rattle.blic_model.proofs.Ordered.{ChildrenBelow, AllOrdered, strong}
use Rattle.blic_model.proofs.Entries.{value-step}
use Rattle.blic_model.proofs.Degrees.{IsLinear-from_ignores, IsLinear-sub, IsLinear-linearize_here, IsLinear-fold}
use Rattle.blic_model.proofs.Values.{bit_below, free_is, value_below, value_ignores}

filter_one : (test : ℕ → Bool) (n : ℕ) → test n ≡ true → filter test (n ∷ []) ≡ n ∷ []
filter_one test n e = rw e refl

fold_below_suc : (test : ℕ → Bool) (n : ℕ) (f : Point → ℕ)
    → fold linearize f (filter test (below (suc n))) ≡ fold linearize (fold linearize f (filter test (below n))) (filter test (n ∷ []))
unfolding below
fold_below_suc test n f =
    ap (fold linearize f) (filter-append test (below n) (n ∷ [])) ∙ fold-append linearize f (filter test (below n)) (filter test (n ∷ []))

linear_here : (test : ℕ → Bool) (x : ℕ) → test x ≡ true → (n : ℕ) → x < n → (f : Point → ℕ) → IsLinear (fold linearize f (filter test (below n))) x
linear_here test x e zero l f = absurd (omega arith)
linear_here test x e (suc n) l f =
    subst (λ g. IsLinear g x) (sym (fold_below_suc test n f))
    (elim (cases_eq x n) [
      | inl q ↦ subst (λ ys. IsLinear (fold linearize (fold linearize f (filter test (below n))) ys) x) (sym (filter_one test n (subst (λ z. test z ≡ true) q e)))
          (subst (λ z. IsLinear (linearize (fold linearize f (filter test (below n))) n) z) (sym q) (IsLinear-linearize_here (fold linearize f (filter test (below n))) n))
      | inr ne ↦ IsLinear-fold (filter test (n ∷ [])) _ x (linear_here test x e n (omega arith) f)
    ])

flat : (a t : ℕ) → a < modulus → a ≡ add a (mul 0 t)
flat a t l = simp ring (omega arith)

own : (t : ℕ) → t < modulus → t ≡ add 0 (mul 1 t)
own t l = simp ring (omega arith)

linear_step : (nodes : List Node) (levels x : ℕ) → x < levels → (k : ℕ) → is_free nodes k x ≡ true → ((j : ℕ) → GivesElements (value nodes levels j))
    → ((j : ℕ) → j < k → IsLinear (value nodes levels j) x)
    → (m : Node) → ChildrenBelow k m → IsLinear (value_step nodes levels k m (value nodes levels)) x
linear_step nodes levels x l k e v ih (Const b) h s p = (bit b, 0, λ t q. flat (bit b) t (bit_below b))
linear_step nodes levels x l k e v ih (Var y) h s p = elim (cases_eq y x) [
  | inl q ↦ (0, 1, λ t r. subst (λ z. put s x t z ≡ add 0 (mul 1 t)) (sym q) (put_here s x t ∙ own t r))
  | inr ne ↦ (s y, 0, λ t r. put_other s x t y ne ∙ flat (s y) t (p y))
]
linear_step nodes levels x l k e v ih (Not a) h s p = IsLinear-sub (value nodes levels a) x (ih a h) s p
linear_step nodes levels x l k e v ih (Fix y b a) h s p = elim (cases_eq y x) [
  | inl q ↦ (value nodes levels a (put s y (bit b)), 0, λ t r. ap (value nodes levels a) (subst (λ w. put (put s w t) y (bit b) ≡ put s y (bit b)) q (put_twice s y t (bit b))) ∙ flat _ t (v a (put s y (bit b)) (IsPoint-put s y (bit b) p (bit_below b))))
  | inr ne ↦
      let w = ih a h (put s y (bit b)) (IsPoint-put s y (bit b) p (bit_below b)) in
      (w.0, w.1, λ t r. ap (value nodes levels a) (put_swap s x t y (bit b) ne) ∙ w.2 t r)
]
linear_step nodes levels x l k e v ih (And a b) h s p =
    rw (free_is nodes levels k) (linear_here (is_free nodes k) x e levels l (λ r. mul (value nodes levels a r) (value nodes levels b r)) s p)
linear_step nodes levels x l k e v ih (Or a b) h s p =
    rw (free_is nodes levels k) (linear_here (is_free nodes k) x e levels l (λ r. or (value nodes levels a r) (value nodes levels b r)) s p)

-- A value is of degree at most 1 in each level.
pub value_linear : (nodes : List Node) (levels : ℕ) → AllOrdered nodes → (x : ℕ) → x < levels → (k : ℕ) → IsLinear (value nodes levels k) x
value_linear nodes levels o x l = strong (λ k. IsLinear (value nodes levels k) x)
    (λ k ih. elim (cases_Bool (is_free nodes k x)) [
      | inl e ↦ subst (λ f. IsLinear f x) (sym (fun_ext (value-step nodes levels k (o k)))) (linear_step nodes levels x l k e (value_below nodes levels o) ih (node_at nodes k) (o k))
      | inr e ↦ IsLinear-from_ignores (value nodes levels k) x (value_below nodes levels o k) (value_ignores nodes levels o x k e)
    ])
