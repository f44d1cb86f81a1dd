-- What the values of nodes are: elements, which don't depend on levels that are not free.
use Rattle.std.proofs.Common.{arith, ℕ, ◌≡◌, ◌<◌, refl, sym, ◌∙◌, ap, subst, inl, inr, List, [], ◌∷◌, Bool, true, false, not, ◌&&◌, eqb, cond}
use Rattle.std.specs.Prelude.{fold, filter}
use mathlib.Core.Path.{ap₂}
use Rattle.std.proofs.lemmas.Bool.{cases_eq, cases_Bool, eqb-false, ne_eqb, or_parts}
use Rattle.blic_field.specs.Field.{modulus, mul, sub, or}
use Rattle.blic_field.proofs.Ring.{mul_below, sub_below, or_below, blend_below}
use Rattle.blic_model.specs.declared.node.Node.{Node}
use Rattle.blic_model.specs.declared.node.Node.TheVariants.{Const, Var, Not, Fix, And, Or}
use Rattle.blic_model.specs.Circuit.{node_at, below, free_step, is_free, free}
use Rattle.blic_model.specs.Value.{Point, put, bit, linearize, value_step, value}
use Rattle.blic_model.specs.Degree.{GivesElements}
use Rattle.blic_model.proofs.Put.{put_other, put_twice, put_swap, IsPoint-put}
use Rattle.blic_model.proofs.Ordered.{ChildrenBelow, AllOrdered, strong}
use Rattle.blic_model.proofs.Entries.{is_free-step, value-step}
use Rattle.blic_model.proofs.Degrees.{Ignores, linearize-def, Ignores-linearize}

pub bit_below : (b : Bool) → bit b < modulus
bit_below true = omega arith
bit_below false = omega arith

pub GivesElements-linearize : (f : Point → ℕ) (y : ℕ) → GivesElements (linearize f y)
GivesElements-linearize f y s p = subst (λ z. z < modulus) (sym (linearize-def f y s)) (blend_below _ _ _)

pub GivesElements-fold : (xs : List ℕ) (f : Point → ℕ) → GivesElements f → GivesElements (fold linearize f xs)
GivesElements-fold [] f h = h
GivesElements-fold (y ∷ ys) f h = GivesElements-fold ys (linearize f y) (GivesElements-linearize f y)

below_step : (nodes : List Node) (levels k : ℕ) → ((j : ℕ) → j < k → GivesElements (value nodes levels j)) → (m : Node) → ChildrenBelow k m
    → GivesElements (value_step nodes levels k m (value nodes levels))
below_step nodes levels k ih (Const b) h s p = bit_below b
below_step nodes levels k ih (Var x) h s p = p x
below_step nodes levels k ih (Not a) h s p = sub_below _ _
below_step nodes levels k ih (Fix x b a) h s p = ih a h (put s x (bit b)) (IsPoint-put s x (bit b) p (bit_below b))
below_step nodes levels k ih (And a b) h s p = GivesElements-fold (free nodes levels k) _ (λ r q. mul_below _ _) s p
below_step nodes levels k ih (Or a b) h s p = GivesElements-fold (free nodes levels k) _ (λ r q. or_below _ _) s p

pub value_below : (nodes : List Node) (levels : ℕ) → AllOrdered nodes → (k : ℕ) → GivesElements (value nodes levels k)
value_below nodes levels o = strong (λ k. GivesElements (value nodes levels k))
    (λ k ih s p. subst (λ z. z < modulus) (sym (value-step nodes levels k (o k) s)) (below_step nodes levels k ih (node_at nodes k) (o k) s p))

-- blind to levels that are not free
Ignores-fold : (test : ℕ → Bool) (x : ℕ) → test x ≡ false → (xs : List ℕ) (f : Point → ℕ) → Ignores f x
    → Ignores (fold linearize f (filter test xs)) x
Ignores-fold test x e [] f h = h
Ignores-fold test x e (y ∷ ys) f h =
    elim (cases_Bool (test y)) [
      | inl t ↦ subst (λ b. Ignores (fold linearize f (cond b (y ∷ filter test ys) (filter test ys))) x) (sym t)
          (Ignores-fold test x e ys (linearize f y) (Ignores-linearize f y x (λ q. absurd (differ (sym t ∙ (ap test q ∙ e)))) h))
      | inr t ↦ subst (λ b. Ignores (fold linearize f (cond b (y ∷ filter test ys) (filter test ys))) x) (sym t) (Ignores-fold test x e ys f h)
    ]
  where
    differ : true ≡ false → ⊥
    differ q = cc

not_free_below : (c : Bool) (x y : ℕ) → (x ≡ y → ⊥) → (c && not (eqb x y)) ≡ false → c ≡ false
not_free_below c x y q f = grind (arith, ne_eqb x y q)

pub free_is : (nodes : List Node) (levels k : ℕ) → free nodes levels k ≡ filter (is_free nodes k) (below levels)
unfolding free
free_is nodes levels k = refl

ignores_step : (nodes : List Node) (levels k x : ℕ) → ((j : ℕ) → j < k → is_free nodes j x ≡ false → Ignores (value nodes levels j) x)
    → is_free nodes k x ≡ false → (m : Node) → ChildrenBelow k m → free_step k m (is_free nodes) x ≡ false
    → Ignores (value_step nodes levels k m (value nodes levels)) x
ignores_step nodes levels k x ih e (Const b) h f s t = refl
ignores_step nodes levels k x ih e (Var y) h f s t = put_other s x t y (λ q. eqb-false x y f (sym q))
ignores_step nodes levels k x ih e (Not a) h f s t = ap (λ z. sub 1 z) (ih a h f s t)
ignores_step nodes levels k x ih e (Fix y b a) h f s t = elim (cases_eq x y) [
  | inl q ↦ ap (value nodes levels a) (subst (λ w. put (put s x t) w (bit b) ≡ put s w (bit b)) q (put_twice s x t (bit b)))
  | inr q ↦ ap (value nodes levels a) (put_swap s x t y (bit b) (λ z. q (sym z))) ∙ ih a h (not_free_below _ x y q f) (put s y (bit b)) t
]
ignores_step nodes levels k x ih e (And a b) h f s t =
    let w = or_parts _ _ f in
    rw (free_is nodes levels k) (Ignores-fold (is_free nodes k) x e (below levels) (λ r. mul (value nodes levels a r) (value nodes levels b r)) (λ s t. ap₂ mul (ih a h.0 w.0 s t) (ih b h.1 w.1 s t)) s t)
ignores_step nodes levels k x ih e (Or a b) h f s t =
    let w = or_parts _ _ f in
    rw (free_is nodes levels k) (Ignores-fold (is_free nodes k) x e (below levels) (λ r. or (value nodes levels a r) (value nodes levels b r)) (λ s t. ap₂ or (ih a h.0 w.0 s t) (ih b h.1 w.1 s t)) s t)

-- A value does not depend on a level that is not free.
pub value_ignores : (nodes : List Node) (levels : ℕ) → AllOrdered nodes → (x k : ℕ) → is_free nodes k x ≡ false → Ignores (value nodes levels k) x
value_ignores nodes levels o x = strong (λ k. is_free nodes k x ≡ false → Ignores (value nodes levels k) x)
    (λ k ih e s t. value-step nodes levels k (o k) (put s x t)
    ∙ (ignores_step nodes levels k x ih e (node_at nodes k) (o k) (sym (is_free-step nodes k (o k) x) ∙ e) s t
    ∙ sym (value-step nodes levels k (o k) s)))
