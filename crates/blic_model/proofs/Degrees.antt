-- Degrees through the operations of a node.
use Rattle.std.proofs.Common.{arith, ℕ, ◌≡◌, ◌<◌, refl, sym, ◌∙◌, ap, subst, inl, inr, List, [], ◌∷◌}
use Rattle.std.specs.Prelude.{fold}
use mathlib.Core.Path.{ap₂}
use Rattle.std.proofs.lemmas.Bool.{cases_eq}
use Rattle.blic_field.specs.Field.{modulus, add, mul, sub, or, blend}
use Rattle.blic_field.proofs.Ring.{ring}
use Rattle.blic_model.specs.Value.{Point, put, linearize}
use Rattle.blic_model.specs.Degree.{GivesElements, IsLinear, IsQuadratic}
use Rattle.blic_model.proofs.Put.{put_here, put_other, put_twice, put_swap, IsPoint-put}

-- f does not depend on level x
abbrev pub Ignores : (Point → ℕ) → ℕ → Type 0
Ignores f x = (s : Point) (t : ℕ) → f (put s x t) ≡ f s

flat : (a t : ℕ) → a < modulus → a ≡ add a (mul 0 t)
flat a t l = simp ring (omega arith)

-- what does not depend on a level is linear in it
pub IsLinear-from_ignores : (f : Point → ℕ) (x : ℕ) → GivesElements f → Ignores f x → IsLinear f x
IsLinear-from_ignores f x e i s h = (f s, 0, λ t l. i s t ∙ flat (f s) t (e s h))

flat2 : (a b t : ℕ) → add a (mul b t) ≡ add a (add (mul b t) (mul 0 (mul t t)))
flat2 a b t = simp ring (omega arith)

pub IsQuadratic-from_linear : (f : Point → ℕ) (x : ℕ) → IsLinear f x → IsQuadratic f x
IsQuadratic-from_linear f x h s p = let k = h s p in (k.0, k.1, 0, λ t l. k.2 t l ∙ flat2 k.0 k.1 t)

turned : (a b t : ℕ) → sub 1 (add a (mul b t)) ≡ add (sub 1 a) (mul (sub 0 b) t)
turned a b t = simp ring (omega arith)

pub IsLinear-sub : (f : Point → ℕ) (x : ℕ) → IsLinear f x → IsLinear (λ s. sub 1 (f s)) x
IsLinear-sub f x h s p = let k = h s p in (sub 1 k.0, sub 0 k.1, λ t l. ap (λ z. sub 1 z) (k.2 t l) ∙ turned k.0 k.1 t)

product : (a b a' b' t : ℕ) → mul (add a (mul b t)) (add a' (mul b' t))
    ≡ add (mul a a') (add (mul (add (mul a b') (mul b a')) t) (mul (mul b b') (mul t t)))
product a b a' b' t = simp ring (omega arith)

pub IsQuadratic-mul : (u w : Point → ℕ) (x : ℕ) → IsLinear u x → IsLinear w x → IsQuadratic (λ s. mul (u s) (w s)) x
IsQuadratic-mul u w x h k s p =
    let a = h s p in
    let b = k s p in (
      mul a.0 b.0,
      add (mul a.0 b.1) (mul a.1 b.0),
      mul a.1 b.1,
      λ t l. ap₂ mul (a.2 t l) (b.2 t l) ∙ product a.0 a.1 b.0 b.1 t,
    )

or_product : (a b a' b' t : ℕ) → or (add a (mul b t)) (add a' (mul b' t))
    ≡ add (sub (add a a') (mul a a')) (add (mul (sub (add b b') (add (mul a b') (mul b a'))) t) (mul (sub 0 (mul b b')) (mul t t)))
or_product a b a' b' t = simp ring (omega arith)

pub IsQuadratic-or : (u w : Point → ℕ) (x : ℕ) → IsLinear u x → IsLinear w x → IsQuadratic (λ s. or (u s) (w s)) x
IsQuadratic-or u w x h k s p =
    let a = h s p in
    let b = k s p in (
      sub (add a.0 b.0) (mul a.0 b.0),
      sub (add a.1 b.1) (add (mul a.0 b.1) (mul a.1 b.0)),
      sub 0 (mul a.1 b.1),
      λ t l. ap₂ or (a.2 t l) (b.2 t l) ∙ or_product a.0 a.1 b.0 b.1 t,
    )

straight : (t a b : ℕ) → blend t a b ≡ add a (mul (sub b a) t)
straight t a b = simp ring (omega arith)

pub linearize-def : (f : Point → ℕ) (x : ℕ) (s : Point) → linearize f x s ≡ blend (s x) (f (put s x 0)) (f (put s x 1))
unfolding linearize
linearize-def f x s = refl

-- making f linear in x makes it linear in x
pub IsLinear-linearize_here : (f : Point → ℕ) (x : ℕ) → IsLinear (linearize f x) x
IsLinear-linearize_here f x s p = (
  f (put s x 0),
  sub (f (put s x 1)) (f (put s x 0)),
  λ t l. linearize-def f x (put s x t) ∙ rw (put_here s x t, put_twice s x t 0, put_twice s x t 1) (straight t (f (put s x 0)) (f (put s x 1))),
)

blended2 : (s a b c a' b' c' t : ℕ) → blend s (add a (add (mul b t) (mul c (mul t t)))) (add a' (add (mul b' t) (mul c' (mul t t))))
    ≡ add (blend s a a') (add (mul (blend s b b') t) (mul (blend s c c') (mul t t)))
blended2 s a b c a' b' c' t = simp ring (omega arith)

blended1 : (s a b a' b' t : ℕ) → blend s (add a (mul b t)) (add a' (mul b' t)) ≡ add (blend s a a') (mul (blend s b b') t)
blended1 s a b a' b' t = simp ring (omega arith)

-- linearize at another level: its value where level x is t
pub linearize_other : (f : Point → ℕ) (y x : ℕ) → (y ≡ x → ⊥) → (s : Point) (t : ℕ)
    → linearize f y (put s x t) ≡ blend (s y) (f (put (put s y 0) x t)) (f (put (put s y 1) x t))
linearize_other f y x n s t = linearize-def f y (put s x t) ∙ rw (put_other s x t y n, put_swap s x t y 0 n, put_swap s x t y 1 n) refl

pub IsLinear-linearize : (f : Point → ℕ) (y x : ℕ) → IsLinear f x → IsLinear (linearize f y) x
IsLinear-linearize f y x h =
    elim (cases_eq y x) [ inl e ↦ subst (λ z. IsLinear (linearize f y) z) e (IsLinear-linearize_here f y) | inr n ↦ other n ]
  where
    other : (y ≡ x → ⊥) → IsLinear (linearize f y) x
    other n s p =
        let k = h (put s y 0) (IsPoint-put s y 0 p (omega arith)) in
        let m = h (put s y 1) (IsPoint-put s y 1 p (omega arith)) in (
          blend (s y) k.0 m.0,
          blend (s y) k.1 m.1,
          λ t l. linearize_other f y x n s t ∙ (ap₂ (blend (s y)) (k.2 t l) (m.2 t l) ∙ blended1 (s y) k.0 k.1 m.0 m.1 t),
        )

pub IsQuadratic-linearize : (f : Point → ℕ) (y x : ℕ) → IsQuadratic f x → IsQuadratic (linearize f y) x
IsQuadratic-linearize f y x h = elim (cases_eq y x) [
  | inl e ↦ IsQuadratic-from_linear (linearize f y) x (subst (λ z. IsLinear (linearize f y) z) e (IsLinear-linearize_here f y))
  | inr n ↦ other n
]
  where
    other : (y ≡ x → ⊥) → IsQuadratic (linearize f y) x
    other n s p =
        let k = h (put s y 0) (IsPoint-put s y 0 p (omega arith)) in
        let m = h (put s y 1) (IsPoint-put s y 1 p (omega arith)) in (
          blend (s y) k.0 m.0,
          blend (s y) k.1 m.1,
          blend (s y) k.2 m.2,
          λ t l. linearize_other f y x n s t ∙ (ap₂ (blend (s y)) (k.3 t l) (m.3 t l) ∙ blended2 (s y) k.0 k.1 k.2 m.0 m.1 m.2 t),
        )

pub Ignores-linearize : (f : Point → ℕ) (y x : ℕ) → (y ≡ x → ⊥) → Ignores f x → Ignores (linearize f y) x
Ignores-linearize f y x n i s t =
    linearize_other f y x n s t ∙ ap₂ (blend (s y)) (i (put s y 0) t) (i (put s y 1) t) ∙ sym (linearize-def f y s)

-- over a list of levels

pub IsQuadratic-fold : (xs : List ℕ) (f : Point → ℕ) (x : ℕ) → IsQuadratic f x → IsQuadratic (fold linearize f xs) x
IsQuadratic-fold [] f x h = h
IsQuadratic-fold (y ∷ ys) f x h = IsQuadratic-fold ys (linearize f y) x (IsQuadratic-linearize f y x h)

pub IsLinear-fold : (xs : List ℕ) (f : Point → ℕ) (x : ℕ) → IsLinear f x → IsLinear (fold linearize f xs) x
IsLinear-fold [] f x h = h
IsLinear-fold (y ∷ ys) f x h = IsLinear-fold ys (linearize f y) x (IsLinear-linearize f y x h)
