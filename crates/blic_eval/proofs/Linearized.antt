-- Functions of points that are made linear in all levels below some number.
use Rattle.std.proofs.Common.{arith, ℕ, zero, suc, ◌≡◌, ◌<◌, refl, sym, ◌∙◌, ap, subst, inl, inr, [], ◌∷◌, Bool, true, false}
use Rattle.std.specs.Prelude.{fold}
use mathlib.Core.Path.{ap₂, fun_ext}
use Rattle.std.proofs.lemmas.Bool.{cases_eq}
use Rattle.std.proofs.lemmas.List.Sums.{fold-append}
use Rattle.blic_field.specs.Field.{modulus, blend}
use Rattle.blic_field.proofs.Ring.{ring, blend_below}
use Rattle.blic_model.specs.Circuit.{below}
use Rattle.blic_model.specs.Value.{Point, put, bit, linearize}
use Rattle.blic_model.specs.Degree.{IsPoint}
use Rattle.blic_model.proofs.Put.{put_here, put_other, put_twice, IsPoint-put}
use Rattle.blic_model.proofs.Degrees.{Ignores, linearize-def, linearize_other, Ignores-linearize}

-- all values are elements
abbrev pub AllBelow : (Point → ℕ) → Type 0
AllBelow f = (s : Point) → f s < modulus

-- f made linear in all levels below n
abbrev pub reduced : (Point → ℕ) → ℕ → Point → ℕ
reduced f n = fold linearize f (below n)

pub blend_same : (s u : ℕ) → u < modulus → blend s u u ≡ u
blend_same s u l = simp ring (omega arith)

pub blend_one : (u w : ℕ) → w < modulus → blend 1 u w ≡ w
blend_one u w l = simp ring (omega arith)

pub blend_zero : (u w : ℕ) → u < modulus → blend 0 u w ≡ u
blend_zero u w l = simp ring (omega arith)

pub AllBelow-linearize : (f : Point → ℕ) (x : ℕ) → AllBelow (linearize f x)
AllBelow-linearize f x s = subst (λ z. z < modulus) (sym (linearize-def f x s)) (blend_below _ _ _)

pub reduced-none : (f : Point → ℕ) → reduced f zero ≡ f
unfolding below
reduced-none f = refl

pub reduced-more : (f : Point → ℕ) (n : ℕ) → reduced f (suc n) ≡ linearize (reduced f n) n
unfolding below
reduced-more f n = fold-append linearize f (below n) (n ∷ [])

pub AllBelow-reduced : (f : Point → ℕ) (n : ℕ) → AllBelow f → AllBelow (reduced f n)
AllBelow-reduced f zero h = subst AllBelow (sym (reduced-none f)) h
AllBelow-reduced f (suc n) h = subst AllBelow (sym (reduced-more f n)) (AllBelow-linearize (reduced f n) n)

-- A function that ignores a level is linear in it.
pub linearize_ignored : (f : Point → ℕ) (x : ℕ) → AllBelow f → Ignores f x → linearize f x ≡ f
linearize_ignored f x h i = fun_ext (λ s.
    linearize-def f x s ∙ (ap₂ (blend (s x)) (i s 0) (i s 1) ∙ blend_same (s x) (f s) (h s)))

-- Where a function ignores a level, so does what is made linear.
pub Ignores-reduced : (f : Point → ℕ) (n x : ℕ) → AllBelow f → Ignores f x → Ignores (reduced f n) x
Ignores-reduced f zero x h i = subst (λ g. Ignores g x) (sym (reduced-none f)) i
Ignores-reduced f (suc n) x h i =
    let before = Ignores-reduced f n x h i in
    subst (λ g. Ignores g x) (sym (reduced-more f n)) (elim (cases_eq n x) [
      | inl e ↦ subst (λ g. Ignores g x) (sym (linearize_ignored (reduced f n) n (AllBelow-reduced f n h) (subst (Ignores (reduced f n)) (sym e) before))) before
      | inr ne ↦ Ignores-linearize (reduced f n) n x ne before
    ])

-- Where a function ignores the levels below n, it is linear in them.
pub reduced_ignored : (f : Point → ℕ) (n : ℕ) → AllBelow f → ((x : ℕ) → x < n → Ignores f x) → reduced f n ≡ f
reduced_ignored f zero h i = reduced-none f
reduced_ignored f (suc n) h i =
    reduced-more f n ∙ (ap (λ g. linearize g n) (reduced_ignored f n h (λ x l. i x (omega arith))) ∙ linearize_ignored f n h (i n (omega arith)))

-- What is linear in levels below n stays the same.
pub reduced_linear : (f : Point → ℕ) (n : ℕ) → ((x : ℕ) → x < n → linearize f x ≡ f) → reduced f n ≡ f
reduced_linear f zero i = reduced-none f
reduced_linear f (suc n) i =
    reduced-more f n ∙ (ap (λ g. linearize g n) (reduced_linear f n (λ x l. i x (omega arith))) ∙ i n (omega arith))

swapped : (s t a b c d : ℕ) → blend s (blend t a b) (blend t c d) ≡ blend t (blend s a c) (blend s b d)
swapped s t a b c d = simp ring (omega arith)

-- The order of two levels doesn't matter.
pub linearize_swap : (f : Point → ℕ) (x y : ℕ) → (y ≡ x → ⊥) → linearize (linearize f y) x ≡ linearize (linearize f x) y
linearize_swap f x y n = fun_ext (λ s.
    linearize-def (linearize f y) x s
    ∙ (ap₂ (blend (s x)) (linearize_other f y x n s 0) (linearize_other f y x n s 1)
    ∙ (swapped (s x) (s y) _ _ _ _
    ∙ sym (linearize-def (linearize f x) y s
    ∙ rw (linearize-def f x (put s y 0), linearize-def f x (put s y 1), put_other s y 0 x (λ e. n (sym e)), put_other s y 1 x (λ e. n (sym e))) refl))))

-- A level is made linear once.
pub linearize_twice : (f : Point → ℕ) (x : ℕ) → AllBelow f → linearize (linearize f x) x ≡ linearize f x
linearize_twice f x h = fun_ext (λ s.
    linearize-def (linearize f x) x s
    ∙ (ap₂ (blend (s x)) (at_zero s) (at_one s) ∙ sym (linearize-def f x s)))
  where
    at_zero : (s : Point) → linearize f x (put s x 0) ≡ f (put s x 0)
    at_zero s = linearize-def f x (put s x 0) ∙ rw (put_here s x 0, put_twice s x 0 0, put_twice s x 0 1) (blend_zero _ _ (h _))

    at_one : (s : Point) → linearize f x (put s x 1) ≡ f (put s x 1)
    at_one s = linearize-def f x (put s x 1) ∙ rw (put_here s x 1, put_twice s x 1 0, put_twice s x 1 1) (blend_one _ _ (h _))

-- What is made linear in the levels below n is linear in each of them.
pub linearize_reduced : (f : Point → ℕ) (n x : ℕ) → AllBelow f → x < n → linearize (reduced f n) x ≡ reduced f n
linearize_reduced f zero x h l = absurd (omega arith)
linearize_reduced f (suc n) x h l =
    ap (λ g. linearize g x) (reduced-more f n)
    ∙ (elim (cases_eq n x) [
      | inl e ↦ subst (λ z. linearize (linearize (reduced f n) n) z ≡ linearize (reduced f n) n) e (linearize_twice (reduced f n) n (AllBelow-reduced f n h))
      | inr ne ↦ linearize_swap (reduced f n) x n ne ∙ ap (λ g. linearize g n) (linearize_reduced f n x h (omega arith))
    ]
    ∙ sym (reduced-more f n))

-- `g` is f with the bit of level x fixed
pub record IsFixed (f : Point → ℕ) (x : ℕ) (b : Bool) (g : Point → ℕ) : Type 0 where
  pub value : (s : Point) → f (put s x (bit b)) ≡ g s
  pub ignores : Ignores g x

blend_bit : (b : Bool) (f : Point → ℕ) (s : Point) (x : ℕ) → AllBelow f → blend (bit b) (f (put s x 0)) (f (put s x 1)) ≡ f (put s x (bit b))
blend_bit true f s x h = blend_one _ _ (h _)
blend_bit false f s x h = blend_zero _ _ (h _)

-- One level more, where the function is fixed.
fixed_here : (f g : Point → ℕ) (x : ℕ) (b : Bool) → AllBelow f → AllBelow g → Ignores g x → (s : Point) → f (put s x (bit b)) ≡ g s
    → linearize f x (put s x (bit b)) ≡ linearize g x s
fixed_here f g x b hf hg i s e =
    linearize-def f x (put s x (bit b))
    ∙ (rw (put_here s x (bit b), put_twice s x (bit b) 0, put_twice s x (bit b) 1) (blend_bit b f s x hf)
    ∙ (e ∙ sym (ap (λ z. z s) (linearize_ignored g x hg i))))

fixed_more : (f g : Point → ℕ) (m x : ℕ) (b : Bool) → AllBelow f → AllBelow g → Ignores g x → ((s : Point) → f (put s x (bit b)) ≡ g s)
    → (s : Point) → linearize f m (put s x (bit b)) ≡ linearize g m s
fixed_more f g m x b hf hg i e s = elim (cases_eq m x) [
  | inl q ↦ subst (λ z. linearize f z (put s x (bit b)) ≡ linearize g z s) (sym q) (fixed_here f g x b hf hg i s (e s))
  | inr ne ↦ linearize_other f m x ne s (bit b) ∙ (ap₂ (blend (s m)) (e (put s m 0)) (e (put s m 1)) ∙ sym (linearize-def g m s))
]

fixed_values : (f g : Point → ℕ) (n x : ℕ) (b : Bool) → AllBelow f → AllBelow g → IsFixed f x b g → (s : Point) → reduced f n (put s x (bit b)) ≡ reduced g n s
fixed_values f g zero x b hf hg i s = ap (λ z. z (put s x (bit b))) (reduced-none f) ∙ (i.value s ∙ sym (ap (λ z. z s) (reduced-none g)))
fixed_values f g (suc m) x b hf hg i s =
    ap (λ z. z (put s x (bit b))) (reduced-more f m)
    ∙ (fixed_more (reduced f m) (reduced g m) m x b (AllBelow-reduced f m hf) (AllBelow-reduced g m hg) (Ignores-reduced g m x hg i.ignores) (fixed_values f g m x b hf hg i) s
    ∙ sym (ap (λ z. z s) (reduced-more g m)))

-- Where a function is fixed, so is what is made linear.
pub IsFixed-reduced : (f g : Point → ℕ) (n x : ℕ) (b : Bool) → AllBelow f → AllBelow g → IsFixed f x b g → IsFixed (reduced f n) x b (reduced g n)
IsFixed-reduced f g n x b hf hg i = record { value = fixed_values f g n x b hf hg i; ignores = Ignores-reduced g n x hg i.ignores }

-- It is then the blend of both fixings.
pub blend_of_fixed : (f : Point → ℕ) (n x : ℕ) (low high : Point → ℕ) → AllBelow f → AllBelow low → AllBelow high → x < n
    → IsFixed f x false low → IsFixed f x true high → (s : Point) → reduced f n s ≡ blend (s x) (reduced low n s) (reduced high n s)
blend_of_fixed f n x low high hf hl hh l a b s =
    sym (ap (λ z. z s) (linearize_reduced f n x hf l))
    ∙ (linearize-def (reduced f n) x s
    ∙ ap₂ (blend (s x)) ((IsFixed-reduced f low n x false hf hl a).value s) ((IsFixed-reduced f high n x true hf hh b).value s))

-- Functions that agree at points agree where they are made linear.
pub reduced_agree : (f g : Point → ℕ) (n : ℕ) → ((s : Point) → IsPoint s → f s ≡ g s) → (s : Point) → IsPoint s → reduced f n s ≡ reduced g n s
reduced_agree f g zero h s p = ap (λ z. z s) (reduced-none f) ∙ (h s p ∙ sym (ap (λ z. z s) (reduced-none g)))
reduced_agree f g (suc n) h s p =
    ap (λ z. z s) (reduced-more f n)
    ∙ (linearize-def (reduced f n) n s
    ∙ (ap₂ (blend (s n)) (reduced_agree f g n h (put s n 0) (IsPoint-put s n 0 p (omega arith))) (reduced_agree f g n h (put s n 1) (IsPoint-put s n 1 p (omega arith)))
    ∙ sym (ap (λ z. z s) (reduced-more g n) ∙ linearize-def (reduced g n) n s)))
