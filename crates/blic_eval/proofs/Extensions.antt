-- The extensions of Boolean functions.
use Rattle.std.proofs.Common.{arith, ℕ, ◌≡◌, ◌<◌, refl, sym, ◌∙◌, ap, subst, Bool, true, false, eqb}
use mathlib.Core.Path.{ap₂, fun_ext}
use Rattle.blic_field.specs.Field.{blend}
use Rattle.blic_model.specs.Value.{Point, put, bit, linearize}
use Rattle.blic_model.proofs.Degrees.{Ignores}
use Rattle.blic_model.proofs.Values.{bit_below}
use Rattle.blic_store.specs.Function.{Function, Same}
use Rattle.blic_eval.specs.Extension.{bits_of, extension}
use Rattle.blic_eval.proofs.Linearized.{AllBelow, reduced, AllBelow-reduced, Ignores-reduced, reduced_ignored, linearize_reduced, IsFixed, IsFixed-reduced, blend_of_fixed}

-- the function at the bits of a point
abbrev pub at_bits : Function → Point → ℕ
at_bits f s = bit (f (bits_of s))

pub extension-def : (f : Function) (levels : ℕ) → extension f levels ≡ reduced (at_bits f) levels
unfolding extension
extension-def f levels = refl

pub AllBelow-at_bits : (f : Function) → AllBelow (at_bits f)
AllBelow-at_bits f s = bit_below (f (bits_of s))

pub AllBelow-extension : (f : Function) (levels : ℕ) → AllBelow (extension f levels)
AllBelow-extension f levels = subst AllBelow (sym (extension-def f levels)) (AllBelow-reduced (at_bits f) levels (AllBelow-at_bits f))

bits_put : (s : Point) (x t : ℕ) → bits_of (put s x t) ≡ put (bits_of s) x (eqb t 1)
bits_put s x t = fun_ext (λ y. grind arith)

bit_back : (b : Bool) → eqb (bit b) 1 ≡ b
bit_back true = refl
bit_back false = refl

-- the function doesn't depend on level x
abbrev pub IsBlind : Function → ℕ → Type 0
IsBlind f x = (p : ℕ → Bool) (b : Bool) → f (put p x b) ≡ f p

Ignores-at_bits : (f : Function) (x : ℕ) → IsBlind f x → Ignores (at_bits f) x
Ignores-at_bits f x i s t = ap (λ p. bit (f p)) (bits_put s x t) ∙ ap bit (i (bits_of s) (eqb t 1))

pub Ignores-extension : (f : Function) (levels x : ℕ) → IsBlind f x → Ignores (extension f levels) x
Ignores-extension f levels x i =
    subst (λ g. Ignores g x) (sym (extension-def f levels)) (Ignores-reduced (at_bits f) levels x (AllBelow-at_bits f) (Ignores-at_bits f x i))

-- g is f with the bit of level x fixed
pub record IsPartAt (f : Function) (x : ℕ) (b : Bool) (g : Function) : Type 0 where
  pub value : (p : ℕ → Bool) → f (put p x b) ≡ g p
  pub blind : IsBlind g x

IsFixed-at_bits : (f g : Function) (x : ℕ) (b : Bool) → IsPartAt f x b g → IsFixed (at_bits f) x b (at_bits g)
IsFixed-at_bits f g x b i = record {
  value = λ s. ap (λ p. bit (f p)) (bits_put s x (bit b)) ∙ (ap (λ c. bit (f (put (bits_of s) x c))) (bit_back b) ∙ ap bit (i.value (bits_of s)));
  ignores = Ignores-at_bits g x i.blind;
}

pub IsFixed-extension : (f g : Function) (levels x : ℕ) (b : Bool) → IsPartAt f x b g → IsFixed (extension f levels) x b (extension g levels)
IsFixed-extension f g levels x b i =
    subst (λ u. IsFixed u x b (extension g levels)) (sym (extension-def f levels))
    (subst (IsFixed (reduced (at_bits f) levels) x b) (sym (extension-def g levels))
    (IsFixed-reduced (at_bits f) (at_bits g) levels x b (AllBelow-at_bits f) (AllBelow-at_bits g) (IsFixed-at_bits f g x b i)))

-- An extension is linear in each of the levels.
pub linearize_extension : (f : Function) (levels x : ℕ) → x < levels → linearize (extension f levels) x ≡ extension f levels
linearize_extension f levels x l =
    subst (λ u. linearize u x ≡ u) (sym (extension-def f levels)) (linearize_reduced (at_bits f) levels x (AllBelow-at_bits f) l)

-- It is the blend of the extensions of its parts.
pub extension_blend : (f low high : Function) (levels x : ℕ) → x < levels → IsPartAt f x false low → IsPartAt f x true high
    → (s : Point) → extension f levels s ≡ blend (s x) (extension low levels s) (extension high levels s)
extension_blend f low high levels x l a b s =
    ap (λ u. u s) (extension-def f levels)
    ∙ (blend_of_fixed (at_bits f) levels x (at_bits low) (at_bits high) (AllBelow-at_bits f) (AllBelow-at_bits low) (AllBelow-at_bits high) l
    (IsFixed-at_bits f low x false a) (IsFixed-at_bits f high x true b) s
    ∙ sym (ap₂ (blend (s x)) (ap (λ u. u s) (extension-def low levels)) (ap (λ u. u s) (extension-def high levels))))

-- That of a constant is its bit.
pub extension_constant : (f : Function) (c : Bool) (levels : ℕ) → ((p : ℕ → Bool) → f p ≡ c) → (s : Point) → extension f levels s ≡ bit c
extension_constant f c levels e s =
    ap (λ u. u s) (extension-def f levels)
    ∙ (ap (λ u. u s) (reduced_ignored (at_bits f) levels (AllBelow-at_bits f) (λ x l r t. ap bit (e (bits_of (put r x t)) ∙ sym (e (bits_of r)))))
    ∙ ap bit (e (bits_of s)))

-- Equal functions have equal extensions.
pub extension_same : (f g : Function) → Same f g → (levels : ℕ) (s : Point) → extension f levels s ≡ extension g levels s
extension_same f g e levels s = ap (λ h. extension h levels s) (fun_ext e)
