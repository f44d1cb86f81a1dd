-- Paths down a diagram: how a walk over what a ref leads to goes on, and why it ends.
use Rattle.std.proofs.Common.{arith, ℕ, zero, suc, ◌+◌, ◌-◌, ◌*◌, ◌<◌, ◌≤◌, ◌≡◌, refl, sym, ◌∙◌, ap, subst, inl, inr, List, [], ◌∷◌, ◌++◌, length, get_or, false, true}
use Rattle.std.proofs.lemmas.List.{length_push}
use Rattle.std.proofs.Math.Nat.{suc-mul}
use Rattle.std.proofs.Math.Numerals.{suc-eq-add-one}
use Rattle.blic_store.specs.declared.decision.Decision.{Decision}
use Rattle.blic_store.specs.Canonical.{IsCanonical}
use Rattle.blic_store.specs.Diagram.{IsRef, IsSideOf, level_of}
use Rattle.blic_store.specs.Function.{Function, after}
use Rattle.blic_store.specs.Growth.{Adds}
use Rattle.blic_store.specs.Under.{IsLedTo, IsUnder}
use Rattle.blic_store.proofs.Cofactors.{cofactor-here}
use Rattle.blic_store.proofs.Numbers.{Each, IsFalling, each_front, each_last, each_push, falling_above, falling_front, falling_push, push_front, push_last}
use Rattle.blic_store.proofs.Parts.{function-kept, level_kept, no_shorter}
use Rattle.blic_store.proofs.Under.{length-padded, pad_to, padded, under_cofactor, under_none}

-- A side is an older ref.
pub side_before : (nodes : List Decision) → IsCanonical nodes → (at r : ℕ) → IsRef nodes at → 2 ≤ at → IsSideOf nodes at r → r < at
side_before nodes c at r h i side =
    let o = c.placed (at - 2) (omega arith) in
    elim side [
      | inl e ↦ (let w = o.low_before in omega arith)
      | inr e ↦ (let w = o.high_before in omega arith)
    ]

-- A ref leads to itself.
pub led_to_itself : (nodes : List Decision) (a : ℕ) → IsRef nodes a → IsLedTo nodes a a
led_to_itself nodes a h = ([], under_none nodes a h)

-- And to the sides of what it leads to.
pub led_to_side : (nodes : List Decision) → IsCanonical nodes → (a at r : ℕ) → 2 ≤ at → IsLedTo nodes a at → IsSideOf nodes at r → IsLedTo nodes a r
led_to_side nodes c a at r i led side =
    let below = led.1.below i in
    let n = level_of nodes at - length led.0 in
    let w = padded led.0 n in
    let long : level_of nodes at ≡ length w = let e = length-padded led.0 n in omega arith in
    let under = pad_to nodes c a at n led.0 (omega arith) led.1 in
    elim side [
      | inl e ↦ (w ++ false ∷ [], subst (IsUnder nodes a (w ++ false ∷ [])) (cofactor-here nodes at (length w) false long ∙ sym e) (under_cofactor nodes c a w false at under i))
      | inr e ↦ (w ++ true ∷ [], subst (IsUnder nodes a (w ++ true ∷ [])) (cofactor-here nodes at (length w) true long ∙ sym e) (under_cofactor nodes c a w true at under i))
    ]

-- Where decisions are added, it leads to what it did.
pub led_kept : (f : Function) (now new : List Decision) → Adds f now new → (a r : ℕ) → IsRef now a → IsLedTo now a r → IsLedTo new a r
led_kept f now new d a r h x = (
  x.0,
  record {
    held = let w = no_shorter f now new d in let i = x.1.held in omega arith;
    value = λ p. ap (λ g. g p) (function-kept f now new d r x.1.held) ∙ (x.1.value p ∙ sym (ap (λ g. g (after x.0 p)) (function-kept f now new d a h)));
    below = λ i. let b = x.1.below i in let e = level_kept f now new d r x.1.held in omega arith;
  },
)

-- a path from a down: no ref on it is constant, a leads to each, and each is older than the one before it
pub record IsPath (nodes : List Decision) (a : ℕ) (path : List ℕ) : Type 0 where
  pub root : get_or path 0 0 ≡ a
  pub falling : IsFalling path
  pub inner : Each (λ r. 2 ≤ r) path
  pub led : Each (IsLedTo nodes a) path

pub path_first : (nodes : List Decision) (a : ℕ) → IsRef nodes a → 2 ≤ a → IsPath nodes a (a ∷ [])
path_first nodes a h i = record {
  root = refl;
  falling = λ j k l m. absurd (omega arith);
  inner = each_push (λ r. 2 ≤ r) [] a (λ k l. absurd (omega arith)) i;
  led = each_push (IsLedTo nodes a) [] a (λ k l. absurd (omega arith)) (led_to_itself nodes a h);
}

-- Each ref on it is as much below a as there are refs before it.
pub path_short : (nodes : List Decision) (a : ℕ) (path : List ℕ) → IsPath nodes a path → (k : ℕ) → k < length path → get_or path k 0 + k ≤ a
path_short nodes a path w zero l = let r = w.root in omega arith
path_short nodes a path w (suc k) l =
    let before = path_short nodes a path w k (omega arith) in
    let f = w.falling k (suc k) (omega arith) l in
    omega arith

-- what is known of the last ref
pub record IsAtHand (nodes : List Decision) (a : ℕ) (xs : List ℕ) (at : ℕ) : Type 0 where
  pub inner : 2 ≤ at
  pub led : IsLedTo nodes a at
  pub short : at + length xs ≤ a

pub at_hand : (nodes : List Decision) (a : ℕ) (xs : List ℕ) (at : ℕ) → IsPath nodes a (xs ++ at ∷ []) → IsAtHand nodes a xs at
at_hand nodes a xs at w =
    let len = length_push xs at in
    record {
      inner = each_last (λ r. 2 ≤ r) xs at w.inner;
      led = each_last (IsLedTo nodes a) xs at w.led;
      short = omega (arith, path_short nodes a (xs ++ at ∷ []) w (length xs) (omega arith), push_last xs at (length xs) refl);
    }

-- It goes on to a side of its last ref.
pub path_down : (nodes : List Decision) → IsCanonical nodes → (a : ℕ) (xs : List ℕ) (at r : ℕ) → IsPath nodes a (xs ++ at ∷ []) → IsSideOf nodes at r → 2 ≤ r → IsPath nodes a ((xs ++ at ∷ []) ++ r ∷ [])
path_down nodes c a xs at r w side i =
    let path = xs ++ at ∷ [] in
    let len = length_push xs at in
    let here = at_hand nodes a xs at w in
    let before : r < at = side_before nodes c at r here.led.1.held here.inner side in
    record {
      root = push_front path r 0 (omega arith) ∙ w.root;
      falling = falling_push path r w.falling (each_push (λ z. r < z) xs at (λ k l. let above = falling_above xs at w.falling k l in omega arith) before);
      inner = each_push (λ z. 2 ≤ z) path r w.inner i;
      led = each_push (IsLedTo nodes a) path r w.led (led_to_side nodes c a at r here.inner here.led side);
    }

-- It goes back to the ref before its last.
pub path_up : (nodes : List Decision) (a : ℕ) (xs : List ℕ) (at : ℕ) → 0 < length xs → IsPath nodes a (xs ++ at ∷ []) → IsPath nodes a xs
path_up nodes a xs at some w = record {
  root = sym (push_front xs at 0 some) ∙ w.root;
  falling = falling_front xs at w.falling;
  inner = each_front (λ z. 2 ≤ z) xs at w.inner;
  led = each_front (IsLedTo nodes a) xs at w.led;
}

-- Where decisions are added, it stays one.
pub path_kept : (f : Function) (now new : List Decision) → Adds f now new → (a : ℕ) (path : List ℕ) → IsRef now a → IsPath now a path → IsPath new a path
path_kept f now new d a path h w = record {
  root = w.root;
  falling = w.falling;
  inner = w.inner;
  led = λ k l. led_kept f now new d a (get_or path k 0) h (w.led k l);
}

-- The measure of a walk that goes back where one more of at most `most` things is done: a thing done counts for more than any ref up to a.
pub smaller : (a m n at above : ℕ) → n ≡ m + 1 → n ≤ a + 1 → above ≤ a → (a + 1 - n) * (a + 1) + above < (a + 1 - m) * (a + 1) + at
smaller a m n at above e l b =
    let s : a + 1 - m ≡ (a + 1 - n) + 1 = omega arith in
    let w : (a + 1 - m) * (a + 1) ≡ (a + 1 - n) * (a + 1) + (a + 1) = ap (λ z. z * (a + 1)) (s ∙ sym (suc-eq-add-one (a + 1 - n))) ∙ suc-mul (a + 1 - n) (a + 1) in
    omega arith
