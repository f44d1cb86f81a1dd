-- What was seen of a word is what the word says, as far as it matters.
use Rattle.std.proofs.Common.{◌≡◌, ℕ, ◌+◌, ◌*◌, ◌-◌, ◌<◌, Bool, true, false, cond, ◌&&◌, ◌==◌, List, [], ◌∷◌, refl, ap, sym, ◌∙◌, arith, min, Some, None, Result, Err, ◌⊎◌, inl, inr, subst, zero, suc}
use Rattle.std.specs.Prelude.{nat_lt}
use Rattle.std.specs.Str.{all_ascii_digits}
use Rattle.std.specs.Char.{is_ascii_digit}
use Rattle.std.proofs.lemmas.Bool.{eqb-true}
use Rattle.std.proofs.lemmas.Bool.Decides.{nat_tests, leb_tells}
use Rattle.blic_qdimacs.specs.declared.error.ReadError.{ReadError}
use Rattle.blic_qdimacs.specs.declared.error.ReadError.TheVariants as errors
use Rattle.blic_qdimacs.specs.declared.seen.Seen.TheVariants as seen
use Rattle.blic_qdimacs.specs.Header.{Header}
use Rattle.blic_qdimacs.specs.Items.{Items, after_word, after_number}
use Rattle.blic_qdimacs.specs.Machine.{kind_seen}
use Rattle.blic_qdimacs.specs.Words.{Kind, Number, Other, kind_of, plain_number, value_on, with_sign, without_sign}
use Rattle.blic_qdimacs.proofs.Lexing.{seen_of}

other_stays : (p : List ℕ) → seen_of seen.Other p ≡ seen.Other
other_stays [] = refl
other_stays (b ∷ p) = other_stays p

capped_next : (v w d : ℕ) → v ≡ min w 2147483648 → min (10 * v + d) 2147483648 ≡ min (10 * w + d) 2147483648
capped_next v w d e = omega (arith, e)

digits_step : (t : Bool) (c : ℕ) (p : List ℕ) (negative : Bool) (v w : ℕ)
    → seen_of (seen.Digits negative (min (10 * v + (c - 48)) 2147483648)) p ≡ cond (all_ascii_digits p) (seen.Digits negative (min (value_on (10 * w + (c - 48)) p) 2147483648)) seen.Other
    → seen_of (cond t (seen.Digits negative (min (10 * v + (c - 48)) 2147483648)) seen.Other) p
    ≡ cond (t && all_ascii_digits p) (seen.Digits negative (min (value_on (10 * w + (c - 48)) p) 2147483648)) seen.Other
digits_step true c p negative v w more = more
digits_step false c p negative v w more = other_stays p

-- digits after a number
pub digits_seen : (p : List ℕ) (negative : Bool) (v w : ℕ) → v ≡ min w 2147483648
    → seen_of (seen.Digits negative v) p ≡ cond (all_ascii_digits p) (seen.Digits negative (min (value_on w p) 2147483648)) seen.Other
digits_seen [] negative v w e = ap (seen.Digits negative) e
digits_seen (c ∷ p) negative v w e =
    digits_step (is_ascii_digit c) c p negative v w (digits_seen p negative (min (10 * v + (c - 48)) 2147483648) (10 * w + (c - 48)) (capped_next v w (c - 48) e))

-- a value is taken as it is, or is above the greatest
pub capped_number : (h : Header) (line : ℕ) (negative : Bool) (v : ℕ) (s : Items)
    → after_word h line (Number negative (min v 2147483648)) s ≡ after_word h line (Number negative v) s
capped_number h line negative v s =
    elim (leb_tells v 2147483647) [
      | inl small ↦ let e : min v 2147483648 ≡ v = omega (arith, small.1) in ap (λ n. after_word h line (Number negative n) s) e
      | inr large ↦
          let e : min v 2147483648 ≡ 2147483648 = omega (arith, large.1) in
          let above : nat_lt 2147483647 v ≡ true = lt_ltb 2147483647 v large.1 in
          ap (λ n. after_word h line (Number negative n) s) e
          ∙ sym (ap (λ t. cond t (refused_large line) (after_number h negative v line s.place s)) above)
    ]
  where
    refused_large : ℕ → Result Items ReadError
    refused_large line = Err (errors.NumberTooLarge line)

    lt_ltb : (a b : ℕ) → a < b → nat_lt a b ≡ true
    lt_ltb a b h = grind (arith, nat_tests)

-- Two kinds are taken alike.
abbrev Alike : Kind → Kind → Type 0
Alike a b = (h : Header) (line : ℕ) (s : Items) → after_word h line a s ≡ after_word h line b s

alike : (a b : Kind) → a ≡ b → Alike a b
alike a b e h line s = ap (λ k. after_word h line k s) e

alike_then : (a b c : Kind) → Alike a b → b ≡ c → Alike a c
alike_then a b c first e h line s = first h line s ∙ ap (λ k. after_word h line k s) e

then_alike : (a b c : Kind) → a ≡ b → Alike b c → Alike a c
then_alike a b c e second h line s = ap (λ k. after_word h line k s) e ∙ second h line s

plain_alike : (q : Bool) (v : ℕ) → Alike (kind_seen (cond q (seen.Digits false (min v 2147483648)) seen.Other)) (without_sign (cond q (Some v) None))
plain_alike true v h line s = capped_number h line false v s
plain_alike false v h line s = refl

sign_alike : (z : Bool) (v : ℕ) → Alike (cond z Other (Number true (min v 2147483648))) (cond z Other (Number true v))
sign_alike true v h line s = refl
sign_alike false v h line s = capped_number h line true v s

same_zero : (v : ℕ) → (min v 2147483648 == 0) ≡ (v == 0)
same_zero zero = refl
same_zero (suc n) = grind (arith, nat_tests)

signed_alike : (q : Bool) (v : ℕ) → Alike (kind_seen (cond q (seen.Digits true (min v 2147483648)) seen.Other)) (with_sign (cond q (Some v) None))
signed_alike true v h line s =
    ap (λ z. after_word h line (cond z Other (Number true (min v 2147483648))) s) (same_zero v) ∙ sign_alike (v == 0) v h line s
signed_alike false v h line s = refl

cn_other : (p : List ℕ) → kind_seen (seen_of seen.Cnf p) ≡ Other
cn_other [] = refl
cn_other (b ∷ p) = ap kind_seen (other_stays p)

cn_seen : (p : List ℕ) → kind_seen (seen_of seen.Cn p) ≡ Other
cn_seen [] = refl
cn_seen (b ∷ p) = either (b == 102)
  where
    either : (t : Bool) → kind_seen (seen_of (cond t seen.Cnf seen.Other) p) ≡ Other
    either true = cn_other p
    either false = ap kind_seen (other_stays p)

c_seen : (p : List ℕ) → kind_seen (seen_of seen.C p) ≡ Other
c_seen [] = refl
c_seen (b ∷ p) = either (b == 110)
  where
    either : (t : Bool) → kind_seen (seen_of (cond t seen.Cn seen.Other) p) ≡ Other
    either true = cn_seen p
    either false = ap kind_seen (other_stays p)

k101 : (p : List ℕ) → kind_seen (seen_of seen.Nothing (101 ∷ p)) ≡ kind_of (101 ∷ p)
k101 [] = refl
k101 (d ∷ p) = ap kind_seen (other_stays p)

k97 : (p : List ℕ) → kind_seen (seen_of seen.Nothing (97 ∷ p)) ≡ kind_of (97 ∷ p)
k97 [] = refl
k97 (d ∷ p) = ap kind_seen (other_stays p)

k112 : (p : List ℕ) → kind_seen (seen_of seen.Nothing (112 ∷ p)) ≡ kind_of (112 ∷ p)
k112 [] = refl
k112 (d ∷ p) = ap kind_seen (other_stays p)

k99 : (p : List ℕ) → kind_seen (seen_of seen.Nothing (99 ∷ p)) ≡ kind_of (99 ∷ p)
k99 [] = refl
k99 (d ∷ p) = c_seen (d ∷ p)

pub digit_value : (d : ℕ) → is_ascii_digit d ≡ true → d - 48 ≡ min (10 * 0 + (d - 48)) 2147483648
digit_value d digit = grind (arith, nat_tests)

minus_step : (d : ℕ) (p : List ℕ) (t : Bool) → is_ascii_digit d ≡ t
    → Alike (kind_seen (seen_of (cond t (seen.Digits true (d - 48)) seen.Other) p)) (with_sign (cond (t && all_ascii_digits p) (Some (value_on (10 * 0 + (d - 48)) p)) None))
minus_step d p true digit =
    then_alike (kind_seen (seen_of (seen.Digits true (d - 48)) p)) (kind_seen (cond (all_ascii_digits p) (seen.Digits true (min (value_on (10 * 0 + (d - 48)) p) 2147483648)) seen.Other))
    (with_sign (cond (all_ascii_digits p) (Some (value_on (10 * 0 + (d - 48)) p)) None))
    (ap kind_seen (digits_seen p true (d - 48) (10 * 0 + (d - 48)) (digit_value d digit))) (signed_alike (all_ascii_digits p) (value_on (10 * 0 + (d - 48)) p))
minus_step d p false other = alike (kind_seen (seen_of seen.Other p)) Other (ap kind_seen (other_stays p))

k45 : (p : List ℕ) → Alike (kind_seen (seen_of seen.Nothing (45 ∷ p))) (kind_of (45 ∷ p))
k45 [] = alike Other Other refl
k45 (d ∷ p) = minus_step d p (is_ascii_digit d) refl

skip : {X : Type 0} (t : Bool) (x y : X) → t ≡ false → cond t x y ≡ y
skip t x y e = ap (λ c. cond c x y) e

pub number_of_kind : (b : ℕ) (p : List ℕ) → (b == 101) ≡ false → (b == 97) ≡ false → (b == 45) ≡ false → without_sign (plain_number (b ∷ p)) ≡ kind_of (b ∷ p)
number_of_kind b [] e a m = sym (skip (b == 101) _ _ e ∙ skip (b == 97) _ _ a ∙ skip (b == 45) _ _ m)
number_of_kind b (d ∷ p) e a m = sym (skip (b == 45) _ _ m)

last_step : (b : ℕ) (p : List ℕ) (t : Bool) → is_ascii_digit b ≡ t
    → Alike (kind_seen (seen_of (cond t (seen.Digits false (b - 48)) seen.Other) p)) (without_sign (cond (t && all_ascii_digits p) (Some (value_on (10 * 0 + (b - 48)) p)) None))
last_step b p true digit =
    then_alike (kind_seen (seen_of (seen.Digits false (b - 48)) p)) (kind_seen (cond (all_ascii_digits p) (seen.Digits false (min (value_on (10 * 0 + (b - 48)) p) 2147483648)) seen.Other))
    (without_sign (cond (all_ascii_digits p) (Some (value_on (10 * 0 + (b - 48)) p)) None))
    (ap kind_seen (digits_seen p false (b - 48) (10 * 0 + (b - 48)) (digit_value b digit))) (plain_alike (all_ascii_digits p) (value_on (10 * 0 + (b - 48)) p))
last_step b p false other = alike (kind_seen (seen_of seen.Other p)) Other (ap kind_seen (other_stays p))

abbrev WordAlike : List ℕ → ℕ → Type 0
WordAlike p c = Alike (kind_seen (seen_of seen.Nothing (c ∷ p))) (kind_of (c ∷ p))

by_tests : (b : ℕ) (p : List ℕ) → ((b == 101) ≡ true) ⊎ ((b == 101) ≡ false) → ((b == 97) ≡ true) ⊎ ((b == 97) ≡ false) → ((b == 112) ≡ true) ⊎ ((b == 112) ≡ false)
    → ((b == 99) ≡ true) ⊎ ((b == 99) ≡ false) → ((b == 45) ≡ true) ⊎ ((b == 45) ≡ false)
    → Alike (kind_seen (seen_of seen.Nothing (b ∷ p))) (kind_of (b ∷ p))
by_tests b p (inl e) t2 t3 t4 t5 = subst (WordAlike p) (sym (eqb-true b 101 e)) (alike (kind_seen (seen_of seen.Nothing (101 ∷ p))) (kind_of (101 ∷ p)) (k101 p))
by_tests b p (inr n1) (inl e) t3 t4 t5 = subst (WordAlike p) (sym (eqb-true b 97 e)) (alike (kind_seen (seen_of seen.Nothing (97 ∷ p))) (kind_of (97 ∷ p)) (k97 p))
by_tests b p (inr n1) (inr n2) (inl e) t4 t5 = subst (WordAlike p) (sym (eqb-true b 112 e)) (alike (kind_seen (seen_of seen.Nothing (112 ∷ p))) (kind_of (112 ∷ p)) (k112 p))
by_tests b p (inr n1) (inr n2) (inr n3) (inl e) t5 = subst (WordAlike p) (sym (eqb-true b 99 e)) (alike (kind_seen (seen_of seen.Nothing (99 ∷ p))) (kind_of (99 ∷ p)) (k99 p))
by_tests b p (inr n1) (inr n2) (inr n3) (inr n4) (inl e) = subst (WordAlike p) (sym (eqb-true b 45 e)) (k45 p)
by_tests b p (inr n1) (inr n2) (inr n3) (inr n4) (inr n5) =
    then_alike (kind_seen (seen_of seen.Nothing (b ∷ p))) (kind_seen (seen_of (cond (is_ascii_digit b) (seen.Digits false (b - 48)) seen.Other) p)) (kind_of (b ∷ p))
    (ap (λ w. kind_seen (seen_of w p)) (skip (b == 101) _ _ n1 ∙ skip (b == 97) _ _ n2 ∙ skip (b == 112) _ _ n3 ∙ skip (b == 99) _ _ n4 ∙ skip (b == 45) _ _ n5))
    (alike_then (kind_seen (seen_of (cond (is_ascii_digit b) (seen.Digits false (b - 48)) seen.Other) p)) (without_sign (plain_number (b ∷ p))) (kind_of (b ∷ p)) (last_step b p (is_ascii_digit b) refl) (number_of_kind b p n1 n2 n5))

either_way : (t : Bool) → (t ≡ true) ⊎ (t ≡ false)
either_way true = inl refl
either_way false = inr refl

-- what was seen of a word is taken as the word
pub seen_alike : (b : ℕ) (p : List ℕ) (h : Header) (line : ℕ) (s : Items)
    → after_word h line (kind_seen (seen_of seen.Nothing (b ∷ p))) s ≡ after_word h line (kind_of (b ∷ p)) s
seen_alike b p = by_tests b p (either_way (b == 101)) (either_way (b == 97)) (either_way (b == 112)) (either_way (b == 99)) (either_way (b == 45))
