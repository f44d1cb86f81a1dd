-- Parts judged one after another.
use Rattle.std.proofs.Common.{◌≡◌, ◌≢◌, ℕ, ◌+◌, ◌<◌, ◌≤◌, Bool, true, false, cond, List, [], ◌∷◌, ◌++◌, length, take, drop, refl, ap, sym, ◌∙◌, arith, length-append}
use Rattle.std.specs.Prelude.{nat_lt}
use Rattle.std.proofs.lemmas.Bool.Decides.{nat_tests}
use Rattle.std.proofs.lemmas.List.{take-append-le, drop-append-le, take-take, drop-take, length-drop, length-take-le}
use Rattle.byteorder.specs.Endian.{big_bytes, big_number}
use Rattle.byteorder.specs.Numbers.{big_number-reads_back, big_from-take}
use Rattle.blic_field.specs.Field.{modulus}
use Rattle.blic_messages.specs.Grammar.{Part, Element, size_of, is_part, Judged, Good, Bad, Short, judged}

pub not_below : (a n : ℕ) → n ≤ a → nat_lt a n ≡ false
not_below a n h = grind (arith, nat_tests)

pub below_true : (a n : ℕ) → a < n → nat_lt a n ≡ true
below_true a n h = grind (arith, nat_tests)

pub at_least : (a n : ℕ) → nat_lt a n ≡ false → n ≤ a
at_least a n h = grind (arith, nat_tests)

pub is_below : (a n : ℕ) → nat_lt a n ≡ true → a < n
is_below a n h = grind (arith, nat_tests)

abbrev pub total : List Part → ℕ
total [] = 0
total (p ∷ ps) = size_of p + total ps

-- what is told of a part that is whole, and of the parts behind it
abbrev pub behind : Bool → Judged → Judged
behind good rest = cond good rest Bad

pub judged_part : (p : Part) (ps : List Part) (bytes : List ℕ) → size_of p ≤ length bytes
    → judged (p ∷ ps) bytes ≡ behind (is_part p (take (size_of p) bytes)) (judged ps (drop (size_of p) bytes))
judged_part p ps bytes l =
    ap (λ t. cond t Short (cond (is_part p (take (size_of p) bytes)) (judged ps (drop (size_of p) bytes)) Bad)) (not_below (length bytes) (size_of p) l)

pub judged_short : (p : Part) (ps : List Part) (bytes : List ℕ) → length bytes < size_of p → judged (p ∷ ps) bytes ≡ Short
judged_short p ps bytes l =
    ap (λ t. cond t Short (cond (is_part p (take (size_of p) bytes)) (judged ps (drop (size_of p) bytes)) Bad)) (below_true (length bytes) (size_of p) l)

-- a part that isn't short is whole
pub judged_whole : (p : Part) (ps : List Part) (bytes : List ℕ) → judged (p ∷ ps) bytes ≢ Short → size_of p ≤ length bytes
judged_whole p ps bytes seen = by_test (nat_lt (length bytes) (size_of p)) refl
  where
    by_test : (t : Bool) → nat_lt (length bytes) (size_of p) ≡ t → size_of p ≤ length bytes
    by_test true e = absurd (seen (judged_short p ps bytes (is_below (length bytes) (size_of p) e)))
    by_test false e = at_least (length bytes) (size_of p) e

-- a first part that passes, and the parts behind it
pub judged_good : (p : Part) (ps : List Part) (bytes : List ℕ) → judged (p ∷ ps) bytes ≡ Good
    → (size_of p ≤ length bytes) × (is_part p (take (size_of p) bytes) ≡ true) × (judged ps (drop (size_of p) bytes) ≡ Good)
judged_good p ps bytes e =
    let l : size_of p ≤ length bytes = judged_whole p ps bytes (λ short. let bad : Good ≡ Short = sym e ∙ short in cc) in
    let h = by_test (is_part p (take (size_of p) bytes)) (sym (judged_part p ps bytes l) ∙ e) in (l, h.0, h.1)
  where
    by_test : (t : Bool) → behind t (judged ps (drop (size_of p) bytes)) ≡ Good → (t ≡ true) × (judged ps (drop (size_of p) bytes) ≡ Good)
    by_test true h = (refl, h)
    by_test false h = cc

behind_stays : (t : Bool) (rest longer : Judged) → behind t rest ≢ Short → (rest ≢ Short → longer ≡ rest) → behind t longer ≡ behind t rest
behind_stays true rest longer seen same = same seen
behind_stays false rest longer seen same = refl

-- what is judged stays judged, whatever follows
pub judged_longer : (ps : List Part) (bytes more : List ℕ) → judged ps bytes ≢ Short → judged ps (bytes ++ more) ≡ judged ps bytes
judged_longer [] bytes more seen = refl
judged_longer (p ∷ ps) bytes more seen =
    let l : size_of p ≤ length bytes = judged_whole p ps bytes seen in
    let here = judged_part p ps bytes l in
    judged_part p ps (bytes ++ more) (omega (arith, length-append bytes more))
    ∙ (ap (λ b. behind (is_part p b) (judged ps (drop (size_of p) (bytes ++ more)))) (take-append-le (size_of p) bytes more l)
    ∙ (ap (λ b. behind (is_part p (take (size_of p) bytes)) (judged ps b)) (drop-append-le (size_of p) bytes more l)
    ∙ (behind_stays (is_part p (take (size_of p) bytes)) (judged ps (drop (size_of p) bytes)) (judged ps (drop (size_of p) bytes ++ more))
    (λ e. seen (here ∙ e)) (judged_longer ps (drop (size_of p) bytes) more) ∙ sym here)))

-- bytes of good parts are no fewer than the parts have
pub total_le : (ps : List Part) (bytes : List ℕ) → judged ps bytes ≡ Good → total ps ≤ length bytes
total_le [] bytes e = omega arith
total_le (p ∷ ps) bytes e =
    let h = judged_good p ps bytes e in
    let rest = total_le ps (drop (size_of p) bytes) h.2 in
    let first = h.0 in omega (arith, length-drop (size_of p) bytes)

-- no bytes behind the parts are looked at
pub judged_take : (ps : List Part) (bytes : List ℕ) → judged ps bytes ≡ Good → judged ps (take (total ps) bytes) ≡ Good
judged_take [] bytes e = refl
judged_take (p ∷ ps) bytes e =
    let h = judged_good p ps bytes e in
    let all : size_of p + total ps ≤ length bytes = total_le (p ∷ ps) bytes e in
    let part = take (size_of p + total ps) bytes in
    judged_part p ps part (omega (arith, length-take-le (size_of p + total ps) bytes all))
    ∙ (ap (λ b. behind (is_part p b) (judged ps (drop (size_of p) part))) (take-take (size_of p) (size_of p + total ps) bytes (omega arith))
    ∙ (ap (λ b. behind (is_part p (take (size_of p) bytes)) (judged ps b)) (drop-take (size_of p) (total ps) bytes)
    ∙ (ap (λ t. behind t (judged ps (take (total ps) (drop (size_of p) bytes)))) h.1 ∙ judged_take ps (drop (size_of p) bytes) h.2)))

-- an element in front
pub judged_element : (ps : List Part) (x : ℕ) (bytes : List ℕ) → x < modulus → judged (Element ∷ ps) (big_bytes 8 x ++ bytes) ≡ judged ps bytes
judged_element ps x bytes small =
    judged_part Element ps (big_bytes 8 x ++ bytes) (omega arith)
    ∙ ap (λ t. behind t (judged ps bytes)) (ap (λ n. nat_lt n modulus) (big_number-reads_back 8 x [] (omega arith)) ∙ below_true x modulus small)

-- the number of a first element that passes
pub element_good : (ps : List Part) (bytes : List ℕ) → judged (Element ∷ ps) bytes ≡ Good
    → (8 ≤ length bytes) × (big_number 8 bytes < modulus) × (judged ps (drop 8 bytes) ≡ Good)
element_good ps bytes e =
    let h = judged_good Element ps bytes e in
    let small = is_below (big_number 8 (take 8 bytes)) modulus h.1 in
    (h.0, omega (arith, big_from-take 0 8 8 bytes (omega arith)), h.2)

-- bytes with a part to come are fewer than the parts have
pub total_gt : (ps : List Part) (bytes : List ℕ) → judged ps bytes ≡ Short → length bytes < total ps
total_gt [] bytes e = cc
total_gt (p ∷ ps) bytes e = by_test (nat_lt (length bytes) (size_of p)) refl (λ l. short_rest (is_part p (take (size_of p) bytes)) (judged ps (drop (size_of p) bytes)) (sym (judged_part p ps bytes l) ∙ e)) (total_gt ps (drop (size_of p) bytes))
  where
    short_rest : (t : Bool) (j : Judged) → behind t j ≡ Short → j ≡ Short
    short_rest true j e = e
    short_rest false j e = cc

    by_test : (t : Bool) → nat_lt (length bytes) (size_of p) ≡ t → (size_of p ≤ length bytes → judged ps (drop (size_of p) bytes) ≡ Short)
        → (judged ps (drop (size_of p) bytes) ≡ Short → length (drop (size_of p) bytes) < total ps) → length bytes < size_of p + total ps
    by_test true e rest later = let l = is_below (length bytes) (size_of p) e in omega arith
    by_test false e rest later =
        let l = at_least (length bytes) (size_of p) e in
        let h = later (rest l) in omega (arith, length-drop (size_of p) bytes)
