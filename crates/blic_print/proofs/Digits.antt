-- The digits of bytes, part by part.
use Rattle.std.proofs.Common.{◌≡◌, ℕ, ◌+◌, ◌-◌, ◌≤◌, List, [], ◌∷◌, ◌++◌, take, drop, refl, ap, sym, ◌∙◌, subst, append_assoc, append-nil, Option, arith}
use Rattle.std.proofs.Math.Seq.{take-add}
use Rattle.std.proofs.lemmas.List.{take-append-drop}
use Rattle.std.specs.Io.KnownBytes.{append_known}
use Rattle.hex.specs.Hex.{encode_lower, encode_with, lower_digits}
use Rattle.blic_print.specs.Gathering.{IsUnderWay}
use Rattle.blic_print.proofs.Printed.{longer_front}
use Rattle.blic_print.proofs.Waiting.{cut_more, under_way_more}

encode-append : (t a b : List ℕ) → encode_with t (a ++ b) ≡ encode_with t a ++ encode_with t b
unfolding encode_with
encode-append t [] b = refl
encode-append t (x ∷ a) b = rw (encode-append t a b)

-- there are no digits of no bytes
pub no_digits : (before : List ℕ) → before ≡ before ++ encode_lower []
unfolding encode_with
no_digits before = sym (append-nil before)

-- the digits up to a place, and those up to a later one
digits_more : (before bytes part : List ℕ) (i j : ℕ) → i ≤ j → part ≡ take (j - i) (drop i bytes)
    → (before ++ encode_lower (take i bytes)) ++ encode_lower part ≡ before ++ encode_lower (take j bytes)
digits_more before bytes part i j later is =
    let place : i + (j - i) ≡ j = omega arith in
    append_assoc before (encode_lower (take i bytes)) (encode_lower part)
    ∙ ap (λ t. before ++ t) (sym (encode-append lower_digits (take i bytes) part)
    ∙ ap encode_lower (ap (λ t. take i bytes ++ t) is ∙ (sym (take-add i (j - i) bytes) ∙ ap (λ k. take k bytes) place)))

-- behind the digits up to a place come those up to a later one
pub digits_put : (before bytes part : List ℕ) (i j : ℕ) (old mid new : Option (List ℕ)) (waits later : List ℕ)
    → i ≤ j → part ≡ take (j - i) (drop i bytes) → IsUnderWay old mid (before ++ encode_lower (take i bytes)) waits
    → IsUnderWay mid new (waits ++ encode_lower part) later
    → IsUnderWay old new (before ++ encode_lower (take j bytes)) later
digits_put before bytes part i j old mid new waits later order is first second =
    subst (λ t. IsUnderWay old new t later) (digits_more before bytes part i j order is)
    (under_way_more old mid new (before ++ encode_lower (take i bytes)) waits (encode_lower part) later first second)

-- where those are cut off, so are all
pub digits_front : (before bytes part : List ℕ) (i j : ℕ) (old mid new : Option (List ℕ)) (waits : List ℕ)
    → i ≤ j → part ≡ take (j - i) (drop i bytes) → IsUnderWay old mid (before ++ encode_lower (take i bytes)) waits
    → (n : ℕ) × (new ≡ append_known mid (take n (waits ++ encode_lower part)))
    → (n : ℕ) × (new ≡ append_known old (take n (before ++ encode_lower bytes)))
digits_front before bytes part i j old mid new waits order is first cut =
    subst (λ t. (n : ℕ) × (new ≡ append_known old (take n t)))
    (append_assoc before (encode_lower (take j bytes)) (encode_lower (drop j bytes))
    ∙ ap (λ t. before ++ t) (sym (encode-append lower_digits (take j bytes) (drop j bytes)) ∙ ap encode_lower (take-append-drop j bytes)))
    (longer_front old new (before ++ encode_lower (take j bytes)) (encode_lower (drop j bytes))
    (subst (λ t. (n : ℕ) × (new ≡ append_known old (take n t))) (digits_more before bytes part i j order is)
    (cut_more old mid new (before ++ encode_lower (take i bytes)) waits (encode_lower part) first cut)))
