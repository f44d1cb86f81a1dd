-- The numbers that digits write, as std reads them and as the words say.
use Rattle.std.proofs.Common.{◌≡◌, ℕ, ◌+◌, ◌*◌, ◌-◌, ◌^◌, ◌≤◌, ◌<◌, List, ◌∷◌, Some, None, refl, ap, length, true, false, [], ◌==◌, inl, inr, arith}
use Rattle.std.specs.Prelude.{Ok, Err, fold, decimal}
use Rattle.std.specs.List.{list_all}
use Rattle.std.proofs.lemmas.Bool.{cases_lt}
use Rattle.std.specs.Str.Parse.{ParsesUnsigned}
use Rattle.std.specs.declared.num.ParseIntError.{ParseIntError}
use Rattle.std.proofs.lemmas.Fmt.{decimal_nonempty, digits_decimal, digits_value-decimal, length-decimal-le}
use Rattle.std.proofs.lemmas.Str.Parse.{IsDigitsTest, FoldsDigits, IsNumeralModel, numerals_by_fold, parse_digits}
use Rattle.blic_words.specs.Options.{is_digit, number_in, value_of_digits}
use Rattle.blic_words.specs.Requests.{begins_with_hyphen}

parts : (c : ℕ) (cs : List ℕ) → list_all is_digit (c ∷ cs) ≡ true → ((48 ≤ c) × (c ≤ 57)) × (list_all is_digit cs ≡ true)
parts c cs all = grind arith

more : (c : ℕ) (cs : List ℕ) → (48 ≤ c) × (c ≤ 57) → list_all is_digit cs ≡ true → list_all is_digit (c ∷ cs) ≡ true
more c cs digit all = grind arith

are_digits : IsDigitsTest (λ text. list_all is_digit text ≡ true)
are_digits = record { empty = refl; parts = parts; more = more }

abbrev after : ℕ → List ℕ → ℕ
after n digits = fold (λ n d. 10 * n + (d - 48)) n digits

swapped : (n c : ℕ) (cs : List ℕ) → (48 ≤ c) × (c ≤ 57) → after n (c ∷ cs) ≡ after (n * 10 + (c - 48)) cs
swapped n c cs digit = let same : 10 * n + (c - 48) ≡ n * 10 + (c - 48) = omega arith in ap (λ m. after m cs) same

folds : FoldsDigits after
folds = record { empty = λ n. refl; more = swapped }

pub own : IsNumeralModel (λ text. list_all is_digit text ≡ true) value_of_digits
own = numerals_by_fold (λ text. list_all is_digit text ≡ true) are_digits after folds

-- a number in the range
pub in_range : (low high n : ℕ) (text : List ℕ) → ParsesUnsigned {E = ParseIntError} 32 10 text (Ok n) → list_all is_digit text ≡ true → 0 < length text → length text ≤ 10
    → low ≤ n → n ≤ high → Some n ≡ number_in low high text
in_range low high n text parses digits some few least most =
    let p = parse_digits own {E = ParseIntError} 32 text (Ok n) parses digits in
    let value : n ≡ value_of_digits text = p.1 in
    grind arith

-- a number below it
pub too_small : (low high n : ℕ) (text : List ℕ) → ParsesUnsigned {E = ParseIntError} 32 10 text (Ok n) → list_all is_digit text ≡ true → n < low → None ≡ number_in low high text
too_small low high n text parses digits less =
    let p = parse_digits own {E = ParseIntError} 32 text (Ok n) parses digits in
    let value : n ≡ value_of_digits text = p.1 in
    grind arith

above : (low high : ℕ) (text : List ℕ) → high < value_of_digits text → None ≡ number_in low high text
above low high text more = grind arith

-- a number above it
pub too_large : (low high n : ℕ) (text : List ℕ) → ParsesUnsigned {E = ParseIntError} 32 10 text (Ok n) → list_all is_digit text ≡ true → high < n → None ≡ number_in low high text
too_large low high n text parses digits more =
    let p = parse_digits own {E = ParseIntError} 32 text (Ok n) parses digits in
    let value : n ≡ value_of_digits text = p.1 in
    above low high text (omega arith)

-- a number that 32 bits don't hold
pub too_wide : (low high : ℕ) (e : ParseIntError) (text : List ℕ) → ParsesUnsigned {E = ParseIntError} 32 10 text (Err e) → list_all is_digit text ≡ true → 0 < length text → high < 2 ^ 32
    → None ≡ number_in low high text
too_wide low high e text parses digits some wide =
    let no = parse_digits own {E = ParseIntError} 32 text (Err e) parses digits in
    above low high text (elim (cases_lt high (value_of_digits text)) [ inl more ↦ more | inr less ↦ absurd (no (some, omega arith)) ])

-- a number in the range is found
number_found : (low high n : ℕ) (text : List ℕ) → list_all is_digit text ≡ true → value_of_digits text ≡ n → 0 < length text → length text ≤ 10 → low ≤ n → n ≤ high
    → number_in low high text ≡ Some n
number_found low high n text digits is some few least most = grind arith

pub decimal_found : (n : ℕ) → 1 ≤ n → n ≤ 500 → number_in 1 500 (decimal n) ≡ Some n
decimal_found n least most =
    let wide : n < 2 ^ 64 = omega arith in
    let few : length (decimal n) ≤ 3 = length-decimal-le 3 n (omega arith) (omega arith) wide in
    number_found 1 500 n (decimal n) (digits_decimal own n wide) (digits_value-decimal own n wide) (decimal_nonempty n wide) (omega arith) least most

-- a number that is found is in the range
pub number_range : (low high : ℕ) (text : List ℕ) (n : ℕ) → number_in low high text ≡ Some n → (low ≤ n) × (n ≤ high)
number_range low high text n is = grind arith

-- it begins with a digit
digit_first : (low high b : ℕ) (bs : List ℕ) (n : ℕ) → number_in low high (b ∷ bs) ≡ Some n → (b == 45) ≡ false
digit_first low high b bs n is = grind arith

pub number_begins : (low high : ℕ) (text : List ℕ) (n : ℕ) → number_in low high text ≡ Some n → begins_with_hyphen text ≡ false
number_begins low high [] n is = refl
number_begins low high (b ∷ bs) n is = digit_first low high b bs n is
