-- What a word says: a quantifier, a number, or nothing that is known.
use Rattle.std.specs.Prelude.{ℕ, ◌+◌, ◌*◌, ◌-◌, ◌==◌, Bool, true, false, cond, List, [], ◌∷◌, Option, Some, None}
use Rattle.std.specs.Str.{all_ascii_digits}
use Rattle.blic_model.specs.declared.prefix.Quant.{Quant}
use Rattle.blic_model.specs.declared.prefix.Quant.TheVariants.{Exists, Forall}

-- `e` or `a`, a number with its sign and its value, or something else
pub data Kind : Type 0 where
  Letter : Quant → Kind
  Number : Bool → ℕ → Kind
  Other : Kind

-- the value of digits after those that have the value n
abbrev pub value_on : ℕ → List ℕ → ℕ
value_on n [] = n
value_on n (c ∷ cs) = value_on (10 * n + (c - 48)) cs

-- the value of one digit or more, and nothing else
abbrev pub plain_number : List ℕ → Option ℕ
plain_number [] = None
plain_number (c ∷ cs) = cond (all_ascii_digits (c ∷ cs)) (Some (value_on 0 (c ∷ cs))) None

-- a number without a sign
abbrev pub without_sign : Option ℕ → Kind
without_sign None = Other
without_sign (Some v) = Number false v

-- no sign stands before 0
abbrev pub with_sign : Option ℕ → Kind
with_sign None = Other
with_sign (Some v) = cond (v == 0) Other (Number true v)

-- a `-` is a sign
abbrev pub number_kind : List ℕ → Kind
number_kind [] = Other
number_kind (c ∷ cs) = cond (c == 45) (with_sign (plain_number cs)) (without_sign (plain_number (c ∷ cs)))

-- one byte may be a quantifier
abbrev pub kind_of : List ℕ → Kind
kind_of [] = Other
kind_of (c ∷ []) = cond (c == 101) (Letter Exists) (cond (c == 97) (Letter Forall) (number_kind (c ∷ [])))
kind_of (c ∷ d ∷ cs) = number_kind (c ∷ d ∷ cs)
