-- The sets and clauses after the problem line, word by word.
use Rattle.std.specs.Prelude.{ℕ, ◌+◌, ◌==◌, Bool, true, false, nat_lt, nat_le, if◌then◌else◌, List, [], ◌∷◌, ◌++◌, length, sum_by, Result, Ok, Err}
use Rattle.blic_model.specs.declared.prefix.Quant.{Quant}
use Rattle.blic_model.specs.declared.prefix.Bound.{Bound}
use Rattle.blic_model.specs.declared.formula.Lit.{Lit}
use Rattle.blic_model.specs.Limits.{is_bound}
use Rattle.blic_qdimacs.specs.declared.error.ReadError.{ReadError}
use Rattle.blic_qdimacs.specs.declared.error.ReadError.TheVariants as errors
use Rattle.blic_qdimacs.specs.declared.items.Place.{Place}
use Rattle.blic_qdimacs.specs.declared.items.Place.TheVariants.{Between, InSet, InClause}
use Rattle.blic_qdimacs.specs.Header.{Header}
use Rattle.blic_qdimacs.specs.Words.{Kind, Letter, Number, Other}

-- what was read: the sets so far, the clauses that have ended, the literals of the one that has not, the last word's line
pub record Items : Type 0 where
  pub place : Place
  pub sets : List Bound
  pub clauses : List (List Lit)
  pub clause : List Lit
  pub line : ℕ

-- the literals of all clauses so far
abbrev pub literals : Items → ℕ
literals s = sum_by length s.clauses + length s.clause

-- a clause has ended
abbrev pub has_clauses : List (List Lit) → Bool
has_clauses [] = false
has_clauses (c ∷ cs) = true

-- `e` or `a` begins a set, before all clauses
abbrev pub after_letter : Quant → ℕ → Place → Items → Result Items ReadError
after_letter q line (InSet open_quant) s = Err (errors.BadToken line)
after_letter q line InClause s = Err (errors.SetAfterClause line)
after_letter q line Between s =
    if has_clauses s.clauses then Err (errors.SetAfterClause line) else Ok (record s { place = InSet q; line = line })

-- a number in a set
abbrev pub in_set : Header → Quant → Bool → ℕ → ℕ → Items → Result Items ReadError
in_set h q negative v line s =
    if negative then Err (errors.BadToken line)
    else if v == 0 then Ok (record s { place = Between; line = line })
    else if nat_lt h.vars v then Err (errors.VariableTooLarge line)
    else if is_bound s.sets v then Err (errors.BoundTwice line)
    else Ok (record s { sets = s.sets ++ record { quant = q; var = v } ∷ []; line = line })

-- a number in a clause
abbrev pub in_clause : Header → Bool → ℕ → ℕ → Items → Result Items ReadError
in_clause h negative v line s =
    if v == 0 then Ok (record s { place = Between; clauses = s.clauses ++ s.clause ∷ []; clause = []; line = line })
    else if nat_lt h.vars v then Err (errors.VariableTooLarge line)
    else if nat_le 1048576 (literals s) then Err (errors.TooManyLiterals line)
    else Ok (record s { place = InClause; clause = s.clause ++ record { var = v; negative = negative } ∷ []; line = line })

-- a number in a set, in a clause, or at the beginning of a clause
abbrev pub after_number : Header → Bool → ℕ → ℕ → Place → Items → Result Items ReadError
after_number h negative v line (InSet q) s = in_set h q negative v line s
after_number h negative v line InClause s = in_clause h negative v line s
after_number h negative v line Between s =
    if nat_le h.clauses (length s.clauses) then Err (errors.TooManyClauses line) else in_clause h negative v line s

-- what was read, with one word more
abbrev pub after_word : Header → ℕ → Kind → Items → Result Items ReadError
after_word h line (Letter q) s = after_letter q line s.place s
after_word h line (Number negative v) s =
    if nat_lt 2147483647 v then Err (errors.NumberTooLarge line) else after_number h negative v line s.place s
after_word h line Other s = Err (errors.BadToken line)

-- nothing yet after the problem line, which stands on this line
abbrev pub no_items : ℕ → Items
no_items line = record { place = Between; sets = []; clauses = []; clause = []; line = line }
