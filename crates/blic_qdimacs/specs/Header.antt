-- The problem line: `p cnf`, the number of variables and the number of clauses.
use Rattle.std.specs.Prelude.{ℕ, ◌==◌, Bool, false, ◌&&◌, ◌||◌, nat_lt, if◌then◌else◌, List, [], ◌∷◌, map, Option, Some, None, Result, Ok, Err}
use Rattle.blic_qdimacs.specs.declared.error.ReadError.{ReadError}
use Rattle.blic_qdimacs.specs.declared.error.ReadError.TheVariants as errors
use Rattle.blic_qdimacs.specs.Lines.{Line}
use Rattle.blic_qdimacs.specs.Words.{plain_number}

-- the numbers of variables and of clauses
pub record Header : Type 0 where
  pub vars : ℕ
  pub clauses : ℕ

-- the word `p`
abbrev pub is_p : List ℕ → Bool
is_p [] = false
is_p (b ∷ []) = b == 112
is_p (b ∷ c ∷ bs) = false

-- the word `cnf`
abbrev pub is_cnf : List ℕ → Bool
is_cnf (a ∷ b ∷ c ∷ []) = a == 99 && b == 110 && c == 102
is_cnf (a ∷ b ∷ c ∷ d ∷ ds) = false
is_cnf (a ∷ b ∷ []) = false
is_cnf (a ∷ []) = false
is_cnf [] = false

-- both numbers are judged before the limits, the variables before the clauses
abbrev pub within_limits : ℕ → ℕ → ℕ → Result Header ReadError
within_limits line vars clauses =
    if nat_lt 2147483647 vars || nat_lt 2147483647 clauses then Err (errors.NumberTooLarge line)
    else if nat_lt 65535 vars then Err (errors.TooManyVariables line)
    else if nat_lt 1048576 clauses then Err (errors.ClauseLimit line)
    else Ok (record { vars = vars; clauses = clauses })

-- both words are plain numbers
abbrev pub header_numbers : ℕ → Option ℕ → Option ℕ → Result Header ReadError
header_numbers line (Some vars) (Some clauses) = within_limits line vars clauses
header_numbers line (Some vars) None = Err (errors.BadProblemLine line)
header_numbers line None clauses = Err (errors.BadProblemLine line)

-- what stands after `p`: `cnf` and two plain numbers
abbrev pub header_after_p : ℕ → List (List ℕ) → Result Header ReadError
header_after_p line (cnf ∷ vars ∷ clauses ∷ []) =
    if is_cnf cnf then header_numbers line (plain_number vars) (plain_number clauses) else Err (errors.BadProblemLine line)
header_after_p line (a ∷ b ∷ c ∷ d ∷ ds) = Err (errors.BadProblemLine line)
header_after_p line (a ∷ b ∷ []) = Err (errors.BadProblemLine line)
header_after_p line (a ∷ []) = Err (errors.BadProblemLine line)
header_after_p line [] = Err (errors.BadProblemLine line)

-- the first word is `p`
abbrev pub header_from : ℕ → List (List ℕ) → Result Header ReadError
header_from line [] = Err (errors.NoProblemLine line)
header_from line (first ∷ more) = if is_p first then header_after_p line more else Err (errors.NoProblemLine line)

-- the problem line, which is the first line with words
abbrev pub header_on : Line → Result Header ReadError
header_on l = header_from l.number (map (λ w. w.text) l.words)
