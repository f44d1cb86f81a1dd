-- What the bytes of a source mean: a formula, or the first refusal that stands in them.
use Rattle.std.specs.Prelude.{◌≡◌, ℕ, zero, suc, ◌+◌, ◌==◌, Bool, not, ◌&&◌, nat_lt, nat_le, if◌then◌else◌, List, [], ◌∷◌, ◌++◌, length, take, map, filter, count_by, flat_map, Option, Some, None, Result, Ok, Err}
use Rattle.std.specs.List.{list_any}
use Rattle.blic_model.specs.Formula.{PrenexFormula}
use Rattle.blic_model.specs.declared.prefix.Quant.TheVariants.{Exists}
use Rattle.blic_model.specs.declared.prefix.Bound.{Bound}
use Rattle.blic_model.specs.declared.formula.Lit.{Lit}
use Rattle.blic_model.specs.Limits.{is_bound}
use Rattle.blic_qdimacs.specs.declared.error.ReadError.{ReadError}
use Rattle.blic_qdimacs.specs.declared.error.ReadError.TheVariants as errors
use Rattle.blic_qdimacs.specs.declared.items.Place.{Place}
use Rattle.blic_qdimacs.specs.declared.items.Place.TheVariants.{Between, InSet, InClause}
use Rattle.blic_qdimacs.specs.Binding.{◌>>=◌}
use Rattle.blic_qdimacs.specs.Header.{Header, header_on}
use Rattle.blic_qdimacs.specs.Items.{Items, no_items, after_word}
use Rattle.blic_qdimacs.specs.Lines.{Line, Word, lines_of, is_line_end}
use Rattle.blic_qdimacs.specs.Words.{kind_of}

-- the words, one after another
abbrev pub after_words : Header → List Word → Items → Result Items ReadError
after_words h [] s = Ok s
after_words h (w ∷ ws) s = after_word h w.line (kind_of w.text) s >>= after_words h ws

-- a problem line, and what was read after it
pub record Read : Type 0 where
  pub header : Header
  pub items : Items

-- The words and the problem line that are followed by a byte among the first `last`.
-- At the end of the source each is: then `last` is one more than its length.
abbrev pub read_until : ℕ → List Line → Result (Option Read) ReadError
read_until last [] = Ok None
read_until last (first ∷ more) =
    if nat_le first.after last
    then header_on first >>= (λ h. after_words h (filter (λ w. nat_le w.after last) (flat_map (λ l. l.words) more)) (no_items first.number)
    >>= (λ s. Ok (Some (record { header = h; items = s }))))
    else Ok None

-- 1, 2, .. n
abbrev pub up_to : ℕ → List ℕ
up_to zero = []
up_to (suc n) = up_to n ++ suc n ∷ []

-- the variable stands in a clause
abbrev pub stands_in : List (List Lit) → ℕ → Bool
stands_in clauses v = list_any (λ c. list_any (λ l. l.var == v) c) clauses

-- the variable stands in a clause and in no set
abbrev pub is_free : List Bound → List (List Lit) → ℕ → Bool
is_free sets clauses v = stands_in clauses v && not (is_bound sets v)

-- those of 1, 2, .. n that pass the test, existential
abbrev pub free_where : (ℕ → Bool) → ℕ → List Bound
free_where test n = map (λ v. record { quant = Exists; var = v }) (filter test (up_to n))

-- free variables are existential and outermost, in rising order
abbrev pub free_bounds : ℕ → List Bound → List (List Lit) → List Bound
free_bounds vars sets clauses = free_where (is_free sets clauses) vars

-- the formula of what was read
abbrev pub formula_of : Header → Items → PrenexFormula
formula_of h s = record { vars = h.vars; prefix = free_bounds h.vars s.sets s.clauses ++ s.sets; clauses = s.clauses }

-- the end must come between items, and no clause may be missing
abbrev pub ended : Header → Items → Place → Result PrenexFormula ReadError
ended h s Between = if nat_lt (length s.clauses) h.clauses then Err (errors.TooFewClauses s.line) else Ok (formula_of h s)
ended h s (InSet q) = Err (errors.Unended s.line)
ended h s InClause = Err (errors.Unended s.line)

-- the end, with a problem line or without one
abbrev pub at_end : Option Read → Result PrenexFormula ReadError
at_end None = Err (errors.NoProblemLine 0)
at_end (Some r) = ended r.header r.items r.items.place

-- what all the bytes mean, if there are not too many
abbrev pub whole_meaning : List ℕ → Result PrenexFormula ReadError
whole_meaning bytes = read_until (length bytes + 1) (lines_of bytes) >>= at_end

-- what the first bytes mean, if one byte more is one too many
abbrev pub cut_meaning : List ℕ → Result PrenexFormula ReadError
cut_meaning first =
    read_until (length first) (lines_of first) >>= (λ r. Err (errors.TooLong (count_by is_line_end first + 1)))

-- the meaning, if a file may have at most that many bytes
abbrev pub meaning_within : ℕ → List ℕ → Result PrenexFormula ReadError
meaning_within most bytes = if nat_le (length bytes) most then whole_meaning bytes else cut_meaning (take most bytes)

-- the most bytes that a file may have
abbrev pub most_bytes : ℕ
most_bytes = 67108864

-- the formula that the bytes spell, or the first refusal that stands in them
abbrev pub meaning : List ℕ → Result PrenexFormula ReadError
meaning bytes = meaning_within most_bytes bytes

-- the bytes spell the formula
abbrev pub Spells : List ℕ → PrenexFormula → Type 0
Spells bytes f = meaning bytes ≡ Ok f

-- the first refusal that stands in the bytes
abbrev pub Refuses : List ℕ → ReadError → Type 0
Refuses bytes e = meaning bytes ≡ Err e
