-- A text spells a formula, or has a first refusal.
use Rattle.std.proofs.Common.{◌≡◌, ℕ, ◌+◌, Bool, true, false, cond, ◌||◌, ◌==◌, List, [], ◌∷◌, length, Option, Some, None, Result, Ok, Err, inl, inr, refl, sym, ◌∙◌, subst, nat_le, take, map, ap}
use Rattle.std.specs.Prelude.{nat_lt, filter, flat_map, count_by}
use Rattle.blic_model.specs.declared.prefix.Quant.{Quant}
use Rattle.blic_model.specs.Formula.{PrenexFormula}
use Rattle.blic_model.specs.Limits.{IsFormula, is_bound}
use Rattle.blic_qdimacs.specs.declared.error.ReadError.{ReadError}
use Rattle.blic_qdimacs.specs.declared.error.ReadError.TheVariants as errors
use Rattle.blic_qdimacs.specs.declared.items.Place.{Place}
use Rattle.blic_qdimacs.specs.declared.items.Place.TheVariants.{Between, InSet, InClause}
use Rattle.blic_qdimacs.specs.Binding.{◌>>=◌}
use Rattle.blic_qdimacs.specs.Header.{Header, is_p, is_cnf, within_limits, header_numbers, header_after_p, header_from, header_on}
use Rattle.blic_qdimacs.specs.Items.{Items, literals, no_items, has_clauses, after_letter, in_set, in_clause, after_number, after_word}
use Rattle.blic_qdimacs.specs.Judged.{IsRefusal, IsJudged}
use Rattle.blic_qdimacs.specs.Lines.{Line, Word, lines_of, is_line_end}
use Rattle.blic_qdimacs.specs.Machine.{Machine, start, after_bytes, line_judged, read_of, finished, whole_by_bytes, cut_by_bytes, within_by_bytes}
use Rattle.blic_qdimacs.specs.Meaning.{Read, after_words, read_until, formula_of, ended, at_end, whole_meaning, cut_meaning, meaning, most_bytes}
use Rattle.blic_qdimacs.specs.Sound.{SoundItems, Sound, SoundWith}
use Rattle.blic_qdimacs.specs.Words.{Kind, Letter, Number, Other, kind_of, plain_number}
use Rattle.blic_qdimacs.proofs.Fitting.{formula_fits}
use Rattle.blic_qdimacs.proofs.Meant.{by_bytes, too_long}
use Rattle.blic_qdimacs.proofs.Sizes.{false_not_true}
use Rattle.blic_qdimacs.proofs.Sounding.{Then, then_cond, then_bind, judged_then, bytes_then}

-- what is spelled is a formula within the limits
ended_fits : (h : Header) (s : Items) (p : Place) → SoundItems h s → Then (ended h s p) IsFormula
ended_fits h s Between sound =
    then_cond (nat_lt (length s.clauses) h.clauses) (Err (errors.TooFewClauses s.line)) (Ok (formula_of h s)) IsFormula (λ e. tt) (λ e. formula_fits h s sound)
ended_fits h s (InSet q) sound = tt
ended_fits h s InClause sound = tt

end_fits : (p : Option Header) (m : Machine) → m.problem ≡ p → SoundWith p m.items → Then (at_end (read_of m)) IsFormula
end_fits None m is sound = subst (λ p. Then (at_end (Rattle.blic_qdimacs.specs.Machine.read_with p m.items)) IsFormula) (sym is) tt
end_fits (Some h) m is sound = subst (λ p. Then (at_end (Rattle.blic_qdimacs.specs.Machine.read_with p m.items)) IsFormula) (sym is) (ended_fits h m.items m.items.place sound)

whole_fits : (bytes : List ℕ) → Then (whole_by_bytes bytes) IsFormula
whole_fits bytes =
    then_bind (after_bytes start bytes) finished Sound IsFormula (bytes_then bytes start refl)
    (λ m sound. then_bind (line_judged m) (λ n. at_end (read_of n)) Sound IsFormula (judged_then m sound) (λ n s. end_fits n.problem n refl s))

cut_fits : (bytes : List ℕ) → Then (cut_by_bytes bytes) IsFormula
cut_fits bytes = then_bind (after_bytes start bytes) (λ m. Err (errors.TooLong m.line)) Sound IsFormula (bytes_then bytes start refl) (λ m sound. tt)

meaning_fits : (bytes : List ℕ) → Then (meaning bytes) IsFormula
meaning_fits bytes =
    subst (λ r. Then r IsFormula) (by_bytes most_bytes bytes)
    (then_cond (nat_le (length bytes) most_bytes) (whole_by_bytes bytes) (cut_by_bytes (take most_bytes bytes)) IsFormula (λ e. whole_fits bytes) (λ e. cut_fits (take most_bytes bytes)))

-- no fault, not out of memory, and not one byte too many
abbrev pub is_of_few : ReadError → Bool
is_of_few errors.Fault = false
is_of_few errors.NoMem = false
is_of_few (errors.TooLong line) = false
is_of_few _ = true

refusal_of_few : (e : ReadError) → is_of_few e ≡ true → IsRefusal e
refusal_of_few e few = ((λ same. false_not_true (sym (ap is_of_few same) ∙ few)), (λ same. false_not_true (sym (ap is_of_few same) ∙ few)))

-- a refusal of bytes that are not too many
abbrev pub Fine : {A : Type 0} → Result A ReadError → Type 0
Fine (Ok x) = Unit {0}
Fine (Err e) = is_of_few e ≡ true

fine_cond : {A : Type 0} (c : Bool) (x y : Result A ReadError) → Fine x → Fine y → Fine (cond c x y)
fine_cond true x y f g = f
fine_cond false x y f g = g

fine_bind : {A B : Type 0} (r : Result A ReadError) (f : A → Result B ReadError) → Fine r → ((x : A) → Fine (f x)) → Fine (r >>= f)
fine_bind (Ok x) f fine g = g x
fine_bind (Err e) f fine g = fine

fine_letter : (q : Quant) (line : ℕ) (p : Place) (s : Items) → Fine (after_letter q line p s)
fine_letter q line (InSet r) s = refl
fine_letter q line InClause s = refl
fine_letter q line Between s = fine_cond (has_clauses s.clauses) (Err (errors.SetAfterClause line)) _ refl tt

fine_in_set : (h : Header) (q : Quant) (negative : Bool) (v line : ℕ) (s : Items) → Fine (in_set h q negative v line s)
fine_in_set h q negative v line s =
    fine_cond negative (Err (errors.BadToken line)) _ refl
    (fine_cond (v == 0) (Ok (record s { place = Between; line = line })) _ tt
    (fine_cond (nat_lt h.vars v) (Err (errors.VariableTooLarge line)) _ refl
    (fine_cond (is_bound s.sets v) (Err (errors.BoundTwice line)) _ refl tt)))

fine_in_clause : (h : Header) (negative : Bool) (v line : ℕ) (s : Items) → Fine (in_clause h negative v line s)
fine_in_clause h negative v line s =
    fine_cond (v == 0) _ _ tt
    (fine_cond (nat_lt h.vars v) (Err (errors.VariableTooLarge line)) _ refl
    (fine_cond (nat_le 1048576 (literals s)) (Err (errors.TooManyLiterals line)) _ refl tt))

fine_number : (h : Header) (negative : Bool) (v line : ℕ) (p : Place) (s : Items) → Fine (after_number h negative v line p s)
fine_number h negative v line (InSet q) s = fine_in_set h q negative v line s
fine_number h negative v line InClause s = fine_in_clause h negative v line s
fine_number h negative v line Between s =
    fine_cond (nat_le h.clauses (length s.clauses)) (Err (errors.TooManyClauses line)) (in_clause h negative v line s) refl (fine_in_clause h negative v line s)

fine_word : (h : Header) (line : ℕ) (k : Kind) (s : Items) → Fine (after_word h line k s)
fine_word h line (Letter q) s = fine_letter q line s.place s
fine_word h line Other s = refl
fine_word h line (Number negative v) s =
    fine_cond (nat_lt 2147483647 v) (Err (errors.NumberTooLarge line)) (after_number h negative v line s.place s) refl (fine_number h negative v line s.place s)

fine_words : (h : Header) (ws : List Word) (s : Items) → Fine (after_words h ws s)
fine_words h [] s = tt
fine_words h (w ∷ ws) s = fine_bind (after_word h w.line (kind_of w.text) s) (after_words h ws) (fine_word h w.line (kind_of w.text) s) (λ t. fine_words h ws t)

fine_limits : (line v c : ℕ) → Fine (within_limits line v c)
fine_limits line v c =
    fine_cond (nat_lt 2147483647 v || nat_lt 2147483647 c) (Err (errors.NumberTooLarge line)) _ refl
    (fine_cond (nat_lt 65535 v) (Err (errors.TooManyVariables line)) _ refl
    (fine_cond (nat_lt 1048576 c) (Err (errors.ClauseLimit line)) _ refl tt))

fine_numbers : (line : ℕ) (v c : Option ℕ) → Fine (header_numbers line v c)
fine_numbers line (Some v) (Some c) = fine_limits line v c
fine_numbers line (Some v) None = refl
fine_numbers line None c = refl

fine_after_p : (line : ℕ) (texts : List (List ℕ)) → Fine (header_after_p line texts)
fine_after_p line [] = refl
fine_after_p line (a ∷ []) = refl
fine_after_p line (a ∷ b ∷ []) = refl
fine_after_p line (a ∷ b ∷ c ∷ []) = fine_cond (is_cnf a) _ (Err (errors.BadProblemLine line)) (fine_numbers line (plain_number b) (plain_number c)) refl
fine_after_p line (a ∷ b ∷ c ∷ d ∷ ds) = refl

fine_header : (line : ℕ) (texts : List (List ℕ)) → Fine (header_from line texts)
fine_header line [] = refl
fine_header line (first ∷ more) = fine_cond (is_p first) _ (Err (errors.NoProblemLine line)) (fine_after_p line more) refl

fine_until : (last : ℕ) (ls : List Line) → Fine (read_until last ls)
fine_until last [] = tt
fine_until last (l ∷ ls) =
    fine_cond (nat_le l.after last) _ (Ok None)
    (fine_bind (header_on l) _ (fine_header l.number (map (λ w. w.text) l.words)) (λ h.
    let ws : List Word = filter (λ w. nat_le w.after last) (flat_map (λ l. l.words) ls) in
    let read : Items → Result (Option Read) ReadError = λ s. Ok (Some (record { header = h; items = s })) in
    fine_bind (after_words h ws (no_items l.number)) read (fine_words h ws (no_items l.number)) (λ s. tt)))
    tt

fine_ended : (h : Header) (s : Items) (p : Place) → Fine (ended h s p)
fine_ended h s Between = fine_cond (nat_lt (length s.clauses) h.clauses) (Err (errors.TooFewClauses s.line)) _ refl tt
fine_ended h s (InSet q) = refl
fine_ended h s InClause = refl

fine_end : (r : Option Read) → Fine (at_end r)
fine_end None = refl
fine_end (Some r) = fine_ended r.header r.items r.items.place

pub fine_whole : (bytes : List ℕ) → Fine (whole_meaning bytes)
fine_whole bytes = fine_bind (read_until (length bytes + 1) (lines_of bytes)) at_end (fine_until (length bytes + 1) (lines_of bytes)) fine_end

-- a refusal is no fault and not out of memory
abbrev Refusal : {A : Type 0} → Result A ReadError → Type 0
Refusal (Ok x) = Unit {0}
Refusal (Err e) = IsRefusal e

whole_refusal : {A : Type 0} (r : Result A ReadError) → Fine r → Refusal r
whole_refusal (Ok x) fine = tt
whole_refusal (Err e) fine = refusal_of_few e fine

cut_refusal : {A : Type 0} (line : ℕ) (r : Result A ReadError) → Fine r → Refusal (r >>= too_long line)
cut_refusal line (Ok x) fine = ((λ e. cc), (λ e. cc))
cut_refusal line (Err e) fine = refusal_of_few e fine

either_refusal : {A : Type 0} (c : Bool) (x y : Result A ReadError) → Refusal x → Refusal y → Refusal (cond c x y)
either_refusal true x y f g = f
either_refusal false x y f g = g

meaning_refusal : (bytes : List ℕ) → Refusal (meaning bytes)
meaning_refusal bytes =
    let first : List ℕ = take most_bytes bytes in
    either_refusal (nat_le (length bytes) most_bytes) (whole_meaning bytes) (cut_meaning first)
    (whole_refusal (whole_meaning bytes) (fine_whole bytes))
    (cut_refusal (count_by is_line_end first + 1) (read_until (length first) (lines_of first)) (fine_until (length first) (lines_of first)))

judged_by : (bytes : List ℕ) (r : Result PrenexFormula ReadError) → meaning bytes ≡ r → Then r IsFormula → Refusal r → IsJudged bytes
judged_by bytes (Ok f) is fits refusal =
    inl (
      f,
      record {
        formula = fits;
        spells = is;
        no_other = λ g other. let e : Ok f ≡ Ok g = sym is ∙ other in cc;
        no_refusal = λ e other. let c : Ok f ≡ Err e = sym is ∙ other in cc;
      },
    )
judged_by bytes (Err e) is fits refusal =
    inr (
      e,
      record {
        refusal = refusal;
        refuses = is;
        no_other = λ d other. let c : Err e ≡ Err d = sym is ∙ other in cc;
        no_formula = λ f other. let c : Err e ≡ Ok f = sym is ∙ other in cc;
      },
    )

pub judged : (bytes : List ℕ) → IsJudged bytes
judged bytes = judged_by bytes (meaning bytes) refl (meaning_fits bytes) (meaning_refusal bytes)
