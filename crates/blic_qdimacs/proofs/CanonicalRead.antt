-- The canonical text of a formula is read as that formula.
use Rattle.std.proofs.Common.{◌≡◌, ℕ, ◌+◌, ◌≤◌, Bool, true, false, cond, not, ◌&&◌, ◌==◌, List, [], ◌∷◌, ◌++◌, length, None, Result, Ok, Err, inl, inr, refl, ap, sym, ◌∙◌, arith, append_assoc, sum_by, flat_map, map, take}
use Rattle.std.specs.Prelude.{filter}
use Rattle.std.specs.List.{list_all, list_any}
use Rattle.std.proofs.lemmas.Bool.{le-leb, le-ltb, and_parts, or_cases, eqb-true, both_ways}
use Rattle.blic_model.specs.declared.prefix.Bound.{Bound}
use Rattle.blic_model.specs.declared.prefix.Quant.TheVariants.{Exists}
use Rattle.blic_model.specs.declared.formula.Lit.{Lit}
use Rattle.blic_model.specs.Formula.{PrenexFormula}
use Rattle.blic_model.specs.Limits.{IsFormula, is_small, is_bound, are_in_range, are_distinct, is_closed}
use Rattle.blic_qdimacs.specs.declared.byte_reader.Mode.TheVariants.{Start}
use Rattle.blic_qdimacs.specs.declared.error.ReadError.{ReadError}
use Rattle.blic_qdimacs.specs.declared.error.ReadError.TheVariants as errors
use Rattle.blic_qdimacs.specs.declared.seen.HeaderSeen.TheVariants as headers
use Rattle.blic_qdimacs.specs.Binding.{◌>>=◌}
use Rattle.blic_qdimacs.specs.Machine.{start, after_bytes, finished}
use Rattle.blic_qdimacs.specs.Meaning.{Spells, meaning, whole_meaning, cut_meaning, most_bytes, up_to, is_free, free_bounds, formula_of}
use Rattle.blic_qdimacs.specs.Text.{canonical_text, header_text, run_text, runs_of, clause_text}
use Rattle.blic_qdimacs.proofs.Lengths.{length-canonical_text}
use Rattle.blic_qdimacs.proofs.Meant.{whole}
use Rattle.blic_qdimacs.proofs.Small.{bound_below, formula_is_small}
use Rattle.blic_qdimacs.proofs.Spelling.{reading, open_items, set_items, header_for, Below, AllBelow, header_run, prefix_run, clauses_run}
use Rattle.blic_qdimacs.proofs.WritingLaws.{prefix_by_runs}

-- the literals of a closed formula are in range
below_from : (n : ℕ) (bounds : List Bound) (ls : List Lit) → are_in_range n bounds ≡ true → list_all (λ l. is_bound bounds l.var) ls ≡ true → Below n ls
below_from n bounds [] range closed = tt
below_from n bounds (l ∷ ls) range closed =
    let c = and_parts (is_bound bounds l.var) (list_all (λ m. is_bound bounds m.var) ls) closed in
    let here = bound_below n l.var bounds range c.0 in
    (here.0, here.1, below_from n bounds ls range c.1)

all_below_from : (n : ℕ) (bounds : List Bound) (cs : List (List Lit)) → are_in_range n bounds ≡ true → is_closed bounds cs ≡ true → AllBelow n cs
all_below_from n bounds [] range closed = tt
all_below_from n bounds (c ∷ cs) range closed =
    let d = and_parts (list_all (λ l. is_bound bounds l.var) c) (is_closed bounds cs) closed in
    (below_from n bounds c range d.0, all_below_from n bounds cs range d.1)

-- no variable of a closed formula is free
bound_in : (bounds : List Bound) (c : List Lit) (v : ℕ) → list_all (λ l. is_bound bounds l.var) c ≡ true → list_any (λ l. l.var == v) c ≡ true → is_bound bounds v ≡ true
bound_in bounds [] v closed stands = absurd (both_ways false refl stands)
bound_in bounds (l ∷ c) v closed stands =
    let d = and_parts (is_bound bounds l.var) (list_all (λ m. is_bound bounds m.var) c) closed in
    elim (or_cases (l.var == v) (list_any (λ m. m.var == v) c) stands) [
      | inl here ↦ ap (is_bound bounds) (sym (eqb-true l.var v here)) ∙ d.0
      | inr later ↦ bound_in bounds c v d.1 later
    ]

bound_where : (bounds : List Bound) (cs : List (List Lit)) (v : ℕ) → is_closed bounds cs ≡ true → list_any (λ c. list_any (λ l. l.var == v) c) cs ≡ true → is_bound bounds v ≡ true
bound_where bounds [] v closed stands = absurd (both_ways false refl stands)
bound_where bounds (c ∷ cs) v closed stands =
    let d = and_parts (list_all (λ l. is_bound bounds l.var) c) (is_closed bounds cs) closed in
    elim (or_cases (list_any (λ l. l.var == v) c) (list_any (λ c. list_any (λ l. l.var == v) c) cs) stands) [
      | inl here ↦ bound_in bounds c v d.0 here
      | inr later ↦ bound_where bounds cs v d.1 later
    ]

not_free : (a b : Bool) → (a ≡ true → b ≡ true) → (a && not b) ≡ false
not_free true b h = ap not (h refl)
not_free false b h = refl

none_kept : (p : ℕ → Bool) (vs : List ℕ) → ((v : ℕ) → p v ≡ false) → filter p vs ≡ []
none_kept p [] h = refl
none_kept p (v ∷ vs) h = ap (λ t. cond t (v ∷ filter p vs) (filter p vs)) (h v) ∙ none_kept p vs h

no_free : (n : ℕ) (bounds : List Bound) (cs : List (List Lit)) → is_closed bounds cs ≡ true → free_bounds n bounds cs ≡ []
no_free n bounds cs closed =
    let mk : ℕ → Bound = λ v. record { quant = Exists; var = v } in
    ap (map mk) (none_kept (is_free bounds cs) (up_to n) (λ v. not_free (list_any (λ c. list_any (λ l. l.var == v) c) cs) (is_bound bounds v) (bound_where bounds cs v closed)))

record Facts (f : PrenexFormula) : Type 0 where
  range : are_in_range f.vars f.prefix ≡ true
  distinct : are_distinct f.prefix ≡ true
  closed : is_closed f.prefix f.clauses ≡ true

facts : (f : PrenexFormula) → IsFormula f → Facts f
facts f fits =
    let a = and_parts (is_small f && are_in_range f.vars f.prefix && are_distinct f.prefix) (is_closed f.prefix f.clauses) fits in
    let b = and_parts (is_small f && are_in_range f.vars f.prefix) (are_distinct f.prefix) a.0 in
    let c = and_parts (is_small f) (are_in_range f.vars f.prefix) b.0 in
    record { range = c.1; distinct = b.1; closed = a.1 }

-- the reader after the text
text_run : (f : PrenexFormula) → IsFormula f
    → (line : ℕ) × (j : ℕ) × (after_bytes start (canonical_text f) ≡ Ok (reading (header_for f) (headers.Both f.vars (length f.clauses)) line Start (open_items f.prefix f.clauses [] j)))
text_run f fits =
    let k = facts f fits in
    let small = formula_is_small f fits in
    let h = header_for f in
    let hs = headers.Both f.vars (length f.clauses) in
    let clauses = flat_map clause_text f.clauses in
    let prefix = flat_map run_text (runs_of f.prefix) in
    let p = prefix_run h hs small.vars f.prefix None [] 2 1 clauses k.range k.distinct in
    let count : 0 + length f.clauses ≤ length f.clauses = omega arith in
    let most : 0 + sum_by length f.clauses ≤ 1048576 = omega (arith, small.literals) in
    let c = clauses_run h hs f.prefix small.vars f.clauses [] p.0 p.1 (all_below_from f.vars f.prefix f.clauses k.range k.closed) count most in (
      c.0,
      c.1,
      ap (after_bytes start) (append_assoc (header_text f) prefix clauses)
          ∙ header_run f (prefix ++ clauses) small.vars small.count
          ∙ ap (λ t. after_bytes (reading h hs 2 Start (set_items None [] 1)) (t ++ clauses)) (sym (prefix_by_runs f.prefix))
          ∙ p.2 ∙ c.2,
    )

ended_here : (f : PrenexFormula) (line j : ℕ) → is_closed f.prefix f.clauses ≡ true
    → finished (reading (header_for f) (headers.Both f.vars (length f.clauses)) line Start (open_items f.prefix f.clauses [] j)) ≡ Ok f
ended_here f line j closed =
    let n = length f.clauses in
    let le : n ≤ n = omega arith in
    let s = open_items f.prefix f.clauses [] j in
    ap (λ t. cond t (Err (errors.TooFewClauses j)) (Ok (formula_of (header_for f) s))) (le-ltb n n le)
    ∙ ap (λ bs. let g : PrenexFormula = record { vars = f.vars; prefix = bs ++ f.prefix; clauses = f.clauses } in let r : Result PrenexFormula ReadError = Ok g in r) (no_free f.vars f.prefix f.clauses closed)

pub canonical_spells : (f : PrenexFormula) → IsFormula f → Spells (canonical_text f) f
canonical_spells f fits =
    let text = canonical_text f in
    let t = text_run f fits in
    ap (λ few. cond few (whole_meaning text) (cut_meaning (take most_bytes text))) (le-leb (length text) most_bytes (length-canonical_text f fits))
    ∙ sym (whole text) ∙ ap (λ r. r >>= finished) t.2 ∙ ended_here f t.0 t.1 ((facts f fits).closed)

-- two formulas with one text are one
pub one_formula : (f g : PrenexFormula) → IsFormula f → IsFormula g → canonical_text f ≡ canonical_text g → f ≡ g
one_formula f g fits_f fits_g same =
    let e : Ok f ≡ Ok g = sym (canonical_spells f fits_f) ∙ ap meaning same ∙ canonical_spells g fits_g in cc
