-- The canonical text of a formula within the limits is no longer than a file may be.
use Rattle.std.proofs.Common.{ℕ, ◌+◌, ◌*◌, ◌≤◌, Bool, true, false, List, [], ◌∷◌, ◌++◌, length, arith, length-append, flat_map, sum_by}
use Rattle.std.specs.Prelude.{decimal}
use Rattle.std.proofs.lemmas.Fmt.{length-decimal-le}
use Rattle.std.proofs.lemmas.List.Sums.{sum_by-cons}
use Rattle.blic_model.specs.declared.prefix.Quant.{Quant}
use Rattle.blic_model.specs.declared.prefix.Quant.TheVariants.{Exists, Forall}
use Rattle.blic_model.specs.declared.prefix.Bound.{Bound}
use Rattle.blic_model.specs.declared.formula.Lit.{Lit}
use Rattle.blic_model.specs.Formula.{PrenexFormula}
use Rattle.blic_model.specs.Limits.{IsFormula}
use Rattle.blic_qdimacs.specs.Text.{Run, header_text, run_text, runs_of, with_bound, literal_text, clause_text, canonical_text}
use Rattle.blic_qdimacs.proofs.Small.{formula_is_small}
use Rattle.blic_qdimacs.proofs.Sizes.{SmallBounds, SmallLiterals, SmallClauses}

length-digits : (v : ℕ) → v ≤ 65535 → length (decimal v) ≤ 5
length-digits v few = length-decimal-le 5 v (omega arith) (omega arith) (omega arith)

length-literal_by : (negative : Bool) (v : ℕ) → v ≤ 65535 → length (literal_text (record { var = v; negative = negative })) ≤ 7
length-literal_by true v few = let digits = length-digits v few in simp length-append (omega arith)
length-literal_by false v few = let digits = length-digits v few in simp length-append (omega arith)

length-literals : (literals : List Lit) → SmallLiterals literals → length (flat_map literal_text literals) ≤ 7 * length literals
length-literals [] small = omega arith
length-literals (l ∷ literals) small =
    let here : length (literal_text l) ≤ 7 = length-literal_by l.negative l.var small.1 in
    let rest : length (flat_map literal_text literals) ≤ 7 * length literals = length-literals literals small.2 in
    omega (arith, length-append (literal_text l) (flat_map literal_text literals))

length-clause_text : (literals : List Lit) → SmallLiterals literals → length (clause_text literals) ≤ 7 * length literals + 2
length-clause_text literals small =
    let most : length (flat_map literal_text literals) ≤ 7 * length literals = length-literals literals small in
    simp length-append (omega arith)

length-clauses : (clauses : List (List Lit)) → SmallClauses clauses
    → length (flat_map clause_text clauses) ≤ 7 * sum_by length clauses + 2 * length clauses
length-clauses [] small = omega arith
length-clauses (c ∷ clauses) small =
    let here : length (clause_text c) ≤ 7 * length c + 2 = length-clause_text c small.0 in
    let rest : length (flat_map clause_text clauses) ≤ 7 * sum_by length clauses + 2 * length clauses = length-clauses clauses small.1 in
    omega (arith, length-append (clause_text c) (flat_map clause_text clauses), sum_by-cons length c clauses)

length-with_bound : (q : Quant) (v : ℕ) (r : Quant) (vs : List ℕ) (runs : List Run) → v ≤ 65535
    → length (flat_map run_text (with_bound (record { quant = q; var = v }) (record { quant = r; vars = vs } ∷ runs)))
    ≤ 10 + length (flat_map run_text (record { quant = r; vars = vs } ∷ runs))
length-with_bound Exists v Exists vs runs few = let digits = length-digits v few in simp length-append (omega arith)
length-with_bound Exists v Forall vs runs few = let digits = length-digits v few in simp length-append (omega arith)
length-with_bound Forall v Exists vs runs few = let digits = length-digits v few in simp length-append (omega arith)
length-with_bound Forall v Forall vs runs few = let digits = length-digits v few in simp length-append (omega arith)

length-next : (q : Quant) (v : ℕ) (runs : List Run) → v ≤ 65535
    → length (flat_map run_text (with_bound (record { quant = q; var = v }) runs)) ≤ 10 + length (flat_map run_text runs)
length-next Exists v [] few = let digits = length-digits v few in simp length-append (omega arith)
length-next Forall v [] few = let digits = length-digits v few in simp length-append (omega arith)
length-next q v (r ∷ runs) few = length-with_bound q v r.quant r.vars runs few

length-prefix : (bounds : List Bound) → SmallBounds bounds → length (flat_map run_text (runs_of bounds)) ≤ 10 * length bounds
length-prefix [] small = omega arith
length-prefix (b ∷ bounds) small =
    let here = length-next b.quant b.var (runs_of bounds) small.1 in
    let rest : length (flat_map run_text (runs_of bounds)) ≤ 10 * length bounds = length-prefix bounds small.2 in
    omega (arith, here)

length-header : (f : PrenexFormula) → f.vars ≤ 65535 → length f.clauses ≤ 1048576 → length (header_text f) ≤ 20
length-header f few few_clauses =
    let vars = length-digits f.vars few in
    let count : length (decimal (length f.clauses)) ≤ 7 = length-decimal-le 7 (length f.clauses) (omega arith) (omega arith) (omega arith) in
    simp length-append (omega arith)

-- a file has room for each canonical text
pub length-canonical_text : (f : PrenexFormula) → IsFormula f → length (canonical_text f) ≤ 67108864
length-canonical_text f fits =
    let small = formula_is_small f fits in
    let header = length-header f small.vars small.count in
    let prefix = length-prefix f.prefix small.bounds in
    let clauses = length-clauses f.clauses small.clauses in
    omega (arith, header, prefix, clauses, small.entries, small.literals, small.count, length-append (header_text f ++ flat_map run_text (runs_of f.prefix)) (flat_map clause_text f.clauses), length-append (header_text f) (flat_map run_text (runs_of f.prefix)))
