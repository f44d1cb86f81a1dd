-- The canonical text of a formula: one spelling for each formula, in ASCII (a form of QDIMACS 1.1).
use Rattle.std.specs.Prelude.{ℕ, Bool, true, false, cond, List, [], ◌∷◌, ◌++◌, length, codes, decimal, flat_map}
use Rattle.blic_model.specs.declared.prefix.Quant.{Quant}
use Rattle.blic_model.specs.declared.prefix.Quant.TheVariants.{Exists, Forall}
use Rattle.blic_model.specs.declared.prefix.Bound.{Bound}
use Rattle.blic_model.specs.declared.formula.Lit.{Lit}
use Rattle.blic_model.specs.Formula.{PrenexFormula}

-- variables that follow each other in a prefix and have one quantifier
pub record Run : Type 0 where
  pub quant : Quant
  pub vars : List ℕ

abbrev pub same_quant : Quant → Quant → Bool
same_quant Exists Exists = true
same_quant Forall Forall = true
same_quant Exists Forall = false
same_quant Forall Exists = false

-- the runs with an entry before them: it joins the first run if that has its quantifier, and is a run of its own if not
abbrev pub with_bound : Bound → List Run → List Run
with_bound b [] = record { quant = b.quant; vars = b.var ∷ [] } ∷ []
with_bound b (r ∷ runs) =
    cond (same_quant b.quant r.quant) (record { quant = r.quant; vars = b.var ∷ r.vars } ∷ runs)
    (record { quant = b.quant; vars = b.var ∷ [] } ∷ r ∷ runs)

-- a prefix, cut into its longest runs
abbrev pub runs_of : List Bound → List Run
runs_of [] = []
runs_of (b ∷ bounds) = with_bound b (runs_of bounds)

abbrev pub line_end : List ℕ
line_end = 10 ∷ []

-- p cnf V C
abbrev pub header_text : PrenexFormula → List ℕ
header_text f = codes "p cnf " ++ decimal f.vars ++ codes " " ++ decimal (length f.clauses) ++ line_end

-- the letter of a quantifier, and a space
abbrev pub quant_text : Quant → List ℕ
quant_text Exists = codes "e "
quant_text Forall = codes "a "

-- a variable, and a space
abbrev pub var_text : ℕ → List ℕ
var_text v = decimal v ++ codes " "

-- a line for a run
abbrev pub run_text : Run → List ℕ
run_text r = quant_text r.quant ++ flat_map var_text r.vars ++ codes "0" ++ line_end

-- a minus if it is negative, its variable, and a space
abbrev pub literal_text : Lit → List ℕ
literal_text l = cond l.negative (codes "-") [] ++ decimal l.var ++ codes " "

-- a line for a clause
abbrev pub clause_text : List Lit → List ℕ
clause_text literals = flat_map literal_text literals ++ codes "0" ++ line_end

-- the header, a line for each run of the prefix, and a line for each clause
abbrev pub canonical_text : PrenexFormula → List ℕ
canonical_text f = header_text f ++ flat_map run_text (runs_of f.prefix) ++ flat_map clause_text f.clauses
