-- The truth of a closed formula (QDIMACS 1.1, the meaning of a closed formula).
use Rattle.std.specs.Prelude.{ℕ, Bool, true, false, not, ◌&&◌, ◌||◌, ◌==◌, cond, List, [], ◌∷◌}
use Rattle.std.specs.List.{list_all, list_any}
use Rattle.blic_model.specs.declared.prefix.Quant.{Quant}
use Rattle.blic_model.specs.declared.prefix.Quant.TheVariants.{Exists, Forall}
use Rattle.blic_model.specs.declared.prefix.Bound.{Bound}
use Rattle.blic_model.specs.declared.formula.Lit.{Lit}
use Rattle.blic_model.specs.Formula.{PrenexFormula}

-- an assignment gives each variable a value; a literal has its variable's value, or the other one
abbrev pub literal_holds : (ℕ → Bool) → Lit → Bool
literal_holds a l = cond l.negative (not (a l.var)) (a l.var)

-- a clause holds if one of its literals does
abbrev pub clause_holds : (ℕ → Bool) → List Lit → Bool
clause_holds a literals = list_any (literal_holds a) literals

-- the clauses hold if each of them does
abbrev pub matrix_holds : (ℕ → Bool) → List (List Lit) → Bool
matrix_holds a clauses = list_all (clause_holds a) clauses

-- the assignment a, with the variable v set to b
abbrev pub with_value : (ℕ → Bool) → ℕ → Bool → ℕ → Bool
with_value a v b u = cond (u == v) b (a u)

-- `Exists` asks for one of the two values of its variable, `Forall` for both
abbrev pub quantified : Quant → Bool → Bool → Bool
quantified Exists low high = low || high
quantified Forall low high = low && high

-- the truth of clauses under a prefix; the assignment has the values of the variables outside it
abbrev pub truth_under : List Bound → List (List Lit) → (ℕ → Bool) → Bool
truth_under [] clauses a = matrix_holds a clauses
truth_under (b ∷ inner) clauses a =
    quantified b.quant (truth_under inner clauses (with_value a b.var false)) (truth_under inner clauses (with_value a b.var true))

-- the assignment at the start; its values don't matter in a closed formula
abbrev pub nothing_set : ℕ → Bool
nothing_set v = false

abbrev pub truth : PrenexFormula → Bool
truth f = truth_under f.prefix f.clauses nothing_set
