-- Which parts make a formula, as tests that compute.
use Rattle.std.specs.Prelude.{ℕ, Bool, true, not, ◌&&◌, ◌==◌, nat_le, nat_lt, IsTrue, List, [], ◌∷◌, length, sum_by}
use Rattle.std.specs.List.{list_all, list_any}
use Rattle.blic_model.specs.declared.prefix.Bound.{Bound}
use Rattle.blic_model.specs.declared.formula.Lit.{Lit}
use Rattle.blic_model.specs.Formula.{PrenexFormula}

-- at most 65,535 variables, 1,048,576 clauses and 1,048,576 literals
abbrev pub is_small : PrenexFormula → Bool
is_small f = nat_le f.vars 65535 && nat_le (length f.clauses) 1048576 && nat_le (sum_by length f.clauses) 1048576

-- the prefix binds the variable
abbrev pub is_bound : List Bound → ℕ → Bool
is_bound prefix var = list_any (λ b. b.var == var) prefix

-- each variable of the prefix is from 1 to `vars`
abbrev pub are_in_range : ℕ → List Bound → Bool
are_in_range vars prefix = list_all (λ b. nat_lt 0 b.var && nat_le b.var vars) prefix

-- no variable is bound twice
abbrev pub are_distinct : List Bound → Bool
are_distinct [] = true
are_distinct (b ∷ inner) = not (is_bound inner b.var) && are_distinct inner

-- each variable of a clause is bound
abbrev pub is_closed : List Bound → List (List Lit) → Bool
is_closed prefix clauses = list_all (list_all (λ l. is_bound prefix l.var)) clauses

abbrev pub is_formula : PrenexFormula → Bool
is_formula f = is_small f && are_in_range f.vars f.prefix && are_distinct f.prefix && is_closed f.prefix f.clauses

abbrev pub IsFormula : PrenexFormula → Type 0
IsFormula f = IsTrue (is_formula f)
