-- A closed formula in prenex conjunctive form, as contracts see it.
use Rattle.std.specs.Prelude.{ℕ, List}
use Rattle.blic_model.specs.declared.prefix.Bound.{Bound}
use Rattle.blic_model.specs.declared.formula.Lit.{Lit}

pub record PrenexFormula : Type 0 where
  pub vars : ℕ
  -- from the outermost entry to the innermost
  pub prefix : List Bound
  pub clauses : List (List Lit)
