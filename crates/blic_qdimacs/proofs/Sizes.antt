-- What a formula within the limits has, as sizes.
use Rattle.std.proofs.Common.{◌≡◌, ◌<◌, ◌≤◌, Bool, true, false, ◌&&◌, List, [], ◌∷◌, length, refl, sum_by}
use Rattle.blic_model.specs.declared.prefix.Bound.{Bound}
use Rattle.blic_model.specs.declared.formula.Lit.{Lit}
use Rattle.blic_model.specs.Formula.{PrenexFormula}

pub false_not_true : false ≡ true → ⊥
false_not_true h = cc

pub and_split : (a b : Bool) → (a && b) ≡ true → (a ≡ true) × (b ≡ true)
and_split true b h = (refl, h)
and_split false b h = absurd (false_not_true h)

abbrev pub SmallLiterals : List Lit → Type 0
SmallLiterals [] = Unit {0}
SmallLiterals (l ∷ ls) = (0 < l.var) × (l.var ≤ 65535) × SmallLiterals ls

abbrev pub SmallClauses : List (List Lit) → Type 0
SmallClauses [] = Unit {0}
SmallClauses (c ∷ cs) = SmallLiterals c × SmallClauses cs

abbrev pub SmallBounds : List Bound → Type 0
SmallBounds [] = Unit {0}
SmallBounds (b ∷ bs) = (0 < b.var) × (b.var ≤ 65535) × SmallBounds bs

pub record IsSmall (f : PrenexFormula) : Type 0 where
  pub vars : f.vars ≤ 65535
  pub count : length f.clauses ≤ 1048576
  pub literals : sum_by length f.clauses ≤ 1048576
  pub entries : length f.prefix ≤ 65536
  pub bounds : SmallBounds f.prefix
  pub clauses : SmallClauses f.clauses
