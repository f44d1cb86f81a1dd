-- What the test of a formula says of its prefix and clauses.
use Rattle.std.proofs.Common.{arith, ◌≡◌, Bool, true, ◌&&◌}
use Rattle.std.specs.Prelude.{All}
use Rattle.blic_model.specs.Formula.{PrenexFormula}
use Rattle.blic_model.specs.Limits.{is_small, are_in_range, are_distinct, is_closed, IsFormula}
use Rattle.blic_model.proofs.LevelOf.{VarsDiffer, VarsDiffer-from_test}
use Rattle.blic_model.proofs.FreeRoot.{levels_stand}
use Rattle.blic_model.proofs.Grown.{HasLevel}

third : (a b c d : Bool) → (a && b && c && d) ≡ true → c ≡ true
third a b c d h = grind arith

fourth : (a b c d : Bool) → (a && b && c && d) ≡ true → d ≡ true
fourth a b c d h = grind arith

first : (a b c d : Bool) → (a && b && c && d) ≡ true → a ≡ true
first a b c d h = grind arith

pub small_of : (f : PrenexFormula) → IsFormula f → is_small f ≡ true
small_of f h = first (is_small f) (are_in_range f.vars f.prefix) (are_distinct f.prefix) (is_closed f.prefix f.clauses) h

second : (a b c d : Bool) → (a && b && c && d) ≡ true → b ≡ true
second a b c d h = grind arith

pub in_range_of : (f : PrenexFormula) → IsFormula f → are_in_range f.vars f.prefix ≡ true
in_range_of f h = second (is_small f) (are_in_range f.vars f.prefix) (are_distinct f.prefix) (is_closed f.prefix f.clauses) h

pub distinct_of : (f : PrenexFormula) → IsFormula f → are_distinct f.prefix ≡ true
distinct_of f h = third (is_small f) (are_in_range f.vars f.prefix) (are_distinct f.prefix) (is_closed f.prefix f.clauses) h

pub VarsDiffer-of : (f : PrenexFormula) → IsFormula f → VarsDiffer f.prefix
VarsDiffer-of f h = VarsDiffer-from_test f.prefix (distinct_of f h)

pub closed_of : (f : PrenexFormula) → IsFormula f → is_closed f.prefix f.clauses ≡ true
closed_of f h = fourth (is_small f) (are_in_range f.vars f.prefix) (are_distinct f.prefix) (is_closed f.prefix f.clauses) h

pub has_levels_of : (f : PrenexFormula) → IsFormula f → All (All (HasLevel f.prefix)) f.clauses
has_levels_of f h i c li j d lj = (levels_stand f.prefix f.clauses (closed_of f h) i c li j d lj).0
