-- How much may be evaluated at once, of what, and what is kept.
use Rattle.std.specs.Prelude.{ℕ, List}

-- how many decisions and pairs there is room for, the decisions that two functions lead to, and the values that are kept of the first ones
pub record Room : Type 0 where
  pub nodes : ℕ
  pub pairs : ℕ
  pub reached : List ℕ
  pub kept : List ℕ
