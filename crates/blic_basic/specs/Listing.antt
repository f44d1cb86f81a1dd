-- The entries that a value stands for.
use Rattle.std.specs.Prelude.{ℕ, List}

-- the number of the seat that added the entry, and what the entry says
pub record Entry : Type 0 where
  pub seat : ℕ
  pub words : List ℕ
