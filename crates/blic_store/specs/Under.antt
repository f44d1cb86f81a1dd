-- Private: refs with some topmost levels fixed.
use Rattle.std.specs.Prelude.{ℕ, ◌≤◌, Bool, List, length}
use Rattle.blic_store.specs.declared.decision.Decision.{Decision}
use Rattle.blic_store.specs.Function.{Same, after}
use Rattle.blic_store.specs.Diagram.{IsRef, function, level_of}

-- r is a with the topmost levels fixed to the bits; if it is no constant it decides at a level below them
pub record IsUnder (nodes : List Decision) (a : ℕ) (bits : List Bool) (r : ℕ) : Type 0 where
  pub held : IsRef nodes r
  pub value : Same (function nodes r) (λ p. function nodes a (after bits p))
  pub below : 2 ≤ r → length bits ≤ level_of nodes r

-- a leads to r: r is a with some topmost levels fixed
abbrev pub IsLedTo : List Decision → ℕ → ℕ → Type 0
IsLedTo nodes a r = (bits : List Bool) × IsUnder nodes a bits r
