-- Private: whose fault an outcome tells.
use Rattle.std.specs.Prelude.{◌≡◌, ℕ, Option, Some, None}
use Rattle.blic_basic.specs.Outside.{Rose}
use Rattle.blic_input.specs.Faults.{Object, stop_fault}
use Rattle.blic_top.specs.declared.outcome.Outcome.{Outcome}
use Rattle.blic_top.specs.declared.outcome.Outcome.TheVariants.{Stopped}

-- the object whose fault it tells, if it tells one
abbrev pub fault_of : Outcome → Option Object
fault_of (Stopped stop) = stop_fault stop
fault_of _ = None

-- if a call on the output failed, no other fault is told
abbrev pub fault_in : Option Outcome → Option Object
fault_in None = None
fault_in (Some outcome) = fault_of outcome

-- that of the output, which tells its fault by no outcome
abbrev pub WriteCounts : Option Outcome → ℕ → ℕ → Type 0
WriteCounts None before now = Rose before now
WriteCounts (Some outcome) before now = now ≡ before
