-- Whose fault a stop tells.
use Rattle.std.specs.Prelude.{◌≡◌, ℕ, Option, Some, None, Result, Ok, Err}
use Rattle.blic_basic.specs.Outside.{Rose}
use Rattle.blic_qdimacs.specs.declared.error.ReadError.TheVariants as errors
use Rattle.blic_input.specs.declared.stop.Stop.{Stop}
use Rattle.blic_input.specs.declared.stop.Stop.TheVariants.{NotRead, NoSeed}

pub data Object : Type 0 where
  Files : Object
  Entropy : Object

-- the object whose fault it tells, if it tells one
abbrev pub stop_fault : Stop → Option Object
stop_fault (NotRead errors.Fault) = Some Files
stop_fault NoSeed = Some Entropy
stop_fault _ = None

abbrev pub fault_told : {A : Type 0} → Result A Stop → Option Object
fault_told (Ok a) = None
fault_told (Err stop) = stop_fault stop

-- an object's count rose if its fault is told, and else it stayed
abbrev pub Counts : Object → Option Object → ℕ → ℕ → Type 0
Counts Files (Some Files) before now = Rose before now
Counts Entropy (Some Entropy) before now = Rose before now
Counts _ _ before now = now ≡ before
