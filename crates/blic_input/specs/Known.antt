-- What is known of a task if its file is told: its problem, the file's first error, a limit that is passed.
use Rattle.std.specs.Prelude.{◌≡◌, Option, Err, IsSomeAnd, ◌⊎◌}
use Rattle.blic_model.specs.Formula.{PrenexFormula}
use Rattle.blic_model.specs.declared.circuit.CircuitError.{CircuitError}
use Rattle.blic_qdimacs.specs.Meaning.{meaning, Spells}
use Rattle.blic_qdimacs.specs.declared.error.ReadError.{ReadError}
use Rattle.blic_solve.specs.declared.plan.SolveError.{SolveError}
use Rattle.blic_input.specs.Problem.{Problem, problem_of}
use Rattle.blic_input.specs.Stops.{ToldFiles, HasSmallCircuit, IsBuildingCause, IsCauseWithin}
use Rattle.blic_input.specs.StopTexts.{circuit_status, solving_status}
use Rattle.blic_input.specs.Tasks.{Subject, OfFile, Made, Task}
use Rattle.blic_input.specs.declared.problem.SolveLimits.{SolveLimits}

-- the problem is the subject's: the file is told and spells it
abbrev pub IsNamed : ToldFiles → Subject → Problem → Type 0
IsNamed files (OfFile name) p = (f : PrenexFormula) × IsSomeAnd files (λ file. IsSomeAnd (file name) (λ bytes. Spells bytes f)) × (p ≡ problem_of f)
IsNamed files (Made q) p = p ≡ q

-- the first error of the subject's file, which is told
abbrev pub IsRefused : ToldFiles → Subject → ReadError → Type 0
IsRefused files (OfFile name) error = IsSomeAnd files (λ file. IsSomeAnd (file name) (λ bytes. meaning bytes ≡ Err error))
IsRefused files (Made q) error = ⊥

-- some refusal of a limit, which isn't out of memory, has its cause
pub record PassesCircuit (p : Problem) : Type 0 where
  pub error : CircuitError
  pub status : circuit_status error ≡ 8
  pub cause : IsBuildingCause p error

pub record PassesSolving (p : Problem) (limits : Option SolveLimits) : Type 0 where
  pub error : SolveError
  pub status : solving_status error ≡ 8
  pub small : HasSmallCircuit p
  pub cause : IsCauseWithin p limits error

abbrev pub PassesLimit : Problem → Task → Type 0
PassesLimit p task = PassesCircuit p ⊎ PassesSolving p task.limits
