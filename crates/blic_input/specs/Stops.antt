-- Why a task stops. The order of refusals is that of the cases of `Stops`.
use Rattle.std.specs.Prelude.{◌≡◌, ℕ, ◌<◌, List, length, Option, Some, None, Err, IfSome, IsSomeAnd}
use Rattle.blic_model.specs.Formula.{PrenexFormula}
use Rattle.blic_model.specs.Limits.{IsFormula}
use Rattle.blic_model.specs.CircuitLimits.{IsWithinLimits}
use Rattle.blic_model.specs.Refusals.{IsCause as IsCircuitCause}
use Rattle.blic_model.specs.declared.circuit.CircuitError.{CircuitError}
use Rattle.blic_qdimacs.specs.Meaning.{meaning, Spells}
use Rattle.blic_qdimacs.specs.declared.error.ReadError.{ReadError}
use Rattle.blic_qdimacs.specs.declared.error.ReadError.TheVariants as errors
use Rattle.blic_solve.specs.Plan.{IsWithin, IsCause as IsSolvingCause}
use Rattle.blic_solve.specs.declared.plan.SolveError.{SolveError}
use Rattle.blic_input.specs.Problem.{Problem, problem_of}
use Rattle.blic_input.specs.Tasks.{Subject, OfFile, Made, Asked, Task}
use Rattle.blic_input.specs.declared.problem.SolveLimits.{SolveLimits}
use Rattle.blic_input.specs.declared.stop.Stop.{Stop}
use Rattle.blic_input.specs.declared.stop.Stop.TheVariants.{NotRead, NotBuilt, NotSolved, NoSeed}

-- what is told of files: the bytes of each by its name
abbrev pub ToldFiles : Type 0
ToldFiles = Option (List ℕ → Option (List ℕ))

-- the formula is within the limits of formulas, and the file of that name spells it, if files are told
abbrev pub IsFileOf : PrenexFormula → ToldFiles → List ℕ → Type 0
IsFileOf f files name = IsFormula f × IfSome files (λ file. IsSomeAnd (file name) (λ bytes. Spells bytes f))

-- a refusal is the first that stands in the file's bytes, if files are told
abbrev pub MayRefuse : ToldFiles → List ℕ → ReadError → Type 0
MayRefuse files name errors.Fault = Unit {0}
MayRefuse files name errors.NoMem = Unit {0}
MayRefuse files name error = IfSome files (λ file. IsSomeAnd (file name) (λ bytes. meaning bytes ≡ Err error))

-- the problem may be the subject's, by what is told of files
abbrev pub IsSubject : ToldFiles → Subject → Problem → Type 0
IsSubject files (OfFile name) p = (f : PrenexFormula) × IsFileOf f files name × (p ≡ problem_of f)
IsSubject files (Made q) p = p ≡ q

abbrev pub MayNotRead : ToldFiles → Subject → ReadError → Type 0
MayNotRead files (OfFile name) error = MayRefuse files name error
MayNotRead files (Made q) error = ⊥

abbrev pub HasSmallCircuit : Problem → Type 0
HasSmallCircuit p = IsWithinLimits p.circuit.nodes (length p.circuit.order)

-- the cause of a refusal of the circuit, and of one of solving
abbrev pub IsBuildingCause : Problem → CircuitError → Type 0
IsBuildingCause p error = IsCircuitCause p.circuit.nodes (length p.circuit.order) error

abbrev pub IsCauseWithin : Problem → Option SolveLimits → SolveError → Type 0
IsCauseWithin p None error = ⊥
IsCauseWithin p (Some l) error = IsSolvingCause p.circuit.nodes (length p.circuit.order) l.nodes l.pairs error

abbrev pub IsSolvable : Problem → Option SolveLimits → Type 0
IsSolvable p None = Unit {0}
IsSolvable p (Some l) = (k : ℕ) → k < length p.circuit.nodes → IsWithin p.circuit.nodes (length p.circuit.order) l.nodes l.pairs k

-- all that comes before an answer can be obtained
abbrev pub CanStart : Problem → Task → Type 0
CanStart p task = HasSmallCircuit p × IsSolvable p task.limits

-- why the task stops: the first that can't be obtained
abbrev pub Stops : ToldFiles → Task → Stop → Type 0
Stops files task (NotRead error) = MayNotRead files task.subject error
Stops files task (NotBuilt error) = (p : Problem) × IsSubject files task.subject p × IsBuildingCause p error
Stops files task (NotSolved error) = (p : Problem) × IsSubject files task.subject p × HasSmallCircuit p × IsCauseWithin p task.limits error
Stops files task NoSeed = (p : Problem) × IsSubject files task.subject p × CanStart p task × (task.seeding ≡ Asked)
