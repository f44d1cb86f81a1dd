-- What is obtained for a task, or why it stops.
use Rattle.std.specs.Prelude.{◌≡◌, ℕ, Bool, List, Option, Some, None, Result, Ok, Err}
use Rattle.blic_basic.specs.Seeding.{Seeds}
use Rattle.blic_basic.specs.declared.entropy.Seeded.TheVariants as seeded
use Rattle.blic_model.specs.Formula.{PrenexFormula}
use Rattle.blic_qdimacs.specs.declared.error.ReadError.{ReadError}
use Rattle.blic_input.specs.Problem.{Problem}
use Rattle.blic_input.specs.Stops.{ToldFiles, IsFileOf, MayRefuse, HasSmallCircuit, IsCauseWithin, IsSolvable, IsSubject, Stops}
use Rattle.blic_input.specs.Tasks.{Seeding, Subject}
use Rattle.blic_input.specs.declared.problem.SolveLimits.{SolveLimits}
use Rattle.blic_input.specs.declared.stop.Stop.{Stop}
use Rattle.blic_input.specs.declared.stop.Stop.TheVariants.{NotSolved, NoSeed}

-- what reading a file answers
abbrev pub ReadsFile : ToldFiles → List ℕ → Result PrenexFormula ReadError → Type 0
ReadsFile files name (Ok f) = IsFileOf f files name
ReadsFile files name (Err error) = MayRefuse files name error

-- the subject's problem, whose circuit is within its limits; or why there is none, whatever else the task wants
abbrev pub Begins : ToldFiles → Subject → Result Problem Stop → Type 0
Begins files subject (Ok p) = IsSubject files subject p × HasSmallCircuit p
Begins files subject (Err stop) = (limits : Option SolveLimits) (seeding : Seeding) → Stops files (record { subject = subject; limits = limits; seeding = seeding }) stop

-- the problem's truth, found within the limits; or why it isn't
abbrev pub IsSolvedAs : Problem → SolveLimits → Result Bool Stop → Type 0
IsSolvedAs p limits (Ok t) = (t ≡ p.truth) × IsSolvable p (Some limits)
IsSolvedAs p limits (Err (NotSolved error)) = IsCauseWithin p (Some limits) error
IsSolvedAs p limits (Err _) = ⊥

-- the seed is the one that is given, and no other is taken; or the next one that comes, if any does
abbrev pub IsSeeded : Option (List ℕ) → Option (ℕ → Option (List ℕ)) → Option (ℕ → Option (List ℕ)) → Result (List ℕ) Stop → Type 0
IsSeeded (Some given) old new (Ok seed) = (seed ≡ given) × (new ≡ old)
IsSeeded None old new (Ok seed) = Seeds old new (seeded.Seed seed)
IsSeeded None old new (Err NoSeed) = new ≡ old
IsSeeded _ old new (Err _) = ⊥
