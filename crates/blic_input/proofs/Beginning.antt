-- From a formula to the file that spells it.
use Rattle.std.proofs.Common.{◌≡◌, ℕ, List, refl, sym, subst}
use Rattle.std.specs.Prelude.{Option, Some, None, Result, Ok, Err}
use Rattle.blic_model.specs.Formula.{PrenexFormula}
use Rattle.blic_input.specs.Beginning.{Begins, IsSolvedAs}
use Rattle.blic_input.specs.Faults.{stop_fault}
use Rattle.blic_input.specs.Problem.{Problem, problem_of}
use Rattle.blic_input.specs.Stops.{ToldFiles, HasSmallCircuit, IsCauseWithin, IsFileOf, IsSubject, Stops}
use Rattle.blic_input.specs.Tasks.{Seeding, Subject, OfFile, Made}
use Rattle.blic_input.specs.declared.problem.SolveLimits.{SolveLimits}
use Rattle.blic_input.specs.declared.stop.Stop.{Stop}
use Rattle.blic_input.specs.declared.stop.Stop.TheVariants.{NotRead, NotBuilt, NotSolved, NoSeed}

-- what stops the problem of a subject stops the subject
pub stops_of : (files : ToldFiles) (subject : Subject) (p : Problem) (limits : Option SolveLimits) (seeding : Seeding) (stop : Stop) → IsSubject files subject p
    → Stops None (record { subject = Made p; limits = limits; seeding = seeding }) stop → Stops files (record { subject = subject; limits = limits; seeding = seeding }) stop
stops_of files subject p limits seeding (NotRead error) is stops = absurd stops
stops_of files subject p limits seeding (NotBuilt error) is (q, same, cause) = (q, subst (IsSubject files subject) (sym same) is, cause)
stops_of files subject p limits seeding (NotSolved error) is (q, same, small, cause) = (q, subst (IsSubject files subject) (sym same) is, small, cause)
stops_of files subject p limits seeding NoSeed is (q, same, can, asked) = (q, subst (IsSubject files subject) (sym same) is, can, asked)

-- a formula that a file spells, as the file's
pub begins_file : (files : ToldFiles) (name : List ℕ) (f : PrenexFormula) (result : Result Problem Stop) → IsFileOf f files name
    → Begins None (Made (problem_of f)) result → Begins files (OfFile name) result
begins_file files name f (Ok p) is_file (is, small) = ((f, is_file, is), small)
begins_file files name f (Err stop) is_file stops = λ limits seeding. stops_of files (OfFile name) (problem_of f) limits seeding stop (f, is_file, refl) (stops limits seeding)

-- a problem that was not solved stops its task, and tells no fault
pub unsolved : (p : Problem) (limits same : SolveLimits) (seeding : Seeding) (stop : Stop) → HasSmallCircuit p → limits ≡ same → IsSolvedAs p limits (Err stop)
    → Stops None (record { subject = Made p; limits = Some same; seeding = seeding }) stop × (stop_fault stop ≡ None)
unsolved p limits same seeding (NotSolved error) small is cause = ((p, refl, small, subst (λ (l : SolveLimits). IsCauseWithin p (Some l) error) is cause), refl)
unsolved p limits same seeding (NotRead error) small is solved = absurd solved
unsolved p limits same seeding (NotBuilt error) small is solved = absurd solved
unsolved p limits same seeding NoSeed small is solved = absurd solved
