-- What is said of a made problem, said of a file's; and of a certified problem, said of one of an exercise.
use Rattle.std.proofs.Common.{ℕ, ◌≡◌, ◌<◌, refl, sym, subst, arith, List, Bool, true, false}
use Rattle.std.specs.Prelude.{Option, Some, None}
use Rattle.blic_words.specs.declared.options.Options.{Options}
use Rattle.blic_input.specs.Problem.{Problem}
use Rattle.blic_top.specs.Deed.{Told, Deed, nothing}
use Rattle.blic_top.specs.Jobs.{Job, Kind, Exercising, certify_job, exercise_job, exercise_seed, exercise_series, limits_of, chain_problem}
use Rattle.blic_top.specs.Series.{Series}
use Rattle.blic_input.specs.declared.problem.SolveLimits.{SolveLimits}
use Rattle.blic_input.specs.Tasks.{Seeding, Given, Subject, Made}
use Rattle.blic_input.specs.Stops.{ToldFiles, IsSubject, Stops}
use Rattle.blic_input.proofs.Beginning.{stops_of}
use Rattle.blic_top.specs.Ends.{IsPrinting, Says}
use Rattle.blic_top.specs.Deciding.{Decides, of_one}
use Rattle.blic_top.specs.Faults.{fault_of}
use Rattle.blic_input.specs.Faults.{Object, Counts}
use Rattle.blic_input.specs.declared.stop.Stop.{Stop}
use Rattle.blic_top.specs.declared.outcome.End.TheVariants.{Solved, Certified, Exercised, Failed, Differ}
use Rattle.blic_top.specs.declared.outcome.Outcome.{Outcome}
use Rattle.blic_top.specs.declared.outcome.Outcome.TheVariants.{Usage, NoMemory, Stopped, Done}

-- a job about this subject
abbrev pub job_about : Subject → Option SolveLimits → Seeding → Kind → Job
job_about subject limits seeding kind = record { task = record { subject = subject; limits = limits; seeding = seeding }; kind = kind }

-- what may be said of the problem of a subject may be said of the subject
pub of_subject : (files : ToldFiles) (alters : Bool) (subject : Subject) (p : Problem) (limits : Option SolveLimits) (seeding : Seeding) (kind : Kind) (deed : Deed) (outcome : Outcome) → IsSubject files subject p
    → Says (job_about (Made p) limits seeding kind) (record { files = None; alters = alters }) deed outcome
    → Says (job_about subject limits seeding kind) (record { files = files; alters = alters }) deed outcome
of_subject files alters subject p limits seeding kind deed Usage is says = absurd says
of_subject files alters subject p limits seeding kind deed NoMemory is says = says
of_subject files alters subject p limits seeding kind deed (Stopped stop) is says = (stops_of files subject p limits seeding stop is says.0, says.1)
of_subject files alters subject p limits seeding kind deed (Done end) is (q, same, can, ends) = (q, subst (IsSubject files subject) (sym same) is, can, ends)

pub printing_of_subject : (files : ToldFiles) (alters : Bool) (subject : Subject) (p : Problem) (limits : Option SolveLimits) (seeding : Seeding) (kind : Kind) (deed : Deed) (piece : List ℕ) → IsSubject files subject p
    → IsPrinting (job_about (Made p) limits seeding kind) (record { files = None; alters = alters }) deed piece
    → IsPrinting (job_about subject limits seeding kind) (record { files = files; alters = alters }) deed piece
printing_of_subject files alters subject p limits seeding kind deed piece is (q, same, can, printing) = (q, subst (IsSubject files subject) (sym same) is, can, printing)

-- a made problem has nothing to do with files
pub with_files : (files : ToldFiles) (alters : Bool) (p : Problem) (limits : Option SolveLimits) (seeding : Seeding) (kind : Kind) (deed : Deed) (outcome : Outcome)
    → Says (job_about (Made p) limits seeding kind) (record { files = None; alters = alters }) deed outcome
    → Says (job_about (Made p) limits seeding kind) (record { files = files; alters = alters }) deed outcome
with_files files alters p limits seeding kind deed Usage says = absurd says
with_files files alters p limits seeding kind deed NoMemory says = says
with_files files alters p limits seeding kind deed (Stopped stop) says = (stops_of files (Made p) p limits seeding stop refl says.0, says.1)
with_files files alters p limits seeding kind deed (Done end) says = says

-- one conversation can't differ from the first
pub never_differ : {A : Type 0} (k count : ℕ) → 0 < k → k < count → count ≡ 1 → A
never_differ k count some within one = absurd (omega (arith, some, within, one))

-- a certified problem as one of an exercise
pub as_one : (p : Problem) (limits : SolveLimits) (o : Options) (first : ℕ) (told : Told) (deed : Deed) (outcome : Outcome)
    → Says (certify_job (Made p) limits (exercise_series o first)) told deed outcome
    → Says (job_about (Made p) (Some limits) (Given (exercise_seed o)) (Exercising (exercise_series o first))) told deed (of_one outcome)
as_one p limits o first told deed Usage says = absurd says
as_one p limits o first told deed NoMemory says = says
as_one p limits o first told deed (Stopped stop) says = says
as_one p limits o first told deed (Done (Solved a)) (q, is, can, (seed, is_seed, ends)) = absurd ends
as_one p limits o first told deed (Done (Certified a n)) (q, is, can, ends) = (q, is, can, ends)
as_one p limits o first told deed (Done (Exercised a n)) (q, is, can, (seed, is_seed, ends)) = absurd ends
as_one p limits o first told deed (Done (Failed failure)) (q, is, can, ends) = (q, is, can, ends)
as_one p limits o first told deed (Done Differ) (q, is, can, (seed, is_seed, (d, some))) = never_differ d.number 1 some d.within refl

-- what certifying a problem of an exercise decides
pub decided_one : (pairs : ℕ) (o : Options) (t : Bool) (first : ℕ) (told : Told) (deed : Deed) (old new : Option (List ℕ)) (p : Problem) (s : Series) (outcome one : Outcome) → p ≡ chain_problem pairs t
    → s ≡ exercise_series o first → one ≡ of_one outcome
    → Decides (certify_job (Made p) (limits_of o) s) told deed old new (Some outcome)
    → Decides (exercise_job pairs o t first) told deed old new (Some one)
decided_one pairs o t first told deed old new p s outcome one is_chain is_series is (says, lines) =
    subst (λ r. Decides (exercise_job pairs o t first) told deed old new (Some r)) (sym is)
    (subst (λ (q : Problem). Decides (job_about (Made q) (Some (limits_of o)) (Given (exercise_seed o)) (Exercising (exercise_series o first))) told deed old new (Some (of_one outcome))) is_chain
    (as_one p (limits_of o) o first told deed outcome (subst (λ (x : Series). Says (certify_job (Made p) (limits_of o) x) told deed outcome) is_series says), lines))

-- a problem that is not had
pub stopped_one : (pairs : ℕ) (o : Options) (t : Bool) (first : ℕ) (alters : Bool) (p : Problem) (stop : Stop) → p ≡ chain_problem pairs t
    → ((limits : Option SolveLimits) (seeding : Seeding) → Stops None (record { subject = Made p; limits = limits; seeding = seeding }) stop)
    → Says (exercise_job pairs o t first) (record { files = None; alters = alters }) nothing (Stopped stop)
stopped_one pairs o t first alters p stop is_chain stops =
    (subst (λ (q : Problem). Stops None (record { subject = Made q; limits = Some (limits_of o); seeding = Given (exercise_seed o) }) stop) is_chain (stops (Some (limits_of o)) (Given (exercise_seed o))), refl)

-- nothing is printed in its midst
pub none_of_one : {A : Type 0} (limits : SolveLimits) (o : Options) (first : ℕ) (told : Told) (deed : Deed) (old new : Option (List ℕ)) (p : Problem) (s : Series) → s ≡ exercise_series o first
    → Decides (certify_job (Made p) limits s) told deed old new None → A
none_of_one limits o first told deed old new p s is decides = quiet (subst (λ (x : Series). Decides (certify_job (Made p) limits x) told deed old new None) is decides)
  where
    untalked : {B : Type 0} → false ≡ true → B
    untalked e = absurd (cc e)

    quiet : {B : Type 0} → Decides (certify_job (Made p) limits (exercise_series o first)) told deed old new None → B
    quiet (piece, (q, same, can, (seed, is_seed, breaks)), cut) = untalked breaks.steps.2

-- whose fault is told stays the same
pub counts_of_one : (object : Object) (outcome : Outcome) (before now : ℕ) → Counts object (fault_of outcome) before now → Counts object (fault_of (of_one outcome)) before now
counts_of_one object Usage before now h = h
counts_of_one object NoMemory before now h = h
counts_of_one object (Stopped stop) before now h = h
counts_of_one object (Done (Solved a)) before now h = h
counts_of_one object (Done (Certified a n)) before now h = h
counts_of_one object (Done (Exercised a n)) before now h = h
counts_of_one object (Done (Failed failure)) before now h = h
counts_of_one object (Done Differ) before now h = h
