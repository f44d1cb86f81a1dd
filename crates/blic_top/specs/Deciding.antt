-- What there is to say once the lines before it are printed, as private contracts speak of it.
use Rattle.std.specs.Prelude.{◌≡◌, ℕ, Bool, List, Option, Some, None, ◌⊎◌}
use Rattle.std.specs.Io.KnownBytes.{append_known}
use Rattle.blic_words.specs.Requests.{Request}
use Rattle.blic_input.specs.Problem.{Problem}
use Rattle.blic_input.specs.Tasks.{Made}
use Rattle.blic_top.specs.Deed.{Told, Deed}
use Rattle.blic_top.specs.Jobs.{Job, certify_job, limits_of}
use Rattle.blic_top.specs.Ends.{IsPrinting, Says}
use Rattle.blic_top.specs.Series.{Series, certified, verdict_of}
use Rattle.blic_top.specs.declared.conversations.Course.{Course}
use Rattle.blic_top.specs.declared.conversations.Course.TheVariants.{Agreed, Differ as DifferSo, Failed as FailedSo}
use Rattle.blic_top.specs.declared.conversations.Draws.{Draws}
use Rattle.blic_client.specs.declared.verdict.Verdict.{Verdict}
use Rattle.blic_client.specs.declared.verdict.Verdict.TheVariants as verdicts
use Rattle.blic_messages.specs.declared.ask.Hello.{Hello}
use Rattle.blic_top.specs.Means.{IsCutOff, IsPrintingFor, Means}
use Rattle.blic_top.specs.declared.certify.CertifyOptions.{CertifyOptions}
use Rattle.blic_top.specs.declared.outcome.Outcome.{Outcome}
use Rattle.blic_top.specs.declared.outcome.Outcome.TheVariants.{Done}
use Rattle.blic_top.specs.declared.outcome.Failure.{Failure}
use Rattle.blic_top.specs.declared.outcome.Failure.TheVariants.{Refused}
use Rattle.blic_top.specs.declared.outcome.End.TheVariants.{Certified, Exercised, Failed, Differ}

-- the conversations that these options ask for, and the job of certifying a problem by them
abbrev pub series_by : CertifyOptions → Series
series_by o = record { given = o.options.seed; first = o.first; count = o.options.repeat; talk = o.options.talk }

abbrev pub job_by : Problem → CertifyOptions → Job
job_by p o = certify_job (Made p) (limits_of o.options) (series_by o)

-- of a job: an outcome that may come, with the lines before it printed; or a call on the output failed during its work
abbrev pub Decides : Job → Told → Deed → Option (List ℕ) → Option (List ℕ) → Option Outcome → Type 0
Decides job told deed old new (Some outcome) = Says job told deed outcome × (new ≡ append_known old deed.trace.lines)
Decides job told deed old new None = (piece : List ℕ) × IsPrinting job told deed piece × IsCutOff deed piece old new

-- of a whole request
abbrev pub DecidesAll : Option Request → Told → Deed → Option (List ℕ) → Option (List ℕ) → Option Outcome → Type 0
DecidesAll request told deed old new (Some outcome) = Means request told deed outcome × (new ≡ append_known old deed.trace.lines)
DecidesAll request told deed old new None = (piece : List ℕ) × IsPrintingFor request told deed piece × IsCutOff deed piece old new

-- what certifying a problem said, as it is said of one of an exercise
abbrev pub of_one : Outcome → Outcome
of_one (Done (Certified a n)) = Done (Exercised a n)
of_one outcome = outcome

-- the number of draws in the line of one of an exercise
abbrev pub exercised_draws : Outcome → Option ℕ
exercised_draws (Done (Exercised a n)) = Some n.draws
exercised_draws outcome = None

-- beside a server's refusal stands what it was asked for
abbrev pub IsBeside : Hello → Failure → Type 0
IsBeside h (Refused refusal ours) = ours ≡ h
IsBeside h _ = Unit {0}

-- what is said of a verdict by which nothing was certified
abbrev pub IsFailureOf : Verdict → Hello → Option Failure → Type 0
IsFailureOf verdict ours (Some failure) = (verdict_of failure ≡ verdict) × IsBeside ours failure
IsFailureOf verdict ours None = (verdict ≡ verdicts.WriteFault) ⊎ ((b : Bool) × (verdict ≡ certified b))

-- what is said of what conversations came to
abbrev pub IsSaidOf : Course → Problem → Hello → Draws → ℕ → Option Outcome → Type 0
IsSaidOf (Agreed b) p ours draws bad said = said ≡ Some (Done (Certified (record { truth = b; vars = p.vars; clauses = p.clauses }) (record { runs = draws.count; draws = draws.each; bad = bad })))
IsSaidOf DifferSo p ours draws bad said = said ≡ Some (Done Differ)
IsSaidOf (FailedSo verdict) p ours draws bad (Some (Done (Failed failure))) = (verdict_of failure ≡ verdict) × IsBeside ours failure
IsSaidOf (FailedSo verdict) p ours draws bad None = (verdict ≡ verdicts.WriteFault) ⊎ ((b : Bool) × (verdict ≡ certified b))
IsSaidOf (FailedSo verdict) p ours draws bad _ = ⊥
