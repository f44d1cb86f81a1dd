-- From what conversations came to, to what a job says of it.
use Rattle.std.proofs.Common.{ℕ, ◌≡◌, ◌<◌, refl, sym, ◌∙◌, subst, List, Bool, inl, inr, ◌⊎◌, length}
use Rattle.std.specs.Prelude.{Option, Some, None, Ok}
use Rattle.std.specs.Io.KnownBytes.{append_known}
use Rattle.blic_client.specs.declared.verdict.Verdict.{Verdict}
use Rattle.blic_client.specs.declared.verdict.Verdict.TheVariants as verdicts
use Rattle.blic_messages.specs.declared.ask.Hello.{Hello}
use Rattle.blic_model.specs.Counts.{bad as bad_count}
use Rattle.blic_input.specs.Beginning.{IsSeeded}
use Rattle.blic_input.specs.Problem.{Problem, hello_by}
use Rattle.blic_input.specs.Stops.{CanStart}
use Rattle.blic_input.specs.Tasks.{Made}
use Rattle.blic_input.specs.declared.problem.SolveLimits.{SolveLimits}
use Rattle.blic_top.specs.Conversing.{InProcess, OverLink, Records, Steps}
use Rattle.blic_top.specs.Deciding.{Decides, IsBeside, IsSaidOf}
use Rattle.blic_top.specs.Deed.{Told, Deed, Trace, DialerTold, IsSeedOf, TookSeed}
use Rattle.blic_top.specs.Faults.{WriteCounts}
use Rattle.blic_top.specs.Jobs.{certify_job, verify_job}
use Rattle.blic_top.specs.Series.{BreaksOff, Concludes, IsTold, InTurn, Series, UnderWay, certified, draws_about, draws_of, verdict_of}
use Rattle.blic_top.specs.Turning.{Comes, CourseCounts, IsCut, IsDialed, IsDoneHere, IsDoneOver, IsSeen}
use Rattle.blic_top.specs.declared.conversations.Course.{Course}
use Rattle.blic_top.specs.declared.conversations.Course.TheVariants.{Agreed, Differ as DifferSo, Failed as FailedSo}
use Rattle.blic_top.specs.declared.conversations.Draws.{Draws}
use Rattle.blic_top.specs.declared.outcome.Failure.{Failure}
use Rattle.blic_top.specs.declared.outcome.Failure.TheVariants.{Rejected, WrongKind, WrongCount, NotFrame, Refused, Cut, LinkFault}
use Rattle.blic_top.specs.declared.outcome.End.TheVariants.{Solved, Certified, Exercised, Failed, Differ}
use Rattle.blic_top.specs.declared.outcome.Outcome.{Outcome}
use Rattle.blic_top.specs.declared.outcome.Outcome.TheVariants.{Usage, NoMemory, Stopped, Done}

-- what is said of conversations: what they came to, with their lines printed; or that a line was cut off
abbrev pub IsConcluded : InTurn → UnderWay → Problem → ℕ → Trace → Option (List ℕ) → Option (List ℕ) → Option Outcome → Type 0
IsConcluded Held Steps p count trace old new (Some (Done end)) = Concludes Held p count trace end × (new ≡ append_known old trace.lines)
IsConcluded Held Steps p count trace old new None = (piece : List ℕ) × BreaksOff Held Steps count trace piece × IsCut trace piece old new
IsConcluded Held Steps p count trace old new _ = ⊥

-- the numbers that are printed are those of the problem
pub record AreNumbers (p : Problem) (count : ℕ) (ours : Hello) (draws : Draws) (bad : ℕ) : Type 0 where
  pub some : 0 < count
  pub runs : draws.count ≡ count
  pub hello : ours ≡ hello_by p
  pub each : draws.each ≡ draws_about p
  pub bads : bad ≡ bad_count p.circuit.nodes (length p.circuit.order)

told_of : (p : Problem) (h : Hello) (failure : Failure) → h ≡ hello_by p → IsBeside h failure → IsTold p failure
told_of p h (Refused refusal ours) is beside = beside ∙ is
told_of p h (Rejected place) is beside = tt
told_of p h (WrongKind turn) is beside = tt
told_of p h (WrongCount turn want got) is beside = tt
told_of p h NotFrame is beside = tt
told_of p h Cut is beside = tt
told_of p h LinkFault is beside = tt

no_write_fault : (failure : Failure) → verdict_of failure ≡ verdicts.WriteFault → ⊥
no_write_fault (Refused refusal ours) e = cc e
no_write_fault (Rejected place) e = cc e
no_write_fault (WrongKind turn) e = cc e
no_write_fault (WrongCount turn want got) e = cc e
no_write_fault NotFrame e = cc e
no_write_fault Cut e = cc e
no_write_fault LinkFault e = cc e

-- a failure that is told
failed_so : (Held : InTurn) (Steps : UnderWay) (p : Problem) (count : ℕ) (trace : Trace) (old new : Option (List ℕ)) (verdict : Verdict) (h : Hello) (failure : Failure) → h ≡ hello_by p
    → Comes Held Steps count trace old new (FailedSo verdict) → verdict_of failure ≡ verdict → IsBeside h failure
    → Concludes Held p count trace (Failed failure) × (new ≡ append_known old trace.lines)
failed_so Held Steps p count trace old new verdicts.WriteFault h failure is comes tells beside = absurd (no_write_fault failure tells)
failed_so Held Steps p count trace old new (verdicts.Ended e) h failure is (decides, other, lines) tells beside = (
  (
    record {
      number = decides.number;
      within = decides.within;
      answer = decides.answer;
      early = decides.early;
      late = decides.late;
      before = decides.before;
      held = subst (Held decides.number decides.late) (sym tells) decides.held;
      is = decides.is;
    },
    told_of p h failure is beside,
  ),
  lines,
)
failed_so Held Steps p count trace old new verdicts.Cut h failure is (decides, other, lines) tells beside = (
  (
    record {
      number = decides.number;
      within = decides.within;
      answer = decides.answer;
      early = decides.early;
      late = decides.late;
      before = decides.before;
      held = subst (Held decides.number decides.late) (sym tells) decides.held;
      is = decides.is;
    },
    told_of p h failure is beside,
  ),
  lines,
)
failed_so Held Steps p count trace old new verdicts.LinkFault h failure is (decides, other, lines) tells beside = (
  (
    record {
      number = decides.number;
      within = decides.within;
      answer = decides.answer;
      early = decides.early;
      late = decides.late;
      before = decides.before;
      held = subst (Held decides.number decides.late) (sym tells) decides.held;
      is = decides.is;
    },
    told_of p h failure is beside,
  ),
  lines,
)

-- a verdict of which nothing is said is that a line was cut off
cut_off : (Held : InTurn) (Steps : UnderWay) (count : ℕ) (trace : Trace) (old new : Option (List ℕ)) (verdict : Verdict) → Comes Held Steps count trace old new (FailedSo verdict)
    → (verdict ≡ verdicts.WriteFault) ⊎ ((b : Bool) × (verdict ≡ certified b)) → (piece : List ℕ) × BreaksOff Held Steps count trace piece × IsCut trace piece old new
cut_off Held Steps count trace old new verdict comes (inl is) = subst (λ v. Comes Held Steps count trace old new (FailedSo v)) is comes
cut_off Held Steps count trace old new verdict comes (inr (b, is)) =
    let failed = subst (λ v. Comes Held Steps count trace old new (FailedSo v)) is comes in absurd (failed.1.0 b refl)

-- what is said is what they came to
pub concluded : (Held : InTurn) (Steps : UnderWay) (p : Problem) (count : ℕ) (trace : Trace) (old new : Option (List ℕ)) (course : Course) (h : Hello) (draws : Draws) (bad : ℕ) (said : Option Outcome)
    → AreNumbers p count h draws bad → Comes Held Steps count trace old new course → IsSaidOf course p h draws bad said → IsConcluded Held Steps p count trace old new said
concluded Held Steps p count trace old new (Agreed b) h draws bad said numbers (have, lines) is =
    subst (IsConcluded Held Steps p count trace old new) (sym is) (
      (numbers.some, have, (refl, refl), (numbers.runs, numbers.each, numbers.bads)),
      lines,
    )
concluded Held Steps p count trace old new DifferSo h draws bad said numbers comes is = subst (IsConcluded Held Steps p count trace old new) (sym is) comes
concluded Held Steps p count trace old new (FailedSo verdict) h draws bad None numbers comes is = cut_off Held Steps count trace old new verdict comes is
concluded Held Steps p count trace old new (FailedSo verdict) h draws bad (Some Usage) numbers comes is = absurd is
concluded Held Steps p count trace old new (FailedSo verdict) h draws bad (Some NoMemory) numbers comes is = absurd is
concluded Held Steps p count trace old new (FailedSo verdict) h draws bad (Some (Stopped stop)) numbers comes is = absurd is
concluded Held Steps p count trace old new (FailedSo verdict) h draws bad (Some (Done (Solved a))) numbers comes is = absurd is
concluded Held Steps p count trace old new (FailedSo verdict) h draws bad (Some (Done (Certified a n))) numbers comes is = absurd is
concluded Held Steps p count trace old new (FailedSo verdict) h draws bad (Some (Done (Exercised a n))) numbers comes is = absurd is
concluded Held Steps p count trace old new (FailedSo verdict) h draws bad (Some (Done Differ)) numbers comes is = absurd is
concluded Held Steps p count trace old new (FailedSo verdict) h draws bad (Some (Done (Failed failure))) numbers comes is =
    failed_so Held Steps p count trace old new verdict h failure numbers.hello comes is.0 is.1

-- only a line that was cut off raises the output's count
pub write_counts : (Held : InTurn) (Steps : UnderWay) (p : Problem) (count : ℕ) (trace : Trace) (old new : Option (List ℕ)) (course : Course) (h : Hello) (draws : Draws) (bad : ℕ) (said : Option Outcome) (before now : ℕ)
    → Comes Held Steps count trace old new course → IsSaidOf course p h draws bad said → CourseCounts before now course → WriteCounts said before now
write_counts Held Steps p count trace old new (Agreed b) h draws bad said before now comes is counts = subst (λ s. WriteCounts s before now) (sym is) counts
write_counts Held Steps p count trace old new DifferSo h draws bad said before now comes is counts = subst (λ s. WriteCounts s before now) (sym is) counts
write_counts Held Steps p count trace old new (FailedSo verdict) h draws bad None before now comes (inl is) counts = subst (λ v. CourseCounts before now (FailedSo v)) is counts
write_counts Held Steps p count trace old new (FailedSo verdict) h draws bad None before now comes (inr (b, is)) counts =
    let failed = subst (λ v. Comes Held Steps count trace old new (FailedSo v)) is comes in absurd (failed.1.0 b refl)
write_counts Held Steps p count trace old new (FailedSo verdict) h draws bad (Some Usage) before now comes is counts = absurd is
write_counts Held Steps p count trace old new (FailedSo verdict) h draws bad (Some NoMemory) before now comes is counts = absurd is
write_counts Held Steps p count trace old new (FailedSo verdict) h draws bad (Some (Stopped stop)) before now comes is counts = absurd is
write_counts Held Steps p count trace old new (FailedSo verdict) h draws bad (Some (Done (Solved a))) before now comes is counts = absurd is
write_counts Held Steps p count trace old new (FailedSo verdict) h draws bad (Some (Done (Certified a n))) before now comes is counts = absurd is
write_counts Held Steps p count trace old new (FailedSo verdict) h draws bad (Some (Done (Exercised a n))) before now comes is counts = absurd is
write_counts Held Steps p count trace old new (FailedSo verdict) h draws bad (Some (Done Differ)) before now comes is counts = absurd is
write_counts Held Steps p count trace old new (FailedSo verdict) h draws bad (Some (Done (Failed failure))) before now comes is counts =
    calm failure (subst (λ v. CourseCounts before now (FailedSo v)) (sym is.0) counts)
  where
    calm : (f : Failure) → CourseCounts before now (FailedSo (verdict_of f)) → now ≡ before
    calm (Refused refusal ours) quiet = quiet
    calm (Rejected place) quiet = quiet
    calm (WrongKind turn) quiet = quiet
    calm (WrongCount turn want got) quiet = quiet
    calm NotFrame quiet = quiet
    calm Cut quiet = quiet
    calm LinkFault quiet = quiet

-- ---- seeds

-- the seed that was taken, if none was given
abbrev taken : Option (List ℕ) → List ℕ → Option (List ℕ)
taken None seed = Some seed
taken (Some given) seed = None

took : (given : Option (List ℕ)) (seeds now : Option (ℕ → Option (List ℕ))) (seed : List ℕ) → IsSeeded given seeds now (Ok seed) → TookSeed seeds now (taken given seed)
took None seeds now seed is = is
took (Some g) seeds now seed is = is.1

is_seed : (given : Option (List ℕ)) (seeds now : Option (ℕ → Option (List ℕ))) (seed : List ℕ) (trace : Trace) → IsSeeded given seeds now (Ok seed)
    → IsSeedOf given (record { seed = taken given seed; trace = trace }) seed
is_seed None seeds now seed trace is = refl
is_seed (Some g) seeds now seed trace is = (is.0, refl)

-- ---- jobs

decides_here : (p : Problem) (limits : SolveLimits) (s : Series) (told : Told) (seed : List ℕ) (deed : Deed) (old new : Option (List ℕ)) (said : Option Outcome)
    → CanStart p (certify_job (Made p) limits s).task → IsSeedOf s.given deed seed
    → IsConcluded (InProcess p (draws_of p seed s.first) told.alters s.talk) (Steps p (draws_of p seed s.first) told.alters s.talk) p s.count deed.trace old new said
    → Decides (certify_job (Made p) limits s) told deed old new said
decides_here p limits s told seed deed old new None can is (piece, breaks, cut) = (piece, (p, refl, can, (seed, is, breaks)), cut)
decides_here p limits s told seed deed old new (Some (Done end)) can is (concludes, lines) = ((p, refl, can, (seed, is, concludes)), lines)
decides_here p limits s told seed deed old new (Some Usage) can is said = absurd said
decides_here p limits s told seed deed old new (Some NoMemory) can is said = absurd said
decides_here p limits s told seed deed old new (Some (Stopped stop)) can is said = absurd said

-- certifying a problem, once the seed is there
pub certified_here : (p : Problem) (limits : SolveLimits) (s : Series) (told : Told) (seed : List ℕ) (seeds now : Option (ℕ → Option (List ℕ))) (seen seen_now : Option (List (List ℕ))) (trace : Trace)
    (old new : Option (List ℕ)) (said : Option Outcome) → CanStart p (certify_job (Made p) limits s).task → IsSeeded s.given seeds now (Ok seed) → IsSeen seen seen_now trace
    → IsConcluded (InProcess p (draws_of p seed s.first) told.alters s.talk) (Steps p (draws_of p seed s.first) told.alters s.talk) p s.count trace old new said
    → (deed : Deed) × IsDoneHere seeds now seen seen_now deed × Decides (certify_job (Made p) limits s) told deed old new said
certified_here p limits s told seed seeds now seen seen_now trace old new said can seeded shows concludes =
    let deed : Deed = record { seed = taken s.given seed; trace = trace } in (
      deed,
      (took s.given seeds now seed seeded, shows),
      decides_here p limits s told seed deed old new said can (is_seed s.given seeds now seed trace seeded) concludes,
    )

decides_over : (p : Problem) (s : Series) (told : Told) (seed : List ℕ) (deed : Deed) (old new : Option (List ℕ)) (said : Option Outcome)
    → CanStart p (verify_job (Made p) s).task → IsSeedOf s.given deed seed
    → IsConcluded (OverLink p (draws_of p seed s.first) s.talk) (Records p (draws_of p seed s.first) s.talk) p s.count deed.trace old new said
    → Decides (verify_job (Made p) s) told deed old new said
decides_over p s told seed deed old new None can is (piece, breaks, cut) = (piece, (p, refl, can, (seed, is, breaks)), cut)
decides_over p s told seed deed old new (Some (Done end)) can is (concludes, lines) = ((p, refl, can, (seed, is, concludes)), lines)
decides_over p s told seed deed old new (Some Usage) can is said = absurd said
decides_over p s told seed deed old new (Some NoMemory) can is said = absurd said
decides_over p s told seed deed old new (Some (Stopped stop)) can is said = absurd said

-- certifying it over links
pub certified_over : (p : Problem) (s : Series) (seed : List ℕ) (seeds now : Option (ℕ → Option (List ℕ))) (before after : DialerTold) (trace : Trace)
    (old new : Option (List ℕ)) (said : Option Outcome) → CanStart p (verify_job (Made p) s).task → IsSeeded s.given seeds now (Ok seed) → IsDialed before after trace
    → IsConcluded (OverLink p (draws_of p seed s.first) s.talk) (Records p (draws_of p seed s.first) s.talk) p s.count trace old new said
    → (deed : Deed) × IsDoneOver seeds now before after deed × ((told : Told) → Decides (verify_job (Made p) s) told deed old new said)
certified_over p s seed seeds now before after trace old new said can seeded dials concludes =
    let deed : Deed = record { seed = taken s.given seed; trace = trace } in (
      deed,
      (took s.given seeds now seed seeded, dials),
      λ told. decides_over p s told seed deed old new said can (is_seed s.given seeds now seed trace seeded) concludes,
    )
