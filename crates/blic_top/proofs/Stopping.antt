-- Why a run stops, by what holds of its formula.
use Rattle.std.proofs.Common.{◌≡◌, ℕ, Option, Some, None, sym, ◌∙◌, ap, refl, inl, inr, subst, arith}
use Rattle.blic_model.specs.declared.circuit.CircuitError.{CircuitError}
use Rattle.blic_model.specs.declared.circuit.CircuitError.TheVariants as circuits
use Rattle.blic_qdimacs.specs.declared.error.ReadError.{ReadError}
use Rattle.blic_qdimacs.specs.declared.error.ReadError.TheVariants as errors
use Rattle.blic_solve.specs.declared.plan.SolveError.{SolveError}
use Rattle.blic_solve.specs.declared.plan.SolveError.TheVariants as solving
use Rattle.blic_input.specs.Problem.{Problem, problem_of}
use Rattle.blic_input.specs.declared.problem.SolveLimits.{SolveLimits}
use Rattle.blic_input.specs.Tasks.{Subject, OfFile, Made, Asked, Task}
use Rattle.blic_input.specs.Stops.{Stops, IsSubject, MayNotRead, IsBuildingCause, IsCauseWithin, IsSolvable, HasSmallCircuit, CanStart, ToldFiles}
use Rattle.blic_input.specs.Known.{IsNamed, IsRefused, PassesLimit}
use Rattle.blic_input.specs.StopTexts.{read_status, circuit_status, solving_status, stop_status}
use Rattle.blic_top.specs.Promises.{IsOrNoMemory}
use Rattle.blic_input.specs.declared.stop.Stop.{Stop}
use Rattle.blic_input.specs.declared.stop.Stop.TheVariants.{NotRead, NotBuilt, NotSolved, NoSeed}
use Rattle.blic_top.proofs.Spelling.{same_file, refused_or_file, wants_memory}

-- its formula is read from a file
abbrev pub IsFromFile : Subject → Type 0
IsFromFile (OfFile name) = Unit {0}
IsFromFile (Made q) = ⊥

-- no read fault is told of a file
abbrev pub IsReadCalm : Task → ℕ → Type 0
IsReadCalm task status = IsFromFile task.subject → status ≡ 3 → ⊥

-- and no fault of the entropy, if a seed is asked for
abbrev pub IsSeedCalm : Task → ℕ → Type 0
IsSeedCalm task status = task.seeding ≡ Asked → status ≡ 11 → ⊥

-- ---- the subject

pub same_subject : (files : ToldFiles) (s : Subject) (p q : Problem) → IsNamed files s p → IsSubject files s q → q ≡ p
same_subject files (OfFile name) p q (f, named, is_p) (g, is, is_q) = is_q ∙ (ap problem_of (same_file files name f g named is) ∙ sym is_p)
same_subject files (Made h) p q named is = is ∙ sym named

unread : (files : ToldFiles) (s : Subject) (p : Problem) (error : ReadError) → MayNotRead files s error → IsNamed files s p → (IsFromFile s → read_status error ≡ 3 → ⊥) → read_status error ≡ 9
unread files (OfFile name) p error may (f, named, is_p) calm = wants_memory files name f error may named (calm tt)
unread files (Made h) p error may named calm = absurd may

pub refused_or_subject : (files : ToldFiles) (s : Subject) (p : Problem) (error : ReadError) → IsRefused files s error → IsSubject files s p → ⊥
refused_or_subject files (OfFile name) p error refused (f, is, is_p) = refused_or_file files name f error refused is
refused_or_subject files (Made h) p error refused is = refused

-- ---- limits: the causes exclude what can be started

built_or_memory : (p : Problem) (error : CircuitError) → IsBuildingCause p error → HasSmallCircuit p → circuit_status error ≡ 9
built_or_memory p (circuits.TooManyClaims k count) cause small =
    let few = small.0 k (omega arith) cause.0 cause.1 in
    absurd (omega (arith, few, cause.2, cause.3))
built_or_memory p (circuits.TooManyPoints count) cause small = absurd (omega (arith, small.1, cause.1, cause.2))
built_or_memory p circuits.NoMem cause small = refl

solved_or_memory : (p : Problem) (limits : Option SolveLimits) (error : SolveError) → IsCauseWithin p limits error → IsSolvable p limits → solving_status error ≡ 9
solved_or_memory p None error cause can = absurd cause
solved_or_memory p (Some l) (solving.PairLimit k) cause can = let within = can k cause.in_range in absurd (omega (arith, within.few_pairs, cause.passed))
solved_or_memory p (Some l) (solving.NodeLimit k) cause can = let within = can k cause.in_range in absurd (omega (arith, within.few_nodes, cause.passed))
solved_or_memory p (Some l) solving.NoMem cause can = refl

eight_or_nine : (n : ℕ) → n ≡ 8 → n ≡ 9 → ⊥
eight_or_nine n is_8 is_9 = omega (arith, is_8, is_9)

pub start_or_past : (p : Problem) (task : Task) → CanStart p task → PassesLimit p task → ⊥
start_or_past p task can past =
    elim past [
      | inl c ↦ eight_or_nine (circuit_status c.error) c.status (built_or_memory p c.error c.cause can.0)
      | inr s ↦ eight_or_nine (solving_status s.error) s.status (solved_or_memory p task.limits s.error s.cause can.1)
    ]

limit_built : (error : CircuitError) → IsOrNoMemory (circuit_status error) 8
limit_built (circuits.TooManyClaims k count) = inl refl
limit_built (circuits.TooManyPoints count) = inl refl
limit_built circuits.NoMem = inr refl

limit_solved : (error : SolveError) → IsOrNoMemory (solving_status error) 8
limit_solved (solving.PairLimit k) = inl refl
limit_solved (solving.NodeLimit k) = inl refl
limit_solved solving.NoMem = inr refl

-- ---- the stops

-- of a formula with which the run can start
pub stop_or_memory : (files : ToldFiles) (task : Task) (p : Problem) (stop : Stop) → Stops files task stop → IsNamed files task.subject p → CanStart p task
    → IsReadCalm task (stop_status stop) → IsSeedCalm task (stop_status stop) → stop_status stop ≡ 9
stop_or_memory files task p (NotRead error) may named can calm still = unread files task.subject p error may named calm
stop_or_memory files task p (NotBuilt error) (q, is, cause) named can calm still =
    built_or_memory p error (subst (λ (h : Problem). IsBuildingCause h error) (same_subject files task.subject p q named is) cause) can.0
stop_or_memory files task p (NotSolved error) (q, is, small, cause) named can calm still =
    solved_or_memory p task.limits error (subst (λ (h : Problem). IsCauseWithin h task.limits error) (same_subject files task.subject p q named is) cause) can.1
stop_or_memory files task p NoSeed (q, is, can_g, asked) named can calm still = absurd (still asked refl)

-- of one that passes a limit
pub stop_past : (files : ToldFiles) (task : Task) (p : Problem) (stop : Stop) → Stops files task stop → IsNamed files task.subject p → PassesLimit p task
    → IsReadCalm task (stop_status stop) → IsOrNoMemory (stop_status stop) 8
stop_past files task p (NotRead error) may named past calm = inr (unread files task.subject p error may named calm)
stop_past files task p (NotBuilt error) stops named past calm = limit_built error
stop_past files task p (NotSolved error) stops named past calm = limit_solved error
stop_past files task p NoSeed (q, is, can, asked) named past calm =
    absurd (start_or_past p task (subst (λ (h : Problem). CanStart h task) (same_subject files task.subject p q named is) can) past)

refused_or_memory : (error : ReadError) → (read_status error ≡ 3 → ⊥) → IsOrNoMemory (read_status error) 2
refused_or_memory errors.Fault calm = absurd (calm refl)
refused_or_memory errors.NoMem calm = inr refl
refused_or_memory error calm = inl refl

is_from_file : (files : ToldFiles) (s : Subject) (error : ReadError) → IsRefused files s error → IsFromFile s
is_from_file files (OfFile name) error refused = tt
is_from_file files (Made q) error refused = refused

-- of a file that is refused
pub stop_refused : (files : ToldFiles) (task : Task) (error : ReadError) (stop : Stop) → Stops files task stop → IsRefused files task.subject error
    → IsReadCalm task (stop_status stop) → IsOrNoMemory (stop_status stop) 2
stop_refused files task error (NotRead e) stops refused calm = refused_or_memory e (calm (is_from_file files task.subject error refused))
stop_refused files task error (NotBuilt e) (q, is, cause) refused calm = absurd (refused_or_subject files task.subject q error refused is)
stop_refused files task error (NotSolved e) (q, is, small, cause) refused calm = absurd (refused_or_subject files task.subject q error refused is)
stop_refused files task error NoSeed (q, is, can, asked) refused calm = absurd (refused_or_subject files task.subject q error refused is)
