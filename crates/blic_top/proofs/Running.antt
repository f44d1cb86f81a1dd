-- What a run may say, by what holds of its problems.
use Rattle.std.proofs.Common.{◌≡◌, ℕ, List, [], ◌∷◌, Some, None, Bool, true, false, sym, ◌∙◌, ap, refl, inl, inr, subst, ◌⊎◌}
use Rattle.blic_qdimacs.specs.declared.error.ReadError.{ReadError}
use Rattle.blic_words.specs.declared.options.Options.{Options}
use Rattle.blic_words.specs.Requests.{Request, Solve, Certify, Verify, Exercise}
use Rattle.blic_input.specs.Problem.{Problem}
use Rattle.blic_top.specs.Deed.{Told, Deed, IsSeedOf}
use Rattle.blic_top.specs.Jobs.{Solving, Certifying, Verifying, Exercising, Job, chain_problem, exercise_job, exercise_seed, exercise_series, first_job, later_jobs, series_of}
use Rattle.blic_top.specs.Series.{Series, draws_about, draws_of}
use Rattle.blic_top.specs.Conversing.{InProcess, OverLink}
use Rattle.blic_input.specs.Tasks.{Given, Asked}
use Rattle.blic_input.specs.Stops.{IsSubject, CanStart}
use Rattle.blic_input.specs.Known.{IsNamed, IsRefused, PassesLimit}
use Rattle.blic_top.specs.Ends.{Ends, Says}
use Rattle.blic_top.specs.Means.{SaysAll, Means, goes_on}
use Rattle.blic_top.specs.Outcome.{end_status, status_of, truth_status}
use Rattle.blic_top.specs.Promises.{IsOrNoMemory}
use Rattle.blic_top.specs.declared.outcome.End.{End}
use Rattle.blic_top.specs.declared.outcome.End.TheVariants.{Solved, Certified, Exercised, Failed, Differ}
use Rattle.blic_top.specs.declared.outcome.Outcome.{Outcome}
use Rattle.blic_top.specs.declared.outcome.Outcome.TheVariants.{Usage, NoMemory, Stopped, Done}
use Rattle.blic_top.proofs.Truly.{Any, IsGood, IsTrueEnd, true_end, truth_here, truth_over}
use Rattle.blic_top.proofs.Stopping.{IsReadCalm, IsSeedCalm, same_subject, refused_or_subject, start_or_past, stop_or_memory, stop_past, stop_refused}

pub usage_by : (told : Told) (deed : Deed) (outcome : Outcome) → Means None told deed outcome → IsOrNoMemory (status_of outcome) 1
usage_by told deed Usage means = inl refl
usage_by told deed NoMemory means = inr refl
usage_by told deed (Stopped stop) means = absurd means
usage_by told deed (Done end) means = absurd means

-- ---- one job

says_past : (job : Job) (told : Told) (deed : Deed) (outcome : Outcome) (p : Problem) → Says job told deed outcome → IsNamed told.files job.task.subject p → PassesLimit p job.task
    → IsReadCalm job.task (status_of outcome) → IsOrNoMemory (status_of outcome) 8
says_past job told deed Usage p says named past calm = absurd says
says_past job told deed NoMemory p says named past calm = inr refl
says_past job told deed (Stopped stop) p says named past calm = stop_past told.files job.task p stop says.0 named past calm
says_past job told deed (Done end) p (q, is, can, ends) named past calm =
    absurd (start_or_past p job.task (subst (λ (h : Problem). CanStart h job.task) (same_subject told.files job.task.subject p q named is) can) past)

says_refused : (job : Job) (told : Told) (deed : Deed) (outcome : Outcome) (error : ReadError) → Says job told deed outcome → IsRefused told.files job.task.subject error
    → IsReadCalm job.task (status_of outcome) → IsOrNoMemory (status_of outcome) 2
says_refused job told deed Usage error says refused calm = absurd says
says_refused job told deed NoMemory error says refused calm = inr refl
says_refused job told deed (Stopped stop) error says refused calm = stop_refused told.files job.task error stop says.0 refused calm
says_refused job told deed (Done end) error (q, is, can, ends) refused calm = absurd (refused_or_subject told.files job.task.subject q error refused is)

-- with a formula that can be started, the job ends by its own rules, or memory ran out
pub says_end : (job : Job) (told : Told) (deed : Deed) (outcome : Outcome) (p : Problem) → Says job told deed outcome → IsNamed told.files job.task.subject p → CanStart p job.task
    → IsReadCalm job.task (status_of outcome) → IsSeedCalm job.task (status_of outcome) → ((end : End) × (outcome ≡ Done end) × Ends job.kind p told.alters deed end) ⊎ (status_of outcome ≡ 9)
says_end job told deed Usage p says named can calm still = absurd says
says_end job told deed NoMemory p says named can calm still = inr refl
says_end job told deed (Stopped stop) p says named can calm still = inr (stop_or_memory told.files job.task p stop says.0 named can calm still)
says_end job told deed (Done end) p (q, is, can_g, ends) named can calm still =
    inl (end, refl, subst (λ (h : Problem). Ends job.kind h told.alters deed end) (same_subject told.files job.task.subject p q named is) ends)

-- ---- jobs one after another

-- a job after which the next is begun was started
going_subject : (job : Job) (told : Told) (deed : Deed) (outcome : Outcome) → goes_on outcome ≡ true → Says job told deed outcome
    → (p : Problem) × IsSubject told.files job.task.subject p × CanStart p job.task
going_subject job told deed Usage goes says = absurd says
going_subject job told deed NoMemory goes says = cc
going_subject job told deed (Stopped stop) goes says = cc
going_subject job told deed (Done end) goes (q, is, can, ends) = (q, is, can)

first_past : (job : Job) (jobs : List Job) (told : Told) (deed : Deed) (outcome : Outcome) (p : Problem) → SaysAll (job ∷ jobs) told deed outcome
    → IsNamed told.files job.task.subject p → PassesLimit p job.task → IsReadCalm job.task (status_of outcome) → IsOrNoMemory (status_of outcome) 8
first_past job [] told deed outcome p says named past calm = says_past job told deed outcome p says named past calm
first_past job (next ∷ jobs) told deed outcome p says named past calm =
    elim says [
      | inl (ends, one) ↦ says_past job told deed outcome p one named past calm
      | inr (late, begun, rest) ↦
          let s = going_subject job told begun.early begun.first begun.goes begun.says in
          absurd (start_or_past p job.task (subst (λ (h : Problem). CanStart h job.task) (same_subject told.files job.task.subject p s.0 named s.1) s.2) past)
    ]

first_refused : (job : Job) (jobs : List Job) (told : Told) (deed : Deed) (outcome : Outcome) (error : ReadError) → SaysAll (job ∷ jobs) told deed outcome
    → IsRefused told.files job.task.subject error → IsReadCalm job.task (status_of outcome) → IsOrNoMemory (status_of outcome) 2
first_refused job [] told deed outcome error says refused calm = says_refused job told deed outcome error says refused calm
first_refused job (next ∷ jobs) told deed outcome error says refused calm =
    elim says [
      | inl (ends, one) ↦ says_refused job told deed outcome error one refused calm
      | inr (late, begun, rest) ↦
          let s = going_subject job told begun.early begun.first begun.goes begun.says in
          absurd (refused_or_subject told.files job.task.subject s.0 error refused s.1)
    ]

-- ---- whatever the command

pub limit_by : (r : Request) (told : Told) (deed : Deed) (outcome : Outcome) (p : Problem) → Means (Some r) told deed outcome
    → IsNamed told.files (first_job r).task.subject p → PassesLimit p (first_job r).task → IsReadCalm (first_job r).task (status_of outcome) → IsOrNoMemory (status_of outcome) 8
limit_by r told deed outcome p means named past calm = first_past (first_job r) (later_jobs r) told deed outcome p means named past calm

pub refused_by : (r : Request) (told : Told) (deed : Deed) (outcome : Outcome) (error : ReadError) → Means (Some r) told deed outcome
    → IsRefused told.files (first_job r).task.subject error → IsReadCalm (first_job r).task (status_of outcome) → IsOrNoMemory (status_of outcome) 2
refused_by r told deed outcome error means refused calm = first_refused (first_job r) (later_jobs r) told deed outcome error means refused calm

-- ---- `solve`

solved : (p : Problem) (alters : Bool) (deed : Deed) (end : End) → Ends Solving p alters deed end → end_status end ≡ truth_status p.truth
solved p alters deed (Solved a) ends = ap truth_status ends.0
solved p alters deed (Certified a n) ends = absurd ends
solved p alters deed (Exercised a n) ends = absurd ends
solved p alters deed (Failed failure) ends = absurd ends
solved p alters deed Differ ends = absurd ends

pub solve_by : (file : List ℕ) (o : Options) (told : Told) (deed : Deed) (outcome : Outcome) (p : Problem) → Means (Some (Solve file o)) told deed outcome
    → IsNamed told.files (first_job (Solve file o)).task.subject p → CanStart p (first_job (Solve file o)).task → IsReadCalm (first_job (Solve file o)).task (status_of outcome) → IsSeedCalm (first_job (Solve file o)).task (status_of outcome)
    → IsOrNoMemory (status_of outcome) (truth_status p.truth)
solve_by file o told deed outcome p means named can calm still =
    elim (says_end (first_job (Solve file o)) told deed outcome p means named can calm still) [
      | inl (end, is, ends) ↦ inl (ap status_of is ∙ solved p told.alters deed end ends)
      | inr memory ↦ inr memory
    ]

-- ---- `certify`

true_status : (end : End) (t : Bool) → IsTrueEnd end t → end_status end ≡ truth_status t
true_status end t it = ap end_status it.is ∙ ap truth_status it.truly

-- where nothing is altered, the truth is certified
pub certified_truly : (s : Series) (p : Problem) (alters : Bool) (deed : Deed) (end : End) → Ends (Certifying s) p alters deed end → alters ≡ false → IsTrueEnd end p.truth
certified_truly s p alters deed end (seed, is, concludes) honest =
    true_end (InProcess p (draws_of p seed s.first) alters s.talk) Any p.truth (truth_here p (draws_of p seed s.first) alters s.talk honest) p s.count deed.trace end concludes tt

pub certify_by : (file : List ℕ) (o : Options) (told : Told) (deed : Deed) (outcome : Outcome) (p : Problem) → Means (Some (Certify file o)) told deed outcome
    → IsNamed told.files (first_job (Certify file o)).task.subject p → CanStart p (first_job (Certify file o)).task → told.alters ≡ false → IsReadCalm (first_job (Certify file o)).task (status_of outcome) → IsSeedCalm (first_job (Certify file o)).task (status_of outcome)
    → IsOrNoMemory (status_of outcome) (truth_status p.truth)
certify_by file o told deed outcome p means named can honest calm still =
    elim (says_end (first_job (Certify file o)) told deed outcome p means named can calm still) [
      | inl (end, is, ends) ↦ inl (ap status_of is ∙ true_status end p.truth (certified_truly (series_of o) p told.alters deed end ends honest))
      | inr memory ↦ inr memory
    ]

-- ---- `verify`

-- where no dial and no call of a link failed, and honest replies came, the truth is certified
verified_truly : (o : Options) (p : Problem) (alters : Bool) (deed : Deed) (end : End) (seed : List ℕ) → Ends (Verifying (series_of o)) p alters deed end
    → ((seed_of_deed : List ℕ) → IsSeedOf o.seed deed seed_of_deed → seed_of_deed ≡ seed) → IsGood p seed 0 deed.trace → IsTrueEnd end p.truth
verified_truly o p alters deed end seed (taken, is, concludes) same good =
    true_end (OverLink p (draws_of p taken 0) o.talk) (IsGood p taken) p.truth (truth_over p taken o.talk) p o.repeat deed.trace end concludes
    (subst (λ s. IsGood p s 0 deed.trace) (sym (same taken is)) good)

pub verify_by : (file address : List ℕ) (o : Options) (told : Told) (deed : Deed) (outcome : Outcome) (p : Problem) (seed : List ℕ) → Means (Some (Verify file address o)) told deed outcome
    → IsNamed told.files (first_job (Verify file address o)).task.subject p → CanStart p (first_job (Verify file address o)).task
    → IsReadCalm (first_job (Verify file address o)).task (status_of outcome) → IsSeedCalm (first_job (Verify file address o)).task (status_of outcome)
    → ((seed_of_deed : List ℕ) → IsSeedOf o.seed deed seed_of_deed → seed_of_deed ≡ seed) → IsGood p seed 0 deed.trace → IsOrNoMemory (status_of outcome) (truth_status p.truth)
verify_by file address o told deed outcome p seed means named can calm still same good =
    elim (says_end (first_job (Verify file address o)) told deed outcome p means named can calm still) [
      | inl (end, is, ends) ↦ inl (ap status_of is ∙ true_status end p.truth (verified_truly o p told.alters deed end seed ends same good))
      | inr memory ↦ inr memory
    ]

-- ---- `exercise`

exercised : (s : Series) (p : Problem) (alters : Bool) (deed : Deed) (end : End) → Ends (Exercising s) p alters deed end → alters ≡ false
    → (goes_on (Done end) ≡ true) × (end_status end ≡ 0)
exercised s p alters deed (Solved a) ends honest = absurd ends
exercised s p alters deed (Certified a n) ends honest = absurd ends
exercised s p alters deed (Exercised a n) ends honest = (refl, refl)
exercised s p alters deed (Failed failure) ends honest = absurd (no_end (certified_truly s p alters deed (Failed failure) ends honest))
  where
    no_end : IsTrueEnd (Failed failure) p.truth → ⊥
    no_end it = cc it.is
exercised s p alters deed Differ ends honest = absurd ends

-- neither a file nor entropy is asked
read_calm : (pairs : ℕ) (o : Options) (t : Bool) (first status : ℕ) → IsReadCalm (exercise_job pairs o t first).task status
read_calm pairs o t first status = λ file e. absurd file

seed_calm : (pairs : ℕ) (o : Options) (t : Bool) (first status : ℕ) → IsSeedCalm (exercise_job pairs o t first).task status
seed_calm pairs o t first status = λ asked e. absurd (given_or_asked (exercise_seed o) asked)
  where
    given_or_asked : (seed : List ℕ) → Given seed ≡ Asked → ⊥
    given_or_asked seed e = cc

-- the second job is begun, or memory ran out
second_or_memory : (pairs : ℕ) (o : Options) (told : Told) (deed : Deed) (outcome : Outcome) → Means (Some (Exercise pairs o)) told deed outcome
    → CanStart (chain_problem pairs true) (exercise_job pairs o true 0).task → told.alters ≡ false
    → ((late : Deed) × Says (exercise_job pairs o false (draws_about (chain_problem pairs true))) told late outcome) ⊎ (status_of outcome ≡ 9)
second_or_memory pairs o told deed outcome means can honest =
    elim means [
      | inl (stops, one) ↦ elim (says_end (exercise_job pairs o true 0) told deed outcome (chain_problem pairs true) one refl can (read_calm pairs o true 0 (status_of outcome)) (seed_calm pairs o true 0 (status_of outcome))) [
        | inl (end, is, ends) ↦
            let goes = (exercised (exercise_series o 0) (chain_problem pairs true) told.alters deed end ends honest).0 in
            let e : false ≡ true = sym stops ∙ (ap goes_on is ∙ goes) in
            absurd cc
        | inr memory ↦ inr memory
      ]
      | inr (late, begun, rest) ↦ inl (late, rest)
    ]

pub exercise_by : (pairs : ℕ) (o : Options) (told : Told) (deed : Deed) (outcome : Outcome) → Means (Some (Exercise pairs o)) told deed outcome
    → CanStart (chain_problem pairs true) (exercise_job pairs o true 0).task → CanStart (chain_problem pairs false) (exercise_job pairs o false 0).task → told.alters ≡ false
    → IsOrNoMemory (status_of outcome) 0
exercise_by pairs o told deed outcome means can can_second honest =
    let n = draws_about (chain_problem pairs true) in
    elim (second_or_memory pairs o told deed outcome means can honest) [
      | inl (late, says) ↦ elim (says_end (exercise_job pairs o false n) told late outcome (chain_problem pairs false) says refl can_second (read_calm pairs o false n (status_of outcome)) (seed_calm pairs o false n (status_of outcome))) [
        | inl (end, is, ends) ↦ inl (ap status_of is ∙ (exercised (exercise_series o n) (chain_problem pairs false) told.alters late end ends honest).1)
        | inr memory ↦ inr memory
      ]
      | inr memory ↦ inr memory
    ]

pub second_limit_by : (pairs : ℕ) (o : Options) (told : Told) (deed : Deed) (outcome : Outcome) → Means (Some (Exercise pairs o)) told deed outcome
    → CanStart (chain_problem pairs true) (exercise_job pairs o true 0).task → PassesLimit (chain_problem pairs false) (exercise_job pairs o false 0).task → told.alters ≡ false
    → IsOrNoMemory (status_of outcome) 8
second_limit_by pairs o told deed outcome means can past honest =
    let n = draws_about (chain_problem pairs true) in
    elim (second_or_memory pairs o told deed outcome means can honest) [
      | inl (late, says) ↦ says_past (exercise_job pairs o false n) told late outcome (chain_problem pairs false) says refl past (read_calm pairs o false n (status_of outcome))
      | inr memory ↦ inr memory
    ]
