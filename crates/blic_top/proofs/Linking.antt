-- What a run over links says: of faults, and of honest replies.
use Rattle.std.proofs.Common.{ℕ, zero, suc, ◌≡◌, ◌≤◌, ◌<◌, ◌+◌, ◌-◌, ◌^◌, min, refl, sym, ◌∙◌, ap, subst, arith, List, [], ◌∷◌, ◌++◌, Option, Some, None, Bool, true, false, inl, inr}
use Rattle.std.specs.Prelude.{IsSomeAnd}
use Rattle.blic_basic.specs.Outside.{Rose}
use Rattle.blic_link.specs.Dialing.{Entry}
use Rattle.blic_words.specs.Requests.{Request, Solve, Certify, Verify, Exercise}
use Rattle.blic_input.specs.Problem.{Problem}
use Rattle.blic_top.specs.Deed.{Told, Deed, HungUp, IsDeed, IsSeedOf, Misses, Outside, TookSeed, with_fault, with_faults}
use Rattle.blic_top.specs.Ends.{Ends, EndsHere, EndsOver, Says}
use Rattle.blic_top.specs.Jobs.{Job, chain_problem, exercise_job, exercise_series, first_job, series_of}
use Rattle.blic_top.specs.Means.{Means}
use Rattle.blic_top.specs.Outcome.{end_status, failure_status, status_of, truth_status}
use Rattle.blic_top.specs.Promises.{AllHonest, IsSeedTold, Verifies}
use Rattle.blic_top.specs.Series.{Series, draws_about, draws_of}
use Rattle.blic_top.specs.declared.outcome.Failure.{Failure}
use Rattle.blic_top.specs.declared.outcome.Failure.TheVariants.{Rejected, WrongKind, WrongCount, NotFrame, Refused, Cut, LinkFault}
use Rattle.blic_top.specs.declared.outcome.End.{End}
use Rattle.blic_top.specs.declared.outcome.End.TheVariants.{Solved, Certified, Exercised, Failed, Differ}
use Rattle.blic_top.specs.declared.outcome.Outcome.{Outcome}
use Rattle.blic_top.specs.declared.outcome.Outcome.TheVariants.{Usage, NoMemory, Stopped, Done}
use Rattle.blic_top.proofs.Promised.{HasCome, as_status, came_of, stop_not_five}
use Rattle.blic_top.proofs.Running.{verify_by}
use Rattle.blic_top.proofs.Truly.{AreCalm, no_misses}

-- ---- counts

-- the last value of a count
abbrev last : ℕ
last = 2 ^ 64 - 1

faults_raise : (b : ℕ) (talks : List Entry) → min b last ≤ with_faults b talks
faults_raise b [] = least b last
  where
    least : (x y : ℕ) → min x y ≤ x
    least x y = omega arith
faults_raise b (e ∷ talks) = through b e.faults last (with_faults (with_fault b e) talks) (faults_raise (with_fault b e) talks)
  where
    through : (x f m y : ℕ) → min (min (x + f) m) m ≤ y → min x m ≤ y
    through x f m y le = omega (arith, le)

misses_raise : (x now n : ℕ) → Misses x now n → x ≤ now
misses_raise x now zero is = omega (arith, is)
misses_raise x now (suc n) (mid, rose, rest) = omega (arith, rose.0, misses_raise mid now n rest)

-- where a count did not rise, it is not at its last value
not_risen : (m b now : ℕ) → b ≤ now → ((b ≤ now) × (min (b + 1) m ≤ now) → ⊥) → (now ≡ b) × (b < m)
not_risen m b now le quiet =
    let low : ¬ (min (b + 1) m ≤ now) = λ risen. quiet (le, risen) in (omega (arith, le, low), omega (arith, le, low))

no_more_misses : (m x b now n : ℕ) → Misses x now n → x ≡ b → now ≡ b → b < m → m ≡ last → n ≡ 0
no_more_misses m x b now zero is same stays below is_last = refl
no_more_misses m x b now (suc n) (mid, rose, rest) same stays below is_last =
    absurd (over m x b mid now same stays below (subst (λ l. min (x + 1) l ≤ mid) (sym is_last) rose.1) (misses_raise mid now n rest))
  where
    over : (m x b mid now : ℕ) → x ≡ b → now ≡ b → b < m → min (x + 1) m ≤ mid → mid ≤ now → ⊥
    over m x b mid now same stays below rose le = omega (arith, same, stays, below, rose, le)

calm_so : (m b : ℕ) (talks : List Entry) → m ≡ last → b < m → with_faults b talks ≤ b → AreCalm talks
calm_so m b [] is_last below le = tt
calm_so m b (e ∷ talks) is_last below le =
    let up = faults_raise (with_fault b e) talks in
    let none : e.faults ≡ 0 = no_fault m b e.faults (with_faults (with_fault b e) talks) below (subst (λ l. min (min (b + e.faults) l) l ≤ with_faults (with_fault b e) talks) (sym is_last) up) le in
    let same : with_fault b e ≡ b = subst (λ l. min (b + e.faults) l ≡ b) is_last (stays m b e.faults below none) in
    (none, calm_so m b talks is_last below (subst (λ x. with_faults x talks ≤ b) same le))
  where
    no_fault : (m b f y : ℕ) → b < m → min (min (b + f) m) m ≤ y → y ≤ b → f ≡ 0
    no_fault m b f y below up le = omega (arith, below, up, le)

    stays : (m b f : ℕ) → b < m → f ≡ 0 → min (b + f) m ≡ b
    stays m b f below none = omega (arith, below, none)

-- where no call of a dialer or of its links failed, no dial did, and no link has faults
pub none_failed : (before now : ℕ) (talks : List Entry) (n : ℕ) → before ≤ now → Misses (with_faults before talks) now n → ¬ (Rose before now) → (n ≡ 0) × AreCalm talks
none_failed before now talks n later misses quiet =
    let still = not_risen last before now later quiet in
    let low = misses_raise (with_faults before talks) now n misses in
    let high = faults_raise before talks in
    let same : with_faults before talks ≡ before = meets last before (with_faults before talks) now still.0 still.1 low high in (
      no_more_misses last (with_faults before talks) before now n misses same still.0 still.1 refl,
      calm_so last before talks refl still.1 (omega (arith, same)),
    )
  where
    meets : (m b x now : ℕ) → now ≡ b → b < m → x ≤ now → min b m ≤ x → x ≡ b
    meets m b x now is below low high = omega (arith, is, below, low, high)

-- ---- honest replies

tail_of : (xs ys zs : List Entry) → xs ++ ys ≡ xs ++ zs → ys ≡ zs
tail_of [] ys zs e = e
tail_of (x ∷ xs) ys zs e = tail_of xs ys zs (cc e)

-- the links that were hung up
talks_told : (old new : Option (List Entry)) (links talks more : List Entry) → old ≡ Some links → new ≡ Some (links ++ talks) → HungUp old new more → talks ≡ more
talks_told old new links talks more before now hung =
    let is = subst (λ n. HungUp (Some links) n more) now (subst (λ o. HungUp o new more) before hung) in tail_of links talks more is

-- the seed that was taken
seed_told : (given : Option (List ℕ)) (seeds now : Option (ℕ → Option (List ℕ))) (deed : Deed) (seed taken : List ℕ) → IsSeedTold given seeds seed → TookSeed seeds now deed.seed → IsSeedOf given deed taken
    → taken ≡ seed
seed_told (Some g) seeds now deed seed taken told took (is, none) = is ∙ sym told
seed_told None seeds now deed seed taken told took is = next seeds now seed taken told (subst (TookSeed seeds now) is took)
  where
    next : (seeds now : Option (ℕ → Option (List ℕ))) (seed taken : List ℕ) → IsSomeAnd seeds (λ coming. coming 0 ≡ Some seed) → TookSeed seeds now (Some taken) → taken ≡ seed
    next None now seed taken told took = absurd told
    next (Some coming) now seed taken told took = let e : Some taken ≡ Some seed = sym took.0 ∙ told in cc e

pub verifies_so : (request : Option Request) (told : Told) (before now : Outside) (deed : Deed) (status : ℕ) → HasCome request told deed status → IsDeed before now deed
    → (status ≡ 3 → ⊥) → (status ≡ 11 → ⊥) → ¬ (Rose before.dialer.faults now.dialer.faults) → Verifies request told before now status
verifies_so request told before now deed status it done calm still quiet p file address o asked named can seed is_seed links talks told_before told_now honest =
    let c = came_of request (Some (Verify file address o)) told deed status asked it in
    let none = none_failed before.dialer.faults now.dialer.faults deed.trace.talks deed.trace.missed done.dialer.later done.dialer.faults quiet in
    let same = talks_told before.dialer.ended now.dialer.ended links talks deed.trace.talks told_before told_now done.dialer.ended in
    as_status status (truth_status p.truth) (status_of c.outcome) c.is
    (verify_by file address o told deed c.outcome p seed c.means named can (λ file e. calm (c.is ∙ e)) (λ given e. still (c.is ∙ e))
    (λ taken is. seed_told o.seed before.seeds now.seeds deed seed taken is_seed done.seed is)
    (none.0, none.1, subst (AllHonest p seed 0) same honest))

-- ---- a fault of a link

truth_not_five : (t : Bool) → truth_status t ≡ 5 → ⊥
truth_not_five true e = cc e
truth_not_five false e = cc e

-- only a failure of a link has this status
failure_five : (failure : Failure) → failure_status failure ≡ 5 → failure ≡ LinkFault
failure_five (Rejected place) e = absurd (cc e)
failure_five (WrongKind turn) e = absurd (cc e)
failure_five (WrongCount turn want got) e = absurd (cc e)
failure_five NotFrame e = absurd (cc e)
failure_five (Refused refusal ours) e = absurd (cc e)
failure_five Cut e = absurd (cc e)
failure_five LinkFault e = refl

end_five : (end : End) → end_status end ≡ 5 → end ≡ Failed LinkFault
end_five (Solved a) e = absurd (truth_not_five a.truth e)
end_five (Certified a n) e = absurd (truth_not_five a.truth e)
end_five (Exercised a n) e = absurd (cc e)
end_five (Failed failure) e = ap Failed (failure_five failure e)
end_five Differ e = absurd (cc e)

outcome_five : (outcome : Outcome) → status_of outcome ≡ 5 → outcome ≡ Done (Failed LinkFault)
outcome_five Usage e = absurd (cc e)
outcome_five NoMemory e = absurd (cc e)
outcome_five (Stopped stop) e = absurd (stop_not_five stop e)
outcome_five (Done end) e = ap Done (end_five end e)

-- in one process there is none
none_here : (s : Series) (p : Problem) (alters : Bool) (deed : Deed) → EndsHere s p alters deed (Failed LinkFault) → ⊥
none_here s p alters deed (seed, is, (d, told)) = d.held

-- over links it raised the count
rose_over : (s : Series) (p : Problem) (deed : Deed) (before now : Outside) → EndsOver s p deed (Failed LinkFault) → IsDeed before now deed → Rose before.dialer.faults now.dialer.faults
rose_over s p deed before now (seed, is, (d, told)) done =
    elim d.held [
      | inl (undialed, same) ↦
          let missed : deed.trace.missed ≡ 1 = ap (λ t. t.missed) d.is ∙ one_in_all d.early.missed d.late.missed (no_misses p (draws_of p seed s.first) s.talk d.number d.answer d.early d.before) (ap (λ t. t.missed) undialed) in
          let one = subst (λ n. Misses (with_faults before.dialer.faults deed.trace.talks) now.dialer.faults n) missed done.dialer.faults in
          (done.dialer.later, risen last before.dialer.faults (with_faults before.dialer.faults deed.trace.talks) one.0 now.dialer.faults (faults_raise before.dialer.faults deed.trace.talks) one.1.1 one.2)
      | inr (entry, leads, linked) ↦
          let talks : deed.trace.talks ≡ d.early.talks ++ entry ∷ [] = ap (λ t. t.talks) d.is ∙ ap (λ t. d.early.talks ++ t.talks) linked in
          let count : with_faults before.dialer.faults deed.trace.talks ≡ with_fault (with_faults before.dialer.faults d.early.talks) entry =
          ap (with_faults before.dialer.faults) talks ∙ with_last before.dialer.faults d.early.talks entry in
          let low = misses_raise (with_faults before.dialer.faults deed.trace.talks) now.dialer.faults deed.trace.missed done.dialer.faults in (
            done.dialer.later,
            added last before.dialer.faults (with_faults before.dialer.faults d.early.talks) entry.faults now.dialer.faults (faults_raise before.dialer.faults d.early.talks) leads.faults.1
                (subst (λ x. x ≤ now.dialer.faults) count low),
          )
    ]
  where
    one_in_all : (x y : ℕ) → x ≡ 0 → y ≡ 1 → x + y ≡ 1
    one_in_all x y none one = omega (arith, none, one)

    risen : (m b x mid now : ℕ) → min b m ≤ x → min (x + 1) m ≤ mid → now ≡ mid → min (b + 1) m ≤ now
    risen m b x mid now up rose is = omega (arith, up, rose, is)

    with_last : (b : ℕ) (xs : List Entry) (e : Entry) → with_faults b (xs ++ e ∷ []) ≡ with_fault (with_faults b xs) e
    with_last b [] e = refl
    with_last b (x ∷ xs) e = with_last (with_fault b x) xs e

    added : (m b x f now : ℕ) → min b m ≤ x → min 1 m ≤ f → min (x + f) m ≤ now → min (b + 1) m ≤ now
    added m b x f now up some le = omega (arith, up, some, le)

says_five : (job : Job) (told : Told) (deed : Deed) (outcome : Outcome) → Says job told deed outcome → status_of outcome ≡ 5
    → (p : Problem) × Ends job.kind p told.alters deed (Failed LinkFault)
says_five job told deed outcome says five =
    let so = subst (Says job told deed) (outcome_five outcome five) says in (so.0, so.3)

means_five : (r : Request) (told : Told) (deed : Deed) (outcome : Outcome) (before now : Outside) → Means (Some r) told deed outcome → IsDeed before now deed → status_of outcome ≡ 5
    → Rose before.dialer.faults now.dialer.faults
means_five (Solve file o) told deed outcome before now means done five = absurd (says_five (first_job (Solve file o)) told deed outcome means five).1
means_five (Certify file o) told deed outcome before now means done five =
    let so = says_five (first_job (Certify file o)) told deed outcome means five in absurd (none_here (series_of o) so.0 told.alters deed so.1)
means_five (Verify file address o) told deed outcome before now means done five =
    let so = says_five (first_job (Verify file address o)) told deed outcome means five in rose_over (series_of o) so.0 deed before now so.1 done
means_five (Exercise pairs o) told deed outcome before now means done five = elim means [
  | inl (stops, says) ↦ let so = says_five (first_job (Exercise pairs o)) told deed outcome says five in absurd (none_here (exercise_series o 0) so.0 told.alters deed so.1)
  | inr (late, begun, says) ↦
      let so = says_five (exercise_job pairs o false (draws_about (chain_problem pairs true))) told late outcome says five in
      absurd (none_here (exercise_series o (draws_about (chain_problem pairs true))) so.0 told.alters late so.1)
]

pub link_fault_so : (request : Option Request) (told : Told) (before now : Outside) (deed : Deed) (status : ℕ) → HasCome request told deed status → IsDeed before now deed → status ≡ 5
    → Rose before.dialer.faults now.dialer.faults
link_fault_so None told before now deed status it done five = absurd (other_usage it.outcome (sym it.is ∙ five) it.means)
  where
    other_usage : (outcome : Outcome) → status_of outcome ≡ 5 → Means None told deed outcome → ⊥
    other_usage outcome e means = subst (Means None told deed) (outcome_five outcome e) means
link_fault_so (Some r) told before now deed status it done five = means_five r told deed it.outcome before now it.means done (sym it.is ∙ five)
