-- Two problems certified one after the other.
use Rattle.std.proofs.Common.{arith, ℕ, ◌+◌, ◌≡◌, refl, sym, ◌∙◌, ap, subst, append_assoc, List, ◌++◌, take, Bool, true, false, inl, inr}
use Rattle.std.specs.Prelude.{Option, Some, None}
use Rattle.std.specs.Io.KnownBytes.{append_known}
use Rattle.blic_basic.proofs.Appended.{append_known-append}
use Rattle.blic_words.specs.declared.options.Options.{Options}
use Rattle.blic_words.specs.Requests.{Exercise}
use Rattle.blic_top.specs.Deed.{Told, Deed, TookSeed, joined as traces_joined, printed}
use Rattle.blic_top.specs.Turning.{IsDoneHere}
use Rattle.blic_top.specs.Jobs.{Exercising, chain_problem, exercise_job, exercise_seed, exercise_series, limits_of}
use Rattle.blic_top.specs.Series.{draws_about}
use Rattle.blic_input.specs.Tasks.{Given}
use Rattle.blic_input.specs.Stops.{HasSmallCircuit, ToldFiles}
use Rattle.blic_top.specs.Ends.{Says}
use Rattle.blic_top.specs.Means.{goes_on}
use Rattle.blic_top.specs.Deciding.{Decides, DecidesAll, exercised_draws}
use Rattle.blic_top.specs.Faults.{fault_of}
use Rattle.blic_input.specs.Faults.{Counts, Entropy}
use Rattle.blic_top.specs.Outcome.{text_of}
use Rattle.blic_top.specs.declared.outcome.Answer.{Answer}
use Rattle.blic_top.specs.declared.outcome.Tally.{Tally}
use Rattle.blic_top.specs.declared.outcome.End.TheVariants.{Solved, Certified, Exercised, Failed, Differ}
use Rattle.blic_top.specs.declared.outcome.Outcome.{Outcome}
use Rattle.blic_top.specs.declared.outcome.Outcome.TheVariants.{Usage, NoMemory, Stopped, Done}
use Rattle.blic_top.proofs.Traces.{seen_more}
use Rattle.blic_top.proofs.Subjects.{with_files}

-- the outcome that has a line, after which the next is begun
pub record HasLine (outcome : Outcome) (draws : ℕ) : Type 0 where
  pub answer : Answer
  pub tally : Tally
  pub is : outcome ≡ Done (Exercised answer tally)
  pub draws_are : tally.draws ≡ draws

pub has_line : (outcome : Outcome) (draws : ℕ) → exercised_draws outcome ≡ Some draws → HasLine outcome draws
has_line (Done (Exercised a n)) draws e = record { answer = a; tally = n; is = refl; draws_are = cc }
has_line (Done (Solved a)) draws e = absurd (cc e)
has_line (Done (Certified a n)) draws e = absurd (cc e)
has_line (Done (Failed failure)) draws e = absurd (cc e)
has_line (Done Differ) draws e = absurd (cc e)
has_line Usage draws e = absurd (cc e)
has_line NoMemory draws e = absurd (cc e)
has_line (Stopped stop) draws e = absurd (cc e)

pub no_line : (outcome : Outcome) → exercised_draws outcome ≡ None → goes_on outcome ≡ false
no_line (Done (Exercised a n)) e = absurd (cc e)
no_line (Done (Solved a)) e = refl
no_line (Done (Certified a n)) e = refl
no_line (Done (Failed failure)) e = refl
no_line (Done Differ) e = refl
no_line Usage e = refl
no_line NoMemory e = refl
no_line (Stopped stop) e = refl

-- what holds of the first problem, once it is certified
pub record IsFirst (pairs : ℕ) (o : Options) (early : Deed) (draws : ℕ) : Type 0 where
  pub seed : early.seed ≡ None
  pub small : HasSmallCircuit (chain_problem pairs true)
  pub draws_are : draws ≡ draws_about (chain_problem pairs true)

first_so : (pairs : ℕ) (o : Options) (told : Told) (early : Deed) (a : Answer) (n : Tally) → Says (exercise_job pairs o true 0) told early (Done (Exercised a n)) → IsFirst pairs o early n.draws
first_so pairs o told early a n (q, is, can, (seed, is_seed, (some, have, about, tally))) = record {
  seed = is_seed.1;
  small = subst HasSmallCircuit is can.0;
  draws_are = tally.1 ∙ ap draws_about is;
}

pub first_is : (pairs : ℕ) (o : Options) (told : Told) (early : Deed) (outcome : Outcome) (draws : ℕ) (held new : Option (List ℕ)) → HasLine outcome draws
    → Decides (exercise_job pairs o true 0) told early held new (Some outcome) → IsFirst pairs o early draws
first_is pairs o told early outcome draws held new line decides =
    let one = first_so pairs o told early line.answer line.tally (subst (Says (exercise_job pairs o true 0) told early) line.is decides.0) in
    record { seed = one.seed; small = one.small; draws_are = sym line.draws_are ∙ one.draws_are }

goes : (outcome : Outcome) (draws : ℕ) → HasLine outcome draws → goes_on outcome ≡ true
goes outcome draws line = ap goes_on line.is

-- of an exercise nothing is printed in the midst of a conversation
pub never_printing : {A : Type 0} (pairs : ℕ) (o : Options) (t : Bool) (first : ℕ) (told : Told) (deed : Deed) (held new : Option (List ℕ)) → Decides (exercise_job pairs o t first) told deed held new None → A
never_printing pairs o t first told deed held new (piece, printing, cut) = absurd printing.3

-- the first one ends the run
pub first_only : (pairs : ℕ) (o : Options) (alters : Bool) (deed : Deed) (held new : Option (List ℕ)) (outcome : Outcome) → exercised_draws outcome ≡ None
    → Decides (exercise_job pairs o true 0) (record { files = None; alters = alters }) deed held new (Some outcome)
    → (files : ToldFiles) → DecidesAll (Some (Exercise pairs o)) (record { files = files; alters = alters }) deed held new (Some outcome)
first_only pairs o alters deed held new outcome none (says, lines) files =
    (inl (no_line outcome none, with_files files alters (chain_problem pairs true) (Some (limits_of o)) (Given (exercise_seed o)) (Exercising (exercise_series o 0)) deed outcome says), lines)

-- its line could not be printed
pub line_cut : (pairs : ℕ) (o : Options) (alters : Bool) (early : Deed) (held mid new : Option (List ℕ)) (first : Outcome) (draws : ℕ) → HasLine first draws
    → Decides (exercise_job pairs o true 0) (record { files = None; alters = alters }) early held mid (Some first) → (n : ℕ) × (new ≡ append_known mid (take n (text_of first)))
    → (files : ToldFiles) → DecidesAll (Some (Exercise pairs o)) (record { files = files; alters = alters }) early held new None
line_cut pairs o alters early held mid new first draws line (says, lines) (n, front) files = (
  text_of first,
  inr (inl (first, goes first draws line, with_files files alters (chain_problem pairs true) (Some (limits_of o)) (Given (exercise_seed o)) (Exercising (exercise_series o 0)) early first says, refl)),
  (n, front ∙ (ap (λ h. append_known h (take n (text_of first))) lines ∙ append_known-append held early.trace.lines (take n (text_of first)))),
)

-- the second one begins where the first one ended
pub joined : Deed → Outcome → Deed → Deed
joined early first late = record { seed = late.seed; trace = traces_joined early.trace (traces_joined (printed (text_of first)) late.trace) }

pub joined_deed : (pairs : ℕ) (o : Options) (seeds mid now : Option (ℕ → Option (List ℕ))) (seen seen_mid seen_now : Option (List (List ℕ))) (early late : Deed) (first : Outcome) (draws : ℕ) → IsFirst pairs o early draws
    → IsDoneHere seeds mid seen seen_mid early → IsDoneHere mid now seen_mid seen_now late → IsDoneHere seeds now seen seen_now (joined early first late)
unfolding joined
joined_deed pairs o seeds mid now seen seen_mid seen_now early late first draws one before after =
    let same : mid ≡ seeds = subst (TookSeed seeds mid) one.seed before.0 in
    (subst (λ s. TookSeed s now late.seed) same after.0, seen_more seen seen_mid seen_now early.trace (traces_joined (printed (text_of first)) late.trace) before.1 (after.1.0, after.1.1, none late.trace.missed after.1.2))
  where
    none : (n : ℕ) → n ≡ 0 → 0 + n ≡ 0
    none n is = omega (arith, is)

pub both : (pairs : ℕ) (o : Options) (alters altered : Bool) (held h1 h2 h3 : Option (List ℕ)) (early late : Deed) (first : Outcome) (draws : ℕ) (result : Option Outcome) → HasLine first draws → IsFirst pairs o early draws → altered ≡ alters
    → Decides (exercise_job pairs o true 0) (record { files = None; alters = alters }) early held h1 (Some first) → h2 ≡ append_known h1 (text_of first)
    → Decides (exercise_job pairs o false draws) (record { files = None; alters = altered }) late h2 h3 result
    → (files : ToldFiles) → DecidesAll (Some (Exercise pairs o)) (record { files = files; alters = alters }) (joined early first late) held h3 result
unfolding joined
both pairs o alters altered held h1 h2 h3 early late first draws (Some outcome) line one same (says, lines) printed (says_late, lines_late) files = (
  inr (
    late,
    record {
      early = early;
      first = first;
      goes = goes first draws line;
      says = with_files files alters (chain_problem pairs true) (Some (limits_of o)) (Given (exercise_seed o)) (Exercising (exercise_series o 0)) early first says;
      joined = record { trace = refl; seed = inl (one.seed, refl) };
    },
    with_files files alters (chain_problem pairs false) (Some (limits_of o)) (Given (exercise_seed o)) (Exercising (exercise_series o (draws_about (chain_problem pairs true)))) late outcome
        (subst (λ d. Says (exercise_job pairs o false d) (record { files = None; alters = alters }) late outcome) one.draws_are
        (subst (λ b. Says (exercise_job pairs o false draws) (record { files = None; alters = b }) late outcome) same says_late)),
  ),
  lines_late ∙ (ap (λ h. append_known h late.trace.lines) (printed ∙ (ap (λ h. append_known h (text_of first)) lines ∙ append_known-append held early.trace.lines (text_of first)))
      ∙ (append_known-append held (early.trace.lines ++ text_of first) late.trace.lines ∙ ap (append_known held) (append_assoc early.trace.lines (text_of first) late.trace.lines))),
)
both pairs o alters altered held h1 h2 h3 early late first draws None line one same (says, lines) printed decides files =
    never_printing pairs o false draws (record { files = None; alters = altered }) late h2 h3 decides

-- an outcome with a line tells no fault
pub quiet_line : (outcome : Outcome) (draws before now : ℕ) → HasLine outcome draws → Counts Entropy (fault_of outcome) before now → now ≡ before
quiet_line outcome draws before now line counts = subst (λ o. Counts Entropy (fault_of o) before now) line.is counts
