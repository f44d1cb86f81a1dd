-- Conversations each of which, by what it left, certified the truth.
use Rattle.std.proofs.Common.{ℕ, zero, suc, ◌≡◌, ◌<◌, ◌+◌, refl, sym, ◌∙◌, ap, subst, arith, List, [], ◌∷◌, ◌++◌, length, length-append, Bool, true, false, inl, inr}
use Rattle.std.specs.Prelude.{not}
use Rattle.blic_client.specs.declared.verdict.Verdict.{Verdict}
use Rattle.blic_client.specs.declared.verdict.Verdict.TheVariants as verdicts
use Rattle.blic_link.specs.Dialing.{Entry}
use Rattle.blic_link.specs.Passing.{got}
use Rattle.blic_input.specs.Problem.{Problem, instance_of}
use Rattle.blic_top.specs.Conversing.{AreHonestBytes, InProcess, OverLink}
use Rattle.blic_top.specs.Deed.{Trace, joined}
use Rattle.blic_top.specs.Promises.{AllHonest}
use Rattle.blic_top.specs.Series.{AreCertified, Concludes, InTurn, certified, draws_of, verdict_of}
use Rattle.blic_top.specs.declared.outcome.Answer.{Answer}
use Rattle.blic_top.specs.declared.outcome.Tally.{Tally}
use Rattle.blic_top.specs.declared.outcome.Failure.{Failure}
use Rattle.blic_top.specs.declared.outcome.Failure.TheVariants.{Rejected, WrongKind, WrongCount, NotFrame, Refused, Cut, LinkFault}
use Rattle.blic_top.specs.declared.outcome.End.{End}
use Rattle.blic_top.specs.declared.outcome.End.TheVariants.{Solved, Certified, Exercised, Failed, Differ}

-- each conversation that left something good certified this answer
pub record TellTruth (Held : InTurn) (Good : ℕ → Trace → Type 0) (t : Bool) : Type 0 where
  pub tells : (k : ℕ) (trace : Trace) (v : Verdict) → Held k trace v → Good k trace → v ≡ certified t
  pub parts : (k : ℕ) (b : Bool) (early late : Trace) → AreCertified Held k b early → Good 0 (joined early late) → Good 0 early × Good k late

same_answer : (a b : Bool) → certified a ≡ certified b → a ≡ b
same_answer a b e = cc e

-- all agreed on it
agreed_truly : (Held : InTurn) (Good : ℕ → Trace → Type 0) (t : Bool) → TellTruth Held Good t → (count : ℕ) (b : Bool) (trace : Trace) → 0 < count → AreCertified Held count b trace → Good 0 trace → b ≡ t
agreed_truly Held Good t truth zero b trace some have good = absurd (omega (arith, some))
agreed_truly Held Good t truth (suc k) b trace some (early, late, before, held, is) good =
    let both = truth.parts k b early late before (subst (Good 0) is good) in
    same_answer b t (truth.tells k late (certified b) held both.1)

no_failure : (failure : Failure) (b : Bool) → verdict_of failure ≡ certified b → ⊥
no_failure (Rejected place) b e = cc e
no_failure (WrongKind turn) b e = cc e
no_failure (WrongCount turn want got) b e = cc e
no_failure NotFrame b e = cc e
no_failure (Refused refusal ours) b e = cc e
no_failure Cut b e = cc e
no_failure LinkFault b e = cc e

turned : (b t : Bool) → not b ≡ t → b ≡ t → ⊥
turned true t e f = let g : true ≡ false = f ∙ sym e in cc g
turned false t e f = let g : true ≡ false = e ∙ sym f in cc g

-- what they come to is that it is certified
pub record IsTrueEnd (end : End) (t : Bool) : Type 0 where
  pub answer : Answer
  pub tally : Tally
  pub is : end ≡ Certified answer tally
  pub truly : answer.truth ≡ t

pub true_end : (Held : InTurn) (Good : ℕ → Trace → Type 0) (t : Bool) → TellTruth Held Good t → (p : Problem) (count : ℕ) (trace : Trace) (end : End) → Concludes Held p count trace end → Good 0 trace → IsTrueEnd end t
true_end Held Good t truth p count trace (Certified a n) (some, have, about, tally) good =
    record { answer = a; tally = n; is = refl; truly = agreed_truly Held Good t truth count a.truth trace some have good }
true_end Held Good t truth p count trace (Failed failure) (d, told) good =
    let both = truth.parts d.number d.answer d.early d.late d.before (subst (Good 0) d.is good) in
    absurd (no_failure failure t (truth.tells d.number d.late (verdict_of failure) d.held both.1))
true_end Held Good t truth p count trace Differ (d, some) good =
    let both = truth.parts d.number d.answer d.early d.late d.before (subst (Good 0) d.is good) in
    absurd (turned d.answer t (same_answer (not d.answer) t (truth.tells d.number d.late (certified (not d.answer)) d.held both.1))
    (agreed_truly Held Good t truth d.number d.answer d.early some d.before both.0))
true_end Held Good t truth p count trace (Solved a) ends good = absurd ends
true_end Held Good t truth p count trace (Exercised a n) ends good = absurd ends

-- ---- in one process

abbrev pub Any : ℕ → Trace → Type 0
Any k trace = Unit {0}

-- where nothing is altered
pub truth_here : (p : Problem) (draws : ℕ → ℕ → ℕ) (alters talk : Bool) → alters ≡ false → TellTruth (InProcess p draws alters talk) Any p.truth
truth_here p draws alters talk honest = record { tells = tells; parts = λ k b early late have good. (tt, tt) }
  where
    tells : (k : ℕ) (trace : Trace) (v : Verdict) → InProcess p draws alters talk k trace v → Any k trace → v ≡ certified p.truth
    tells k trace (verdicts.Ended e) held good = ap verdicts.Ended (held.1.truly honest)
    tells k trace verdicts.Cut held good = absurd held
    tells k trace verdicts.LinkFault held good = absurd held
    tells k trace verdicts.WriteFault held good = absurd held

-- ---- over links

abbrev pub AreCalm : List Entry → Type 0
AreCalm [] = Unit {0}
AreCalm (entry ∷ talks) = (entry.faults ≡ 0) × AreCalm talks

-- no dial and no call of a link failed, and honest replies came
abbrev pub IsGood : Problem → List ℕ → ℕ → Trace → Type 0
IsGood p seed k trace = (trace.missed ≡ 0) × AreCalm trace.talks × AllHonest p seed k trace.talks

calm_parts : (xs ys : List Entry) → AreCalm (xs ++ ys) → AreCalm xs × AreCalm ys
calm_parts [] ys calm = (tt, calm)
calm_parts (x ∷ xs) ys (one, calm) = let both = calm_parts xs ys calm in ((one, both.0), both.1)

honest_parts : (p : Problem) (seed : List ℕ) (k : ℕ) (xs ys : List Entry) → AllHonest p seed k (xs ++ ys) → AllHonest p seed k xs × AllHonest p seed (k + length xs) ys
honest_parts p seed k [] ys honest = (tt, subst (λ n. AllHonest p seed n ys) (sym (none k)) honest)
  where
    none : (n : ℕ) → n + 0 ≡ n
    none n = omega arith
honest_parts p seed k (x ∷ xs) ys (one, honest) =
    let both = honest_parts p seed (suc k) xs ys honest in
    ((one, both.0), subst (λ n. AllHonest p seed n ys) (next k (length xs)) both.1)
  where
    next : (n m : ℕ) → suc n + m ≡ n + suc m
    next n m = omega arith

-- of one that was certified
one_link : (p : Problem) (draws : ℕ → ℕ → ℕ) (talk : Bool) (k : ℕ) (trace : Trace) (b : Bool) → OverLink p draws talk k trace (certified b) → (length trace.talks ≡ 1) × (trace.missed ≡ 0)
one_link p draws talk k trace b (inl (is, e)) = absurd (cc e)
one_link p draws talk k trace b (inr (entry, leads, is)) = (ap (λ t. length t.talks) is, ap (λ t. t.missed) is)

-- there was a link for each
links_counted : (p : Problem) (draws : ℕ → ℕ → ℕ) (talk : Bool) (k : ℕ) (b : Bool) (trace : Trace) → AreCertified (OverLink p draws talk) k b trace → (length trace.talks ≡ k) × (trace.missed ≡ 0)
links_counted p draws talk zero b trace have = (ap (λ t. length t.talks) have, ap (λ t. t.missed) have)
links_counted p draws talk (suc k) b trace (early, late, before, held, is) =
    let first = links_counted p draws talk k b early before in
    let one = one_link p draws talk k late b held in (
      ap (λ t. length t.talks) is ∙ (length-append early.talks late.talks ∙ omega (arith, first.0, one.0)),
      ap (λ t. t.missed) is ∙ omega (arith, first.1, one.1),
    )

pub no_misses : (p : Problem) (draws : ℕ → ℕ → ℕ) (talk : Bool) (k : ℕ) (b : Bool) (trace : Trace) → AreCertified (OverLink p draws talk) k b trace → trace.missed ≡ 0
no_misses p draws talk k b trace have = (links_counted p draws talk k b trace have).1

pub truth_over : (p : Problem) (seed : List ℕ) (talk : Bool) → TellTruth (OverLink p (draws_of p seed 0) talk) (IsGood p seed) p.truth
truth_over p seed talk = record { tells = tells; parts = parts }
  where
    rest : (m n : ℕ) → m ≡ 0 → m + n ≡ 0 → n ≡ 0
    rest m n e f = omega (arith, e, f)

    first_of_all : (m n : ℕ) → m ≡ n → 0 + m ≡ n
    first_of_all m n e = omega (arith, e)

    linked_so : (k : ℕ) (trace : Trace) (entry : Entry) → trace.talks ≡ entry ∷ [] → IsGood p seed k trace → (entry.faults ≡ 0) × AreHonestBytes (instance_of p) (draws_of p seed 0 k) (got entry.pieces ++ entry.coming)
    linked_so k trace entry is (none, calm, honest) = ((subst AreCalm is calm).0, (subst (AllHonest p seed k) is honest).0)

    tells : (k : ℕ) (trace : Trace) (v : Verdict) → OverLink p (draws_of p seed 0) talk k trace v → IsGood p seed k trace → v ≡ certified p.truth
    tells k trace verdicts.WriteFault held good = absurd held
    tells k trace (verdicts.Ended e) (inl (is, other)) good = absurd (cc other)
    tells k trace (verdicts.Ended e) (inr (entry, leads, is)) good =
        let so = linked_so k trace entry (ap (λ t. t.talks) is) good in leads.truly so.0 (λ f. cc f) so.1
    tells k trace verdicts.Cut (inl (is, other)) good = absurd (cc other)
    tells k trace verdicts.Cut (inr (entry, leads, is)) good =
        let so = linked_so k trace entry (ap (λ t. t.talks) is) good in leads.truly so.0 (λ f. cc f) so.1
    tells k trace verdicts.LinkFault (inl (is, same)) good = let missed : trace.missed ≡ 1 = ap (λ t. t.missed) is in absurd (omega (arith, missed, good.0))
    tells k trace verdicts.LinkFault (inr (entry, leads, is)) good =
        let so = linked_so k trace entry (ap (λ t. t.talks) is) good in leads.truly so.0 (λ f. cc f) so.1

    parts : (k : ℕ) (b : Bool) (early late : Trace) → AreCertified (OverLink p (draws_of p seed 0) talk) k b early → IsGood p seed 0 (joined early late) → IsGood p seed 0 early × IsGood p seed k late
    parts k b early late have (none, calm, honest) =
        let counted = links_counted p (draws_of p seed 0) talk k b early have in
        let calms = calm_parts early.talks late.talks calm in
        let both = honest_parts p seed 0 early.talks late.talks honest in (
          (counted.1, calms.0, both.0),
          (rest early.missed late.missed counted.1 none, calms.1, subst (λ n. AllHonest p seed n late.talks) (first_of_all (length early.talks) k counted.0) both.1),
        )
