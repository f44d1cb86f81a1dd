-- Conversations one after another: how the answers agree, and what they come to.
use Rattle.std.proofs.Common.{ℕ, suc, ◌+◌, ◌≡◌, ◌<◌, refl, sym, ◌∙◌, ap, subst, arith, List, ◌++◌, take, Bool, true, inl, inr, ◌⊎◌, append_assoc}
use Rattle.std.specs.Prelude.{Option, Some, None, Ok, Err}
use Rattle.std.specs.Io.KnownBytes.{append_known}
use Rattle.blic_basic.proofs.Appended.{append_known-append}
use Rattle.blic_client.specs.declared.verdict.Verdict.{Verdict}
use Rattle.blic_client.specs.declared.verdict.Verdict.TheVariants as verdicts
use Rattle.blic_top.specs.Deed.{Trace, joined, silent}
use Rattle.blic_top.specs.Series.{AreCertified, InTurn, UnderWay, certified}
use Rattle.blic_top.specs.Turning.{Agrees, Comes, CourseCounts, HaveAgreed, IsCut, IsTurn}
use Rattle.blic_top.specs.declared.conversations.Course.{Course}
use Rattle.blic_top.specs.declared.conversations.Course.TheVariants.{Agreed, Differ, Failed}
use Rattle.blic_top.proofs.Traces.{lines_more}

-- before the first one there is no answer
pub none_agreed : (Held : InTurn) → HaveAgreed Held 0 silent None
none_agreed Held = (refl, refl)

-- a conversation that was certified was held, with its lines printed
held_of : (Held : InTurn) (Steps : UnderWay) (k : ℕ) (trace : Trace) (old new : Option (List ℕ)) (v : Verdict) (b : Bool) → v ≡ certified b
    → IsTurn Held Steps k trace old new v → Held k trace (certified b) × (new ≡ append_known old trace.lines)
held_of Held Steps k trace old new v b is turn = subst (IsTurn Held Steps k trace old new) is turn

-- so many that agreed, with this answer if there are any
agreed_with : (Held : InTurn) (k : ℕ) (trace : Trace) (agreed : Option Bool) (b : Bool) → HaveAgreed Held k trace agreed → (agreed ≡ None) ⊎ (agreed ≡ Some b)
    → AreCertified Held k b trace
agreed_with Held k trace None b (none, have) same = subst (λ n. AreCertified Held n b trace) (sym none) (subst (λ n. AreCertified Held n true trace) none have)
agreed_with Held k trace (Some a) b (some, have) (inl e) = absurd (cc e)
agreed_with Held k trace (Some a) b (some, have) (inr e) = let same : a ≡ b = cc e in subst (λ x. AreCertified Held k x trace) same have

-- one more that agrees
pub one_more : (Held : InTurn) (Steps : UnderWay) (k : ℕ) (early late : Trace) (agreed : Option Bool) (old mid new : Option (List ℕ)) (v : Verdict) (b : Bool)
    → HaveAgreed Held k early agreed → mid ≡ append_known old early.lines → IsTurn Held Steps k late mid new v → Agrees agreed v (Ok b)
    → HaveAgreed Held (k + 1) (joined early late) (Some b) × (new ≡ append_known old (joined early late).lines)
one_more Held Steps k early late agreed old mid new v b have printed turn (is, same) =
    let held = held_of Held Steps k late mid new v b is turn in (
      (omega arith, subst (λ n. AreCertified Held n b (joined early late)) (after k) (early, late, agreed_with Held k early agreed b have same, held.0, refl)),
      lines_more old mid new early late printed held.1,
    )
  where
    after : (n : ℕ) → suc n ≡ n + 1
    after n = omega arith

-- all of them agree
pub all_agreed : (Held : InTurn) (Steps : UnderWay) (count : ℕ) (trace : Trace) (agreed : Option Bool) (old new : Option (List ℕ)) (course : Course) → 0 < count
    → HaveAgreed Held count trace agreed → new ≡ append_known old trace.lines → ((b : Bool) → agreed ≡ Some b → course ≡ Agreed b) → Comes Held Steps count trace old new course
all_agreed Held Steps count trace None old new course some (none, have) printed is = absurd (omega (arith, some, none))
all_agreed Held Steps count trace (Some b) old new course some (have_some, have) printed is =
    subst (Comes Held Steps count trace old new) (sym (is b refl)) (have, printed)

-- some answer was agreed on
pub some_agreed : (Held : InTurn) (count : ℕ) (trace : Trace) (agreed : Option Bool) → 0 < count → HaveAgreed Held count trace agreed → agreed ≡ None → ⊥
some_agreed Held count trace None some (none, have) e = omega (arith, some, none)
some_agreed Held count trace (Some b) some have e = cc e

-- a text cut off behind the lines of both
cut_more : (old mid new : Option (List ℕ)) (early late : Trace) (piece : List ℕ) → mid ≡ append_known old early.lines → IsCut late piece mid new → IsCut (joined early late) piece old new
cut_more old mid new early late piece printed (n, cut) = (
  n,
  cut ∙ (ap (λ h. append_known h (late.lines ++ take n piece)) printed ∙ (append_known-append old early.lines (late.lines ++ take n piece)
      ∙ ap (append_known old) (sym (append_assoc early.lines late.lines (take n piece))))),
)

-- an answer on which those before agreed, whatever stands if there are none
any_agreed : (Held : InTurn) (k : ℕ) (trace : Trace) (agreed : Option Bool) → HaveAgreed Held k trace agreed → (b : Bool) × AreCertified Held k b trace
any_agreed Held k trace None (none, have) = (true, have)
any_agreed Held k trace (Some b) (some, have) = (b, have)

-- one that isn't certified, or whose lines are cut off
not_certified : (Held : InTurn) (Steps : UnderWay) (k count : ℕ) (early late : Trace) (agreed : Option Bool) (old mid new : Option (List ℕ)) (v : Verdict)
    → k < count → HaveAgreed Held k early agreed → mid ≡ append_known old early.lines → IsTurn Held Steps k late mid new v → ((b : Bool) → v ≡ certified b → ⊥)
    → Comes Held Steps count (joined early late) old new (Failed v)
not_certified Held Steps k count early late agreed old mid new verdicts.WriteFault within have printed (piece, steps, cut) other =
    let any = any_agreed Held k early agreed have in (
      piece,
      record { number = k; within = within; answer = any.0; early = early; late = late; before = any.1; steps = steps; is = refl },
      cut_more old mid new early late piece printed cut,
    )
not_certified Held Steps k count early late agreed old mid new (verdicts.Ended e) within have printed (held, lines) other =
    let any = any_agreed Held k early agreed have in (
      record { number = k; within = within; answer = any.0; early = early; late = late; before = any.1; held = held; is = refl },
      (other, λ e. cc e),
      lines_more old mid new early late printed lines,
    )
not_certified Held Steps k count early late agreed old mid new verdicts.Cut within have printed (held, lines) other =
    let any = any_agreed Held k early agreed have in (
      record { number = k; within = within; answer = any.0; early = early; late = late; before = any.1; held = held; is = refl },
      (other, λ e. cc e),
      lines_more old mid new early late printed lines,
    )
not_certified Held Steps k count early late agreed old mid new verdicts.LinkFault within have printed (held, lines) other =
    let any = any_agreed Held k early agreed have in (
      record { number = k; within = within; answer = any.0; early = early; late = late; before = any.1; held = held; is = refl },
      (other, λ e. cc e),
      lines_more old mid new early late printed lines,
    )

-- the one that decides
pub decided : (Held : InTurn) (Steps : UnderWay) (k count : ℕ) (early late : Trace) (agreed : Option Bool) (old mid new : Option (List ℕ)) (v : Verdict) (course : Course)
    → k < count → HaveAgreed Held k early agreed → mid ≡ append_known old early.lines → IsTurn Held Steps k late mid new v → Agrees agreed v (Err course)
    → Comes Held Steps count (joined early late) old new course
decided Held Steps k count early late agreed old mid new v (Agreed b) within have printed turn agrees = absurd agrees
decided Held Steps k count early late None old mid new v Differ within have printed turn (b, some, is) = absurd (cc some)
decided Held Steps k count early late (Some a) old mid new v Differ within (begun, have) printed turn (b, some, is) =
    let same : a ≡ b = cc some in
    let held = subst (IsTurn Held Steps k late mid new) is turn in (
      (
        record { number = k; within = within; answer = b; early = early; late = late; before = subst (λ x. AreCertified Held k x early) same have; held = held.0; is = refl },
        begun,
      ),
      lines_more old mid new early late printed held.1,
    )
decided Held Steps k count early late agreed old mid new v (Failed w) within have printed turn (is, other) =
    subst (λ x. Comes Held Steps count (joined early late) old new (Failed x)) (sym is)
    (not_certified Held Steps k count early late agreed old mid new v within have printed turn other)

-- while conversations are certified no call on the output fails
pub still : (agreed : Option Bool) (v : Verdict) (b : Bool) (before mid now : ℕ) → mid ≡ before → CourseCounts mid now (Failed v) → Agrees agreed v (Ok b) → now ≡ before
still agreed v b before mid now same counts (is, with_those) =
    let quiet = subst (λ x. CourseCounts mid now (Failed x)) is counts in quiet ∙ same

-- the one that decides is the one at which a call on the output failed, if any did
pub counted : (agreed : Option Bool) (v : Verdict) (course : Course) (before mid now : ℕ) → mid ≡ before → CourseCounts mid now (Failed v) → Agrees agreed v (Err course) → CourseCounts before now course
counted agreed v (Agreed b) before mid now same counts agrees = absurd agrees
counted agreed v Differ before mid now same counts (b, some, is) =
    let quiet = subst (λ x. CourseCounts mid now (Failed x)) is counts in quiet ∙ same
counted agreed v (Failed w) before mid now same counts (is, other) =
    subst (λ m. CourseCounts m now (Failed w)) same (subst (λ x. CourseCounts mid now (Failed x)) (sym is) counts)

pub settled_counts : (Held : InTurn) (count : ℕ) (trace : Trace) (agreed : Option Bool) (course : Course) (before now : ℕ) → 0 < count → HaveAgreed Held count trace agreed
    → ((b : Bool) → agreed ≡ Some b → course ≡ Agreed b) → now ≡ before → CourseCounts before now course
settled_counts Held count trace None course before now some (none, have) is same = absurd (omega (arith, some, none))
settled_counts Held count trace (Some b) course before now some have is same = subst (CourseCounts before now) (sym (is b refl)) same
