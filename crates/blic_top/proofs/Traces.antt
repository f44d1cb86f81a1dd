-- Traces one after another: their parts, and what objects outside tell of them.
use Rattle.std.proofs.Common.{ℕ, ◌≡◌, ◌+◌, refl, sym, ◌∙◌, ap, subst, arith, List, [], ◌∷◌, ◌++◌, append_assoc, append-nil}
use Rattle.std.specs.Prelude.{Option, Some, None}
use Rattle.std.specs.Io.KnownBytes.{append_known}
use Rattle.blic_basic.proofs.Appended.{append_known-append}
use Rattle.blic_link.specs.Dialing.{Entry}
use Rattle.blic_talk.proofs.Onward.{shows_more, shows_none}
use Rattle.blic_top.specs.Deed.{Trace, DialerTold, HungUp, Misses, joined, silent, with_fault, with_faults}
use Rattle.blic_top.specs.Turning.{IsDialed, IsSeen}

-- ---- parts

-- ---- what a watch tells

pub seen_none : (seen : Option (List (List ℕ))) → IsSeen seen seen silent
seen_none seen = (shows_none seen, refl, refl)

pub seen_more : (old mid new : Option (List (List ℕ))) (a b : Trace) → IsSeen old mid a → IsSeen mid new b → IsSeen old new (joined a b)
seen_more old mid new a b first second = (
  shows_more old mid new a.frames b.frames first.0 second.0,
  ap (λ t. t ++ b.talks) first.1 ∙ second.1,
  none_in_all a.missed b.missed first.2 second.2,
)
  where
    none_in_all : (x y : ℕ) → x ≡ 0 → y ≡ 0 → x + y ≡ 0
    none_in_all x y first second = omega (arith, first, second)

-- ---- what a dialer tells

pub hung_none : (old : Option (List Entry)) → HungUp old old []
hung_none None = tt
hung_none (Some links) = sym (append-nil links)

hung_more : (old mid new : Option (List Entry)) (xs ys : List Entry) → HungUp old mid xs → HungUp mid new ys → HungUp old new (xs ++ ys)
hung_more old mid None xs ys first second = tt
hung_more old None (Some now) xs ys first second = absurd second
hung_more None (Some held) (Some now) xs ys first second = absurd first
hung_more (Some before) (Some held) (Some now) xs ys first second = second ∙ (ap (λ z. z ++ ys) first ∙ append_assoc before xs ys)

faults_more : (count : ℕ) (xs ys : List Entry) → with_faults count (xs ++ ys) ≡ with_faults (with_faults count xs) ys
faults_more count [] ys = refl
faults_more count (x ∷ xs) ys = faults_more (with_fault count x) xs ys

pub dialed_none : (told : DialerTold) → IsDialed told told silent
dialed_none told = (record { later = omega arith; ended = hung_none told.ended; missed = refl; faults = refl }, refl)

-- links after links none of whose dials failed
pub dialed_more : (old mid new : DialerTold) (a b : Trace) → a.missed ≡ 0 → IsDialed old mid a → IsDialed mid new b → IsDialed old new (joined a b)
dialed_more old mid new a b none first second =
    let counted : mid.missed ≡ old.missed = subst (λ n. Misses old.missed mid.missed n) none first.0.missed in
    let faulted : mid.faults ≡ with_faults old.faults a.talks = subst (λ n. Misses (with_faults old.faults a.talks) mid.faults n) none first.0.faults in (
      record {
        later = omega (arith, first.0.later, second.0.later);
        ended = hung_more old.ended mid.ended new.ended a.talks b.talks first.0.ended second.0.ended;
        missed = subst (λ n. Misses old.missed new.missed n) (sym (only a.missed b.missed none)) (subst (λ m. Misses m new.missed b.missed) counted second.0.missed);
        faults = subst (λ n. Misses (with_faults old.faults (a.talks ++ b.talks)) new.faults n) (sym (only a.missed b.missed none))
            (subst (λ m. Misses m new.faults b.missed) (ap (λ m. with_faults m b.talks) faulted ∙ sym (faults_more old.faults a.talks b.talks)) second.0.faults);
      },
      ap (λ t. t ++ b.frames) first.1 ∙ second.1,
    )
  where
    only : (x y : ℕ) → x ≡ 0 → x + y ≡ y
    only x y none = omega (arith, none)

-- ---- lines

-- the lines of one trace behind those of another
pub lines_more : (old mid new : Option (List ℕ)) (a b : Trace) → mid ≡ append_known old a.lines → new ≡ append_known mid b.lines → new ≡ append_known old (joined a b).lines
lines_more old mid new a b first second = second ∙ (ap (λ h. append_known h b.lines) first ∙ append_known-append old a.lines b.lines)
