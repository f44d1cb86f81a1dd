-- Links of clients, which are waited for at an address.
use Rattle.std.specs.Prelude.{◌≡◌, ℕ, Bool, true, false, List, [], Option, IfSome}
use Rattle.blic_basic.specs.Outside.{Rose}
use Rattle.blic_link.specs.Passing.{Piece}
use Rattle.blic_link.specs.declared.acceptor.Listened.{Listened}
use Rattle.blic_link.specs.declared.acceptor.Listened.TheVariants as listened
use Rattle.blic_link.specs.declared.acceptor.Accepted.{Accepted}
use Rattle.blic_link.specs.declared.acceptor.Accepted.TheVariants as accepted

-- it failed only if it may
abbrev pub Listens : Listened → Bool → Type 0
Listens listened.Ready may = Unit {0}
Listens listened.Failed may = may ≡ true

-- only `Failed` raises the count
abbrev pub ListenCounts : ℕ → ℕ → Listened → Type 0
ListenCounts before now listened.Ready = now ≡ before
ListenCounts before now listened.Failed = Rose before now

-- a link that was accepted is usable, one of a failed call is not, and there is such a call only if accepting may fail; nothing passed over either, and neither has faults
abbrev pub Accepts : {L : Type 0} → (L → Bool) → (L → Option (List Piece)) → (L → ℕ) → Accepted L → Bool → Type 0
Accepts usable pieces faults (accepted.Link l) may = (usable l ≡ true) × IfSome (pieces l) (λ ps. ps ≡ []) × (faults l ≡ 0)
Accepts usable pieces faults (accepted.Failed l) may = (may ≡ true) × (usable l ≡ false) × IfSome (pieces l) (λ ps. ps ≡ []) × (faults l ≡ 0)

-- only `Failed` raises the count
abbrev pub AcceptCounts : {L : Type 0} → ℕ → ℕ → Accepted L → Type 0
AcceptCounts before now (accepted.Link l) = now ≡ before
AcceptCounts before now (accepted.Failed l) = Rose before now

-- whether a link was accepted
abbrev pub was_accepted : {L : Type 0} → Accepted L → Bool
was_accepted (accepted.Link l) = true
was_accepted (accepted.Failed l) = false

-- what holds of the link, if one was accepted
abbrev pub IfAccepted : {L : Type 0} → Accepted L → (L → Type 0) → Type 0
IfAccepted (accepted.Link l) P = P l
IfAccepted (accepted.Failed l) P = Unit {0}

-- what holds of the link that can't be used, if none was accepted
abbrev pub IfNotAccepted : {L : Type 0} → Accepted L → (L → Type 0) → Type 0
IfNotAccepted (accepted.Link l) P = Unit {0}
IfNotAccepted (accepted.Failed l) P = P l
