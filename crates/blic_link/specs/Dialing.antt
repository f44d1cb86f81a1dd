-- Links that are dialed and hung up.
use Rattle.std.specs.Prelude.{◌≡◌, ℕ, Bool, true, false, List, [], ◌∷◌, ◌++◌, Option, IfSome, IsSomeAnd}
use Rattle.blic_basic.specs.Outside.{Rose}
use Rattle.blic_link.specs.Passing.{Piece}
use Rattle.blic_link.specs.declared.dialer.Dialed.{Dialed}
use Rattle.blic_link.specs.declared.dialer.Dialed.TheVariants as dialed

-- a link that was hung up: what passed over it, the bytes that were still coming, and its faults
pub record Entry : Type 0 where
  pub pieces : List Piece
  pub coming : List ℕ
  pub faults : ℕ

-- if the entries are told after a link is hung up, they were told before, and so was what passed over the link
abbrev pub HangsUp : Option (List Entry) → Option (List Entry) → Option (List Piece) → Option (List ℕ) → ℕ → Type 0
HangsUp old new pieces coming faults =
    IfSome new (λ now. IsSomeAnd old (λ before. IsSomeAnd pieces (λ ps. IsSomeAnd coming (λ bytes.
    now ≡ before ++ record { pieces = ps; coming = bytes; faults = faults } ∷ []))))

-- a new link is usable, nothing passed over it, and it has no faults
abbrev pub Dials : {L : Type 0} → (L → Bool) → (L → Option (List Piece)) → (L → ℕ) → Dialed L → Type 0
Dials usable pieces faults (dialed.Link l) = (usable l ≡ true) × IfSome (pieces l) (λ ps. ps ≡ []) × (faults l ≡ 0)
Dials usable pieces faults dialed.Failed = Unit {0}

-- a link is lent exactly if one was dialed; only `Failed` raises the two counts
abbrev pub DialCounts : {L : Type 0} → ℕ → ℕ → ℕ → ℕ → Bool → Dialed L → Type 0
DialCounts before now missed missed_now lent (dialed.Link l) = (now ≡ before) × (missed_now ≡ missed) × (lent ≡ true)
DialCounts before now missed missed_now lent dialed.Failed = Rose before now × Rose missed missed_now × (lent ≡ false)

-- what holds of the link, if one was dialed
abbrev pub IfDialed : {L : Type 0} → Dialed L → (L → Type 0) → Type 0
IfDialed (dialed.Link l) P = P l
IfDialed dialed.Failed P = Unit {0}
