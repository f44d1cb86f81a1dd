-- What asking for a seed does.
use Rattle.std.specs.Prelude.{◌≡◌, ℕ, zero, suc, List, [], ◌∷◌, Option, Some, None, IsSomeAnd}
use Rattle.blic_basic.specs.declared.entropy.Seeded.{Seeded}
use Rattle.blic_basic.specs.declared.entropy.Seeded.TheVariants as seeded
use Rattle.blic_basic.specs.Outside.{Rose}

-- `Seed s` took the next of the seeds that will come, which are told by their number from now on; `Failed` took none
abbrev pub Seeds : Option (ℕ → Option (List ℕ)) → Option (ℕ → Option (List ℕ)) → Seeded → Type 0
Seeds None new (seeded.Seed s) = new ≡ None
Seeds (Some coming) new (seeded.Seed s) = (coming 0 ≡ Some s) × IsSomeAnd new (λ later. (n : ℕ) → later n ≡ coming (suc n))
Seeds old new seeded.Failed = new ≡ old

-- only `Failed` raises the count
abbrev pub SeedCounts : ℕ → ℕ → Seeded → Type 0
SeedCounts before now (seeded.Seed s) = now ≡ before
SeedCounts before now seeded.Failed = Rose before now

-- the seeds of a list, by their number
abbrev pub seed_at : List (List ℕ) → ℕ → Option (List ℕ)
seed_at [] n = None
seed_at (s ∷ rest) zero = Some s
seed_at (s ∷ rest) (suc n) = seed_at rest n
