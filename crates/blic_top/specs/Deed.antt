-- What a run did outside, but for its last lines; and what is told of the outside.
use Rattle.std.specs.Prelude.{◌≡◌, ℕ, zero, suc, ◌+◌, ◌-◌, ◌^◌, ◌≤◌, min, Bool, List, [], ◌++◌, fold, Option, Some, None, IfSome, IsSomeAnd, ◌⊎◌}
use Rattle.blic_basic.specs.Outside.{Rose}
use Rattle.blic_basic.specs.Seeding.{Seeds}
use Rattle.blic_basic.specs.declared.entropy.Seeded.TheVariants as seeded
use Rattle.blic_link.specs.Dialing.{Entry}
use Rattle.blic_input.specs.Stops.{ToldFiles}
use Rattle.blic_talk.specs.Wire.{Shows}

-- the files by name, and whether the watch alters replies
pub record Told : Type 0 where
  pub files : ToldFiles
  pub alters : Bool

-- what conversations leave: the frames that were shown, the links that were hung up, how many dials failed, and the lines that were printed
pub record Trace : Type 0 where
  pub frames : List (List ℕ)
  pub talks : List Entry
  pub missed : ℕ
  pub lines : List ℕ

abbrev pub printed : List ℕ → Trace
printed text = record { frames = []; talks = []; missed = 0; lines = text }

abbrev pub silent : Trace
silent = printed []

-- one after the other
abbrev pub joined : Trace → Trace → Trace
joined a b = record { frames = a.frames ++ b.frames; talks = a.talks ++ b.talks; missed = a.missed + b.missed; lines = a.lines ++ b.lines }

-- the seed that was taken, if one was; and what the conversations left, with the lines before the last ones
pub record Deed : Type 0 where
  pub seed : Option (List ℕ)
  pub trace : Trace

abbrev pub nothing : Deed
nothing = record { seed = None; trace = silent }

-- no seed was taken, or the next one that comes
abbrev pub TookSeed : Option (ℕ → Option (List ℕ)) → Option (ℕ → Option (List ℕ)) → Option (List ℕ) → Type 0
TookSeed before after None = after ≡ before
TookSeed before after (Some seed) = Seeds before after (seeded.Seed seed)

-- what a dialer tells: the links that were hung up, how many dials failed, and how many calls did
pub record DialerTold : Type 0 where
  pub ended : Option (List Entry)
  pub missed : ℕ
  pub faults : ℕ

-- these links more were hung up, if the links are told
abbrev pub HungUp : Option (List Entry) → Option (List Entry) → List Entry → Type 0
HungUp old new talks = IfSome new (λ now. IsSomeAnd old (λ before. now ≡ before ++ talks))

-- a count with the faults of a link that is hung up, and with those of many, one after another
abbrev pub with_fault : ℕ → Entry → ℕ
with_fault count e = min (count + e.faults) (2 ^ 64 - 1)

abbrev pub with_faults : ℕ → List Entry → ℕ
with_faults count talks = fold with_fault count talks

-- a count after so many dials that failed
abbrev pub Misses : ℕ → ℕ → ℕ → Type 0
Misses before now zero = now ≡ before
Misses before now (suc n) = (mid : ℕ) × Rose before mid × Misses mid now n

-- these links were dialed and hung up, and then so many dials failed
pub record Dials (before now : DialerTold) (talks : List Entry) (missing : ℕ) : Type 0 where
  pub later : before.faults ≤ now.faults
  pub ended : HungUp before.ended now.ended talks
  pub missed : Misses before.missed now.missed missing
  pub faults : Misses (with_faults before.faults talks) now.faults missing

-- what the objects outside tell
pub record Outside : Type 0 where
  pub seeds : Option (ℕ → Option (List ℕ))
  pub seen : Option (List (List ℕ))
  pub dialer : DialerTold

-- what they tell of a deed: the seeds, the frames and the links before and after
pub record IsDeed (before now : Outside) (deed : Deed) : Type 0 where
  pub seed : TookSeed before.seeds now.seeds deed.seed
  pub frames : Shows before.seen now.seen deed.trace.frames
  pub dialer : Dials before.dialer now.dialer deed.trace.talks deed.trace.missed

-- the seed is the one that is given, and none was taken; or the one that was
abbrev pub IsSeedOf : Option (List ℕ) → Deed → List ℕ → Type 0
IsSeedOf (Some given) deed seed = (seed ≡ given) × (deed.seed ≡ None)
IsSeedOf None deed seed = deed.seed ≡ Some seed

-- one deed after another, with a line between; only one of them takes a seed
pub record AreJoined (whole early : Deed) (line : List ℕ) (late : Deed) : Type 0 where
  pub trace : whole.trace ≡ joined early.trace (joined (printed line) late.trace)
  pub seed : (early.seed ≡ None) × (whole.seed ≡ late.seed) ⊎ (late.seed ≡ None) × (whole.seed ≡ early.seed)
