-- What has to be obtained before anything is answered.
use Rattle.std.specs.Prelude.{ℕ, List, Option, Some, None}
use Rattle.blic_input.specs.Problem.{Problem}
use Rattle.blic_input.specs.declared.problem.SolveLimits.{SolveLimits}

-- what a task is about: the formula of the file of a name, or a problem that is made
pub data Subject : Type 0 where
  OfFile : List ℕ → Subject
  Made : Problem → Subject

-- where draws come from: there are none, from a seed that is given, or from one that is asked for
pub data Seeding : Type 0 where
  Unseeded : Seeding
  Given : List ℕ → Seeding
  Asked : Seeding

-- a problem, what solving it may take, and draws; nothing is solved if no limits are given
pub record Task : Type 0 where
  pub subject : Subject
  pub limits : Option SolveLimits
  pub seeding : Seeding

abbrev pub seeding_of : Option (List ℕ) → Seeding
seeding_of None = Asked
seeding_of (Some seed) = Given seed
