-- Runs of draws: those of a seed from one of them on, numbered from 0.
use Rattle.std.specs.Prelude.{ℕ, ◌+◌, List}
use Rattle.blic_draw.specs.Draws.{draw_at}

-- where the draws of a run come from: the seed, and which of its draws is the run's first
pub record Source : Type 0 where
  pub seed : List ℕ
  pub first : ℕ

-- draw n of the run
abbrev pub draw_from : Source → ℕ → ℕ
draw_from source n = draw_at source.seed (source.first + n)

-- a run, and the number of its next draw
pub record DrawsOf : Type 0 where
  pub source : Source
  pub place : ℕ
