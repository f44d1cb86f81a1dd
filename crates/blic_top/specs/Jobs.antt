-- What a run is to do: jobs, one after another.
use Rattle.std.specs.Prelude.{ℕ, Bool, true, false, List, [], ◌∷◌, replicate, Some, None, unwrap_or}
use Rattle.blic_gen.specs.Chain.{chain}
use Rattle.blic_words.specs.declared.options.Options.{Options}
use Rattle.blic_words.specs.Requests.{Request, Solve, Certify, Verify, Exercise}
use Rattle.blic_input.specs.Problem.{Problem, problem_of}
use Rattle.blic_input.specs.Tasks.{Subject, OfFile, Made, Unseeded, Given, Task, seeding_of}
use Rattle.blic_input.specs.declared.problem.SolveLimits.{SolveLimits}
use Rattle.blic_top.specs.Series.{Series, draws_about}

-- how far the options let solving go
abbrev pub limits_of : Options → SolveLimits
limits_of o = record { nodes = o.nodes; pairs = o.pairs }

-- what is done with a problem: it is solved; or certified by conversations in one process, or over links; or certified as one of an exercise
pub data Kind : Type 0 where
  Solving : Kind
  Certifying : Series → Kind
  Verifying : Series → Kind
  Exercising : Series → Kind

pub record Job : Type 0 where
  pub task : Task
  pub kind : Kind

abbrev pub solve_job : Subject → SolveLimits → Job
solve_job subject limits = record { task = record { subject = subject; limits = Some limits; seeding = Unseeded }; kind = Solving }

abbrev pub certify_job : Subject → SolveLimits → Series → Job
certify_job subject limits series = record { task = record { subject = subject; limits = Some limits; seeding = seeding_of series.given }; kind = Certifying series }

-- nothing is solved
abbrev pub verify_job : Subject → Series → Job
verify_job subject series = record { task = record { subject = subject; limits = None; seeding = seeding_of series.given }; kind = Verifying series }

-- the conversations that the options ask for
abbrev pub series_of : Options → Series
series_of o = record { given = o.seed; first = 0; count = o.repeat; talk = o.talk }

-- the problem that an exercise says to be true, or the one that it says to be false
abbrev pub chain_problem : ℕ → Bool → Problem
chain_problem pairs truth = problem_of (chain pairs truth)

-- the seed of an exercise is the one that is given, or one of 32 zeros
abbrev pub exercise_seed : Options → List ℕ
exercise_seed o = unwrap_or o.seed (replicate 32 0)

-- one conversation, whose frames aren't printed
abbrev pub exercise_series : Options → ℕ → Series
exercise_series o n = record { given = Some (exercise_seed o); first = n; count = 1; talk = false }

abbrev pub exercise_job : ℕ → Options → Bool → ℕ → Job
exercise_job pairs o truth first =
    record { task = record { subject = Made (chain_problem pairs truth); limits = Some (limits_of o); seeding = Given (exercise_seed o) }; kind = Exercising (exercise_series o first) }

abbrev pub first_job : Request → Job
first_job (Solve file o) = solve_job (OfFile file) (limits_of o)
first_job (Certify file o) = certify_job (OfFile file) (limits_of o) (series_of o)
first_job (Verify file address o) = verify_job (OfFile file) (series_of o)
first_job (Exercise pairs o) = exercise_job pairs o true 0

-- the draws of the second conversation go on where those of the first one ended
abbrev pub later_jobs : Request → List Job
later_jobs (Solve file o) = []
later_jobs (Certify file o) = []
later_jobs (Verify file address o) = []
later_jobs (Exercise pairs o) = exercise_job pairs o false (draws_about (chain_problem pairs true)) ∷ []
