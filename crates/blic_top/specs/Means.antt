-- What a run may say: of each request as a list of jobs, one after another.
use Rattle.std.specs.Prelude.{◌≡◌, ℕ, Bool, true, false, List, [], ◌∷◌, ◌++◌, take, Option, Some, None, ◌⊎◌}
use Rattle.std.specs.Io.KnownBytes.{append_known}
use Rattle.blic_words.specs.Requests.{Request}
use Rattle.blic_top.specs.Deed.{Told, Deed, nothing, AreJoined}
use Rattle.blic_top.specs.Jobs.{Job, first_job, later_jobs}
use Rattle.blic_top.specs.Ends.{IsPrinting, Says}
use Rattle.blic_top.specs.Outcome.{status_of, text_of}
use Rattle.blic_top.specs.declared.outcome.End.TheVariants.{Exercised}
use Rattle.blic_top.specs.declared.outcome.Outcome.{Outcome}
use Rattle.blic_top.specs.declared.outcome.Outcome.TheVariants.{Usage, NoMemory, Stopped, Done}

-- whether the next job is begun
abbrev pub goes_on : Outcome → Bool
goes_on (Done (Exercised a n)) = true
goes_on _ = false

-- a job was done, its line was printed, and the rest of the run did the rest
pub record IsBegun (job : Job) (told : Told) (deed late : Deed) : Type 0 where
  pub early : Deed
  pub first : Outcome
  pub goes : goes_on first ≡ true
  pub says : Says job told early first
  pub joined : AreJoined deed early (text_of first) late

-- the jobs one after another: one ends the run, or its line is printed, and the next one is begun
abbrev pub SaysAll : List Job → Told → Deed → Outcome → Type 0
SaysAll [] told deed outcome = ⊥
SaysAll (job ∷ []) told deed outcome = Says job told deed outcome
SaysAll (job ∷ next ∷ jobs) told deed outcome =
    ((goes_on outcome ≡ false) × Says job told deed outcome)
    ⊎ ((late : Deed) × IsBegun job told deed late × SaysAll (next ∷ jobs) told late outcome)

-- what is printed before the last lines, behind what stands whole: lines of a job at work; the line of one after which the next is begun
abbrev pub IsPrintingIn : List Job → Told → Deed → List ℕ → Type 0
IsPrintingIn [] told deed piece = ⊥
IsPrintingIn (job ∷ []) told deed piece = IsPrinting job told deed piece
IsPrintingIn (job ∷ next ∷ jobs) told deed piece =
    IsPrinting job told deed piece
    ⊎ ((first : Outcome) × (goes_on first ≡ true) × Says job told deed first × (piece ≡ text_of first))
    ⊎ ((late : Deed) × IsBegun job told deed late × IsPrintingIn (next ∷ jobs) told late piece)

-- what may be said of a request, or of arguments that don't fit
abbrev pub Means : Option Request → Told → Deed → Outcome → Type 0
Means (Some r) told deed outcome = SaysAll (first_job r ∷ later_jobs r) told deed outcome
Means None told deed Usage = deed ≡ nothing
Means None told deed NoMemory = deed ≡ nothing
Means None told deed (Stopped stop) = ⊥
Means None told deed (Done end) = ⊥

abbrev pub IsPrintingFor : Option Request → Told → Deed → List ℕ → Type 0
IsPrintingFor (Some r) told deed piece = IsPrintingIn (first_job r ∷ later_jobs r) told deed piece
IsPrintingFor None told deed piece = ⊥

-- a call on the output failed while this piece was printed: all that stands before it is appended whole, and a prefix of the piece
abbrev pub IsCutOff : Deed → List ℕ → Option (List ℕ) → Option (List ℕ) → Type 0
IsCutOff deed piece old new = (n : ℕ) × (new ≡ append_known old (deed.trace.lines ++ take n piece))

-- some outcome came, its status is answered, and its whole text is appended behind the lines before it; or the status is 4, and a call on
-- the output failed at the outcome's text or at a piece before it
abbrev pub Runs : Option Request → Told → Deed → ℕ → Option (List ℕ) → Option (List ℕ) → Type 0
Runs request told deed status old new =
    ((outcome : Outcome) × Means request told deed outcome × (status ≡ status_of outcome) × (new ≡ append_known old (deed.trace.lines ++ text_of outcome)))
    ⊎ ((status ≡ 4) × ((outcome : Outcome) × Means request told deed outcome × IsCutOff deed (text_of outcome) old new))
    ⊎ ((status ≡ 4) × ((piece : List ℕ) × IsPrintingFor request told deed piece × IsCutOff deed piece old new))
