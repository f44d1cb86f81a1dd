-- How a job ends.
use Rattle.std.specs.Prelude.{◌≡◌, ℕ, Bool, List}
use Rattle.blic_input.specs.Problem.{Problem}
use Rattle.blic_input.specs.Stops.{IsSubject, CanStart, Stops}
use Rattle.blic_top.specs.Conversing.{InProcess, OverLink, Records, Steps}
use Rattle.blic_top.specs.Deed.{Told, Deed, nothing, IsSeedOf}
use Rattle.blic_top.specs.Jobs.{Kind, Solving, Certifying, Verifying, Exercising, Job}
use Rattle.blic_top.specs.Series.{BreaksOff, Concludes, IsAbout, Series, draws_of}
use Rattle.blic_top.specs.declared.outcome.End.{End}
use Rattle.blic_top.specs.declared.outcome.End.TheVariants.{Solved, Certified, Exercised, Failed}
use Rattle.blic_top.specs.declared.outcome.Outcome.{Outcome}
use Rattle.blic_top.specs.declared.outcome.Outcome.TheVariants.{Usage, NoMemory, Stopped, Done}

-- conversations in one process came to this end, with the draws of the series' seed
abbrev pub EndsHere : Series → Problem → Bool → Deed → End → Type 0
EndsHere s p alters deed end = (seed : List ℕ) × IsSeedOf s.given deed seed × Concludes (InProcess p (draws_of p seed s.first) alters s.talk) p s.count deed.trace end

-- conversations over links did
abbrev pub EndsOver : Series → Problem → Deed → End → Type 0
EndsOver s p deed end = (seed : List ℕ) × IsSeedOf s.given deed seed × Concludes (OverLink p (draws_of p seed s.first) s.talk) p s.count deed.trace end

-- how a job of this kind may end, once all was obtained that comes before
abbrev pub Ends : Kind → Problem → Bool → Deed → End → Type 0
Ends Solving p alters deed (Solved a) = (a.truth ≡ p.truth) × IsAbout p a × (deed ≡ nothing)
Ends Solving p alters deed _ = ⊥
Ends (Certifying s) p alters deed end = EndsHere s p alters deed end
Ends (Verifying s) p alters deed end = EndsOver s p deed end
Ends (Exercising s) p alters deed (Exercised a n) = EndsHere s p alters deed (Certified a n)
Ends (Exercising s) p alters deed (Failed failure) = EndsHere s p alters deed (Failed failure)
Ends (Exercising s) p alters deed _ = ⊥

-- what a job may say
abbrev pub Says : Job → Told → Deed → Outcome → Type 0
Says job told deed Usage = ⊥
Says job told deed NoMemory = deed ≡ nothing
Says job told deed (Stopped stop) = Stops told.files job.task stop × (deed ≡ nothing)
Says job told deed (Done end) = (p : Problem) × IsSubject told.files job.task.subject p × CanStart p job.task × Ends job.kind p told.alters deed end

-- what a job may be printing in the midst of its work: lines of the frames of a conversation
abbrev pub IsPrintingOf : Kind → Problem → Bool → Deed → List ℕ → Type 0
IsPrintingOf Solving p alters deed piece = ⊥
IsPrintingOf (Certifying s) p alters deed piece =
    (seed : List ℕ) × IsSeedOf s.given deed seed
    × BreaksOff (InProcess p (draws_of p seed s.first) alters s.talk) (Steps p (draws_of p seed s.first) alters s.talk) s.count deed.trace piece
IsPrintingOf (Verifying s) p alters deed piece =
    (seed : List ℕ) × IsSeedOf s.given deed seed
    × BreaksOff (OverLink p (draws_of p seed s.first) s.talk) (Records p (draws_of p seed s.first) s.talk) s.count deed.trace piece
IsPrintingOf (Exercising s) p alters deed piece = ⊥

abbrev pub IsPrinting : Job → Told → Deed → List ℕ → Type 0
IsPrinting job told deed piece = (p : Problem) × IsSubject told.files job.task.subject p × CanStart p job.task × IsPrintingOf job.kind p told.alters deed piece
