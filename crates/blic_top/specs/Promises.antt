-- What follows for the status of a run.
use Rattle.std.specs.Prelude.{◌≡◌, ℕ, suc, true, false, List, [], ◌∷◌, ◌++◌, Option, Some, None, IsSomeAnd, ◌⊎◌}
use Rattle.blic_link.specs.Dialing.{Entry}
use Rattle.blic_link.specs.Passing.{got}
use Rattle.blic_model.specs.Formula.{PrenexFormula}
use Rattle.blic_model.specs.Truth.{truth}
use Rattle.blic_qdimacs.specs.Meaning.{Spells}
use Rattle.blic_qdimacs.specs.declared.error.ReadError.{ReadError}
use Rattle.blic_words.specs.declared.options.Options.{Options}
use Rattle.blic_words.specs.Requests.{Request, Solve, Certify, Verify, Exercise}
use Rattle.blic_input.specs.Problem.{Problem, instance_of}
use Rattle.blic_input.specs.Stops.{CanStart}
use Rattle.blic_input.specs.Known.{IsNamed, IsRefused, PassesLimit}
use Rattle.blic_top.specs.Conversing.{AreHonestBytes}
use Rattle.blic_top.specs.Deed.{Outside, Told}
use Rattle.blic_top.specs.Jobs.{chain_problem, exercise_job, first_job}
use Rattle.blic_top.specs.Outcome.{truth_status}
use Rattle.blic_top.specs.Series.{draws_of}

-- the file is told, and spells the formula
abbrev pub SpellsIn : Option (List ℕ → Option (List ℕ)) → List ℕ → PrenexFormula → Type 0
SpellsIn files name f = IsSomeAnd files (λ file. IsSomeAnd (file name) (λ bytes. Spells bytes f))

-- `solve`, and the file spells the formula: 10 and 20 tell its truth, whatever failed
abbrev pub Tells : Option Request → Option (List ℕ → Option (List ℕ)) → ℕ → Type 0
Tells request files status =
    (f : PrenexFormula) (file : List ℕ) (o : Options) → request ≡ Some (Solve file o) → SpellsIn files file f → (status ≡ 10) ⊎ (status ≡ 20) → status ≡ truth_status (truth f)

-- so they do for `certify`, if the watch alters nothing
abbrev pub TellsCertified : Option Request → Told → ℕ → Type 0
TellsCertified request told status =
    (f : PrenexFormula) (file : List ℕ) (o : Options) → request ≡ Some (Certify file o) → SpellsIn told.files file f → told.alters ≡ false
    → (status ≡ 10) ⊎ (status ≡ 20) → status ≡ truth_status (truth f)

-- that status, unless memory ran out
abbrev pub IsOrNoMemory : ℕ → ℕ → Type 0
IsOrNoMemory status wanted = (status ≡ wanted) ⊎ (status ≡ 9)

-- `solve`, and the file spells a problem that can be solved within the limits: the status tells its truth
abbrev pub Solves : Option Request → Told → ℕ → Type 0
Solves request told status =
    (p : Problem) (file : List ℕ) (o : Options) → request ≡ Some (Solve file o) → IsNamed told.files (first_job (Solve file o)).task.subject p → CanStart p (first_job (Solve file o)).task
    → IsOrNoMemory status (truth_status p.truth)

-- `certify`, and the file spells a problem that can be certified
abbrev pub Certifies : Option Request → Told → ℕ → Type 0
Certifies request told status =
    (p : Problem) (file : List ℕ) (o : Options) → request ≡ Some (Certify file o) → IsNamed told.files (first_job (Certify file o)).task.subject p → CanStart p (first_job (Certify file o)).task
    → IsOrNoMemory status (truth_status p.truth)

-- the seed is the one that is given, or the next one that is told
abbrev pub IsSeedTold : Option (List ℕ) → Option (ℕ → Option (List ℕ)) → List ℕ → Type 0
IsSeedTold (Some given) seeds seed = seed ≡ given
IsSeedTold None seeds seed = IsSomeAnd seeds (λ coming. coming 0 ≡ Some seed)

-- over each of these links, whose conversations have numbers from k on, honest replies came
abbrev pub AllHonest : Problem → List ℕ → ℕ → List Entry → Type 0
AllHonest p seed k [] = Unit {0}
AllHonest p seed k (entry ∷ talks) = AreHonestBytes (instance_of p) (draws_of p seed 0 k) (got entry.pieces ++ entry.coming) × AllHonest p seed (suc k) talks

-- `verify`, and the file spells a problem: if honest replies came over each link that was dialed, the status tells the truth
abbrev pub Verifies : Option Request → Told → Outside → Outside → ℕ → Type 0
Verifies request told before now status =
    (p : Problem) (file address : List ℕ) (o : Options) → request ≡ Some (Verify file address o)
    → IsNamed told.files (first_job (Verify file address o)).task.subject p → CanStart p (first_job (Verify file address o)).task
    → (seed : List ℕ) → IsSeedTold o.seed before.seeds seed → (links talks : List Entry) → before.dialer.ended ≡ Some links → now.dialer.ended ≡ Some (links ++ talks)
    → AllHonest p seed 0 talks → IsOrNoMemory status (truth_status p.truth)

-- `exercise`, and both problems can be certified: the status is 0
abbrev pub Exercises : Option Request → ℕ → Type 0
Exercises request status =
    (pairs : ℕ) (o : Options) → request ≡ Some (Exercise pairs o) → CanStart (chain_problem pairs true) (exercise_job pairs o true 0).task
    → CanStart (chain_problem pairs false) (exercise_job pairs o false 0).task → IsOrNoMemory status 0

-- `exercise`, and the first problem can be certified, but the second passes a limit: the status is 8
abbrev pub LimitsSecond : Option Request → ℕ → Type 0
LimitsSecond request status =
    (pairs : ℕ) (o : Options) → request ≡ Some (Exercise pairs o) → CanStart (chain_problem pairs true) (exercise_job pairs o true 0).task
    → PassesLimit (chain_problem pairs false) (exercise_job pairs o false 0).task → IsOrNoMemory status 8

-- the problem passes a limit, whatever the command: the status is 8
abbrev pub Limits : Option Request → Told → ℕ → Type 0
Limits request told status =
    (p : Problem) (r : Request) → request ≡ Some r → IsNamed told.files (first_job r).task.subject p → PassesLimit p (first_job r).task → IsOrNoMemory status 8

-- the file spells no formula, whatever the command: the status is 2
abbrev pub Refuses : Option Request → Told → ℕ → Type 0
Refuses request told status = (error : ReadError) (r : Request) → request ≡ Some r → IsRefused told.files (first_job r).task.subject error → IsOrNoMemory status 2
