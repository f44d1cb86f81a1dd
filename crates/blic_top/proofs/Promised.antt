-- What the contract of a run says of its status.
use Rattle.std.proofs.Common.{ℕ, ◌≡◌, refl, sym, ◌∙◌, ap, subst, List, Option, Some, None, false, inl, inr, ◌⊎◌, arith}
use Rattle.blic_model.specs.Formula.{PrenexFormula}
use Rattle.blic_model.specs.Truth.{truth}
use Rattle.blic_qdimacs.specs.declared.error.ReadError.{ReadError}
use Rattle.blic_qdimacs.specs.declared.error.ReadError.TheVariants as errors
use Rattle.blic_model.specs.declared.circuit.CircuitError.{CircuitError}
use Rattle.blic_model.specs.declared.circuit.CircuitError.TheVariants as circuits
use Rattle.blic_solve.specs.declared.plan.SolveError.{SolveError}
use Rattle.blic_solve.specs.declared.plan.SolveError.TheVariants as solving
use Rattle.blic_words.specs.declared.options.Options.{Options}
use Rattle.blic_words.specs.Requests.{Request, Solve, Certify, Exercise}
use Rattle.blic_input.specs.Problem.{Problem, problem_of}
use Rattle.blic_top.specs.Deed.{Told, Deed}
use Rattle.blic_top.specs.Jobs.{certify_job, limits_of, series_of, solve_job}
use Rattle.blic_input.specs.Tasks.{Unseeded, Asked, OfFile}
use Rattle.blic_top.specs.Ends.{Says}
use Rattle.blic_top.specs.Means.{Means, Runs}
use Rattle.blic_top.specs.Outcome.{end_status, status_of, truth_status}
use Rattle.blic_input.specs.StopTexts.{read_status, circuit_status, solving_status, stop_status}
use Rattle.blic_top.specs.Promises.{Certifies, Exercises, IsOrNoMemory, Limits, LimitsSecond, Refuses, Solves, SpellsIn, Tells, TellsCertified}
use Rattle.blic_input.specs.declared.stop.Stop.{Stop}
use Rattle.blic_input.specs.declared.stop.Stop.TheVariants.{NotRead, NotBuilt, NotSolved, NoSeed}
use Rattle.blic_top.specs.declared.outcome.End.TheVariants.{Solved, Certified, Exercised, Failed, Differ}
use Rattle.blic_top.specs.declared.outcome.Outcome.{Outcome}
use Rattle.blic_top.specs.declared.outcome.Outcome.TheVariants.{Usage, NoMemory, Stopped, Done}
use Rattle.blic_input.proofs.Problems.{problem_truth}
use Rattle.blic_top.proofs.Spelling.{same_file}
use Rattle.blic_top.proofs.Running.{certified_truly, usage_by, limit_by, refused_by, solve_by, certify_by, exercise_by, second_limit_by}

-- what came, if no call on the output failed
pub record HasCome (request : Option Request) (told : Told) (deed : Deed) (status : ℕ) : Type 0 where
  pub outcome : Outcome
  pub means : Means request told deed outcome
  pub is : status ≡ status_of outcome

pub came : (request : Option Request) (told : Told) (deed : Deed) (status : ℕ) (old new : Option (List ℕ)) → Runs request told deed status old new → (status ≡ 4 → ⊥) → HasCome request told deed status
came request told deed status old new runs not_four = elim runs [
  | inl it ↦ record { outcome = it.0; means = it.1; is = it.2 }
  | inr cut ↦ absurd (elim cut [ inl it ↦ not_four it.0 | inr it ↦ not_four it.0 ])
]

-- of a request that is known
pub came_of : (request : Option Request) (r : Option Request) (told : Told) (deed : Deed) (status : ℕ) → request ≡ r → HasCome request told deed status → HasCome r told deed status
came_of request r told deed status is it = record { outcome = it.outcome; means = subst (λ q. Means q told deed it.outcome) is it.means; is = it.is }

pub as_status : (status wanted : ℕ) (n : ℕ) → status ≡ n → IsOrNoMemory n wanted → IsOrNoMemory status wanted
as_status status wanted n is so = subst (λ m. IsOrNoMemory m wanted) (sym is) so

pub usage_so : (request : Option Request) (told : Told) (deed : Deed) (status : ℕ) → HasCome request told deed status → request ≡ None → IsOrNoMemory status 1
usage_so request told deed status it none =
    let c = came_of request None told deed status none it in
    as_status status 1 (status_of c.outcome) c.is (usage_by told deed c.outcome c.means)

unasked : {A : Type 0} → Unseeded ≡ Asked → A
unasked e = absurd (cc e)

pub solves_so : (request : Option Request) (told : Told) (deed : Deed) (status : ℕ) → HasCome request told deed status → (status ≡ 3 → ⊥) → Solves request told status
solves_so request told deed status it calm p file o asked named can =
    let c = came_of request (Some (Solve file o)) told deed status asked it in
    as_status status (truth_status p.truth) (status_of c.outcome) c.is (solve_by file o told deed c.outcome p c.means named can (λ file e. calm (c.is ∙ e)) (λ seed e. unasked seed))

pub certifies_so : (request : Option Request) (told : Told) (deed : Deed) (status : ℕ) → HasCome request told deed status → (status ≡ 3 → ⊥) → (status ≡ 11 → ⊥) → told.alters ≡ false
    → Certifies request told status
certifies_so request told deed status it calm still honest p file o asked named can =
    let c = came_of request (Some (Certify file o)) told deed status asked it in
    as_status status (truth_status p.truth) (status_of c.outcome) c.is
    (certify_by file o told deed c.outcome p c.means named can honest (λ file e. calm (c.is ∙ e)) (λ seed e. still (c.is ∙ e)))

pub exercises_so : (request : Option Request) (told : Told) (deed : Deed) (status : ℕ) → HasCome request told deed status → told.alters ≡ false → Exercises request status
exercises_so request told deed status it honest pairs o asked can can_second =
    let c = came_of request (Some (Exercise pairs o)) told deed status asked it in
    as_status status 0 (status_of c.outcome) c.is (exercise_by pairs o told deed c.outcome c.means can can_second honest)

pub limits_second_so : (request : Option Request) (told : Told) (deed : Deed) (status : ℕ) → HasCome request told deed status → told.alters ≡ false → LimitsSecond request status
limits_second_so request told deed status it honest pairs o asked can past =
    let c = came_of request (Some (Exercise pairs o)) told deed status asked it in
    as_status status 8 (status_of c.outcome) c.is (second_limit_by pairs o told deed c.outcome c.means can past honest)

pub limits_so : (request : Option Request) (told : Told) (deed : Deed) (status : ℕ) → HasCome request told deed status → (status ≡ 3 → ⊥) → Limits request told status
limits_so request told deed status it calm p r asked named past =
    let c = came_of request (Some r) told deed status asked it in
    as_status status 8 (status_of c.outcome) c.is (limit_by r told deed c.outcome p c.means named past (λ file e. calm (c.is ∙ e)))

pub refuses_so : (request : Option Request) (told : Told) (deed : Deed) (status : ℕ) → HasCome request told deed status → (status ≡ 3 → ⊥) → Refuses request told status
refuses_so request told deed status it calm error r asked named =
    let c = came_of request (Some r) told deed status asked it in
    as_status status 2 (status_of c.outcome) c.is (refused_by r told deed c.outcome error c.means named (λ file e. calm (c.is ∙ e)))

-- ---- 10 and 20

abbrev IsTruthStatus : ℕ → Type 0
IsTruthStatus n = (n ≡ 10) ⊎ (n ≡ 20)

other : (n m : ℕ) → n ≡ m → (m ≡ 10 → ⊥) → (m ≡ 20 → ⊥) → IsTruthStatus n → ⊥
other n m e ten twenty is = elim is [ inl a ↦ ten (sym e ∙ a) | inr b ↦ twenty (sym e ∙ b) ]

read_other : (error : ReadError) → IsTruthStatus (read_status error) → ⊥
read_other errors.Fault is = other 3 3 refl (λ e. omega arith) (λ e. omega arith) is
read_other errors.NoMem is = other 9 9 refl (λ e. omega arith) (λ e. omega arith) is
read_other error is = other 2 2 refl (λ e. omega arith) (λ e. omega arith) is

circuit_other : (error : CircuitError) → IsTruthStatus (circuit_status error) → ⊥
circuit_other circuits.NoMem is = other 9 9 refl (λ e. omega arith) (λ e. omega arith) is
circuit_other error is = other 8 8 refl (λ e. omega arith) (λ e. omega arith) is

solving_other : (error : SolveError) → IsTruthStatus (solving_status error) → ⊥
solving_other solving.NoMem is = other 9 9 refl (λ e. omega arith) (λ e. omega arith) is
solving_other error is = other 8 8 refl (λ e. omega arith) (λ e. omega arith) is

stop_other : (stop : Stop) → IsTruthStatus (stop_status stop) → ⊥
stop_other (NotRead error) is = read_other error is
stop_other (NotBuilt error) is = circuit_other error is
stop_other (NotSolved error) is = solving_other error is
stop_other NoSeed is = other 11 11 refl (λ e. omega arith) (λ e. omega arith) is

read_not_five : (error : ReadError) → read_status error ≡ 5 → ⊥
read_not_five errors.Fault e = omega (arith, e)
read_not_five errors.NoMem e = omega (arith, e)
read_not_five error e = omega (arith, e)

circuit_not_five : (error : CircuitError) → circuit_status error ≡ 5 → ⊥
circuit_not_five circuits.NoMem e = omega (arith, e)
circuit_not_five error e = omega (arith, e)

solving_not_five : (error : SolveError) → solving_status error ≡ 5 → ⊥
solving_not_five solving.NoMem e = omega (arith, e)
solving_not_five error e = omega (arith, e)

-- a stop has not the status of a fault of a link
pub stop_not_five : (stop : Stop) → stop_status stop ≡ 5 → ⊥
stop_not_five (NotRead error) e = read_not_five error e
stop_not_five (NotBuilt error) e = circuit_not_five error e
stop_not_five (NotSolved error) e = solving_not_five error e
stop_not_five NoSeed e = omega (arith, e)

-- the truth of the file's problem
truth_of_file : (told : Told) (name : List ℕ) (f g : PrenexFormula) (p : Problem) → SpellsIn told.files name f → g ≡ f → p ≡ problem_of g → p.truth ≡ truth f
truth_of_file told name f g p spells same is = ap (λ q. q.truth) is ∙ (problem_truth g ∙ ap truth same)

solve_tells : (file : List ℕ) (o : Options) (told : Told) (deed : Deed) (outcome : Outcome) (f : PrenexFormula) → Says (solve_job (OfFile file) (limits_of o)) told deed outcome → SpellsIn told.files file f
    → IsTruthStatus (status_of outcome) → status_of outcome ≡ truth_status (truth f)
solve_tells file o told deed Usage f says spells is = absurd says
solve_tells file o told deed NoMemory f says spells is = absurd (other 9 9 refl (λ e. omega arith) (λ e. omega arith) is)
solve_tells file o told deed (Stopped stop) f says spells is = absurd (stop_other stop is)
solve_tells file o told deed (Done (Solved a)) f (p, (g, is_file, is_p), can, ends) spells is =
    ap truth_status (ends.0 ∙ truth_of_file told file f g p spells (same_file told.files file f g spells is_file) is_p)
solve_tells file o told deed (Done (Certified a n)) f (p, subject, can, ends) spells is = absurd ends
solve_tells file o told deed (Done (Exercised a n)) f (p, subject, can, ends) spells is = absurd ends
solve_tells file o told deed (Done (Failed failure)) f (p, subject, can, ends) spells is = absurd ends
solve_tells file o told deed (Done Differ) f (p, subject, can, ends) spells is = absurd ends

not_four : (n : ℕ) → IsTruthStatus n → n ≡ 4 → ⊥
not_four n is e = elim is [ inl a ↦ omega (arith, a, e) | inr b ↦ omega (arith, b, e) ]

pub tells_so : (request : Option Request) (told : Told) (deed : Deed) (status : ℕ) (old new : Option (List ℕ)) → Runs request told deed status old new → Tells request told.files status
tells_so request told deed status old new runs f file o asked spells is =
    let c = came_of request (Some (Solve file o)) told deed status asked (came request told deed status old new runs (not_four status is)) in
    c.is ∙ solve_tells file o told deed c.outcome f c.means spells (subst IsTruthStatus c.is is)

certify_tells : (file : List ℕ) (o : Options) (told : Told) (deed : Deed) (outcome : Outcome) (f : PrenexFormula) → Says (certify_job (OfFile file) (limits_of o) (series_of o)) told deed outcome → SpellsIn told.files file f
    → told.alters ≡ false → IsTruthStatus (status_of outcome) → status_of outcome ≡ truth_status (truth f)
certify_tells file o told deed Usage f says spells honest is = absurd says
certify_tells file o told deed NoMemory f says spells honest is = absurd (other 9 9 refl (λ e. omega arith) (λ e. omega arith) is)
certify_tells file o told deed (Stopped stop) f says spells honest is = absurd (stop_other stop is)
certify_tells file o told deed (Done end) f (p, (g, is_file, is_p), can, ends) spells honest is =
    let so = certified_truly (series_of o) p told.alters deed end ends honest in
    ap end_status so.is ∙ ap truth_status (so.truly ∙ truth_of_file told file f g p spells (same_file told.files file f g spells is_file) is_p)

pub tells_certified_so : (request : Option Request) (told : Told) (deed : Deed) (status : ℕ) (old new : Option (List ℕ)) → Runs request told deed status old new → TellsCertified request told status
tells_certified_so request told deed status old new runs f file o asked spells honest is =
    let c = came_of request (Some (Certify file o)) told deed status asked (came request told deed status old new runs (not_four status is)) in
    c.is ∙ certify_tells file o told deed c.outcome f c.means spells honest (subst IsTruthStatus c.is is)
