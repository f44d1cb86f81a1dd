-- A run that has done nothing outside.
use Rattle.std.proofs.Common.{ℕ, ◌≡◌, refl, sym, subst, Bool, List}
use Rattle.std.specs.Prelude.{Option, Some, None, Err}
use Rattle.blic_talk.proofs.Onward.{nothing_more}
use Rattle.blic_top.specs.Deciding.{Decides}
use Rattle.blic_top.specs.Deed.{Told, Deed, DialerTold, nothing}
use Rattle.blic_top.specs.Ends.{Says}
use Rattle.blic_input.specs.Beginning.{IsSeeded}
use Rattle.blic_input.specs.Problem.{Problem}
use Rattle.blic_input.specs.Stops.{HasSmallCircuit, Stops}
use Rattle.blic_input.specs.Tasks.{Asked, Made, seeding_of}
use Rattle.blic_input.specs.declared.stop.Stop.{Stop}
use Rattle.blic_input.specs.declared.stop.Stop.TheVariants.{NotRead, NotBuilt, NotSolved, NoSeed}
use Rattle.blic_top.specs.Jobs.{Job, verify_job}
use Rattle.blic_top.specs.Series.{Series}
use Rattle.blic_top.specs.Turning.{IsDoneHere, IsDoneOver}
use Rattle.blic_top.specs.declared.outcome.Outcome.{Outcome}
use Rattle.blic_top.specs.declared.outcome.Outcome.TheVariants.{Stopped}
use Rattle.blic_top.proofs.Traces.{dialed_none, seen_none}

pub quiet_here : (seeds : Option (ℕ → Option (List ℕ))) (seen : Option (List (List ℕ))) → IsDoneHere seeds seeds seen seen nothing
quiet_here seeds seen = (refl, seen_none seen)

pub quiet_over : (seeds : Option (ℕ → Option (List ℕ))) (told : DialerTold) → IsDoneOver seeds seeds told told nothing
quiet_over seeds told = (refl, dialed_none told)

pub decides_quietly : (job : Job) (told : Told) (seeds : Option (ℕ → Option (List ℕ))) (seen : Option (List (List ℕ))) (held : Option (List ℕ)) (outcome : Outcome) → Says job told nothing outcome
    → (deed : Deed) × IsDoneHere seeds seeds seen seen deed × Decides job told deed held held (Some outcome)
decides_quietly job told seeds seen held outcome says = (nothing, quiet_here seeds seen, (says, nothing_more held))

-- what a job over links says before it dials
pub says_quietly : (job : Job) (seeds seeds_now : Option (ℕ → Option (List ℕ))) (dialer : DialerTold) (held : Option (List ℕ)) (outcome : Outcome) → seeds_now ≡ seeds
    → ((alters : Bool) → Says job (record { files = None; alters = alters }) nothing outcome)
    → (deed : Deed) × IsDoneOver seeds seeds_now dialer dialer deed × ((alters : Bool) → Decides job (record { files = None; alters = alters }) deed held held (Some outcome))
says_quietly job seeds seeds_now dialer held outcome same says = (nothing, (same, (quiet_over seeds dialer).1), λ alters. (says alters, nothing_more held))

-- no seed came
no_seed : (given : Option (List ℕ)) (seeds now : Option (ℕ → Option (List ℕ))) (stop : Stop) → IsSeeded given seeds now (Err stop) → (stop ≡ NoSeed) × (seeding_of given ≡ Asked) × (now ≡ seeds)
no_seed None seeds now NoSeed is = (refl, refl, is)
no_seed None seeds now (NotRead error) is = absurd is
no_seed None seeds now (NotBuilt error) is = absurd is
no_seed None seeds now (NotSolved error) is = absurd is
no_seed (Some given) seeds now stop is = absurd is

pub unseeded : (p : Problem) (s : Series) (seeds now : Option (ℕ → Option (List ℕ))) (dialer : DialerTold) (held : Option (List ℕ)) (stop : Stop) → HasSmallCircuit p → IsSeeded s.given seeds now (Err stop)
    → (deed : Deed) × IsDoneOver seeds now dialer dialer deed × ((alters : Bool) → Decides (verify_job (Made p) s) (record { files = None; alters = alters }) deed held held (Some (Stopped stop)))
unseeded p s seeds now dialer held stop small is =
    let none = no_seed s.given seeds now stop is in
    says_quietly (verify_job (Made p) s) seeds now dialer held (Stopped stop) none.2 (λ alters. (subst (Stops None (verify_job (Made p) s).task) (sym none.0) (p, refl, (small, tt), none.1), refl))
