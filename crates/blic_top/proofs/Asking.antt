-- From what the calls of a command decide to what the request may say.
use Rattle.std.proofs.Common.{ℕ, ◌≡◌, refl, sym, subst, List, Bool, inl, inr, take}
use Rattle.std.specs.Prelude.{Option, Some, None}
use Rattle.std.specs.Io.KnownBytes.{append_known}
use Rattle.blic_words.specs.declared.options.Options.{Options}
use Rattle.blic_words.specs.Requests.{Request, Certify, Solve, Verify, Exercise}
use Rattle.blic_input.specs.Problem.{Problem}
use Rattle.blic_top.specs.Deed.{Told, Deed, DialerTold, Dials, Outside, nothing, IsDeed}
use Rattle.blic_talk.specs.Wire.{Shows}
use Rattle.blic_top.specs.Jobs.{Certifying, Verifying, certify_job, first_job, limits_of, series_of, verify_job}
use Rattle.blic_top.specs.Turning.{IsDoneHere, IsDoneOver}
use Rattle.blic_input.specs.Tasks.{OfFile, Made, seeding_of}
use Rattle.blic_input.specs.Stops.{ToldFiles, IsSubject, Stops}
use Rattle.blic_top.specs.Ends.{Says}
use Rattle.blic_top.specs.Means.{Means, Runs}
use Rattle.blic_top.specs.Outcome.{status_of, text_of}
use Rattle.blic_top.specs.Deciding.{Decides, DecidesAll}
use Rattle.blic_input.specs.declared.stop.Stop.{Stop}
use Rattle.blic_top.specs.declared.outcome.Outcome.{Outcome}
use Rattle.blic_top.specs.declared.outcome.Outcome.TheVariants.{Usage, NoMemory, Stopped}
use Rattle.blic_basic.proofs.Appended.{append_known-append}
use Rattle.std.proofs.Common.{◌∙◌, ap}
use Rattle.blic_top.proofs.Quiet.{quiet_here, quiet_over}
use Rattle.blic_top.proofs.Traces.{dialed_none, seen_none}
use Rattle.blic_talk.proofs.Onward.{nothing_more}
use Rattle.blic_top.proofs.Subjects.{of_subject, printing_of_subject}

-- a file's problem was certified, or why not
pub certified_file : (files : ToldFiles) (alters : Bool) (file : List ℕ) (o : Options) (p : Problem) (deed : Deed) (old new : Option (List ℕ)) (result : Option Outcome) → IsSubject files (OfFile file) p
    → Decides (certify_job (Made p) (limits_of o) (series_of o)) (record { files = None; alters = alters }) deed old new result
    → DecidesAll (Some (Certify file o)) (record { files = files; alters = alters }) deed old new result
certified_file files alters file o p deed old new (Some outcome) is (says, lines) =
    (of_subject files alters (OfFile file) p (Some (limits_of o)) (seeding_of o.seed) (Certifying (series_of o)) deed outcome is says, lines)
certified_file files alters file o p deed old new None is (piece, printing, cut) =
    (piece, printing_of_subject files alters (OfFile file) p (Some (limits_of o)) (seeding_of o.seed) (Certifying (series_of o)) deed piece is printing, cut)

pub certified_refusal : (files : ToldFiles) (alters : Bool) (file : List ℕ) (o : Options) (stop : Stop) (seeds : Option (ℕ → Option (List ℕ))) (seen : Option (List (List ℕ))) (held : Option (List ℕ))
    → Stops files (first_job (Certify file o)).task stop
    → (deed : Deed) × IsDoneHere seeds seeds seen seen deed × DecidesAll (Some (Certify file o)) (record { files = files; alters = alters }) deed held held (Some (Stopped stop))
certified_refusal files alters file o stop seeds seen held stops = (nothing, quiet_here seeds seen, ((stops, refl), nothing_more held))

-- the same over links
pub verified_file : (files : ToldFiles) (alters : Bool) (file address : List ℕ) (o : Options) (p : Problem) (deed : Deed) (old new : Option (List ℕ)) (result : Option Outcome) → IsSubject files (OfFile file) p
    → Decides (verify_job (Made p) (series_of o)) (record { files = None; alters = alters }) deed old new result
    → DecidesAll (Some (Verify file address o)) (record { files = files; alters = alters }) deed old new result
verified_file files alters file address o p deed old new (Some outcome) is (says, lines) =
    (of_subject files alters (OfFile file) p None (seeding_of o.seed) (Verifying (series_of o)) deed outcome is says, lines)
verified_file files alters file address o p deed old new None is (piece, printing, cut) =
    (piece, printing_of_subject files alters (OfFile file) p None (seeding_of o.seed) (Verifying (series_of o)) deed piece is printing, cut)

pub verified_refusal : (files : ToldFiles) (file address : List ℕ) (o : Options) (stop : Stop) (seeds : Option (ℕ → Option (List ℕ))) (dialer : DialerTold) (held : Option (List ℕ))
    → Stops files (first_job (Verify file address o)).task stop
    → (deed : Deed) × IsDoneOver seeds seeds dialer dialer deed × ((alters : Bool) → DecidesAll (Some (Verify file address o)) (record { files = files; alters = alters }) deed held held (Some (Stopped stop)))
verified_refusal files file address o stop seeds dialer held stops = (nothing, quiet_over seeds dialer, λ alters. ((stops, refl), nothing_more held))

-- ---- all that a run did outside

-- nothing
quiet : (before : Outside) → IsDeed before before nothing
quiet before = record { seed = refl; frames = (seen_none before.seen).0; dialer = (dialed_none before.dialer).0 }

-- in one process, while the dialer was left alone
pub done_here : (seeds seeds_now : Option (ℕ → Option (List ℕ))) (seen seen_now : Option (List (List ℕ))) (dialer : DialerTold) (deed : Deed) → IsDoneHere seeds seeds_now seen seen_now deed
    → IsDeed (record { seeds = seeds; seen = seen; dialer = dialer }) (record { seeds = seeds_now; seen = seen_now; dialer = dialer }) deed
done_here seeds seeds_now seen seen_now dialer deed (seed, (shows, none, no_miss)) =
    let still = (dialed_none dialer).0 in
    record {
      seed = seed;
      frames = shows;
      dialer = subst (λ n. Dials dialer dialer deed.trace.talks n) (sym no_miss) (subst (λ t. Dials dialer dialer t 0) (sym none) still);
    }

-- over links, while the watch saw nothing
pub done_over : (seeds seeds_now : Option (ℕ → Option (List ℕ))) (seen : Option (List (List ℕ))) (dialer dialer_now : DialerTold) (deed : Deed) → IsDoneOver seeds seeds_now dialer dialer_now deed
    → IsDeed (record { seeds = seeds; seen = seen; dialer = dialer }) (record { seeds = seeds_now; seen = seen; dialer = dialer_now }) deed
done_over seeds seeds_now seen dialer dialer_now deed (seed, (dials, none)) =
    record { seed = seed; frames = subst (Shows seen seen) (sym none) (seen_none seen).0; dialer = dials }

-- a file's problem was solved, or why not
pub solved_file : (files : ToldFiles) (alters : Bool) (file : List ℕ) (o : Options) (before : Outside) (held : Option (List ℕ)) (outcome : Outcome)
    → Says (first_job (Solve file o)) (record { files = files; alters = alters }) nothing outcome
    → (deed : Deed) × IsDeed before before deed × DecidesAll (Some (Solve file o)) (record { files = files; alters = alters }) deed held held (Some outcome)
solved_file files alters file o before held outcome says = (nothing, quiet before, (says, nothing_more held))

pub misused : (told : Told) (before : Outside) (held : Option (List ℕ)) → (deed : Deed) × IsDeed before before deed × DecidesAll None told deed held held (Some Usage)
misused told before held = (nothing, quiet before, (refl, nothing_more held))

no_memory : (request : Option Request) (told : Told) → Means request told nothing NoMemory
no_memory None told = refl
no_memory (Some (Solve file o)) told = refl
no_memory (Some (Certify file o)) told = refl
no_memory (Some (Verify file address o)) told = refl
no_memory (Some (Exercise pairs o)) told = inl (refl, refl)

pub wanted : (request : Option Request) (told : Told) (before : Outside) (held : Option (List ℕ)) → (deed : Deed) × IsDeed before before deed × DecidesAll request told deed held held (Some NoMemory)
wanted request told before held = (nothing, quiet before, (no_memory request told, nothing_more held))

-- the words ask for this
pub as_asked : (r request : Option Request) (told : Told) (before now : Outside) (old new : Option (List ℕ)) (result : Option Outcome) → r ≡ request
    → (deed : Deed) × IsDeed before now deed × DecidesAll r told deed old new result → (deed : Deed) × IsDeed before now deed × DecidesAll request told deed old new result
as_asked r request told before now old new result same d = (d.0, d.1, subst (λ q. DecidesAll q told d.0 old new result) same d.2)

-- the last lines are printed, or a prefix of them
pub runs : (request : Option Request) (told : Told) (deed : Deed) (old mid new : Option (List ℕ)) (outcome : Outcome) → DecidesAll request told deed old mid (Some outcome) → new ≡ append_known mid (text_of outcome)
    → Runs request told deed (status_of outcome) old new
runs request told deed old mid new outcome (means, lines) printed =
    inl (outcome, means, refl, printed ∙ (ap (λ h. append_known h (text_of outcome)) lines ∙ append_known-append old deed.trace.lines (text_of outcome)))

pub runs_short : (request : Option Request) (told : Told) (deed : Deed) (old mid new : Option (List ℕ)) (outcome : Outcome) → DecidesAll request told deed old mid (Some outcome)
    → (n : ℕ) × (new ≡ append_known mid (take n (text_of outcome))) → Runs request told deed 4 old new
runs_short request told deed old mid new outcome (means, lines) (n, front) =
    inr (inl (refl, (outcome, means, (n, front ∙ (ap (λ h. append_known h (take n (text_of outcome))) lines ∙ append_known-append old deed.trace.lines (take n (text_of outcome)))))))

pub runs_off : (request : Option Request) (told : Told) (deed : Deed) (old new : Option (List ℕ)) → DecidesAll request told deed old new None → Runs request told deed 4 old new
runs_off request told deed old new (piece, printing, cut) = inr (inr (refl, (piece, printing, cut)))
