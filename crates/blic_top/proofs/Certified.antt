-- What a conversation in one process comes to.
use Rattle.std.proofs.Common.{ℕ, ◌≡◌, ◌∙◌, ◌+◌, ◌*◌, refl, ap, subst, List, [], cond, Bool, false}
use Rattle.std.specs.Prelude.{Option, Some, None}
use Rattle.blic_model.specs.Value.{RootIs}
use Rattle.blic_client.specs.Linked.{IsSound}
use Rattle.blic_client.specs.declared.verdict.Verdict.{Verdict}
use Rattle.blic_client.specs.declared.verdict.Verdict.TheVariants as verdicts
use Rattle.blic_verifier.specs.Accepting.{IsWorth}
use Rattle.blic_verifier.specs.Certified.{CertifiedIsWorth}
use Rattle.blic_verifier.specs.Verdict.{Talk}
use Rattle.blic_verifier.specs.Conversation.{Instance, Ended, beginning}
use Rattle.blic_verifier.specs.declared.ending.Ending.{Ending}
use Rattle.blic_verifier.specs.declared.ending.Ending.TheVariants.{Certified as CertifiedEnd, Rejected as RejectedEnd, WrongKind as WrongKindEnd, WrongCount as WrongCountEnd, NotFrame as NotFrameEnd, ServerRefused as RefusedEnd}
use Rattle.blic_draw.specs.DrawRun.{Source, draw_from}
use Rattle.blic_input.specs.Problem.{Problem, hello_by, instance_of}
use Rattle.blic_talk.specs.Wire.{IsConversation, IsStepping, Leads, Shows, spoken}
use Rattle.blic_talk.specs.Holding.{Conversing, IsTalk}
use Rattle.blic_print.specs.Printing.{talk_text}
use Rattle.blic_top.specs.Conversing.{InProcess, Steps, shown}
use Rattle.blic_top.specs.Deed.{Trace}
use Rattle.blic_top.specs.Series.{draws_about, draws_of}
use Rattle.blic_top.specs.Turning.{IsSeen, IsTurn}
use Rattle.blic_draw.proofs.Elements.{element_drawn}
use Rattle.blic_talk.proofs.Honesty.{HasLaws, all_readings, honest_end, honest_truth}

-- an unaltered one ends with the truth
pub ends_true : (p : Problem) → HasLaws p.circuit → RootIs p.circuit p.truth → (source : Source) (frames : List (List ℕ)) (e : Ending) (t : Talk) (alters : Bool) → alters ≡ false
    → IsConversation (instance_of p) (draw_from source) alters frames e t → e ≡ CertifiedEnd p.truth
ends_true p laws root source frames e t alters honest (way, leads, is) =
    honest_end p.circuit laws (hello_by p) (draw_from source) (element_drawn source) way e t
    (subst (λ b. Leads (instance_of p) (draw_from source) b (beginning (instance_of p)) way (Ended e t)) honest leads)
    ∙ ap CertifiedEnd (honest_truth p.circuit p.truth root)

-- what an accepted answer is worth, by the frames alone
pub worth_of : (p : Problem) → HasLaws p.circuit → CertifiedIsWorth → (source : Source) (frames : List (List ℕ)) (b : Bool) (t : Talk) (alters : Bool)
    → IsConversation (instance_of p) (draw_from source) alters frames (CertifiedEnd b) t → IsWorth p.circuit b t
worth_of p laws law source frames b t alters (way, leads, is) =
    let read = all_readings (instance_of p) (draw_from source) alters (beginning (instance_of p)) way (Ended (CertifiedEnd b) t) leads in
    (law (instance_of p) laws.shaped (draw_from source) (element_drawn source) read.0 read.1 b t read.2).1

-- the conversation was about the problem
pub about_it : (p : Problem) (x : Conversing) (source : Source) (alters : Bool) (frames : List (List ℕ)) (e : Ending) (t : Talk) → x.about ≡ instance_of p
    → IsConversation (x.about) (draw_from source) alters frames e t → IsConversation (instance_of p) (draw_from source) alters frames e t
about_it p x source alters frames e t same is = subst (λ (z : Instance). IsConversation z (draw_from source) alters frames e t) same is

-- an accepted answer is worth that, and nothing is said of another ending
sound_so : (p : Problem) → HasLaws p.circuit → CertifiedIsWorth → (source : Source) (frames : List (List ℕ)) (e : Ending) (t : Talk) (alters : Bool)
    → IsConversation (instance_of p) (draw_from source) alters frames e t → IsSound (instance_of p) e t
sound_so p laws law source frames (CertifiedEnd b) t alters is = worth_of p laws law source frames b t alters is
sound_so p laws law source frames (RejectedEnd place) t alters is = tt
sound_so p laws law source frames (WrongKindEnd turn) t alters is = tt
sound_so p laws law source frames (WrongCountEnd turn want got) t alters is = tt
sound_so p laws law source frames NotFrameEnd t alters is = tt
sound_so p laws law source frames (RefusedEnd refusal) t alters is = tt

-- conversation number k ended so
pub turn_ended : (p : Problem) (x : Conversing) (seed : List ℕ) (first k : ℕ) (alters : Bool) (seen seen_now : Option (List (List ℕ))) (frames : List (List ℕ)) (old new : Option (List ℕ)) (e : Ending)
    → HasLaws p.circuit → CertifiedIsWorth → RootIs p.circuit p.truth → x.about ≡ instance_of p → Shows seen seen_now frames
    → IsTalk x (draws_of p seed first k) alters frames old new (Some e)
    → (trace : Trace) × IsSeen seen seen_now trace × IsTurn (InProcess p (draws_of p seed first) alters x.talk) (Steps p (draws_of p seed first) alters x.talk) k trace old new (verdicts.Ended e)
turn_ended p x seed first k alters seen seen_now frames old new e laws law root same shows (t, conversed, lines) =
    let source : Source = record { seed = seed; first = first + k * draws_about p } in
    let about : IsConversation (instance_of p) (draw_from source) alters frames e t = about_it p x source alters frames e t same conversed in (
      shown frames (cond x.talk (talk_text (spoken e frames)) []),
      (shows, refl, refl),
      (
        (
          frames,
          record {
            talk = t;
            conversed = about;
            root = root;
            sound = sound_so p laws law source frames e t alters about;
            truly = λ honest. ends_true p laws root source frames e t alters honest about;
          },
          refl,
        ),
        lines,
      ),
    )

-- a line of conversation number k could not be printed
pub turn_broken : (p : Problem) (x : Conversing) (seed : List ℕ) (first k : ℕ) (alters : Bool) (seen seen_now : Option (List (List ℕ))) (frames : List (List ℕ)) (old new : Option (List ℕ))
    → x.about ≡ instance_of p → Shows seen seen_now frames → IsTalk x (draws_of p seed first k) alters frames old new None
    → (trace : Trace) × IsSeen seen seen_now trace × IsTurn (InProcess p (draws_of p seed first) alters x.talk) (Steps p (draws_of p seed first) alters x.talk) k trace old new verdicts.WriteFault
turn_broken p x seed first k alters seen seen_now frames old new same shows (talking, (lines, piece, stepping, n, front)) = (
  shown frames lines,
  (shows, refl, refl),
  (
    piece,
    (frames, lines, talking, subst (λ (z : Instance). IsStepping z (draws_of p seed first k) alters frames lines piece) same stepping, refl),
    (n, front),
  ),
)

-- the turn of a watch and a conversation that are as before
pub same_turn : (p : Problem) (draws : ℕ → ℕ → ℕ) (alters altered talk talking : Bool) (k : ℕ) (trace : Trace) (old new : Option (List ℕ)) (v : Verdict) → altered ≡ alters → talking ≡ talk
    → IsTurn (InProcess p draws altered talking) (Steps p draws altered talking) k trace old new v → IsTurn (InProcess p draws alters talk) (Steps p draws alters talk) k trace old new v
same_turn p draws alters altered talk talking k trace old new v same still turn =
    subst (λ b. IsTurn (InProcess p draws alters b) (Steps p draws alters b) k trace old new v) still
    (subst (λ a. IsTurn (InProcess p draws a talking) (Steps p draws a talking) k trace old new v) same turn)
