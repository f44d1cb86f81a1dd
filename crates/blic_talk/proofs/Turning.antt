-- A turn: an ask and its reply.
use Rattle.std.proofs.Common.{ℕ, ◌≡◌, ◌<◌, sym, ◌∙◌, ap, subst, cond, List, [], ◌∷◌, ◌++◌, take, Bool, true, append_assoc}
use Rattle.std.specs.Prelude.{Option, Some, None}
use Rattle.std.specs.Io.KnownBytes.{append_known}
use Rattle.blic_field.specs.Field.{modulus}
use Rattle.blic_basic.specs.Watching.{Adds}
use Rattle.blic_draw.specs.DrawRun.{draw_from}
use Rattle.blic_draw.proofs.Elements.{element_drawn}
use Rattle.blic_print.specs.Printing.{talk_text}
use Rattle.blic_model.specs.Circuit.{OrderedCircuit}
use Rattle.blic_claims.specs.Turns.{Reply, reply_by}
use Rattle.blic_claims.specs.Turns.{Polys as PolysReply, Values as ValuesReply}
use Rattle.blic_messages.specs.Frames.{reply_spelling}
use Rattle.blic_messages.specs.Replies.{Said, Answer, Polys, Values, Refused}
use Rattle.blic_messages.specs.declared.ask.Hello.{Hello as HelloOf}
use Rattle.blic_messages.specs.declared.ask.Ask.{Ask}
use Rattle.blic_messages.specs.declared.reply.Refusal.{Refusal}
use Rattle.blic_prover.specs.Standing.{ServesFor}
use Rattle.blic_verifier.specs.Asking.{IsOpen, IsSaidAt, replies_in}
use Rattle.blic_verifier.specs.Asking.{IsAt as AskerIsAt}
use Rattle.blic_verifier.specs.Verdict.{Talk, Silent, Talked}
use Rattle.blic_verifier.specs.Conversation.{Instance, Position, Awaits, honest_reply, read_on}
use Rattle.blic_verifier.specs.declared.asker.Following.{Following}
use Rattle.blic_verifier.specs.declared.asker.Following.TheVariants.{Asks, Ends}
use Rattle.blic_verifier.specs.declared.ending.Ending.TheVariants.{Certified, Rejected, WrongKind, WrongCount, ServerRefused, NotFrame}
use Rattle.blic_talk.specs.Wire.{IsCarried, Shows, spoken_at}
use Rattle.blic_talk.specs.Talking.{ArePrinted, IsAt, IsLed, StandsNext, position_of, turn_text}
use Rattle.blic_talk.specs.declared.machines.Machines.{Machines}
use Rattle.blic_talk.proofs.Following.{StandsAfter, about, next_stands}
use Rattle.blic_talk.proofs.Replying.{no_refusal_by}

said_no_refusal : (x : Reply) (r : Refusal) → reply_by Polys Values x ≡ Refused r → ⊥
said_no_refusal (PolysReply ps) r e = cc e
said_no_refusal (ValuesReply u w) r e = cc e

honest_no_refusal : (x : Instance) (t : Talk) (r : Refusal) → honest_reply x t ≡ Refused r → ⊥
honest_no_refusal x Silent r e = cc e
honest_no_refusal x (Talked b draws replies) r e = said_no_refusal _ r e

-- a carried reply is no refusal
pub no_refusal : (x : Instance) (t : Talk) (alters : Bool) (came : List ℕ) → IsCarried alters (reply_spelling (honest_reply x t)) came
    → (r : Refusal) → came ≡ reply_spelling (Refused r) → ⊥
no_refusal x t alters came carried r is = no_refusal_by came (honest_reply x t) r (honest_no_refusal x t) carried.0 is

-- it is about what the machines are about
pub carried_about : (x : Machines) (t : Talk) (alters altered : Bool) (came : List ℕ) → x.circuit.now ≡ x.asker.about.circuit → altered ≡ alters
    → ((h : HelloOf) → IsCarried altered (reply_spelling (honest_reply (about x.circuit.now h) t)) came) → IsCarried alters (reply_spelling (honest_reply x.asker.about t)) came
carried_about x t alters altered came same is carried =
    subst (λ b. IsCarried b (reply_spelling (honest_reply x.asker.about t)) came) is
    (subst (λ z. IsCarried altered (reply_spelling (honest_reply (about z x.asker.about.hello) t)) came) same (carried x.asker.about.hello))

-- a watch saw two frames
pub shows_two : (old mid new : Option (List (List ℕ))) (x y : List ℕ) → Adds old mid x → Adds mid new y → Shows old new (x ∷ y ∷ [])
shows_two old mid None x y first second = tt
shows_two old None (Some now) x y first second = absurd second
shows_two None (Some held) (Some now) x y first second = absurd first
shows_two (Some before) (Some held) (Some now) x y first second = second ∙ (ap (λ z. z ++ y ∷ []) first ∙ append_assoc before (x ∷ []) (y ∷ []))

-- how it goes on, by what the frame says
pub read_stands : (c : OrderedCircuit) (h : HelloOf) (draw : ℕ → ℕ) → ((n : ℕ) → draw n < modulus) → (asks : List Ask) (ask asked : Ask) (t u : Talk) (says : Option Said) (n m : ℕ)
    → StandsNext c h asks ask t → IsOpen c t n → read_on (about c h) draw (Awaits ask t n) says ≡ Awaits asked u m → StandsAfter c h (asks ++ ask ∷ []) asked u m (replies_in t)
read_stands c h draw elements asks ask asked t u None n m stands is_open e = absurd (cc e)
read_stands c h draw elements asks ask asked t u (Some (Refused r)) n m stands is_open e = absurd (cc e)
read_stands c h draw elements asks ask asked t u (Some (Answer b)) n m stands is_open e = next_stands c h draw elements asks ask asked t u (Answer b) n m stands is_open e
read_stands c h draw elements asks ask asked t u (Some (Polys ps)) n m stands is_open e = next_stands c h draw elements asks ask asked t u (Polys ps) n m stands is_open e
read_stands c h draw elements asks ask asked t u (Some (Values v w)) n m stands is_open e = next_stands c h draw elements asks ask asked t u (Values v w) n m stands is_open e

-- the position after an ask and its reply
pub led : (x y : Machines) (asks : List Ask) (ask : Ask) (t : Talk) (says : Option Said) (result : Following) → x.prover.circuit ≡ x.asker.about.circuit → x.prover.served ≡ x.asker.about.hello
    → y.prover.circuit ≡ x.asker.about.circuit → y.prover.served ≡ x.asker.about.hello → IsAt x asks ask t → ServesFor y.prover (asks ++ ask ∷ [])
    → AskerIsAt y.asker (position_of x ask t says) → IsSaidAt result (position_of x ask t says) → IsLed y asks ask t (position_of x ask t says) result
led x y asks ask t says (Asks next) xc xh yc yh at stands here (u, m, is) =
    let c = x.asker.about.circuit in
    let h = x.asker.about.hello in
    let now : StandsNext c h asks ask t = subst (λ z. StandsNext z h asks ask t) xc (subst (λ z. StandsNext x.prover.circuit z asks ask t) xh at.asked.next) in
    let there : AskerIsAt y.asker (Awaits next u m) = subst (AskerIsAt y.asker) is here in
    let place : m ≡ y.asker.draws.place = sym there.1 in
    let after = read_stands c h (draw_from x.asker.draws.source) (element_drawn x.asker.draws.source) asks ask next t u says x.asker.draws.place m now (subst (λ z. IsOpen z t x.asker.draws.place) xc at.asked.left) is in (
      u,
      is ∙ ap (Awaits next u) place,
      record {
        asked = record {
          stands = stands;
          next = subst (λ z. StandsNext y.prover.circuit z (asks ++ ask ∷ []) next u) (sym yh) (subst (λ z. StandsNext z h (asks ++ ask ∷ []) next u) (sym yc) after.0);
          left = subst (λ z. IsOpen z u y.asker.draws.place) (sym yc) (subst (IsOpen c u) place after.1);
        };
        at = subst (λ n. AskerIsAt y.asker (Awaits next u n)) place there;
      },
      after.2,
    )
led x y asks ask t says (Ends e) xc xh yc yh at stands here tells = tells

-- what is printed of a turn is the lines of its frames, by where it led to
told_text : (p : Position) (result : Following) (a b : List ℕ) → IsSaidAt result p → turn_text result a b ≡ talk_text (spoken_at p (a ∷ b ∷ []))
told_text p (Asks next) a b (t, n, is) = ap (λ z. talk_text (spoken_at z (a ∷ b ∷ []))) (sym is)
told_text p (Ends (Certified answer)) a b (t, is) = ap (λ z. talk_text (spoken_at z (a ∷ b ∷ []))) (sym is)
told_text p (Ends (Rejected place)) a b (t, is) = ap (λ z. talk_text (spoken_at z (a ∷ b ∷ []))) (sym is)
told_text p (Ends (WrongKind turn)) a b (t, is) = ap (λ z. talk_text (spoken_at z (a ∷ b ∷ []))) (sym is)
told_text p (Ends (WrongCount turn want got)) a b (t, is) = ap (λ z. talk_text (spoken_at z (a ∷ b ∷ []))) (sym is)
told_text p (Ends (ServerRefused r)) a b (t, is) = ap (λ z. talk_text (spoken_at z (a ∷ b ∷ []))) (sym is)
told_text p (Ends NotFrame) a b (t, is) = ap (λ z. talk_text (spoken_at z (a ∷ b ∷ []))) (sym is)

pub step_text : (p : Position) (result : Following) (talked talk : Bool) (asked ask came reply : List ℕ) → IsSaidAt result p → talked ≡ talk → asked ≡ ask → came ≡ reply
    → cond talked (turn_text result asked came) [] ≡ cond talk (talk_text (spoken_at p (ask ∷ reply ∷ []))) []
step_text p result talked talk asked ask came reply tells talks asks comes =
    ap (λ z. cond z (turn_text result asked came) []) talks
    ∙ (ap (λ z. cond talk (turn_text result z came) []) asks
    ∙ (ap (λ z. cond talk (turn_text result ask z) []) comes
    ∙ ap (λ z. cond talk z []) (told_text p result ask reply tells)))

-- a prefix of the lines
pub front_printed : (old new : Option (List ℕ)) (talk : Bool) (text shown : List ℕ) → shown ≡ cond talk text [] → talk ≡ true → (n : ℕ) × (new ≡ append_known old (take n shown))
    → ArePrinted old new talk text None
front_printed old new talk text shown is talks (n, front) = (talks, (n, front ∙ ap (λ z. append_known old (take n z)) (is ∙ ap (λ z. cond z text []) talks)))
