-- From what the verifier says of a reply to what follows on it.
use Rattle.std.proofs.Common.{ℕ, ◌≡◌, refl, sym, ◌∙◌, ap, subst, length, true}
use Rattle.std.specs.Prelude.{Some}
use Rattle.blic_draw.specs.DrawRun.{DrawsOf}
use Rattle.blic_messages.specs.Replies.{Said, Answer, Polys, Values, Refused, said}
use Rattle.blic_messages.specs.declared.reply.Reply.{Reply}
use Rattle.blic_messages.specs.declared.reply.Reply.TheVariants.{Answer as AnswerReply, Polys as PolysReply, Values as ValuesReply, Refused as RefusedReply}
use Rattle.blic_messages.specs.declared.ask.Ask.{Ask}
use Rattle.blic_messages.specs.declared.reply.Refusal.{Refusal}
use Rattle.blic_verifier.specs.Placed.{IsFollowed}
use Rattle.blic_verifier.specs.Conversation.{Instance, Awaits, go_on, read_on}
use Rattle.blic_verifier.specs.Standing.{Verifying, StandsFor}
use Rattle.blic_verifier.specs.Verdict.{Talk, Verdict, Draw, Go, Done, Rejected, WrongKind, WrongCount, next_of, is_in_turn, next_after, with_reply}
use Rattle.blic_verifier.specs.declared.asker.Following.{Following}
use Rattle.blic_verifier.specs.declared.next.Next.{Next}
use Rattle.blic_verifier.specs.declared.next.Next.TheVariants as next

-- `Over` says no verdict
pub never_over : (y : Verdict) → next_of y ≡ next.Over → ⊥
never_over Draw e = cc e
never_over Go e = cc e
never_over (Done b) e = cc e
never_over (Rejected place) e = cc e
never_over (WrongKind turn) e = cc e
never_over (WrongCount turn want got) e = cc e

-- what is said says one verdict
pub verdict_is : (y z : Verdict) → next_of y ≡ next_of z → y ≡ z
verdict_is y z e = sym (back_is y) ∙ (ap back e ∙ back_is z)
  where
    back : Next → Verdict
    back next.Draw = Draw
    back next.Go = Go
    back (next.Done b) = Done b
    back (next.Rejected place) = Rejected place
    back (next.WrongKind turn) = WrongKind turn
    back (next.WrongCount turn want got) = WrongCount turn want got
    back next.Over = Go

    back_is : (y : Verdict) → back (next_of y) ≡ y
    back_is Draw = refl
    back_is Go = refl
    back_is (Done b) = refl
    back_is (Rejected place) = refl
    back_is (WrongKind turn) = refl
    back_is (WrongCount turn want got) = refl

-- what a reply says is a refusal where the reply is one
pub no_refusal : (reply : Reply) → ((r : Refusal) → reply ≡ RefusedReply r → ⊥) → (r : Refusal) → said reply ≡ Refused r → ⊥
no_refusal (AnswerReply b) none r e = cc e
no_refusal (PolysReply ps) none r e = cc e
no_refusal (ValuesReply u w) none r e = cc e
no_refusal (RefusedReply q) none r e = none q refl

read_said : (x : Instance) (draw : ℕ → ℕ) (ask : Ask) (t : Talk) (n : ℕ) (s : Said) → ((r : Refusal) → s ≡ Refused r → ⊥)
    → read_on x draw (Awaits ask t n) (Some s) ≡ go_on draw (with_reply t s) n (next_after x.circuit.nodes (length x.circuit.order) t s)
read_said x draw ask t n (Answer b) none = refl
read_said x draw ask t n (Polys ps) none = refl
read_said x draw ask t n (Values u w) none = refl
read_said x draw ask t n (Refused r) none = absurd (none r refl)

-- what follows on what the verifier said follows on the reply, which is no refusal
pub followed : (x : Instance) (v w u : Verifying) (draw : ℕ → ℕ) (d : DrawsOf) (place : ℕ) (s : Said) (next : Next) (result : Following) → ((r : Refusal) → s ≡ Refused r → ⊥)
    → ((t : Talk) → StandsFor v t → next ≡ next_of (next_after x.circuit.nodes (length x.circuit.order) t s))
    → ((t : Talk) → StandsFor v t → is_in_turn next ≡ true → StandsFor w (with_reply t s))
    → ((y : Verdict) → next ≡ next_of y → (t : Talk) → (is_in_turn next ≡ true → StandsFor w t) → IsFollowed u d (go_on draw t place y) result)
    → (ask : Ask) (t : Talk) → StandsFor v t → IsFollowed u d (read_on x draw (Awaits ask t place) (Some s)) result
followed x v w u draw d place s next result none says taken follows ask t stands =
    subst (λ p. IsFollowed u d p result) (sym (read_said x draw ask t place s none))
    (follows (next_after x.circuit.nodes (length x.circuit.order) t s) (says t stands) (with_reply t s) (taken t stands))
