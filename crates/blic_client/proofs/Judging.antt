-- What a decoder reads, and what an asker makes of it.
use Rattle.std.proofs.Common.{ℕ, suc, ◌≡◌, refl, sym, ◌∙◌, ap, subst, List, length, Bor}
use Rattle.std.specs.Prelude.{Option, Some, None, option_map, IfSome, Err}
use Rattle.std.specs.Option.{option_copied}
use Rattle.blic_inbox.specs.Listening.{IsDecided}
use Rattle.blic_model.specs.Circuit.{OrderedCircuit}
use Rattle.blic_messages.specs.Decoding.{Decoding, frame_at}
use Rattle.blic_messages.specs.FrontLaws.{AreBytes}
use Rattle.blic_messages.specs.Fronts.{reply_grammar}
use Rattle.blic_messages.specs.Grammar.{Front, Whole, Broken, Partial, front}
use Rattle.blic_messages.specs.Reading.{IsReply}
use Rattle.blic_messages.specs.Replies.{Said, Answer, Polys, Values, Refused, said}
use Rattle.blic_messages.specs.declared.ask.Ask.{Ask}
use Rattle.blic_messages.specs.declared.reply.Reply.{Reply}
use Rattle.blic_verifier.specs.Asking.{replies_in}
use Rattle.blic_verifier.specs.Conversation.{Instance, Awaits, go_on, read_on}
use Rattle.blic_verifier.specs.Verdict.{Talk, Verdict, next_after, with_draw, with_reply}
use Rattle.blic_verifier.specs.Verdict as verdicts
use Rattle.blic_verifier.proofs.GoingOn.{Came, came, goes_on}
use Rattle.blic_client.specs.UnderWay.{IsHearing, IsPrinted, IsReading, reply_line}
use Rattle.blic_client.specs.declared.machine.Machine.{Machine}
use Rattle.blic_client.specs.declared.verdict.Verdict.{Verdict as Ending}
use Rattle.blic_client.specs.declared.verdict.Verdict.TheVariants as endings
use Rattle.blic_client.proofs.Way.{is_reply}

lent : (r : Option (Bor Reply)) → option_map (λ r. said r.now) r ≡ option_map said (option_copied r)
lent None = refl
lent (Some r) = refl

-- the reply that is lent is the decoder's
pub lent_reading : (r : Option (Bor Reply)) (v : Option Reply) (d : Decoding Said) → option_copied r ≡ v → option_map said v ≡ frame_at d → option_map (λ r. said r.now) r ≡ frame_at d
lent_reading r v d is frame = lent r ∙ (ap (option_map said) is ∙ frame)

decided_reading : (bytes rest : List ℕ) (d : Decoding Said) → IsDecided (front reply_grammar bytes) bytes d rest → IsReading (frame_at d) bytes rest
decided_reading bytes rest d decided = by_front (front reply_grammar bytes) refl decided
  where
    by_front : (f : Front Said) → front reply_grammar bytes ≡ f → IsDecided f bytes d rest → IsReading (frame_at d) bytes rest
    by_front (Whole s n) e (is, left) = subst (λ z. IsReading (frame_at z) bytes rest) (sym is) (n, e, left)
    by_front Broken e is = subst (λ z. IsReading (frame_at z) bytes rest) (sym is) e
    by_front Partial e none = absurd none

pub reading_is : (r : Option Said) (bytes rest : List ℕ) (d : Decoding Said) → r ≡ frame_at d → IsDecided (front reply_grammar bytes) bytes d rest → IsReading r bytes rest
reading_is r bytes rest d is decided = subst (λ z. IsReading z bytes rest) (sym is) (decided_reading bytes rest d decided)

pub reading_reply : (r : Option Said) (bytes rest : List ℕ) (d : Decoding Said) → r ≡ frame_at d → IsDecided (front reply_grammar bytes) bytes d rest → AreBytes bytes → IfSome r IsReply
reading_reply r bytes rest d is decided are = is_reply r bytes rest are (reading_is r bytes rest d is decided)

-- the line of the reply couldn't be printed
pub unprinted : (m new : Machine) (bytes rest : List ℕ) (r : Option Said) (v : Ending) (coming held held_now : Option (List ℕ)) → IsReading r bytes rest → IsPrinted m.talk (reply_line r) (Err v) held held_now
    → IsHearing m new bytes coming held held_now (Err v)
unprinted m new bytes rest r (endings.Ended e) coming held held_now reading printed = absurd printed
unprinted m new bytes rest r endings.Cut coming held held_now reading printed = absurd printed
unprinted m new bytes rest r endings.LinkFault coming held held_now reading printed = absurd printed
unprinted m new bytes rest r endings.WriteFault coming held held_now reading (talks, (k, part)) = (talks, r, rest, reading, k, part)

-- ---- replies are counted

counts_on : (c : OrderedCircuit) (draw : ℕ → ℕ) (next : Ask) (t u : Talk) (s : Said) (n m : ℕ) → go_on draw (with_reply t s) n (next_after c.nodes (length c.order) t s) ≡ Awaits next u m
    → replies_in u ≡ suc (replies_in t)
counts_on c draw next t u s n m e = from (next_after c.nodes (length c.order) t s) refl e
  where
    from : (y : Verdict) → next_after c.nodes (length c.order) t s ≡ y → go_on draw (with_reply t s) n y ≡ Awaits next u m → replies_in u ≡ suc (replies_in t)
    from verdicts.Draw is e =
        let so = subst (Came c t (with_reply t s)) is (came c t s (ap goes_on is)) in
        let talk_is : with_draw (with_reply t s) (draw n) ≡ u = cc in
        ap replies_in (sym talk_is) ∙ (ap (λ z. replies_in (with_draw z (draw n))) so.2 ∙ ap suc so.3)
    from verdicts.Go is e =
        let so = subst (Came c t (with_reply t s)) is (came c t s (ap goes_on is)) in
        let talk_is : with_reply t s ≡ u = cc in
        ap replies_in (sym talk_is) ∙ (ap replies_in so.2 ∙ ap suc so.3)
    from (verdicts.Done b) is e = absurd (cc e)
    from (verdicts.Rejected place) is e = absurd (cc e)
    from (verdicts.WrongKind turn) is e = absurd (cc e)
    from (verdicts.WrongCount turn want got) is e = absurd (cc e)

pub one_reply_more : (x : Instance) (draw : ℕ → ℕ) (ask next : Ask) (t u : Talk) (r : Option Said) (n m : ℕ) → read_on x draw (Awaits ask t n) r ≡ Awaits next u m → replies_in u ≡ suc (replies_in t)
one_reply_more x draw ask next t u None n m e = absurd (cc e)
one_reply_more x draw ask next t u (Some (Refused r)) n m e = absurd (cc e)
one_reply_more x draw ask next t u (Some (Answer b)) n m e = counts_on x.circuit draw next t u (Answer b) n m e
one_reply_more x draw ask next t u (Some (Polys ps)) n m e = counts_on x.circuit draw next t u (Polys ps) n m e
one_reply_more x draw ask next t u (Some (Values v w)) n m e = counts_on x.circuit draw next t u (Values v w) n m e
