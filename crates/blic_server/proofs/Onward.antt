-- A session over a link, turn by turn.
use Rattle.std.proofs.Common.{arith, ℕ, suc, ◌≡◌, ◌≢◌, ◌+◌, ◌<◌, ◌≤◌, refl, sym, ◌∙◌, ap, subst, List, [], ◌∷◌, ◌++◌, length, drop, true, false, inl, inr, append_assoc, append-nil}
use Rattle.std.specs.Prelude.{Bool, Option, Some, None, IsTrue, ◌==◌, ◌⊎◌, cond, not, filter, fold}
use Rattle.std.proofs.lemmas.Bool.{cond-true, eq-eqb}
use Rattle.std.proofs.lemmas.Grind.{flat_map-append}
use Rattle.std.proofs.lemmas.List.{length-append}
use Rattle.std.proofs.lemmas.List.Concat.{flat_map-cons}
use Rattle.std.proofs.lemmas.List.Elements.{filter-append}
use Rattle.std.proofs.lemmas.List.Sums.{fold-append}
use Rattle.blic_link.specs.Pace.{Begins, KeepsPace}
use Rattle.blic_link.specs.Passing.{Piece, Came, Went, got, sent_bytes, with_pieces}
use Rattle.blic_link.specs.Sending.{all_sent}
use Rattle.blic_link.proofs.Joined.{got-append, got-all_sent, sent_bytes-append, with_none, with_pieces-append}
use Rattle.blic_link.proofs.Paces.{receiving, sending_all}
use Rattle.blic_model.specs.Circuit.{OrderedCircuit}
use Rattle.blic_claims.specs.Turns.{turns, wants_draw_after}
use Rattle.blic_messages.specs.Frames.{reply_spelling}
use Rattle.blic_messages.specs.Fronts.{ask_grammar}
use Rattle.blic_messages.specs.Grammar.{Whole, Partial, front}
use Rattle.blic_messages.specs.Replies.{Said}
use Rattle.blic_messages.specs.declared.ask.Ask.{Ask}
use Rattle.blic_messages.specs.declared.ask.Ask.TheVariants as asks
use Rattle.blic_messages.specs.declared.ask.Hello.{Hello as HelloOf}
use Rattle.blic_inbox.specs.Listening.{Listens}
use Rattle.blic_prover.specs.Honest.{Progress, Waiting, Running, Over, Move, Replied, move_at, progress, progress_with, reply_at, same_hello}
use Rattle.blic_prover.specs.Honest as moves
use Rattle.blic_prover.specs.Standing.{Proving, ServesFor}
use Rattle.blic_server.specs.Sent.{Session, answered, is_answer, sent_for, session, session_at, session_from, spelled}
use Rattle.blic_server.specs.Serving.{IsEnding, IsServed, sent_whole}
use Rattle.blic_server.specs.Streams.{Stream, stream, tail_of, with_ask}
use Rattle.blic_server.specs.UnderWay.{IsAnswered, IsOver, IsTurn}
use Rattle.blic_server.specs.declared.served.Ended.{Ended}
use Rattle.blic_server.specs.declared.served.Ended.TheVariants as endings
use Rattle.blic_server.proofs.Reading.{whole_stays}
use Rattle.blic_server.proofs.Replying.{AreReplies, after, replies_more, replies_split, sent_after, sent_grows}
use Rattle.blic_server.proofs.Turning.{over_partial, over_whole, session_over}

-- these asks, and a stream behind them
abbrev pub behind : List Ask → Stream → Stream
behind done s = record { asks = done ++ s.asks; tail = s.tail }

-- so many asks were answered: the first by the answer, the others by turns
abbrev pub IsCount : OrderedCircuit → Progress → ℕ → Type 0
IsCount c Waiting n = n ≡ 0
IsCount c (Running t draws) n = (n ≡ suc t) × (t ≤ length (turns c.nodes (length c.order)))
IsCount c Over n = ⊥

-- these asks got these replies, which were sent, and of what came these bytes weren't read yet
pub record IsAt (c : OrderedCircuit) (h : HelloOf) (pieces : List Piece) (done : List Ask) (said : List Said) (inbox : List ℕ) : Type 0 where
  pub replies : AreReplies c h Waiting done said (progress c h done)
  pub reads : (more : List ℕ) → stream (got pieces ++ more) ≡ behind done (stream (inbox ++ more))
  pub sent : sent_bytes pieces ≡ spelled said
  pub pace : KeepsPace (sent_for c h) pieces

pub session_is : (c : OrderedCircuit) (h : HelloOf) (pieces : List Piece) (done : List Ask) (said : List Said) (inbox : List ℕ) → IsAt c h pieces done said inbox
    → session c h (got pieces) ≡ after said (session_over c h (progress c h done) inbox)
session_is c h pieces done said inbox at =
    let read : stream (got pieces) ≡ behind done (stream inbox) = ap stream (sym (append-nil (got pieces))) ∙ (at.reads [] ∙ ap (λ z. behind done (stream z)) (append-nil inbox)) in
    ap (λ s. session_from c h Waiting s.asks s.tail) read
    ∙ replies_split c h Waiting done said (progress c h done) (stream inbox).asks (stream inbox).tail at.replies

spelled_more : (a b : List Said) → spelled (a ++ b) ≡ spelled a ++ spelled b
spelled_more a b = flat_map-append reply_spelling a b

said_at : (bytes : List ℕ) → (session_at (tail_of bytes)).said ≡ []
said_at [] = refl
said_at (b ∷ bytes) = refl

-- while an ask is awaited all that is wanted was sent
all_was_sent : (c : OrderedCircuit) (h : HelloOf) (pieces : List Piece) (done : List Ask) (said : List Said) (inbox : List ℕ) → IsAt c h pieces done said inbox → front ask_grammar inbox ≡ Partial
    → sent_bytes pieces ≡ sent_for c h (got pieces)
all_was_sent c h pieces done said inbox at partial =
    at.sent
    ∙ (ap spelled (sym (append-nil said) ∙ ap (λ z. said ++ z) (sym (ap (λ s. s.said) (over_partial c h (progress c h done) inbox partial) ∙ said_at inbox)))
    ∙ sym (ap (λ s. spelled s.said) (session_is c h pieces done said inbox at)))

-- pieces came
pub listened : (c : OrderedCircuit) (h : HelloOf) (pieces new : List Piece) (done : List Ask) (said : List Said) (inbox : List ℕ) → IsAt c h pieces done said inbox → Listens ask_grammar inbox new
    → IsAt c h (pieces ++ new) done said (inbox ++ got new)
listened c h pieces [] done said inbox at l =
    subst (λ z. IsAt c h z done said (inbox ++ [])) (sym (append-nil pieces)) (subst (λ z. IsAt c h pieces done said z) (sym (append-nil inbox)) at)
listened c h pieces (Went b ∷ new) done said inbox at l = absurd l
listened c h pieces (Came b ∷ new) done said inbox at l =
    let mid : List Piece = pieces ++ Came b ∷ [] in
    let came : got mid ≡ got pieces ++ b = got-append pieces (Came b ∷ []) ∙ ap (λ z. got pieces ++ z) (append-nil b) in
    let next : IsAt c h mid done said (inbox ++ b) = record {
      replies = at.replies;
      reads = λ more. ap (λ z. stream (z ++ more)) came ∙ (ap stream (append_assoc (got pieces) b more) ∙ (at.reads (b ++ more) ∙ ap (λ z. behind done (stream z)) (sym (append_assoc inbox b more))));
      sent = sent_bytes-append pieces (Came b ∷ []) ∙ (append-nil (sent_bytes pieces) ∙ at.sent);
      pace = receiving (sent_for c h) pieces b (sent_grows c h) at.pace (all_was_sent c h pieces done said inbox at l.0);
    } in
    let later = listened c h mid new done said (inbox ++ b) next l.1 in
    subst (λ z. IsAt c h z done said (inbox ++ (b ++ got new))) (append_assoc pieces (Came b ∷ []) new)
    (subst (λ z. IsAt c h (mid ++ new) done said z) (append_assoc inbox b (got new)) later)

got_same : (pieces new : List Piece) → IsTrue (all_sent new) → got (pieces ++ new) ≡ got pieces
got_same pieces new all = got-append pieces new ∙ (ap (λ z. got pieces ++ z) (got-all_sent new all) ∙ append-nil (got pieces))

sent_more : (pieces new : List Piece) (said : List Said) → sent_bytes pieces ≡ spelled said → sent_bytes (pieces ++ new) ≡ spelled said ++ sent_bytes new
sent_more pieces new said is = sent_bytes-append pieces new ∙ ap (λ z. z ++ sent_bytes new) is

-- what is wanted next was sent, or a front of it
pace_more : (c : OrderedCircuit) (h : HelloOf) (pieces went : List Piece) (done : List Ask) (said : List Said) (inbox : List ℕ) → IsAt c h pieces done said inbox → IsTrue (all_sent went)
    → Begins (sent_bytes went) (spelled (session_over c h (progress c h done) inbox).said) → KeepsPace (sent_for c h) (pieces ++ went)
pace_more c h pieces went done said inbox at all begins =
    let s = session_over c h (progress c h done) inbox in
    let wanted : sent_for c h (got pieces) ≡ spelled said ++ spelled s.said = ap (λ z. spelled z.said) (session_is c h pieces done said inbox at) ∙ spelled_more said s.said in
    let both : sent_bytes pieces ++ sent_bytes went ≡ spelled said ++ sent_bytes went = ap (λ z. z ++ sent_bytes went) at.sent in
    sending_all (sent_for c h) pieces went at.pace all
    (begins.0, wanted ∙ (ap (λ z. spelled said ++ z) begins.1 ∙ (sym (append_assoc (spelled said) (sent_bytes went) begins.0) ∙ ap (λ z. z ++ begins.0) (sym both))))

answered_more : (a b : List Said) → answered (a ++ b) ≡ answered a + answered b
answered_more a b = ap length (filter-append is_answer a b) ∙ length-append (filter is_answer a) (filter is_answer b)

ends_after : (said : List Said) (s : Session) (sent : List ℕ) (coming : Option (List ℕ)) (e : Ended) → IsEnding s sent coming e → IsEnding (after said s) (spelled said ++ sent) coming e
ends_after said s sent coming endings.Gone (inl still) = inl still
ends_after said s sent coming endings.Gone (inr short) =
    inr (let all = ap length (spelled_more said s.said) in let one = length-append (spelled said) (spelled s.said) in let two = length-append (spelled said) sent in omega arith)
ends_after said s sent coming endings.Closed (is, all, none) = (is, ap (λ z. spelled said ++ z) all ∙ sym (spelled_more said s.said), none)
ends_after said s sent coming endings.Broken (is, all, none) = (is, ap (λ z. spelled said ++ z) all ∙ sym (spelled_more said s.said), none)
ends_after said s sent coming endings.Cut (is, all, none) = (is, ap (λ z. spelled said ++ z) all ∙ sym (spelled_more said s.said), none)
ends_after said s sent coming endings.OutOfTurn (is, all, none) = (is, ap (λ z. spelled said ++ z) all ∙ sym (spelled_more said s.said), none)
ends_after said s sent coming endings.NothingLeft (is, all, none) = (is, ap (λ z. spelled said ++ z) all ∙ sym (spelled_more said s.said), none)
ends_after said s sent coming (endings.NotServed a b) (is, all, none) = (is, ap (λ z. spelled said ++ z) all ∙ sym (spelled_more said s.said), none)

-- the session has ended
pub over : (c : OrderedCircuit) (h : HelloOf) (pieces went : List Piece) (done : List Ask) (said : List Said) (inbox : List ℕ) (coming : Option (List ℕ)) (count : ℕ) (e : Ended)
    → IsAt c h pieces done said inbox → answered said ≡ count → IsTrue (all_sent went) → IsOver (session_over c h (progress c h done) inbox) (sent_bytes went) coming e
    → IsServed c h (pieces ++ went) coming (record { asks = count; ended = e })
over c h pieces went done said inbox coming count e at is all ends =
    let s = session_over c h (progress c h done) inbox in
    let whole : session c h (got (pieces ++ went)) ≡ after said s = ap (session c h) (got_same pieces went all) ∙ session_is c h pieces done said inbox at in
    let sent : sent_bytes (pieces ++ went) ≡ spelled said ++ sent_bytes went = sent_more pieces went said at.sent in
    record {
      pace = pace_more c h pieces went done said inbox at all ends.begins;
      ended = subst (λ z. IsEnding z (sent_bytes (pieces ++ went)) coming e) (sym whole) (subst (λ z. IsEnding (after said s) z coming e) (sym sent) (ends_after said s (sent_bytes went) coming e ends.ended));
      asks = sym (ap (λ z. answered (sent_whole z.said (sent_bytes (pieces ++ went)))) whole ∙ (ap (λ z. answered (sent_whole (said ++ s.said) z)) sent
          ∙ (ap answered (sent_after said s.said (sent_bytes went)) ∙ (answered_more said (sent_whole s.said (sent_bytes went))
          ∙ (let none = ends.none in let n : answered said + answered (sent_whole s.said (sent_bytes went)) ≡ count = omega arith in n)))));
    }

pub progress_more : (c : OrderedCircuit) (h : HelloOf) (done : List Ask) (a : Ask) (m : Move) → move_at c h (progress c h done) a ≡ m → progress c h (done ++ a ∷ []) ≡ progress_with (progress c h done) a m
unfolding progress
progress_more c h done a m e = fold-append (λ p ask. progress_with p ask (move_at c h p ask)) Waiting done (a ∷ []) ∙ ap (progress_with (progress c h done) a) e

-- an ask was answered
pub answered_one : (c : OrderedCircuit) (h : HelloOf) (pieces went : List Piece) (done : List Ask) (said : List Said) (bytes : List ℕ) (a : Ask) (s : Said) (size : ℕ)
    → IsAt c h pieces done said bytes → IsTrue (all_sent went) → front ask_grammar bytes ≡ Whole a size → move_at c h (progress c h done) a ≡ Replied s → sent_bytes went ≡ reply_spelling s
    → IsAt c h (pieces ++ went) (done ++ a ∷ []) (said ++ s ∷ []) (drop size bytes)
answered_one c h pieces went done said bytes a s size at all e is went_is =
    let q = progress c h done in
    let rest : Session = session_from c h (progress_with q a (Replied s)) (stream (drop size bytes)).asks (stream (drop size bytes)).tail in
    let next : spelled (session_over c h q bytes).said ≡ reply_spelling s ++ spelled rest.said = ap (λ z. spelled z.said) (over_whole c h q bytes a size (Replied s) e is) ∙ flat_map-cons reply_spelling s rest.said in
    record {
      replies = subst (AreReplies c h Waiting (done ++ a ∷ []) (said ++ s ∷ [])) (sym (progress_more c h done a (Replied s) is)) (replies_more c h Waiting done said q a s at.replies is);
      reads = λ more. ap (λ z. stream (z ++ more)) (got_same pieces went all) ∙ (at.reads more ∙ (ap (behind done) (whole_stays bytes more a size e)
          ∙ ap (λ z. record { asks = z; tail = (stream (drop size bytes ++ more)).tail }) (sym (append_assoc done (a ∷ []) (stream (drop size bytes ++ more)).asks))));
      sent = sent_more pieces went said at.sent ∙ (ap (λ z. spelled said ++ z) (went_is ∙ sym (flat_map-cons reply_spelling s [] ∙ append-nil (reply_spelling s))) ∙ sym (spelled_more said (s ∷ [])));
      pace = pace_more c h pieces went done said bytes at all (spelled rest.said, next ∙ ap (λ z. z ++ spelled rest.said) (sym went_is));
    }

pub one_answered : (said : List Said) (s : Said) (count : ℕ) → answered said ≡ count → is_answer s ≡ true → answered (said ++ s ∷ []) ≡ count + 1
one_answered said s count is answers =
    let one : answered (s ∷ []) ≡ 1 = ap length (cond-true (is_answer s) (s ∷ []) [] answers) in
    answered_more said (s ∷ []) ∙ (let n : answered said + answered (s ∷ []) ≡ count + 1 = omega arith in n)

-- ---- how many asks are answered

reply_left : (c : OrderedCircuit) (t : ℕ) (draws : List ℕ) (stands : Bool) (s : Said) → reply_at c t draws stands ≡ Replied s → t ≢ length (turns c.nodes (length c.order))
reply_left c t draws stands s e is =
    let none : reply_at c t draws stands ≡ moves.NothingLeft = cond-true _ _ _ (eq-eqb t (length (turns c.nodes (length c.order))) is) in
    differ (reply_at c t draws stands) s none e
  where
    differ : (m : Move) (s : Said) → m ≡ moves.NothingLeft → m ≡ Replied s → ⊥
    differ m s a b = cc

pub counts_on : (c : OrderedCircuit) (h : HelloOf) (p : Progress) (a : Ask) (s : Said) (n : ℕ) → IsCount c p n → move_at c h p a ≡ Replied s → IsCount c (progress_with p a (Replied s)) (n + 1)
counts_on c h Over a s n is e = absurd is
counts_on c h Waiting asks.Bye s n is e = absurd cc
counts_on c h Waiting (asks.Hello g) s n is e = (omega arith, omega arith)
counts_on c h Waiting asks.Go s n is e = absurd cc
counts_on c h Waiting (asks.Draw r) s n is e = absurd cc
counts_on c h (Running t draws) asks.Bye s n is e = absurd cc
counts_on c h (Running t draws) (asks.Hello g) s n is e = absurd cc
counts_on c h (Running t draws) asks.Go s n is e = let left = reply_left c t draws _ s e in (omega arith, omega arith)
counts_on c h (Running t draws) (asks.Draw r) s n is e = let left = reply_left c t (draws ++ r ∷ []) _ s e in (omega arith, omega arith)

pub few_answered : (c : OrderedCircuit) (p : Progress) (n : ℕ) → IsCount c p n → n ≤ suc (length (turns c.nodes (length c.order)))
few_answered c Waiting n is = omega arith
few_answered c (Running t draws) n is = omega arith
few_answered c Over n is = absurd is
