-- What a session says, ask by ask.
use Rattle.std.proofs.Common.{arith, ℕ, ◌≡◌, ◌+◌, ◌<◌, ◌≤◌, refl, sym, ◌∙◌, ap, subst, List, [], ◌∷◌, ◌++◌, length, take, drop, true, false, inl, inr, append_assoc, append-nil}
use Rattle.std.specs.Prelude.{Bool, flat_map, bytes_eq}
use Rattle.std.proofs.Math.Seq.{take-append_seam, drop-append_seam}
use Rattle.std.proofs.lemmas.Bool.{cases_Bool, cond-true, cond-false}
use Rattle.std.proofs.lemmas.Grind.{flat_map-append}
use Rattle.std.proofs.lemmas.List.{length-take, length-append}
use Rattle.std.proofs.lemmas.List.Concat.{flat_map-cons}
use Rattle.std.proofs.lemmas.Slice.Eq.{bytes_eq-Decides}
use Rattle.blic_link.specs.Pace.{Begins, Grows}
use Rattle.blic_model.specs.Circuit.{OrderedCircuit}
use Rattle.blic_messages.specs.Frames.{reply_spelling}
use Rattle.blic_messages.specs.Replies.{Said}
use Rattle.blic_messages.specs.declared.reply.Refusal.TheVariants as refusals
use Rattle.blic_messages.specs.declared.ask.Ask.{Ask}
use Rattle.blic_messages.specs.declared.ask.Hello.{Hello as HelloOf}
use Rattle.blic_prover.specs.Honest.{Progress, Waiting, Move, move_at, progress_with}
use Rattle.blic_prover.specs.Honest as moves
use Rattle.blic_server.specs.Sent.{Session, answered, is_answer, refused, sent_for, session, session_at, session_from, spelled, with_reply}
use Rattle.blic_server.specs.Serving.{sent_whole}
use Rattle.blic_server.specs.Streams.{Stream, Tail, Nothing, Begun, Garbled, stream, with_ask}
use Rattle.blic_server.specs.declared.served.Ended.TheVariants as endings
use Rattle.blic_server.proofs.Reading.{read_on, then, then_by, then_ask}

-- the session by the answer to its first ask
abbrev pub by_move : OrderedCircuit → HelloOf → Progress → Ask → List Ask → Tail → Move → Session
by_move c h p ask asks tail m = elim m [
  | moves.Replied said ↦ with_reply said (session_from c h (progress_with p ask (moves.Replied said)) asks tail)
  | moves.OutOfTurn ↦ refused refusals.OutOfTurn endings.OutOfTurn
  | moves.NothingLeft ↦ refused refusals.NothingLeft endings.NothingLeft
  | moves.NotServed served asked ↦ refused (refusals.NotServed served) (endings.NotServed served asked)
  | moves.Ended ↦ record { said = []; ended = endings.Closed; is_over = true }
]

pub first_move : (c : OrderedCircuit) (h : HelloOf) (p : Progress) (ask : Ask) (asks : List Ask) (tail : Tail) (m : Move) → move_at c h p ask ≡ m
    → session_from c h p (ask ∷ asks) tail ≡ by_move c h p ask asks tail m
first_move c h p ask asks tail m e = ap (by_move c h p ask asks tail) e

begins_itself : (bytes : List ℕ) → Begins bytes bytes
begins_itself bytes = ([], sym (append-nil bytes))

spelled_first : (s : Said) (more : List Said) → spelled (s ∷ more) ≡ reply_spelling s ++ spelled more
spelled_first s more = flat_map-cons reply_spelling s more

-- over the same first ask the same is said, but for what the later asks get
begins_by : (c : OrderedCircuit) (h : HelloOf) (p : Progress) (a : Ask) (asks : List Ask) (tail : Tail) (all : Stream)
    → ((q : Progress) → Begins (spelled (session_from c h q asks tail).said) (spelled (session_from c h q all.asks all.tail).said))
    → Begins (spelled (session_from c h p (a ∷ asks) tail).said) (spelled (session_from c h p (a ∷ all.asks) all.tail).said)
begins_by c h p a asks tail all later = by_the (move_at c h p a) refl
  where
    same : (m : Move) (s : Session) → move_at c h p a ≡ m → by_move c h p a asks tail m ≡ s → by_move c h p a all.asks all.tail m ≡ s
        → Begins (spelled (session_from c h p (a ∷ asks) tail).said) (spelled (session_from c h p (a ∷ all.asks) all.tail).said)
    same m s e one two =
        subst (λ z. Begins (spelled z.said) (spelled (session_from c h p (a ∷ all.asks) all.tail).said)) (sym (first_move c h p a asks tail m e ∙ one))
        (subst (λ z. Begins (spelled s.said) (spelled z.said)) (sym (first_move c h p a all.asks all.tail m e ∙ two)) (begins_itself (spelled s.said)))

    by_the : (m : Move) → move_at c h p a ≡ m → Begins (spelled (session_from c h p (a ∷ asks) tail).said) (spelled (session_from c h p (a ∷ all.asks) all.tail).said)
    by_the (moves.Replied said) e =
        let q : Progress = progress_with p a (moves.Replied said) in
        let rest = later q in (
          rest.0,
          ap (λ z. spelled z.said) (first_move c h p a all.asks all.tail (moves.Replied said) e)
              ∙ (spelled_first said (session_from c h q all.asks all.tail).said
              ∙ (ap (λ z. reply_spelling said ++ z) rest.1
              ∙ (sym (append_assoc (reply_spelling said) (spelled (session_from c h q asks tail).said) rest.0)
              ∙ ap (λ z. z ++ rest.0) (sym (ap (λ z. spelled z.said) (first_move c h p a asks tail (moves.Replied said) e) ∙ spelled_first said (session_from c h q asks tail).said))))),
        )
    by_the moves.OutOfTurn e = same moves.OutOfTurn _ e refl refl
    by_the moves.NothingLeft e = same moves.NothingLeft _ e refl refl
    by_the (moves.NotServed served asked) e = same (moves.NotServed served asked) _ e refl refl
    by_the moves.Ended e = same moves.Ended _ e refl refl

-- what is said first stays, whatever follows
begins_more : (c : OrderedCircuit) (h : HelloOf) (p : Progress) (asks : List Ask) (tail : Tail) (next : Stream)
    → Begins (spelled (session_from c h p asks tail).said) (spelled (session_from c h p (then_by tail asks next).asks (then_by tail asks next).tail).said)
begins_more c h p [] Nothing next = (_, refl)
begins_more c h p [] Begun next = (_, refl)
begins_more c h p [] Garbled next = begins_itself _
begins_more c h p (a ∷ asks) tail next =
    subst (λ z. Begins (spelled (session_from c h p (a ∷ asks) tail).said) (spelled (session_from c h p z.asks z.tail).said)) (sym (then_ask a tail asks next))
    (begins_by c h p a asks tail (then_by tail asks next) (λ q. begins_more c h q asks tail next))

-- so what is sent grows with what comes
pub sent_grows : (c : OrderedCircuit) (h : HelloOf) → Grows (sent_for c h)
sent_grows c h came more =
    let on = read_on came more in
    subst (λ z. Begins (sent_for c h came) (spelled (session_from c h Waiting z.asks z.tail).said)) (sym on.1)
    (begins_more c h Waiting (stream came).asks (stream came).tail on.0)

-- these asks got these replies, one by one
abbrev pub AreReplies : OrderedCircuit → HelloOf → Progress → List Ask → List Said → Progress → Type 0
AreReplies c h p [] [] q = p ≡ q
AreReplies c h p [] (s ∷ said) q = ⊥
AreReplies c h p (a ∷ asks) [] q = ⊥
AreReplies c h p (a ∷ asks) (s ∷ said) q = (move_at c h p a ≡ moves.Replied s) × AreReplies c h (progress_with p a (moves.Replied s)) asks said q

-- replies before what a session says
abbrev pub after : List Said → Session → Session
after said rest = record { said = said ++ rest.said; ended = rest.ended; is_over = rest.is_over }

pub replies_split : (c : OrderedCircuit) (h : HelloOf) (p : Progress) (done : List Ask) (said : List Said) (q : Progress) (asks : List Ask) (tail : Tail) → AreReplies c h p done said q
    → session_from c h p (done ++ asks) tail ≡ after said (session_from c h q asks tail)
replies_split c h p [] [] q asks tail are = ap (λ z. session_from c h z asks tail) are
replies_split c h p [] (s ∷ said) q asks tail are = absurd are
replies_split c h p (a ∷ done) [] q asks tail are = absurd are
replies_split c h p (a ∷ done) (s ∷ said) q asks tail are =
    first_move c h p a (done ++ asks) tail (moves.Replied s) are.0
    ∙ ap (with_reply s) (replies_split c h (progress_with p a (moves.Replied s)) done said q asks tail are.1)

pub replies_more : (c : OrderedCircuit) (h : HelloOf) (p : Progress) (done : List Ask) (said : List Said) (q : Progress) (a : Ask) (s : Said) → AreReplies c h p done said q
    → move_at c h q a ≡ moves.Replied s → AreReplies c h p (done ++ a ∷ []) (said ++ s ∷ []) (progress_with q a (moves.Replied s))
replies_more c h p [] [] q a s are e = (ap (λ z. move_at c h z a) are ∙ e, ap (λ z. progress_with z a (moves.Replied s)) are)
replies_more c h p [] (t ∷ said) q a s are e = absurd are
replies_more c h p (b ∷ done) [] q a s are e = absurd are
replies_more c h p (b ∷ done) (t ∷ said) q a s are e = (are.0, replies_more c h (progress_with p b (moves.Replied t)) done said q a s are.1 e)

-- ---- what was sent whole

pub sent_one : (s : Said) (more : List Said) (rest : List ℕ) → sent_whole (s ∷ more) (reply_spelling s ++ rest) ≡ s ∷ sent_whole more rest
sent_one s more rest =
    cond-true _ _ _ (ap (bytes_eq (reply_spelling s)) (take-append_seam (reply_spelling s) rest) ∙ (bytes_eq-Decides (reply_spelling s) (reply_spelling s)).1 refl)
    ∙ ap (λ z. s ∷ sent_whole more z) (drop-append_seam (reply_spelling s) rest)

-- the replies that were sent, and what was sent whole of those after them
pub sent_after : (said more : List Said) (rest : List ℕ) → sent_whole (said ++ more) (spelled said ++ rest) ≡ said ++ sent_whole more rest
sent_after [] more rest = refl
sent_after (s ∷ said) more rest =
    ap (sent_whole (s ∷ (said ++ more))) (ap (λ z. z ++ rest) (spelled_first s said) ∙ append_assoc (reply_spelling s) (spelled said) rest)
    ∙ (sent_one s (said ++ more) (spelled said ++ rest)
    ∙ ap (λ z. s ∷ z) (sent_after said more rest))

pub sent_part : (s : Said) (more : List Said) (sent : List ℕ) → length sent < length (reply_spelling s) → sent_whole (s ∷ more) sent ≡ []
sent_part s more sent short = elim (cases_Bool (bytes_eq (reply_spelling s) (take (length (reply_spelling s)) sent))) [
  | inl same ↦ let is = (bytes_eq-Decides (reply_spelling s) (take (length (reply_spelling s)) sent)).0 same in
      absurd (omega (arith, short, ap length is, length-take (length (reply_spelling s)) sent))
  | inr other ↦ cond-false _ _ _ other
]
