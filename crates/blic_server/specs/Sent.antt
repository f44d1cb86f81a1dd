-- What a server says to the asks of a stream, and how the session ends.
use Rattle.std.specs.Prelude.{ℕ, Bool, true, false, List, [], ◌∷◌, length, filter, flat_map}
use Rattle.blic_model.specs.Circuit.{OrderedCircuit}
use Rattle.blic_messages.specs.Replies.{Said, Answer, Polys, Values, Refused}
use Rattle.blic_messages.specs.declared.reply.Refusal.{Refusal}
use Rattle.blic_messages.specs.declared.reply.Refusal.TheVariants as refusals
use Rattle.blic_messages.specs.declared.ask.Hello.{Hello as HelloOf}
use Rattle.blic_messages.specs.declared.ask.Ask.{Ask}
use Rattle.blic_messages.specs.Frames.{reply_spelling}
use Rattle.blic_prover.specs.Honest.{Progress, Waiting, Move, move_at, progress_with}
use Rattle.blic_prover.specs.Honest as moves
use Rattle.blic_server.specs.Streams.{Stream, Tail, Nothing, Begun, Garbled, stream}
use Rattle.blic_server.specs.declared.served.Ended.{Ended}
use Rattle.blic_server.specs.declared.served.Ended.TheVariants as endings

-- what is said, how the session ends if no more bytes come, and whether it has ended so whatever comes
pub record Session : Type 0 where
  pub said : List Said
  pub ended : Ended
  pub is_over : Bool

abbrev pub unless_more : Ended → Session
unless_more e = record { said = []; ended = e; is_over = false }

abbrev pub refused : Refusal → Ended → Session
refused r e = record { said = Refused r ∷ []; ended = e; is_over = true }

abbrev pub with_reply : Said → Session → Session
with_reply s rest = record { said = s ∷ rest.said; ended = rest.ended; is_over = rest.is_over }

-- with no ask left
abbrev pub session_at : Tail → Session
session_at Nothing = unless_more endings.Closed
session_at Begun = unless_more endings.Cut
session_at Garbled = refused refusals.Broken endings.Broken

-- after some progress, over these asks and what comes behind them: an ask that stands next gets the honest reply, and the first that
-- doesn't ends the session. Bye ends it without a reply
abbrev pub session_from : OrderedCircuit → HelloOf → Progress → List Ask → Tail → Session
session_from c h p [] tail = session_at tail
session_from c h p (ask ∷ asks) tail = elim (move_at c h p ask) [
  | moves.Replied said ↦ with_reply said (session_from c h (progress_with p ask (moves.Replied said)) asks tail)
  | moves.OutOfTurn ↦ refused refusals.OutOfTurn endings.OutOfTurn
  | moves.NothingLeft ↦ refused refusals.NothingLeft endings.NothingLeft
  | moves.NotServed served asked ↦ refused (refusals.NotServed served) (endings.NotServed served asked)
  | moves.Ended ↦ record { said = []; ended = endings.Closed; is_over = true }
]

-- the session about circuit c, which `h` names, once these bytes have come
abbrev pub session : OrderedCircuit → HelloOf → List ℕ → Session
session c h bytes = session_from c h Waiting (stream bytes).asks (stream bytes).tail

-- replies as the bytes that go over the link
abbrev pub spelled : List Said → List ℕ
spelled said = flat_map reply_spelling said

-- the bytes that are sent once these have come
abbrev pub sent_for : OrderedCircuit → HelloOf → List ℕ → List ℕ
sent_for c h bytes = spelled (session c h bytes).said

-- whether it answers the ask
abbrev pub is_answer : Said → Bool
is_answer (Refused r) = false
is_answer _ = true

-- how many asks are answered
abbrev pub answered : List Said → ℕ
answered said = length (filter is_answer said)
