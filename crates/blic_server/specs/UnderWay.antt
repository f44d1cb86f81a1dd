-- Private: a session over a link that is under way.
use Rattle.std.specs.Prelude.{ℕ, ◌≡◌, ◌<◌, ◌⊎◌, true, List, [], ◌∷◌, ◌++◌, length, take, drop, Option, Some, None}
use Rattle.blic_basic.specs.Outside.{Rose}
use Rattle.blic_link.specs.Pace.{Begins}
use Rattle.blic_link.specs.Passing.{Piece, sent_bytes}
use Rattle.blic_messages.specs.Frames.{reply_spelling}
use Rattle.blic_messages.specs.Fronts.{ask_grammar}
use Rattle.blic_messages.specs.Grammar.{Whole, front}
use Rattle.blic_messages.specs.Replies.{Said}
use Rattle.blic_messages.specs.declared.ask.Ask.{Ask}
use Rattle.blic_prover.specs.Honest.{Progress, Replied, honest, progress}
use Rattle.blic_prover.specs.Standing.{Proving, ServesFor}
use Rattle.blic_server.specs.Sent.{Session, answered, is_answer, session_from, spelled}
use Rattle.blic_server.specs.Serving.{IsEnding, ServeCounts, sent_whole}
use Rattle.blic_server.specs.Streams.{stream}
use Rattle.blic_server.specs.declared.served.Ended.{Ended}
use Rattle.blic_server.specs.declared.served.Ended.TheVariants as endings

-- the frame was sent; or a call failed, and not all of it was
abbrev pub IsSent : List ℕ → List Piece → Option Ended → Type 0
IsSent frame pieces None = sent_bytes pieces ≡ frame
IsSent frame pieces (Some e) = (e ≡ endings.Gone) × ((n : ℕ) × (n < length frame) × (sent_bytes pieces ≡ take n frame))

-- the refusal's frame was sent, and the session ended so; or a call failed
abbrev pub IsRefused : List ℕ → List Piece → Ended → Ended → Type 0
IsRefused frame pieces ended result =
    ((result ≡ ended) × (sent_bytes pieces ≡ frame)) ⊎ ((result ≡ endings.Gone) × ((n : ℕ) × (n < length frame) × (sent_bytes pieces ≡ take n frame)))

-- an ask was answered: its reply was sent whole, and these bytes are left
pub record IsAnswered (old new : Proving) (bytes rest went : List ℕ) : Type 0 where
  pub ask : Ask
  pub said : Said
  pub size : ℕ
  pub whole : front ask_grammar bytes ≡ Whole ask size
  pub left : rest ≡ drop size bytes
  pub replied : (asks : List Ask) → ServesFor old asks → honest old.circuit old.served asks ask ≡ Replied said
  pub stands : (asks : List Ask) → ServesFor old asks → ServesFor new (asks ++ ask ∷ [])
  pub answers : is_answer said ≡ true
  pub sent : went ≡ reply_spelling said

-- the session ended so, over these bytes and what was sent for them, and no ask of them was answered by a reply that was sent whole
pub record IsOver (s : Session) (sent : List ℕ) (coming : Option (List ℕ)) (e : Ended) : Type 0 where
  pub begins : Begins sent (spelled s.said)
  pub ended : IsEnding s sent coming e
  pub none : answered (sent_whole s.said sent) ≡ 0

-- over the bytes from where the session stands
abbrev pub IsTurn : Proving → Proving → List ℕ → List ℕ → Option (List ℕ) → List Piece → Option Ended → Type 0
IsTurn old new bytes rest coming went None = IsAnswered old new bytes rest (sent_bytes went)
IsTurn old new bytes rest coming went (Some e) =
    (asks : List Ask) → ServesFor old asks
    → IsOver (session_from old.circuit old.served (progress old.circuit old.served asks) (stream bytes).asks (stream bytes).tail) (sent_bytes went) coming e

-- only `Gone` raises the count
abbrev pub TurnCounts : ℕ → ℕ → Option Ended → Type 0
TurnCounts before now None = now ≡ before
TurnCounts before now (Some e) = ServeCounts before now e

abbrev pub RefusalCounts : ℕ → ℕ → Ended → Ended → Type 0
RefusalCounts before now ended result = ((result ≡ ended) × (now ≡ before)) ⊎ ((result ≡ endings.Gone) × Rose before now)
