-- A session that is served over a link.
use Rattle.std.specs.Prelude.{ℕ, ◌≡◌, ◌<◌, ◌⊎◌, cond, nat_eq, Bool, true, false, List, [], ◌∷◌, length, drop, Option, IfSome}
use Rattle.std.specs.List.{starts_with}
use Rattle.blic_basic.specs.Outside.{Rose}
use Rattle.blic_link.specs.Pace.{KeepsPace}
use Rattle.blic_link.specs.Passing.{Piece, got, sent_bytes}
use Rattle.blic_messages.specs.Frames.{reply_spelling}
use Rattle.blic_messages.specs.Replies.{Said}
use Rattle.blic_messages.specs.declared.ask.Hello.{Hello as HelloOf}
use Rattle.blic_model.specs.Circuit.{OrderedCircuit}
use Rattle.blic_server.specs.Sent.{Session, answered, sent_for, session, spelled}
use Rattle.blic_server.specs.declared.served.Ended.{Ended}
use Rattle.blic_server.specs.declared.served.Ended.TheVariants as endings
use Rattle.blic_server.specs.declared.served.Served.{Served}

-- the first of the replies, as far as their frames were sent whole
abbrev pub sent_whole : List Said → List ℕ → List Said
sent_whole [] sent = []
sent_whole (said ∷ more) sent = cond (starts_with nat_eq sent (reply_spelling said)) (said ∷ sent_whole more (drop (length (reply_spelling said)) sent)) []

-- a call of the link failed while an ask was awaited, or while a reply was sent; else all was sent, and the session ended as the bytes
-- that came say, and nothing more is coming if they leave it open
abbrev pub IsEnding : Session → List ℕ → Option (List ℕ) → Ended → Type 0
IsEnding s sent coming endings.Gone = (s.is_over ≡ false) ⊎ (length sent < length (spelled s.said))
IsEnding s sent coming e = (e ≡ s.ended) × (sent ≡ spelled s.said) × (s.is_over ≡ false → IfSome coming (λ bytes. bytes ≡ []))

-- by the pieces that passed over the link: it kept pace with what came, ended as that says, and the asks are those whose replies were
-- sent whole
pub record IsServed (c : OrderedCircuit) (h : HelloOf) (pieces : List Piece) (coming : Option (List ℕ)) (served : Served) : Type 0 where
  pub pace : KeepsPace (sent_for c h) pieces
  pub ended : IsEnding (session c h (got pieces)) (sent_bytes pieces) coming served.ended
  pub asks : served.asks ≡ answered (sent_whole (session c h (got pieces)).said (sent_bytes pieces))

-- only `Gone` raises the count
abbrev pub ServeCounts : ℕ → ℕ → Ended → Type 0
ServeCounts before now endings.Gone = Rose before now
ServeCounts before now _ = now ≡ before
