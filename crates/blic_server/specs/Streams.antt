-- A stream of asks: those that some bytes begin with, one after another, and what comes behind them.
use Rattle.std.specs.Prelude.{ℕ, zero, suc, List, [], ◌∷◌, length, drop}
use Rattle.blic_messages.specs.declared.ask.Ask.{Ask}
use Rattle.blic_messages.specs.Grammar.{Whole, Broken, Partial, front}
use Rattle.blic_messages.specs.Fronts.{ask_grammar}

-- behind the last whole frame come no bytes, a frame that isn't whole, or bytes that are none
pub data Tail : Type 0 where
  Nothing : Tail
  Begun : Tail
  Garbled : Tail

pub record Stream : Type 0 where
  pub asks : List Ask
  pub tail : Tail

abbrev pub with_ask : Ask → Stream → Stream
with_ask ask s = record { asks = ask ∷ s.asks; tail = s.tail }

abbrev pub ends_with : Tail → Stream
ends_with tail = record { asks = []; tail = tail }

-- of bytes that hold no whole frame
abbrev pub tail_of : List ℕ → Tail
tail_of [] = Nothing
tail_of (b ∷ bytes) = Begun

-- n asks at most
abbrev pub stream_within : ℕ → List ℕ → Stream
stream_within zero bytes = ends_with Nothing
stream_within (suc n) bytes = elim (front ask_grammar bytes) [
  | Whole ask size ↦ with_ask ask (stream_within n (drop size bytes))
  | Broken ↦ ends_with Garbled
  | Partial ↦ ends_with (tail_of bytes)
]

-- a frame has bytes, so there are no more of them than bytes
unfoldable pub stream : List ℕ → Stream
stream bytes = stream_within (length bytes) bytes
