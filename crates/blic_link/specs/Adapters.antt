-- What contracts see of a dialer and an acceptor of the system, and what the calls of a link do to its stream.
use Rattle.std.specs.Prelude.{ℕ, Bool, List, Option, take}
use Rattle.std.specs.Io.KnownBytes.{Appends, Consumes, IsAtEnd, Keeps}
use Rattle.blic_link.specs.declared.link.Received.{Received}
use Rattle.blic_link.specs.declared.link.Received.TheVariants as received
use Rattle.blic_link.specs.declared.link.Sent.{Sent}
use Rattle.blic_link.specs.declared.link.Sent.TheVariants as sent

-- whether a link is lent, how many calls failed, those of the links that were hung up included, and how many dials failed
pub record CountedDialer : Type 0 where
  pub is_lent : Bool
  pub faults : ℕ
  pub missed : ℕ

-- whether it listens, and how many calls failed
pub record CountedAcceptor : Type 0 where
  pub is_listening : Bool
  pub faults : ℕ

-- what the stream will give, if that is known: `Got n` took its first n bytes, `End` says that it is at its end, `Failed` took nothing
abbrev pub HasReceived : Option (List ℕ) → Option (List ℕ) → Received → List ℕ → Type 0
HasReceived old new (received.Got n) buf = Consumes old new (take n buf)
HasReceived old new received.End buf = IsAtEnd new
HasReceived old new received.Failed buf = Keeps old new

-- what was written to the stream, if that is known: `Took n` appended the first n bytes, `Failed` appended nothing
abbrev pub HasSent : Option (List ℕ) → Option (List ℕ) → Sent → List ℕ → Type 0
HasSent old new (sent.Took n) piece = Appends old new (take n piece)
HasSent old new sent.Failed piece = Keeps old new
