-- Which messages have a frame, and what a whole frame says as a reply.
use Rattle.std.specs.Prelude.{ℕ, ◌≡◌, ◌<◌, ◌≤◌, ◌^◌, List, length, All, Option, Some, None}
use Rattle.blic_field.specs.Field.{modulus}
use Rattle.blic_field.specs.Quadratic.{HasElements}
use Rattle.blic_messages.specs.declared.ask.Hello.{Hello}
use Rattle.blic_messages.specs.declared.ask.Ask.{Ask}
use Rattle.blic_messages.specs.declared.ask.Ask.TheVariants as asks
use Rattle.blic_messages.specs.declared.reply.Refusal.{Refusal}
use Rattle.blic_messages.specs.declared.reply.Refusal.TheVariants as refusals
use Rattle.blic_messages.specs.Replies.{Said, Answer, Polys, Values, Refused}
use Rattle.blic_messages.specs.Frames.{reply_spelling}

-- numbers of 16 bits, and a digest of 32 bytes
pub record IsHello (h : Hello) : Type 0 where
  pub wire : h.wire < 2 ^ 16
  pub circuit : h.circuit < 2 ^ 16
  pub order : h.order < 2 ^ 16
  pub digest : (length h.digest ≡ 32) × All (λ b. b < 256) h.digest

-- a draw is of an element
abbrev pub IsAsk : Ask → Type 0
IsAsk (asks.Hello h) = IsHello h
IsAsk asks.Go = Unit {0}
IsAsk (asks.Draw e) = e < modulus
IsAsk asks.Bye = Unit {0}

abbrev pub IsRefusal : Refusal → Type 0
IsRefusal refusals.OutOfTurn = Unit {0}
IsRefusal refusals.NothingLeft = Unit {0}
IsRefusal (refusals.NotServed h) = IsHello h
IsRefusal refusals.Broken = Unit {0}

-- elements, and from 1 to 65,536 polynomials
abbrev pub IsReply : Said → Type 0
IsReply (Answer b) = Unit {0}
IsReply (Polys ps) = (1 ≤ length ps) × (length ps ≤ 65536) × All HasElements ps
IsReply (Values u w) = (u < modulus) × (w < modulus)
IsReply (Refused r) = IsRefusal r

-- the frame is that of a reply, or of none
abbrev pub Reads : List ℕ → Option Said → Type 0
Reads frame (Some s) = IsReply s × (frame ≡ reply_spelling s)
Reads frame None = (s : Said) → IsReply s → frame ≡ reply_spelling s → ⊥
