-- The laws of conversations over bytes.
use Rattle.std.specs.Prelude.{ℕ, ◌≡◌, ◌+◌, ◌<◌, List, ◌∷◌, ◌++◌, length, map, flat_map, All, Some, IfSome}
use Rattle.blic_field.specs.Field.{modulus}
use Rattle.blic_model.specs.CircuitLimits.{IsWithinLimits}
use Rattle.blic_model.specs.Shape.{IsShaped}
use Rattle.blic_claims.specs.Turns.{turns}
use Rattle.blic_claims.specs.Honest.{honest_answer}
use Rattle.blic_messages.specs.Replies.{Said}
use Rattle.blic_messages.specs.declared.ask.Ask.{Ask}
use Rattle.blic_messages.specs.Frames.{reply_spelling}
use Rattle.blic_messages.specs.Reading.{IsReply}
use Rattle.blic_messages.specs.FrontLaws.{AreBytes}
use Rattle.blic_verifier.specs.Verdict.{Talk}
use Rattle.blic_verifier.specs.Conversation.{Instance, Ended, AreHonest, beginning}
use Rattle.blic_verifier.specs.Hearing.{readings, position_of, asked}
use Rattle.blic_verifier.specs.declared.ending.Ending.TheVariants.{Certified}

-- what was asked stays asked, whatever comes afterwards
abbrev pub AsksGrow : Type 0
AsksGrow = (x : Instance) (draw : ℕ → ℕ) (got more : List ℕ) → (rest : List Ask) × (asked x draw (got ++ more) ≡ asked x draw got ++ rest)

-- the spelling of a reply is read as that reply, whatever follows
abbrev pub SpelledIsRead : Type 0
SpelledIsRead = (s : Said) (more : List ℕ) → IsReply s → readings (reply_spelling s ++ more) ≡ Some s ∷ readings more

-- what is read is a reply, unless the stream is broken there
abbrev pub AreReplies : Type 0
AreReplies = (got : List ℕ) → AreBytes got → All (λ r. IfSome r IsReply) (readings got)

-- about a circuit within the limits: once the bytes of all honest replies have come, the answer and one for each turn, the conversation
-- has ended with the root's value accepted
abbrev pub HonestBytesEnd : Type 0
HonestBytesEnd =
    (x : Instance) → IsShaped x.circuit.nodes (length x.circuit.order) → IsWithinLimits x.circuit.nodes (length x.circuit.order)
    → (draw : ℕ → ℕ) → ((n : ℕ) → draw n < modulus) → (replies : List Said)
    → AreHonest x draw (beginning x) (map Some replies) → length replies ≡ 1 + length (turns x.circuit.nodes (length x.circuit.order))
    → (t : Talk) × (position_of x draw (flat_map reply_spelling replies) ≡ Ended (Certified (honest_answer x.circuit.nodes (length x.circuit.order))) t)
