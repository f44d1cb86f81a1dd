-- What a conversation that ended with an accepted answer is worth, whoever sent the replies.
use Rattle.std.specs.Prelude.{ℕ, ◌≡◌, ◌<◌, Bool, List, length, All, IfSome, Option}
use Rattle.blic_field.specs.Field.{modulus}
use Rattle.blic_model.specs.Shape.{IsShaped}
use Rattle.blic_messages.specs.Replies.{Said}
use Rattle.blic_messages.specs.Reading.{IsReply}
use Rattle.blic_verifier.specs.Accepting.{IsWorth}
use Rattle.blic_verifier.specs.Verdict.{Talk, IsAcceptedAs}
use Rattle.blic_verifier.specs.Conversation.{Instance, Ended, position_after, beginning}
use Rattle.blic_verifier.specs.declared.ending.Ending.TheVariants.{Certified}

-- each reading is of a reply, or of none
abbrev pub AreReplies : List (Option Said) → Type 0
AreReplies readings = All (λ r. IfSome r IsReply) readings

-- if readings lead to an accepted answer, what was said is accepted with that answer, and shows a bad draw if the answer is wrong
abbrev pub CertifiedIsWorth : Type 0
CertifiedIsWorth =
    (x : Instance) → IsShaped x.circuit.nodes (length x.circuit.order) → (draw : ℕ → ℕ) → ((n : ℕ) → draw n < modulus)
    → (readings : List (Option Said)) → AreReplies readings → (b : Bool) (talk : Talk) → position_after x draw (beginning x) readings ≡ Ended (Certified b) talk
    → IsAcceptedAs x.circuit b talk × IsWorth x.circuit b talk
