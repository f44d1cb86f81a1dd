-- The two values of a body.
use Rattle.std.proofs.Common.{ℕ, ◌≡◌, ◌-◌, refl, ◌∙◌, ap, arith, List, length, take, drop}
use Rattle.std.proofs.lemmas.List.{take_rest, take_all}
use Rattle.byteorder.specs.Endian.{big_bytes}
use Rattle.blic_messages.specs.Replies.{Said}
use Rattle.blic_messages.specs.Reading.{IsReply}
use Rattle.blic_messages.specs.Frames.{framed, reply_spelling}
use Rattle.blic_messages.proofs.PolyParts.{NoElement}
use Rattle.blic_messages.proofs.Parts.{second_part}
use Rattle.blic_messages.proofs.Spelled.{no_values}

pub no_second_value : (body : List ℕ) → length body ≡ 16 → NoElement (take (length body - 8) (drop 8 body))
    → (s : Said) → IsReply s → framed 131 body ≡ reply_spelling s → ⊥
no_second_value body long never =
    no_values body (λ u w first second e.
    never w second (ap (take 8) (take_rest body 8) ∙ second_part 8 8 body (big_bytes 8 u) (big_bytes 8 w) refl (take_all 16 body (omega arith) ∙ e)))
