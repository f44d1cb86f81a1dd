-- A talk stays of elements, and a verifier stands for it.
use Rattle.std.proofs.Common.{ℕ, ◌<◌, List, [], ◌∷◌, ◌++◌}
use Rattle.std.specs.Prelude.{All}
use Rattle.std.proofs.lemmas.List.Elements.{All-append, All-cons, All-nil}
use Rattle.blic_field.specs.Field.{modulus}
use Rattle.blic_claims.specs.Turns.{Reply}
use Rattle.blic_claims.specs.Turns.{Polys as PolysReply, Values as ValuesReply}
use Rattle.blic_messages.specs.Replies.{Said, Answer, Polys, Values, Refused}
use Rattle.blic_verifier.specs.SoundnessLaws.{ReplyHasElements, AreElements, SaidHasElements, TalkHasElements}
use Rattle.blic_verifier.specs.Standing.{Verifying, HoldsFor, StandsFor}
use Rattle.blic_verifier.specs.Verdict.{Talk, Silent, Talked, with_reply, with_draw}

pub no_elements : AreElements [] []
no_elements = (All-nil (λ r. r < modulus), All-nil ReplyHasElements)

-- a verifier that stands for a talk holds what was said in it, and the talk is of elements
pub holds_of : (v : Verifying) (t : Talk) → StandsFor v t → HoldsFor v t
holds_of v Silent stands = stands
holds_of v (Talked answer draws replies) stands = stands.0

pub elements_of : (v : Verifying) (t : Talk) → StandsFor v t → TalkHasElements t
elements_of v Silent stands = tt
elements_of v (Talked answer draws replies) stands = stands.1

pub stands_from : (v : Verifying) (t : Talk) → HoldsFor v t → TalkHasElements t → StandsFor v t
stands_from v Silent holds elements = holds
stands_from v (Talked answer draws replies) holds elements = (holds, elements)

-- one draw more, and one reply more
pub draw_more : (draws : List ℕ) (r : ℕ) → r < modulus → All (λ x. x < modulus) draws → All (λ x. x < modulus) (draws ++ r ∷ [])
draw_more draws r l h = All-append (λ x. x < modulus) draws (r ∷ []) h (All-cons (λ x. x < modulus) r [] l (All-nil (λ x. x < modulus)))

pub reply_more : (replies : List Reply) (r : Reply) → ReplyHasElements r → All ReplyHasElements replies → All ReplyHasElements (replies ++ r ∷ [])
reply_more replies r e h = All-append ReplyHasElements replies (r ∷ []) h (All-cons ReplyHasElements r [] e (All-nil ReplyHasElements))

pub elements_with_draw : (t : Talk) (r : ℕ) → r < modulus → TalkHasElements t → TalkHasElements (with_draw t r)
elements_with_draw Silent r l h = tt
elements_with_draw (Talked answer draws replies) r l h = (draw_more draws r l h.0, h.1)

pub elements_with_reply : (t : Talk) (s : Said) → SaidHasElements s → TalkHasElements t → TalkHasElements (with_reply t s)
elements_with_reply Silent (Answer b) e h = no_elements
elements_with_reply Silent (Polys ps) e h = tt
elements_with_reply Silent (Values u w) e h = tt
elements_with_reply Silent (Refused r) e h = tt
elements_with_reply (Talked answer draws replies) (Answer b) e h = h
elements_with_reply (Talked answer draws replies) (Polys ps) e h = (h.0, reply_more replies (PolysReply ps) e h.1)
elements_with_reply (Talked answer draws replies) (Values u w) e h = (h.0, reply_more replies (ValuesReply u w) e h.1)
elements_with_reply (Talked answer draws replies) (Refused r) e h = h
