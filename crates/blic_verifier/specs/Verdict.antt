-- What is said of the next reply of a conversation.
use Rattle.std.specs.Prelude.{ℕ, ◌≡◌, suc, Bool, true, false, cond, ◌==◌, nat_lt, List, [], ◌∷◌, ◌++◌, slice_index_or, length, min, filter, find, Option, Some, None}
use Rattle.blic_model.specs.declared.node.Node.{Node}
use Rattle.blic_model.specs.Counts.{claims}
use Rattle.blic_messages.specs.Replies.{Said, Answer, Polys, Values, Refused}
use Rattle.blic_claims.specs.Claims.{Transcript}
use Rattle.blic_claims.specs.Turns.{Turn, ForPolys, ForValues, Reply, turns, transcript, wants_draw_after}
use Rattle.blic_claims.specs.Turns.{Polys as PolysReply, Values as ValuesReply}
use Rattle.blic_model.specs.Circuit.{OrderedCircuit}
use Rattle.blic_verifier.specs.Acceptance.{Check, checks, fails, Passes}
use Rattle.blic_verifier.specs.declared.place.Place.{Place}
use Rattle.blic_verifier.specs.declared.next.Next.{Next}
use Rattle.blic_verifier.specs.declared.next.Next.TheVariants as next

-- what is said of a reply: which ask stands next, or how the conversation ends
pub data Verdict : Type 0 where
  Draw : Verdict
  Go : Verdict
  Done : Bool → Verdict
  Rejected : Place → Verdict
  WrongKind : ℕ → Verdict
  WrongCount : ℕ → ℕ → ℕ → Verdict

-- as a verifier says it
abbrev pub next_of : Verdict → Next
next_of Draw = next.Draw
next_of Go = next.Go
next_of (Done b) = next.Done b
next_of (Rejected place) = next.Rejected place
next_of (WrongKind turn) = next.WrongKind turn
next_of (WrongCount turn want got) = next.WrongCount turn want got

-- what was said so far (the transcript): nothing, or an answer with draws and replies
pub data Talk : Type 0 where
  Silent : Talk
  Talked : Bool → List ℕ → List Reply → Talk

-- the conditions that the first n replies show, the answer among them
abbrev pub checks_upto : List Node → ℕ → Transcript → ℕ → List Check
checks_upto nodes levels T n = filter (λ c. nat_lt c.reply n) (checks nodes levels T)

-- the first of them that fails
abbrev pub fault_upto : List Node → ℕ → Transcript → ℕ → Option Check
fault_upto nodes levels T n = find fails (checks_upto nodes levels T n)

abbrev pub place_of : Check → Place
place_of c = record { node = c.node; part = c.part; claim = c.claim }

-- of replies that fit their turns: the first condition that fails, else what stands next
abbrev pub judged : List Node → ℕ → Bool → List ℕ → List Reply → Verdict
judged nodes levels answer draws replies =
    elim (fault_upto nodes levels (transcript nodes levels answer draws replies) (suc (length replies))) [
      | Some c ↦ Rejected (place_of c)
      | None ↦ cond (length replies == length (turns nodes levels)) (Done answer) (cond (wants_draw_after (turns nodes levels) (length replies)) Draw Go)
    ]

-- a number of polynomials as it is told, in 32 bits
abbrev pub told_count : ℕ → ℕ
told_count n = min n 4294967295

-- a reply that doesn't fit its turn, whose number is t, is refused before anything is checked
abbrev pub judged_at : List Node → ℕ → Turn → Reply → Verdict → Verdict
judged_at nodes t (ForPolys k i) (PolysReply ps) v = cond (length ps == claims nodes k) v (WrongCount t (claims nodes k) (told_count (length ps)))
judged_at nodes t (ForPolys k i) (ValuesReply u w) v = WrongKind t
judged_at nodes t (ForValues k) (PolysReply ps) v = WrongKind t
judged_at nodes t (ForValues k) (ValuesReply u w) v = v

-- one more reply after the answer, the draws and the replies
unfoldable pub verdict : List Node → ℕ → Bool → List ℕ → List Reply → Reply → Verdict
verdict nodes levels answer draws replies reply =
    judged_at nodes (suc (length replies)) (slice_index_or (turns nodes levels) (length replies) (ForValues 0)) reply
    (judged nodes levels answer draws (replies ++ reply ∷ []))

-- the answer is told first, and once
abbrev pub next_after : List Node → ℕ → Talk → Said → Verdict
next_after nodes levels Silent (Answer b) = judged nodes levels b [] []
next_after nodes levels Silent (Polys ps) = WrongKind 0
next_after nodes levels Silent (Values u w) = WrongKind 0
next_after nodes levels Silent (Refused r) = WrongKind 0
next_after nodes levels (Talked b draws replies) (Answer c) = WrongKind (suc (length replies))
next_after nodes levels (Talked b draws replies) (Polys ps) = verdict nodes levels b draws replies (PolysReply ps)
next_after nodes levels (Talked b draws replies) (Values u w) = verdict nodes levels b draws replies (ValuesReply u w)
next_after nodes levels (Talked b draws replies) (Refused r) = WrongKind (suc (length replies))

-- how many products of elements a reply takes at most: one for each polynomial, or one for values
abbrev pub products_for : Said → ℕ
products_for (Answer b) = 0
products_for (Polys ps) = length ps
products_for (Values u w) = 1
products_for (Refused r) = 0

-- the talk with a reply added, if it is of a kind that can stand there
abbrev pub with_reply : Talk → Said → Talk
with_reply Silent (Answer b) = Talked b [] []
with_reply Silent (Polys ps) = Silent
with_reply Silent (Values u w) = Silent
with_reply Silent (Refused r) = Silent
with_reply (Talked b draws replies) (Answer c) = Talked b draws replies
with_reply (Talked b draws replies) (Polys ps) = Talked b draws (replies ++ PolysReply ps ∷ [])
with_reply (Talked b draws replies) (Values u w) = Talked b draws (replies ++ ValuesReply u w ∷ [])
with_reply (Talked b draws replies) (Refused r) = Talked b draws replies

-- the talk with a draw added
abbrev pub with_draw : Talk → ℕ → Talk
with_draw Silent r = Silent
with_draw (Talked b draws replies) r = Talked b (draws ++ r ∷ []) replies

-- whether the reply was of the kind and length that stood there
abbrev pub is_in_turn : Next → Bool
is_in_turn (next.WrongKind t) = false
is_in_turn (next.WrongCount t want got) = false
is_in_turn _ = true

-- whether it ends the conversation
abbrev pub is_verdict : Next → Bool
is_verdict next.Draw = false
is_verdict next.Go = false
is_verdict _ = true

-- the whole talk is accepted, with this answer
abbrev pub IsAcceptedAs : OrderedCircuit → Bool → Talk → Type 0
IsAcceptedAs c b Silent = ⊥
IsAcceptedAs c b (Talked answer draws replies) = (b ≡ answer) × Passes c.nodes (length c.order) answer draws replies
