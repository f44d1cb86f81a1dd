-- The law of acceptance: whatever is drawn, the honest replies pass.
use Rattle.std.specs.Prelude.{ℕ, suc, ◌≡◌, ◌<◌, Bool, true, List, slice_index_or, length, All, Option}
use Rattle.blic_field.specs.Field.{modulus}
use Rattle.blic_model.specs.declared.node.Node.{Node}
use Rattle.blic_model.specs.Circuit.{OrderedCircuit, node_at, free}
use Rattle.blic_model.specs.Shape.{IsShaped}
use Rattle.blic_model.specs.Counts.{is_binary, draws as draw_count}
use Rattle.blic_model.specs.Value.{RootIs}
use Rattle.blic_claims.specs.Turns.{ForPolys, ForValues, Fits, is_polys, no_reply, turns}
use Rattle.blic_claims.specs.Honest.{honest_answer, honest_replies}
use Rattle.blic_messages.specs.Replies.{Said}
use Rattle.blic_verifier.specs.Acceptance.{Passes}
use Rattle.blic_verifier.specs.SoundnessLaws.{ReplyHasElements}
use Rattle.blic_verifier.specs.Conversation.{Instance, AreHonest, GoesOnOrAccepts, beginning, position_after}

-- all draws of a conversation: as many elements as it has
abbrev pub AreDraws : List Node → ℕ → List ℕ → Type 0
AreDraws nodes levels draws = All (λ r. r < modulus) draws × (length draws ≡ draw_count nodes levels)

-- the honest replies under any draws pass, with whether the root's value is 1 as the answer
abbrev pub HonestRepliesPass : Type 0
HonestRepliesPass =
    (nodes : List Node) (levels : ℕ) → IsShaped nodes levels → (draws : List ℕ) → AreDraws nodes levels draws
    → Passes nodes levels (honest_answer nodes levels) draws (honest_replies nodes levels draws (length (turns nodes levels)))

-- with the truth that the root stands for as the answer
abbrev pub HonestRepliesPassWithTruth : Type 0
HonestRepliesPassWithTruth =
    (c : OrderedCircuit) (t : Bool) → IsShaped c.nodes (length c.order) → RootIs c t → (draws : List ℕ) → AreDraws c.nodes (length c.order) draws
    → (honest_answer c.nodes (length c.order) ≡ t)
    × Passes c.nodes (length c.order) t draws (honest_replies c.nodes (length c.order) draws (length (turns c.nodes (length c.order))))

-- a conversation in which each reply is the honest one goes on until each turn had its reply, and then has ended with the root's value accepted
abbrev pub HonestConversationAccepts : Type 0
HonestConversationAccepts =
    (x : Instance) → IsShaped x.circuit.nodes (length x.circuit.order) → (draw : ℕ → ℕ) → ((n : ℕ) → draw n < modulus) → (readings : List (Option Said))
    → AreHonest x draw (beginning x) readings
    → GoesOnOrAccepts x (honest_answer x.circuit.nodes (length x.circuit.order)) (length readings) (position_after x draw (beginning x) readings)

-- each honest reply fits its turn, and its numbers are elements
abbrev pub HonestReplyFits : Type 0
HonestReplyFits =
    (nodes : List Node) (levels : ℕ) → IsShaped nodes levels → (draws : List ℕ) → All (λ r. r < modulus) draws → (t : ℕ) → t < length (turns nodes levels)
    → Fits nodes (slice_index_or (turns nodes levels) t (ForValues 0)) (slice_index_or (honest_replies nodes levels draws (suc t)) t no_reply)
    × ReplyHasElements (slice_index_or (honest_replies nodes levels draws (suc t)) t no_reply)

-- a turn for polynomials is that of a binary node and one of its free levels; the last turn is for values
abbrev pub TurnsAreOfNodes : Type 0
TurnsAreOfNodes =
    (nodes : List Node) (levels : ℕ) → IsShaped nodes levels
    → ((t k i : ℕ) → t < length (turns nodes levels) → slice_index_or (turns nodes levels) t (ForValues 0) ≡ ForPolys k i
    → (k < length nodes) × (is_binary (node_at nodes k) ≡ true) × (i < length (free nodes levels k)))
    × ((t : ℕ) → t < length (turns nodes levels) → is_polys (slice_index_or (turns nodes levels) t (ForValues 0)) ≡ true → suc t < length (turns nodes levels))
