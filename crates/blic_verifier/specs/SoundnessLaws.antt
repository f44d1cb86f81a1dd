-- What an accepted conversation with a wrong answer shows, whoever sent it.
use Rattle.std.specs.Prelude.{ℕ, ◌≡◌, ◌*◌, ◌<◌, ◌≤◌, Bool, List, length, sum_by, slice_index_or, All, AllPairs}
use Rattle.blic_field.specs.Field.{modulus, IsPrime}
use Rattle.blic_field.specs.Quadratic.{HasElements}
use Rattle.blic_model.specs.declared.node.Node.{Node}
use Rattle.blic_model.specs.Circuit.{OrderedCircuit, root, free}
use Rattle.blic_model.specs.Shape.{IsShaped}
use Rattle.blic_model.specs.Value.{RootIs, bit, value}
use Rattle.blic_model.specs.Counts.{claims, bad}
use Rattle.blic_messages.specs.Replies.{Said, Answer, Polys as SaidPolys, Values as SaidValues, Refused}
use Rattle.blic_claims.specs.Claims.{zero_point}
use Rattle.blic_claims.specs.Turns.{Turn, Reply, Polys, Values, draw_number, polys_number, no_reply, turns}
use Rattle.blic_verifier.specs.Acceptance.{Passes}
use Rattle.blic_verifier.specs.Soundness.{AreBadAt, IsBad, SomeDrawIsBad}
use Rattle.blic_verifier.specs.Verdict.{Talk, Silent, Talked}

-- the numbers of a reply are elements
abbrev pub ReplyHasElements : Reply → Type 0
ReplyHasElements (Polys ps) = All HasElements ps
ReplyHasElements (Values u w) = (u < modulus) × (w < modulus)

-- the draws and the replies are of elements
abbrev pub AreElements : List ℕ → List Reply → Type 0
AreElements draws replies = All (λ r. r < modulus) draws × All ReplyHasElements replies

-- so are those of a talk (transcript)
abbrev pub TalkHasElements : Talk → Type 0
TalkHasElements Silent = Unit {0}
TalkHasElements (Talked answer draws replies) = AreElements draws replies

-- and the numbers of what is said are elements
abbrev pub SaidHasElements : Said → Type 0
SaidHasElements (Answer b) = Unit {0}
SaidHasElements (SaidPolys ps) = All HasElements ps
SaidHasElements (SaidValues u w) = (u < modulus) × (w < modulus)
SaidHasElements (Refused r) = Unit {0}

-- an accepted conversation whose answer isn't the root's value has a bad draw
abbrev pub WrongValueHasBadDraw : Type 0
WrongValueHasBadDraw =
    (nodes : List Node) (levels : ℕ) → IsShaped nodes levels → (answer : Bool) (draws : List ℕ) (replies : List Reply) → AreElements draws replies
    → Passes nodes levels answer draws replies → (bit answer ≡ value nodes levels (root nodes) zero_point → ⊥)
    → SomeDrawIsBad nodes levels answer draws replies

-- an accepted conversation whose answer isn't the truth that the root stands for has a bad draw
abbrev pub WrongTruthHasBadDraw : Type 0
WrongTruthHasBadDraw =
    (c : OrderedCircuit) (t : Bool) → IsShaped c.nodes (length c.order) → RootIs c t → (answer : Bool) (draws : List ℕ) (replies : List Reply) → AreElements draws replies
    → Passes c.nodes (length c.order) answer draws replies → (answer ≡ t → ⊥) → SomeDrawIsBad c.nodes (length c.order) answer draws replies

-- which elements are bad at a draw is fixed by the answer, the draws before it and the replies before it
abbrev pub BadIsFixedBefore : Type 0
BadIsFixedBefore =
    (nodes : List Node) (levels : ℕ) (answer : Bool) (draws others : List ℕ) (replies more : List Reply) (k i r : ℕ)
    → k < length nodes → i < length (free nodes levels k)
    → ((t : ℕ) → t < draw_number nodes levels k i → slice_index_or draws t 0 ≡ slice_index_or others t 0)
    → ((t : ℕ) → t ≤ polys_number nodes levels k i → slice_index_or replies t no_reply ≡ slice_index_or more t no_reply)
    → IsBad nodes levels answer draws replies k i r → IsBad nodes levels answer others more k i r

-- given that the modulus is prime, there are at most two bad elements for each claim on the node of a draw
abbrev pub FewBadAtADraw : Type 0
FewBadAtADraw =
    IsPrime modulus → (nodes : List Node) (levels : ℕ) → IsShaped nodes levels → (answer : Bool) (draws : List ℕ) (replies : List Reply) → AreElements draws replies
    → (k i : ℕ) → k < length nodes → i < length (free nodes levels k)
    → (elements : List ℕ) → AllPairs (λ x y. x ≡ y → ⊥) elements
    → All (λ r. (r < modulus) × IsBad nodes levels answer draws replies k i r) elements
    → length elements ≤ 2 * claims nodes k

-- and over all draws of a conversation there are at most as many as is printed
abbrev pub FewBadInAll : Type 0
FewBadInAll =
    IsPrime modulus → (nodes : List Node) (levels : ℕ) → IsShaped nodes levels → (answer : Bool) (draws : List ℕ) (replies : List Reply) → AreElements draws replies
    → (elements : Turn → List ℕ) → All (λ t. AreBadAt nodes levels answer draws replies t (elements t)) (turns nodes levels)
    → sum_by (λ t. length (elements t)) (turns nodes levels) ≤ bad nodes levels
