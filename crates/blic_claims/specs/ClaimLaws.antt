-- What holds of the claims of every conversation.
use Rattle.std.specs.Prelude.{ℕ, suc, ◌+◌, ◌^◌, ◌≡◌, ◌<◌, ◌≤◌, List, slice_index_or, length}
use Rattle.blic_model.specs.declared.node.Node.{Node}
use Rattle.blic_model.specs.Circuit.{node_at, root}
use Rattle.blic_model.specs.Counts.{claims}
use Rattle.blic_model.specs.Shape.{IsShaped}
use Rattle.blic_claims.specs.Claims.{Transcript, claims_from, claims_on, no_claim}
use Rattle.blic_claims.specs.Turns.{turns}
use Rattle.blic_claims.specs.Places.{given}

-- the claims on a node are as many as the circuit says
abbrev pub ClaimCountLaw : Type 0
ClaimCountLaw = (nodes : List Node) (levels : ℕ) (T : Transcript) (k : ℕ) → length (claims_on nodes levels T k) ≡ claims nodes k

-- each node has at least one claim
abbrev pub SomeClaimLaw : Type 0
SomeClaimLaw = (nodes : List Node) (levels : ℕ) → IsShaped nodes levels → (k : ℕ) → k < length nodes → 0 < claims nodes k

-- a conversation has fewer than 2^60 turns
abbrev pub FewTurnsLaw : Type 0
FewTurnsLaw = (nodes : List Node) (levels : ℕ) → IsShaped nodes levels → length (turns nodes levels) < 2 ^ 60

-- claim c of those that parent p hands down to node a is claim `given + c` on node a
abbrev pub PlaceLaw : Type 0
PlaceLaw =
    (nodes : List Node) (levels : ℕ) (T : Transcript) (p a c : ℕ) → a < p → p ≤ root nodes
    → c < length (claims_from nodes levels T p (node_at nodes p) (claims_on nodes levels T p) a)
    → slice_index_or (claims_on nodes levels T a) (given nodes (suc p) a + c) no_claim
    ≡ slice_index_or (claims_from nodes levels T p (node_at nodes p) (claims_on nodes levels T p) a) c no_claim
