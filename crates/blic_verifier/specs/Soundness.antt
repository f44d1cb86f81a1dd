-- Bad draws (challenges): elements at which a polynomial that was sent has the value of the true one, though it is another.
use Rattle.std.specs.Prelude.{ℕ, ◌≡◌, ◌+◌, ◌<◌, Bool, true, List, length, take, slice_index_or, All, AllPairs}
use Rattle.blic_field.specs.Field.{modulus}
use Rattle.blic_field.specs.Quadratic.{Quadratic, at}
use Rattle.blic_model.specs.declared.node.Node.{Node}
use Rattle.blic_model.specs.Circuit.{node_at, free}
use Rattle.blic_model.specs.Counts.{is_binary}
use Rattle.blic_model.specs.Reduction.{poly}
use Rattle.blic_claims.specs.Claims.{Transcript, claims_on, claim_at, point_at}
use Rattle.blic_claims.specs.Turns.{Turn, ForPolys, ForValues, Reply, transcript, draw_number, polys_number}
use Rattle.blic_verifier.specs.Acceptance.{sent}

-- the true polynomial for claim j at free level i of node k: the one that an honest prover sends
abbrev pub true_poly : List Node → ℕ → Transcript → ℕ → ℕ → ℕ → Quadratic
true_poly nodes levels T k i j = poly nodes levels k i (point_at nodes levels T k (claim_at nodes levels T k j) (i + 1))

-- for some claim on node k the polynomial sent at free level i isn't the true one, and r is a root of their difference, which isn't zero
abbrev pub IsRootAt : List Node → ℕ → Transcript → ℕ → ℕ → ℕ → Type 0
IsRootAt nodes levels T k i r =
    (j : ℕ) × (j < length (claims_on nodes levels T k))
    × (sent T k i j ≡ true_poly nodes levels T k i j → ⊥)
    × (at (sent T k i j) r ≡ at (true_poly nodes levels T k i j) r)

-- what was said before the draw at free level i of node k: the answer, the draws before it, and the replies up to the polynomials for that level
abbrev pub said_before : List Node → ℕ → Bool → List ℕ → List Reply → ℕ → ℕ → Transcript
said_before nodes levels answer draws replies k i =
    transcript nodes levels answer (take (draw_number nodes levels k i) draws) (take (polys_number nodes levels k i + 1) replies)

-- r is bad for the draw at free level i of node k, by what was said before it
abbrev pub IsBad : List Node → ℕ → Bool → List ℕ → List Reply → ℕ → ℕ → ℕ → Type 0
IsBad nodes levels answer draws replies k i r = IsRootAt nodes levels (said_before nodes levels answer draws replies k i) k i r

-- different bad elements for a turn; none if the turn has no draw
abbrev pub AreBadAt : List Node → ℕ → Bool → List ℕ → List Reply → Turn → List ℕ → Type 0
AreBadAt nodes levels answer draws replies (ForPolys k i) elements =
    AllPairs (λ x y. x ≡ y → ⊥) elements × All (λ r. (r < modulus) × IsBad nodes levels answer draws replies k i r) elements
AreBadAt nodes levels answer draws replies (ForValues k) elements = length elements ≡ 0

-- some draw of the conversation is bad
abbrev pub SomeDrawIsBad : List Node → ℕ → Bool → List ℕ → List Reply → Type 0
SomeDrawIsBad nodes levels answer draws replies =
    (k : ℕ) × (i : ℕ) × (k < length nodes) × (is_binary (node_at nodes k) ≡ true) × (i < length (free nodes levels k))
    × IsBad nodes levels answer draws replies k i (slice_index_or draws (draw_number nodes levels k i) 0)
