-- The limits of a circuit: at most 65,536 claims on a binary node and 16,777,216 points.
use Rattle.std.specs.Prelude.{◌≡◌, ℕ, ◌+◌, ◌<◌, ◌≤◌, true, List, length}
use Rattle.blic_model.specs.declared.node.Node.{Node}
use Rattle.blic_model.specs.Circuit.{node_at}
use Rattle.blic_model.specs.Counts.{is_binary, claims, points}

abbrev pub most_claims : ℕ
most_claims = 65536

abbrev pub most_points : ℕ
most_points = 16777216

-- no binary node from number k on has too many claims
abbrev pub FewClaimsFrom : List Node → ℕ → Type 0
FewClaimsFrom nodes k = (j : ℕ) → k ≤ j → j < length nodes → is_binary (node_at nodes j) ≡ true → claims nodes j ≤ most_claims

-- node k is the greatest binary one with too many claims, and has that many
abbrev pub IsGreatestOver : List Node → ℕ → ℕ → Type 0
IsGreatestOver nodes k count =
    (k < length nodes) × (is_binary (node_at nodes k) ≡ true) × (count ≡ claims nodes k) × (most_claims < count) × FewClaimsFrom nodes (k + 1)

-- there are too many points, and that many; no node has too many claims
abbrev pub HasManyPoints : List Node → ℕ → ℕ → Type 0
HasManyPoints nodes levels count = FewClaimsFrom nodes 0 × (count ≡ points nodes levels) × (most_points < count)

abbrev pub IsWithinLimits : List Node → ℕ → Type 0
IsWithinLimits nodes levels = FewClaimsFrom nodes 0 × (points nodes levels ≤ most_points)
