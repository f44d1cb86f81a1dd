-- Some draw of a transcript is a root at its place.
use Rattle.std.proofs.Common.{ℕ, ◌≡◌, ◌<◌, List, length, true}
use Rattle.blic_model.specs.declared.node.Node.{Node}
use Rattle.blic_model.specs.Circuit.{node_at, free}
use Rattle.blic_model.specs.Counts.{is_binary}
use Rattle.blic_claims.specs.Claims.{Transcript}
use Rattle.blic_verifier.specs.Soundness.{IsRootAt}

abbrev pub SomeRootIsDrawn : List Node → ℕ → Transcript → Type 0
SomeRootIsDrawn nodes levels T =
    (k : ℕ) × (i : ℕ) × (k < length nodes) × (is_binary (node_at nodes k) ≡ true) × (i < length (free nodes levels k)) × IsRootAt nodes levels T k i (T.draw k i)
