-- Claims whose points and values are held.
use Rattle.std.specs.Prelude.{ℕ, ◌≡◌, ◌<◌, cond, ◌==◌, List, slice_index_or, length}
use Rattle.blic_model.specs.declared.node.Node.{Node}
use Rattle.blic_model.specs.Circuit.{root, free}
use Rattle.blic_model.specs.Counts.{claims}
use Rattle.blic_claims.specs.Claims.{Transcript, claim_at, point_at}
use Rattle.blic_claims.specs.Places.{given}

-- how many claims on node a there are once the nodes from k up are taken
abbrev pub count_from : List Node → ℕ → ℕ → ℕ
count_from nodes k a = cond (a == root nodes) 1 (given nodes k a)

-- the claims on the nodes below `bound` that the nodes from k up hand down are held: coordinates x and values v
pub record AreHeld (nodes : List Node) (levels : ℕ) (T : Transcript) (k bound : ℕ) (x : ℕ → ℕ → ℕ → ℕ) (v : ℕ → ℕ → ℕ) : Type 0 where
  pub point : (a c f : ℕ) → a < bound → c < count_from nodes k a → f < length (free nodes levels a)
      → x a c f ≡ (claim_at nodes levels T a c).point (slice_index_or (free nodes levels a) f 0)
  pub value : (a c : ℕ) → a < bound → c < count_from nodes k a → v a c ≡ (claim_at nodes levels T a c).value

-- the points of the claims on node k, with its free levels from i up drawn
abbrev pub HasPoints : List Node → ℕ → Transcript → ℕ → ℕ → (ℕ → ℕ → ℕ → ℕ) → Type 0
HasPoints nodes levels T k i x =
    (c f : ℕ) → c < claims nodes k → f < length (free nodes levels k)
    → x k c f ≡ point_at nodes levels T k (claim_at nodes levels T k c) i (slice_index_or (free nodes levels k) f 0)
