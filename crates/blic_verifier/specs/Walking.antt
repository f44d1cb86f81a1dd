-- Private: a verifier between two binary nodes.
use Rattle.std.specs.Prelude.{ℕ, suc, ◌≡◌, ◌<◌, ◌≤◌, Bool, List, length, filter, find, None, nat_lt}
use Rattle.blic_model.specs.declared.node.Node.{Node}
use Rattle.blic_model.specs.Circuit.{node_at}
use Rattle.blic_model.specs.Counts.{draws as draw_count}
use Rattle.blic_claims.specs.Claims.{Transcript, claims_on}
use Rattle.blic_claims.specs.Turns.{Reply, AllFit, transcript, turns, draws_above, replies_above}
use Rattle.blic_verifier.specs.Acceptance.{Check, node_checks, fails}
use Rattle.blic_claims.specs.Held.{AreHeld}

-- the conditions of node k
abbrev pub conditions : List Node → ℕ → Transcript → ℕ → List Check
conditions nodes levels T k = node_checks nodes levels T k (node_at nodes k) (claims_on nodes levels T k)

-- no condition of the nodes from k up that the first n replies show fails
abbrev pub IsClear : List Node → ℕ → Transcript → ℕ → ℕ → Type 0
IsClear nodes levels T n k =
    (j : ℕ) → k ≤ j → j < length nodes → find fails (filter (λ c. nat_lt c.reply n) (conditions nodes levels T j)) ≡ None

-- the nodes from k up are taken
pub record IsWalking (nodes : List Node) (levels : ℕ) (answer : Bool) (draws : List ℕ) (replies : List Reply) (k : ℕ) (x : ℕ → ℕ → ℕ → ℕ) (v : ℕ → ℕ → ℕ) : Type 0 where
  pub inside : k ≤ length nodes
  pub below : AreHeld nodes levels (transcript nodes levels answer draws replies) k k x v
  pub clear : IsClear nodes levels (transcript nodes levels answer draws replies) (suc (length replies)) k
  pub reply_count : (j : ℕ) → suc j ≡ k → length replies ≡ replies_above nodes levels j
  pub draws_made : (j : ℕ) → suc j ≡ k → length draws ≡ draws_above nodes levels j
  pub complete : k ≡ 0 → (length replies ≡ length (turns nodes levels)) × (length draws ≡ draw_count nodes levels)
  pub fitting : AllFit nodes levels replies
