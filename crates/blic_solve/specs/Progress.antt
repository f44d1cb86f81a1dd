-- Private: how far a circuit is solved, for the steps of solving it.
use Rattle.std.specs.Prelude.{ℕ, ◌-◌, ◌<◌, ◌≤◌, ◌≡◌, ◌==◌, ◌&&◌, Bool, List, Option, length, nat_lt, slice_index_or, sum_by}
use Rattle.blic_model.specs.declared.node.Node.{Node}
use Rattle.blic_model.specs.Circuit.{below}
use Rattle.blic_model.specs.Subfunctions.{pairs_of}
use Rattle.blic_store.specs.Canonical.{IsCanonical}
use Rattle.blic_store.specs.Growth.{Diagrams}
use Rattle.blic_graph.specs.declared.pair.Pair.{Pair}
use Rattle.blic_solve.specs.Plan.{Solved, HasParts, IsSolved, IsWithin}

-- the first n nodes are solved, within the limits, and `listed` pairs are listed
pub record IsSolvedUpTo (nodes : List Node) (levels most_nodes most_pairs n : ℕ) (plan : Solved) (listed : ℕ) : Type 0 where
  pub roots : length plan.roots ≡ n
  pub graphs : length plan.graphs ≡ n
  pub solved : (k : ℕ) → k < n → IsSolved nodes levels plan k
  pub canonical : IsCanonical plan.store.nodes
  pub parts : HasParts nodes n plan.store.nodes
  pub limit : plan.store.limit ≡ most_nodes
  pub counted : sum_by (pairs_of nodes levels) (below n) ≡ listed
  pub few : listed ≤ most_pairs
  pub within : (k : ℕ) → k < n → IsWithin nodes levels most_nodes most_pairs k

-- what is kept if no graph is: the store, the ref of each node, how many pairs were listed, and how many may be
pub record Rooted : Type 0 where
  pub store : Diagrams
  pub roots : List ℕ
  pub listed : ℕ
  pub most : ℕ

abbrev pub with_graphs : Rooted → List (Option (List Pair)) → Solved
with_graphs r graphs = record { store = r.store; roots = r.roots; graphs = graphs }

-- with some graphs as many nodes are solved as there are roots
abbrev pub IsRooted : List Node → ℕ → ℕ → Rooted → Type 0
IsRooted nodes levels most_nodes r = (graphs : List (Option (List Pair))) × IsSolvedUpTo nodes levels most_nodes r.most (length r.roots) (with_graphs r graphs) r.listed

-- the last ref is true's
abbrev pub is_true_root : List ℕ → Bool
is_true_root roots = nat_lt 0 (length roots) && (slice_index_or roots (length roots - 1) 0 == 1)
