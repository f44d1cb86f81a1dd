-- One node more, where the plan is seen by its fields.
use Rattle.std.proofs.Common.{arith, ℕ, suc, ◌+◌, ◌-◌, ◌<◌, ◌≤◌, ◌≡◌, refl, sym, subst, List, Option, [], ◌∷◌, ◌++◌, length}
use Rattle.std.specs.Prelude.{sum_by}
use Rattle.blic_model.specs.declared.node.Node.{Node}
use Rattle.blic_model.specs.Circuit.{node_at, below}
use Rattle.blic_model.specs.Shape.{IsShaped}
use Rattle.blic_model.specs.Subfunctions.{pairs_of}
use Rattle.blic_store.specs.Growth.{Diagrams}
use Rattle.blic_graph.specs.declared.pair.Pair.{Pair}
use Rattle.blic_solve.specs.Plan.{Solved, HasParts, root_of, pair_count, IsPairLimit, IsNodeLimit, IsPlan}
use Rattle.blic_solve.specs.Step.{PassesPairs, IsStep, PassesNodes}
use Rattle.blic_solve.specs.Progress.{IsSolvedUpTo}
use Rattle.blic_solve.proofs.Holds.{looks_below}
use Rattle.blic_solve.proofs.Sizes.{size_exact}
use Rattle.blic_solve.proofs.Pushed.{GraphsGrow, pair_limit, node_limit, next}

module _ (nodes : List Node) (levels most_pairs k listed : ℕ) (fields plan : Solved) (same : fields ≡ plan) (shaped : IsShaped nodes levels)
    (u : IsSolvedUpTo nodes levels plan.store.limit most_pairs k plan listed)
    (node : Node) (is : node ≡ node_at nodes k) where
  solved : IsSolvedUpTo nodes levels fields.store.limit most_pairs k fields listed
  solved = subst (λ p. IsSolvedUpTo nodes levels p.store.limit most_pairs k p listed) (sym same) u

  pub pairs_refused : k < length nodes → PassesPairs fields.store.nodes fields.roots node (most_pairs - listed) → IsPairLimit nodes levels plan.store.limit most_pairs k
  pairs_refused l g =
      subst (λ p. IsPairLimit nodes levels p.store.limit most_pairs k) same
      (pair_limit nodes levels fields.store.limit most_pairs k fields listed shaped solved l
      (subst (λ m. PassesPairs fields.store.nodes fields.roots m (most_pairs - listed)) is g))

  pub nodes_refused : k < length nodes → PassesNodes fields.roots node (most_pairs - listed) fields.store → IsNodeLimit nodes levels plan.store.limit most_pairs k
  nodes_refused l g =
      subst (λ p. IsNodeLimit nodes levels p.store.limit most_pairs k) same
      (node_limit nodes levels fields.store.limit most_pairs k fields listed shaped solved l
      (subst (λ m. PassesNodes fields.roots m (most_pairs - listed) fields.store) is g))

  pub added : GraphsGrow → (new : Diagrams) (r : ℕ) (graph : Option (List Pair)) → IsStep fields.roots node (most_pairs - listed) fields.store new r graph → length new.nodes ≤ new.limit
      → (more : ℕ) → more ≡ pair_count graph → (after : Solved) → after ≡ record { store = new; roots = fields.roots ++ r ∷ []; graphs = fields.graphs ++ graph ∷ [] }
      → IsSolvedUpTo nodes levels plan.store.limit most_pairs (k + 1) after (listed + more)
  added grow new r graph s room more count after is_after =
      subst (λ p. IsSolvedUpTo nodes levels p.store.limit most_pairs (k + 1) after (listed + more)) same
      (subst (λ p. IsSolvedUpTo nodes levels fields.store.limit most_pairs (k + 1) p (listed + more)) (sym is_after)
      (subst (λ n. IsSolvedUpTo nodes levels fields.store.limit most_pairs (k + 1) pushed (listed + n)) (sym count)
      (subst (λ n. IsSolvedUpTo nodes levels fields.store.limit most_pairs n pushed (listed + pair_count graph)) (let e : suc k ≡ k + 1 = omega arith in e)
      (next nodes levels fields.store.limit most_pairs k fields listed shaped solved grow new r graph (subst (λ m. IsStep fields.roots m (most_pairs - listed) fields.store new r graph) is s) room))))
    where
      pushed : Solved
      pushed = record { store = new; roots = fields.roots ++ r ∷ []; graphs = fields.graphs ++ graph ∷ [] }

none_listed : (nodes : List Node) (levels : ℕ) → sum_by (pairs_of nodes levels) (below 0) ≡ 0
unfolding below
none_listed nodes levels = refl

-- The plan of no node.
pub none_solved : (nodes : List Node) (levels most_nodes most_pairs : ℕ) (plan : Solved) → plan ≡ record { store = record { nodes = []; limit = most_nodes }; roots = []; graphs = [] }
    → IsSolvedUpTo nodes levels most_nodes most_pairs 0 plan 0
none_solved nodes levels most_nodes most_pairs plan e = subst (λ p. IsSolvedUpTo nodes levels most_nodes most_pairs 0 p 0) (sym e) (record {
  roots = refl;
  graphs = refl;
  solved = λ k l. absurd (omega arith);
  canonical = record { placed = λ k l. absurd (omega arith); unique = λ j k i l. absurd (omega arith) };
  parts = λ r two h. absurd (omega arith);
  limit = refl;
  counted = none_listed nodes levels;
  few = omega arith;
  within = λ k l. absurd (omega arith);
})

-- The plan of all nodes.
pub all_solved : (nodes : List Node) (levels most_nodes most_pairs : ℕ) (plan : Solved) (listed : ℕ) → IsShaped nodes levels
    → IsSolvedUpTo nodes levels most_nodes most_pairs (length nodes) plan listed → IsPlan nodes levels plan
all_solved nodes levels most_nodes most_pairs plan listed shaped u = record {
  roots = u.roots;
  solved = u.solved;
  parts = u.parts;
  exact = λ k e. size_exact nodes levels k plan.store.nodes u.canonical (looks_below nodes levels shaped)
      (let q : length nodes ≡ suc k = omega arith in subst (λ n. HasParts nodes n plan.store.nodes) q u.parts)
      (λ j l. (root_of plan j, record { held = (u.solved j (omega arith)).held; value = (u.solved j (omega arith)).value }));
}
