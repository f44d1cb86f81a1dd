-- One node more, where no graph is kept.
use Rattle.std.proofs.Common.{arith, ℕ, ◌+◌, ◌-◌, ◌<◌, ◌≤◌, ◌≡◌, refl, sym, ◌∙◌, ap, subst, List, Option, [], ◌∷◌, ◌++◌, length, Bool}
use Rattle.std.specs.Prelude.{◌==◌, ◌&&◌, slice_index_or}
use Rattle.std.proofs.lemmas.Bool.{lt-ltb}
use Rattle.std.proofs.lemmas.List.{length_push}
use Rattle.blic_model.specs.declared.node.Node.{Node}
use Rattle.blic_model.specs.Circuit.{node_at, root}
use Rattle.blic_model.specs.Shape.{IsShaped}
use Rattle.blic_model.specs.Value.{holds}
use Rattle.blic_model.proofs.Shaped.{size_of}
use Rattle.blic_store.specs.Growth.{Diagrams}
use Rattle.blic_graph.specs.declared.pair.Pair.{Pair}
use Rattle.blic_solve.specs.Plan.{IsNodeLimit, IsPairLimit, pair_count}
use Rattle.blic_solve.specs.Step.{IsStep, PassesNodes, PassesPairs}
use Rattle.blic_solve.specs.Progress.{IsRooted, IsSolvedUpTo, Rooted, is_true_root, with_graphs}
use Rattle.blic_solve.proofs.Adding.{added, all_solved, nodes_refused, none_solved, pairs_refused}
use Rattle.blic_solve.proofs.Pushed.{GraphsGrow}
use Rattle.blic_solve.proofs.TrueRoot.{answer_is}

module _ (nodes : List Node) (levels : ℕ) (inside now : Rooted) (same : inside ≡ now) (shaped : IsShaped nodes levels) (u : IsRooted nodes levels now.store.limit now)
    (n : ℕ) (here : n ≡ length inside.roots) (node : Node) (is : node ≡ node_at nodes n) where
  rooted : IsRooted nodes levels inside.store.limit inside
  rooted = subst (λ r. IsRooted nodes levels r.store.limit r) (sym same) u

  at_end : node ≡ node_at nodes (length inside.roots)
  at_end = is ∙ ap (node_at nodes) here

  pub rooted_pairs : n < length nodes → PassesPairs inside.store.nodes inside.roots node (inside.most - inside.listed) → IsPairLimit nodes levels now.store.limit now.most n
  rooted_pairs l g =
      subst (λ k. IsPairLimit nodes levels now.store.limit now.most k) (sym here)
      (subst (λ (r : Rooted). IsPairLimit nodes levels r.store.limit r.most (length inside.roots)) same
      (pairs_refused nodes levels inside.most (length inside.roots) inside.listed (with_graphs inside rooted.0) (with_graphs inside rooted.0) refl shaped rooted.1 node at_end (omega arith) g))

  pub rooted_nodes : n < length nodes → PassesNodes inside.roots node (inside.most - inside.listed) inside.store → IsNodeLimit nodes levels now.store.limit now.most n
  rooted_nodes l g =
      subst (λ k. IsNodeLimit nodes levels now.store.limit now.most k) (sym here)
      (subst (λ (r : Rooted). IsNodeLimit nodes levels r.store.limit r.most (length inside.roots)) same
      (nodes_refused nodes levels inside.most (length inside.roots) inside.listed (with_graphs inside rooted.0) (with_graphs inside rooted.0) refl shaped rooted.1 node at_end (omega arith) g))

  pub rooted_more : GraphsGrow → (new : Diagrams) (r : ℕ) (graph : Option (List Pair)) → IsStep inside.roots node (inside.most - inside.listed) inside.store new r graph → length new.nodes ≤ new.limit
      → (more : ℕ) → more ≡ pair_count graph → (after : Rooted) → after ≡ record { store = new; roots = inside.roots ++ r ∷ []; listed = inside.listed + more; most = inside.most }
      → IsRooted nodes levels now.store.limit after
  rooted_more grow new r graph s room more count after is_after =
      subst (λ (p : Rooted). IsRooted nodes levels p.store.limit after) same
      (subst (λ (p : Rooted). IsRooted nodes levels inside.store.limit p) (sym is_after) (
        rooted.0 ++ graph ∷ [],
        subst (λ k. IsSolvedUpTo nodes levels inside.store.limit inside.most k (with_graphs pushed (rooted.0 ++ graph ∷ [])) (inside.listed + more)) (sym (length_push inside.roots r))
            (added nodes levels inside.most (length inside.roots) inside.listed (with_graphs inside rooted.0) (with_graphs inside rooted.0) refl shaped rooted.1 node at_end grow new r graph s room more count
            (with_graphs pushed (rooted.0 ++ graph ∷ [])) refl),
      ))
    where
      pushed : Rooted
      pushed = record { store = new; roots = inside.roots ++ r ∷ []; listed = inside.listed + more; most = inside.most }

pub none_rooted : (nodes : List Node) (levels most_nodes most : ℕ) (r : Rooted) → r ≡ record { store = record { nodes = []; limit = most_nodes }; roots = []; listed = 0; most = most } → IsRooted nodes levels most_nodes r
none_rooted nodes levels most_nodes most r e =
    subst (IsRooted nodes levels most_nodes) (sym e) ([], none_solved nodes levels most_nodes most (record { store = record { nodes = []; limit = most_nodes }; roots = []; graphs = [] }) refl)

pub rooted_answer : (nodes : List Node) (levels most_nodes : ℕ) (r : Rooted) → IsShaped nodes levels → IsRooted nodes levels most_nodes r → length r.roots ≡ length nodes
    → (answer : Bool) → answer ≡ is_true_root r.roots → (a : ℕ → Bool) → answer ≡ holds nodes (root nodes) a
rooted_answer nodes levels most_nodes r shaped u e answer is a =
    let some = (size_of nodes levels shaped).0 in
    let all : IsSolvedUpTo nodes levels most_nodes r.most (length nodes) (with_graphs r u.0) r.listed = subst (λ k. IsSolvedUpTo nodes levels most_nodes r.most k (with_graphs r u.0) r.listed) e u.1 in
    is ∙ (ap (λ b. b && (slice_index_or r.roots (length r.roots - 1) 0 == 1)) (lt-ltb 0 (length r.roots) (omega arith))
    ∙ answer_is nodes levels (with_graphs r u.0) u.1.canonical shaped (all_solved nodes levels most_nodes r.most (with_graphs r u.0) r.listed shaped all) (slice_index_or r.roots (length r.roots - 1) 0) refl a)
