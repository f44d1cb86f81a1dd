-- One node's step: its function, its pairs, and the parts that the store then has.
use Rattle.std.proofs.Common.{arith, ℕ, suc, ◌+◌, ◌-◌, ◌<◌, ◌≤◌, ◌≡◌, ◌≢◌, refl, sym, ◌∙◌, ap, subst, inl, inr, List, [], ◌∷◌, ◌++◌, length, Option, Some, None, IsSomeAnd}
use Rattle.std.specs.Prelude.{sum_by}
use Rattle.std.proofs.lemmas.Bool.{cases_lt, cases_eq}
use Rattle.std.proofs.lemmas.List.{get_or_append_left, get_or_push, length_push}
use Rattle.std.proofs.lemmas.List.Sums.{sum_by_push}
use Rattle.blic_model.specs.declared.node.Node.{Node}
use Rattle.blic_model.specs.declared.node.Node.TheVariants.{Const, Var, Not, Fix, And, Or}
use Rattle.blic_model.specs.Circuit.{node_at, below}
use Rattle.blic_model.specs.Value.{holds}
use Rattle.blic_model.specs.Shape.{IsShaped}
use Rattle.blic_model.specs.Subfunctions.{node_pairs, operand_pairs, pairs_of, pairs, size}
use Rattle.blic_model.proofs.Ordered.{ChildrenBelow}
use Rattle.blic_store.specs.declared.decision.Decision.{Decision}
use Rattle.blic_store.specs.Function.{Function, Same}
use Rattle.blic_store.specs.Diagram.{IsRef, function}
use Rattle.blic_store.specs.Canonical.{IsCanonical}
use Rattle.blic_store.specs.Growth.{Diagrams, Adds}
use Rattle.blic_store.proofs.Parts.{function-kept, no_shorter}
use Rattle.blic_graph.specs.declared.pair.Pair.{Pair}
use Rattle.blic_graph.specs.Pairs.{IsGraph}
use Rattle.blic_solve.specs.Plan.{Solved, root_of, graph_of, pair_count, HasGraph, HasParts, IsSolved, IsWithin, IsPairLimit, IsNodeLimit}
use Rattle.blic_solve.specs.Step.{function_of, IsGraphOf, PassesPairs, IsFewOf, IsStep, PassesNodes}
use Rattle.blic_solve.specs.Progress.{IsSolvedUpTo}
use Rattle.blic_solve.proofs.Holds.{ordered, looks_below, step_same}
use Rattle.blic_solve.proofs.Sizes.{StandsFor, size_at_least, size_exact}
use Rattle.blic_solve.proofs.OperandPairs.{AreOperands, graph_length, more_pairs}

-- the law of graphs in stores that grow
abbrev pub GraphsGrow : Type 0
GraphsGrow = (f : Function) (old new : List Decision) (a b : ℕ) (pairs : List Pair) → IsCanonical old → IsRef old a → IsRef old b → Adds f old new → IsGraph old a b pairs → IsGraph new a b pairs

pairs_so_far : (nodes : List Node) (levels k : ℕ) → sum_by (pairs_of nodes levels) (below (suc k)) ≡ pairs nodes levels k
unfolding pairs
pairs_so_far nodes levels k = refl

-- a node's children are before each later node
children_later : (j k : ℕ) (m : Node) → j < k → ChildrenBelow j m → ChildrenBelow k m
children_later j k (Const b) l o = tt
children_later j k (Var x) l o = tt
children_later j k (Not a) l o = omega arith
children_later j k (Fix x b a) l o = omega arith
children_later j k (And a b) l o = (let x = o.0 in omega arith, let y = o.1 in omega arith)
children_later j k (Or a b) l o = (let x = o.0 in omega arith, let y = o.1 in omega arith)

graph_to : (plan : Solved) (k : ℕ) (m : Node) → HasGraph plan k m → IsGraphOf plan.store.nodes plan.roots m (graph_of plan k)
graph_to plan k (Const b) h = h
graph_to plan k (Var x) h = h
graph_to plan k (Not a) h = h
graph_to plan k (Fix x b a) h = h
graph_to plan k (And a b) h = h
graph_to plan k (Or a b) h = h

graph_from : (plan : Solved) (k : ℕ) (m : Node) → IsGraphOf plan.store.nodes plan.roots m (graph_of plan k) → HasGraph plan k m
graph_from plan k (Const b) h = h
graph_from plan k (Var x) h = h
graph_from plan k (Not a) h = h
graph_from plan k (Fix x b a) h = h
graph_from plan k (And a b) h = h
graph_from plan k (Or a b) h = h

pub pairs_next : (nodes : List Node) (levels k : ℕ) → pairs nodes levels k ≡ sum_by (pairs_of nodes levels) (below k) + pairs_of nodes levels k
unfolding pairs below
pairs_next nodes levels k = sum_by_push (pairs_of nodes levels) (below k) k

-- Decisions that parts of node n are added to.
parts_grow : (nodes : List Node) (n : ℕ) (f : Function) (old new : List Decision) → Same f (holds nodes n) → HasParts nodes n old → Adds f old new → HasParts nodes (suc n) new
parts_grow nodes n f old new e parts adds r two h = elim (cases_lt r (length old + 2)) [
  | inl l ↦ (let w = parts r two l in let b = w.before in record {
    node = w.node;
    before = omega arith;
    part = (w.part.0, λ p. ap (λ z. z p) (function-kept f old new adds r l) ∙ w.part.1 p);
  })
  | inr l ↦ (let w = adds.parts r l h in record { node = n; before = omega arith; part = (w.0, λ p. w.1 p ∙ e _) })
]

module _ (nodes : List Node) (levels most_nodes most_pairs k : ℕ) (plan : Solved) (listed : ℕ) (shaped : IsShaped nodes levels)
    (u : IsSolvedUpTo nodes levels most_nodes most_pairs k plan listed) where
  node_function : Same (function_of plan.store.nodes plan.roots (node_at nodes k)) (holds nodes k)
  node_function = step_same nodes k (λ j. function plan.store.nodes (root_of plan j)) (λ j l. (u.solved j l).value) (ordered nodes levels shaped k)

  operand : (j : ℕ) → j < k → StandsFor plan.store.nodes (root_of plan j) (holds nodes j)
  operand j l = record { held = (u.solved j l).held; value = (u.solved j l).value }

  operands : (a b : ℕ) → a < k → b < k → AreOperands nodes levels plan.store.nodes a b (root_of plan a) (root_of plan b)
  operands a b ha hb = record { canonical = u.canonical; first = operand a ha; second = operand b hb; looks = looks_below nodes levels shaped }

  operand_pairs_are : (a b : ℕ) → a < k → b < k → (graph : Option (List Pair)) → IsSomeAnd graph (IsGraph plan.store.nodes (root_of plan a) (root_of plan b))
      → pair_count graph ≡ operand_pairs nodes levels a b
  operand_pairs_are a b ha hb None g = absurd g
  operand_pairs_are a b ha hb (Some pairs) g = graph_length nodes levels plan.store.nodes a b (root_of plan a) (root_of plan b) (operands a b ha hb) pairs g

  node_pairs_are : (m : Node) → ChildrenBelow k m → (graph : Option (List Pair)) → IsGraphOf plan.store.nodes plan.roots m graph → pair_count graph ≡ node_pairs nodes levels m
  node_pairs_are (Const b) o graph g = ap pair_count g
  node_pairs_are (Var x) o graph g = ap pair_count g
  node_pairs_are (Not a) o graph g = ap pair_count g
  node_pairs_are (Fix x b a) o graph g = ap pair_count g
  node_pairs_are (And a b) o graph g = operand_pairs_are a b o.0 o.1 graph g
  node_pairs_are (Or a b) o graph g = operand_pairs_are a b o.0 o.1 graph g

  pairs_are : (graph : Option (List Pair)) → IsGraphOf plan.store.nodes plan.roots (node_at nodes k) graph → pair_count graph ≡ pairs_of nodes levels k
  unfolding pairs_of
  pairs_are = node_pairs_are (node_at nodes k) (ordered nodes levels shaped k)

  node_pairs_pass : (m : Node) → ChildrenBelow k m → (most : ℕ) → PassesPairs plan.store.nodes plan.roots m most → most < node_pairs nodes levels m
  node_pairs_pass (Const b) o most g = absurd g
  node_pairs_pass (Var x) o most g = absurd g
  node_pairs_pass (Not a) o most g = absurd g
  node_pairs_pass (Fix x b a) o most g = absurd g
  node_pairs_pass (And a b) o most g = more_pairs nodes levels plan.store.nodes a b (root_of plan a) (root_of plan b) (operands a b o.0 o.1) most g
  node_pairs_pass (Or a b) o most g = more_pairs nodes levels plan.store.nodes a b (root_of plan a) (root_of plan b) (operands a b o.0 o.1) most g

  pairs_pass : (most : ℕ) → PassesPairs plan.store.nodes plan.roots (node_at nodes k) most → most < pairs_of nodes levels k
  unfolding pairs_of
  pairs_pass = node_pairs_pass (node_at nodes k) (ordered nodes levels shaped k)

  -- Too many pairs for those that may still be listed.
  pub pair_limit : k < length nodes → PassesPairs plan.store.nodes plan.roots (node_at nodes k) (most_pairs - listed) → IsPairLimit nodes levels most_nodes most_pairs k
  pair_limit l g =
      let more = pairs_pass (most_pairs - listed) g in
      let few = u.few in
      let sum = u.counted in
      let next = pairs_next nodes levels k in
      record { in_range = l; before = u.within; passed = omega arith }

  few_pairs : (graph : Option (List Pair)) → IsFewOf (IsGraphOf plan.store.nodes plan.roots (node_at nodes k)) (most_pairs - listed) graph → (pairs nodes levels k ≡ listed + pair_count graph) × (pairs nodes levels k ≤ most_pairs)
  few_pairs graph g =
      let are = pairs_are graph g.graph_is in
      let less = g.few in
      let few = u.few in
      let sum = u.counted in
      let next = pairs_next nodes levels k in
      (omega arith, omega arith)

  parts_next : (new : List Decision) → Adds (function_of plan.store.nodes plan.roots (node_at nodes k)) plan.store.nodes new → HasParts nodes (suc k) new
  parts_next new adds = parts_grow nodes k (function_of plan.store.nodes plan.roots (node_at nodes k)) plan.store.nodes new node_function u.parts adds

  -- Too many parts for the store, where the pairs are few.
  pub node_limit : k < length nodes → PassesNodes plan.roots (node_at nodes k) (most_pairs - listed) plan.store → IsNodeLimit nodes levels most_nodes most_pairs k
  node_limit l g =
      let new = g.passed.0 in
      let adds = g.passed.1 in
      let more = g.passed.2 in
      let least = size_at_least nodes levels k new adds.canonical (looks_below nodes levels shaped) (parts_next new adds) in
      let limit = u.limit in
      record { in_range = l; before = u.within; few_pairs = (few_pairs g.graph g.pairs).1; passed = omega arith }

  module _ (grow : GraphsGrow) (new : Diagrams) (r : ℕ) (graph : Option (List Pair)) (s : IsStep plan.roots (node_at nodes k) (most_pairs - listed) plan.store new r graph) where
    -- the plan with the node's ref and its pairs
    abbrev pub pushed : Solved
    pushed = record { store = new; roots = plan.roots ++ r ∷ []; graphs = plan.graphs ++ graph ∷ [] }

    adds : Adds (function_of plan.store.nodes plan.roots (node_at nodes k)) plan.store.nodes new.nodes
    adds = s.answers.adds

    root_kept : (j : ℕ) → j < k → root_of pushed j ≡ root_of plan j
    root_kept j l = let e = u.roots in get_or_append_left plan.roots (r ∷ []) 0 j (omega arith)

    graph_kept : (j : ℕ) → j < k → graph_of pushed j ≡ graph_of plan j
    graph_kept j l = let e = u.graphs in get_or_append_left plan.graphs (graph ∷ []) None j (omega arith)

    root_here : root_of pushed k ≡ r
    root_here = get_or_push plan.roots r 0 k u.roots

    graph_here : graph_of pushed k ≡ graph
    graph_here = get_or_push plan.graphs graph None k u.graphs

    held_kept : (j : ℕ) → j < k → IsRef new.nodes (root_of pushed j)
    held_kept j l =
        let held = (u.solved j l).held in
        let longer = no_shorter _ plan.store.nodes new.nodes adds in
        subst (IsRef new.nodes) (sym (root_kept j l)) (let h : root_of plan j < length new.nodes + 2 = omega arith in h)

    value_kept : (j : ℕ) → j < k → Same (function new.nodes (root_of pushed j)) (holds nodes j)
    value_kept j l p = ap (λ z. function new.nodes z p) (root_kept j l)
        ∙ (ap (λ z. z p) (function-kept _ plan.store.nodes new.nodes adds (root_of plan j) (u.solved j l).held) ∙ (u.solved j l).value p)

    -- the graph of two earlier nodes
    pairs_kept : (a b : ℕ) → a < k → b < k → (pairs : List Pair)
        → IsGraph plan.store.nodes (root_of plan a) (root_of plan b) pairs → IsGraph new.nodes (root_of pushed a) (root_of pushed b) pairs
    pairs_kept a b ha hb pairs h =
        subst (λ x. IsGraph new.nodes x (root_of pushed b) pairs) (sym (root_kept a ha))
        (subst (λ y. IsGraph new.nodes (root_of plan a) y pairs) (sym (root_kept b hb))
        (grow _ plan.store.nodes new.nodes (root_of plan a) (root_of plan b) pairs u.canonical (u.solved a ha).held (u.solved b hb).held adds h))

    some_kept : (a b : ℕ) → a < k → b < k → (graph : Option (List Pair))
        → IsSomeAnd graph (IsGraph plan.store.nodes (root_of plan a) (root_of plan b)) → IsSomeAnd graph (IsGraph new.nodes (root_of pushed a) (root_of pushed b))
    some_kept a b ha hb None h = absurd h
    some_kept a b ha hb (Some pairs) h = pairs_kept a b ha hb pairs h

    binary_kept : (a b : ℕ) → a < k → b < k → (old_graph new_graph : Option (List Pair)) → new_graph ≡ old_graph
        → IsSomeAnd old_graph (IsGraph plan.store.nodes (root_of plan a) (root_of plan b)) → IsSomeAnd new_graph (IsGraph new.nodes (root_of pushed a) (root_of pushed b))
    binary_kept a b ha hb old_graph new_graph e h =
        subst (λ g. IsSomeAnd g (IsGraph new.nodes (root_of pushed a) (root_of pushed b))) (sym e) (some_kept a b ha hb old_graph h)

    has_kept : (m : Node) → ChildrenBelow k m → (old_graph new_graph : Option (List Pair)) → new_graph ≡ old_graph
        → IsGraphOf plan.store.nodes plan.roots m old_graph → IsGraphOf new.nodes pushed.roots m new_graph
    has_kept (Const b) o g n e h = e ∙ h
    has_kept (Var x) o g n e h = e ∙ h
    has_kept (Not a) o g n e h = e ∙ h
    has_kept (Fix x b a) o g n e h = e ∙ h
    has_kept (And a b) o g n e h = binary_kept a b o.0 o.1 g n e h
    has_kept (Or a b) o g n e h = binary_kept a b o.0 o.1 g n e h

    solved_before : (j : ℕ) → j < k → IsSolved nodes levels pushed j
    solved_before j l = record {
      held = held_kept j l;
      value = value_kept j l;
      graph = graph_from pushed j (node_at nodes j) (has_kept (node_at nodes j) (children_later j k (node_at nodes j) l (ordered nodes levels shaped j)) (graph_of plan j) (graph_of pushed j)
          (graph_kept j l) (graph_to plan j (node_at nodes j) (u.solved j l).graph));
      pairs = ap pair_count (graph_kept j l) ∙ (u.solved j l).pairs;
    }

    solved_here : IsSolved nodes levels pushed k
    solved_here = record {
      held = subst (IsRef new.nodes) (sym root_here) s.answers.held;
      value = λ p. ap (λ z. function new.nodes z p) root_here ∙ (s.answers.value p ∙ node_function p);
      graph = graph_from pushed k (node_at nodes k) (has_kept (node_at nodes k) (ordered nodes levels shaped k) graph (graph_of pushed k) graph_here s.pairs.graph_is);
      pairs = ap pair_count graph_here ∙ pairs_are graph s.pairs.graph_is;
    }

    solved_next : (j : ℕ) → j < suc k → IsSolved nodes levels pushed j
    solved_next j l = elim (cases_eq j k) [
      | inl e ↦ subst (IsSolved nodes levels pushed) (sym e) solved_here
      | inr ne ↦ solved_before j (let m : j ≢ k = ne in omega arith)
    ]

    -- The store then has the subfunctions so far and no more.
    size_next : length new.nodes ≡ size nodes levels k
    size_next = size_exact nodes levels k new.nodes adds.canonical (looks_below nodes levels shaped) (parts_next new.nodes adds)
        (λ j l. (root_of pushed j, record { held = (solved_next j l).held; value = (solved_next j l).value }))

    within_here : length new.nodes ≤ new.limit → IsWithin nodes levels most_nodes most_pairs k
    within_here room =
        let limit = u.limit in
        let same = s.answers.same_limit in
        let size = size_next in
        record { few_pairs = (few_pairs graph s.pairs).1; few_nodes = omega arith }

    -- The plan with the node's ref and pairs has one node more.
    pub next : length new.nodes ≤ new.limit → IsSolvedUpTo nodes levels most_nodes most_pairs (suc k) pushed (listed + pair_count graph)
    next room =
        let r_count = u.roots in
        let g_count = u.graphs in
        let r_more = length_push plan.roots r in
        let g_more = length_push plan.graphs graph in
        let p = few_pairs graph s.pairs in
        let sum = u.counted in
        let more = pairs_next nodes levels k in
        record {
          roots = omega arith;
          graphs = omega arith;
          solved = solved_next;
          canonical = adds.canonical;
          parts = parts_next new.nodes adds;
          limit = s.answers.same_limit ∙ u.limit;
          counted = pairs_so_far nodes levels k ∙ p.0;
          few = omega (arith, p.0, p.1);
          within = λ j l. elim (cases_eq j k) [
            | inl e ↦ subst (IsWithin nodes levels most_nodes most_pairs) (sym e) (within_here room)
            | inr ne ↦ u.within j (let m : j ≢ k = ne in omega arith)
          ];
        }
