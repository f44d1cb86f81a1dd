-- Private: what one node adds to a plan: the ref of its function, made of those of its children, and the pairs of its operands.
use Rattle.std.specs.Prelude.{ℕ, ◌≤◌, ◌≡◌, List, Option, None, IsSomeAnd, slice_index_or}
use Rattle.blic_model.specs.declared.node.Node.{Node}
use Rattle.blic_model.specs.declared.node.Node.TheVariants.{Const, Var, Not, Fix, And, Or}
use Rattle.blic_model.specs.Value.{holds_step}
use Rattle.blic_store.specs.declared.decision.Decision.{Decision}
use Rattle.blic_store.specs.Function.{Function}
use Rattle.blic_store.specs.Diagram.{function}
use Rattle.blic_store.specs.Growth.{Diagrams, Answers, PassesLimit}
use Rattle.blic_graph.specs.declared.pair.Pair.{Pair}
use Rattle.blic_graph.specs.Pairs.{IsGraph, PassesMost}
use Rattle.blic_solve.specs.Plan.{pair_count}

-- the function that a node makes of those of its children
abbrev pub function_of : List Decision → List ℕ → Node → Function
function_of decisions roots node p = holds_step 0 node (λ child. function decisions (slice_index_or roots child 0)) p

-- the graph lists the pairs of a binary node's operands, and there is none if it isn't binary
abbrev pub IsGraphOf : List Decision → List ℕ → Node → Option (List Pair) → Type 0
IsGraphOf decisions roots (Const b) graph = graph ≡ None
IsGraphOf decisions roots (Var x) graph = graph ≡ None
IsGraphOf decisions roots (Not a) graph = graph ≡ None
IsGraphOf decisions roots (Fix x b a) graph = graph ≡ None
IsGraphOf decisions roots (And a b) graph = IsSomeAnd graph (IsGraph decisions (slice_index_or roots a 0) (slice_index_or roots b 0))
IsGraphOf decisions roots (Or a b) graph = IsSomeAnd graph (IsGraph decisions (slice_index_or roots a 0) (slice_index_or roots b 0))

-- a binary node's operands have more pairs than `most`
abbrev pub PassesPairs : List Decision → List ℕ → Node → ℕ → Type 0
PassesPairs decisions roots (Const b) most = ⊥
PassesPairs decisions roots (Var x) most = ⊥
PassesPairs decisions roots (Not a) most = ⊥
PassesPairs decisions roots (Fix x b a) most = ⊥
PassesPairs decisions roots (And a b) most = PassesMost decisions (slice_index_or roots a 0) (slice_index_or roots b 0) most
PassesPairs decisions roots (Or a b) most = PassesMost decisions (slice_index_or roots a 0) (slice_index_or roots b 0) most

-- such a graph, with no more pairs than `most`
pub record IsFewOf (P : Option (List Pair) → Type 0) (most : ℕ) (graph : Option (List Pair)) : Type 0 where
  pub graph_is : P graph
  pub few : pair_count graph ≤ most

-- f is made, and the pairs are few
pub record IsStepOf (f : Function) (P : Option (List Pair) → Type 0) (most : ℕ) (old new : Diagrams) (r : ℕ) (graph : Option (List Pair)) : Type 0 where
  pub answers : Answers f old new r
  pub pairs : IsFewOf P most graph

-- the pairs are few, and f passes the store's limit
pub record PassesNodesOf (f : Function) (P : Option (List Pair) → Type 0) (most : ℕ) (old : Diagrams) : Type 0 where
  pub graph : Option (List Pair)
  pub pairs : IsFewOf P most graph
  pub passed : PassesLimit f old

-- the same of a node
abbrev pub IsStep : List ℕ → Node → ℕ → Diagrams → Diagrams → ℕ → Option (List Pair) → Type 0
IsStep roots node most old new r graph = IsStepOf (function_of old.nodes roots node) (IsGraphOf old.nodes roots node) most old new r graph

abbrev pub PassesNodes : List ℕ → Node → ℕ → Diagrams → Type 0
PassesNodes roots node most old = PassesNodesOf (function_of old.nodes roots node) (IsGraphOf old.nodes roots node) most old
