-- Solved circuits: a ref for each node, the pairs of each binary one (the product of its operands), and which limit is passed first.
use Rattle.std.specs.Prelude.{ℕ, ◌+◌, ◌<◌, ◌≤◌, ◌≡◌, List, length, Option, Some, None, IsSomeAnd, slice_index_or}
use Rattle.blic_model.specs.declared.node.Node.{Node}
use Rattle.blic_model.specs.declared.node.Node.TheVariants.{Const, Var, Not, Fix, And, Or}
use Rattle.blic_model.specs.Circuit.{node_at}
use Rattle.blic_model.specs.Value.{holds}
use Rattle.blic_model.specs.Subfunctions.{size, pairs, pairs_of}
use Rattle.blic_store.specs.declared.decision.Decision.{Decision}
use Rattle.blic_store.specs.Function.{Function, Same, IsPart}
use Rattle.blic_store.specs.Diagram.{function, IsRef}
use Rattle.blic_store.specs.Growth.{Diagrams}
use Rattle.blic_graph.specs.declared.pair.Pair.{Pair}
use Rattle.blic_graph.specs.Pairs.{IsGraph}
use Rattle.blic_solve.specs.declared.plan.SolveError.{SolveError}
use Rattle.blic_solve.specs.declared.plan.SolveError.TheVariants.{PairLimit, NodeLimit, NoMem}

-- what a plan shows: the store, the ref of each node, and the graph of each node, which only a binary one has
pub record Solved : Type 0 where
  pub store : Diagrams
  pub roots : List ℕ
  pub graphs : List (Option (List Pair))

abbrev pub root_of : Solved → ℕ → ℕ
root_of plan k = slice_index_or plan.roots k 0

abbrev pub graph_of : Solved → ℕ → Option (List Pair)
graph_of plan k = slice_index_or plan.graphs k None

-- how many pairs a graph has, if there is one
abbrev pub pair_count : Option (List Pair) → ℕ
pair_count None = 0
pair_count (Some pairs) = length pairs

-- a binary node has a graph, which lists the pairs of its operands, and no other node has one
abbrev pub HasGraph : Solved → ℕ → Node → Type 0
HasGraph plan k (Const b) = graph_of plan k ≡ None
HasGraph plan k (Var x) = graph_of plan k ≡ None
HasGraph plan k (Not a) = graph_of plan k ≡ None
HasGraph plan k (Fix x b a) = graph_of plan k ≡ None
HasGraph plan k (And a b) = IsSomeAnd (graph_of plan k) (IsGraph plan.store.nodes (root_of plan a) (root_of plan b))
HasGraph plan k (Or a b) = IsSomeAnd (graph_of plan k) (IsGraph plan.store.nodes (root_of plan a) (root_of plan b))

-- g is a part (cofactor) of the function of one of the first n nodes
pub record IsPartBefore (nodes : List Node) (n : ℕ) (g : Function) : Type 0 where
  pub node : ℕ
  pub before : node < n
  pub part : IsPart (holds nodes node) g

-- each decision (node of a BDD) stands for such a part
abbrev pub HasParts : List Node → ℕ → List Decision → Type 0
HasParts nodes n decisions = (r : ℕ) → 2 ≤ r → IsRef decisions r → IsPartBefore nodes n (function decisions r)

-- node k has its function, and as many pairs as its operands have pairs of subfunctions
pub record IsSolved (nodes : List Node) (levels : ℕ) (plan : Solved) (k : ℕ) : Type 0 where
  pub held : IsRef plan.store.nodes (root_of plan k)
  pub value : Same (function plan.store.nodes (root_of plan k)) (holds nodes k)
  pub graph : HasGraph plan k (node_at nodes k)
  pub pairs : pair_count (graph_of plan k) ≡ pairs_of nodes levels k

-- node k is within both limits
pub record IsWithin (nodes : List Node) (levels most_nodes most_pairs k : ℕ) : Type 0 where
  pub few_pairs : pairs nodes levels k ≤ most_pairs
  pub few_nodes : size nodes levels k ≤ most_nodes

-- every node of the circuit is solved, and the store has parts of their functions alone, as many as those have subfunctions
pub record IsPlan (nodes : List Node) (levels : ℕ) (plan : Solved) : Type 0 where
  pub roots : length plan.roots ≡ length nodes
  pub solved : (k : ℕ) → k < length nodes → IsSolved nodes levels plan k
  pub parts : HasParts nodes (length nodes) plan.store.nodes
  pub exact : (k : ℕ) → k + 1 ≡ length nodes → length plan.store.nodes ≡ size nodes levels k

-- node k is the first that passes a limit, and it passes that of pairs
pub record IsPairLimit (nodes : List Node) (levels most_nodes most_pairs k : ℕ) : Type 0 where
  pub in_range : k < length nodes
  pub before : (j : ℕ) → j < k → IsWithin nodes levels most_nodes most_pairs j
  pub passed : most_pairs < pairs nodes levels k

-- node k is the first that passes a limit, and it passes that of decisions alone
pub record IsNodeLimit (nodes : List Node) (levels most_nodes most_pairs k : ℕ) : Type 0 where
  pub in_range : k < length nodes
  pub before : (j : ℕ) → j < k → IsWithin nodes levels most_nodes most_pairs j
  pub few_pairs : pairs nodes levels k ≤ most_pairs
  pub passed : most_nodes < size nodes levels k

-- the cause of each refusal; only out of memory has none
abbrev pub IsCause : List Node → ℕ → ℕ → ℕ → SolveError → Type 0
IsCause nodes levels most_nodes most_pairs (PairLimit k) = IsPairLimit nodes levels most_nodes most_pairs k
IsCause nodes levels most_nodes most_pairs (NodeLimit k) = IsNodeLimit nodes levels most_nodes most_pairs k
IsCause nodes levels most_nodes most_pairs NoMem = Unit {0}
