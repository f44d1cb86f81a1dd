-- How many different subfunctions (cofactors by the topmost levels) the nodes of a circuit have. No program computes these numbers.
use Rattle.std.specs.Prelude.{ℕ, zero, suc, Bool, true, false, not, ◌&&◌, List, [], ◌∷◌, ◌++◌, slice_index_or, map, flat_map, filter, drop, length, sum_by}
use Rattle.std.specs.List.{list_any}
use Rattle.std.specs.Set.{distinct_count}
use Rattle.blic_model.specs.declared.node.Node.{Node}
use Rattle.blic_model.specs.declared.node.Node.TheVariants.{Const, Var, Not, Fix, And, Or}
use Rattle.blic_model.specs.Circuit.{node_at, below}
use Rattle.blic_model.specs.Building.{same_bit}
use Rattle.blic_model.specs.Value.{holds}

-- the lists of n bits, in counting order
unfoldable pub words : ℕ → List (List Bool)
words zero = [] ∷ []
words (suc n) = map (λ w. false ∷ w) (words n) ++ map (λ w. true ∷ w) (words n)

-- the lists of at most n bits, the shortest first
unfoldable pub prefixes : ℕ → List (List Bool)
prefixes n = flat_map words (below (suc n))

-- node k with its topmost levels fixed to the bits: its Boolean values at the assignments of all levels, in counting order
unfoldable pub subfunction : List Node → ℕ → ℕ → List Bool → List Bool
subfunction nodes levels k bits = map (λ w. holds nodes k (λ x. slice_index_or (bits ++ drop (length bits) w) x false)) (words levels)

-- a function that has one value everywhere
abbrev pub is_constant : List Bool → Bool
is_constant f = not (list_any (λ b. b) f && list_any not f)

-- two functions with the same values
abbrev pub same_function : List Bool → List Bool → Bool
same_function [] [] = true
same_function [] (c ∷ cs) = false
same_function (b ∷ bs) [] = false
same_function (b ∷ bs) (c ∷ cs) = same_bit b c && same_function bs cs

-- the subfunctions of node 0, then those of node 1, and so on to node k
unfoldable pub subfunctions : List Node → ℕ → ℕ → List (List Bool)
subfunctions nodes levels k = flat_map (λ j. map (subfunction nodes levels j) (prefixes levels)) (below (suc k))

-- how many different subfunctions the nodes up to k have, but for constant ones
unfoldable pub size : List Node → ℕ → ℕ → ℕ
size nodes levels k = distinct_count same_function (filter (λ f. not (is_constant f)) (subfunctions nodes levels k))

-- pairs are the same if both components are, in this order
abbrev pub same_pair : List Bool × List Bool → List Bool × List Bool → Bool
same_pair p q = same_function p.0 q.0 && same_function p.1 q.1

-- how many different pairs of subfunctions two operands have under common bits, but for pairs with a constant one
unfoldable pub operand_pairs : List Node → ℕ → ℕ → ℕ → ℕ
operand_pairs nodes levels a b =
    distinct_count same_pair (filter (λ p. not (is_constant p.0) && not (is_constant p.1)) (map (λ w. (subfunction nodes levels a w, subfunction nodes levels b w)) (prefixes levels)))

-- the pairs of a node's operands; only a binary node has them
abbrev pub node_pairs : List Node → ℕ → Node → ℕ
node_pairs nodes levels (Const b) = 0
node_pairs nodes levels (Var x) = 0
node_pairs nodes levels (Not a) = 0
node_pairs nodes levels (Fix x b a) = 0
node_pairs nodes levels (And a b) = operand_pairs nodes levels a b
node_pairs nodes levels (Or a b) = operand_pairs nodes levels a b

-- how many pairs node k has
unfoldable pub pairs_of : List Node → ℕ → ℕ → ℕ
pairs_of nodes levels k = node_pairs nodes levels (node_at nodes k)

-- how many pairs the nodes up to k have together
unfoldable pub pairs : List Node → ℕ → ℕ → ℕ
pairs nodes levels k = sum_by (pairs_of nodes levels) (below (suc k))
