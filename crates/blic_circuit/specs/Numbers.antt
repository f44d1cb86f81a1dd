-- Private: the numbers of the nodes of a list, and their hashes.
use Rattle.std.specs.Prelude.{◌≡◌, ℕ, ◌+◌, ◌*◌, ◌%◌, true, List, length, map, Option, Some, None, cond, nat_lt}
use Rattle.std.specs.List.{position_or_len}
use Rattle.blic_model.specs.declared.node.Node.{Node}
use Rattle.blic_model.specs.declared.node.Node.TheVariants.{Const, Var, Not, Fix, And, Or}
use Rattle.blic_model.specs.Building.{same_node}
use Rattle.blic_model.specs.Shape.{all_differ}

-- a node's place in the list
abbrev pub number_of : List Node → Node → Option ℕ
number_of nodes n = let k = position_or_len (same_node n) nodes in cond (nat_lt k (length nodes)) (Some k) None

-- a number for a kind of node and two numbers
unfoldable pub mix : ℕ → ℕ → ℕ → ℕ
mix kind first second = (first + second * 2654435761 + kind * 2246822519) % 4294967296

-- the hash of a node
abbrev pub hash_of : Node → ℕ
hash_of (Const b) = mix 0 (cond b 1 0) 0
hash_of (Var x) = mix 1 x 0
hash_of (Not a) = mix 2 a 0
hash_of (Fix x b a) = mix (3 + cond b 1 0) a x
hash_of (And a b) = mix 5 a b
hash_of (Or a b) = mix 6 a b

-- no two nodes are equal, and each is entered with its hash
pub record IsEntered (nodes : List Node) (hashes : List ℕ) : Type 0 where
  pub entered : hashes ≡ map hash_of nodes
  pub distinct : all_differ nodes ≡ true
