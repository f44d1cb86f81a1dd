-- The search for a node.
use Rattle.std.proofs.Common.{arith, ℕ, ◌≡◌, sym, ap, inl, inr, List, length, map}
use Rattle.std.specs.Prelude.{true, false, Option, None}
use Rattle.std.proofs.lemmas.Bool.{cases_Bool}
use Rattle.blic_model.specs.declared.node.Node.{Node}
use Rattle.blic_model.specs.declared.node.Node.TheVariants.{Const}
use Rattle.blic_model.specs.Circuit.{node_at}
use Rattle.blic_model.specs.Building.{same_node}
use Rattle.blic_model.proofs.Adding.{same_node_true}
use Rattle.blic_store.proofs.Candidates.{IsCandidate, IsHashed, hashed_map}
use Rattle.blic_circuit.specs.Numbers.{hash_of, number_of}
use Rattle.blic_circuit.proofs.Numbering.{number_missing}

abbrev pub hash_at_place : List Node → ℕ → ℕ
hash_at_place nodes k = hash_of (node_at nodes k)

abbrev pub IsAt : List Node → Node → ℕ → Type 0
IsAt nodes n k = same_node n (node_at nodes k) ≡ true

-- each place of the node is at or before the candidate
abbrev pub IsCandidateOf : List Node → Node → Option ℕ → Type 0
IsCandidateOf nodes n = IsCandidate (length nodes) (hash_at_place nodes) (IsAt nodes n) (hash_of n)

pub nodes_hashed : (nodes : List Node) (hashes : List ℕ) → hashes ≡ map hash_of nodes → IsHashed (length nodes) (hash_at_place nodes) hashes
nodes_hashed nodes hashes e = hashed_map hash_of nodes (Const false) hashes e

pub hash_here : (nodes : List Node) (n : Node) (k : ℕ) → IsAt nodes n k → hash_at_place nodes k ≡ hash_of n
hash_here nodes n k h = ap hash_of (sym (same_node_true n (node_at nodes k) h))

-- Where no candidate is left, the node stands nowhere.
pub no_candidate : (nodes : List Node) (n : Node) → IsCandidateOf nodes n None → None ≡ number_of nodes n
no_candidate nodes n c = number_missing nodes n (λ j l. elim (cases_Bool (same_node n (node_at nodes j))) [
  | inl t ↦ (let b = c.before j l t in absurd (omega arith))
  | inr f ↦ f
])
