-- The claims that a node has once the nodes above it are passed.
use Rattle.std.proofs.Common.{arith, ℕ, zero, suc, ◌≡◌, ◌+◌, ◌-◌, ◌<◌, ◌≤◌, ◌∙◌, ap, inl, inr, List, length, cond, ◌==◌}
use Rattle.std.specs.Prelude.{sum_by}
use Rattle.std.proofs.lemmas.Bool.{cases_eq, eq-eqb, ne_eqb, cond-false, cond-true}
use Rattle.blic_model.specs.declared.node.Node.{Node}
use Rattle.blic_model.specs.Circuit.{node_at, root, below}
use Rattle.blic_model.specs.Counts.{handed_down, claims}
use Rattle.blic_model.specs.Order.{IsOrdered}
use Rattle.blic_model.proofs.ClaimCounts.{first_claims, handed_nothing}
use Rattle.blic_model.proofs.ChildEntries.{sum_below_none}
use Rattle.blic_claims.specs.Places.{given}
use Rattle.blic_claims.proofs.HandedClaims.{given_all, given_more, given_falls}

pub given_none : (nodes : List Node) (k a : ℕ) → root nodes < k → given nodes k a ≡ 0
unfolding given
given_none nodes k a l =
    let handed : ℕ → ℕ = λ n. handed_down (node_at nodes (root nodes - n)) (claims nodes (root nodes - n)) a in
    let e : suc (root nodes) - k ≡ 0 = omega arith in
    ap (λ m. sum_by handed (below m)) e ∙ sum_below_none handed

-- the root's own claim
abbrev pub own_claim : List Node → ℕ → ℕ
own_claim nodes a = cond (a == root nodes) 1 0

pub no_own_claim : (nodes : List Node) (a : ℕ) → a < root nodes → own_claim nodes a ≡ 0
no_own_claim nodes a l = cond-false (a == root nodes) 1 0 (ne_eqb a (root nodes) (λ e. omega arith))

-- once its greater nodes are passed, a node has all its claims
claims_when_reached : (nodes : List Node) (a : ℕ) → a ≤ root nodes → own_claim nodes a + given nodes (suc a) a ≡ claims nodes a
claims_when_reached nodes a l = elim (cases_eq a (root nodes)) [
  | inl e ↦
      let own : own_claim nodes a ≡ 1 = cond-true (a == root nodes) 1 0 (eq-eqb a (root nodes) e) in
      let none = given_none nodes (suc a) a (omega arith) in
      let one = ap (claims nodes) e ∙ first_claims nodes in
      omega arith
  | inr ne ↦
      let own = no_own_claim nodes a (omega arith) in
      let all = given_all nodes a (omega arith) in
      omega arith
]

given_to_reached : (nodes : List Node) (a k d : ℕ) → IsOrdered nodes → a ≤ root nodes → a < length nodes → k + d ≡ suc a → given nodes k a ≡ given nodes (suc a) a
given_to_reached nodes a k zero o l m e = (let s : k ≡ suc a = omega arith in ap (λ j. given nodes j a) s)
given_to_reached nodes a k (suc d) o l m e =
    given_more nodes k a (omega arith)
    ∙ (let more = given_to_reached nodes a (suc k) d o l m (omega arith) in
    let none = handed_nothing k a (claims nodes k) (node_at nodes k) (o k (omega arith)) (omega arith) in
    omega arith)

-- and so it has with those of any smaller nodes
pub claims_given : (nodes : List Node) (a k : ℕ) → IsOrdered nodes → a < length nodes → k ≤ suc a → own_claim nodes a + given nodes k a ≡ claims nodes a
claims_given nodes a k o l m =
    ap (λ n. own_claim nodes a + n) (given_to_reached nodes a k (suc a - k) o (omega arith) l (omega arith)) ∙ claims_when_reached nodes a (omega arith)

-- what a node hands down finds its places among the claims of the child
pub given_room : (nodes : List Node) (k a : ℕ) → a < k → k < length nodes → given nodes (suc k) a + handed_down (node_at nodes k) (claims nodes k) a ≤ claims nodes a
given_room nodes k a l m =
    let more = given_more nodes k a (omega arith) in
    let e : suc a + (k - suc a) ≡ k = omega arith in
    let same : given nodes (suc a + (k - suc a)) a ≡ given nodes k a = ap (λ j. given nodes j a) e in
    let falls = given_falls nodes a (k - suc a) (suc a) (omega arith) in
    let all = given_all nodes a (omega arith) in
    omega arith
