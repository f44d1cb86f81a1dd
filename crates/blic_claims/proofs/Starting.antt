-- The claims before any node is taken, and where the replies and the draws of each node start.
use Rattle.std.proofs.Common.{arith, ℕ, zero, suc, ◌≡◌, ◌+◌, ◌-◌, ◌<◌, sym, ◌∙◌, ap, subst, inl, inr, List, length, get_or, true, false, cond, eqb}
use Rattle.std.specs.Prelude.{sum_by}
use mathlib.Core.Path.{ap₂}
use Rattle.std.proofs.lemmas.Bool.{cases_eq, eq-eqb, ne_eqb, cond-true, cond-false}
use Rattle.blic_model.specs.Circuit.{node_at, root, below, free}
use Rattle.blic_model.specs.Counts.{is_binary, handed_down, claims}
use Rattle.blic_model.specs.Shape.{IsShaped}
use Rattle.blic_model.specs.declared.node.Node.{Node}
use Rattle.blic_model.proofs.Shaped.{size_of, closed_of}
use Rattle.blic_claims.specs.Claims.{Transcript, claim_at}
use Rattle.blic_claims.specs.Held.{count_from, AreHeld}
use Rattle.blic_claims.specs.Places.{given}
use Rattle.blic_claims.specs.Turns.{sum_above}
use Rattle.blic_claims.proofs.KeptPoints.{free_is}
use Rattle.blic_claims.proofs.Turns.{above, above-suc, above-own, sum_above_is}

-- the root depends on no level
root_closed : (nodes : List Node) (levels f : ℕ) → IsShaped nodes levels → f < length (free nodes levels (root nodes)) → ⊥
root_closed nodes levels f s l =
    let m = free_is nodes levels (root nodes) f l in
    apart (sym (closed_of nodes levels s (get_or (free nodes levels (root nodes)) f 0) m.0) ∙ m.1)
  where
    apart : false ≡ true → ⊥
    apart e = cc

-- before the root is taken nothing is handed down
none_given : (nodes : List Node) (a : ℕ) → 0 < length nodes → given nodes (length nodes) a ≡ 0
unfolding given below
none_given nodes a l =
    let e : suc (root nodes) - length nodes ≡ 0 = omega arith in
    ap (λ z. sum_by (λ n. handed_down (node_at nodes (root nodes - n)) (claims nodes (root nodes - n)) a) (below z)) e

-- the root's own claim is the only one
root_alone : (nodes : List Node) (a d : ℕ) → 0 < length nodes → d < count_from nodes (length nodes) a → (a ≡ root nodes) × (d ≡ 0)
root_alone nodes a d some l = elim (cases_eq a (root nodes)) [
  | inl e ↦ (let n : ℕ = 1 in let one : cond (eqb a (root nodes)) n (given nodes (length nodes) a) ≡ n = cond-true (eqb a (root nodes)) n (given nodes (length nodes) a) (eq-eqb a (root nodes) e) in (e, omega (arith, one)))
  | inr ne ↦ (let n : ℕ = 1 in let none : cond (eqb a (root nodes)) n (given nodes (length nodes) a) ≡ given nodes (length nodes) a = cond-false (eqb a (root nodes)) n (given nodes (length nodes) a) (ne_eqb a (root nodes) ne) in absurd (omega (arith, none, none_given nodes a some)))
]

-- all claims are held where the root's value is
pub held_at_start : (nodes : List Node) (levels : ℕ) (T : Transcript) (x : ℕ → ℕ → ℕ → ℕ) (v : ℕ → ℕ → ℕ) → IsShaped nodes levels
    → v (root nodes) 0 ≡ (claim_at nodes levels T (root nodes) 0).value → AreHeld nodes levels T (length nodes) (length nodes) x v
held_at_start nodes levels T x v s h =
    let size = size_of nodes levels s in
    let some : 0 < length nodes = size.0 in
    record {
      point = λ a d f la ld lf. absurd (root_closed nodes levels f s (subst (λ z. f < length (free nodes levels z)) (root_alone nodes a d some ld).0 lf));
      value = λ a d la ld.
          let e = root_alone nodes a d some ld in
          ap₂ (λ y z. v y z) e.0 e.1 ∙ (h ∙ sym (ap₂ (λ y z. (claim_at nodes levels T y z).value) e.0 e.1));
    }

-- nothing comes before the root's replies and draws
pub start_none : (nodes : List Node) (f : ℕ → ℕ) (j : ℕ) → suc j ≡ length nodes → 0 ≡ sum_above nodes f j
start_none nodes f j e = sym (sum_above_is nodes f j ∙ above-own (λ n. cond (is_binary (node_at nodes n)) (f n) 0) (length nodes) j (omega arith))

-- one node more in a sum over the nodes above
above_next : (g : ℕ → ℕ) (n j : ℕ) → suc j < n → above g n j ≡ above g n (suc j) + g (suc j)
above_next g zero j l = absurd (omega arith)
above_next g (suc n) j l = elim (cases_eq (suc j) n) [
  | inl e ↦ (let a = above-suc g n j (omega arith) in let b = above-own g n j (omega arith) in let c = above-own g (suc n) (suc j) (omega arith) in let d : g (suc j) ≡ g n = ap g e in omega arith)
  | inr ne ↦ (let a = above-suc g n j (omega arith) in let b = above-suc g n (suc j) (omega arith) in let c = above_next g n j (omega arith) in omega arith)
]

-- a node that is not binary has no replies and no draws of its own
pub start_same : (nodes : List Node) (f : ℕ → ℕ) (j : ℕ) → suc j < length nodes → is_binary (node_at nodes (suc j)) ≡ false
    → sum_above nodes f j ≡ sum_above nodes f (suc j)
start_same nodes f j l b =
    let a = above_next (λ n. cond (is_binary (node_at nodes n)) (f n) 0) (length nodes) j l in
    let z : cond (is_binary (node_at nodes (suc j))) (f (suc j)) 0 ≡ 0 = cond-false (is_binary (node_at nodes (suc j))) (f (suc j)) 0 b in
    omega (arith, sum_above_is nodes f j, sum_above_is nodes f (suc j))

-- a binary node has them all
pub start_next : (nodes : List Node) (f : ℕ → ℕ) (j : ℕ) → suc j < length nodes → is_binary (node_at nodes (suc j)) ≡ true
    → sum_above nodes f j ≡ sum_above nodes f (suc j) + f (suc j)
start_next nodes f j l b =
    let a = above_next (λ n. cond (is_binary (node_at nodes n)) (f n) 0) (length nodes) j l in
    let z : cond (is_binary (node_at nodes (suc j))) (f (suc j)) 0 ≡ f (suc j) = cond-true (is_binary (node_at nodes (suc j))) (f (suc j)) 0 b in
    omega (arith, sum_above_is nodes f j, sum_above_is nodes f (suc j))
