-- Each node of a circuit has a claim: the root has one, and each other node is a child of one that has.
use Rattle.std.proofs.Common.{arith, ℕ, suc, ◌≡◌, ◌+◌, ◌-◌, ◌<◌, ◌≤◌, refl, sym, ◌∙◌, ap, subst, ◌⊎◌, inl, inr, List, length, Bool, true, false, cond, eqb}
use Rattle.std.specs.Prelude.{Any}
use Rattle.std.proofs.lemmas.Bool.{cases_eq, or_cases, eqb-true, false≢true}
use Rattle.std.proofs.lemmas.List.{get_or_default}
use Rattle.std.proofs.lemmas.List.Folds.{Any-from_list_any}
use Rattle.blic_model.specs.declared.node.Node.{Node}
use Rattle.blic_model.specs.declared.node.Node.TheVariants.{Const, Var, Not, Fix, And, Or}
use Rattle.blic_model.specs.Circuit.{node_at, root}
use Rattle.blic_model.specs.Counts.{handed_down, claims}
use Rattle.blic_model.specs.Shape.{is_child, IsShaped}
use Rattle.blic_model.proofs.Ordered.{ChildrenBelow, ordered_all, strong}
use Rattle.blic_model.proofs.Shaped.{ordered_of, child_of}
use Rattle.blic_model.proofs.ClaimCounts.{first_claims}
use Rattle.blic_claims.specs.ClaimLaws.{SomeClaimLaw}
use Rattle.blic_claims.specs.Places.{given}
use Rattle.blic_claims.proofs.HandedClaims.{given_all, given_more, given_falls}

one_of_two : (a b : Bool) → (a ≡ true) ⊎ (b ≡ true) → 0 < cond a 1 0 + cond b 1 0
one_of_two a b (inl e) = subst (λ c. 0 < cond c 1 0 + cond b 1 0) (sym e) (omega arith)
one_of_two a b (inr e) = subst (λ c. 0 < cond a 1 0 + cond c 1 0) (sym e) (omega arith)

-- a parent with a claim hands one to each child
some_handed : (k m : ℕ) (parent : Node) → 0 < m → is_child k parent ≡ true → 0 < handed_down parent m k
some_handed k m (Const b) l c = absurd (false≢true c)
some_handed k m (Var x) l c = absurd (false≢true c)
some_handed k m (Not a) l c = subst (λ b. 0 < cond b m 0) (sym c) l
some_handed k m (Fix x b a) l c = subst (λ b. 0 < cond b m 0) (sym c) l
some_handed k m (And a b) l c = one_of_two (eqb a k) (eqb b k) (or_cases (eqb a k) (eqb b k) c)
some_handed k m (Or a b) l c = one_of_two (eqb a k) (eqb b k) (or_cases (eqb a k) (eqb b k) c)

-- a child has a smaller number
child_below : (k p : ℕ) (parent : Node) → ChildrenBelow p parent → is_child k parent ≡ true → k < p
child_below k p (Const b) o c = absurd (false≢true c)
child_below k p (Var x) o c = absurd (false≢true c)
child_below k p (Not a) o c = subst (λ z. z < p) (eqb-true a k c) o
child_below k p (Fix x b a) o c = subst (λ z. z < p) (eqb-true a k c) o
child_below k p (And a b) o c = elim (or_cases (eqb a k) (eqb b k) c) [
  | inl e ↦ subst (λ z. z < p) (eqb-true a k e) o.0
  | inr e ↦ subst (λ z. z < p) (eqb-true b k e) o.1
]
child_below k p (Or a b) o c = elim (or_cases (eqb a k) (eqb b k) c) [
  | inl e ↦ subst (λ z. z < p) (eqb-true a k e) o.0
  | inr e ↦ subst (λ z. z < p) (eqb-true b k e) o.1
]

-- what one node hands down is among the claims on its child
pub handed-le : (nodes : List Node) (k p : ℕ) → k < p → p ≤ root nodes → handed_down (node_at nodes p) (claims nodes p) k ≤ claims nodes k
handed-le nodes k p l lp =
    let e : suc k + (p - suc k) ≡ p = omega arith in
    let u : given nodes (suc k + (p - suc k)) k ≡ given nodes p k = ap (λ z. given nodes z k) e in
    omega (arith, given_all nodes k (omega arith), given_more nodes p k lp, given_falls nodes k (p - suc k) (suc k) (omega arith), u)

parent_of : (nodes : List Node) (k : ℕ) → Any (λ n. is_child k n ≡ true) nodes → (p : ℕ) × (p < length nodes) × (is_child k (node_at nodes p) ≡ true)
parent_of nodes k (p, n, l, e, h) = (p, l, sym (ap (is_child k) (get_or_default nodes p n (Const false) l)) ∙ (ap (is_child k) e ∙ h))

some_claim : (nodes : List Node) (levels : ℕ) → IsShaped nodes levels → (k : ℕ)
    → ((j : ℕ) → j < root nodes - k → (m : ℕ) → m < length nodes → root nodes - m ≡ j → 0 < claims nodes m) → k < length nodes → 0 < claims nodes k
some_claim nodes levels h k ih l = elim (cases_eq k (root nodes)) [
  | inl e ↦ subst (λ j. 0 < claims nodes j) (sym e) (subst (λ c. 0 < c) (sym (first_claims nodes)) (omega arith))
  | inr ne ↦
      let p = parent_of nodes k (Any-from_list_any (is_child k) nodes (child_of nodes levels h k (omega arith))) in
      let above = child_below k p.0 (node_at nodes p.0) (ordered_all nodes (ordered_of nodes levels h) p.0) p.2 in
      let some = some_handed k (claims nodes p.0) (node_at nodes p.0) (ih (root nodes - p.0) (omega (arith, p.1)) p.0 p.1 refl) p.2 in
      omega (arith, handed-le nodes k p.0 above (omega (arith, p.1)))
]

pub some_claim_law : SomeClaimLaw
some_claim_law nodes levels h k l =
    strong (λ n. (m : ℕ) → m < length nodes → root nodes - m ≡ n → 0 < claims nodes m)
    (λ n ih m lm e. some_claim nodes levels h m (λ j lj. ih j (omega (arith, lj, e))) lm) (root nodes - k) k l refl
