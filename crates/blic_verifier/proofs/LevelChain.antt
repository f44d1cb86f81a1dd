-- The sum check at a binary node, one level after another.
use Rattle.std.proofs.Common.{arith, ℕ, zero, suc, ◌≡◌, ◌+◌, ◌<◌, ◌≤◌, refl, sym, ◌∙◌, ap, subst, ◌⊎◌, inl, inr, List, length, get_or, true, eqb}
use Rattle.std.specs.Prelude.{All}
use mathlib.Core.Path.{ap₂}
use Rattle.std.proofs.lemmas.Bool.{cases_eq, eq-eqb, ne_eqb, cond-true, cond-false}
use Rattle.blic_model.specs.declared.node.Node.{Node}
use Rattle.blic_field.specs.Field.{modulus, blend}
use Rattle.blic_field.specs.Quadratic.{Quadratic, at}
use Rattle.blic_poly2.specs.Poly.{reduced_at}
use Rattle.blic_poly2.proofs.Values.{reduced_at-def}
use Rattle.blic_model.specs.Circuit.{node_at, free}
use Rattle.blic_model.specs.Value.{Point, value}
use Rattle.blic_model.specs.Counts.{is_binary}
use Rattle.blic_model.specs.Reduction.{combined, part, poly}
use Rattle.blic_model.specs.Degree.{IsPoint}
use Rattle.blic_model.proofs.Ordered.{AllOrdered}
use Rattle.blic_model.proofs.Degrees.{linearize-def}
use Rattle.blic_model.proofs.Reduced.{at-poly, part_none, part_more, part_all}
use Rattle.blic_model.proofs.Depends.{part_depends}
use Rattle.blic_claims.specs.Claims.{Transcript, Claim, no_claim, node_point, claims_on, point_at}
use Rattle.blic_claims.proofs.Drawn.{AllLevelled, point_at_more, point_at_start, point_at_own, point_at_end, IsPoint-point_at}
use Rattle.blic_verifier.specs.Acceptance.{sent, value_at, binary_checks}
use Rattle.blic_verifier.proofs.Roots.{SomeRootIsDrawn}
use Rattle.blic_verifier.proofs.HeldChecks.{Holds, poly_passes, ends_passes, combine_passes}

-- equality of polynomials is decided
same_poly : (p q : Quadratic) → (p ≡ q) ⊎ (p ≡ q → ⊥)
same_poly p q =
    elim (cases_eq p.c0 q.c0) [
      | inr n ↦ inr (λ e. n (ap (λ r. r.c0) e))
      | inl a ↦ elim (cases_eq p.c1 q.c1) [
        | inr n ↦ inr (λ e. n (ap (λ r. r.c1) e))
        | inl b ↦ elim (cases_eq p.c2 q.c2) [
          | inr n ↦ inr (λ e. n (ap (λ r. r.c2) e))
          | inl c ↦ inl (λ i. record { c0 = a i; c1 = b i; c2 = c i })
        ]
      ]
    ]

-- the polynomial of a level, reduced at the point's element, is `part` one level on.
pub reduced_poly : (nodes : List Node) (levels : ℕ) → AllOrdered nodes → (k i : ℕ) → i < length (free nodes levels k) → (s : Point) → IsPoint s
    → reduced_at (poly nodes levels k i s) (s (get_or (free nodes levels k) i 0)) ≡ part nodes levels k (i + 1) s
reduced_poly nodes levels o k i l s p =
    reduced_at-def (poly nodes levels k i s) (s (get_or (free nodes levels k) i 0))
    ∙ (ap₂ (λ u w. blend (s (get_or (free nodes levels k) i 0)) u w)
    (at-poly nodes levels o k i l s p 0 (omega arith)) (at-poly nodes levels o k i l s p 1 (omega arith))
    ∙ sym (part_more nodes levels k i l s ∙ linearize-def (part nodes levels k i) (get_or (free nodes levels k) i 0) s))

-- at a draw a claim's value becomes that of the polynomial sent
pub value_at_draw : (nodes : List Node) (levels : ℕ) (T : Transcript) (k j : ℕ) (c : Claim) (i : ℕ) → i < length (free nodes levels k)
    → value_at nodes levels T k j c i ≡ at (sent T k i j) (T.draw k i)
value_at_draw nodes levels T k j c i l = cond-false _ _ _ (ne_eqb i (length (free nodes levels k)) (λ e. omega arith))

-- and it begins as the claim's own
pub value_at_start : (nodes : List Node) (levels : ℕ) (T : Transcript) (k j : ℕ) (c : Claim)
    → value_at nodes levels T k j c (length (free nodes levels k)) ≡ c.value
value_at_start nodes levels T k j c =
    let w = length (free nodes levels k) in cond-true (eqb w w) c.value (at (sent T k w j) (T.draw k w)) (eq-eqb w w refl)

-- claim j has the true value with i of the free levels left, where c is the claim
abbrev pub IsTrueAt : List Node → ℕ → Transcript → ℕ → ℕ → Claim → ℕ → Type 0
IsTrueAt nodes levels T k j c i = value_at nodes levels T k j c i ≡ part nodes levels k i (point_at nodes levels T k c i)

-- one step of the sum check: where the value after a draw is true, so is the one before it, or the draw was bad
chain_step : (nodes : List Node) (levels : ℕ) → AllOrdered nodes → (T : Transcript) (k i : ℕ) → ((n : ℕ) → T.draw k n < modulus)
    → k < length nodes → is_binary (node_at nodes k) ≡ true → i < length (free nodes levels k)
    → (j : ℕ) → j < length (claims_on nodes levels T k) → (c : Claim) → get_or (claims_on nodes levels T k) j no_claim ≡ c → IsPoint c.point
    → reduced_at (sent T k i j) (c.point (get_or (free nodes levels k) i 0)) ≡ value_at nodes levels T k j c (i + 1)
    → IsTrueAt nodes levels T k j c i → SomeRootIsDrawn nodes levels T ⊎ IsTrueAt nodes levels T k j c (i + 1)
chain_step nodes levels o T k i d lk b l j lj c e p check here =
    let s = point_at nodes levels T k c (i + 1) in
    let ps : IsPoint s = IsPoint-point_at nodes levels T k c (i + 1) d p in
    let q = poly nodes levels k i s in
    let meet : at (sent T k i j) (T.draw k i) ≡ at q (T.draw k i) =
    sym (value_at_draw nodes levels T k j c i l)
    ∙ (here ∙ (ap (part nodes levels k i) (point_at_more nodes levels T k c i l) ∙ sym (at-poly nodes levels o k i l s ps (T.draw k i) (d i)))) in
    elim (same_poly (sent T k i j) q) [
      | inr ne ↦ inl (k, i, lk, b, l, (j, lj, rw e ne, rw e meet))
      | inl same ↦ inr (sym check ∙ (ap₂ reduced_at same (sym (point_at_own nodes levels T k c i l)) ∙ reduced_poly nodes levels o k i l s ps))
    ]

-- all levels of one claim
chain : (nodes : List Node) (levels : ℕ) → AllOrdered nodes → (T : Transcript) (k : ℕ) → ((n : ℕ) → T.draw k n < modulus)
    → k < length nodes → is_binary (node_at nodes k) ≡ true
    → (j : ℕ) → j < length (claims_on nodes levels T k) → (c : Claim) → get_or (claims_on nodes levels T k) j no_claim ≡ c → IsPoint c.point
    → ((i : ℕ) → i < length (free nodes levels k)
    → reduced_at (sent T k i j) (c.point (get_or (free nodes levels k) i 0)) ≡ value_at nodes levels T k j c (i + 1))
    → IsTrueAt nodes levels T k j c 0 → (i : ℕ) → i ≤ length (free nodes levels k)
    → SomeRootIsDrawn nodes levels T ⊎ IsTrueAt nodes levels T k j c i
chain nodes levels o T k d lk b j lj c e p check start zero l = inr start
chain nodes levels o T k d lk b j lj c e p check start (suc i) l =
    elim (chain nodes levels o T k d lk b j lj c e p check start i (omega arith)) [
      | inl bad ↦ inl bad
      | inr here ↦ subst (λ n. SomeRootIsDrawn nodes levels T ⊎ IsTrueAt nodes levels T k j c n) (one i)
          (chain_step nodes levels o T k i d lk b (omega arith) j lj c e p (check i (omega arith)) here)
    ]
  where
    one : (i : ℕ) → i + 1 ≡ suc i
    one i = omega arith

-- claim c on node k is true, unless a draw was bad
abbrev pub IsTrueOrBad : List Node → ℕ → Transcript → ℕ → Claim → Type 0
IsTrueOrBad nodes levels T k c = SomeRootIsDrawn nodes levels T ⊎ (c.value ≡ value nodes levels k c.point)

-- a binary node: where the operands' values are true at its point, each of its claims is true, or some draw was bad
pub binary_sound : (nodes : List Node) (levels : ℕ) → AllOrdered nodes → AllLevelled nodes levels
    → (T : Transcript) (k : ℕ) → ((n : ℕ) → T.draw k n < modulus) → k < length nodes → is_binary (node_at nodes k) ≡ true
    → (both : ℕ) → All Holds (binary_checks nodes levels T k (claims_on nodes levels T k) both)
    → both ≡ combined (node_at nodes k) (value nodes levels) (node_point nodes levels T k)
    → (j : ℕ) → j < length (claims_on nodes levels T k) → IsPoint (get_or (claims_on nodes levels T k) j no_claim).point
    → IsTrueOrBad nodes levels T k (get_or (claims_on nodes levels T k) j no_claim)
binary_sound nodes levels o v T k d lk b both h true_both j lj p =
    let cs = claims_on nodes levels T k in
    let c = get_or cs j no_claim in
    let w = length (free nodes levels k) in
    let ends : value_at nodes levels T k j c 0 ≡ both = ends_passes nodes levels T k cs both h j lj ∙ combine_passes nodes levels T k cs both h in
    let here = part_depends nodes levels o k 0 (node_point nodes levels T k) (point_at nodes levels T k c 0) (λ x e. sym (point_at_end nodes levels o v T k c x e)) in
    let start : IsTrueAt nodes levels T k j c 0 = ends ∙ (true_both ∙ (sym (part_none nodes levels k (node_point nodes levels T k)) ∙ here)) in
    elim (chain nodes levels o T k d lk b j lj c refl p (λ i li. poly_passes nodes levels T k cs both h i j li lj) start w (omega arith)) [
      | inl bad ↦ inl bad
      | inr e ↦
          let whole = ap (part nodes levels k w) (point_at_start nodes levels T k c) ∙ part_all nodes levels o k b c.point in
          inr (sym (value_at_start nodes levels T k j c) ∙ (e ∙ whole))
    ]
