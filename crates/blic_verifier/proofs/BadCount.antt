-- Given that the modulus is prime, a draw has at most two bad elements for each claim.
use Rattle.std.proofs.Common.{arith, ℕ, ◌≡◌, ◌*◌, ◌<◌, ◌≤◌, ap, subst, inl, inr, List, length, Bool, true, false, eqb, ltb, not, ◌&&◌}
use Rattle.std.specs.Prelude.{All, AllPairs}
use Rattle.std.proofs.lemmas.Bool.{cases_Bool, eqb-true, eq-eqb, ltb-true, lt-ltb}
use Rattle.std.proofs.lemmas.List.Elements.{All-weaker}
use Rattle.blic_field.specs.Field.{modulus, IsPrime}
use Rattle.blic_field.specs.Quadratic.{Quadratic, at, HasElements}
use Rattle.blic_poly2.proofs.Roots.{same_from_three}
use Rattle.blic_model.specs.declared.node.Node.{Node}
use Rattle.blic_model.proofs.Reduced.{HasElements-poly}
use Rattle.blic_claims.specs.Claims.{Transcript, claims_on}
use Rattle.blic_claims.specs.Turns.{transcript}
use Rattle.blic_claims.proofs.ClaimCounts.{length-claims_on}
use Rattle.blic_verifier.specs.Acceptance.{sent}
use Rattle.blic_verifier.specs.Soundness.{true_poly, IsBad, IsRootAt}
use Rattle.blic_verifier.specs.SoundnessLaws.{FewBadAtADraw}
use Rattle.blic_verifier.proofs.Classes.{AtMostTwo, InSome, Different-from_pairs, few_in_classes}
use Rattle.blic_verifier.proofs.FixedBefore.{root_of_bad}
use Rattle.blic_verifier.proofs.OfElements.{sent_elements}

-- the two polynomials are one
same_poly : Quadratic → Quadratic → Bool
same_poly p q = eqb p.c0 q.c0 && (eqb p.c1 q.c1 && eqb p.c2 q.c2)

same_poly-false : (p q : Quadratic) → (p ≡ q → ⊥) → same_poly p q ≡ false
unfolding same_poly
same_poly-false p q ne = elim (cases_Bool (eqb p.c0 q.c0 && (eqb p.c1 q.c1 && eqb p.c2 q.c2))) [
  | inl e ↦
      let a = three _ _ _ e in
      let u = eqb-true p.c0 q.c0 a.0 in
      let v = eqb-true p.c1 q.c1 a.1 in
      let w = eqb-true p.c2 q.c2 a.2 in
      absurd (ne (λ i. record { c0 = u i; c1 = v i; c2 = w i }))
  | inr e ↦ e
]
  where
    three : (a b c : Bool) → (a && (b && c)) ≡ true → (a ≡ true) × (b ≡ true) × (c ≡ true)
    three a b c h = grind arith

differ : (p q : Quadratic) → same_poly p q ≡ false → p ≡ q → ⊥
unfolding same_poly
differ p q f e =
    wrong (eqb p.c0 q.c0) (eqb p.c1 q.c1) (eqb p.c2 q.c2) (eq-eqb _ _ (ap (λ r. r.c0) e)) (eq-eqb _ _ (ap (λ r. r.c1) e)) (eq-eqb _ _ (ap (λ r. r.c2) e)) f
  where
    wrong : (a b c : Bool) → a ≡ true → b ≡ true → c ≡ true → (a && (b && c)) ≡ false → ⊥
    wrong a b c u v w h = grind arith

-- r is an element at which p and q agree, though they are two polynomials
is_crossing : Quadratic → Quadratic → ℕ → Bool
is_crossing p q r = not (same_poly p q) && (ltb r modulus && eqb (at p r) (at q r))

crossing_parts : (p q : Quadratic) (r : ℕ) → is_crossing p q r ≡ true → (same_poly p q ≡ false) × (r < modulus) × (at p r ≡ at q r)
unfolding is_crossing
crossing_parts p q r h =
    let w = three _ _ _ h in (w.0, ltb-true r modulus w.1, eqb-true (at p r) (at q r) w.2)
  where
    three : (a b c : Bool) → (not a && (b && c)) ≡ true → (a ≡ false) × (b ≡ true) × (c ≡ true)
    three a b c h = grind arith

crossing : (p q : Quadratic) (r : ℕ) → (p ≡ q → ⊥) → r < modulus → at p r ≡ at q r → is_crossing p q r ≡ true
unfolding is_crossing
crossing p q r ne l e = joined _ _ _ (same_poly-false p q ne) (lt-ltb r modulus l) (eq-eqb (at p r) (at q r) e)
  where
    joined : (a b c : Bool) → a ≡ false → b ≡ true → c ≡ true → (not a && (b && c)) ≡ true
    joined a b c u v w = grind arith

-- two polynomials cross at two elements at most
two_crossings : IsPrime modulus → (p q : Quadratic) → HasElements p → HasElements q → AtMostTwo (is_crossing p q)
two_crossings prime p q hp hq x y z tx ty tz xy xz yz =
    let a = crossing_parts p q x tx in
    let b = crossing_parts p q y ty in
    let c = crossing_parts p q z tz in
    differ p q a.0 (same_from_three prime p q hp hq x y z a.1 b.1 c.1 xy xz yz a.2 b.2 c.2)

-- r is bad for claim j
abbrev class : List Node → ℕ → Transcript → ℕ → ℕ → ℕ → ℕ → Bool
class nodes levels T k i j = is_crossing (sent T k i j) (true_poly nodes levels T k i j)

-- a list of different bad elements of a draw has at most two entries for each claim
few_bad : IsPrime modulus → (nodes : List Node) (levels : ℕ) (T : Transcript) (k i : ℕ) → ((j : ℕ) → HasElements (sent T k i j))
    → (elements : List ℕ) → AllPairs (λ x y. x ≡ y → ⊥) elements → All (λ r. (r < modulus) × IsRootAt nodes levels T k i r) elements
    → length elements ≤ 2 * length (claims_on nodes levels T k)
few_bad prime nodes levels T k i h elements d a =
    few_in_classes (class nodes levels T k i)
    (λ j. two_crossings prime (sent T k i j) (true_poly nodes levels T k i j) (h j) (HasElements-poly nodes levels k i _))
    (length (claims_on nodes levels T k)) elements (Different-from_pairs elements d)
    (All-weaker (λ r. (r < modulus) × IsRootAt nodes levels T k i r) (InSome (class nodes levels T k i) (length (claims_on nodes levels T k)))
    (λ r b. some r b.0 b.1) elements a)
  where
    some : (r : ℕ) → r < modulus → IsRootAt nodes levels T k i r → InSome (class nodes levels T k i) (length (claims_on nodes levels T k)) r
    some r l (j, lj, ne, e) = (j, lj, crossing (sent T k i j) (true_poly nodes levels T k i j) r ne l e)

pub few_bad_at_draw : FewBadAtADraw
few_bad_at_draw prime nodes levels shape answer draws replies h k i lk li elements d a =
    subst (λ n. length elements ≤ 2 * n) (length-claims_on nodes levels (transcript nodes levels answer draws replies) k)
    (few_bad prime nodes levels (transcript nodes levels answer draws replies) k i (sent_elements nodes levels answer draws replies h k i) elements d
    (All-weaker (λ r. (r < modulus) × IsBad nodes levels answer draws replies k i r) (λ r. (r < modulus) × IsRootAt nodes levels (transcript nodes levels answer draws replies) k i r)
    (λ r b. (b.0, root_of_bad nodes levels answer draws replies k i r lk li b.1)) elements a))
