-- Claims that are held stay held where a node is taken.
use Rattle.std.proofs.Common.{arith, ℕ, zero, suc, ◌≡◌, ◌+◌, ◌-◌, ◌<◌, ◌≤◌, refl, sym, ◌∙◌, ap, subst, inl, inr, List, [], ◌∷◌, ◌++◌, length, get_or, Bool, true, false, cond, eqb}
use Rattle.std.proofs.lemmas.Bool.{cases_eq, cases_lt, eq-eqb, ne_eqb, cond-true, cond-false, eqb-true}
use Rattle.std.proofs.lemmas.List.{get_or-map, length-map}
use Rattle.std.specs.Prelude.{map}
use Rattle.blic_model.specs.Circuit.{node_at, free, root}
use Rattle.blic_model.specs.Counts.{claims}
use Rattle.blic_model.specs.declared.node.Node.{Node}
use Rattle.blic_model.proofs.ClaimCounts.{first_claims}
use Rattle.blic_claims.proofs.ClaimCounts.{length-claims_on, length-claims_from}
use Rattle.blic_claims.proofs.Drawn.{point_at_start}
use Rattle.blic_claims.proofs.HandedClaims.{place_law, given_more, given_all}
use Rattle.blic_claims.specs.Claims.{Transcript, Claim, claims_from, claims_on, no_claim}
use Rattle.blic_claims.specs.Held.{count_from, AreHeld, HasPoints}
use Rattle.blic_claims.specs.Places.{given}

-- all claims on the node that is taken next are there
pub count_own : (nodes : List Node) (k c : ℕ) → k < length nodes → c < claims nodes k → c < count_from nodes (suc k) k
count_own nodes k c l h = elim (cases_eq k (root nodes)) [
  | inl e ↦ (let n : claims nodes k ≡ 1 = ap (claims nodes) e ∙ first_claims nodes in let m : count_from nodes (suc k) k ≡ 1 = cond-true (eqb k (root nodes)) 1 (given nodes (suc k) k) (eq-eqb k (root nodes) e) in omega arith)
  | inr ne ↦ (let n = given_all nodes k (omega arith) in let m : count_from nodes (suc k) k ≡ given nodes (suc k) k = cond-false (eqb k (root nodes)) 1 (given nodes (suc k) k) (ne_eqb k (root nodes) ne) in omega arith)
]

pub held_fewer : (nodes : List Node) (levels : ℕ) (T : Transcript) (k bound less : ℕ) (x : ℕ → ℕ → ℕ → ℕ) (v : ℕ → ℕ → ℕ) → less ≤ bound
    → AreHeld nodes levels T k bound x v → AreHeld nodes levels T k less x v
held_fewer nodes levels T k bound less x v l F = record { point = λ a c f la lc lf. F.point a c f (omega arith) lc lf; value = λ a c la lc. F.value a c (omega arith) lc }

-- and while none of its levels is drawn, the points of its claims are their own
pub points_undrawn : (nodes : List Node) (levels : ℕ) (T : Transcript) (k : ℕ) (x : ℕ → ℕ → ℕ → ℕ) (v : ℕ → ℕ → ℕ) → k < length nodes
    → AreHeld nodes levels T (suc k) (suc k) x v → HasPoints nodes levels T k (length (free nodes levels k)) x
points_undrawn nodes levels T k x v lk F c f lc lf =
    F.point k c f (omega arith) (count_own nodes k c lk lc) lf ∙ ap (λ s. s (get_or (free nodes levels k) f 0)) (sym (point_at_start nodes levels T k (get_or (claims_on nodes levels T k) c no_claim)))

-- the claims that node k hands down to node a
abbrev pub hands : List Node → ℕ → Transcript → ℕ → ℕ → List Claim
hands nodes levels T k a = claims_from nodes levels T k (node_at nodes k) (claims_on nodes levels T k) a

-- Node k is taken: what was stored stays, and what it hands down is stored behind.
pub held_more : (nodes : List Node) (levels : ℕ) (T : Transcript) (k : ℕ) (x y : ℕ → ℕ → ℕ → ℕ) (v u : ℕ → ℕ → ℕ) → k ≤ root nodes
    → AreHeld nodes levels T (suc k) k x v
    → ((a c f : ℕ) → a < k → c < given nodes (suc k) a → f < length (free nodes levels a) → y a c f ≡ x a c f)
    → ((a c : ℕ) → a < k → c < given nodes (suc k) a → u a c ≡ v a c)
    → ((a c f : ℕ) → a < k → c < length (hands nodes levels T k a) → f < length (free nodes levels a) → y a (given nodes (suc k) a + c) f ≡ (get_or (hands nodes levels T k a) c no_claim).point (get_or (free nodes levels a) f 0))
    → ((a c : ℕ) → a < k → c < length (hands nodes levels T k a) → u a (given nodes (suc k) a + c) ≡ (get_or (hands nodes levels T k a) c no_claim).value)
    → AreHeld nodes levels T k k y u
held_more nodes levels T k x y v u lk F hx hv hy hu = record {
  point = λ a c f la lc lf. elim (cases_lt c (given nodes (suc k) a)) [
    | inl q ↦ hx a c f la q lf ∙ F.point a c f la (given_count a c la q) lf
    | inr q ↦
        let n = place a c la lc q in
        ap (λ z. y a z f) n.1 ∙ (hy a n.0 f la n.2 lf ∙ ap (λ z. z.point (get_or (free nodes levels a) f 0)) (sym (ap (λ z. get_or (claims_on nodes levels T a) z no_claim) n.1 ∙ place_law nodes levels T k a n.0 la lk n.2)))
  ];
  value = λ a c la lc. elim (cases_lt c (given nodes (suc k) a)) [
    | inl q ↦ hv a c la q ∙ F.value a c la (given_count a c la q)
    | inr q ↦
        let n = place a c la lc q in
        ap (λ z. u a z) n.1 ∙ (hu a n.0 la n.2 ∙ ap (λ z. z.value) (sym (ap (λ z. get_or (claims_on nodes levels T a) z no_claim) n.1 ∙ place_law nodes levels T k a n.0 la lk n.2)))
  ];
}
  where
    given_count : (a c : ℕ) → a < k → c < given nodes (suc k) a → c < count_from nodes (suc k) a
    given_count a c la q = subst (λ b. c < cond b 1 (given nodes (suc k) a)) (sym (ne_eqb a (root nodes) (λ e. omega arith))) q

    place : (a c : ℕ) → a < k → c < count_from nodes k a → given nodes (suc k) a ≤ c
        → (n : ℕ) × (c ≡ given nodes (suc k) a + n) × (n < length (hands nodes levels T k a))
    place a c la lc q =
        let l : c < given nodes k a = subst (λ b. c < cond b 1 (given nodes k a)) (ne_eqb a (root nodes) (λ e. omega arith)) lc in
        let m = given_more nodes k a lk in
        let h = length-claims_from nodes levels T k (node_at nodes k) (claims_on nodes levels T k) a (claims nodes k) (length-claims_on nodes levels T k) in
        (c - given nodes (suc k) a, omega arith, omega arith)

-- A node that hands nothing down.
pub held_leaf : (nodes : List Node) (levels : ℕ) (T : Transcript) (k : ℕ) (x : ℕ → ℕ → ℕ → ℕ) (v : ℕ → ℕ → ℕ) → k ≤ root nodes
    → ((a : ℕ) → hands nodes levels T k a ≡ []) → AreHeld nodes levels T (suc k) k x v → AreHeld nodes levels T k k x v
held_leaf nodes levels T k x v lk e F =
    held_more nodes levels T k x x v v lk F (λ a c f la lc lf. refl) (λ a c la lc. refl)
    (λ a c f la lc lf. absurd (none a c lc)) (λ a c la lc. absurd (none a c lc))
  where
    none : (a c : ℕ) → c < length (hands nodes levels T k a) → ⊥
    none a c l = (let q : c < 0 = subst (λ z. c < length z) (e a) l in omega arith)

-- What a `Not` or `Fix` node hands down, by one map of its claims.
pub held_mapped : (nodes : List Node) (levels : ℕ) (T : Transcript) (k b : ℕ) (g : Claim → Claim) (x y : ℕ → ℕ → ℕ → ℕ) (v u : ℕ → ℕ → ℕ) → k ≤ root nodes
    → ((a : ℕ) → hands nodes levels T k a ≡ cond (eqb b a) (map g (claims_on nodes levels T k)) []) → AreHeld nodes levels T (suc k) k x v
    → ((a c f : ℕ) → a < k → c < given nodes (suc k) a → f < length (free nodes levels a) → y a c f ≡ x a c f)
    → ((a c : ℕ) → a < k → c < given nodes (suc k) a → u a c ≡ v a c)
    → ((c f : ℕ) → c < claims nodes k → f < length (free nodes levels b) → y b (given nodes (suc k) b + c) f ≡ (g (get_or (claims_on nodes levels T k) c no_claim)).point (get_or (free nodes levels b) f 0))
    → ((c : ℕ) → c < claims nodes k → u b (given nodes (suc k) b + c) ≡ (g (get_or (claims_on nodes levels T k) c no_claim)).value)
    → AreHeld nodes levels T k k y u
held_mapped nodes levels T k b g x y v u lk e F hx hv hy hu =
    held_more nodes levels T k x y v u lk F hx hv
    (λ a c f la lc lf. elim (cases_eq b a) [
      | inl q ↦ (let h = is_map a q in let l : c < claims nodes k = few a c q lc in
          subst (λ z. y z (given nodes (suc k) z + c) f ≡ (get_or (hands nodes levels T k a) c no_claim).point (get_or (free nodes levels z) f 0)) q
          (hy c f l (subst (λ z. f < length (free nodes levels z)) (sym q) lf) ∙ sym (ap (λ z. z.point (get_or (free nodes levels b) f 0)) (ap (λ z. get_or z c no_claim) h ∙ at_map c l))))
      | inr q ↦ absurd (none a c q lc)
    ])
    (λ a c la lc. elim (cases_eq b a) [
      | inl q ↦ (let h = is_map a q in let l : c < claims nodes k = few a c q lc in
          subst (λ z. u z (given nodes (suc k) z + c) ≡ (get_or (hands nodes levels T k a) c no_claim).value) q
          (hu c l ∙ sym (ap (λ z. z.value) (ap (λ z. get_or z c no_claim) h ∙ at_map c l))))
      | inr q ↦ absurd (none a c q lc)
    ])
  where
    is_map : (a : ℕ) → b ≡ a → hands nodes levels T k a ≡ map g (claims_on nodes levels T k)
    is_map a q = e a ∙ cond-true (eqb b a) (map g (claims_on nodes levels T k)) [] (eq-eqb b a q)

    few : (a c : ℕ) → b ≡ a → c < length (hands nodes levels T k a) → c < claims nodes k
    few a c q l = (let h = ap length (e a ∙ cond-true (eqb b a) (map g (claims_on nodes levels T k)) [] (eq-eqb b a q)) in let m = length-map (claims_on nodes levels T k) g in let n = length-claims_on nodes levels T k in omega arith)

    at_map : (c : ℕ) → c < claims nodes k → get_or (map g (claims_on nodes levels T k)) c no_claim ≡ g (get_or (claims_on nodes levels T k) c no_claim)
    at_map c l = get_or-map g (claims_on nodes levels T k) c no_claim no_claim (subst (λ z. c < z) (sym (length-claims_on nodes levels T k)) l)

    none : (a c : ℕ) → (b ≡ a → ⊥) → c < length (hands nodes levels T k a) → ⊥
    none a c q l = (let h : length (hands nodes levels T k a) ≡ 0 = ap length (e a ∙ cond-false (eqb b a) (map g (claims_on nodes levels T k)) [] (ne_eqb b a q)) in omega arith)

-- Up to two claims.
abbrev pub two : Claim → Claim → Bool → Bool → List Claim
two cp cq s t = cond s (cp ∷ []) [] ++ cond t (cq ∷ []) []

-- entry c of them, by a property of places
two_place : (cp cq : Claim) (s t : Bool) (c : ℕ) (P : ℕ → Claim → Type 0) → c < length (two cp cq s t) → (s ≡ true → P 0 cp)
    → (t ≡ true → P (cond s 1 0) cq) → P c (get_or (two cp cq s t) c no_claim)
two_place cp cq false false c P l hp hq = absurd (omega arith)
two_place cp cq true false zero P l hp hq = hp refl
two_place cp cq true false (suc c) P l hp hq = absurd (omega arith)
two_place cp cq false true zero P l hp hq = hq refl
two_place cp cq false true (suc c) P l hp hq = absurd (omega arith)
two_place cp cq true true zero P l hp hq = hp refl
two_place cp cq true true (suc zero) P l hp hq = hq refl
two_place cp cq true true (suc (suc c)) P l hp hq = absurd (omega arith)

-- What a binary node hands down: its point with one value per operand, the first operand first.
pub held_pair : (nodes : List Node) (levels : ℕ) (T : Transcript) (k b d : ℕ) (cp cq : Claim) (x y : ℕ → ℕ → ℕ → ℕ) (v u : ℕ → ℕ → ℕ) → k ≤ root nodes
    → ((a : ℕ) → hands nodes levels T k a ≡ two cp cq (eqb b a) (eqb d a))
    → AreHeld nodes levels T (suc k) k x v
    → ((a c f : ℕ) → a < k → c < given nodes (suc k) a → f < length (free nodes levels a) → y a c f ≡ x a c f)
    → ((a c : ℕ) → a < k → c < given nodes (suc k) a → u a c ≡ v a c)
    → ((f : ℕ) → f < length (free nodes levels b) → y b (given nodes (suc k) b + 0) f ≡ cp.point (get_or (free nodes levels b) f 0))
    → ((f : ℕ) → f < length (free nodes levels d) → y d (given nodes (suc k) d + cond (eqb b d) 1 0) f ≡ cq.point (get_or (free nodes levels d) f 0))
    → u b (given nodes (suc k) b + 0) ≡ cp.value → u d (given nodes (suc k) d + cond (eqb b d) 1 0) ≡ cq.value
    → AreHeld nodes levels T k k y u
held_pair nodes levels T k b d cp cq x y v u lk e F hx hv yb yd ub ud =
    held_more nodes levels T k x y v u lk F hx hv
    (λ a c f la lc lf. subst (λ z. y a (given nodes (suc k) a + c) f ≡ (get_or z c no_claim).point (get_or (free nodes levels a) f 0)) (sym (e a))
    (two_place cp cq (eqb b a) (eqb d a) c (λ n z. y a (given nodes (suc k) a + n) f ≡ z.point (get_or (free nodes levels a) f 0)) (subst (λ z. c < length z) (e a) lc)
    (λ s. let q = eqb-true b a s in subst (λ z. y z (given nodes (suc k) z + 0) f ≡ cp.point (get_or (free nodes levels z) f 0)) q (yb f (subst (λ z. f < length (free nodes levels z)) (sym q) lf)))
    (λ t. let q = eqb-true d a t in subst (λ z. y z (given nodes (suc k) z + cond (eqb b z) 1 0) f ≡ cq.point (get_or (free nodes levels z) f 0)) q (yd f (subst (λ z. f < length (free nodes levels z)) (sym q) lf)))))
    (λ a c la lc. subst (λ z. u a (given nodes (suc k) a + c) ≡ (get_or z c no_claim).value) (sym (e a))
    (two_place cp cq (eqb b a) (eqb d a) c (λ n z. u a (given nodes (suc k) a + n) ≡ z.value) (subst (λ z. c < length z) (e a) lc)
    (λ s. let q = eqb-true b a s in subst (λ z. u z (given nodes (suc k) z + 0) ≡ cp.value) q ub)
    (λ t. let q = eqb-true d a t in subst (λ z. u z (given nodes (suc k) z + cond (eqb b z) 1 0) ≡ cq.value) q ud)))
