-- What a node hands down is among the claims on its child.
use Rattle.std.proofs.Common.{arith, ℕ, ◌≡◌, ◌-◌, ◌<◌, refl, sym, subst, inl, inr, List, [], ◌∷◌, length, Bool, cond, eqb}
use Rattle.std.specs.Prelude.{Contains}
use Rattle.std.proofs.lemmas.Bool.{eq-eqb, cond-true}
use Rattle.std.proofs.lemmas.List.Elements.{Contains-append_left, Contains-append_right}
use Rattle.blic_model.specs.declared.node.Node.{Node}
use Rattle.blic_model.specs.declared.node.Node.TheVariants.{Not, Fix}
use Rattle.blic_model.specs.Circuit.{node_at, root, below}
use Rattle.blic_model.specs.Value.{bit}
use Rattle.blic_claims.specs.Claims.{Transcript, Claim, zero_point, node_point, operand_claims, claims_from, claims_on}
use Rattle.blic_claims.proofs.Lists.{Contains-below, Contains-flat_map, Contains-map, Contains-head}
use Rattle.blic_claims.proofs.ClaimCounts.{claims_under}
use Rattle.blic_claims.proofs.HandedClaims.{handed_by, claims_is}
use Rattle.blic_claims.proofs.Pairs.{IsPair}
use Rattle.blic_verifier.proofs.ClaimElements.{negated, fixed}

pub root_claim : (nodes : List Node) (levels : ℕ) (T : Transcript)
    → Contains (claims_on nodes levels T (root nodes)) (record { point = zero_point; value = bit T.answer })
unfolding claims_on
root_claim nodes levels T =
    let z : root nodes - root nodes ≡ 0 = omega arith in
    subst (λ n. Contains (claims_under nodes levels T n) (record { point = zero_point; value = bit T.answer })) (sym z) (Contains-head _ [])

child_claim : (nodes : List Node) (levels : ℕ) (T : Transcript) (k a : ℕ) → k < length nodes → a < k → (c : Claim)
    → Contains (claims_from nodes levels T k (node_at nodes k) (claims_on nodes levels T k) a) c → Contains (claims_on nodes levels T a) c
unfolding handed_by
child_claim nodes levels T k a lk la c h =
    let back : root nodes - (root nodes - k) ≡ k = omega arith in
    subst (λ cs. Contains cs c) (sym (claims_is nodes levels T a (omega arith)))
    (Contains-flat_map (handed_by nodes levels T a) (below (root nodes - a)) (root nodes - k) c
    (Contains-below (root nodes - a) (root nodes - k) (omega arith))
    (subst (λ p. Contains (claims_from nodes levels T p (node_at nodes p) (claims_on nodes levels T p) a) c) (sym back) h))

if_same : (a : ℕ) (cs : List Claim) → cond (eqb a a) cs [] ≡ cs
if_same a cs = cond-true (eqb a a) cs [] (eq-eqb a a refl)

pub not_claim : (nodes : List Node) (levels : ℕ) (T : Transcript) (k a : ℕ) → k < length nodes → a < k → node_at nodes k ≡ Not a
    → (c : Claim) → Contains (claims_on nodes levels T k) c → Contains (claims_on nodes levels T a) (negated c)
not_claim nodes levels T k a lk la e c h =
    child_claim nodes levels T k a lk la (negated c) (rw (e, if_same a) (Contains-map negated (claims_on nodes levels T k) c h))

pub fix_claim : (nodes : List Node) (levels : ℕ) (T : Transcript) (k x : ℕ) (b : Bool) (a : ℕ) → k < length nodes → a < k → node_at nodes k ≡ Fix x b a
    → (c : Claim) → Contains (claims_on nodes levels T k) c → Contains (claims_on nodes levels T a) (fixed x b c)
fix_claim nodes levels T k x b a lk la e c h =
    child_claim nodes levels T k a lk la (fixed x b c) (rw (e, if_same a) (Contains-map (fixed x b) (claims_on nodes levels T k) c h))

-- the claims on the operands of a binary node
operand_claim : (nodes : List Node) (levels : ℕ) (T : Transcript) (k a b i : ℕ) → k < length nodes → i < k → IsPair (node_at nodes k) a b
    → (c : Claim) → Contains (operand_claims a b (node_point nodes levels T k) (T.values k) i) c → Contains (claims_on nodes levels T i) c
operand_claim nodes levels T k a b i lk l (inl e) c h = child_claim nodes levels T k i lk l c (rw e h)
operand_claim nodes levels T k a b i lk l (inr e) c h = child_claim nodes levels T k i lk l c (rw e h)

pub first_claim : (nodes : List Node) (levels : ℕ) (T : Transcript) (k a b : ℕ) → k < length nodes → a < k → IsPair (node_at nodes k) a b
    → Contains (claims_on nodes levels T a) (record { point = node_point nodes levels T k; value = (T.values k).0 })
first_claim nodes levels T k a b lk l o =
    let c : Claim = record { point = node_point nodes levels T k; value = (T.values k).0 } in
    operand_claim nodes levels T k a b a lk l o c (rw (if_same a) (Contains-append_left (c ∷ []) _ c (Contains-head c [])))

pub second_claim : (nodes : List Node) (levels : ℕ) (T : Transcript) (k a b : ℕ) → k < length nodes → b < k → IsPair (node_at nodes k) a b
    → Contains (claims_on nodes levels T b) (record { point = node_point nodes levels T k; value = (T.values k).1 })
second_claim nodes levels T k a b lk l o =
    let c : Claim = record { point = node_point nodes levels T k; value = (T.values k).1 } in
    operand_claim nodes levels T k a b b lk l o c (rw (if_same b) (Contains-append_right _ (c ∷ []) c (Contains-head c [])))
