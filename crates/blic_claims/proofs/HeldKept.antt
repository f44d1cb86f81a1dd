-- What is held stays true where another transcript agrees on the nodes above.
use Rattle.std.proofs.Common.{arith, ℕ, suc, ◌≡◌, ◌-◌, ◌<◌, ◌≤◌, sym, ◌∙◌, ap, subst, inl, inr, List, length, get_or, cond}
use Rattle.std.proofs.lemmas.Bool.{cases_lt, ne_eqb}
use Rattle.std.specs.Prelude.{flat_map}
use Rattle.blic_model.specs.Circuit.{node_at, below, free, root}
use Rattle.blic_model.specs.declared.node.Node.{Node}
use Rattle.blic_claims.proofs.Agreement.{AgreeAt, handed_agree, claims_agree}
use Rattle.blic_claims.proofs.HandedClaims.{handed_by, claims_is, given_is, entry_left}
use Rattle.blic_claims.proofs.Lists.{flat_map_agree, below_contains}
use Rattle.blic_claims.specs.Claims.{Transcript, claims_on, no_claim}
use Rattle.blic_claims.specs.Held.{count_from, AreHeld}
use Rattle.blic_claims.specs.Places.{given}

-- claims that come from the nodes above k are the same
pub early_same : (nodes : List Node) (levels : ℕ) (T S : Transcript) (k a c : ℕ) → T.answer ≡ S.answer → k ≤ root nodes → a ≤ k
    → ((j : ℕ) → k < j → AgreeAt nodes levels T S j) → c < count_from nodes (suc k) a
    → get_or (claims_on nodes levels T a) c no_claim ≡ get_or (claims_on nodes levels S a) c no_claim
unfolding handed_by
early_same nodes levels T S k a c e lk la h l = elim (cases_lt a (root nodes)) [
  | inl q ↦
      let n = root nodes - k in
      let u : suc (root nodes) - suc k ≡ n = omega arith in
      let lc : c < given nodes (suc k) a = below_root nodes (suc k) a c q l in
      let lT : c < length (flat_map (handed_by nodes levels T a) (below n)) = subst (λ z. c < z) (given_is nodes levels T (suc k) a ∙ ap (λ z. length (flat_map (handed_by nodes levels T a) (below z))) u) lc in
      let lS : c < length (flat_map (handed_by nodes levels S a) (below n)) = subst (λ z. c < z) (given_is nodes levels S (suc k) a ∙ ap (λ z. length (flat_map (handed_by nodes levels S a) (below z))) u) lc in
      ap (λ z. get_or z c no_claim) (claims_is nodes levels T a q)
      ∙ (entry_left (handed_by nodes levels T a) no_claim (root nodes - a) n c (omega arith) lT
      ∙ (ap (λ z. get_or z c no_claim) (flat_map_agree (handed_by nodes levels T a) (handed_by nodes levels S a) (below n) (λ j d.
      let m : j < n = below_contains n j d in
      handed_agree nodes levels T S (root nodes - j) (node_at nodes (root nodes - j)) (h (root nodes - j) (omega arith)) _ _
      (claims_agree nodes levels T S e (root nodes - j) (λ i g. h i (omega arith)) (omega arith)) a))
      ∙ (sym (entry_left (handed_by nodes levels S a) no_claim (root nodes - a) n c (omega arith) lS)
      ∙ ap (λ z. get_or z c no_claim) (sym (claims_is nodes levels S a q)))))
  | inr q ↦ ap (λ z. get_or z c no_claim) (claims_agree nodes levels T S e a (λ i g. h i (omega arith)) (omega arith))
]
  where
    below_root : (nodes : List Node) (k a c : ℕ) → a < root nodes → c < count_from nodes k a → c < given nodes k a
    below_root nodes k a c q l = subst (λ b. c < cond b 1 (given nodes k a)) (ne_eqb a (root nodes) (λ e. omega arith)) l

-- what is stored stays true
pub held_kept : (nodes : List Node) (levels : ℕ) (T S : Transcript) (k bound : ℕ) (x : ℕ → ℕ → ℕ → ℕ) (v : ℕ → ℕ → ℕ) → T.answer ≡ S.answer
    → k ≤ root nodes → bound ≤ suc k → ((j : ℕ) → k < j → AgreeAt nodes levels T S j)
    → AreHeld nodes levels T (suc k) bound x v → AreHeld nodes levels S (suc k) bound x v
held_kept nodes levels T S k bound x v e lk lb h f = record {
  point = λ a c g la lc lg. f.point a c g la lc lg ∙ ap (λ z. z.point (get_or (free nodes levels a) g 0)) (early_same nodes levels T S k a c e lk (omega arith) h lc);
  value = λ a c la lc. f.value a c la lc ∙ ap (λ z. z.value) (early_same nodes levels T S k a c e lk (omega arith) h lc);
}
