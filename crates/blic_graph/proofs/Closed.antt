-- A list of pairs that has the operands, and the children of each of its pairs, has all pairs; and the children of a pair are pairs.
use Rattle.std.proofs.Common.{arith, ℕ, ◌-◌, ◌<◌, ◌≤◌, ◌≡◌, ◌≢◌, refl, sym, ◌∙◌, subst, ◌⊎◌, inl, inr, List, [], ◌∷◌, ◌++◌, length, Bool, append_assoc, append-nil}
use Rattle.std.specs.Prelude.{min}
use Rattle.std.proofs.lemmas.Bool.{cases_eq, cases_lt}
use Rattle.blic_store.specs.declared.decision.Decision.{Decision}
use Rattle.blic_store.specs.Diagram.{cofactor, level_of, IsRef}
use Rattle.blic_store.specs.Canonical.{IsCanonical}
use Rattle.blic_store.specs.Under.{IsUnder}
use Rattle.blic_store.proofs.Canonical.{same_ref}
use Rattle.blic_store.proofs.Cofactors.{cofactor-other, is_cofactor}
use Rattle.blic_store.proofs.Under.{length-padded, pad_to, padded, under_cofactor, under_constant, under_none}
use Rattle.blic_graph.specs.Pairs.{IsInner, IsPairOf, level_of_pair}
use Rattle.blic_graph.specs.Listing.{IsUnderBoth}

-- A set of pairs that has the operands and is closed under fixing a pair's level.
pub record HasRootAndChildren (nodes : List Decision) (a b : ℕ) (has : ℕ → ℕ → Type 0) : Type 0 where
  pub root : 2 ≤ a → 2 ≤ b → has a b
  pub child : (r s x : ℕ) (v : Bool) → has r s → x ≡ min (level_of nodes r) (level_of nodes s) → 2 ≤ cofactor nodes r x v → 2 ≤ cofactor nodes s x v → has (cofactor nodes r x v) (cofactor nodes s x v)

-- Two refs under one prefix, which are in the set where both are inner.
pub record IsWalk (nodes : List Decision) (a b : ℕ) (has : ℕ → ℕ → Type 0) (bits : List Bool) : Type 0 where
  pub r : ℕ
  pub s : ℕ
  pub first : IsUnder nodes a bits r
  pub second : IsUnder nodes b bits s
  pub listed : 2 ≤ r → 2 ≤ s → has r s

walk_step : (nodes : List Decision) → IsCanonical nodes → (a b : ℕ) (has : ℕ → ℕ → Type 0) → HasRootAndChildren nodes a b has → (u : List Bool) (v : Bool) → IsWalk nodes a b has u → IsWalk nodes a b has (u ++ v ∷ [])
walk_step nodes c a b has closed u v w = cases (cases_lt w.r 2) (cases_lt w.s 2)
  where
    inner : 2 ≤ w.r → 2 ≤ w.s → 2 ≤ cofactor nodes w.r (length u) v → 2 ≤ cofactor nodes w.s (length u) v → has (cofactor nodes w.r (length u) v) (cofactor nodes w.s (length u) v)
    inner i j bi bj = elim (cases_eq (length u) (min (level_of nodes w.r) (level_of nodes w.s))) [
      | inl e ↦ closed.child w.r w.s (length u) v (w.listed i j) e bi bj
      | inr n ↦ (let rb = w.first.below i in let sb = w.second.below j in
          let ne : length u ≢ min (level_of nodes w.r) (level_of nodes w.s) = n in
          subst (λ z. has z (cofactor nodes w.s (length u) v)) (sym (cofactor-other nodes w.r (length u) v (λ q. let e : level_of nodes w.r ≡ length u = q in absurd (omega arith))))
          (subst (λ z. has w.r z) (sym (cofactor-other nodes w.s (length u) v (λ q. let e : level_of nodes w.s ≡ length u = q in absurd (omega arith)))) (w.listed i j)))
    ]

    cases : (w.r < 2) ⊎ (2 ≤ w.r) → (w.s < 2) ⊎ (2 ≤ w.s) → IsWalk nodes a b has (u ++ v ∷ [])
    cases (inl i) (inl j) = record { r = w.r; s = w.s; first = under_constant nodes a u v w.r w.first i; second = under_constant nodes b u v w.s w.second j; listed = λ k l. absurd (omega arith) }
    cases (inl i) (inr j) = record { r = w.r; s = cofactor nodes w.s (length u) v; first = under_constant nodes a u v w.r w.first i; second = under_cofactor nodes c b u v w.s w.second j; listed = λ k l. absurd (omega arith) }
    cases (inr i) (inl j) = record { r = cofactor nodes w.r (length u) v; s = w.s; first = under_cofactor nodes c a u v w.r w.first i; second = under_constant nodes b u v w.s w.second j; listed = λ k l. absurd (omega arith) }
    cases (inr i) (inr j) = record { r = cofactor nodes w.r (length u) v; s = cofactor nodes w.s (length u) v; first = under_cofactor nodes c a u v w.r w.first i; second = under_cofactor nodes c b u v w.s w.second j; listed = λ k l. inner i j k l }

walk_from : (nodes : List Decision) → IsCanonical nodes → (a b : ℕ) (has : ℕ → ℕ → Type 0) → HasRootAndChildren nodes a b has → (vs u : List Bool) → IsWalk nodes a b has u → IsWalk nodes a b has (u ++ vs)
walk_from nodes c a b has closed [] u w = subst (IsWalk nodes a b has) (sym (append-nil u)) w
walk_from nodes c a b has closed (v ∷ vs) u w =
    subst (IsWalk nodes a b has) (append_assoc u (v ∷ []) vs) (walk_from nodes c a b has closed vs (u ++ v ∷ []) (walk_step nodes c a b has closed u v w))

-- The law: each pair of functions under one prefix, neither constant, is in a closed set.
pub closed_has_all : (nodes : List Decision) → IsCanonical nodes → (a b : ℕ) (has : ℕ → ℕ → Type 0) → IsRef nodes a → IsRef nodes b → HasRootAndChildren nodes a b has
    → (r s : ℕ) → IsPairOf nodes a b r s → has r s
closed_has_all nodes c a b has ha hb closed r s of =
    let hr = of.first_inner.held in let hs = of.second_inner.held in
    let i = of.first_inner.inner in let j = of.second_inner.inner in
    let start : IsWalk nodes a b has [] = record {
      r = a;
      s = b;
      first = record { held = ha; value = λ p. refl; below = λ k. omega arith };
      second = record { held = hb; value = λ p. refl; below = λ k. omega arith };
      listed = closed.root;
    } in
    let w = walk_from nodes c a b has closed of.bits [] start in
    let er : w.r ≡ r = same_ref nodes c w.r r w.first.held hr (λ p. w.first.value p ∙ sym (of.first p)) in
    let es : w.s ≡ s = same_ref nodes c w.s s w.second.held hs (λ p. w.second.value p ∙ sym (of.second p)) in
    subst (λ z. has z s) er (subst (has w.r) es (w.listed (omega arith) (omega arith)))

-- Two refs under one prefix, neither constant, are a pair.
pub pair_of_under : (nodes : List Decision) (a b r s : ℕ) → IsUnderBoth nodes a b r s → 2 ≤ r → 2 ≤ s → IsPairOf nodes a b r s
pair_of_under nodes a b r s u i j = record {
  first_inner = record { held = u.first.held; inner = i };
  second_inner = record { held = u.second.held; inner = j };
  bits = u.bits;
  first = u.first.value;
  second = u.second.value;
}

pub under_both_none : (nodes : List Decision) (a b : ℕ) → IsRef nodes a → IsRef nodes b → IsUnderBoth nodes a b a b
under_both_none nodes a b h i = record { bits = []; first = under_none nodes a h; second = under_none nodes b i }

-- What a pair becomes is under one prefix.
pub under_both_child : (nodes : List Decision) → IsCanonical nodes → (a b r s x : ℕ) (v : Bool) → IsUnderBoth nodes a b r s → 2 ≤ r → 2 ≤ s → x ≡ level_of_pair nodes r s → IsUnderBoth nodes a b (cofactor nodes r x v) (cofactor nodes s x v)
under_both_child nodes c a b r s x v u i j e =
    let fb = u.first.below i in
    let sb = u.second.below j in
    let n = x - length u.bits in
    let w = padded u.bits n in
    let long : length w ≡ x = let l = length-padded u.bits n in omega arith in
    record {
      bits = w ++ v ∷ [];
      first = subst (λ z. IsUnder nodes a (w ++ v ∷ []) (cofactor nodes r z v)) long (under_cofactor nodes c a w v r (pad_to nodes c a r n u.bits (omega arith) u.first) i);
      second = subst (λ z. IsUnder nodes b (w ++ v ∷ []) (cofactor nodes s z v)) long (under_cofactor nodes c b w v s (pad_to nodes c b s n u.bits (omega arith) u.second) j);
    }

-- It decides below the pair's level.
pub child_below : (nodes : List Decision) → IsCanonical nodes → (r s x : ℕ) (v : Bool) → IsInner nodes r → IsInner nodes s → x ≡ level_of_pair nodes r s → x < level_of_pair nodes (cofactor nodes r x v) (cofactor nodes s x v)
child_below nodes c r s x v i j e =
    let f = is_cofactor nodes c r x v i.held i.inner (omega arith) in
    let g = is_cofactor nodes c s x v j.held j.inner (omega arith) in
    let fb = f.below in
    let gb = g.below in
    omega arith
