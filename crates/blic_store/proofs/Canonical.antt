-- In a canonical list equal functions have equal refs.
use Rattle.std.proofs.Common.{arith, ℕ, zero, suc, ◌+◌, ◌<◌, ◌≤◌, ◌≡◌, refl, sym, ◌∙◌, ap, ◌⊎◌, inl, inr, List, [], ◌∷◌, ◌++◌, length, take, drop, Bool, false, true, cond, eqb, append_assoc}
use Rattle.std.proofs.lemmas.Bool.{cases_lt}
use Rattle.std.proofs.lemmas.List.{take-append-drop, length-take-le, length_push}
use Rattle.std.proofs.Math.Seq.{drop-cons}
use mathlib.Core.Path.{ap₂}
use Rattle.blic_store.specs.declared.decision.Decision.{Decision}
use Rattle.blic_store.specs.Canonical.{IsPlaced, IsCanonical}
use Rattle.blic_store.specs.Diagram.{function, decision_at, level_of}
use Rattle.blic_store.specs.Function.{Same, choice}
use Rattle.blic_store.proofs.Functions.{function-append, function-false, function-true, function-last}
use Rattle.blic_store.proofs.Levels.{level_of-suc, level_of-const}

pub with_bit : (ℕ → Bool) → ℕ → Bool → ℕ → Bool
with_bit p x b y = cond (eqb y x) b (p y)

pub with_bit-here : (p : ℕ → Bool) (x : ℕ) (b : Bool) → with_bit p x b x ≡ b
unfolding with_bit
with_bit-here p x b = grind arith

pub with_bit-other : (p : ℕ → Bool) (x : ℕ) (b : Bool) (y : ℕ) → (y ≡ x → ⊥) → with_bit p x b y ≡ p y
unfolding with_bit
with_bit-other p x b y n = grind arith

-- The list as the nodes before node k, node k, and the rest.
split : (nodes : List Decision) (k : ℕ) → k < length nodes → nodes ≡ (take k nodes ++ decision_at nodes k ∷ []) ++ drop (suc k) nodes
split nodes k h =
    sym (take-append-drop k nodes)
    ∙ (ap (λ z. take k nodes ++ z) (drop-cons nodes k (record { level = 0; low = 0; high = 0 }) h)
    ∙ sym (append_assoc (take k nodes) (decision_at nodes k ∷ []) (drop (suc k) nodes)))

-- A node's function is a choice between those of its parts.
pub function-node : (nodes : List Decision) → (k : ℕ) → k < length nodes → IsPlaced nodes k (decision_at nodes k)
    → function nodes (suc (suc k)) ≡ choice (decision_at nodes k).level (function nodes (decision_at nodes k).low) (function nodes (decision_at nodes k).high)
function-node nodes k h o =
    let xs = take k nodes in
    let e = decision_at nodes k in
    let len : length xs ≡ k = length-take-le k nodes (omega arith) in
    let before = o.low_before in
    let before2 = o.high_before in
    let len2 = length_push xs e in
    let part : (r : ℕ) → r < k + 2 → function xs r ≡ function nodes r =
    λ r l. sym (function-append xs (drop k nodes) r (omega arith)) ∙ ap (λ z. function z r) (take-append-drop k nodes) in
    ap (λ z. function z (suc (suc k))) (split nodes k h)
    ∙ (function-append (xs ++ e ∷ []) (drop (suc k) nodes) (suc (suc k)) (omega arith)
    ∙ (function-last xs e (suc (suc k)) (omega arith)
    ∙ ap₂ (choice e.level) (part e.low (omega arith)) (part e.high (omega arith))))

-- A function depends on its level and those below it alone.
depends-upto : (nodes : List Decision) → IsCanonical nodes → (n r : ℕ) → r < n → r < length nodes + 2 → (p q : ℕ → Bool) → ((x : ℕ) → level_of nodes r ≤ x → p x ≡ q x) → function nodes r p ≡ function nodes r q
depends-upto nodes c zero r l h p q e = absurd (omega arith)
depends-upto nodes c (suc n) zero l h p q e = ap (λ f. f p) (function-false nodes) ∙ sym (ap (λ f. f q) (function-false nodes))
depends-upto nodes c (suc n) (suc zero) l h p q e = ap (λ f. f p) (function-true nodes) ∙ sym (ap (λ f. f q) (function-true nodes))
depends-upto nodes c (suc n) (suc (suc k)) l h p q e =
    let o = c.placed k (omega arith) in
    let s = level_of-suc nodes k in
    let before = o.low_before in
    let before2 = o.high_before in
    let above = o.above_low in
    let above2 = o.above_high in
    let node = function-node nodes k (omega arith) o in
    let here : p (decision_at nodes k).level ≡ q (decision_at nodes k).level = e (decision_at nodes k).level (omega arith) in
    let low : function nodes (decision_at nodes k).low p ≡ function nodes (decision_at nodes k).low q =
    depends-upto nodes c n (decision_at nodes k).low (omega arith) (omega arith) p q (λ x w. e x (omega arith)) in
    let high : function nodes (decision_at nodes k).high p ≡ function nodes (decision_at nodes k).high q =
    depends-upto nodes c n (decision_at nodes k).high (omega arith) (omega arith) p q (λ x w. e x (omega arith)) in
    ap (λ f. f p) node ∙ (chosen (p (decision_at nodes k).level) (q (decision_at nodes k).level) here low high ∙ sym (ap (λ f. f q) node))
  where
    chosen : (a b : Bool) → a ≡ b → {u v w z : Bool} → u ≡ v → w ≡ z → cond a w u ≡ cond b z v
    chosen a b e {u} {v} {w} {z} l h = ap (λ t. cond t w u) e ∙ ap₂ (cond b) h l

pub depends : (nodes : List Decision) → IsCanonical nodes → (r : ℕ) → r < length nodes + 2 → (p q : ℕ → Bool) → ((x : ℕ) → level_of nodes r ≤ x → p x ≡ q x) → function nodes r p ≡ function nodes r q
depends nodes c r h = depends-upto nodes c (suc r) r (omega arith) h

-- A ref is blind to the levels above its own.
pub blind : (nodes : List Decision) → IsCanonical nodes → (r : ℕ) → r < length nodes + 2 → (p : ℕ → Bool) (x : ℕ) (b : Bool) → x < level_of nodes r → function nodes r (with_bit p x b) ≡ function nodes r p
blind nodes c r h p x b l = depends nodes c r h (with_bit p x b) p (λ y w. with_bit-other p x b y (λ q. let z : y ≡ x = q in omega arith))

-- The parts of a node are the node at either bit.
pub low_is : (nodes : List Decision) → IsCanonical nodes → (k : ℕ) → k < length nodes → (p : ℕ → Bool) → function nodes (suc (suc k)) (with_bit p (decision_at nodes k).level false) ≡ function nodes (decision_at nodes k).low p
low_is nodes c k h p =
    let o = c.placed k h in
    let x = (decision_at nodes k).level in
    let before = o.low_before in
    ap (λ f. f (with_bit p x false)) (function-node nodes k h o)
    ∙ (ap (λ b. cond b (function nodes (decision_at nodes k).high (with_bit p x false)) (function nodes (decision_at nodes k).low (with_bit p x false))) (with_bit-here p x false)
    ∙ blind nodes c (decision_at nodes k).low (omega arith) p x false o.above_low)

pub high_is : (nodes : List Decision) → IsCanonical nodes → (k : ℕ) → k < length nodes → (p : ℕ → Bool) → function nodes (suc (suc k)) (with_bit p (decision_at nodes k).level true) ≡ function nodes (decision_at nodes k).high p
high_is nodes c k h p =
    let o = c.placed k h in
    let x = (decision_at nodes k).level in
    let before = o.high_before in
    ap (λ f. f (with_bit p x true)) (function-node nodes k h o)
    ∙ (ap (λ b. cond b (function nodes (decision_at nodes k).high (with_bit p x true)) (function nodes (decision_at nodes k).low (with_bit p x true))) (with_bit-here p x true)
    ∙ blind nodes c (decision_at nodes k).high (omega arith) p x true o.above_high)

AllSame : List Decision → ℕ → Type 0
AllSame nodes n = (r s : ℕ) → r < n → s < n → r < length nodes + 2 → s < length nodes + 2 → Same (function nodes r) (function nodes s) → r ≡ s

-- A node isn't the function of a ref below its level.
not_lower : (nodes : List Decision) → IsCanonical nodes → (n : ℕ) → AllSame nodes n → (k s : ℕ) → suc (suc k) < suc n → s < length nodes + 2 → k < length nodes → (decision_at nodes k).level < level_of nodes s
    → Same (function nodes (suc (suc k))) (function nodes s) → ⊥
unfolding AllSame
not_lower nodes c n ih k s hk hs h l e =
    let o = c.placed k h in
    let x = (decision_at nodes k).level in
    let before = o.low_before in
    let before2 = o.high_before in
    o.reduced (ih (decision_at nodes k).low (decision_at nodes k).high (omega arith) (omega arith) (omega arith) (omega arith)
    (λ p. sym (low_is nodes c k h p) ∙ (e (with_bit p x false) ∙ (blind nodes c s hs p x false l
    ∙ (sym (blind nodes c s hs p x true l) ∙ (sym (e (with_bit p x true)) ∙ high_is nodes c k h p))))))

-- Two nodes of one level and with one function are one.
same_node : (nodes : List Decision) → IsCanonical nodes → (n : ℕ) → AllSame nodes n → (j k : ℕ) → suc (suc j) < suc n → suc (suc k) < suc n → j < length nodes → k < length nodes
    → (decision_at nodes j).level ≡ (decision_at nodes k).level → Same (function nodes (suc (suc j))) (function nodes (suc (suc k))) → decision_at nodes j ≡ decision_at nodes k
unfolding AllSame
same_node nodes c n ih j k lj lk hj hk q e =
    let o = c.placed j hj in
    let u = c.placed k hk in
    let a = o.low_before in let b = o.high_before in let d = u.low_before in let f = u.high_before in
    let low : (decision_at nodes j).low ≡ (decision_at nodes k).low =
    ih (decision_at nodes j).low (decision_at nodes k).low (omega arith) (omega arith) (omega arith) (omega arith)
    (λ p. sym (low_is nodes c j hj p) ∙ (e (with_bit p (decision_at nodes j).level false) ∙ (ap (λ x. function nodes (suc (suc k)) (with_bit p x false)) q ∙ low_is nodes c k hk p))) in
    let high : (decision_at nodes j).high ≡ (decision_at nodes k).high =
    ih (decision_at nodes j).high (decision_at nodes k).high (omega arith) (omega arith) (omega arith) (omega arith)
    (λ p. sym (high_is nodes c j hj p) ∙ (e (with_bit p (decision_at nodes j).level true) ∙ (ap (λ x. function nodes (suc (suc k)) (with_bit p x true)) q ∙ high_is nodes c k hk p))) in
    λ i. record { level = q i; low = low i; high = high i }

unequal : (nodes : List Decision) → Same (function nodes 0) (function nodes 1) → ⊥
unequal nodes e = let w = sym (ap (λ f. f (λ x. false)) (function-false nodes)) ∙ (e (λ x. false) ∙ ap (λ f. f (λ x. false)) (function-true nodes)) in differ w
  where
    differ : false ≡ true → ⊥
    differ q = cc

all_same : (nodes : List Decision) → IsCanonical nodes → (n : ℕ) → AllSame nodes n
unfolding AllSame
all_same nodes c zero r s hr hs a b e = absurd (omega arith)
all_same nodes c (suc n) zero zero hr hs a b e = refl
all_same nodes c (suc n) (suc zero) (suc zero) hr hs a b e = refl
all_same nodes c (suc n) zero (suc zero) hr hs a b e = absurd (unequal nodes e)
all_same nodes c (suc n) (suc zero) zero hr hs a b e = absurd (unequal nodes (λ p. sym (e p)))
all_same nodes c (suc n) (suc (suc k)) zero hr hs a b e =
    absurd (not_lower nodes c n (all_same nodes c n) k 0 hr b (omega arith) (let w = (c.placed k (omega arith)).in_range in omega (arith, level_of-const nodes 0 (omega arith))) e)
all_same nodes c (suc n) (suc (suc k)) (suc zero) hr hs a b e =
    absurd (not_lower nodes c n (all_same nodes c n) k 1 hr b (omega arith) (let w = (c.placed k (omega arith)).in_range in omega (arith, level_of-const nodes 1 (omega arith))) e)
all_same nodes c (suc n) zero (suc (suc k)) hr hs a b e =
    absurd (not_lower nodes c n (all_same nodes c n) k 0 hs a (omega arith) (let w = (c.placed k (omega arith)).in_range in omega (arith, level_of-const nodes 0 (omega arith))) (λ p. sym (e p)))
all_same nodes c (suc n) (suc zero) (suc (suc k)) hr hs a b e =
    absurd (not_lower nodes c n (all_same nodes c n) k 1 hs a (omega arith) (let w = (c.placed k (omega arith)).in_range in omega (arith, level_of-const nodes 1 (omega arith))) (λ p. sym (e p)))
all_same nodes c (suc n) (suc (suc j)) (suc (suc k)) hr hs a b e =
    elim (cases_lt (decision_at nodes j).level (decision_at nodes k).level) [
      | inl l ↦ absurd (not_lower nodes c n (all_same nodes c n) j (suc (suc k)) hr b (omega arith) (omega (arith, level_of-suc nodes k)) e)
      | inr l ↦ elim (cases_lt (decision_at nodes k).level (decision_at nodes j).level) [
        | inl m ↦ absurd (not_lower nodes c n (all_same nodes c n) k (suc (suc j)) hs a (omega arith) (omega (arith, level_of-suc nodes j)) (λ p. sym (e p)))
        | inr m ↦ one (cases_lt j k) (cases_lt k j) (same_node nodes c n (all_same nodes c n) j k hr hs (omega arith) (omega arith) (omega arith) e)
      ]
    ]
  where
    one : (j < k) ⊎ (k ≤ j) → (k < j) ⊎ (j ≤ k) → decision_at nodes j ≡ decision_at nodes k → suc (suc j) ≡ suc (suc k)
    one (inl l) m q = absurd (c.unique j k l (omega arith) q)
    one (inr l) (inl m) q = absurd (c.unique k j m (omega arith) (sym q))
    one (inr l) (inr m) q = omega arith

-- The law of a canonical list.
pub same_ref : (nodes : List Decision) → IsCanonical nodes → (r s : ℕ) → r < length nodes + 2 → s < length nodes + 2 → Same (function nodes r) (function nodes s) → r ≡ s
unfolding AllSame
same_ref nodes c r s hr hs e = all_same nodes c (suc (r + s)) r s (omega arith) (omega arith) hr hs e
