-- An honest transcript passes.
use Rattle.std.proofs.Common.{arith, ℕ, zero, suc, ◌≡◌, ◌+◌, ◌-◌, ◌<◌, ◌≤◌, refl, sym, ◌∙◌, ap, subst, inl, inr, List, [], ◌∷◌, length, get_or, drop, true, cond, eqb}
use Rattle.std.specs.Prelude.{All, map, reverse}
use mathlib.Core.Path.{ap₂}
use Rattle.std.proofs.lemmas.Bool.{cases_eq, cases_Bool, eqb-true}
use Rattle.std.proofs.lemmas.List.Elements.{All-contains, All-append, All-cons, All-nil, All-get_or, All-weaker, All-map, All-drop}
use Rattle.std.proofs.lemmas.List.Sorted.{IsPermutation-reverse, All-permutation}
use Rattle.blic_field.specs.Field.{modulus, mul, sub, or}
use Rattle.blic_field.specs.Quadratic.{at}
use Rattle.blic_poly2.specs.Poly.{reduced_at}
use Rattle.blic_model.specs.declared.node.Node.{Node}
use Rattle.blic_model.specs.declared.node.Node.TheVariants.{Const, Var, Not, Fix, And, Or}
use Rattle.blic_model.specs.Circuit.{node_at, root, below, table, free}
use Rattle.blic_model.specs.Value.{put, bit, value}
use Rattle.blic_model.specs.Counts.{is_binary}
use Rattle.blic_model.specs.Reduction.{combined, part, poly}
use Rattle.blic_model.specs.Degree.{IsPoint}
use Rattle.blic_model.proofs.Ordered.{AllOrdered, strong}
use Rattle.blic_model.proofs.Entries.{get-table}
use Rattle.blic_model.proofs.Put.{IsPoint-put}
use Rattle.blic_model.proofs.Values.{value_below, bit_below}
use Rattle.blic_model.proofs.Reduced.{at-poly, part_all, part_none}
use Rattle.blic_model.proofs.Depends.{part_depends}
use Rattle.blic_claims.specs.Claims.{Transcript, Claim, no_claim, node_point, claims_from, claims_on_entry, claims_on, point_at, zero_point}
use Rattle.blic_claims.specs.Honest.{operands}
use Rattle.blic_claims.proofs.Lists.{below_contains, All-flat_map, All-below-lt}
use Rattle.blic_claims.proofs.Drawn.{AllLevelled, point_at_more, point_at_start, point_at_own, point_at_end, IsPoint-point_at, IsPoint-node_point}
use Rattle.blic_verifier.specs.Acceptance.{sent, value_at, poly_check, ends_check, binary_checks, node_checks, checks, AllHold}
use Rattle.blic_verifier.proofs.LevelChain.{value_at_draw, value_at_start, reduced_poly}
use Rattle.blic_verifier.proofs.HeldChecks.{Holds}
use Rattle.blic_verifier.proofs.Descent.{twice_not, value_is}

-- The transcript has the honest answer, polynomials and values.
pub record IsHonest (nodes : List Node) (levels : ℕ) (T : Transcript) : Type 0 where
  pub draws : (k i : ℕ) → T.draw k i < modulus
  pub answers : bit T.answer ≡ value nodes levels (root nodes) zero_point
  pub polynomials : (k i j : ℕ) → is_binary (node_at nodes k) ≡ true → i < length (free nodes levels k) → j < length (claims_on nodes levels T k)
      → sent T k i j ≡ poly nodes levels k i (point_at nodes levels T k (get_or (claims_on nodes levels T k) j no_claim) (i + 1))
  pub first : (k : ℕ) → is_binary (node_at nodes k) ≡ true → (T.values k).0 ≡ value nodes levels (operands (node_at nodes k)).0 (node_point nodes levels T k)
  pub second : (k : ℕ) → is_binary (node_at nodes k) ≡ true → (T.values k).1 ≡ value nodes levels (operands (node_at nodes k)).1 (node_point nodes levels T k)

abbrev pub IsTrueOf : List Node → ℕ → ℕ → Claim → Type 0
IsTrueOf nodes levels k c = IsPoint c.point × (c.value ≡ value nodes levels k c.point)

if_child : (nodes : List Node) (levels a k : ℕ) (cs : List Claim) → All (IsTrueOf nodes levels a) cs → All (IsTrueOf nodes levels k) (cond (eqb a k) cs [])
if_child nodes levels a k cs h = elim (cases_Bool (eqb a k)) [
  | inl e ↦ subst (λ b. All (IsTrueOf nodes levels k) (cond b cs [])) (sym e) (subst (λ z. All (IsTrueOf nodes levels z) cs) (eqb-true a k e) h)
  | inr e ↦ subst (λ b. All (IsTrueOf nodes levels k) (cond b cs [])) (sym e) (All-nil (IsTrueOf nodes levels k))
]

one_true : (nodes : List Node) (levels k : ℕ) (c : Claim) → IsTrueOf nodes levels k c → All (IsTrueOf nodes levels k) (c ∷ [])
one_true nodes levels k c h = All-cons (IsTrueOf nodes levels k) c [] h (All-nil (IsTrueOf nodes levels k))

true_handed : (nodes : List Node) (levels : ℕ) → AllOrdered nodes → (T : Transcript) → IsHonest nodes levels T → (p : ℕ) (m : Node) → node_at nodes p ≡ m → (cs : List Claim) (k : ℕ) → All (IsTrueOf nodes levels p) cs
    → All (IsTrueOf nodes levels k) (claims_from nodes levels T p m cs k)
true_handed nodes levels o T t p (Const b) e cs k h = All-nil (IsTrueOf nodes levels k)
true_handed nodes levels o T t p (Var x) e cs k h = All-nil (IsTrueOf nodes levels k)
true_handed nodes levels o T t p (Not a) e cs k h =
    if_child nodes levels a k _ (All-map (IsTrueOf nodes levels a) (λ c. record { point = c.point; value = sub 1 c.value }) cs
    (All-weaker (IsTrueOf nodes levels p) (λ c. IsTrueOf nodes levels a (record { point = c.point; value = sub 1 c.value }))
    (λ c g. (g.0, ap (λ z. sub 1 z) (g.1 ∙ value_is nodes levels o p (Not a) e c.point) ∙ sym (twice_not (value nodes levels a c.point) (value_below nodes levels o a c.point g.0)))) cs h))
true_handed nodes levels o T t p (Fix x b a) e cs k h =
    if_child nodes levels a k _ (All-map (IsTrueOf nodes levels a) (λ c. record { point = put c.point x (bit b); value = c.value }) cs
    (All-weaker (IsTrueOf nodes levels p) (λ c. IsTrueOf nodes levels a (record { point = put c.point x (bit b); value = c.value }))
    (λ c g. (IsPoint-put c.point x (bit b) g.0 (bit_below b), g.1 ∙ value_is nodes levels o p (Fix x b a) e c.point)) cs h))
true_handed nodes levels o T t p (And a b) e cs k h =
    All-append (IsTrueOf nodes levels k) _ _
    (if_child nodes levels a k _ (one_true nodes levels a _ (IsPoint-node_point nodes levels T p (t.draws p), t.first p (ap is_binary e) ∙ ap (λ m. value nodes levels (operands m).0 (node_point nodes levels T p)) e)))
    (if_child nodes levels b k _ (one_true nodes levels b _ (IsPoint-node_point nodes levels T p (t.draws p), t.second p (ap is_binary e) ∙ ap (λ m. value nodes levels (operands m).1 (node_point nodes levels T p)) e)))
true_handed nodes levels o T t p (Or a b) e cs k h =
    All-append (IsTrueOf nodes levels k) _ _
    (if_child nodes levels a k _ (one_true nodes levels a _ (IsPoint-node_point nodes levels T p (t.draws p), t.first p (ap is_binary e) ∙ ap (λ m. value nodes levels (operands m).0 (node_point nodes levels T p)) e)))
    (if_child nodes levels b k _ (one_true nodes levels b _ (IsPoint-node_point nodes levels T p (t.draws p), t.second p (ap is_binary e) ∙ ap (λ m. value nodes levels (operands m).1 (node_point nodes levels T p)) e)))

true_entry : (nodes : List Node) (levels : ℕ) → AllOrdered nodes → (T : Transcript) → IsHonest nodes levels T → (n : ℕ)
    → ((j : ℕ) → j < n → All (IsTrueOf nodes levels (root nodes - j)) (claims_on_entry nodes levels T j (table (claims_on_entry nodes levels T) j)))
    → All (IsTrueOf nodes levels (root nodes - n)) (claims_on_entry nodes levels T n (table (claims_on_entry nodes levels T) n))
true_entry nodes levels o T t zero ih =
    let e : root nodes - 0 ≡ root nodes = omega arith in
    one_true nodes levels (root nodes - 0) _ ((λ x. omega arith), t.answers ∙ ap (λ k. value nodes levels k zero_point) (sym e))
true_entry nodes levels o T t (suc n) ih =
    All-flat_map (IsTrueOf nodes levels (root nodes - suc n)) _ (below (suc n))
    (λ j c. let l : j < suc n = below_contains (suc n) j c in
    true_handed nodes levels o T t (root nodes - j) (node_at nodes (root nodes - j)) refl _ (root nodes - suc n)
    (subst (λ cs. All (IsTrueOf nodes levels (root nodes - j)) cs) (sym (get-table (claims_on_entry nodes levels T) [] (suc n) j l)) (ih j l)))

-- Every claim of an honest transcript is true.
pub claims_true : (nodes : List Node) (levels : ℕ) → AllOrdered nodes → (T : Transcript) → IsHonest nodes levels T → (k : ℕ) → k ≤ root nodes → All (IsTrueOf nodes levels k) (claims_on nodes levels T k)
unfolding claims_on
claims_true nodes levels o T t k l =
    let e : root nodes - (root nodes - k) ≡ k = omega arith in
    subst (λ z. All (IsTrueOf nodes levels z) (claims_on_entry nodes levels T (root nodes - k) (table (claims_on_entry nodes levels T) (root nodes - k)))) e
    (strong (λ n. All (IsTrueOf nodes levels (root nodes - n)) (claims_on_entry nodes levels T n (table (claims_on_entry nodes levels T) n))) (true_entry nodes levels o T t) (root nodes - k))

-- the value value_at is that of `part`
value_part : (nodes : List Node) (levels : ℕ) → AllOrdered nodes → (T : Transcript) → IsHonest nodes levels T → (k : ℕ) → is_binary (node_at nodes k) ≡ true → (j : ℕ) → j < length (claims_on nodes levels T k)
    → IsTrueOf nodes levels k (get_or (claims_on nodes levels T k) j no_claim) → (i : ℕ) → i ≤ length (free nodes levels k)
    → value_at nodes levels T k j (get_or (claims_on nodes levels T k) j no_claim) i ≡ part nodes levels k i (point_at nodes levels T k (get_or (claims_on nodes levels T k) j no_claim) i)
value_part nodes levels o T t k b j lj g i l =
    let c = get_or (claims_on nodes levels T k) j no_claim in
    elim (cases_eq i (length (free nodes levels k))) [
      | inl e ↦ subst (λ n. value_at nodes levels T k j c n ≡ part nodes levels k n (point_at nodes levels T k c n)) (sym e)
          (value_at_start nodes levels T k j c ∙ (g.1 ∙ (sym (part_all nodes levels o k b c.point) ∙ ap (part nodes levels k (length (free nodes levels k))) (sym (point_at_start nodes levels T k c)))))
      | inr ne ↦
          let li : i < length (free nodes levels k) = omega arith in
          value_at_draw nodes levels T k j c i li ∙ (ap (λ p. at p (T.draw k i)) (t.polynomials k i j b li lj)
          ∙ (at-poly nodes levels o k i li (point_at nodes levels T k c (i + 1)) (IsPoint-point_at nodes levels T k c (i + 1) (t.draws k) g.0) (T.draw k i) (t.draws k i)
          ∙ ap (part nodes levels k i) (sym (point_at_more nodes levels T k c i li))))
    ]

poly_honest : (nodes : List Node) (levels : ℕ) → AllOrdered nodes → (T : Transcript) → IsHonest nodes levels T → (k : ℕ) → is_binary (node_at nodes k) ≡ true → (j : ℕ) → j < length (claims_on nodes levels T k)
    → IsTrueOf nodes levels k (get_or (claims_on nodes levels T k) j no_claim) → (i : ℕ) → i < length (free nodes levels k) → Holds (poly_check nodes levels T k (claims_on nodes levels T k) i j)
poly_honest nodes levels o T t k b j lj g i l =
    let c = get_or (claims_on nodes levels T k) j no_claim in
    ap₂ reduced_at (t.polynomials k i j b l lj) (sym (point_at_own nodes levels T k c i l))
    ∙ (reduced_poly nodes levels o k i l (point_at nodes levels T k c (i + 1)) (IsPoint-point_at nodes levels T k c (i + 1) (t.draws k) g.0)
    ∙ sym (value_part nodes levels o T t k b j lj g (i + 1) (omega arith)))

-- after the last draw all claims carry the combined operands
value_end : (nodes : List Node) (levels : ℕ) → AllOrdered nodes → AllLevelled nodes levels → (T : Transcript) → IsHonest nodes levels T → (k : ℕ) → is_binary (node_at nodes k) ≡ true → (j : ℕ) → j < length (claims_on nodes levels T k)
    → IsTrueOf nodes levels k (get_or (claims_on nodes levels T k) j no_claim)
    → value_at nodes levels T k j (get_or (claims_on nodes levels T k) j no_claim) 0 ≡ combined (node_at nodes k) (value nodes levels) (node_point nodes levels T k)
value_end nodes levels o v T t k b j lj g =
    let c = get_or (claims_on nodes levels T k) j no_claim in
    value_part nodes levels o T t k b j lj g 0 (omega arith)
    ∙ (part_depends nodes levels o k 0 (point_at nodes levels T k c 0) (node_point nodes levels T k) (λ x e. point_at_end nodes levels o v T k c x e)
    ∙ part_none nodes levels k (node_point nodes levels T k))

-- each claim of a node, in reach of its conditions
abbrev pub TrueClaims : List Node → ℕ → Transcript → ℕ → Type 0
TrueClaims nodes levels T k = (j : ℕ) → j < length (claims_on nodes levels T k) → IsTrueOf nodes levels k (get_or (claims_on nodes levels T k) j no_claim)

All-map-lt : {X : Type 0} (P : X → Type 0) (f : ℕ → X) (n : ℕ) (xs : List ℕ) → All (λ j. j < n) xs → ((j : ℕ) → j < n → P (f j)) → All P (map f xs)
All-map-lt P f n xs a h = All-map P f xs (All-weaker (λ j. j < n) (λ j. P (f j)) h xs a)

binary_honest : (nodes : List Node) (levels : ℕ) → AllOrdered nodes → AllLevelled nodes levels → (T : Transcript) → IsHonest nodes levels T → (k : ℕ) → is_binary (node_at nodes k) ≡ true → TrueClaims nodes levels T k → 0 < length (claims_on nodes levels T k)
    → (both : ℕ) → both ≡ combined (node_at nodes k) (value nodes levels) (node_point nodes levels T k) → All Holds (binary_checks nodes levels T k (claims_on nodes levels T k) both)
binary_honest nodes levels o v T t k b g l both e =
    All-append Holds _ _ (All-append Holds _ _
    (All-flat_map Holds _ (reverse (below (length (free nodes levels k)))) (λ i c.
    All-map-lt Holds (poly_check nodes levels T k (claims_on nodes levels T k) i) (length (claims_on nodes levels T k)) (below (length (claims_on nodes levels T k))) (All-below-lt (length (claims_on nodes levels T k)))
    (λ j lj. poly_honest nodes levels o T t k b j lj (g j lj) i (All-contains (λ i. i < length (free nodes levels k)) (reverse (below (length (free nodes levels k)))) i
    (All-permutation (λ i. i < length (free nodes levels k)) (below (length (free nodes levels k))) (reverse (below (length (free nodes levels k)))) (IsPermutation-reverse (below (length (free nodes levels k)))) (All-below-lt (length (free nodes levels k)))) c))))
    (All-map-lt Holds (ends_check nodes levels T k (claims_on nodes levels T k)) (length (claims_on nodes levels T k)) (drop 1 (below (length (claims_on nodes levels T k))))
    (All-drop (λ j. j < length (claims_on nodes levels T k)) 1 (below (length (claims_on nodes levels T k))) (All-below-lt (length (claims_on nodes levels T k))))
    (λ j lj. value_end nodes levels o v T t k b j lj (g j lj) ∙ sym (value_end nodes levels o v T t k b 0 l (g 0 l)))))
    (All-cons Holds _ [] (value_end nodes levels o v T t k b 0 l (g 0 l) ∙ sym e) (All-nil Holds))

node_honest : (nodes : List Node) (levels : ℕ) → AllOrdered nodes → AllLevelled nodes levels → (T : Transcript) → IsHonest nodes levels T → (k : ℕ) → TrueClaims nodes levels T k → 0 < length (claims_on nodes levels T k)
    → (m : Node) → node_at nodes k ≡ m → All Holds (node_checks nodes levels T k m (claims_on nodes levels T k))
node_honest nodes levels o v T t k g l (Const b) e =
    All-map-lt Holds _ (length (claims_on nodes levels T k)) (below (length (claims_on nodes levels T k))) (All-below-lt (length (claims_on nodes levels T k)))
    (λ j lj. (g j lj).1 ∙ value_is nodes levels o k (Const b) e _)
node_honest nodes levels o v T t k g l (Var x) e =
    All-map-lt Holds _ (length (claims_on nodes levels T k)) (below (length (claims_on nodes levels T k))) (All-below-lt (length (claims_on nodes levels T k)))
    (λ j lj. (g j lj).1 ∙ value_is nodes levels o k (Var x) e _)
node_honest nodes levels o v T t k g l (Not a) e = All-nil Holds
node_honest nodes levels o v T t k g l (Fix x b a) e = All-nil Holds
node_honest nodes levels o v T t k g l (And a b) e =
    binary_honest nodes levels o v T t k (ap is_binary e) g l (mul (T.values k).0 (T.values k).1)
    (ap₂ mul (t.first k (ap is_binary e) ∙ ap (λ m. value nodes levels (operands m).0 (node_point nodes levels T k)) e) (t.second k (ap is_binary e) ∙ ap (λ m. value nodes levels (operands m).1 (node_point nodes levels T k)) e)
    ∙ ap (λ m. combined m (value nodes levels) (node_point nodes levels T k)) (sym e))
node_honest nodes levels o v T t k g l (Or a b) e =
    binary_honest nodes levels o v T t k (ap is_binary e) g l (or (T.values k).0 (T.values k).1)
    (ap₂ or (t.first k (ap is_binary e) ∙ ap (λ m. value nodes levels (operands m).0 (node_point nodes levels T k)) e) (t.second k (ap is_binary e) ∙ ap (λ m. value nodes levels (operands m).1 (node_point nodes levels T k)) e)
    ∙ ap (λ m. combined m (value nodes levels) (node_point nodes levels T k)) (sym e))

-- An honest transcript passes; every binary node has a claim, since each node but the root is a child of another.
pub acceptance : (nodes : List Node) (levels : ℕ) → AllOrdered nodes → AllLevelled nodes levels → (T : Transcript) → IsHonest nodes levels T → ((k : ℕ) → k < length nodes → 0 < length (claims_on nodes levels T k)) → AllHold nodes levels T
unfolding checks
acceptance nodes levels o v T t l =
    All-flat_map Holds _ (reverse (below (length nodes))) (λ k c.
    let lk : k < length nodes = All-contains (λ k. k < length nodes) (reverse (below (length nodes))) k
    (All-permutation (λ k. k < length nodes) (below (length nodes)) (reverse (below (length nodes))) (IsPermutation-reverse (below (length nodes))) (All-below-lt (length nodes))) c in
    node_honest nodes levels o v T t k (λ j lj. All-get_or (IsTrueOf nodes levels k) (claims_on nodes levels T k) j no_claim lj (claims_true nodes levels o T t k (omega arith))) (l k lk) (node_at nodes k) refl)
