-- A formula's circuit has two constants at most, and two leaves a level: a variable, and its `Not`.
use Rattle.std.proofs.Common.{arith, ℕ, ◌≡◌, ◌+◌, ◌<◌, ◌≤◌, refl, sym, ◌∙◌, ap, subst, ◌⊎◌, inl, inr, List, [], ◌∷◌, ◌++◌, length, Bool, true, false, ◌&&◌, ◌||◌, eqb}
use Rattle.std.specs.Prelude.{All, sum_by}
use Rattle.std.specs.List.{list_any, IsDistinct}
use Rattle.std.specs.Cmp.{IsEquivalence}
use mathlib.Core.Path.{ap₂}
use Rattle.std.proofs.lemmas.Bool.{cases_eq, cases_Bool, eq-eqb, eqb-true, false≢true}
use Rattle.std.proofs.lemmas.List.{get_or_append_left, get_or_push, length-append, length_push}
use Rattle.std.proofs.lemmas.List.Folds.{list_any-append, list_any_at}
use Rattle.std.proofs.lemmas.List.Sums.{sum_by_push}
use Rattle.std.proofs.lemmas.Map.Keys.{IsDistinct-push}
use Rattle.std.proofs.lemmas.Map.Steps.{length-le_from_distinct_below}
use Rattle.blic_model.specs.declared.node.Node.{Node}
use Rattle.blic_model.specs.declared.node.Node.TheVariants.{Const, Var, Not, Fix, And, Or}
use Rattle.blic_model.specs.Formula.{PrenexFormula}
use Rattle.blic_model.specs.Value.{bit}
use Rattle.blic_model.specs.Circuit.{node_at}
use Rattle.blic_model.specs.Building.{same_node, nodes_of}
use Rattle.blic_model.proofs.Grown.{Keeps, HasLevel, circuit_keeps}

-- 1 for a leaf
abbrev pub leaf : Node → ℕ
leaf (Const b) = 1
leaf (Var x) = 1
leaf (Not a) = 1
leaf (Fix x b a) = 0
leaf (And a b) = 0
leaf (Or a b) = 0

-- the number of a leaf: 0 and 1 are constants, then come the variables, then their `Not`s
HasCode : ℕ → List Node → ℕ → Node → Type 0
HasCode levels nodes q (Const b) = q ≡ bit b
HasCode levels nodes q (Var x) = (x < levels) × (q ≡ 2 + x)
HasCode levels nodes q (Not a) = (a < length nodes) × (x : ℕ) × (x < levels) × (node_at nodes a ≡ Var x) × (q ≡ 2 + levels + x)
HasCode levels nodes q (Fix x b a) = ⊥
HasCode levels nodes q (And a b) = ⊥
HasCode levels nodes q (Or a b) = ⊥

-- equal nodes are one
abbrev Apart : List Node → Type 0
Apart nodes = (i j : ℕ) → i < length nodes → j < length nodes → node_at nodes i ≡ node_at nodes j → i ≡ j

-- the numbers of the leaves differ
record Coded (levels : ℕ) (nodes : List Node) : Type 0 where
  codes : List ℕ
  distinct : IsDistinct eqb codes
  counts : length codes ≡ sum_by leaf nodes
  coded : (q : ℕ) → list_any (eqb q) codes ≡ true → (k : ℕ) × (k < length nodes) × HasCode levels nodes q (node_at nodes k)
  apart : Apart nodes

bit_small : (b : Bool) → bit b < 2
bit_small true = omega arith
bit_small false = omega arith

bit_is : (b c : Bool) → bit b ≡ bit c → b ≡ c
bit_is true true e = refl
bit_is false false e = refl
bit_is true false e = absurd (omega arith)
bit_is false true e = absurd (omega arith)

same_code : (levels : ℕ) (nodes : List Node) → Apart nodes → (q : ℕ) (m n : Node) → HasCode levels nodes q m → HasCode levels nodes q n → m ≡ n
unfolding HasCode
same_code levels nodes a q (Const b) (Const c) h g = ap Const (bit_is b c (sym h ∙ g))
same_code levels nodes a q (Const b) (Var y) h g = absurd (omega (arith, bit_small b))
same_code levels nodes a q (Const b) (Not d) h g = absurd (omega (arith, bit_small b, g.4))
same_code levels nodes a q (Var x) (Const c) h g = absurd (omega (arith, bit_small c))
same_code levels nodes a q (Var x) (Var y) h g = let e : x ≡ y = omega arith in ap Var e
same_code levels nodes a q (Var x) (Not d) h g = absurd (omega (arith, g.4))
same_code levels nodes a q (Not c) (Const b) h g = absurd (omega (arith, bit_small b, h.4))
same_code levels nodes a q (Not c) (Var y) h g = absurd (omega (arith, h.4))
same_code levels nodes a q (Not c) (Not d) h g =
    let e : h.1 ≡ g.1 = omega (arith, h.4, g.4) in
    ap Not (a c d h.0 g.0 (h.3 ∙ (ap Var e ∙ sym g.3)))
same_code levels nodes a q (Fix x b c) n h g = absurd h
same_code levels nodes a q (And b c) n h g = absurd h
same_code levels nodes a q (Or b c) n h g = absurd h
same_code levels nodes a q (Const b) (Fix x c d) h g = absurd g
same_code levels nodes a q (Const b) (And c d) h g = absurd g
same_code levels nodes a q (Const b) (Or c d) h g = absurd g
same_code levels nodes a q (Var b) (Fix x c d) h g = absurd g
same_code levels nodes a q (Var b) (And c d) h g = absurd g
same_code levels nodes a q (Var b) (Or c d) h g = absurd g
same_code levels nodes a q (Not b) (Fix x c d) h g = absurd g
same_code levels nodes a q (Not b) (And c d) h g = absurd g
same_code levels nodes a q (Not b) (Or c d) h g = absurd g

code_more : (levels : ℕ) (nodes more : List Node) (q : ℕ) (n : Node) → HasCode levels nodes q n → HasCode levels (nodes ++ more) q n
unfolding HasCode
code_more levels nodes more q (Const b) h = h
code_more levels nodes more q (Var x) h = h
code_more levels nodes more q (Not a) h =
    (omega (arith, length-append nodes more, h.0), h.1, h.2, get_or_append_left nodes more (Const false) a h.0 ∙ h.3, h.4)
code_more levels nodes more q (Fix x b a) h = h
code_more levels nodes more q (And a b) h = h
code_more levels nodes more q (Or a b) h = h

code_below : (levels : ℕ) (nodes : List Node) (q : ℕ) (n : Node) → HasCode levels nodes q n → q < 2 + levels + levels
unfolding HasCode
code_below levels nodes q (Const b) h = omega (arith, bit_small b)
code_below levels nodes q (Var x) h = omega arith
code_below levels nodes q (Not a) h = omega (arith, h.2, h.4)
code_below levels nodes q (Fix x b a) h = absurd h
code_below levels nodes q (And a b) h = absurd h
code_below levels nodes q (Or a b) h = absurd h

pub same_self : (n : Node) → same_node n n ≡ true
same_self (Const true) = refl
same_self (Const false) = refl
same_self (Var x) = eq-eqb x x refl
same_self (Not a) = eq-eqb a a refl
same_self (Fix x true a) = ap₂ (λ p q. p && q) (eq-eqb x x refl) (eq-eqb a a refl)
same_self (Fix x false a) = ap₂ (λ p q. p && q) (eq-eqb x x refl) (eq-eqb a a refl)
same_self (And a b) = ap₂ (λ p q. p && q) (eq-eqb a a refl) (eq-eqb b b refl)
same_self (Or a b) = ap₂ (λ p q. p && q) (eq-eqb a a refl) (eq-eqb b b refl)

pub not_there : (nodes : List Node) (n : Node) → list_any (same_node n) nodes ≡ false → (k : ℕ) → k < length nodes → n ≡ node_at nodes k → ⊥
not_there nodes n f k l e =
    false≢true (sym f ∙ list_any_at (same_node n) nodes k (Const false) l (ap (same_node n) (sym e) ∙ same_self n))

apart_push : (nodes : List Node) (n : Node) → list_any (same_node n) nodes ≡ false → Apart nodes → Apart (nodes ++ n ∷ [])
apart_push nodes n f a i j l m e = elim (cases_eq i (length nodes)) [
  | inl p ↦ elim (cases_eq j (length nodes)) [
    | inl q ↦ p ∙ sym q
    | inr q ↦
        let w : j < length nodes = omega (arith, length_push nodes n) in
        absurd (not_there nodes n f j w (sym (last i p) ∙ (e ∙ old j w)))
  ]
  | inr p ↦
      let v : i < length nodes = omega (arith, length_push nodes n) in
      elim (cases_eq j (length nodes)) [
        | inl q ↦ absurd (not_there nodes n f i v (sym (last j q) ∙ (sym e ∙ old i v)))
        | inr q ↦
            let w : j < length nodes = omega (arith, length_push nodes n) in
            a i j v w (sym (old i v) ∙ (e ∙ old j w))
      ]
]
  where
    last : (k : ℕ) → k ≡ length nodes → node_at (nodes ++ n ∷ []) k ≡ n
    last k p = ap (node_at (nodes ++ n ∷ [])) p ∙ get_or_push nodes n (Const false) (length nodes) refl

    old : (k : ℕ) → k < length nodes → node_at (nodes ++ n ∷ []) k ≡ node_at nodes k
    old k l = get_or_append_left nodes (n ∷ []) (Const false) k l

equal_numbers : IsEquivalence eqb
equal_numbers = record {
  refl = λ x. eq-eqb x x refl;
  symm = λ x y. swap x y;
  congr = λ x y z e. ap (λ w. eqb w z) (eqb-true x y e);
}
  where
    swap : (x y : ℕ) → eqb x y ≡ eqb y x
    swap x y = grind arith

-- a leaf that is new has a new number
coded_leaf : (levels : ℕ) (nodes : List Node) (n : Node) → Coded levels nodes → list_any (same_node n) nodes ≡ false → leaf n ≡ 1 → (q : ℕ)
    → HasCode levels nodes q n → Coded levels (nodes ++ n ∷ [])
coded_leaf levels nodes n h f e q c = record {
  codes = h.codes ++ q ∷ [];
  distinct = IsDistinct-push equal_numbers h.codes q h.distinct fresh;
  counts = length_push h.codes q ∙ (ap₂ (λ x y. x + y) h.counts (sym e) ∙ sym (sum_by_push leaf nodes n));
  coded = λ r t. elim (one_of (list_any (eqb r) h.codes) (eqb r q) (sym (list_any-append (eqb r) h.codes (q ∷ [])) ∙ t)) [
    | inl u ↦
        let w = h.coded r u in
        let l : w.0 < length (nodes ++ n ∷ []) = omega (arith, w.1, length_push nodes n) in
        (w.0, l, subst (HasCode levels (nodes ++ n ∷ []) r) (sym (get_or_append_left nodes (n ∷ []) (Const false) w.0 w.1)) (code_more levels nodes (n ∷ []) r (node_at nodes w.0) w.2))
    | inr u ↦ (
      length nodes,
      omega (arith, length_push nodes n),
      subst (HasCode levels (nodes ++ n ∷ []) r) (sym (get_or_push nodes n (Const false) (length nodes) refl))
          (subst (λ z. HasCode levels (nodes ++ n ∷ []) z n) (sym (eqb-true r q u)) (code_more levels nodes (n ∷ []) q n c)),
    )
  ];
  apart = apart_push nodes n f h.apart;
}
  where
    one_of : (a b : Bool) → (a || (b || false)) ≡ true → (a ≡ true) ⊎ (b ≡ true)
    one_of true b h = inl refl
    one_of false true h = inr refl
    one_of false false h = absurd (false≢true h)

    fresh : list_any (eqb q) h.codes ≡ false
    fresh = elim (cases_Bool (list_any (eqb q) h.codes)) [
      | inl u ↦ let w = h.coded q u in absurd (not_there nodes n f w.0 w.1 (same_code levels nodes h.apart q n (node_at nodes w.0) c w.2))
      | inr u ↦ u
    ]

coded_inner : (levels : ℕ) (nodes : List Node) (n : Node) → Coded levels nodes → list_any (same_node n) nodes ≡ false → leaf n ≡ 0
    → Coded levels (nodes ++ n ∷ [])
coded_inner levels nodes n h f e = record {
  codes = h.codes;
  distinct = h.distinct;
  counts = omega (arith, h.counts, sum_by_push leaf nodes n);
  coded = λ r u.
      let w = h.coded r u in
      let l : w.0 < length (nodes ++ n ∷ []) = omega (arith, w.1, length_push nodes n) in
      (w.0, l, subst (HasCode levels (nodes ++ n ∷ []) r) (sym (get_or_append_left nodes (n ∷ []) (Const false) w.0 w.1)) (code_more levels nodes (n ∷ []) r (node_at nodes w.0) w.2));
  apart = apart_push nodes n f h.apart;
}

coded_keeps : (levels : ℕ) → Keeps levels (Coded levels)
unfolding HasCode
coded_keeps levels nodes (Const b) h s f = coded_leaf levels nodes (Const b) h f refl (bit b) refl
coded_keeps levels nodes (Var x) h s f = coded_leaf levels nodes (Var x) h f refl (2 + x) (s, refl)
coded_keeps levels nodes (Not a) h s f = coded_leaf levels nodes (Not a) h f refl (2 + levels + s.1) (s.0, s.1, s.2, s.3, refl)
coded_keeps levels nodes (Fix x b a) h s f = coded_inner levels nodes (Fix x b a) h f refl
coded_keeps levels nodes (And a b) h s f = coded_inner levels nodes (And a b) h f refl
coded_keeps levels nodes (Or a b) h s f = coded_inner levels nodes (Or a b) h f refl

none_coded : (levels : ℕ) → Coded levels []
unfolding IsDistinct
none_coded levels =
    record { codes = []; distinct = tt; counts = refl; coded = λ q e. absurd (false≢true e); apart = λ i j l m e. absurd (omega arith) }

pub few_leaves : (f : PrenexFormula) → All (All (HasLevel f.prefix)) f.clauses
    → sum_by leaf (nodes_of f).nodes ≤ 2 + length f.prefix + length f.prefix
few_leaves f a =
    let h = circuit_keeps f a (Coded (length f.prefix)) (coded_keeps (length f.prefix)) (none_coded (length f.prefix)) in
    let l : length h.codes ≤ 2 + length f.prefix + length f.prefix =
    length-le_from_distinct_below h.codes (2 + length f.prefix + length f.prefix) h.distinct
    (λ q u. let w = h.coded q u in code_below (length f.prefix) (nodes_of f).nodes q (node_at (nodes_of f).nodes w.0) w.2) in
    omega (arith, h.counts)
