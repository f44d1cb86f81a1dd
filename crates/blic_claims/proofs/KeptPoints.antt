-- Points as they are kept, at the free levels of children.
use Rattle.std.proofs.Common.{arith, ℕ, zero, suc, ◌≡◌, ◌<◌, ◌≤◌, refl, sym, ◌∙◌, ap, subst, ◌⊎◌, inl, inr, List, [], ◌∷◌, ◌++◌, length, get_or, Bool, true, false, cond, eqb, ltb, ◌&&◌, ◌||◌}
use Rattle.std.specs.Prelude.{map, filter, Contains, All, not}
use mathlib.Core.Path.{ap₂}
use Rattle.std.proofs.lemmas.Bool.{cases_eq, cases_lt, lt-ltb, le-ltb, eq-eqb, ne_eqb, cond-true, cond-false}
use Rattle.std.proofs.lemmas.List.{get_or-map, length-map, append-nil}
use Rattle.std.proofs.lemmas.List.Elements.{All-nil, All-append, All-get_or, filter-append}
use Rattle.blic_model.specs.declared.node.Node.{Node}
use Rattle.blic_model.specs.declared.node.Node.TheVariants.{Var, Not, Fix, And, Or}
use Rattle.blic_model.specs.Circuit.{OrderedCircuit, node_at, below, free_step, is_free, free}
use Rattle.blic_model.specs.Value.{Point}
use Rattle.blic_model.proofs.Ordered.{ChildrenBelow}
use Rattle.blic_model.proofs.Entries.{is_free-step}
use Rattle.blic_model.proofs.Reduced.{All-below}
use Rattle.blic_model.proofs.ChildEntries.{length_of_below, entry_of_below}
use Rattle.blic_claims.specs.Points.{PointTable, coordinate, point_of, stored_point}
use Rattle.blic_claims.proofs.Lists.{Contains-cons_cases, Contains-filter, Contains-below}

-- a list of levels with the elements of a point there is that point at these levels
point_of_is : (xs es : List ℕ) (s : Point) (y : ℕ) → length es ≡ length xs → ((f : ℕ) → f < length xs → get_or es f 0 ≡ s (get_or xs f 0))
    → Contains xs y → point_of xs es y ≡ s y
point_of_is [] es s y n h (j, l, e) = absurd (omega arith)
point_of_is (x ∷ xs) [] s y n h c = absurd (omega arith)
point_of_is (x ∷ xs) (e ∷ es) s y n h c = elim (cases_eq y x) [
  | inl q ↦ cond-true (eqb y x) e (point_of xs es y) (eq-eqb y x q) ∙ (h 0 (omega arith) ∙ ap s (sym q))
  | inr ne ↦ cond-false (eqb y x) e (point_of xs es y) (ne_eqb y x ne) ∙ point_of_is xs es s y (omega arith) (λ f l. h (suc f) (omega arith)) (tail (Contains-cons_cases x xs y c) ne)
]
  where
    tail : (x ≡ y) ⊎ Contains xs y → (y ≡ x → ⊥) → Contains xs y
    tail (inl q) ne = absurd (ne (sym q))
    tail (inr d) ne = d

-- the point kept for a claim, at a free level of its node
pub stored_is : (c : OrderedCircuit) (p : PointTable) (k d : ℕ) (s : Point) (y : ℕ)
    → ((f : ℕ) → f < length (free c.nodes (length c.order) k) → coordinate p k d f ≡ s (get_or (free c.nodes (length c.order) k) f 0))
    → Contains (free c.nodes (length c.order) k) y → stored_point c p k d y ≡ s y
unfolding stored_point
stored_is c p k d s y h m =
    let xs = free c.nodes (length c.order) k in
    point_of_is xs (map (coordinate p k d) (below (length xs))) s y (length-map (below (length xs)) (coordinate p k d) ∙ length_of_below (length xs))
    (λ f l. get_or-map (coordinate p k d) (below (length xs)) f 0 0 (subst (λ z. f < z) (sym (length_of_below (length xs))) l) ∙ (ap (coordinate p k d) (entry_of_below (length xs) f 0 l) ∙ h f l)) m

All-kept : (test : ℕ → Bool) (xs : List ℕ) → All (λ x. test x ≡ true) (filter test xs)
All-kept test [] = All-nil (λ x. test x ≡ true)
All-kept test (x ∷ xs) = go (test x) refl (All-kept test xs)
  where
    one : test x ≡ true → All (λ x. test x ≡ true) (x ∷ [])
    one e zero d l = e
    one e (suc j) d l = absurd (omega arith)

    go : (b : Bool) → test x ≡ b → All (λ x. test x ≡ true) (filter test xs) → All (λ x. test x ≡ true) (cond b (x ∷ filter test xs) (filter test xs))
    go true e h = All-append (λ x. test x ≡ true) (x ∷ []) (filter test xs) (one e) h
    go false e h = h

-- a free level of a node is below the number of levels, and free
pub free_is : (nodes : List Node) (levels a f : ℕ) → f < length (free nodes levels a)
    → (get_or (free nodes levels a) f 0 < levels) × (is_free nodes a (get_or (free nodes levels a) f 0) ≡ true)
unfolding free
free_is nodes levels a f l = (
  All-get_or (λ x. x < levels) (filter (is_free nodes a) (below levels)) f 0 l (All-below (is_free nodes a) levels),
  All-get_or (λ x. is_free nodes a x ≡ true) (filter (is_free nodes a) (below levels)) f 0 l (All-kept (is_free nodes a) (below levels)),
)

pub free_contains : (nodes : List Node) (levels k y : ℕ) → y < levels → is_free nodes k y ≡ true → Contains (free nodes levels k) y
unfolding free
free_contains nodes levels k y l e = Contains-filter (is_free nodes k) (below levels) y e (Contains-below levels y l)

-- a node is free where its children are
pub not_free : (nodes : List Node) (k b y : ℕ) → ChildrenBelow k (node_at nodes k) → node_at nodes k ≡ Not b → is_free nodes k y ≡ is_free nodes b y
not_free nodes k b y o e = is_free-step nodes k o y ∙ ap (λ n. free_step k n (is_free nodes) y) e

pub fix_free : (nodes : List Node) (k x : ℕ) (v : Bool) (b y : ℕ) → ChildrenBelow k (node_at nodes k) → node_at nodes k ≡ Fix x v b → (y ≡ x → ⊥)
    → is_free nodes b y ≡ true → is_free nodes k y ≡ true
fix_free nodes k x v b y o e ne h =
    is_free-step nodes k o y ∙ (ap (λ n. free_step k n (is_free nodes) y) e ∙ both (is_free nodes b y) (eqb y x) h (ne_eqb y x ne))
  where
    both : (c d : Bool) → c ≡ true → d ≡ false → (c && not d) ≡ true
    both c d p q = grind arith

either_true : (c d : Bool) → (c ≡ true) ⊎ (d ≡ true) → (c || d) ≡ true
either_true c d (inl e) = grind arith
either_true c d (inr e) = grind arith

pub and_free : (nodes : List Node) (k a b y : ℕ) → ChildrenBelow k (node_at nodes k) → node_at nodes k ≡ And a b
    → (is_free nodes a y ≡ true) ⊎ (is_free nodes b y ≡ true) → is_free nodes k y ≡ true
and_free nodes k a b y o e h = is_free-step nodes k o y ∙ (ap (λ n. free_step k n (is_free nodes) y) e ∙ either_true (is_free nodes a y) (is_free nodes b y) h)

pub or_free : (nodes : List Node) (k a b y : ℕ) → ChildrenBelow k (node_at nodes k) → node_at nodes k ≡ Or a b
    → (is_free nodes a y ≡ true) ⊎ (is_free nodes b y ≡ true) → is_free nodes k y ≡ true
or_free nodes k a b y o e h = is_free-step nodes k o y ∙ (ap (λ n. free_step k n (is_free nodes) y) e ∙ either_true (is_free nodes a y) (is_free nodes b y) h)

-- the one free level of a variable
filter_one : (test : ℕ → Bool) (x n : ℕ) → ((y : ℕ) → test y ≡ eqb y x) → filter test (below n) ≡ cond (ltb x n) (x ∷ []) []
unfolding below
filter_one test x zero h = sym (cond-false (ltb x 0) (x ∷ []) [] (le-ltb x 0 (omega arith)))
filter_one test x (suc n) h =
    filter-append test (below n) (n ∷ []) ∙ (ap₂ (λ a b. a ++ cond b (n ∷ []) []) (filter_one test x n h) (h n) ∙ elim (cases_eq n x) [
      | inl e ↦
          ap₂ (λ a b. cond a (x ∷ []) [] ++ cond b (n ∷ []) []) (le-ltb x n (omega arith)) (eq-eqb n x e)
          ∙ (ap (λ z. z ∷ []) e ∙ sym (cond-true (ltb x (suc n)) (x ∷ []) [] (lt-ltb x (suc n) (omega arith))))
      | inr ne ↦ ap (λ b. cond (ltb x n) (x ∷ []) [] ++ cond b (n ∷ []) []) (ne_eqb n x ne) ∙ (append-nil (cond (ltb x n) (x ∷ []) []) ∙ ap (λ b. cond b (x ∷ []) []) (same ne (cases_lt x n)))
    ])
  where
    same : (n ≡ x → ⊥) → (x < n) ⊎ (n ≤ x) → ltb x n ≡ ltb x (suc n)
    same ne (inl l) = lt-ltb x n l ∙ sym (lt-ltb x (suc n) (omega arith))
    same ne (inr l) = le-ltb x n l ∙ sym (le-ltb x (suc n) (omega arith))

pub var_free : (nodes : List Node) (levels k x : ℕ) → ChildrenBelow k (node_at nodes k) → node_at nodes k ≡ Var x → x < levels → free nodes levels k ≡ x ∷ []
unfolding free
var_free nodes levels k x o e l =
    filter_one (is_free nodes k) x levels (λ y. is_free-step nodes k o y ∙ ap (λ n. free_step k n (is_free nodes) y) e)
    ∙ cond-true (ltb x levels) (x ∷ []) [] (lt-ltb x levels l)
