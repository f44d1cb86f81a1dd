-- The free levels of a node come from those of its children.
use Rattle.std.proofs.Common.{arith, ℕ, zero, suc, ◌≡◌, ◌+◌, ◌<◌, ◌≤◌, refl, sym, ◌∙◌, ap, inl, inr, List, [], ◌∷◌, ◌++◌, length, get_or, Bool, true, false, cond, ◌==◌, nat_lt, not, ◌&&◌, ◌||◌}
use Rattle.std.specs.Prelude.{filter}
use mathlib.Core.Path.{ap₂}
use Rattle.std.proofs.lemmas.Bool.{cases_eq, lt-ltb, le-ltb, ltb-true, eq-eqb, ne_eqb, cond-true, cond-false, and_parts}
use Rattle.std.proofs.lemmas.List.{get_or-map, map-append, length-map}
use Rattle.std.proofs.lemmas.List.Elements.{filter-append}
use Rattle.blic_model.specs.declared.node.Node.{Node}
use Rattle.blic_model.specs.declared.node.Node.TheVariants.{Const, Var, Not, Fix, And, Or}
use Rattle.blic_model.specs.Circuit.{node_at, below, table, by_children, at_node, free_step, is_free, free}
use Rattle.blic_model.specs.Shape.{children_below, levels_below}
use Rattle.blic_model.specs.LevelLists.{merged, free_entry, free_lists}
use Rattle.blic_model.proofs.ChildEntries.{entry_of_table, length_of_below, entry_of_below}

pub is_free_by_children : (nodes : List Node) (k : ℕ) → children_below k (node_at nodes k) ≡ true → is_free nodes k ≡ free_step k (node_at nodes k) (is_free nodes)
unfolding is_free at_node
is_free_by_children nodes k h = go (node_at nodes k) h
  where
    known : List (ℕ → Bool)
    known = table (by_children (λ x. false) free_step nodes) k

    child : (j : ℕ) → nat_lt j k ≡ true → get_or known j (λ x. false) ≡ is_free nodes j
    child j l = entry_of_table (by_children (λ x. false) free_step nodes) (λ x. false) k j (ltb-true j k l)

    go : (n : Node) → children_below k n ≡ true → free_step k n (λ j. get_or known j (λ x. false)) ≡ free_step k n (is_free nodes)
    go (Const b) h = refl
    go (Var y) h = refl
    go (Not a) h = child a h
    go (Fix y b a) h = ap {B = ℕ → Bool} (λ (f : ℕ → Bool) x. f x && not (x == y)) (child a h)
    go (And a b) h = ap₂ {C = ℕ → Bool} (λ (f g : ℕ → Bool) x. f x || g x) (child a (and_parts _ _ h).0) (child b (and_parts _ _ h).1)
    go (Or a b) h = ap₂ {C = ℕ → Bool} (λ (f g : ℕ → Bool) x. f x || g x) (child a (and_parts _ _ h).0) (child b (and_parts _ _ h).1)

filter_nothing : (xs : List ℕ) → filter (λ x. false) xs ≡ []
filter_nothing [] = refl
filter_nothing (x ∷ xs) = filter_nothing xs

filter_twice : (p q : ℕ → Bool) (xs : List ℕ) → filter (λ x. p x && q x) xs ≡ filter q (filter p xs)
filter_twice p q [] = refl
filter_twice p q (x ∷ xs) = go (p x) (q x) refl (filter_twice p q xs)
  where
    go : (b c : Bool) → q x ≡ c → filter (λ y. p y && q y) xs ≡ filter q (filter p xs)
        → cond (b && c) (x ∷ filter (λ y. p y && q y) xs) (filter (λ y. p y && q y) xs) ≡ filter q (cond b (x ∷ filter p xs) (filter p xs))
    go false c e ih = ih
    go true c e ih = ap (λ ys. cond c (x ∷ ys) ys) ih ∙ ap (λ d. cond d (x ∷ filter q (filter p xs)) (filter q (filter p xs))) (sym e)

-- x is below each element
abbrev pub IsUnder : ℕ → List ℕ → Type 0
IsUnder x [] = Unit {0}
IsUnder x (y ∷ ys) = (x < y) × IsUnder x ys

abbrev pub Rises : List ℕ → Type 0
Rises [] = Unit {0}
Rises (x ∷ xs) = IsUnder x xs × Rises xs

under_filter : (p : ℕ → Bool) (x : ℕ) (ys : List ℕ) → IsUnder x ys → IsUnder x (filter p ys)
under_filter p x [] h = tt
under_filter p x (y ∷ ys) h = go (p y) (under_filter p x ys h.1)
  where
    go : (b : Bool) → IsUnder x (filter p ys) → IsUnder x (cond b (y ∷ filter p ys) (filter p ys))
    go true r = (h.0, r)
    go false r = r

-- the first of both lists comes first
merged_first : (x : ℕ) (xs ys : List ℕ) → IsUnder x ys → merged (x ∷ xs) ys ≡ x ∷ merged xs ys
merged_first x xs [] h = refl
merged_first x xs (y ∷ ys) h = cond-true (nat_lt x y) _ _ (lt-ltb x y h.0)

merged_second : (y : ℕ) (xs ys : List ℕ) → IsUnder y xs → merged xs (y ∷ ys) ≡ y ∷ merged xs ys
merged_second y [] ys h = refl
merged_second y (x ∷ xs) ys h =
    let l = h.0 in
    cond-false (nat_lt x y) _ _ (le-ltb x y (omega arith)) ∙ cond-true (nat_lt y x) _ _ (lt-ltb y x l)

merged_shared : (x : ℕ) (xs ys : List ℕ) → merged (x ∷ xs) (x ∷ ys) ≡ x ∷ merged xs ys
merged_shared x xs ys = cond-false (nat_lt x x) _ _ (le-ltb x x (omega arith)) ∙ cond-false (nat_lt x x) _ _ (le-ltb x x (omega arith))

merge_filters : (p q : ℕ → Bool) (xs : List ℕ) → Rises xs → filter (λ x. p x || q x) xs ≡ merged (filter p xs) (filter q xs)
merge_filters p q [] r = refl
merge_filters p q (x ∷ xs) r = go (p x) (q x) (merge_filters p q xs r.1)
  where
    go : (b c : Bool) → filter (λ x. p x || q x) xs ≡ merged (filter p xs) (filter q xs)
        → cond (b || c) (x ∷ filter (λ x. p x || q x) xs) (filter (λ x. p x || q x) xs) ≡ merged (cond b (x ∷ filter p xs) (filter p xs)) (cond c (x ∷ filter q xs) (filter q xs))
    go true true ih = ap (λ ys. x ∷ ys) ih ∙ sym (merged_shared x (filter p xs) (filter q xs))
    go true false ih = ap (λ ys. x ∷ ys) ih ∙ sym (merged_first x (filter p xs) (filter q xs) (under_filter q x xs r.0))
    go false true ih = ap (λ ys. x ∷ ys) ih ∙ sym (merged_second x (filter p xs) (filter q xs) (under_filter p x xs r.0))
    go false false ih = ih

abbrev AreBelow : ℕ → List ℕ → Type 0
AreBelow n [] = Unit {0}
AreBelow n (x ∷ xs) = (x < n) × AreBelow n xs

are_below_more : (n m : ℕ) (xs : List ℕ) → n ≤ m → AreBelow n xs → AreBelow m xs
are_below_more n m [] l h = tt
are_below_more n m (x ∷ xs) l h = (let u = h.0 in omega arith, are_below_more n m xs l h.1)

are_below_push : (n x : ℕ) (xs : List ℕ) → x < n → AreBelow n xs → AreBelow n (xs ++ x ∷ [])
are_below_push n x [] l h = (l, tt)
are_below_push n x (y ∷ ys) l h = (h.0, are_below_push n x ys l h.1)

under_push : (x n : ℕ) (xs : List ℕ) → x < n → IsUnder x xs → IsUnder x (xs ++ n ∷ [])
under_push x n [] l h = (l, tt)
under_push x n (y ∷ ys) l h = (h.0, under_push x n ys l h.1)

rises_push : (n : ℕ) (xs : List ℕ) → AreBelow n xs → Rises xs → Rises (xs ++ n ∷ [])
rises_push n [] b r = (tt, tt)
rises_push n (x ∷ xs) b r = (under_push x n xs b.0 r.0, rises_push n xs b.1 r.1)

below_are_below : (n : ℕ) → AreBelow n (below n)
unfolding below
below_are_below zero = tt
below_are_below (suc n) = are_below_push (suc n) n (below n) (omega arith) (are_below_more n (suc n) (below n) (omega arith) (below_are_below n))

pub below_rises : (n : ℕ) → Rises (below n)
unfolding below
below_rises zero = tt
below_rises (suc n) = rises_push n (below n) (below_are_below n) (below_rises n)

pub filter_missing : (n y : ℕ) → n ≤ y → filter (λ x. x == y) (below n) ≡ []
unfolding below
filter_missing zero y l = refl
filter_missing (suc n) y l =
    filter-append (λ x. x == y) (below n) (n ∷ [])
    ∙ ap₂ (λ xs ys. xs ++ ys) (filter_missing n y (omega arith)) (cond-false (n == y) (n ∷ []) [] (ne_eqb n y (λ e. omega arith)))

pub filter_one : (n y : ℕ) → y < n → filter (λ x. x == y) (below n) ≡ y ∷ []
unfolding below
filter_one zero y l = absurd (omega arith)
filter_one (suc n) y l =
    filter-append (λ x. x == y) (below n) (n ∷ []) ∙ (elim (cases_eq n y) [
      | inl e ↦ ap₂ (λ xs ys. xs ++ ys) (filter_missing n y (omega arith)) (cond-true (n == y) (n ∷ []) [] (eq-eqb n y e) ∙ ap (λ x. x ∷ []) e)
      | inr ne ↦ ap₂ (λ xs ys. xs ++ ys) (filter_one n y (omega arith)) (cond-false (n == y) (n ∷ []) [] (ne_eqb n y ne))
    ])

pub entry_of_lists : (nodes : List Node) (levels i a : ℕ) → a < i → get_or (free_lists nodes levels i) a [] ≡ free nodes levels a
entry_of_lists nodes levels i a l =
    get_or-map (free nodes levels) (below i) a 0 [] (omega (arith, length_of_below i)) ∙ ap (free nodes levels) (entry_of_below i a 0 l)

pub length_of_lists : (nodes : List Node) (levels i : ℕ) → length (free_lists nodes levels i) ≡ i
length_of_lists nodes levels i = length-map (below i) (free nodes levels) ∙ length_of_below i

pub lists_more : (nodes : List Node) (levels i : ℕ) → free_lists nodes levels (suc i) ≡ free_lists nodes levels i ++ free nodes levels i ∷ []
unfolding below
lists_more nodes levels i = map-append (free nodes levels) (below i) (i ∷ [])

free_from_children : (nodes : List Node) (levels k : ℕ) (n : Node) → children_below k n ≡ true → levels_below levels n ≡ true
    → free_entry n (free_lists nodes levels k) ≡ filter (free_step k n (is_free nodes)) (below levels)
unfolding free
free_from_children nodes levels k (Const b) h w = sym (filter_nothing (below levels))
free_from_children nodes levels k (Var y) h w = sym (filter_one levels y (ltb-true y levels w))
free_from_children nodes levels k (Not a) h w = entry_of_lists nodes levels k a (ltb-true a k h)
free_from_children nodes levels k (Fix y b a) h w =
    ap (filter (λ x. not (x == y))) (entry_of_lists nodes levels k a (ltb-true a k h)) ∙ sym (filter_twice (is_free nodes a) (λ x. not (x == y)) (below levels))
free_from_children nodes levels k (And a b) h w =
    ap₂ merged (entry_of_lists nodes levels k a (ltb-true a k (and_parts _ _ h).0)) (entry_of_lists nodes levels k b (ltb-true b k (and_parts _ _ h).1))
    ∙ sym (merge_filters (is_free nodes a) (is_free nodes b) (below levels) (below_rises levels))
free_from_children nodes levels k (Or a b) h w =
    ap₂ merged (entry_of_lists nodes levels k a (ltb-true a k (and_parts _ _ h).0)) (entry_of_lists nodes levels k b (ltb-true b k (and_parts _ _ h).1))
    ∙ sym (merge_filters (is_free nodes a) (is_free nodes b) (below levels) (below_rises levels))

pub free_entry_is : (nodes : List Node) (levels k : ℕ) → children_below k (node_at nodes k) ≡ true → levels_below levels (node_at nodes k) ≡ true
    → free_entry (node_at nodes k) (free_lists nodes levels k) ≡ free nodes levels k
unfolding free
free_entry_is nodes levels k h w =
    free_from_children nodes levels k (node_at nodes k) h w ∙ ap (λ p. filter p (below levels)) (sym (is_free_by_children nodes k h))

-- one more node's free levels
pub lists_step : (nodes : List Node) (levels i j : ℕ) (lists more : List (List ℕ)) → j ≡ i + 1 → children_below i (node_at nodes i) ≡ true → levels_below levels (node_at nodes i) ≡ true
    → lists ≡ free_lists nodes levels i → more ≡ lists ++ free_entry (node_at nodes i) lists ∷ [] → more ≡ free_lists nodes levels j
lists_step nodes levels i j lists more e h w f g =
    let s : suc i ≡ j = omega arith in
    g ∙ (ap (λ ls. ls ++ free_entry (node_at nodes i) ls ∷ []) f
    ∙ (ap (λ l. free_lists nodes levels i ++ l ∷ []) (free_entry_is nodes levels i h w) ∙ (sym (lists_more nodes levels i) ∙ ap (free_lists nodes levels) s)))

pub lists_start : (nodes : List Node) (levels : ℕ) → [] ≡ free_lists nodes levels 0
unfolding below
lists_start nodes levels = refl
