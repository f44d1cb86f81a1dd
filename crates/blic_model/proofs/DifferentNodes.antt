-- Nodes that differ, from the last to the first.
use Rattle.std.proofs.Common.{arith, ℕ, zero, suc, ◌≡◌, ◌+◌, ◌<◌, refl, sym, ◌∙◌, ap, List, [], ◌∷◌, length, get_or, drop, Bool, true, false, cond, not, ◌==◌, ◌&&◌, ◌||◌}
use Rattle.std.specs.Prelude.{filter}
use Rattle.std.specs.Ordering.{eq_by_cmp}
use Rattle.std.specs.List.{list_all, list_any}
use mathlib.Core.Path.{ap₂}
use Rattle.std.proofs.Math.Seq.{drop-cons}
use Rattle.std.proofs.lemmas.Bool.{and_parts, and_left, false_from_ne_true, not_from_true, not-true, not-false, ne_eqb}
use Rattle.std.proofs.lemmas.List.{drop_all}
use Rattle.std.proofs.lemmas.List.Sums.{list_all-from_AllPass}
use Rattle.blic_model.specs.declared.node.Node.{Node}
use Rattle.blic_model.specs.Circuit.{below}
use Rattle.blic_model.specs.Building.{same_node}
use Rattle.blic_model.specs.Shape.{all_differ}
use Rattle.blic_model.specs.contracts.node.NodeOrd.TheImpl.{cmp-value}
use Rattle.blic_model.proofs.NodeOrder.{equal_nodes, same_node_swap}
use Rattle.blic_model.proofs.ChildEntries.{length_of_below, entry_of_below}
use Rattle.blic_model.proofs.ShapedParts.{passes_below}

differ_from : (i : ℕ) (xs : List Node) → all_differ xs ≡ true → all_differ (drop i xs) ≡ true
differ_from zero xs h = h
differ_from (suc i) [] h = h
differ_from (suc i) (x ∷ xs) h = differ_from i xs (and_parts _ _ h).1

wrong : false ≡ true → ⊥
wrong e = cc

-- node i stands again behind it
pub stands_again : (i j : ℕ) (xs : List Node) (d : Node) → j ≡ i + 1 → i < length xs → list_any (same_node (get_or xs i d)) (drop j xs) ≡ true → false ≡ all_differ xs
stands_again i j xs d e l h = sym (false_from_ne_true (all_differ xs) (λ t.
    let s : suc i ≡ j = omega arith in
    let here : all_differ (drop i xs) ≡ (not (list_any (same_node (get_or xs i d)) (drop j xs)) && all_differ (drop j xs)) =
    ap all_differ (drop-cons xs i d l) ∙ ap (λ k. not (list_any (same_node (get_or xs i d)) (drop k xs)) && all_differ (drop k xs)) s in
    wrong (sym (here ∙ and_left _ _ (not_from_true _ h)) ∙ differ_from i xs t)))

-- node i doesn't
pub differs_more : (i j : ℕ) (xs : List Node) (d : Node) → j ≡ i + 1 → i < length xs → list_any (same_node (get_or xs i d)) (drop j xs) ≡ false → all_differ (drop j xs) ≡ true → all_differ (drop i xs) ≡ true
differs_more i j xs d e l h rest =
    let s : suc i ≡ j = omega arith in
    ap all_differ (drop-cons xs i d l) ∙ (ap (λ k. not (list_any (same_node (get_or xs i d)) (drop k xs)) && all_differ (drop k xs)) s
    ∙ ap₂ (λ a b. not a && b) h rest)

pub stands_more : (i j : ℕ) (xs : List Node) (d q : Node) → j ≡ i + 1 → i < length xs → list_any (same_node q) (drop i xs) ≡ (same_node q (get_or xs i d) || list_any (same_node q) (drop j xs))
stands_more i j xs d q e l =
    let s : suc i ≡ j = omega arith in
    ap (list_any (same_node q)) (drop-cons xs i d l) ∙ ap (λ k. same_node q (get_or xs i d) || list_any (same_node q) (drop k xs)) s

-- a test of each number below a bound
pub all_below : (p : ℕ → Bool) (n : ℕ) → ((k : ℕ) → k < n → p k ≡ true) → list_all p (below n) ≡ true
all_below p n h =
    list_all-from_AllPass p (below n) (λ k d l. (let m : k < n = omega (arith, length_of_below n) in ap p (entry_of_below n k d m) ∙ h k m))

pub fails_below : (p : ℕ → Bool) (n k : ℕ) → k < n → p k ≡ false → list_all p (below n) ≡ false
fails_below p n k l f = false_from_ne_true (list_all p (below n)) (λ t. wrong (sym f ∙ passes_below p n k t l))

-- which nodes a set has, where it has those from i on
abbrev pub HasFrom : List Node → ℕ → (Node → Bool) → Type 0
HasFrom nodes i has = (q : Node) → has q ≡ list_any (same_node q) (drop i nodes)

pub has_none : (nodes : List Node) (has : Node → Bool) → ((q : Node) → has q ≡ false) → HasFrom nodes (length nodes) has
has_none nodes has none q = none q ∙ ap (list_any (same_node q)) (sym (drop_all (length nodes) nodes (omega arith)))

cond_or : (b c : Bool) → cond b true c ≡ (b || c)
cond_or true c = refl
cond_or false c = refl

pub has_more : (nodes : List Node) (i j : ℕ) (d : Node) (has more : Node → Bool) → i ≡ j + 1 → j < length nodes → HasFrom nodes i has
    → ((q : Node) → more q ≡ cond (eq_by_cmp cmp-value.it (get_or nodes j d) q) true (has q)) → HasFrom nodes j more
has_more nodes i j d has more e l old new q =
    new q ∙ (ap₂ (λ b c. cond b true c) (equal_nodes (get_or nodes j d) q ∙ same_node_swap (get_or nodes j d) q) (old q)
    ∙ (cond_or (same_node q (get_or nodes j d)) (list_any (same_node q) (drop i nodes)) ∙ sym (stands_more j i nodes d q e l)))

pub is_new : (nodes : List Node) (i j : ℕ) (d : Node) (has : Node → Bool) (added : Bool) → i ≡ j + 1 → j < length nodes → HasFrom nodes i has → added ≡ not (has (get_or nodes j d))
    → added ≡ true → all_differ (drop i nodes) ≡ true → all_differ (drop j nodes) ≡ true
is_new nodes i j d has added e l old a t rest =
    differs_more j i nodes d e l (sym (old (get_or nodes j d)) ∙ not-true (has (get_or nodes j d)) (sym a ∙ t)) rest

pub is_old : (nodes : List Node) (i j : ℕ) (d : Node) (has : Node → Bool) (added : Bool) → i ≡ j + 1 → j < length nodes → HasFrom nodes i has → added ≡ not (has (get_or nodes j d))
    → added ≡ false → false ≡ all_differ nodes
is_old nodes i j d has added e l old a f =
    stands_again j i nodes d e l (sym (old (get_or nodes j d)) ∙ not-false (has (get_or nodes j d)) (sym a ∙ f))

-- nothing passes where the filter is empty
pub none_pass : (p : ℕ → Bool) (xs : List ℕ) → (length (filter p xs) == 0) ≡ list_all (λ x. not (p x)) xs
none_pass p [] = refl
none_pass p (x ∷ xs) = go (p x) (none_pass p xs)
  where
    go : (b : Bool) → (length (filter p xs) == 0) ≡ list_all (λ y. not (p y)) xs → (length (cond b (x ∷ filter p xs) (filter p xs)) == 0) ≡ (not b && list_all (λ y. not (p y)) xs)
    go true ih = ne_eqb (length (x ∷ filter p xs)) 0 (λ e. omega arith)
    go false ih = ih
