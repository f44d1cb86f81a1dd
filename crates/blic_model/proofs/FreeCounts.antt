-- How many levels a node depends on, some levels after others.
use Rattle.std.proofs.Common.{arith, ℕ, zero, suc, ◌≡◌, ◌+◌, ◌-◌, ◌<◌, ◌≤◌, refl, sym, ◌∙◌, ap, List, [], ◌∷◌, ◌++◌, length, Bool, true, false, cond, not, ◌&&◌, ◌||◌, ◌==◌}
use Rattle.std.specs.Prelude.{filter}
use Rattle.std.specs.List.{list_all}
use mathlib.Core.Path.{ap₂}
use Rattle.std.proofs.lemmas.Bool.{and_parts, ltb-true, ne_eqb}
use Rattle.std.proofs.lemmas.List.{length-append, append-nil, append_assoc}
use Rattle.std.proofs.lemmas.List.Elements.{filter-append}
use Rattle.std.proofs.lemmas.List.Sums.{length-filter, count_by-le-length}
use Rattle.blic_model.specs.declared.node.Node.{Node}
use Rattle.blic_model.specs.declared.node.Node.TheVariants.{Const, Var, Not, Fix, And, Or}
use Rattle.blic_model.specs.Circuit.{node_at, below, is_free, free, free_step}
use Rattle.blic_model.specs.Shape.{children_below, levels_below}
use Rattle.blic_model.specs.CircuitTables.{IsTabled, HasLevels}
use Rattle.blic_model.specs.LevelSets.{levels_from}
use Rattle.blic_model.proofs.Ordered.{strong}
use Rattle.blic_model.proofs.ChildEntries.{length_of_below}
use Rattle.blic_model.proofs.FreeLists.{is_free_by_children}
use Rattle.blic_model.proofs.DifferentNodes.{none_pass}

pub passing_few : (p : ℕ → Bool) (xs : List ℕ) → length (filter p xs) ≤ length xs
passing_few p xs = omega (arith, length-filter p xs, count_by-le-length p xs)

pub few_free : (nodes : List Node) (levels k : ℕ) → length (free nodes levels k) ≤ levels
unfolding free
few_free nodes levels k = omega (arith, passing_few (is_free nodes k) (below levels), length_of_below levels)

below_join : (n m : ℕ) → below (n + m) ≡ below n ++ levels_from n m
unfolding below levels_from
below_join n zero = (let e : n + 0 ≡ n = omega arith in ap below e) ∙ sym (append-nil (below n))
below_join n (suc m) =
    (let e : n + suc m ≡ suc n + m = omega arith in ap below e) ∙ (below_join (suc n) m ∙ append_assoc (below n) (n ∷ []) (levels_from (suc n) m))

pub passing_join : (p : ℕ → Bool) (n m : ℕ) → length (filter p (below (n + m))) ≡ length (filter p (below n)) + length (filter p (levels_from n m))
passing_join p n m =
    ap (λ xs. length (filter p xs)) (below_join n m) ∙ (ap length (filter-append p (below n) (levels_from n m)) ∙ length-append (filter p (below n)) (filter p (levels_from n m)))

-- no node depends on a level past the last one
past_levels : (nodes : List Node) (levels x : ℕ) → IsTabled nodes → HasLevels nodes levels → levels ≤ x → (k : ℕ) → k < length nodes → is_free nodes k x ≡ false
past_levels nodes levels x t h past =
    strong (λ k. k < length nodes → is_free nodes k x ≡ false)
    (λ k ih l. ap (λ f. f x) (is_free_by_children nodes k (t.children k l)) ∙ step k (node_at nodes k) (t.children k l) (h.within k l) (λ j m. ih j m (omega arith)))
  where
    step : (k : ℕ) (n : Node) → children_below k n ≡ true → levels_below levels n ≡ true → ((j : ℕ) → j < k → is_free nodes j x ≡ false) → free_step k n (is_free nodes) x ≡ false
    step k (Const b) c w none = refl
    step k (Var y) c w none = (let u = ltb-true y levels w in ne_eqb x y (λ e. omega arith))
    step k (Not a) c w none = none a (ltb-true a k c)
    step k (Fix y b a) c w none = ap (λ f. f && not (x == y)) (none a (ltb-true a k c))
    step k (And a b) c w none = (let v = and_parts _ _ c in ap₂ (λ f g. f || g) (none a (ltb-true a k v.0)) (none b (ltb-true b k v.1)))
    step k (Or a b) c w none = (let v = and_parts _ _ c in ap₂ (λ f g. f || g) (none a (ltb-true a k v.0)) (none b (ltb-true b k v.1)))

none_passes : (p : ℕ → Bool) (first n : ℕ) → ((x : ℕ) → first ≤ x → p x ≡ false) → length (filter p (levels_from first n)) ≡ 0
unfolding levels_from
none_passes p first zero h = refl
none_passes p first (suc n) h =
    ap (λ b. length (cond b (first ∷ filter p (levels_from (suc first) n)) (filter p (levels_from (suc first) n)))) (h first (omega arith))
    ∙ none_passes p (suc first) n (λ x l. h x (omega arith))

-- levels past the last one count for nothing
pub free_past : (nodes : List Node) (levels first : ℕ) → IsTabled nodes → HasLevels nodes levels → levels ≤ first → (k : ℕ) → k < length nodes
    → length (filter (is_free nodes k) (below first)) ≡ length (filter (is_free nodes k) (below levels))
free_past nodes levels first t h l k u =
    (let e : first ≡ levels + (first - levels) = omega arith in ap (λ n. length (filter (is_free nodes k) (below n))) e)
    ∙ (passing_join (is_free nodes k) levels (first - levels)
    ∙ (let none = none_passes (is_free nodes k) levels (first - levels) (λ x w. past_levels nodes levels x t h w k u) in omega arith))

-- node k depends on none of the first levels
abbrev pub IsClosedTo : List Node → ℕ → ℕ → Type 0
IsClosedTo nodes k first = length (filter (is_free nodes k) (below first)) ≡ 0

pub closed_start : (nodes : List Node) (k : ℕ) → IsClosedTo nodes k 0
unfolding below
closed_start nodes k = refl

pub closed_more : (nodes : List Node) (k first m n : ℕ) → IsClosedTo nodes k first → n ≡ length (filter (is_free nodes k) (levels_from first 256)) → n ≡ 0 → m ≡ first + 256
    → IsClosedTo nodes k m
closed_more nodes k first m n closed e z s =
    ap (λ j. length (filter (is_free nodes k) (below j))) s ∙ (passing_join (is_free nodes k) first 256 ∙ omega arith)

pub closed_to_all : (nodes : List Node) (levels first k : ℕ) → IsTabled nodes → HasLevels nodes levels → levels ≤ first → k < length nodes → IsClosedTo nodes k first
    → true ≡ list_all (λ x. not (is_free nodes k x)) (below levels)
closed_to_all nodes levels first k t h l u closed =
    ap (λ n. n == 0) (sym closed ∙ free_past nodes levels first t h l k u) ∙ none_pass (is_free nodes k) (below levels)

pub not_closed : (nodes : List Node) (levels first k n : ℕ) → IsTabled nodes → HasLevels nodes levels → k < length nodes → n ≡ length (filter (is_free nodes k) (levels_from first 256)) → 0 < n
    → false ≡ list_all (λ x. not (is_free nodes k x)) (below levels)
not_closed nodes levels first k n t h u e some =
    sym (ne_eqb (length (filter (is_free nodes k) (below levels))) 0 (λ z. omega (
      arith,
      passing_join (is_free nodes k) first 256,
      passing_join (is_free nodes k) (first + 256) levels,
      free_past nodes levels (first + 256 + levels) t h (omega arith) k u,
    ))) ∙ none_pass (is_free nodes k) (below levels)
