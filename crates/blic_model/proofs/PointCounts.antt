-- Points, some levels after others.
use Rattle.std.proofs.Common.{arith, ℕ, zero, suc, ◌≡◌, ◌+◌, ◌*◌, ◌<◌, ◌≤◌, refl, sym, ◌∙◌, ap, List, [], length, get_or, Bool, true, false, cond}
use Rattle.std.specs.Prelude.{sum_by, filter}
use mathlib.Core.Path.{ap₂}
use Rattle.std.proofs.Math.Nat.{mul-le-mul_left, mul-add}
use Rattle.blic_model.specs.declared.node.Node.{Node}
use Rattle.blic_model.specs.Circuit.{node_at, below, is_free, free}
use Rattle.blic_model.specs.Counts.{is_binary, claims, points}
use Rattle.blic_model.specs.CircuitTables.{IsTabled, HasLevels, binary_claims, points_at, HasClaims}
use Rattle.blic_model.specs.LevelLists.{free_lists}
use Rattle.blic_model.specs.LevelSets.{levels_from}
use Rattle.blic_model.proofs.ChildEntries.{length_of_below, sum_below_none, sum_below_more, sum_below_next, sum_below_agree, sum_below_le}
use Rattle.blic_model.proofs.FreeLists.{entry_of_lists}
use Rattle.blic_model.proofs.FreeCounts.{passing_few, passing_join, free_past}

bounded : (b : Bool) (c f most : ℕ) → f ≤ most → cond b (c * f) 0 ≤ cond b c 0 * most
bounded true c f most l = omega (arith, mul-le-mul_left c l)
bounded false c f most l = omega arith

points_bounded : (nodes : List Node) (levels : List ℕ) (n : ℕ) → length levels ≤ 4294967552
    → sum_by (points_at nodes levels) (below n) ≤ 4294967552 * sum_by (binary_claims nodes) (below n)
points_bounded nodes levels zero few = omega (arith, sum_below_none (points_at nodes levels))
points_bounded nodes levels (suc n) few =
    let here = bounded (is_binary (node_at nodes n)) (claims nodes n) (length (filter (is_free nodes n) levels)) 4294967552 (omega (arith, passing_few (is_free nodes n) levels)) in
    let front = points_bounded nodes levels n few in
    omega (arith, sum_below_more (points_at nodes levels) n, sum_below_more (binary_claims nodes) n)

-- the points of the first nodes fit
pub points_fit : (nodes : List Node) (counts levels : List ℕ) (n : ℕ) → HasClaims nodes counts → length nodes ≤ 4194304 → length levels ≤ 4294967552 → n ≤ length nodes
    → sum_by (points_at nodes levels) (below n) < 18446744073709551616
points_fit nodes counts levels n c few short l =
    omega (arith, c.few, sum_below_le (binary_claims nodes) n (length nodes) l, points_bounded nodes levels n short)

split : (b : Bool) (c x y z : ℕ) → z ≡ x + y → cond b (c * z) 0 ≡ cond b (c * x) 0 + cond b (c * y) 0
split true c x y z e = ap (λ w. c * w) e ∙ mul-add c x y
split false c x y z e = refl

sum_below_split : (f g h : ℕ → ℕ) (n : ℕ) → ((j : ℕ) → f j ≡ g j + h j) → sum_by f (below n) ≡ sum_by g (below n) + sum_by h (below n)
sum_below_split f g h zero e = omega (arith, sum_below_none f, sum_below_none g, sum_below_none h)
sum_below_split f g h (suc n) e = omega (arith, sum_below_split f g h n e, e n, sum_below_more f n, sum_below_more g n, sum_below_more h n)

-- more levels have more points
pub points_join : (nodes : List Node) (first n : ℕ) → points nodes (first + n) ≡ points nodes first + sum_by (points_at nodes (levels_from first n)) (below (length nodes))
unfolding points free
points_join nodes first n =
    sum_below_split (points_at nodes (below (first + n))) (points_at nodes (below first)) (points_at nodes (levels_from first n)) (length nodes) (λ k.
    split (is_binary (node_at nodes k)) (claims nodes k) _ _ _ (passing_join (is_free nodes k) first n))

-- levels past the last one have no points
pub points_past : (nodes : List Node) (levels first : ℕ) → IsTabled nodes → HasLevels nodes levels → levels ≤ first → points nodes first ≡ points nodes levels
unfolding points free
points_past nodes levels first t h l =
    sum_below_agree (points_at nodes (below first)) (points_at nodes (below levels)) (length nodes) (λ k u.
    ap (λ n. cond (is_binary (node_at nodes k)) (claims nodes k * n) 0) (free_past nodes levels first t h l k u))

pub no_points : (nodes : List Node) → 0 ≡ points nodes 0
unfolding points free below
no_points nodes = go (length nodes)
  where
    go : (n : ℕ) → 0 ≡ sum_by (points_at nodes (below 0)) (below n)
    go zero = refl
    go (suc n) = omega (arith, go n, sum_below_more (points_at nodes (below 0)) n, bounded (is_binary (node_at nodes n)) (claims nodes n) 0 0 (omega arith))

-- the points of one more binary node
pub next_binary : (nodes : List Node) (counts levels : List ℕ) (k j p q c z : ℕ) → HasClaims nodes counts → k < length nodes → j ≡ k + 1 → is_binary (node_at nodes k) ≡ true
    → p ≡ sum_by (points_at nodes levels) (below k) → c ≡ get_or counts k 0 → z ≡ length (filter (is_free nodes k) levels) → q ≡ p + c * z
    → q ≡ sum_by (points_at nodes levels) (below j)
next_binary nodes counts levels k j p q c z h l e b f g s t =
    let here : points_at nodes levels k ≡ c * z =
    ap (λ d. cond d (claims nodes k * length (filter (is_free nodes k) levels)) 0) b ∙ ap₂ (λ m n. m * n) (sym (g ∙ h.each k l)) (sym s) in
    omega (arith, sum_below_next (points_at nodes levels) k j e)

pub next_other : (nodes : List Node) (levels : List ℕ) (k j p : ℕ) → j ≡ k + 1 → is_binary (node_at nodes k) ≡ false
    → p ≡ sum_by (points_at nodes levels) (below k) → p ≡ sum_by (points_at nodes levels) (below j)
next_other nodes levels k j p e b f =
    let here : points_at nodes levels k ≡ 0 = ap (λ d. cond d (claims nodes k * length (filter (is_free nodes k) levels)) 0) b in
    omega (arith, sum_below_next (points_at nodes levels) k j e)

-- the points of the first levels fit
pub points_small : (nodes : List Node) (counts : List ℕ) (first : ℕ) → HasClaims nodes counts → length nodes ≤ 4194304 → first ≤ 4294967552 → points nodes first < 18446744073709551616
unfolding points free
points_small nodes counts first c few l = points_fit nodes counts (below first) (length nodes) c few (omega (arith, length_of_below first)) (omega arith)

-- a node's free levels, as the lists have them
pub listed_len : (nodes : List Node) (levels k z : ℕ) (lists : List (List ℕ)) → lists ≡ free_lists nodes levels (length nodes) → k < length nodes → z ≡ length (get_or lists k [])
    → z ≡ length (filter (is_free nodes k) (below levels))
unfolding free
listed_len nodes levels k z lists e l f = f ∙ (ap (λ ls. length (get_or ls k [])) e ∙ ap length (entry_of_lists nodes levels (length nodes) k l))

-- points are those at all levels
pub points_is : (nodes : List Node) (levels : ℕ) → points nodes levels ≡ sum_by (points_at nodes (below levels)) (below (length nodes))
unfolding points free
points_is nodes levels = refl
