-- A conversation has no more draws than its circuit has points.
use Rattle.std.proofs.Common.{arith, ℕ, zero, suc, ◌+◌, ◌*◌, ◌<◌, ◌≤◌, ◌^◌, cond, Bool, true, false, List, length}
use Rattle.std.specs.Prelude.{sum_by}
use Rattle.std.proofs.lemmas.List.Sums.{sum_by_push}
use Rattle.blic_model.specs.declared.node.Node.{Node}
use Rattle.blic_model.specs.Circuit.{below, free, node_at}
use Rattle.blic_model.specs.CircuitLimits.{IsWithinLimits, most_points}
use Rattle.blic_model.specs.Counts.{claims, draws, is_binary, points}
use Rattle.blic_model.specs.Shape.{IsShaped}
use Rattle.blic_claims.specs.ClaimLaws.{SomeClaimLaw}

-- a sum of smaller numbers is smaller
sum_smaller : (f g : ℕ → ℕ) (n : ℕ) → ((k : ℕ) → k < n → f k ≤ g k) → sum_by f (below n) ≤ sum_by g (below n)
unfolding below
sum_smaller f g zero h = omega arith
sum_smaller f g (suc n) h = omega (arith, sum_smaller f g n (λ k l. h k (omega arith)), h n (omega arith), sum_by_push f (below n) n, sum_by_push g (below n) n)

one_more : (b : Bool) (m n : ℕ) → 0 < m → cond b n 0 ≤ cond b (m * n) 0
one_more true m n some = at_least m n some
  where
    at_least : (x y : ℕ) → 0 < x → y ≤ x * y
    at_least zero y l = elim l [ ]
    at_least (suc x) y l = omega arith
one_more false m n some = omega arith

few : (nodes : List Node) (levels : ℕ) → SomeClaimLaw → IsShaped nodes levels → draws nodes levels ≤ points nodes levels
unfolding draws points
few nodes levels some shaped =
    sum_smaller (λ k. cond (is_binary (node_at nodes k)) (length (free nodes levels k)) 0) (λ k. cond (is_binary (node_at nodes k)) (claims nodes k * length (free nodes levels k)) 0)
    (length nodes) (λ k l. one_more (is_binary (node_at nodes k)) (claims nodes k) (length (free nodes levels k)) (some nodes levels shaped k l))

pub few_draws : (nodes : List Node) (levels : ℕ) → SomeClaimLaw → IsShaped nodes levels → IsWithinLimits nodes levels → draws nodes levels ≤ most_points
few_draws nodes levels some shaped within = omega (arith, few nodes levels some shaped, within.1)

-- so those of a thousand conversations are within the places of draws
pub few_in_all : (first count each : ℕ) → first ≤ 2 ^ 60 → count ≤ 1000 → each ≤ most_points → first + count * each ≤ 2 ^ 61
few_in_all first count each low few small = omega (arith, low, product count each 1000 most_points few small)
  where
    product : (a b c d : ℕ) → a ≤ c → b ≤ d → a * b ≤ c * d
    product zero b c d left right = omega arith
    product (suc a) b zero d left right = elim left [ ]
    product (suc a) b (suc c) d left right = omega (arith, product a b c d (omega (arith, left)) right, right)

-- and so are those of fewer
pub fewer : (first k count each : ℕ) → k ≤ count → first + count * each ≤ 2 ^ 61 → first + k * each ≤ 2 ^ 61
fewer first k count each less few = omega (arith, few, grows k count each less)
  where
    grows : (a b c : ℕ) → a ≤ b → a * c ≤ b * c
    grows zero b c less = omega arith
    grows (suc a) zero c less = elim less [ ]
    grows (suc a) (suc b) c less = omega (arith, grows a b c (omega (arith, less)))
