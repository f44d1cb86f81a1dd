-- The rows and the sums of a layout, one node after another.
use Rattle.std.proofs.Common.{arith, ℕ, suc, ◌≡◌, ◌+◌, ◌*◌, ◌<◌, ◌≤◌, refl, sym, ◌∙◌, ap, List, [], ◌∷◌, ◌++◌, length, get_or, Bool, true, false, cond, reverse}
use Rattle.std.specs.Prelude.{sum_by, map}
use mathlib.Core.Path.{ap₂}
use Rattle.std.proofs.lemmas.List.{length_push, length-map, length-reverse}
use Rattle.std.proofs.lemmas.List.Concat.{length-flat_map}
use Rattle.blic_model.specs.declared.node.Node.{Node}
use Rattle.blic_model.specs.Circuit.{OrderedCircuit, node_at, below, free}
use Rattle.blic_model.specs.Counts.{is_binary, claims, draws, points}
use Rattle.blic_model.specs.CircuitLimits.{IsWithinLimits}
use Rattle.blic_model.proofs.ChildEntries.{length_of_below, sum_below_none, sum_below_more, sum_below_agree}
use Rattle.blic_claims.specs.Places.{Places, row_of, layout_of}
use Rattle.blic_claims.specs.Turns.{Turn, ForPolys, ForValues, node_turns, turns}
use Rattle.blic_claims.specs.Counters.{all_claims, all_places, rows_below, binary_sum, both_totals, totals_of, totals_below}
use Rattle.blic_claims.specs.declared.layout.Row.{Row}
use Rattle.blic_claims.specs.declared.totals.Totals.{Totals}
use Rattle.blic_claims.proofs.BelowSums.{length_map_below, entry_map_below, map_below_more, sum_below_reversed}

pub claims_read : (nodes : List Node) (counts : List ℕ) (k : ℕ) → counts ≡ all_claims nodes → k < length nodes → get_or counts k 0 ≡ claims nodes k
claims_read nodes counts k e l = ap (λ xs. get_or xs k 0) e ∙ entry_map_below (claims nodes) (length nodes) k 0 l

abbrev no_totals : Totals
no_totals = record { coordinates = 0; claims = 0; points = 0; draws = 0; replies = 0 }

pub totals_start : (nodes : List Node) (levels : ℕ) → no_totals ≡ totals_below nodes levels 0
unfolding totals_below
totals_start nodes levels = λ i. record {
  coordinates = sym (sum_below_none (λ k. claims nodes k * length (free nodes levels k))) i;
  claims = sym (sum_below_none (claims nodes)) i;
  points = sym (sum_below_none (λ k. cond (is_binary (node_at nodes k)) (claims nodes k * length (free nodes levels k)) 0)) i;
  draws = sym (sum_below_none (λ k. cond (is_binary (node_at nodes k)) (length (free nodes levels k)) 0)) i;
  replies = sym (sum_below_none (λ k. cond (is_binary (node_at nodes k)) (length (free nodes levels k) + 1) 0)) i;
}

more : (f : ℕ → ℕ) (k x y : ℕ) → x ≡ sum_by f (below k) → y ≡ f k → x + y ≡ sum_by f (below (suc k))
more f k x y e h = ap₂ (λ a b. a + b) e h ∙ sym (sum_below_more f k)

pub totals_step : (nodes : List Node) (levels k j : ℕ) (t one sums : Totals) (c w : ℕ) (n : Node) → j ≡ k + 1 → t ≡ totals_below nodes levels k → c ≡ claims nodes k
    → w ≡ length (free nodes levels k) → n ≡ node_at nodes k → one ≡ totals_of c w n → sums ≡ both_totals t one → sums ≡ totals_below nodes levels j
unfolding totals_below
totals_step nodes levels k j t one sums c w n e old ec ew en eo es =
    es ∙ (ap (both_totals t) (eo ∙ same) ∙ (step ∙ ap (totals_below nodes levels) (let q : suc k ≡ j = omega arith in q)))
  where
    own : Totals
    own = totals_of (claims nodes k) (length (free nodes levels k)) (node_at nodes k)

    same : totals_of c w n ≡ own
    same = λ i. totals_of (ec i) (ew i) (en i)

    step : both_totals t own ≡ totals_below nodes levels (suc k)
    step = λ i. record {
      coordinates = more (λ k. claims nodes k * length (free nodes levels k)) k t.coordinates own.coordinates (ap (λ u. u.coordinates) old) refl i;
      claims = more (claims nodes) k t.claims own.claims (ap (λ u. u.claims) old) refl i;
      points = more (λ k. cond (is_binary (node_at nodes k)) (claims nodes k * length (free nodes levels k)) 0) k t.points own.points (ap (λ u. u.points) old) refl i;
      draws = more (λ k. cond (is_binary (node_at nodes k)) (length (free nodes levels k)) 0) k t.draws own.draws (ap (λ u. u.draws) old) refl i;
      replies = more (λ k. cond (is_binary (node_at nodes k)) (length (free nodes levels k) + 1) 0) k t.replies own.replies (ap (λ u. u.replies) old) refl i;
    }

pub rows_start : (nodes : List Node) (levels : ℕ) → [] ≡ rows_below nodes levels 0
unfolding below
rows_start nodes levels = refl

pub rows_step : (nodes : List Node) (levels k j : ℕ) (t : Totals) (c w : ℕ) (rows more : List Row) → j ≡ k + 1 → t ≡ totals_below nodes levels k → c ≡ claims nodes k
    → w ≡ length (free nodes levels k) → rows ≡ rows_below nodes levels k
    → more ≡ rows ++ record { start = t.coordinates; first = t.claims; claims = c; width = w } ∷ [] → more ≡ rows_below nodes levels j
unfolding totals_below row_of
rows_step nodes levels k j t c w rows more e old ec ew er em =
    em
    ∙ (ap₂ (λ rs r. rs ++ r ∷ []) er (λ i. record { start = (old i).coordinates; first = (old i).claims; claims = ec i; width = ew i })
    ∙ (sym (map_below_more (row_of nodes levels) k) ∙ ap (rows_below nodes levels) (let q : suc k ≡ j = omega arith in q)))

pub length_claims : (nodes : List Node) (counts : List ℕ) → counts ≡ all_claims nodes → length counts ≡ length nodes
length_claims nodes counts e = ap length e ∙ length_map_below (claims nodes) (length nodes)

length_node_turns : (nodes : List Node) (levels k : ℕ) → length (node_turns nodes levels k) ≡ cond (is_binary (node_at nodes k)) (length (free nodes levels k) + 1) 0
length_node_turns nodes levels k = go (is_binary (node_at nodes k))
  where
    polys : List Turn
    polys = map (ForPolys k) (reverse (below (length (free nodes levels k))))

    all : length (polys ++ ForValues k ∷ []) ≡ length (free nodes levels k) + 1
    all =
        length_push polys (ForValues k)
        ∙ ap (λ n. n + 1)
        (length-map (reverse (below (length (free nodes levels k)))) (ForPolys k) ∙ (length-reverse (below (length (free nodes levels k))) ∙ length_of_below (length (free nodes levels k))))

    go : (b : Bool) → length (cond b (polys ++ ForValues k ∷ []) []) ≡ cond b (length (free nodes levels k) + 1) 0
    go true = all
    go false = refl

-- a binary node has a turn for each free level, and one for the values
pub length_turns : (nodes : List Node) (levels : ℕ) → binary_sum nodes (λ k. length (free nodes levels k) + 1) (length nodes) ≡ length (turns nodes levels)
unfolding turns
length_turns nodes levels =
    sym (length-flat_map (node_turns nodes levels) (reverse (below (length nodes)))
    ∙ (sum_below_reversed (λ k. length (node_turns nodes levels k)) (length nodes)
    ∙ sum_below_agree (λ k. length (node_turns nodes levels k)) (λ k. cond (is_binary (node_at nodes k)) (length (free nodes levels k) + 1) 0) (length nodes)
    (λ k l. length_node_turns nodes levels k)))

pub points_are_few : (nodes : List Node) (levels : ℕ) (t : Totals) → t ≡ totals_below nodes levels (length nodes) → IsWithinLimits nodes levels → t.points ≤ 16777216
unfolding totals_below points
points_are_few nodes levels t e limits = (let same = ap (λ u. u.points) e in let few = limits.1 in omega arith)

-- the rows, places and sums are those of the circuit's layout
pub layout_made : (c : OrderedCircuit) (rows : List Row) (handed : List (ℕ × ℕ)) (t : Totals) → rows ≡ rows_below c.nodes (length c.order) (length c.nodes)
    → handed ≡ all_places c.nodes → t ≡ totals_below c.nodes (length c.order) (length c.nodes)
    → ◌≡◌ {A = Places} (record { rows = rows; handed = handed; draws = t.draws; bad = 2 * t.points; replies = t.replies }) (layout_of c)
unfolding layout_of totals_below draws points
layout_made c rows handed t er eh et = λ i. record {
  rows = er i;
  handed = eh i;
  draws = (et i).draws;
  bad = 2 * (et i).points;
  replies = (ap (λ u. u.replies) et ∙ length_turns c.nodes (length c.order)) i;
}

pub length_rows_below : (nodes : List Node) (levels n : ℕ) → length (rows_below nodes levels n) ≡ n
length_rows_below nodes levels n = length_map_below (row_of nodes levels) n
