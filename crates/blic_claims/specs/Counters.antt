-- Private: what is counted on the way through the nodes; only the making of layouts speaks of it.
use Rattle.std.specs.Prelude.{ℕ, ◌+◌, ◌*◌, cond, ◌==◌, List, map, length, sum_by}
use Rattle.blic_model.specs.declared.node.Node.{Node}
use Rattle.blic_model.specs.declared.node.Node.TheVariants.{Const, Var, Not, Fix, And, Or}
use Rattle.blic_model.specs.Circuit.{node_at, below, free}
use Rattle.blic_model.specs.Counts.{is_binary, claims}
use Rattle.blic_claims.specs.Places.{places_of, row_of}
use Rattle.blic_claims.specs.declared.layout.Row.{Row}
use Rattle.blic_claims.specs.declared.totals.Totals.{Totals}

-- the places of the first claims that a node hands down, after those that its children have
abbrev pub counted_places : (ℕ → ℕ) → Node → ℕ × ℕ
counted_places counts (Const b) = (0, 0)
counted_places counts (Var x) = (0, 0)
counted_places counts (Not a) = (counts a, 0)
counted_places counts (Fix x b a) = (counts a, 0)
counted_places counts (And a b) = (counts a, counts b + cond (a == b) 1 0)
counted_places counts (Or a b) = (counts a, counts b + cond (a == b) 1 0)

-- the number of claims on each node
abbrev pub all_claims : List Node → List ℕ
all_claims nodes = map (claims nodes) (below (length nodes))

-- the places of what each node hands down
abbrev pub all_places : List Node → List (ℕ × ℕ)
all_places nodes = map (λ k. places_of nodes k (node_at nodes k)) (below (length nodes))

-- the rows of the nodes below n
abbrev pub rows_below : List Node → ℕ → ℕ → List Row
rows_below nodes levels n = map (row_of nodes levels) (below n)

-- the sums over one node, with so many claims and free levels
abbrev pub totals_of : ℕ → ℕ → Node → Totals
totals_of count width node = record {
  coordinates = count * width;
  claims = count;
  points = cond (is_binary node) (count * width) 0;
  draws = cond (is_binary node) width 0;
  replies = cond (is_binary node) (width + 1) 0;
}

-- the sums over both
abbrev pub both_totals : Totals → Totals → Totals
both_totals t u = record {
  coordinates = t.coordinates + u.coordinates;
  claims = t.claims + u.claims;
  points = t.points + u.points;
  draws = t.draws + u.draws;
  replies = t.replies + u.replies;
}

-- a sum over the binary nodes below n
abbrev pub binary_sum : List Node → (ℕ → ℕ) → ℕ → ℕ
binary_sum nodes f n = sum_by (λ k. cond (is_binary (node_at nodes k)) (f k) 0) (below n)

-- the sums over the nodes below n
unfoldable pub totals_below : List Node → ℕ → ℕ → Totals
totals_below nodes levels n = record {
  coordinates = sum_by (λ k. claims nodes k * length (free nodes levels k)) (below n);
  claims = sum_by (claims nodes) (below n);
  points = binary_sum nodes (λ k. claims nodes k * length (free nodes levels k)) n;
  draws = binary_sum nodes (λ k. length (free nodes levels k)) n;
  replies = binary_sum nodes (λ k. length (free nodes levels k) + 1) n;
}
