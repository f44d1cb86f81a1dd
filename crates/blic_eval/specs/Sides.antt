-- Private: tables of the polynomials of pairs.
use Rattle.std.specs.Prelude.{ℕ, ◌+◌, ◌<◌, ◌≤◌, ◌≡◌, ◌==◌, nat_le, Bool, false, cond, fold, min, List, length, slice_index_or}
use Rattle.blic_field.specs.Field.{blend}
use Rattle.blic_field.specs.Quadratic.{Quadratic, at, HasElements}
use Rattle.blic_poly2.specs.declared.linear.Lin.{Lin}
use Rattle.blic_poly2.specs.Poly.{lin_at}
use Rattle.blic_model.specs.Circuit.{below}
use Rattle.blic_model.specs.Value.{Point, put, linearize}
use Rattle.blic_store.specs.declared.decision.Decision.{Decision}
use Rattle.blic_store.specs.Diagram.{function}
use Rattle.blic_graph.specs.declared.pair.Pair.{Pair}
use Rattle.blic_graph.specs.declared.pair.Side.{Side}
use Rattle.blic_graph.specs.Pairs.{IsGraph, pair_at}
use Rattle.blic_apply.specs.declared.operation.Op.{Op}
use Rattle.blic_apply.specs.declared.operation.Op.TheVariants.{And, Or}
use Rattle.blic_eval.specs.Extension.{extension, joined}
use Rattle.blic_eval.specs.Lines.{line_of}
use Rattle.blic_eval.specs.Reached.{IsReached}

-- the values of the lines of two refs, joined
abbrev pub lines_joined : Op → List Lin → ℕ → ℕ → ℕ → ℕ
lines_joined op lines c d t = joined op (lin_at (line_of lines c) t) (lin_at (line_of lines d) t)

-- polynomial k
abbrev pub poly_at : List Quadratic → ℕ → Quadratic
poly_at polys k = slice_index_or polys k (record { c0 = 0; c1 = 0; c2 = 0 })

-- the pairs from this one on are of levels below `level`, and the others are not
pub record IsFirstUnder (pairs : List Pair) (level n : ℕ) : Type 0 where
  pub within : n ≤ length pairs
  pub before : (k : ℕ) → k < n → (pair_at pairs k).level ≤ level
  pub under : (k : ℕ) → n ≤ k → k < length pairs → level < (pair_at pairs k).level

-- whether a side is a pair from the nth on
abbrev pub is_under : ℕ → Side → Bool
is_under n (Side.Pair j) = nat_le n j
is_under n (Side.Done c d) = false

-- the values of a pair's refs, joined: its polynomial if its level is below
abbrev pub value_at : Op → List Pair → List Lin → ℕ → ℕ
value_at op pairs lines j = joined op (line_of lines (pair_at pairs j).first).c0 (line_of lines (pair_at pairs j).second).c0

-- the ref that is c and d joined, one of them constant
abbrev pub leaf_of : Op → ℕ → ℕ → ℕ
leaf_of And c d = cond (c == 1) d (cond (d == 1) c 0)
leaf_of Or c d = cond (c == 0) d (cond (d == 0) c 1)

-- a linear polynomial as one of degree at most two
abbrev pub widened_of : Lin → Quadratic
widened_of a = record { c0 = a.c0; c1 = a.c1; c2 = 0 }

-- the polynomial of a side by the tables, in which the pairs from the nth on have no entry
abbrev pub poly_of_side : Op → List Pair → ℕ → List Lin → List Quadratic → Side → Quadratic
poly_of_side op pairs n lines polys (Side.Pair j) = cond (nat_le n j) (widened_of (record { c0 = value_at op pairs lines j; c1 = 0 })) (poly_at polys j)
poly_of_side op pairs n lines polys (Side.Done c d) = widened_of (line_of lines (leaf_of op c d))

-- what a side names is in the tables
abbrev pub IsInTables : List Pair → List Lin → Side → Type 0
IsInTables pairs lines (Side.Pair j) = (j < length pairs) × ((pair_at pairs j).first < length lines + 2) × ((pair_at pairs j).second < length lines + 2)
IsInTables pairs lines (Side.Done c d) = (c < length lines + 2) × (d < length lines + 2) × (min c d < 2)

-- what a pair names is in the tables
pub record HasTables (pairs : List Pair) (lines : List Lin) (x : Pair) : Type 0 where
  pub first : x.first < length lines + 2
  pub second : x.second < length lines + 2
  pub low : IsInTables pairs lines x.low
  pub high : IsInTables pairs lines x.high

-- how the polynomial of a pair that is not under `level` comes from the tables: above it is on the line between those of its sides, and at the level its functions are joined
pub record IsPairPoly (op : Op) (level : ℕ) (s : Point) (pairs : List Pair) (n : ℕ) (lines : List Lin) (polys : List Quadratic) (x : Pair) (q : Quadratic) : Type 0 where
  pub elements : HasElements q
  pub above : x.level < level → (t : ℕ) → at q t ≡ blend (s x.level) (at (poly_of_side op pairs n lines polys x.low) t) (at (poly_of_side op pairs n lines polys x.high) t)
  pub here : x.level ≡ level → (t : ℕ) → at q t ≡ lines_joined op lines x.first x.second t

-- the values of two refs joined, made linear in each level above `level`
unfoldable pub reduced_joined : Op → List Decision → ℕ → ℕ → ℕ → ℕ → Point → ℕ
reduced_joined op nodes levels level c d =
    fold linearize (λ p. joined op (extension (function nodes c) levels p) (extension (function nodes d) levels p)) (below level)

-- the polynomial of refs c and d joined, with the other levels at the point s
pub record IsJoined (op : Op) (nodes : List Decision) (levels level : ℕ) (s : Point) (c d : ℕ) (q : Quadratic) : Type 0 where
  pub elements : HasElements q
  pub values : (t : ℕ) → at q t ≡ reduced_joined op nodes levels level c d (put s level t)

-- the table has the polynomials of the pairs from k on and before n
abbrev pub HasPolys : Op → List Decision → ℕ → ℕ → Point → List Pair → ℕ → List Quadratic → ℕ → Type 0
HasPolys op nodes levels level s pairs n polys k =
    (j : ℕ) → k ≤ j → j < n → IsJoined op nodes levels level s (pair_at pairs j).first (pair_at pairs j).second (poly_at polys j)

-- the pairs are those of two refs, and the list has what these lead to
pub record IsGraphOfReached (nodes : List Decision) (pairs : List Pair) (numbers : List ℕ) : Type 0 where
  pub first : ℕ
  pub second : ℕ
  pub graph : IsGraph nodes first second pairs
  pub reached : IsReached nodes first second numbers
