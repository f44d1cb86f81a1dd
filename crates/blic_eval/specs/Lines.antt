-- Private: tables of the polynomials of refs along a line: each level but one is at a point.
use Rattle.std.specs.Prelude.{ℕ, zero, suc, ◌<◌, ◌≡◌, List, length, slice_index_or}
use Rattle.blic_poly2.specs.declared.linear.Lin.{Lin}
use Rattle.blic_poly2.specs.Poly.{lin_at, LinHasElements}
use Rattle.blic_model.specs.Value.{Point, put}
use Rattle.blic_store.specs.declared.decision.Decision.{Decision}
use Rattle.blic_store.specs.Diagram.{decision_at, function}
use Rattle.blic_eval.specs.Extension.{extension}
use Rattle.blic_eval.specs.Reached.{IsAmong}

-- the point whose levels have the elements of a list
abbrev pub point_of : List ℕ → Point
point_of elements x = slice_index_or elements x 0

-- there are more levels than each decision's
abbrev pub HasLevels : List Decision → ℕ → Type 0
HasLevels nodes levels = (k : ℕ) → k < length nodes → (decision_at nodes k).level < levels

-- the line of a ref: a constant one, or that of a decision, which the table has
unfoldable pub line_of : List Lin → ℕ → Lin
line_of lines zero = record { c0 = 0; c1 = 0 }
line_of lines (suc zero) = record { c0 = 1; c1 = 0 }
line_of lines (suc (suc k)) = slice_index_or lines k (record { c0 = 0; c1 = 0 })

-- `a` is the polynomial of ref r in the variable of `level`, with the other levels at the point s
pub record IsLine (nodes : List Decision) (levels level : ℕ) (s : Point) (r : ℕ) (a : Lin) : Type 0 where
  pub elements : LinHasElements a
  pub values : (t : ℕ) → lin_at a t ≡ extension (function nodes r) levels (put s level t)

-- the table has the lines of the constants and of the first n decisions of the list
abbrev pub HasLines : List Decision → ℕ → ℕ → Point → List Lin → List ℕ → ℕ → Type 0
HasLines nodes levels level s lines numbers n = (r : ℕ) → IsAmong numbers n r → IsLine nodes levels level s r (line_of lines r)

-- the table has the ref's value at the point s, as a constant polynomial
abbrev pub IsValue : List Decision → ℕ → Point → List Lin → ℕ → Type 0
IsValue nodes levels s lines r = (line_of lines r).c0 ≡ extension (function nodes r) levels s

-- the table has the values of the constants and of the first n decisions of the list
abbrev pub HasValues : List Decision → ℕ → Point → List Lin → List ℕ → ℕ → Type 0
HasValues nodes levels s lines numbers n = (r : ℕ) → IsAmong numbers n r → IsValue nodes levels s lines r
