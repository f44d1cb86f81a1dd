-- The values that are kept: of the first decisions of a list, down to a level.
use Rattle.std.specs.Prelude.{ℕ, ◌+◌, ◌<◌, ◌≤◌, ◌≡◌, List, length, map, slice_index_or, take}
use Rattle.blic_poly2.specs.declared.linear.Lin.{Lin}
use Rattle.blic_model.specs.Value.{Point}
use Rattle.blic_store.specs.declared.decision.Decision.{Decision}
use Rattle.blic_store.specs.Diagram.{function}
use Rattle.blic_eval.specs.Extension.{extension}
use Rattle.blic_eval.specs.Lines.{line_of}
use Rattle.blic_eval.specs.Reached.{level_in}

-- the first n decisions of the list are those of level `level` and of greater ones
pub record IsDownTo (nodes : List Decision) (numbers : List ℕ) (n level : ℕ) : Type 0 where
  pub few : n ≤ length numbers
  pub above : (i : ℕ) → i < n → level ≤ level_in nodes numbers i
  pub under : (i : ℕ) → n ≤ i → i < length numbers → level_in nodes numbers i < level

-- none of the first n decisions of the list has a level smaller than `level`, and none behind them the level of one of them
pub record IsWhole (nodes : List Decision) (numbers : List ℕ) (n level : ℕ) : Type 0 where
  pub few : n ≤ length numbers
  pub above : (i : ℕ) → i < n → level ≤ level_in nodes numbers i
  pub whole : (i j : ℕ) → i < n → n ≤ j → j < length numbers → level_in nodes numbers j < level_in nodes numbers i

-- the first decisions of the list have these values at s
abbrev pub HasKept : List Decision → ℕ → Point → List ℕ → List ℕ → Type 0
HasKept nodes levels s numbers kept =
    (i : ℕ) → i < length kept → slice_index_or kept i 0 ≡ extension (function nodes (slice_index_or numbers i 0 + 2)) levels s

-- the values of the first n decisions of the list, in a table of lines
abbrev pub kept_in : List Lin → List ℕ → ℕ → List ℕ
kept_in lines numbers n = map (λ k. (line_of lines (k + 2)).c0) (take n numbers)

-- the table has a line for each decision of the list, and the same value everywhere for the first n
pub record IsKept (lines : List Lin) (numbers : List ℕ) (n : ℕ) : Type 0 where
  pub few : n ≤ length numbers
  pub inside : (i : ℕ) → i < length numbers → slice_index_or numbers i 0 < length lines
  pub flat : (i : ℕ) → i < n → (line_of lines (slice_index_or numbers i 0 + 2)).c1 ≡ 0
