-- Private: where lists of levels stand in one list.
use Rattle.std.specs.Prelude.{◌≡◌, ℕ, ◌<◌, ◌≤◌, List, ◌++◌, length, map, take, slice_index_or}
use Rattle.blic_model.specs.declared.level_lists.Stretch.{Stretch}
use Rattle.blic_model.specs.LevelLists.{stretch, merged}

abbrev pub lists_at : List ℕ → List Stretch → List (List ℕ)
lists_at levels stretches = map (λ s. stretch levels s.start s.end) stretches

abbrev pub IsInside : ℕ → Stretch → Type 0
IsInside length s = (s.start ≤ s.end) × (s.end ≤ length)

abbrev pub no_stretch : Stretch
no_stretch = record { start = 0; end = 0 }

-- the lists stand within it
pub record AreInside (levels : List ℕ) (stretches : List Stretch) : Type 0 where
  pub each : (k : ℕ) → k < length stretches → IsInside (length levels) (slice_index_or stretches k no_stretch)

abbrev pub BeginsWith : List ℕ → List ℕ → Type 0
BeginsWith levels front = take (length front) levels ≡ front

-- the list stands at the stretch
abbrev pub IsAt : List ℕ → Stretch → List ℕ → Type 0
IsAt levels s list = IsInside (length levels) s × (stretch levels s.start s.end ≡ list)

-- two stretches of a list were merged to its end, but for what is left of them from i and j on
pub record IsMergedUpTo (old new : List ℕ) (left right : Stretch) (i j : ℕ) : Type 0 where
  pub left_inside : i ≤ left.end
  pub right_inside : j ≤ right.end
  pub front : BeginsWith new old
  pub long : length old ≤ length new
  pub rest : new ++ merged (stretch old i left.end) (stretch old j right.end) ≡ old ++ merged (stretch old left.start left.end) (stretch old right.start right.end)
