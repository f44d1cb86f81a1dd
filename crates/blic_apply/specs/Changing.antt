-- Private: one function changed: negated, or with a level's bit fixed.
use Rattle.std.specs.Prelude.{ℕ, ◌<◌, ◌≤◌, ◌≡◌, List}
use Rattle.blic_store.specs.declared.decision.Decision.{Decision}
use Rattle.blic_store.specs.Function.{Function, Same}
use Rattle.blic_store.specs.Diagram.{IsRef, function, high_of, level_of, low_of}
use Rattle.blic_apply.specs.Operations.{fixed, negated}
use Rattle.blic_apply.specs.PartTable.{HasBecome, IsNew, Table}
use Rattle.blic_apply.specs.declared.change.Change.{Change}
use Rattle.blic_apply.specs.declared.change.Change.TheVariants.{Negate, Fix}
use Rattle.blic_apply.specs.declared.rewriting.Step.{Step}
use Rattle.blic_apply.specs.declared.rewriting.Step.TheVariants.{Low, High, Ready}

-- the function changed
abbrev pub changed : Change → Function → Function
changed Negate f = negated f
changed (Fix level bit) f = fixed level bit f

-- ref s stands for the function of ref r, changed
pub record IsChanged (change : Change) (nodes : List Decision) (r s : ℕ) : Type 0 where
  pub held : IsRef nodes s
  pub value : Same (function nodes s) (changed change (function nodes r))

-- the change leaves the bit of a level open
abbrev pub LeavesOpen : Change → ℕ → Type 0
LeavesOpen Negate x = Unit {0}
LeavesOpen (Fix level bit) x = x < level

-- ref r decides at a level that stays, and is changed by its two sides
pub record IsUnsettled (change : Change) (nodes : List Decision) (r : ℕ) : Type 0 where
  pub inner : 2 ≤ r
  pub open_level : LeavesOpen change (level_of nodes r)

-- what the table has of a ref is what it became
abbrev pub HasChanged : Change → List Decision → Table → Type 0
HasChanged change nodes table = (r s : ℕ) → HasBecome table r s → IsChanged change nodes r s

-- a part that has to be changed
pub record IsMissing (change : Change) (nodes : List Decision) (table : Table) (r : ℕ) : Type 0 where
  pub unsettled : IsUnsettled change nodes r
  pub unmade : IsNew table r

-- what is known of a ref's step: one of its sides has to be changed, or both have become something
abbrev pub IsStep : Change → List Decision → Table → ℕ → Step → Type 0
IsStep change nodes table at (Low r) = (r ≡ low_of nodes at) × IsMissing change nodes table r
IsStep change nodes table at (High low r) = IsChanged change nodes (low_of nodes at) low × (r ≡ high_of nodes at) × IsMissing change nodes table r
IsStep change nodes table at (Ready low high) = IsChanged change nodes (low_of nodes at) low × IsChanged change nodes (high_of nodes at) high
