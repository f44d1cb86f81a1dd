-- Private: a table of parts: for each ref a mark of what it became, which holds if it is of the table's round.
use Rattle.std.specs.Prelude.{ℕ, ◌<◌, ◌≤◌, ◌≡◌, ◌≢◌, List, length, slice_index_or}
use Rattle.blic_apply.specs.declared.part_table.Mark.{Mark}

pub record Table : Type 0 where
  pub marks : List Mark
  pub round : ℕ

abbrev pub mark_at : List Mark → ℕ → Mark
mark_at marks r = slice_index_or marks r (record { round = 0; answer = 0 })

-- the table has ref r, which became s
pub record HasBecome (t : Table) (r s : ℕ) : Type 0 where
  pub round : (mark_at t.marks r).round ≡ t.round
  pub answer : (mark_at t.marks r).answer ≡ s

-- the table lacks ref r
abbrev pub IsNew : Table → ℕ → Type 0
IsNew t r = (mark_at t.marks r).round ≢ t.round

-- the table lacks all refs
abbrev pub IsEmpty : Table → Type 0
IsEmpty t = (r : ℕ) → IsNew t r

-- the table has one part more
pub record Enters (old new : Table) (part answer : ℕ) : Type 0 where
  pub round : new.round ≡ old.round
  pub entered : HasBecome new part answer
  pub others : (r : ℕ) → r ≢ part → mark_at new.marks r ≡ mark_at old.marks r

-- no mark is of a round to come, and no round is 0
pub record IsMarked (marks : List Mark) (round : ℕ) : Type 0 where
  pub some : 0 < round
  pub past : (r : ℕ) → (mark_at marks r).round ≤ round

-- the marks stay, though there may be more
pub record IsWidened (old new : List Mark) : Type 0 where
  pub longer : length old ≤ length new
  pub same : (r : ℕ) → mark_at new r ≡ mark_at old r
