use Rattle.std.proofs.Common.{◌≡◌, ◌<◌, ◌||◌, ◌==◌, ℕ, length, take}
use Rattle.std.specs.List.{list_any}
use Rattle.blic_qdimacs.specs.Tables.{is_marked}
use Rattle.blic_qdimacs.proofs.free.mark_clauses.Given as goal

-- the clauses so far are marked
abbrev pub invariant-loop-clause : goal.invariant-loop-clause
invariant-loop-clause l = record {
  size : length l.marks ≡ length l.fn.marks;
  marked : (v : ℕ) → v < length l.fn.marks → is_marked l.marks v ≡ (is_marked l.fn.marks v || list_any (λ c. list_any (λ m. m.var == v) c.items) (take l.clause-index l.clauses));
}
