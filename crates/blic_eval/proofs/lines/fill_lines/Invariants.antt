use Rattle.std.proofs.Common.{◌≡◌, ◌+◌, ◌-◌, ◌*◌, ◌<◌, ◌≤◌, ℕ, length, get_or}
use Rattle.blic_eval.specs.Lines.{HasLines, line_of, point_of}
use Rattle.blic_eval.proofs.lines.fill_lines.Given as goal

-- the lines of the first n decisions are there
abbrev pub invariant-next : goal.invariant-next
invariant-next g l = record {
  more : l.from ≤ l.n;
  inside : l.n ≤ length l.reached;
  lines : HasLines l.store.nodes (length l.point) l.level (point_of l.point) l.lines l.reached l.n;
  before : (i : ℕ) → i < l.from → line_of l.lines (get_or l.reached i 0 + 2) ≡ line_of l.fn.lines (get_or l.reached i 0 + 2);
  long : length l.lines ≡ length l.fn.lines;
  at_most : l.steps + 2 * l.from ≤ l.fn.steps + 2 * l.n;
  at_least : l.fn.steps ≤ l.steps;
}

abbrev pub decreases-next : goal.decreases-next
decreases-next g l = length l.reached - l.n
