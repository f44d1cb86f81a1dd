use Rattle.std.proofs.Common.{◌≡◌, ◌+◌, ◌-◌, ◌<◌, ◌≤◌, ℕ, length, get_or}
use Rattle.blic_model.specs.Value.{Point}
use Rattle.blic_eval.specs.Lines.{HasLevels, HasValues, line_of}
use Rattle.blic_eval.specs.Reached.{level_in}
use Rattle.blic_eval.proofs.values.fill_level.Given as goal

-- the values of the first n decisions are there
abbrev pub invariant-next : goal.invariant-next
invariant-next g l = record {
  more : l.from ≤ l.n;
  inside : l.n ≤ length l.reached;
  above : (i : ℕ) → i < l.n → l.level ≤ level_in l.store.nodes l.reached i;
  long : length l.lines ≡ length l.fn.lines;
  before : (i : ℕ) → i < l.from → line_of l.lines (get_or l.reached i 0 + 2) ≡ line_of l.fn.lines (get_or l.reached i 0 + 2);
  flat : (i : ℕ) → l.from ≤ i → i < l.n → (line_of l.lines (get_or l.reached i 0 + 2)).c1 ≡ 0;
  values : (levels : ℕ) (s : Point) → HasLevels l.store.nodes levels → s l.level ≡ l.r → HasValues l.store.nodes levels s l.fn.lines l.reached l.from
      → HasValues l.store.nodes levels s l.lines l.reached l.n;
  count : l.steps + l.from ≡ l.fn.steps + l.n;
}

abbrev pub decreases-next : goal.decreases-next
decreases-next g l = length l.reached - l.n
