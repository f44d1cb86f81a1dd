use Rattle.std.proofs.Common.{◌≡◌, ◌+◌, ◌*◌, ◌≤◌, length, take}
use Rattle.std.specs.Prelude.{fold}
use Rattle.blic_circuit.specs.Steps.{or_literal}
use Rattle.blic_circuit.proofs.Literals.{added}
use Rattle.blic_circuit.proofs.building.add_others.Given as goal

-- the literals so far are joined
abbrev pub invariant-loop-literal : goal.invariant-loop-literal
invariant-loop-literal l = record {
  so_far : added l.list l.joined ≡ fold (or_literal l.formula.prefix) (added l.initial.list l.initial.joined) (take l.literal-index l.literals);
  few : length l.list ≤ length l.initial.list + 3 * l.literal-index;
}
