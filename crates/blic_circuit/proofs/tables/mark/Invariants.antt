use Rattle.std.proofs.Common.{◌≡◌, ◌<◌, ℕ, length, take, get_or, false, ◌||◌}
use Rattle.std.specs.Prelude.{◌==◌}
use Rattle.std.specs.List.{list_any}
use Rattle.blic_circuit.proofs.tables.mark.Given as goal

-- the variables of the literals so far are marked
abbrev pub invariant-loop-literal : goal.invariant-loop-literal
invariant-loop-literal l =
    (v : ℕ) → v < length l.marks → get_or l.marks v false ≡ (get_or l.initial.marks v false || list_any (λ m. m.var == v) (take l.literal-index l.clause))
