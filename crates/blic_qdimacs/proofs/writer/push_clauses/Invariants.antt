use Rattle.std.proofs.Common.{◌≡◌, ◌++◌, string_bytes, flat_map, drop}
use Rattle.blic_qdimacs.specs.Text.{clause_text}
use Rattle.blic_qdimacs.proofs.writer.push_clauses.Given as goal

abbrev pub invariant-loop-i : goal.invariant-loop-i
invariant-loop-i l =
    string_bytes l.out ++ flat_map clause_text (drop l.i l.formula.clauses) ≡ string_bytes l.fn.out ++ flat_map clause_text l.formula.clauses
