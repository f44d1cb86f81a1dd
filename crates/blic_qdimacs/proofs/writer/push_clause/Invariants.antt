use Rattle.std.proofs.Common.{◌≡◌, ◌++◌, string_bytes, flat_map, drop}
use Rattle.blic_qdimacs.specs.Text.{literal_text}
use Rattle.blic_qdimacs.proofs.writer.push_clause.Given as goal

-- what is written and what is left are the whole
abbrev pub invariant-loop-literal : goal.invariant-loop-literal
invariant-loop-literal l =
    string_bytes l.out ++ flat_map literal_text (drop l.literal-index l.clause) ≡ string_bytes l.fn.out ++ flat_map literal_text l.clause
