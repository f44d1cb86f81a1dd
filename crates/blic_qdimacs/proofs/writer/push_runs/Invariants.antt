use Rattle.std.proofs.Common.{◌≡◌, ◌++◌, string_bytes, drop, None}
use Rattle.blic_qdimacs.specs.Writing.{prefix_left}
use Rattle.blic_qdimacs.proofs.writer.push_runs.Given as goal

-- what is written and what is left are the whole
abbrev pub invariant-loop-bound : goal.invariant-loop-bound
invariant-loop-bound l =
    string_bytes l.out ++ prefix_left l.current (drop l.bound-index l.bounds) ≡ string_bytes l.fn.out ++ prefix_left None l.bounds
