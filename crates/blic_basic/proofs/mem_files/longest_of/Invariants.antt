use Rattle.std.proofs.Common.{ℕ, ◌<◌, ◌≤◌, length, get_or}
use Rattle.blic_basic.specs.Named.{NamedBytes}
use Rattle.blic_basic.proofs.mem_files.longest_of.Given as goal

-- no file so far has more bytes
abbrev pub invariant-loop-file : goal.invariant-loop-file
invariant-loop-file l = (k : ℕ) (d : NamedBytes) → k < l.file-index → length (get_or l.files k d).bytes ≤ l.longest
