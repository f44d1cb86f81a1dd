use Rattle.std.proofs.Common.{◌≡◌, ◌≤◌, ◌+◌, ◌-◌, ℕ, List, length, take, Ok}
use Rattle.std.specs.Io.KnownBytes.{prepend_known}
use Rattle.blic_qdimacs.specs.Machine.{after_bytes, start}
use Rattle.blic_qdimacs.specs.View.{machine_of}
use Rattle.blic_qdimacs.proofs.reader.read_by_bytes.Given as goal

-- the bytes so far are taken, as far as there are not too many, and no call failed
abbrev pub invariant-pieces : goal.invariant-pieces
invariant-pieces g l = record {
  taken : (bytes : List ℕ) × (g.S.Source.left l.fn.source ≡ prepend_known bytes (g.S.Source.left l.source)) × (length bytes ≡ l.taken)
      × (after_bytes start (take 67108864 bytes) ≡ Ok (machine_of l.reader));
  few : l.taken ≤ 67108865;
  line : l.reader.line ≤ l.taken + 1;
  faults : g.S.Source.faults l.source ≡ g.S.Source.faults l.fn.source;
}

abbrev pub decreases-pieces : goal.decreases-pieces
decreases-pieces g l = 67108865 - l.taken
