use Rattle.std.proofs.Common.{◌≡◌, ◌≤◌, ◌+◌, drop}
use Rattle.blic_qdimacs.specs.Machine.{after_bytes}
use Rattle.blic_qdimacs.specs.View.{machine_of}
use Rattle.blic_qdimacs.proofs.byte_reader.ByteReader.feed.Given as goal

-- the bytes so far are taken, and the rest is left
abbrev pub invariant-loop-byte : goal.invariant-loop-byte
invariant-loop-byte l = record {
  bytes : after_bytes (machine_of l.fn.self) l.piece ≡ after_bytes (machine_of l.self) (drop l.byte-index l.piece);
  line : l.self.line ≤ l.fn.self.line + l.byte-index;
}
