use Rattle.std.proofs.Common.{◌≡◌, ◌*◌, ◌++◌}
use Rattle.std.specs.Prelude.{flat_map, take, drop}
use Rattle.blic_messages.specs.Frames.{poly_body}
use Rattle.blic_messages.proofs.encode.write_polys.Given as goal

abbrev pub invariant-loop-i : goal.invariant-loop-i
invariant-loop-i l = l.out ≡ flat_map poly_body (take l.i l.polys) ++ drop (24 * l.i) l.initial.out
