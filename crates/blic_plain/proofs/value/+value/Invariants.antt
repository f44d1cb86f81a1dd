use Rattle.std.proofs.Common.{◌+◌, ◌*◌}
use Rattle.blic_plain.proofs.value.+value.Given as goal

-- a smaller node counts for more than all levels of this one
abbrev pub decreases-value : goal.decreases-value
decreases-value g l = 4294967300 * l.node + 4294967299

abbrev pub decreases-part : goal.decreases-part
decreases-part g l = 4294967300 * l.node + l.i + 1

abbrev pub decreases-combined : goal.decreases-combined
decreases-combined g l = 4294967300 * l.node
