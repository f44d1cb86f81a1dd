use Rattle.std.proofs.Common.{arith}
use Rattle.blic_talk.proofs.LongFrames.{too_long}
use Rattle.blic_talk.proofs.frames.read.Goals as goal

pub returns-then-frame-gt-LONGEST_REPLY : goal.returns-then-frame-gt-LONGEST_REPLY
returns-then-frame-gt-LONGEST_REPLY c = too_long c.args.frame.now (omega arith)
