use Rattle.std.proofs.Common.{◌≡◌, take, length}
use Rattle.blic_basic.specs.Watching.{bent}
use Rattle.blic_basic.proofs.bend_watch.apply.Given as goal

-- the bends so far are applied, and the first five bytes stand
abbrev pub invariant-loop-bend : goal.invariant-loop-bend
invariant-loop-bend l = (l.frame ≡ bent (take l.bend-index l.bends) l.reply l.fn.frame) × (take 5 l.frame ≡ take 5 l.fn.frame) × (length l.frame ≡ length l.fn.frame)
