use Rattle.std.proofs.Common.{◌-◌, arith}
use Rattle.blic_model.proofs.Binding.{refused_mark}
use Rattle.blic_model.proofs.limits.binds_once.Goals as goal

pub returns-then-not-mark-clause-once : goal.returns-then-not-mark-clause-once
returns-then-not-mark-clause-once c =
    refused_mark c.args.vars (c.loop-i.i - 1) c.loop-i.i c.args.prefix.now _ c.loop-i.marks c.mark.result (omega arith) c.loop-i.invariant.inside
    c.loop-i.invariant.marks c.mark.ensures.may c.if-not-mark.true
