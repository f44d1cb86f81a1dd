use Rattle.blic_claims.specs.Elements.{levels_of}
use Rattle.blic_claims.proofs.Copying.{IsCopiedTo}
use Rattle.blic_claims.proofs.elements.copy_point.Given as goal

abbrev pub invariant-loop-i : goal.invariant-loop-i
invariant-loop-i l = IsCopiedTo (levels_of l.circuit l.from.node) l.from.start (levels_of l.circuit l.to.node) l.to.start l.fixed l.initial.elements l.i l.j l.elements
