use Rattle.blic_poly2.proofs.Values.{lin_at-blend}
use Rattle.blic_poly2.proofs.linear.Lin.blend.Goals as goal

pub returns-clause-values : goal.returns-clause-values
returns-clause-values g c =
    rw (c.blended.ensures.value, c.blended-2.ensures.value) (lin_at-blend c.args.s c.args.a.now c.args.b.now)
