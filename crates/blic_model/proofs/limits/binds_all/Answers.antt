use Rattle.blic_model.proofs.Binding.{binds_all_of}
use Rattle.blic_model.proofs.limits.binds_all.Goals as goal

pub returns : goal.returns
returns c =
    binds_all_of c.args.vars c.args.prefix.now c.binds_once.new.marks (λ clause. clause.items) c.args.clauses.now c.binds_once.result c.is_closed.result
    c.if-not-binds_once.false c.binds_once.ensures.once (c.binds_once.ensures.marks c.if-not-binds_once.false) c.is_closed.ensures
