use Rattle.std.proofs.Common.{◌∙◌, arith}
use Rattle.std.proofs.lemmas.Option.{get_or_from_slice_get}
use Rattle.blic_model.specs.Limits.{is_bound}
use Rattle.blic_qdimacs.proofs.items.ItemReader.is_bound.Goals as goal

pub returns : goal.returns
returns c =
    c.index.ensures
    ∙ get_or_from_slice_get c.args.self.now.bound.items c.args.var (is_bound c.args.self.now.sets.items c.args.var) c.index.result.now
    (c.args.self.now.table c.args.var (omega (arith, c.args.self.now.size)))
