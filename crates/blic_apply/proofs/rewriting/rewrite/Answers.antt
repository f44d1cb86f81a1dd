use Rattle.blic_store.proofs.Made.{on_ok}
use Rattle.blic_apply.specs.PartTable.{IsEmpty}
use Rattle.blic_apply.proofs.rewriting.rewrite.Goals as goal

pub rewrite_parts-requires-clause-unsettled : goal.rewrite_parts-requires-clause-unsettled
rewrite_parts-requires-clause-unsettled c = c.in_default.ensures.none

pub rewrite_parts-requires-clause-fresh : goal.rewrite_parts-requires-clause-fresh
rewrite_parts-requires-clause-fresh c = on_ok c.begin.result (IsEmpty c.begin.new.self) c.if-is_err.ensures.value c.begin.ensures
