use Rattle.std.proofs.Common.{string_bytes}
use Rattle.blic_qdimacs.specs.Text.{clause_text}
use Rattle.blic_qdimacs.proofs.Written.{written_more}
use Rattle.blic_qdimacs.proofs.writer.push_clauses.Goals as goal

pub loop-i-preserved : goal.loop-i-preserved
loop-i-preserved c =
    written_more clause_text c.args.formula.now.clauses c.loop-i.i c.clause.result.now (string_bytes c.loop-i.out) (string_bytes c.push_clause.new.out) _
    c.clause.ensures c.in_ok-push_clause.ensures c.loop-i.invariant
