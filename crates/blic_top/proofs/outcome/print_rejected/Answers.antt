use Rattle.std.proofs.Common.{decimal}
use Rattle.blic_top.proofs.Texts.{prints_same, ends_text, combine_text, leaf_text}
use Rattle.blic_top.proofs.outcome.print_rejected.Goals as goal

pub returns-in-Ends-clause-bytes : goal.returns-in-Ends-clause-bytes
returns-in-Ends-clause-bytes g c = rw c.in-Ends.is (prints_same _ _ _ _ _ (ends_text (decimal c.args.node) (decimal c.args.claim)) c.print_pieces.ensures.bytes)

pub returns-in-Combine-clause-bytes : goal.returns-in-Combine-clause-bytes
returns-in-Combine-clause-bytes g c = rw c.in-Combine.is (prints_same _ _ _ _ _ (combine_text (decimal c.args.node)) c.print_pieces-in-Combine.ensures.bytes)

pub returns-in-Leaf-clause-bytes : goal.returns-in-Leaf-clause-bytes
returns-in-Leaf-clause-bytes g c = rw c.in-Leaf.is (prints_same _ _ _ _ _ (leaf_text (decimal c.args.node) (decimal c.args.claim)) c.print_pieces-in-Leaf.ensures.bytes)
