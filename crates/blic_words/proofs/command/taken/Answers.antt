use Rattle.std.proofs.Common.{map, string_bytes}
use Rattle.clap.specs.Words.{app_of}
use Rattle.blic_words.proofs.Parsing.{taken_rows, not_taken}
use Rattle.blic_words.proofs.command.taken.Goals as goal

pub returns-in-Ok-clause-rows : goal.returns-in-Ok-clause-rows
returns-in-Ok-clause-rows c = taken_rows (app_of c.args.command) (map string_bytes c.args.words.now) c.in-Ok.matches c.requires c.in-Ok.ensures.matches

pub returns : goal.returns
returns c = record {
  rows = tt;
  faults = not_taken _ c.in-Err.error c.kind.result c.kind.ensures c.in_default.not-OutOfMemory (c.in-Err.ensures.kinds c.requires);
}
