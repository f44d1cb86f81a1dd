use Rattle.std.proofs.Common.{map, string_bytes}
use Rattle.blic_words.proofs.Ranges.{value_range}
use Rattle.blic_words.proofs.words.parse.Goals as goal

pub returns-clause-ranges : goal.returns-clause-ranges
returns-clause-ranges c = value_range _ (map string_bytes c.args.words.now) c.in_ok-read.ensures
