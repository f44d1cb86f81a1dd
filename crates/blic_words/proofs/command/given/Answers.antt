use Rattle.std.proofs.Common.{map, string_bytes}
use Rattle.clap.specs.Words.{app_of}
use Rattle.blic_words.proofs.Parsing.{given_is, given_none, texts_now}
use Rattle.blic_words.proofs.command.given.Goals as goal

pub returns-in_default : goal.returns-in_default
returns-in_default c = given_none (app_of c.args.command) (texts_now c.args.operands.now) (map string_bytes c.args.words.now) (rw c.in_default.is at c.in_ok-matches.ensures.faults)

pub returns : goal.returns
returns c =
    let taken = c.in_ok-matches.ensures in
    given_is (app_of c.args.command) (texts_now c.args.operands.now) (map string_bytes c.args.words.now) c.in-Some.matches c.in_ok-texts_of.field-0 c.read.result c.zip.result c.zip.ensures c.in_ok-texts_of.ensures c.read.ensures
    (rw c.in-Some.is at taken.rows) (rw c.in-Some.is at taken.faults)
