use Rattle.std.proofs.Common.{◌≡◌, ◌++◌, take}
use Rattle.blic_messages.specs.Grammar.{front, Partial}
use Rattle.blic_messages.specs.Fronts.{reply_grammar}
use Rattle.blic_messages.specs.Decoding.{Inside, held_by}
use Rattle.blic_messages.proofs.reply_decoder.ReplyDecoder.feed.Given as goal

-- the bytes so far are held, and nothing is told of them yet
abbrev pub invariant-loop-i : goal.invariant-loop-i
invariant-loop-i l = record {
  held : l.self ≡ Inside (held_by l.fn.self ++ take l.i l.piece);
  partial : front reply_grammar (held_by l.fn.self ++ take l.i l.piece) ≡ Partial;
}
