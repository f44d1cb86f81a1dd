use Rattle.std.proofs.Common.{◌+◌, ◌==◌, ◌&&◌, not}
use Rattle.blic_model.proofs.LevelBits.{set_of, set_low, set_high, word_without}
use Rattle.blic_model.proofs.level_set.LevelSet.without.Goals as goal

pub returns : goal.returns
returns c p e =
    set_of (λ x. p x && not (x == c.args.level)) c.args.first _ _
    (word_without p (λ x. x == c.args.level) c.args.first c.args.self.low c.bit.result (set_low p c.args.first c.args.self e) c.bit.ensures)
    (word_without p (λ x. x == c.args.level) (c.args.first + 128) c.args.self.high c.bit-2.result (set_high p c.args.first c.args.self e) c.bit-2.ensures)
