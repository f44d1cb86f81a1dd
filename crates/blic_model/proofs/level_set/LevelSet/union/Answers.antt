use Rattle.std.proofs.Common.{◌+◌, ◌||◌}
use Rattle.blic_model.proofs.LevelBits.{set_of, set_low, set_high, word_of_both}
use Rattle.blic_model.proofs.level_set.LevelSet.union.Goals as goal

pub returns : goal.returns
returns c p q first e f =
    set_of (λ x. p x || q x) first _ _ (word_of_both p q first c.args.self.low c.args.other.low (set_low p first c.args.self e) (set_low q first c.args.other f))
    (word_of_both p q (first + 128) c.args.self.high c.args.other.high (set_high p first c.args.self e) (set_high q first c.args.other f))
