use Rattle.std.proofs.Common.{arith, ◌==◌, length, sym}
use Rattle.std.proofs.lemmas.Bool.{ne_eqb, eq-eqb}
use Rattle.std.proofs.lemmas.List.Sums.{position_or_len_is}
use Rattle.blic_model.proofs.level_lists.place_of.Goals as goal

pub returns-then-other-level : goal.returns-then-other-level
returns-then-other-level c =
    sym (position_or_len_is (λ x. x == c.args.level) c.args.levels.now c.loop-i.i 0 (omega arith) (λ k l. ne_eqb _ _ (c.loop-i.invariant k l)) (λ _. eq-eqb _ _ c.if-other-level.true))

pub returns : goal.returns
returns c =
    sym (position_or_len_is (λ x. x == c.args.level) c.args.levels.now (length c.args.levels.now) 0 (omega arith) (λ k l. ne_eqb _ _ (c.loop-i.invariant k (omega arith))) (λ l. absurd (omega arith)))
