use Rattle.std.proofs.Common.{arith, ap, length}
use Rattle.blic_eval.proofs.Reaching.{reached_few}
use Rattle.blic_eval.proofs.values.pair_values.Goals as goal

pub returns-clause-at_most : goal.returns-clause-at_most
returns-clause-at_most g c =
    let few = reached_few c.args.store.now.nodes c.args.a c.args.b c.begin.new.self.reached c.begin.ensures.reached in
    let none = ap length c.begin.ensures.kept in
    let down = c.keep_down.ensures.down.few in
    let same = ap length c.keep_down.ensures.reached in
    let count = c.keep_down.ensures.count in
    omega arith
