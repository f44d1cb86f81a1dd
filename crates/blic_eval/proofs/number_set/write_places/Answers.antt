use Rattle.std.proofs.Common.{arith, length}
use Rattle.blic_store.proofs.Numbers.{once_few}
use Rattle.blic_eval.proofs.number_set.write_places.Goals as goal

pub overflow_cast-places : goal.overflow_cast-places
overflow_cast-places c =
    let most = once_few c.args.numbers.now (length c.args.places.now) c.requires.held c.requires.once in
    let few = c.requires.few in
    let inside = c.loop-place-test.true in
    omega arith
