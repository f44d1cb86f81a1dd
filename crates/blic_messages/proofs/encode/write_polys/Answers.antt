use Rattle.blic_messages.proofs.Bodies.{one_more_body}
use Rattle.blic_messages.proofs.encode.write_polys.Goals as goal

-- src/encode.rt:158:5
pub loop-i-preserved : goal.loop-i-preserved
loop-i-preserved c =
    one_more_body c.args.polys.now c.loop-i.i c.index-polys-i.result c.loop-i.out c.args.out.now c.write_poly.new.out
    c.loop-i-test.true c.index-polys-i.is c.requires.room c.loop-i.auto.out c.loop-i.invariant c.write_poly.ensures
