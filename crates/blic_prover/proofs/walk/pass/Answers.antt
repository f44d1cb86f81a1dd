use Rattle.blic_prover.proofs.Passing.{pass_walk}
use Rattle.blic_prover.proofs.walk.pass.Goals as goal

pub returns-clause-walks : goal.returns-clause-walks
returns-clause-walks c = λ draws t w.
    pass_walk c.args.circuit.now draws t c.args.node c.args.points.now c.hand_down.new.self c.is_within_limits.ensures.shaped c.requires.node c.requires.other c.requires.points c.hand_down.ensures.handed w
