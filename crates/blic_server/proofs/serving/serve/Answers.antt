use Rattle.std.proofs.Common.{arith, ◌≡◌, refl, sym, ◌∙◌, ap, subst, length, suc, ◌≤◌, ◌<◌, ◌+◌, ℕ}
use Rattle.std.specs.Prelude.{Option, Some, None}
use Rattle.blic_basic.specs.Outside.{Rose}
use Rattle.blic_claims.specs.Turns.{turns}
use Rattle.blic_prover.specs.Standing.{GoesOn}
use Rattle.blic_server.specs.Serving.{ServeCounts}
use Rattle.blic_server.specs.declared.served.Ended.{Ended}
use Rattle.blic_server.proofs.Sessions.{at_first, few_so_far, last_turn, one_turn}
use Rattle.blic_server.proofs.serving.serve.Goals as goal
use Rattle.blic_server.proofs.serving.serve.Goals.{else-loop-test, then-loop-test+in-None+else-counter-replies}

pub loop-init : goal.loop-init
loop-init g c = (
  at_first c.args.prover.now.circuit c.args.prover.now.served (g.K.Link.pieces c.args.link.now) c.reset.new.self c.clear.new.self (ap (λ p. p.circuit) c.reset.ensures.exact) (ap (λ p. p.served) c.reset.ensures.exact)
      c.reset.ensures.silent c.clear.ensures,
  refl,
  refl,
  subst (GoesOn (g.A.Answers.goes_on c.args.answers.now)) (sym c.reset.ensures.exact) tt,
  c.requires.usable,
  refl,
  c.requires.room,
)

pub turn-requires-clause-answers : goal.turn-requires-clause-answers
turn-requires-clause-answers g c = c.loop.invariant.2 ∙ (c.requires.answers ∙ sym c.loop.invariant.0.circuit)

pub turn-requires-clause-goes_on : goal.turn-requires-clause-goes_on
turn-requires-clause-goes_on g c = c.loop.invariant.3

pub turn-requires-clause-usable : goal.turn-requires-clause-usable
turn-requires-clause-usable g c = c.loop.invariant.4

pub turn-requires-clause-room : goal.turn-requires-clause-room
turn-requires-clause-room g c = c.loop.invariant.6

pub overflow_add-asks : goal.overflow_add-asks
overflow_add-asks g c =
    let so =
    one_turn c.args.prover.now.circuit c.args.prover.now.served (g.K.Link.pieces c.args.link.now) (g.K.Link.pieces c.loop.link) (g.K.Link.pieces c.turn.new.link) c.loop.prover c.turn.new.prover c.loop.buffers.inbox
    c.turn.new.buffers.inbox (g.K.Link.coming c.turn.new.link) c.loop.asks c.loop.invariant.0 c.in-None.ensures.turn c.in-None.ensures.circuit c.in-None.ensures.served in
    let few = few_so_far c.args.prover.now.circuit c.args.prover.now.served (g.K.Link.pieces c.args.link.now) (g.K.Link.pieces c.turn.new.link) c.turn.new.prover c.turn.new.buffers.inbox (c.loop.asks + 1) so in
    let most = c.replies-replies.ensures in
    let same = ap (λ p. suc (length (turns p.circuit.nodes (length p.circuit.order)))) c.reset.ensures.exact in
    omega (arith, few, most, same, c.replies-replies.type_inv)

pub returns-in-Some-clause-room : goal.returns-in-Some-clause-room
returns-in-Some-clause-room g c = omega (arith, c.in-Some.ensures.room, c.loop.invariant.6)

pub returns-in-Some-clause-circuit : goal.returns-in-Some-clause-circuit
returns-in-Some-clause-circuit g c = c.in-Some.ensures.circuit ∙ c.loop.invariant.0.circuit

pub returns-in-Some-clause-served : goal.returns-in-Some-clause-served
returns-in-Some-clause-served g c = c.in-Some.ensures.served ∙ c.loop.invariant.0.served

pub returns-in-Some-clause-answers : goal.returns-in-Some-clause-answers
returns-in-Some-clause-answers g c = c.in-Some.ensures.answers ∙ c.loop.invariant.2

pub returns-in-Some-clause-session : goal.returns-in-Some-clause-session
returns-in-Some-clause-session g c =
    last_turn c.args.prover.now.circuit c.args.prover.now.served (g.K.Link.pieces c.args.link.now) (g.K.Link.pieces c.loop.link) (g.K.Link.pieces c.turn.new.link) c.loop.prover c.turn.new.prover c.loop.buffers.inbox
    c.turn.new.buffers.inbox (g.K.Link.coming c.turn.new.link) c.loop.asks c.in-Some.ended c.loop.invariant.0 c.in-Some.ensures.turn

pub returns-in-Some-clause-cause : goal.returns-in-Some-clause-cause
returns-in-Some-clause-cause g c = subst (λ n. ServeCounts n (g.K.Link.faults c.turn.new.link) c.in-Some.ended) c.loop.invariant.5 c.in-Some.ensures.cause

pub loop-preserved : goal.loop-preserved
loop-preserved g c = (
  one_turn c.args.prover.now.circuit c.args.prover.now.served (g.K.Link.pieces c.args.link.now) (g.K.Link.pieces c.loop.link) (g.K.Link.pieces c.turn.new.link) c.loop.prover c.turn.new.prover c.loop.buffers.inbox
      c.turn.new.buffers.inbox (g.K.Link.coming c.turn.new.link) c.loop.asks c.loop.invariant.0 c.in-None.ensures.turn c.in-None.ensures.circuit c.in-None.ensures.served,
  ap (λ n. n + 1) c.loop.invariant.1,
  c.in-None.ensures.answers ∙ c.loop.invariant.2,
  c.in-None.ensures.goes_on,
  c.in-None.ensures.usable,
  c.in-None.ensures.cause ∙ c.loop.invariant.5,
  omega (arith, c.in-None.ensures.room, c.loop.invariant.6),
)

-- there are no more replies
unreached : (g : _) (c : goal.After-drop-steps-inside-3 g) → ⊥
unreached g c =
    let most = c.replies-replies.ensures in
    let same = ap (λ p. suc (length (turns p.circuit.nodes (length p.circuit.order)))) c.reset.ensures.exact in
    elim c.loop-test.branch [
      | else-loop-test w ↦
          let few = few_so_far c.args.prover.now.circuit c.args.prover.now.served (g.K.Link.pieces c.args.link.now) (g.K.Link.pieces c.loop.link) c.loop.prover c.loop.buffers.inbox c.loop.asks c.loop.invariant.0 in
          absurd (omega (arith, few, most, same, c.loop.invariant.1, w.loop-test.false))
      | then-loop-test+in-None+else-counter-replies w ↦
          let so =
          one_turn c.args.prover.now.circuit c.args.prover.now.served (g.K.Link.pieces c.args.link.now) (g.K.Link.pieces c.loop.link) (g.K.Link.pieces w.turn.new.link) c.loop.prover w.turn.new.prover c.loop.buffers.inbox
          w.turn.new.buffers.inbox (g.K.Link.coming w.turn.new.link) c.loop.asks c.loop.invariant.0 w.in-None.ensures.turn w.in-None.ensures.circuit w.in-None.ensures.served in
          let few = few_so_far c.args.prover.now.circuit c.args.prover.now.served (g.K.Link.pieces c.args.link.now) (g.K.Link.pieces w.turn.new.link) w.turn.new.prover w.turn.new.buffers.inbox (c.loop.asks + 1) so in
          absurd (omega (arith, few, most, same, c.loop.invariant.1, w.loop-test.true))
    ]

pub returns-clause-room : goal.returns-clause-room
returns-clause-room g c = absurd (unreached g c)

pub returns-clause-circuit : goal.returns-clause-circuit
returns-clause-circuit g c = absurd (unreached g c)

pub returns-clause-served : goal.returns-clause-served
returns-clause-served g c = absurd (unreached g c)

pub returns-clause-answers : goal.returns-clause-answers
returns-clause-answers g c = absurd (unreached g c)

pub returns-clause-session : goal.returns-clause-session
returns-clause-session g c = absurd (unreached g c)

pub returns-clause-cause : goal.returns-clause-cause
returns-clause-cause g c = absurd (unreached g c)
