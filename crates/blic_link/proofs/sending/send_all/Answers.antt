use Rattle.std.proofs.Common.{length-drop, length-take, List, [], ◌∷◌, ◌++◌, length, take, drop, ◌-◌, refl, sym, ap, ◌∙◌, arith}
use Rattle.std.proofs.lemmas.List.{take_all}
use Rattle.blic_link.specs.Passing.{Piece, Went, with_pieces}
use Rattle.blic_link.proofs.Joined.{with_none, with_pieces-append, sends_more}
use Rattle.blic_link.proofs.sending.send_all.Goals as goal

pub loop-done-init : goal.loop-done-init
loop-done-init g c = (omega arith, c.requires.usable, refl, refl, ([], sym (with_none _), (refl, refl)))

pub loop-done-preserved : goal.loop-done-preserved
loop-done-preserved g c =
    let so_far = c.loop-done.invariant.4 in
    let took = c.in-Took.ensures.bytes in
    let went : List Piece = Went (take c.in-Took.n (take (length c.args.bytes.now - c.loop-done.done) (drop c.loop-done.done c.args.bytes.now))) ∷ [] in (
      omega (arith, length-drop c.loop-done.done c.args.bytes.now, length-take (length c.args.bytes.now - c.loop-done.done) (drop c.loop-done.done c.args.bytes.now), took.1, c.loop-done.invariant.0),
      c.send.ensures.same ∙ c.loop-done.invariant.1,
      c.send.ensures.same_coming ∙ c.loop-done.invariant.2,
      c.in-Took.ensures.cause ∙ c.loop-done.invariant.3,
      (
        so_far.0 ++ went,
        took.2 ∙ ap (λ told. with_pieces told went) so_far.1 ∙ with_pieces-append (g.K.Link.pieces c.args.link.now) so_far.0 went,
        sends_more so_far.0 c.args.bytes.now c.loop-done.done c.in-Took.n so_far.2,
      ),
    )

pub returns-in-Failed-clause-pieces : goal.returns-in-Failed-clause-pieces
returns-in-Failed-clause-pieces g c =
    let so_far = c.loop-done.invariant.4 in
    (so_far.0, c.in-Failed.ensures.bytes ∙ so_far.1, (c.loop-done.done, omega (arith, c.loop-done-test), so_far.2))

pub returns-clause-pieces : goal.returns-clause-pieces
returns-clause-pieces g c =
    let so_far = c.loop-done.invariant.4 in
    (so_far.0, so_far.1, (so_far.2.0, so_far.2.1 ∙ take_all c.loop-done.done c.args.bytes.now (omega (arith, c.loop-done-test.false))))
