use Rattle.std.proofs.Common.{arith, ◌∙◌, sym, subst}
use Rattle.blic_claims.specs.Points.{IsPlace}
use Rattle.blic_claims.proofs.LayoutRows.{place_from}
use Rattle.blic_plain.proofs.StoredPoints.{stored_here, stored_elsewhere}
use Rattle.blic_plain.proofs.chain.stored_at.Goals as goal

pub coordinate-requires : goal.coordinate-requires
coordinate-requires c =
    subst (λ rows. IsPlace rows c.args.node c.args.claim c.loop-j.j) (sym c.requires.points)
    (place_from c.args.circuit.now c.args.node c.args.claim c.loop-j.j c.requires.node c.requires.claim (omega arith))

pub returns-then-free_at-level : goal.returns-then-free_at-level
returns-then-free_at-level c =
    c.coordinate.ensures
    ∙ stored_here c.args.circuit.now c.args.points.now c.args.node c.args.claim c.args.level c.loop-j.j (omega arith) c.loop-j.invariant (cc)

pub returns : goal.returns
returns c =
    stored_elsewhere c.args.circuit.now c.args.points.now c.args.node c.args.claim c.args.level
    (λ i l e. c.loop-j.invariant i (omega arith) e)
