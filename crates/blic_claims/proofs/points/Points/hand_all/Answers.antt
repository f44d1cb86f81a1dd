use Rattle.std.proofs.Common.{arith, ◌≡◌, ◌∙◌, ◌+◌, refl, subst}
use Rattle.blic_model.specs.Counts.{claims}
use Rattle.blic_claims.specs.Elements.{HandsAll}
use Rattle.blic_claims.proofs.Handing.{row_read}
use Rattle.blic_claims.proofs.HandedAll.{hands_more}
use Rattle.blic_claims.proofs.points.Points.hand_all.Goals as goal

pub index-requires : goal.index-requires
index-requires c =
    let w = (row_read c.args.circuit.now c.self.inside.rows.items c.self.inside.elements.items c.args.self.now c.args.node c.self.view_is c.requires.points
    c.requires.node).0 in
    omega (arith, c.self.inside.rows.ok)

pub hand-requires-clause-claim : goal.hand-requires-clause-claim
hand-requires-clause-claim c =
    let w = (row_read c.args.circuit.now c.self.inside.rows.items c.self.inside.elements.items c.args.self.now c.args.node c.self.view_is c.requires.points
    c.requires.node).1 c.index.result.now c.index.ensures in
    omega arith

pub hand-requires-clause-place : goal.hand-requires-clause-place
hand-requires-clause-place c =
    let w = (row_read c.args.circuit.now c.self.inside.rows.items c.self.inside.elements.items c.args.self.now c.args.node c.self.view_is c.requires.points
    c.requires.node).1 c.index.result.now c.index.ensures in
    let room = c.requires.room in
    omega arith

pub loop-c-preserved : goal.loop-c-preserved
loop-c-preserved c =
    let w = (row_read c.args.circuit.now c.self.inside.rows.items c.self.inside.elements.items c.args.self.now c.args.node c.self.view_is c.requires.points
    c.requires.node).1 c.index.result.now c.index.ensures in
    record {
      rows = c.hand.ensures.rows ∙ c.loop-c.invariant.rows;
      points =
          hands_more c.args.circuit.now c.args.self.now c.loop-c.self c.hand.new.self c.args.node c.loop-c.c (c.loop-c.c + 1) c.args.child c.args.first c.args.fixed refl
          c.requires.points c.requires.child c.requires.node (omega arith) c.loop-c.invariant.rows c.loop-c.invariant.points c.hand.ensures.point;
    }

pub returns-clause-points : goal.returns-clause-points
returns-clause-points c =
    let w = (row_read c.args.circuit.now c.self.inside.rows.items c.self.inside.elements.items c.args.self.now c.args.node c.self.view_is c.requires.points
    c.requires.node).1 c.index.result.now c.index.ensures in
    let end : c.loop-c.c ≡ claims c.args.circuit.now.nodes c.args.node = omega arith in
    subst (λ n. HandsAll c.args.circuit.now c.args.self.now c.args.node n c.args.fixed c.args.child c.args.first c.loop-c.self) end c.loop-c.invariant.points
