use Rattle.std.proofs.Common.{arith, ◌≡◌, ◌∙◌, ap, subst, sym, inl, inr, length}
use Rattle.blic_model.specs.Circuit.{free}
use Rattle.blic_claims.proofs.Places.{rows_of_layout, row_of_layout}
use Rattle.blic_prover.specs.Fitted.{IsBinaryNode, StageFits, IsAtWork}
use Rattle.blic_prover.specs.Standing.{IsReady}
use Rattle.blic_prover.specs.declared.stage.Stage.TheVariants.{Going}
use Rattle.blic_prover.proofs.Sessions.{going_said, going_stands, drawing_refuses, fresh_refuses}
use Rattle.blic_prover.proofs.prover.Prover.go.Goals as goal

pub row-left-requires : goal.row-left-requires
row-left-requires g c =
    let inside = c.self.inside in
    let here : IsBinaryNode inside.circuit.now c.in-Going.node = subst (StageFits inside.circuit.now inside.points) c.in-Going.is c.self.invariant.at_work in
    omega (arith, rows_of_layout inside.circuit.now inside.layout.now c.self.invariant.laid_out, here.0)

pub reply-requires-clause-at_work : goal.reply-requires-clause-at_work
reply-requires-clause-at_work g c =
    let inside = c.self.inside in
    let circuit = inside.circuit.now in
    let k = c.in-Going.node in
    let here : IsBinaryNode circuit k = subst (StageFits circuit inside.points) c.in-Going.is c.self.invariant.at_work in
    let own = row_of_layout circuit inside.layout.now k c.row-left.result c.self.invariant.laid_out here.0 c.row-left.ensures in
    let width = own.width in
    let work : IsAtWork circuit inside.points k c.row-left.result.width = record { inside = here.0; binary = here.1; left = omega arith; same = λ j f lj lf ln. absurd (omega arith) } in
    subst (λ z. IsAtWork z.circuit z.points k c.row-left.result.width) c.self.view_is work

pub returns-in-Going-clause-honest : goal.returns-in-Going-clause-honest
returns-in-Going-clause-honest g c = λ p st.
    let inside = c.self.inside in
    let s = c.args.self.now in
    let k = c.in-Going.node in
    let here : IsBinaryNode inside.circuit.now k = subst (StageFits inside.circuit.now inside.points) c.in-Going.is c.self.invariant.at_work in
    let own = row_of_layout inside.circuit.now inside.layout.now k c.row-left.result c.self.invariant.laid_out here.0 c.row-left.ensures in
    let stage : s.stage ≡ Going k = sym (ap (λ z. z.stage) c.self.view_is) ∙ c.in-Going.is in
    let width : length (free s.circuit.nodes (length s.circuit.order) k) ≡ c.row-left.result.width = sym (own.width ∙ ap (λ z. length (free z.circuit.nodes (length z.circuit.order) k)) c.self.view_is) in
    going_said s p k _ stage st (λ draws t r. c.reply.ensures.honest draws t (subst (λ z. IsReady s.circuit draws t k z s.points) width r))

pub returns-in-Going-clause-stands : goal.returns-in-Going-clause-stands
returns-in-Going-clause-stands g c = λ p st.
    let inside = c.self.inside in
    let s = c.args.self.now in
    let k = c.in-Going.node in
    let here : IsBinaryNode inside.circuit.now k = subst (StageFits inside.circuit.now inside.points) c.in-Going.is c.self.invariant.at_work in
    let own = row_of_layout inside.circuit.now inside.layout.now k c.row-left.result c.self.invariant.laid_out here.0 c.row-left.ensures in
    let stage : s.stage ≡ Going k = sym (ap (λ z. z.stage) c.self.view_is) ∙ c.in-Going.is in
    let width : length (free s.circuit.nodes (length s.circuit.order) k) ≡ c.row-left.result.width = sym (own.width ∙ ap (λ z. length (free z.circuit.nodes (length z.circuit.order) k)) c.self.view_is) in
    going_stands s c.reply.new.self p k _ stage st (λ draws t r. c.reply.ensures.honest draws t (subst (λ z. IsReady s.circuit draws t k z s.points) width r))
    (λ draws t r. c.reply.ensures.stands draws t (subst (λ z. IsReady s.circuit draws t k z s.points) width r))

pub returns-in-Fresh-clause-honest : goal.returns-in-Fresh-clause-honest
returns-in-Fresh-clause-honest g c = λ p st.
    let s = c.args.self.now in
    let same = sym (ap (λ z. z.stage) c.self.view_is) in
    elim c.in-Fresh.is [
      | inl e ↦ fresh_refuses s p (same ∙ e) st
      | inr e ↦ drawing_refuses s p e.0 e.1 (same ∙ e.2) st
    ]
