use Rattle.std.proofs.Common.{arith, suc, ◌<◌, ◌∙◌, ap, subst, sym, inl, inr, length}
use Rattle.std.specs.Prelude.{take}
use Rattle.blic_claims.specs.Places.{row_at}
use Rattle.blic_claims.proofs.Rows.{is_row, length-rows}
use Rattle.blic_prover.specs.Fitted.{StageFits, IsAtWork}
use Rattle.blic_prover.specs.Honest.{move_at}
use Rattle.blic_prover.specs.Standing.{GoesOnAt, Proving, ServesAt}
use Rattle.blic_prover.specs.declared.stage.Stage.TheVariants.{Drawing}
use Rattle.blic_messages.specs.declared.ask.Ask.TheVariants.{Draw}
use Rattle.blic_prover.proofs.Drawing.{work_drawn, work_above}
use Rattle.blic_prover.proofs.Sessions.{drawn_said, drawn_stands, going_refuses, fresh_refuses_draw}
use Rattle.blic_prover.proofs.prover.Prover.drawn.Goals as goal

pub draw-requires-clause-node : goal.draw-requires-clause-node
draw-requires-clause-node g c =
    let inside = c.self.inside in
    let work : IsAtWork inside.circuit.now inside.points c.in-Drawing.node (suc c.in-Drawing.level) = subst (StageFits inside.circuit.now inside.points) c.in-Drawing.is c.self.invariant.at_work in
    omega (arith, length-rows inside.circuit.now, ap length c.self.invariant.same_rows, work.inside)

pub draw-requires-clause-level : goal.draw-requires-clause-level
draw-requires-clause-level g c =
    let inside = c.self.inside in
    let k = c.in-Drawing.node in
    let work : IsAtWork inside.circuit.now inside.points k (suc c.in-Drawing.level) = subst (StageFits inside.circuit.now inside.points) c.in-Drawing.is c.self.invariant.at_work in
    let own = is_row inside.circuit.now k work.inside in
    let width = own.width in
    let left = work.left in
    subst (λ z. c.in-Drawing.level < (row_at z k).width) (sym c.self.invariant.same_rows) (omega arith)

pub invariant_of-self : goal.invariant_of-self
invariant_of-self g c =
    let inside = c.self.inside in
    let circuit = inside.circuit.now in
    let k = c.in-Drawing.node in
    let i = c.in-Drawing.level in
    let inv = c.self.invariant in
    let work : IsAtWork circuit inside.points k (suc i) = subst (StageFits circuit inside.points) c.in-Drawing.is inv.at_work in
    record {
      laid_out = inv.laid_out;
      few = inv.few;
      same_rows = c.draw.ensures.rows ∙ inv.same_rows;
      most = inv.most;
      within = inv.within;
      at_work = subst (StageFits circuit c.draw.new.self) (sym c.in-Drawing.is) (work_above circuit c.draw.new.self k i work.left (work_drawn circuit inside.points c.draw.new.self k i c.args.r inv.same_rows c.draw.ensures.drawn work));
    }

pub reply-requires-clause-at_work : goal.reply-requires-clause-at_work
reply-requires-clause-at_work g c =
    let inside = c.self.inside in
    let circuit = inside.circuit.now in
    let k = c.in-Drawing.node in
    let i = c.in-Drawing.level in
    let inv = c.self.invariant in
    let work : IsAtWork circuit inside.points k (suc i) = subst (StageFits circuit inside.points) c.in-Drawing.is inv.at_work in
    work_drawn circuit inside.points c.draw.new.self k i c.args.r inv.same_rows c.draw.ensures.drawn work

pub returns-in-Drawing-clause-honest : goal.returns-in-Drawing-clause-honest
returns-in-Drawing-clause-honest g c = λ p st.
    let inside = c.self.inside in
    let s : Proving = record { circuit = inside.circuit.now; served = inside.served; points = inside.points; stage = inside.stage; kept = take inside.count inside.polys.items } in
    let here : ServesAt s s.stage p = subst (λ z. ServesAt z z.stage p) (sym c.self.view_is) st in
    drawn_said s p c.in-Drawing.node c.in-Drawing.level c.args.r c.draw.new.self _ c.in-Drawing.is here c.self.invariant.same_rows c.draw.ensures.drawn c.reply.ensures.honest
    ∙ ap (λ z. move_at z.circuit z.served p (Draw c.args.r)) c.self.view_is

pub returns-in-Drawing-clause-stands : goal.returns-in-Drawing-clause-stands
returns-in-Drawing-clause-stands g c = λ p st.
    let inside = c.self.inside in
    let s : Proving = record { circuit = inside.circuit.now; served = inside.served; points = inside.points; stage = inside.stage; kept = take inside.count inside.polys.items } in
    let here : ServesAt s s.stage p = subst (λ z. ServesAt z z.stage p) (sym c.self.view_is) st in
    drawn_stands s c.reply.new.self p c.in-Drawing.node c.in-Drawing.level c.args.r c.draw.new.self _ c.in-Drawing.is here c.self.invariant.same_rows c.draw.ensures.drawn c.reply.ensures.honest c.reply.ensures.stands

pub returns-in-Fresh-clause-honest : goal.returns-in-Fresh-clause-honest
returns-in-Fresh-clause-honest g c = λ p st.
    let s = c.args.self.now in
    let same = sym (ap (λ z. z.stage) c.self.view_is) in
    elim c.in-Fresh.is [
      | inl e ↦ fresh_refuses_draw s p c.args.r (same ∙ e) st
      | inr e ↦ going_refuses s p e.0 c.args.r (same ∙ e.1) st
    ]

pub reply-requires-clause-on : goal.reply-requires-clause-on
reply-requires-clause-on g c = λ _.
    let inside = c.self.inside in
    let answered = g.A.Answers.goes_on c.args.answers.now in
    let here : GoesOnAt answered inside.points inside.stage = subst (λ z. GoesOnAt answered z.points z.stage) (sym c.self.view_is) c.requires.goes_on in
    let drawing : GoesOnAt answered inside.points (Drawing c.in-Drawing.node c.in-Drawing.level) = subst (GoesOnAt answered inside.points) c.in-Drawing.is here in
    drawing c.args.r c.draw.new.self c.draw.ensures.rows c.draw.ensures.drawn
