use Rattle.std.proofs.Common.{arith, suc, ◌≡◌, ◌∙◌, ◌-◌, ap, subst, length}
use Rattle.blic_messages.specs.Replies.{said}
use Rattle.blic_verifier.specs.Verdict.{Talk, next_after, next_of}
use Rattle.blic_verifier.specs.Standing.{Verifying, HoldsFor}
use Rattle.blic_verifier.specs.declared.next.Next.TheVariants.{WrongKind}
use Rattle.blic_verifier.specs.declared.stage.Stage.TheVariants.{Ready}
use Rattle.blic_verifier.proofs.WrongKinds.{no_values, no_polys}
use Rattle.blic_verifier.proofs.verifier.Verifier.judge.Goals as goal

pub returns-in_default-reply-clause-says : goal.returns-in_default-reply-clause-says
returns-in_default-reply-clause-says g c = λ _ t st.
    let inside = c.self.inside in
    let s : Verifying = record { circuit = inside.circuit.now; points = inside.held.points; values = inside.held.values.items; polys = inside.polys.items; stage = inside.stage; answer = inside.answer; turn = inside.turn } in
    let ready : s.stage ≡ Ready c.in-Ready.node 0 = c.in-Ready.is ∙ ap (Ready c.in-Ready.node) c.if-left-eq0.true in
    c.wrong_kind-in_default-reply.ensures.says
    ∙ (subst (λ z. (t : Talk) → HoldsFor z t → WrongKind z.turn ≡ next_of (next_after z.circuit.nodes (length z.circuit.order) t (said c.args.reply.now))) c.self.view_is
    (no_values s c.in-Ready.node c.args.reply.now ready c.in_default-reply.not-Values)) t st

pub returns-in_default-reply-2-clause-says : goal.returns-in_default-reply-2-clause-says
returns-in_default-reply-2-clause-says g c = λ _ t st.
    let inside = c.self.inside in
    let s : Verifying = record { circuit = inside.circuit.now; points = inside.held.points; values = inside.held.values.items; polys = inside.polys.items; stage = inside.stage; answer = inside.answer; turn = inside.turn } in
    let some = c.if-left-eq0.false in
    let left : c.in-Ready.left ≡ suc (c.in-Ready.left - 1) = omega arith in
    let ready : s.stage ≡ Ready c.in-Ready.node (suc (c.in-Ready.left - 1)) = c.in-Ready.is ∙ ap (Ready c.in-Ready.node) left in
    c.wrong_kind-in_default-reply-2.ensures.says
    ∙ (subst (λ z. (t : Talk) → HoldsFor z t → WrongKind z.turn ≡ next_of (next_after z.circuit.nodes (length z.circuit.order) t (said c.args.reply.now))) c.self.view_is
    (no_polys s c.in-Ready.node (c.in-Ready.left - 1) c.args.reply.now ready c.in_default-reply-2.not-Polys)) t st
