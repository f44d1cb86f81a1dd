use Rattle.std.proofs.Common.{◌∷◌, [], ◌++◌, refl, subst, sym}
use Rattle.std.specs.Prelude.{take}
use Rattle.blic_messages.specs.declared.ask.Ask.TheVariants.{Hello, Go, Draw, Bye}
use Rattle.blic_prover.specs.Honest.{progress, Ended}
use Rattle.blic_prover.specs.Standing.{Proving, ServesFor}
use Rattle.blic_prover.specs.declared.stage.Stage.TheVariants.{Over}
use Rattle.blic_prover.proofs.Sessions.{stands_after, bye_ended, bye_stands}
use Rattle.blic_prover.proofs.prover.Prover.step.Goals as goal

pub returns-in-Hello-clause-stands : goal.returns-in-Hello-clause-stands
returns-in-Hello-clause-stands g c = λ asks st.
    let s = c.args.self.now in
    let p = progress s.circuit s.served asks in
    subst (λ z. ServesFor c.hello.new.self (asks ++ z ∷ [])) (sym c.in-Hello.is)
    (stands_after s c.hello.new.self asks (Hello c.in-Hello.asked) _ c.hello.ensures.circuit c.hello.ensures.served (c.hello.ensures.honest p st) (c.hello.ensures.stands p st))

pub returns-in-Go-clause-stands : goal.returns-in-Go-clause-stands
returns-in-Go-clause-stands g c = λ asks st.
    let s = c.args.self.now in
    let p = progress s.circuit s.served asks in
    subst (λ z. ServesFor c.go.new.self (asks ++ z ∷ [])) (sym c.in-Go.is)
    (stands_after s c.go.new.self asks Go _ c.go.ensures.circuit c.go.ensures.served (c.go.ensures.honest p st) (c.go.ensures.stands p st))

pub returns-in-Draw-clause-stands : goal.returns-in-Draw-clause-stands
returns-in-Draw-clause-stands g c = λ asks st.
    let s = c.args.self.now in
    let p = progress s.circuit s.served asks in
    subst (λ z. ServesFor c.drawn.new.self (asks ++ z ∷ [])) (sym c.in-Draw.is)
    (stands_after s c.drawn.new.self asks (Draw c.in-Draw.r) _ c.drawn.ensures.circuit c.drawn.ensures.served (c.drawn.ensures.honest p st) (c.drawn.ensures.stands p st))

pub returns-in-Bye-clause-stands : goal.returns-in-Bye-clause-stands
returns-in-Bye-clause-stands g c = λ asks st.
    let inside = c.self.inside in
    let s : Proving = record { circuit = inside.circuit.now; served = inside.served; points = inside.points; stage = inside.stage; kept = take inside.count inside.polys.items } in
    let n : Proving = record { circuit = inside.circuit.now; served = inside.served; points = inside.points; stage = Over; kept = take inside.count inside.polys.items } in
    let p = progress s.circuit s.served asks in
    subst (λ z. ServesFor n (asks ++ z ∷ [])) (sym c.in-Bye.is)
    (stands_after s n asks Bye Ended refl refl (bye_ended s.circuit s.served p) (bye_stands n p refl))
