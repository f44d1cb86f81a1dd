use Rattle.std.proofs.Common.{refl, subst, sym, suc}
use Rattle.std.specs.Prelude.{take, IfSome}
use Rattle.blic_prover.specs.Fitted.{EndsAs, IsBinaryNode}
use Rattle.blic_prover.specs.Honest.{Running}
use Rattle.blic_prover.specs.Standing.{Proving, IsWalking, ServesAt}
use Rattle.blic_prover.proofs.Starting.{stop_ready}
use Rattle.blic_prover.proofs.prover.Prover.go_on.Goals.{in-Some, in-None}
use Rattle.blic_prover.proofs.prover.Prover.go_on.Goals as goal

pub returns-clause-stands : goal.returns-clause-stands
returns-clause-stands c = λ draws t w.
    let inside = c.self.inside in
    let circuit = inside.circuit.now in
    let points = c.walk.new.points in
    let here : IsWalking circuit draws t c.args.top inside.points = subst (λ z. IsWalking z.circuit draws t c.args.top z.points) (sym c.self.view_is) w in
    let p : Proving = record { circuit = circuit; served = inside.served; points = points; stage = c.match-walk.self; kept = take inside.count inside.polys.items } in
    elim c.match-walk.branch [
      | in-Some u ↦
          let k = u.in-Some.node in
          let ends : IsWalking circuit draws t (suc k) points = subst (EndsAs circuit draws t points) u.in-Some.is (c.walk.ensures.ends draws t here) in
          let binary : IsBinaryNode circuit k = subst (λ z. IfSome z (IsBinaryNode circuit)) u.in-Some.is c.walk.ensures.binary in
          subst (λ z. ServesAt p z (Running t draws)) (sym u.self-is) (stop_ready circuit draws t k points binary.1 ends, ends.wants_go)
      | in-None u ↦
          let ends : IsWalking circuit draws t 0 points = subst (EndsAs circuit draws t points) u.in-None.is (c.walk.ensures.ends draws t here) in
          subst (λ z. ServesAt p z (Running t draws)) (sym u.self-is) (ends.complete refl)
    ]
