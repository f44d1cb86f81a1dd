use Rattle.std.proofs.Common.{arith, ◌≡◌, ◌+◌, [], subst, length}
use Rattle.blic_model.proofs.Shaped.{size_of}
use Rattle.blic_prover.specs.Standing.{IsWalking}
use Rattle.blic_prover.proofs.Starting.{start_walk}
use Rattle.blic_prover.proofs.prover.Prover.start.Goals as goal

pub returns-clause-stands : goal.returns-clause-stands
returns-clause-stands g c =
    let circuit = c.self.inside.circuit.now in
    let points = c.self.inside.points in
    let size = size_of circuit.nodes (length circuit.order) c.is_within_limits.ensures.shaped in
    let e : length circuit.nodes ≡ c.root-root.result + 1 = omega (arith, size.0, c.root-root.ensures) in
    let walk : IsWalking circuit [] 0 (c.root-root.result + 1) points = subst (λ z. IsWalking circuit [] 0 z points) e (start_walk circuit points c.is_within_limits.ensures.shaped) in
    c.go_on.ensures.stands [] 0 (subst (λ z. IsWalking z.circuit [] 0 (c.root-root.result + 1) z.points) c.self.view_is walk)
