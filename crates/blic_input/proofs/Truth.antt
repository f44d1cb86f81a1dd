-- From a solved circuit to the truth of the formula.
use Rattle.std.proofs.Common.{◌≡◌, ℕ, ◌<◌, Bool, true, false, List, Some, refl, sym, ◌∙◌, ap, subst, length}
use Rattle.blic_model.specs.declared.node.Node.{Node}
use Rattle.blic_model.specs.Formula.{PrenexFormula}
use Rattle.blic_model.specs.Truth.{truth}
use Rattle.blic_model.specs.Limits.{IsFormula}
use Rattle.blic_model.specs.Building.{circuit_of}
use Rattle.blic_model.specs.Circuit.{OrderedCircuit, root}
use Rattle.blic_model.specs.Shape.{IsShaped}
use Rattle.blic_model.specs.Value.{bit, holds}
use Rattle.blic_model.specs.Order.{IsOrdered}
use Rattle.blic_model.specs.Laws.{RootValueIsTruth, ValueIsBoolean}
use Rattle.blic_solve.specs.Plan.{IsWithin}
use Rattle.blic_input.specs.Problem.{Problem}
use Rattle.blic_input.specs.declared.problem.SolveLimits.{SolveLimits}
use Rattle.blic_input.specs.Stops.{IsSolvable}

-- a bit tells its truth value
same_bit : (a b : Bool) → bit a ≡ bit b → a ≡ b
same_bit true true same = refl
same_bit false false same = refl
same_bit true false same = cc
same_bit false true same = cc

-- the Boolean value of the root of a formula's circuit is the formula's truth
root_holds : (f : PrenexFormula) → IsFormula f → RootValueIsTruth → ValueIsBoolean → IsOrdered (circuit_of f).nodes
    → (a : ℕ → Bool) → holds (circuit_of f).nodes (root (circuit_of f).nodes) a ≡ truth f
root_holds f formula root_value boolean ordered a =
    same_bit _ _ (sym (boolean (circuit_of f).nodes (length (circuit_of f).order) ordered (root (circuit_of f).nodes) a) ∙ root_value f formula (λ x. bit (a x)))

-- the root's value of the formula's circuit is the formula's truth
pub answer_is_truth : (f : PrenexFormula) (c : OrderedCircuit) (answer : Bool) → c ≡ circuit_of f → IsFormula f → RootValueIsTruth → ValueIsBoolean
    → ((nodes : List Node) (levels : ℕ) → IsShaped nodes levels → IsOrdered nodes)
    → ((g : PrenexFormula) → IsFormula g → IsShaped (circuit_of g).nodes (length (circuit_of g).order))
    → ((a : ℕ → Bool) → answer ≡ holds c.nodes (root c.nodes) a)
    → answer ≡ truth f
answer_is_truth f c answer same formula root_value boolean ordered shaped tells =
    tells (λ x. false) ∙ (ap (λ (d : OrderedCircuit). holds d.nodes (root d.nodes) (λ x. false)) same
    ∙ root_holds f formula root_value boolean (ordered (circuit_of f).nodes (length (circuit_of f).order) (shaped f formula)) (λ x. false))

-- a circuit that was solved within the limits can be
pub solvable_by : (p : Problem) (c : OrderedCircuit) (limits : SolveLimits) → c ≡ p.circuit
    → ((k : ℕ) → k < length c.nodes → IsWithin c.nodes (length c.order) limits.nodes limits.pairs k) → IsSolvable p (Some limits)
solvable_by p c limits same within =
    subst (λ (d : OrderedCircuit). (k : ℕ) → k < length d.nodes → IsWithin d.nodes (length d.order) limits.nodes limits.pairs k) same within
