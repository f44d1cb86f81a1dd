-- What the parts of a formula's problem are.
use Rattle.std.proofs.Common.{◌≡◌, ℕ, refl, length, List}
use Rattle.sha2.specs.Sha256.{sha256}
use Rattle.blic_model.specs.Formula.{PrenexFormula}
use Rattle.blic_model.specs.Limits.{IsFormula}
use Rattle.blic_model.specs.Truth.{truth}
use Rattle.blic_model.specs.Building.{circuit_of}
use Rattle.blic_model.specs.Laws.{RootValueIsTruth}
use Rattle.blic_model.specs.Value.{RootIs}
use Rattle.blic_model.specs.Refusals.{IsCause as IsCircuitCause}
use Rattle.blic_model.specs.declared.circuit.CircuitError.{CircuitError}
use Rattle.blic_qdimacs.specs.Text.{canonical_text}
use Rattle.blic_input.specs.Problem.{problem_of, hello_by}
use Rattle.blic_input.specs.Stops.{IsBuildingCause}

pub problem_truth : (f : PrenexFormula) → (problem_of f).truth ≡ truth f
unfolding problem_of
problem_truth f = refl

pub problem_circuit : (f : PrenexFormula) → (problem_of f).circuit ≡ circuit_of f
unfolding problem_of
problem_circuit f = refl

pub problem_vars : (f : PrenexFormula) → (problem_of f).vars ≡ f.vars
unfolding problem_of
problem_vars f = refl

pub problem_clauses : (f : PrenexFormula) → (problem_of f).clauses ≡ length f.clauses
unfolding problem_of
problem_clauses f = refl

-- its root is its truth
pub problem_root : (f : PrenexFormula) → IsFormula f → RootValueIsTruth → RootIs (problem_of f).circuit (problem_of f).truth
unfolding problem_of
problem_root f formula law = law f formula

-- the cause of a refusal of its circuit
pub problem_cause : (f : PrenexFormula) (error : CircuitError) → IsCircuitCause (circuit_of f).nodes (length (circuit_of f).order) error → IsBuildingCause (problem_of f) error
unfolding problem_of
problem_cause f error cause = cause

-- what names it
pub problem_hello : (f : PrenexFormula) (digest : List ℕ) → digest ≡ sha256 (canonical_text f) → record { wire = 1; circuit = 1; order = 0; digest = digest } ≡ hello_by (problem_of f)
unfolding problem_of
problem_hello f digest e = λ i. record { wire = 1; circuit = 1; order = 0; digest = e i }
