-- The circuit of a formula has the shape of a circuit.
use Rattle.std.proofs.Common.{arith, ℕ, ◌≡◌, sym, ◌∙◌, ap, subst, length, false}
use Rattle.std.proofs.lemmas.List.{length-map}
use Rattle.blic_model.specs.declared.prefix.Bound.{Bound}
use Rattle.blic_model.specs.Formula.{PrenexFormula}
use Rattle.blic_model.specs.Building.{circuit_of, nodes_of}
use Rattle.blic_model.specs.Circuit.{is_free, root}
use Rattle.blic_model.specs.Limits.{IsFormula}
use Rattle.blic_model.specs.Shape.{IsShaped}
use Rattle.blic_model.proofs.Ordered.{IsOrdered-from}
use Rattle.blic_model.proofs.OfFormula.{VarsDiffer-of, closed_of, has_levels_of}
use Rattle.blic_model.proofs.FormulaCircuit.{nodes_give}
use Rattle.blic_model.proofs.FreeRoot.{nothing_free}
use Rattle.blic_model.proofs.LastNode.{nodes_last}
use Rattle.blic_model.proofs.InRange.{levels_in_range, nodes_differ}
use Rattle.blic_model.proofs.Parents.{circuit_uses}
use Rattle.blic_model.proofs.FewNodes.{few_nodes, few_levels}
use Rattle.blic_model.proofs.Shaped.{shaped}

pub root_is : (f : PrenexFormula) → IsFormula f → root (nodes_of f).nodes ≡ (nodes_of f).number
root_is f h = omega (arith, nodes_last f (VarsDiffer-of f h))

pub root_closed : (f : PrenexFormula) → IsFormula f → (x : ℕ) → is_free (nodes_of f).nodes (root (nodes_of f).nodes) x ≡ false
root_closed f h x = ap (λ k. is_free (nodes_of f).nodes k x) (root_is f h) ∙ nothing_free f (VarsDiffer-of f h) (closed_of f h) x

pub formula_shaped : (f : PrenexFormula) → IsFormula f → IsShaped (circuit_of f).nodes (length (circuit_of f).order)
formula_shaped f h =
    let last = nodes_last f (VarsDiffer-of f h) in
    let few = few_nodes f h in
    let narrow = few_levels f h in
    subst (IsShaped (nodes_of f).nodes) (sym (length-map f.prefix (λ (b : Bound). b.var)))
    (shaped (nodes_of f).nodes (length f.prefix) (omega (arith, last)) (omega (arith, few)) (omega (arith, narrow))
    (IsOrdered-from (nodes_of f).nodes (nodes_give f (VarsDiffer-of f h)).ordered) (levels_in_range f (has_levels_of f h)) (nodes_differ f (has_levels_of f h))
    (λ k l. (circuit_uses f).used k (omega arith) (omega (arith, last)) (λ e. absurd (omega (arith, last)))) (root_closed f h))
