use Rattle.std.proofs.Common.{◌∙◌, ap, length}
use Rattle.blic_model.specs.Building.{circuit_of, nodes_of}
use Rattle.blic_model.specs.Value.{value}
use Rattle.blic_model.proofs.OfFormula.{VarsDiffer-of, closed_of}
use Rattle.blic_model.proofs.FormulaCircuit.{root_value}
use Rattle.blic_model.proofs.FewNodes.{few_nodes}
use Rattle.blic_model.proofs.FormulaShape.{root_is, root_closed, formula_shaped}
use Rattle.blic_model.proofs.laws.circuit_law.Goals as goal

pub returns : goal.returns
returns c = record {
  root_value = λ f h s. ap (λ k. value (nodes_of f).nodes (length (circuit_of f).order) k s) (root_is f h) ∙ root_value f (VarsDiffer-of f h) (closed_of f h) (length (circuit_of f).order) s;
  root = root_is;
  shape = formula_shaped;
  size = few_nodes;
  closed = root_closed;
}
