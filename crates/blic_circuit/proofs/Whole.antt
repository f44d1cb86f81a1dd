-- The matrix and then the levels: the nodes of the formula.
use Rattle.std.proofs.Common.{◌≡◌, ℕ, List, [], length, ap, ◌∙◌}
use Rattle.blic_model.specs.declared.node.Node.{Node}
use Rattle.blic_model.specs.Formula.{PrenexFormula}
use Rattle.blic_model.specs.Building.{Added, add_matrix, add_levels, nodes_of}
use Rattle.blic_circuit.proofs.Literals.{added}

pub nodes_whole : (f : PrenexFormula) (start matrix whole items : List Node) (number last : ℕ) → start ≡ [] → added matrix number ≡ add_matrix f.prefix (length f.clauses) start f.clauses
    → added whole last ≡ add_levels 0 f.prefix f.clauses (added matrix number) → items ≡ whole → items ≡ (nodes_of f).nodes
unfolding nodes_of
nodes_whole f start matrix whole items number last empty by_matrix by_levels given =
    given
    ∙ ap (λ (w : Added). w.nodes)
    (by_levels ∙ ap (add_levels 0 f.prefix f.clauses) (by_matrix ∙ ap (λ nodes. add_matrix f.prefix (length f.clauses) nodes f.clauses) empty))
