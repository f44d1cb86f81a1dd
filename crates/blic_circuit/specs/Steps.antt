-- Private: one step within a clause, and a bound on the nodes of many: words for the parts of the building.
use Rattle.std.specs.Prelude.{ℕ, ◌+◌, ◌*◌, List, length, sum_by}
use Rattle.blic_model.specs.declared.node.Node.TheVariants.{Or}
use Rattle.blic_model.specs.declared.prefix.Bound.{Bound}
use Rattle.blic_model.specs.declared.formula.Lit.{Lit}
use Rattle.blic_model.specs.Building.{Added, add_node, add_literal}

-- one more literal of a clause
abbrev pub or_literal : List Bound → Added → Lit → Added
or_literal prefix so_far m = let b = add_literal prefix so_far.nodes m in add_node (Or so_far.number b.number) b.nodes

-- how many nodes the clauses add at most: three for a literal, and two for a clause
abbrev pub most_nodes : List (List Lit) → ℕ
most_nodes clauses = sum_by (λ c. 3 * length c + 2) clauses
