-- How many products of elements an answer takes.
use Rattle.std.specs.Prelude.{ℕ, ◌+◌, ◌*◌, length}
use Rattle.blic_model.specs.Circuit.{OrderedCircuit, root}
use Rattle.blic_model.specs.Subfunctions.{size, pairs_of}

-- those for one claim on a node, at most: four for each subfunction of the circuit's nodes and for each pair of the node's operands
abbrev pub most_products : OrderedCircuit → ℕ → ℕ
most_products c k = 4 * (size c.nodes (length c.order) (root c.nodes) + pairs_of c.nodes (length c.order) k)
