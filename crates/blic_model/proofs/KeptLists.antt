-- The free levels that a circuit stores.
use Rattle.std.proofs.Common.{arith, ℕ, ◌≡◌, ◌<◌, sym, ◌∙◌, ap, subst, List, [], length, get_or}
use Rattle.blic_model.specs.declared.node.Node.{Node}
use Rattle.blic_model.specs.Circuit.{OrderedCircuit, free}
use Rattle.blic_model.specs.Shape.{IsShaped}
use Rattle.blic_model.specs.CircuitTables.{IsTabled, HasLevels, IsKept}
use Rattle.blic_model.proofs.FreeLists.{entry_of_lists, length_of_lists}
use Rattle.blic_model.proofs.FreeCounts.{few_free}
use Rattle.blic_model.proofs.ShapedParts.{tabled_from_shaped}

pub kept_long : (nodes : List Node) (levels : ℕ) (stored : List (List ℕ)) → IsKept nodes levels stored → length stored ≡ length nodes
kept_long nodes levels stored k = ap length k.lists ∙ length_of_lists nodes levels (length nodes)

pub kept_at : (nodes : List Node) (levels : ℕ) (stored : List (List ℕ)) (i : ℕ) → IsKept nodes levels stored → i < length nodes → get_or stored i [] ≡ free nodes levels i
kept_at nodes levels stored i k l = ap (λ ls. get_or ls i []) k.lists ∙ entry_of_lists nodes levels (length nodes) i l

-- the same, seen through the circuit
pub seen_at : (nodes : List Node) (order : List ℕ) (version : ℕ) (circuit : OrderedCircuit) (stored : List (List ℕ)) (i : ℕ)
    → ◌≡◌ {A = OrderedCircuit} (record { nodes = nodes; order = order; version = version }) circuit → IsKept nodes (length order) stored → i < length circuit.nodes
    → (i < length stored) × (get_or stored i [] ≡ free circuit.nodes (length circuit.order) i) × (length (get_or stored i []) < 4294967296)
seen_at nodes order version circuit stored i view k l =
    let m : i < length nodes = omega (arith, ap (λ c. length c.nodes) view) in (
      omega (arith, kept_long nodes (length order) stored k),
      kept_at nodes (length order) stored i k m ∙ ap (λ c. free c.nodes (length c.order) i) view,
      omega (arith, ap length (kept_at nodes (length order) stored i k m), few_free nodes (length order) i, (tabled_from_shaped nodes (length order) k.shaped).1.few),
    )

pub tabled_read : (nodes read : List Node) (levels : ℕ) → IsShaped nodes levels → read ≡ nodes → IsTabled read
tabled_read nodes read levels shaped e = subst IsTabled (sym e) (tabled_from_shaped nodes levels shaped).0

pub levels_read : (nodes read : List Node) (levels : ℕ) → IsShaped nodes levels → read ≡ nodes → (most : ℕ) × HasLevels read most
levels_read nodes read levels shaped e = (levels, subst (λ ns. HasLevels ns levels) (sym e) (tabled_from_shaped nodes levels shaped).1)
