-- The parts of the test of a circuit's shape.
use Rattle.std.proofs.Common.{arith, ℕ, ◌≡◌, ◌<◌, ◌≤◌, subst, List, length, get_or, Bool, true, false}
use Rattle.std.specs.List.{list_all}
use Rattle.std.proofs.lemmas.Bool.{and_parts, ltb-true, leb-true}
use Rattle.std.proofs.lemmas.List.Sums.{AllPass-from_list_all}
use Rattle.blic_model.specs.declared.node.Node.{Node}
use Rattle.blic_model.specs.declared.node.Node.TheVariants.{Const}
use Rattle.blic_model.specs.Circuit.{node_at, below}
use Rattle.blic_model.specs.Shape.{children_below, levels_below, IsShaped}
use Rattle.blic_model.specs.CircuitTables.{IsTabled, HasLevels}
use Rattle.blic_model.proofs.ChildEntries.{length_of_below, entry_of_below}

pub passes_at : {X : Type 0} (p : X → Bool) (xs : List X) (k : ℕ) (d : X) → list_all p xs ≡ true → k < length xs → p (get_or xs k d) ≡ true
passes_at p xs k d h l = AllPass-from_list_all p xs h k d l

pub passes_below : (p : ℕ → Bool) (n k : ℕ) → list_all p (below n) ≡ true → k < n → p k ≡ true
passes_below p n k h l =
    subst (λ j. p j ≡ true) (entry_of_below n k 0 l) (passes_at p (below n) k 0 h (omega (arith, length_of_below n)))

pub tabled_from_shaped : (nodes : List Node) (levels : ℕ) → IsShaped nodes levels → IsTabled nodes × HasLevels nodes levels
tabled_from_shaped nodes levels shaped =
    let seven = and_parts _ _ shaped in
    let six = and_parts _ _ seven.0 in
    let five = and_parts _ _ six.0 in
    let four = and_parts _ _ five.0 in
    let three = and_parts _ _ four.0 in
    let two = and_parts _ _ three.0 in
    let one = and_parts _ _ two.0 in (
      record {
        some = ltb-true 0 (length nodes) one.0;
        few = leb-true (length nodes) 4194304 one.1;
        children = λ k l. passes_below (λ k. children_below k (node_at nodes k)) (length nodes) k three.1 l;
      },
      record {
        few = ltb-true levels 4294967296 two.1;
        within = λ k l. passes_at (levels_below levels) nodes k (Const false) four.1 l;
      },
    )

pub tabled_from_tests : (nodes : List Node) → 0 < length nodes → length nodes ≤ 4194304 → list_all (λ k. children_below k (node_at nodes k)) (below (length nodes)) ≡ true → IsTabled nodes
tabled_from_tests nodes some few first = record {
  some = some;
  few = few;
  children = λ k l. passes_below (λ k. children_below k (node_at nodes k)) (length nodes) k first l;
}
