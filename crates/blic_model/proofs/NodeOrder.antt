-- The order of nodes finds equal nodes.
use Rattle.std.proofs.Common.{arith, ℕ, ◌≡◌, refl, ◌∙◌, Bool, true, false, ◌==◌, ◌&&◌, Ordering, Less, Equal, Greater}
use mathlib.Core.Path.{ap₂}
use Rattle.std.specs.Ordering.{is_eq, eq_by_cmp, ordering_then, nat_cmp, bool_cmp}
use Rattle.std.proofs.lemmas.Bool.Decides.{nat_tests}
use Rattle.blic_model.specs.declared.node.Node.{Node}
use Rattle.blic_model.specs.declared.node.Node.TheVariants.{Const, Var, Not, Fix, And, Or}
use Rattle.blic_model.specs.Building.{same_bit, same_node}
use Rattle.blic_model.specs.contracts.node.NodeOrd.TheImpl.{cmp-value}

equal_then : (o p : Ordering) → is_eq (ordering_then o p) ≡ (is_eq o && is_eq p)
equal_then Less p = refl
equal_then Equal p = refl
equal_then Greater p = refl

equal_numbers : (a b : ℕ) → is_eq (nat_cmp a b) ≡ (a == b)
equal_numbers a b = grind (arith, nat_tests)

equal_bits : (b c : Bool) → is_eq (bool_cmp b c) ≡ same_bit b c
equal_bits true true = refl
equal_bits true false = refl
equal_bits false true = refl
equal_bits false false = refl

equal_pairs : (a b c d : ℕ) → is_eq (ordering_then (nat_cmp a c) (nat_cmp b d)) ≡ ((a == c) && (b == d))
equal_pairs a b c d = equal_then (nat_cmp a c) (nat_cmp b d) ∙ ap₂ (λ x y. x && y) (equal_numbers a c) (equal_numbers b d)

-- two nodes compare as equal where they are
pub equal_nodes : (n m : Node) → eq_by_cmp cmp-value.it n m ≡ same_node n m
equal_nodes (Const b) (Const c) = equal_bits b c
equal_nodes (Var x) (Var y) = equal_numbers x y
equal_nodes (Not a) (Not b) = equal_numbers a b
equal_nodes (Fix x b a) (Fix y c d) =
    equal_then (nat_cmp x y) (ordering_then (bool_cmp b c) (nat_cmp a d))
    ∙ ap₂ (λ p q. p && q) (equal_numbers x y) (equal_then (bool_cmp b c) (nat_cmp a d) ∙ ap₂ (λ p q. p && q) (equal_bits b c) (equal_numbers a d))
equal_nodes (And a b) (And c d) = equal_pairs a b c d
equal_nodes (Or a b) (Or c d) = equal_pairs a b c d
equal_nodes n m = refl

numbers_swap : (a b : ℕ) → (a == b) ≡ (b == a)
numbers_swap a b = grind (arith, nat_tests)

bits_swap : (b c : Bool) → same_bit b c ≡ same_bit c b
bits_swap true true = refl
bits_swap true false = refl
bits_swap false true = refl
bits_swap false false = refl

pub same_node_swap : (n m : Node) → same_node n m ≡ same_node m n
same_node_swap (Const b) (Const c) = bits_swap b c
same_node_swap (Var x) (Var y) = numbers_swap x y
same_node_swap (Not a) (Not b) = numbers_swap a b
same_node_swap (Fix x b a) (Fix y c d) = ap₂ (λ p q. p && q) (numbers_swap x y) (ap₂ (λ p q. p && q) (bits_swap b c) (numbers_swap a d))
same_node_swap (And a b) (And c d) = ap₂ (λ p q. p && q) (numbers_swap a c) (numbers_swap b d)
same_node_swap (Or a b) (Or c d) = ap₂ (λ p q. p && q) (numbers_swap a c) (numbers_swap b d)
same_node_swap n m = refl
