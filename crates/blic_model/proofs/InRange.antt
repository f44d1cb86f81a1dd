-- The levels of a formula's circuit are in range, and no two of its nodes are equal.
use Rattle.std.proofs.Common.{arith, ℕ, ◌≡◌, refl, ◌∙◌, List, [], ◌∷◌, ◌++◌, length, Bool, true, false, not, ◌&&◌, ◌||◌, eqb}
use Rattle.std.specs.Prelude.{All}
use Rattle.std.specs.List.{list_all, list_any}
use mathlib.Core.Path.{ap₂}
use Rattle.std.proofs.lemmas.Bool.{lt-ltb, and_parts}
use Rattle.std.proofs.lemmas.List.Folds.{list_all-append, list_any-append}
use Rattle.blic_model.specs.declared.node.Node.{Node}
use Rattle.blic_model.specs.declared.node.Node.TheVariants.{Const, Var, Not, Fix, And, Or}
use Rattle.blic_model.specs.Formula.{PrenexFormula}
use Rattle.blic_model.specs.Building.{same_bit, same_node, nodes_of}
use Rattle.blic_model.specs.Shape.{levels_below, all_differ}
use Rattle.blic_model.proofs.Grown.{Suits, Keeps, HasLevel, circuit_keeps}

suits_range : (levels : ℕ) (nodes : List Node) (n : Node) → Suits levels nodes n → levels_below levels n ≡ true
suits_range levels nodes (Const b) s = refl
suits_range levels nodes (Var x) s = lt-ltb x levels s
suits_range levels nodes (Not a) s = refl
suits_range levels nodes (Fix x b a) s = lt-ltb x levels s
suits_range levels nodes (And a b) s = refl
suits_range levels nodes (Or a b) s = refl

join : (a b c : Bool) → a ≡ true → b ≡ true → c ≡ (a && (b && true)) → c ≡ true
join a b c h k e = grind arith

range_keeps : (levels : ℕ) → Keeps levels (λ nodes. list_all (levels_below levels) nodes ≡ true)
range_keeps levels nodes n p s f =
    join (list_all (levels_below levels) nodes) (levels_below levels n) (list_all (levels_below levels) (nodes ++ n ∷ [])) p (suits_range levels nodes n s)
    (list_all-append (levels_below levels) nodes (n ∷ []))

pub levels_in_range : (f : PrenexFormula) → All (All (HasLevel f.prefix)) f.clauses
    → list_all (levels_below (length f.prefix)) (nodes_of f).nodes ≡ true
levels_in_range f a = circuit_keeps f a (λ nodes. list_all (levels_below (length f.prefix)) nodes ≡ true) (range_keeps (length f.prefix)) refl

same_number : (a b : ℕ) → eqb a b ≡ eqb b a
same_number a b = grind arith

same_bit_swap : (b c : Bool) → same_bit b c ≡ same_bit c b
same_bit_swap true true = refl
same_bit_swap true false = refl
same_bit_swap false true = refl
same_bit_swap false false = refl

pub same_node_swap : (m n : Node) → same_node m n ≡ same_node n m
same_node_swap (Const b) (Const c) = same_bit_swap b c
same_node_swap (Var x) (Var y) = same_number x y
same_node_swap (Not a) (Not b) = same_number a b
same_node_swap (Fix x b a) (Fix y c d) = ap₂ (λ p q. p && q) (same_number x y) (ap₂ (λ p q. p && q) (same_bit_swap b c) (same_number a d))
same_node_swap (And a b) (And c d) = ap₂ (λ p q. p && q) (same_number a c) (same_number b d)
same_node_swap (Or a b) (Or c d) = ap₂ (λ p q. p && q) (same_number a c) (same_number b d)
same_node_swap (Const b) (Var y) = refl
same_node_swap (Const b) (Not y) = refl
same_node_swap (Const b) (Fix y c d) = refl
same_node_swap (Const b) (And c d) = refl
same_node_swap (Const b) (Or c d) = refl
same_node_swap (Var x) (Const y) = refl
same_node_swap (Var x) (Not y) = refl
same_node_swap (Var x) (Fix y c d) = refl
same_node_swap (Var x) (And c d) = refl
same_node_swap (Var x) (Or c d) = refl
same_node_swap (Not x) (Const y) = refl
same_node_swap (Not x) (Var y) = refl
same_node_swap (Not x) (Fix y c d) = refl
same_node_swap (Not x) (And c d) = refl
same_node_swap (Not x) (Or c d) = refl
same_node_swap (Fix x b a) (Const y) = refl
same_node_swap (Fix x b a) (Var y) = refl
same_node_swap (Fix x b a) (Not y) = refl
same_node_swap (Fix x b a) (And c d) = refl
same_node_swap (Fix x b a) (Or c d) = refl
same_node_swap (And x b) (Const y) = refl
same_node_swap (And x b) (Var y) = refl
same_node_swap (And x b) (Not y) = refl
same_node_swap (And x b) (Fix y c d) = refl
same_node_swap (And x b) (Or c d) = refl
same_node_swap (Or x b) (Const y) = refl
same_node_swap (Or x b) (Var y) = refl
same_node_swap (Or x b) (Not y) = refl
same_node_swap (Or x b) (Fix y c d) = refl
same_node_swap (Or x b) (And c d) = refl

differ_push : (nodes : List Node) (n : Node) → all_differ nodes ≡ true → list_any (same_node n) nodes ≡ false → all_differ (nodes ++ n ∷ []) ≡ true
differ_push [] n d f = refl
differ_push (m ∷ ms) n d f =
    let w = and_parts (not (list_any (same_node m) ms)) (all_differ ms) d in
    let v = neither (same_node n m) (list_any (same_node n) ms) f in
    together (list_any (same_node m) ms) (same_node m n) (list_any (same_node m) (ms ++ n ∷ [])) (all_differ (ms ++ n ∷ [])) w.0 (same_node_swap m n ∙ v.0)
    (list_any-append (same_node m) ms (n ∷ [])) (differ_push ms n w.1 v.1)
  where
    neither : (a b : Bool) → (a || b) ≡ false → (a ≡ false) × (b ≡ false)
    neither a b h = grind arith

    together : (a b c e : Bool) → not a ≡ true → b ≡ false → c ≡ (a || (b || false)) → e ≡ true → (not c && e) ≡ true
    together a b c e h k q r = grind arith

pub nodes_differ : (f : PrenexFormula) → All (All (HasLevel f.prefix)) f.clauses → all_differ (nodes_of f).nodes ≡ true
nodes_differ f a = circuit_keeps f a (λ nodes. all_differ nodes ≡ true) (λ nodes n p s h. differ_push nodes n p h) refl
