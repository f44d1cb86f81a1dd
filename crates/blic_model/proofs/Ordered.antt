-- Children that have smaller numbers, as facts, and induction on the numbers of nodes.
use Rattle.std.proofs.Common.{arith, ℕ, zero, suc, ◌≡◌, ◌<◌, refl, sym, subst, inl, inr, List, length, ltb, true, false}
use Rattle.std.proofs.lemmas.Bool.{cases_lt, ltb-true, lt-ltb, and_parts, and_from}
use Rattle.std.proofs.lemmas.List.{get_or_past}
use Rattle.blic_model.specs.declared.node.Node.{Node}
use Rattle.blic_model.specs.declared.node.Node.TheVariants.{Const, Var, Not, Fix, And, Or}
use Rattle.blic_model.specs.Circuit.{node_at}
use Rattle.blic_model.specs.Shape.{children_below}
use Rattle.blic_model.specs.Order.{IsOrdered}

abbrev pub ChildrenBelow : ℕ → Node → Type 0
ChildrenBelow k (Const b) = Unit {0}
ChildrenBelow k (Var x) = Unit {0}
ChildrenBelow k (Not a) = a < k
ChildrenBelow k (Fix x b a) = a < k
ChildrenBelow k (And a b) = (a < k) × (b < k)
ChildrenBelow k (Or a b) = (a < k) × (b < k)

-- every number's node has smaller children, past the end of the list too
abbrev pub AllOrdered : List Node → Type 0
AllOrdered nodes = (k : ℕ) → ChildrenBelow k (node_at nodes k)

pub ChildrenBelow-from_test : (k : ℕ) (n : Node) → children_below k n ≡ true → ChildrenBelow k n
ChildrenBelow-from_test k (Const b) h = tt
ChildrenBelow-from_test k (Var x) h = tt
ChildrenBelow-from_test k (Not a) h = ltb-true a k h
ChildrenBelow-from_test k (Fix x b a) h = ltb-true a k h
ChildrenBelow-from_test k (And a b) h = let w = and_parts (ltb a k) (ltb b k) h in (ltb-true a k w.0, ltb-true b k w.1)
ChildrenBelow-from_test k (Or a b) h = let w = and_parts (ltb a k) (ltb b k) h in (ltb-true a k w.0, ltb-true b k w.1)

pub children_below-from : (k : ℕ) (n : Node) → ChildrenBelow k n → children_below k n ≡ true
children_below-from k (Const b) h = refl
children_below-from k (Var x) h = refl
children_below-from k (Not a) h = lt-ltb a k h
children_below-from k (Fix x b a) h = lt-ltb a k h
children_below-from k (And a b) h = and_from (ltb a k) (ltb b k) (lt-ltb a k h.0) (lt-ltb b k h.1)
children_below-from k (Or a b) h = and_from (ltb a k) (ltb b k) (lt-ltb a k h.0) (lt-ltb b k h.1)

-- the children of each node of the list are smaller
abbrev pub AreOrdered : List Node → Type 0
AreOrdered nodes = (k : ℕ) → k < length nodes → ChildrenBelow k (node_at nodes k)

pub AreOrdered-from_test : (nodes : List Node) → IsOrdered nodes → AreOrdered nodes
AreOrdered-from_test nodes o k l = ChildrenBelow-from_test k (node_at nodes k) (o k l)

pub IsOrdered-from : (nodes : List Node) → AreOrdered nodes → IsOrdered nodes
IsOrdered-from nodes o k l = children_below-from k (node_at nodes k) (o k l)

pub all_ordered : (nodes : List Node) → AreOrdered nodes → AllOrdered nodes
all_ordered nodes o k = elim (cases_lt k (length nodes)) [
  | inl l ↦ o k l
  | inr l ↦ subst (λ m. ChildrenBelow k m) (sym (get_or_past nodes k (Const false) l)) tt
]

pub ordered_all : (nodes : List Node) → IsOrdered nodes → AllOrdered nodes
ordered_all nodes o = all_ordered nodes (AreOrdered-from_test nodes o)

strong_upto : (P : ℕ → Type 0) → ((k : ℕ) → ((j : ℕ) → j < k → P j) → P k) → (n k : ℕ) → k < n → P k
strong_upto P step zero k l = absurd (omega arith)
strong_upto P step (suc n) k l = step k (λ j h. strong_upto P step n j (omega arith))

-- what holds of a number where it holds of each smaller one
pub strong : (P : ℕ → Type 0) → ((k : ℕ) → ((j : ℕ) → j < k → P j) → P k) → (k : ℕ) → P k
strong P step k = strong_upto P step (suc k) k (omega arith)
