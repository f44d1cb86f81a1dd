-- The circuit of a formula. Level k of its order is entry k of the prefix.
use Rattle.std.specs.Prelude.{ℕ, zero, suc, ◌+◌, ◌/◌, Bool, true, false, cond, not, ◌&&◌, ◌==◌, nat_lt, List, [], ◌∷◌, ◌++◌, fold, length, take, drop, map}
use Rattle.std.specs.List.{list_any, position_or_len}
use Rattle.blic_model.specs.declared.node.Node.{Node}
use Rattle.blic_model.specs.declared.node.Node.TheVariants.{Const, Var, Not, Fix, And, Or}
use Rattle.blic_model.specs.declared.prefix.Quant.{Quant}
use Rattle.blic_model.specs.declared.prefix.Quant.TheVariants.{Exists, Forall}
use Rattle.blic_model.specs.declared.prefix.Bound.{Bound}
use Rattle.blic_model.specs.declared.formula.Lit.{Lit}
use Rattle.blic_model.specs.Formula.{PrenexFormula}
use Rattle.blic_model.specs.Circuit.{OrderedCircuit}

-- a list of nodes, with the number of one of them
pub record Added : Type 0 where
  pub nodes : List Node
  pub number : ℕ

abbrev pub same_bit : Bool → Bool → Bool
same_bit true b = b
same_bit false b = not b

abbrev pub same_node : Node → Node → Bool
same_node (Const b) (Const c) = same_bit b c
same_node (Var x) (Var y) = x == y
same_node (Not a) (Not b) = a == b
same_node (Fix x b a) (Fix y c d) = (x == y) && (same_bit b c && (a == d))
same_node (And a b) (And c d) = (a == c) && (b == d)
same_node (Or a b) (Or c d) = (a == c) && (b == d)
same_node _ _ = false

-- the entry equal to n, which is appended if there is none
unfoldable pub add_node : Node → List Node → Added
add_node n nodes =
    let k = position_or_len (same_node n) nodes in
    record { nodes = cond (nat_lt k (length nodes)) nodes (nodes ++ n ∷ []); number = k }

-- the level of a variable is its place in the prefix
unfoldable pub level_of : List Bound → ℕ → ℕ
level_of prefix v = position_or_len (λ b. b.var == v) prefix

-- a literal: its variable, or the variable's `Not`
unfoldable pub add_literal : List Bound → List Node → Lit → Added
add_literal prefix nodes l =
    let v = add_node (Var (level_of prefix l.var)) nodes in
    cond l.negative (add_node (Not v.number) v.nodes) v

-- a clause: its literals joined from the first on
unfoldable pub add_clause : List Bound → List Node → List Lit → Added
add_clause prefix nodes [] = add_node (Const false) nodes
add_clause prefix nodes (l ∷ ls) =
    fold (λ so_far m. let b = add_literal prefix so_far.nodes m in add_node (Or so_far.number b.number) b.nodes) (add_literal prefix nodes l) ls

-- the clauses joined by halves, of which the left one is not the smaller; `most` is at least their number
unfoldable pub add_matrix : List Bound → ℕ → List Node → List (List Lit) → Added
add_matrix prefix zero nodes clauses = add_node (Const true) nodes
add_matrix prefix (suc most) nodes [] = add_node (Const true) nodes
add_matrix prefix (suc most) nodes (c ∷ []) = add_clause prefix nodes c
add_matrix prefix (suc most) nodes (c ∷ d ∷ clauses) =
    let half = (length (c ∷ d ∷ clauses) + 1) / 2 in
    let left = add_matrix prefix most nodes (take half (c ∷ d ∷ clauses)) in
    let right = add_matrix prefix most left.nodes (drop half (c ∷ d ∷ clauses)) in
    add_node (And left.number right.number) right.nodes

abbrev pub joined_by : Quant → ℕ → ℕ → Node
joined_by Exists z o = Or z o
joined_by Forall z o = And z o

abbrev pub stands_in : ℕ → List (List Lit) → Bool
stands_in v clauses = list_any (list_any (λ l. l.var == v)) clauses

-- a level is eliminated, unless its variable stands in no clause: both fixings (cofactors) of it, joined by its quantifier
unfoldable pub add_level : ℕ → Bound → List (List Lit) → Added → Added
add_level k b clauses so_far =
    let z = add_node (Fix k false so_far.number) so_far.nodes in
    let o = add_node (Fix k true so_far.number) z.nodes in
    cond (stands_in b.var clauses) (add_node (joined_by b.quant z.number o.number) o.nodes) so_far

-- the levels from k on, the last first
unfoldable pub add_levels : ℕ → List Bound → List (List Lit) → Added → Added
add_levels k [] clauses so_far = so_far
add_levels k (b ∷ inner) clauses so_far = add_level k b clauses (add_levels (suc k) inner clauses so_far)

-- the nodes of the formula's circuit, with the root's number
unfoldable pub nodes_of : PrenexFormula → Added
nodes_of f = add_levels 0 f.prefix f.clauses (add_matrix f.prefix (length f.clauses) [] f.clauses)

-- the formula's circuit, of version 1
abbrev pub circuit_of : PrenexFormula → OrderedCircuit
circuit_of f = record { nodes = (nodes_of f).nodes; order = map (λ b. b.var) f.prefix; version = 1 }
