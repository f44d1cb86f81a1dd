-- What holds of the nodes of a formula's circuit, because each node that is added keeps it.
use Rattle.std.proofs.Common.{arith, ℕ, zero, suc, ◌≡◌, ◌+◌, ◌<◌, ◌≤◌, sym, ap, subst, inl, inr, List, [], ◌∷◌, ◌++◌, length, take, drop, Bool, true, false, cond}
use Rattle.std.specs.Prelude.{fold, ◌/◌, All}
use Rattle.std.specs.List.{list_any, position_or_len}
use Rattle.std.proofs.lemmas.Bool.{cases_lt}
use Rattle.std.proofs.lemmas.List.{length_push}
use Rattle.std.proofs.lemmas.List.Elements.{All-head, All-tail, All-take, All-drop}
use Rattle.std.proofs.lemmas.List.Sums.{fails_before_first}
use Rattle.std.proofs.lemmas.List.Folds.{list_any_none}
use Rattle.blic_model.specs.declared.node.Node.{Node}
use Rattle.blic_model.specs.declared.node.Node.TheVariants.{Const, Var, Not, Fix, And, Or}
use Rattle.blic_model.specs.declared.prefix.Quant.{Quant}
use Rattle.blic_model.specs.declared.prefix.Quant.TheVariants.{Exists, Forall}
use Rattle.blic_model.specs.declared.prefix.Bound.{Bound}
use Rattle.blic_model.specs.declared.formula.Lit.{Lit}
use Rattle.blic_model.specs.Formula.{PrenexFormula}
use Rattle.blic_model.specs.Circuit.{node_at}
use Rattle.blic_model.specs.Building.{Added, same_node, add_node, level_of, add_literal, add_clause, add_matrix, joined_by, stands_in, add_level, add_levels, nodes_of}
use Rattle.blic_model.proofs.Adding.{position_le, number_is, found_same, new_nodes, added_node}
use Rattle.blic_model.proofs.Matrix.{or_literal}

-- the node may be added: its level is in range, and a `Not` is that of a variable
abbrev pub Suits : ℕ → List Node → Node → Type 0
Suits levels nodes (Const b) = Unit {0}
Suits levels nodes (Var x) = x < levels
Suits levels nodes (Not a) = (a < length nodes) × (x : ℕ) × (x < levels) × (node_at nodes a ≡ Var x)
Suits levels nodes (Fix x b a) = x < levels
Suits levels nodes (And a b) = Unit {0}
Suits levels nodes (Or a b) = Unit {0}

-- P stays where a new node that suits is appended
abbrev pub Keeps : ℕ → (List Node → Type 0) → Type 0
Keeps levels P = (nodes : List Node) (n : Node) → P nodes → Suits levels nodes n → list_any (same_node n) nodes ≡ false → P (nodes ++ n ∷ [])

add_keeps : (levels : ℕ) (P : List Node → Type 0) → Keeps levels P → (n : Node) (nodes : List Node) → P nodes → Suits levels nodes n
    → P (add_node n nodes).nodes
add_keeps levels P keeps n nodes p s = elim (cases_lt (position_or_len (same_node n) nodes) (length nodes)) [
  | inl l ↦ subst P (sym (found_same n nodes l)) p
  | inr l ↦ subst P (sym (new_nodes n nodes l)) (keeps nodes n p s (list_any_none (same_node n) nodes (λ k d m. fails_before_first (same_node n) nodes k d (omega arith))))
]

pub number_below : (n : Node) (nodes : List Node) → (add_node n nodes).number < length (add_node n nodes).nodes
number_below n nodes = elim (cases_lt (position_or_len (same_node n) nodes) (length nodes)) [
  | inl l ↦ omega (arith, number_is n nodes, ap length (found_same n nodes l))
  | inr l ↦
      let q : position_or_len (same_node n) nodes ≤ length nodes = position_le (same_node n) nodes in
      omega (arith, number_is n nodes, ap length (new_nodes n nodes l), length_push nodes n)
]

-- the literal's variable has a level in range
abbrev pub HasLevel : List Bound → Lit → Type 0
HasLevel prefix l = level_of prefix l.var < length prefix

literal_keeps : (prefix : List Bound) (P : List Node → Type 0) → Keeps (length prefix) P → (nodes : List Node) (l : Lit) → HasLevel prefix l → P nodes
    → P (add_literal prefix nodes l).nodes
unfolding add_literal
literal_keeps prefix P keeps nodes l h p = go l.negative
  where
    n : Node
    n = Var (level_of prefix l.var)

    v : P (add_node n nodes).nodes
    v = add_keeps (length prefix) P keeps n nodes p h

    go : (b : Bool) → P (cond b (add_node (Not (add_node n nodes).number) (add_node n nodes).nodes) (add_node n nodes)).nodes
    go true = add_keeps (length prefix) P keeps (Not (add_node n nodes).number) (add_node n nodes).nodes v (number_below n nodes, level_of prefix l.var, h, added_node n nodes)
    go false = v

literals_keep : (prefix : List Bound) (P : List Node → Type 0) → Keeps (length prefix) P → (ls : List Lit) → All (HasLevel prefix) ls
    → (so_far : Added) → P so_far.nodes → P (fold (or_literal prefix) so_far ls).nodes
literals_keep prefix P keeps [] a so_far p = p
literals_keep prefix P keeps (m ∷ ms) a so_far p =
    let b = add_literal prefix so_far.nodes m in
    literals_keep prefix P keeps ms (All-tail (HasLevel prefix) m ms a) (or_literal prefix so_far m)
    (add_keeps (length prefix) P keeps (Or so_far.number b.number) b.nodes (literal_keeps prefix P keeps so_far.nodes m (All-head (HasLevel prefix) m ms a) p) tt)

clause_keeps : (prefix : List Bound) (P : List Node → Type 0) → Keeps (length prefix) P → (c : List Lit) → All (HasLevel prefix) c
    → (nodes : List Node) → P nodes → P (add_clause prefix nodes c).nodes
unfolding add_clause
clause_keeps prefix P keeps [] a nodes p = add_keeps (length prefix) P keeps (Const false) nodes p tt
clause_keeps prefix P keeps (l ∷ ls) a nodes p =
    literals_keep prefix P keeps ls (All-tail (HasLevel prefix) l ls a) (add_literal prefix nodes l) (literal_keeps prefix P keeps nodes l (All-head (HasLevel prefix) l ls a) p)

matrix_keeps : (prefix : List Bound) (P : List Node → Type 0) → Keeps (length prefix) P → (most : ℕ) (cs : List (List Lit))
    → All (All (HasLevel prefix)) cs → (nodes : List Node) → P nodes → P (add_matrix prefix most nodes cs).nodes
unfolding add_matrix
matrix_keeps prefix P keeps zero cs a nodes p = add_keeps (length prefix) P keeps (Const true) nodes p tt
matrix_keeps prefix P keeps (suc most) [] a nodes p = add_keeps (length prefix) P keeps (Const true) nodes p tt
matrix_keeps prefix P keeps (suc most) (c ∷ []) a nodes p = clause_keeps prefix P keeps c (All-head (All (HasLevel prefix)) c [] a) nodes p
matrix_keeps prefix P keeps (suc most) (c ∷ d ∷ cs) a nodes p =
    let half = (length (c ∷ d ∷ cs) + 1) / 2 in
    let left = add_matrix prefix most nodes (take half (c ∷ d ∷ cs)) in
    let right = add_matrix prefix most left.nodes (drop half (c ∷ d ∷ cs)) in
    add_keeps (length prefix) P keeps (And left.number right.number) right.nodes
    (matrix_keeps prefix P keeps most (drop half (c ∷ d ∷ cs)) (All-drop (All (HasLevel prefix)) half (c ∷ d ∷ cs) a) left.nodes
    (matrix_keeps prefix P keeps most (take half (c ∷ d ∷ cs)) (All-take (All (HasLevel prefix)) half (c ∷ d ∷ cs) a) nodes p)) tt

level_keeps : (levels : ℕ) (P : List Node → Type 0) → Keeps levels P → (k : ℕ) → k < levels → (b : Bound) (clauses : List (List Lit)) (so_far : Added)
    → P so_far.nodes → P (add_level k b clauses so_far).nodes
unfolding add_level
level_keeps levels P keeps k l b clauses so_far p = go (stands_in b.var clauses) b.quant
  where
    z : Added
    z = add_node (Fix k false so_far.number) so_far.nodes

    o : Added
    o = add_node (Fix k true so_far.number) z.nodes

    both_fixed : P o.nodes
    both_fixed = add_keeps levels P keeps (Fix k true so_far.number) z.nodes (add_keeps levels P keeps (Fix k false so_far.number) so_far.nodes p l) l

    go : (c : Bool) (q : Quant) → P (cond c (add_node (joined_by q z.number o.number) o.nodes) so_far).nodes
    go false q = p
    go true Exists = add_keeps levels P keeps (Or z.number o.number) o.nodes both_fixed tt
    go true Forall = add_keeps levels P keeps (And z.number o.number) o.nodes both_fixed tt

levels_keep : (levels : ℕ) (P : List Node → Type 0) → Keeps levels P → (k : ℕ) (bs : List Bound) → k + length bs ≡ levels
    → (clauses : List (List Lit)) (matrix : Added) → P matrix.nodes → P (add_levels k bs clauses matrix).nodes
unfolding add_levels
levels_keep levels P keeps k [] e clauses matrix p = p
levels_keep levels P keeps k (b ∷ bs) e clauses matrix p =
    level_keeps levels P keeps k (omega arith) b clauses (add_levels (suc k) bs clauses matrix) (levels_keep levels P keeps (suc k) bs (omega arith) clauses matrix p)

pub circuit_keeps : (f : PrenexFormula) → All (All (HasLevel f.prefix)) f.clauses → (P : List Node → Type 0) → Keeps (length f.prefix) P → P []
    → P (nodes_of f).nodes
unfolding nodes_of
circuit_keeps f a P keeps p =
    levels_keep (length f.prefix) P keeps 0 f.prefix (omega arith) f.clauses (add_matrix f.prefix (length f.clauses) [] f.clauses)
    (matrix_keeps f.prefix P keeps (length f.clauses) f.clauses a [] p)
