-- How many nodes of a formula's circuit are no leaves: one a literal, one a clause and three a level at most.
use Rattle.std.proofs.Common.{arith, ℕ, zero, suc, ◌≡◌, ◌+◌, ◌*◌, ◌<◌, ◌≤◌, refl, sym, ◌∙◌, ap, inl, inr, List, [], ◌∷◌, length, take, drop, Bool, true, false, cond}
use Rattle.std.specs.Prelude.{fold, ◌/◌, sum_by}
use Rattle.std.specs.List.{position_or_len}
use Rattle.std.proofs.lemmas.Bool.{cases_lt}
use Rattle.std.proofs.lemmas.List.{length-take, length-drop, take-append-drop}
use Rattle.std.proofs.lemmas.List.Sums.{sum_by_push, sum_by-cons, sum_by-append}
use Rattle.blic_model.specs.declared.node.Node.{Node}
use Rattle.blic_model.specs.declared.node.Node.TheVariants.{Const, Var, Not, Fix, And, Or}
use Rattle.blic_model.specs.declared.prefix.Quant.{Quant}
use Rattle.blic_model.specs.declared.prefix.Quant.TheVariants.{Exists, Forall}
use Rattle.blic_model.specs.declared.prefix.Bound.{Bound}
use Rattle.blic_model.specs.declared.formula.Lit.{Lit}
use Rattle.blic_model.specs.Formula.{PrenexFormula}
use Rattle.blic_model.specs.Building.{Added, same_node, add_node, level_of, add_literal, add_clause, add_matrix, joined_by, stands_in, add_level, add_levels, nodes_of}
use Rattle.blic_model.proofs.Adding.{found_same, new_nodes}
use Rattle.blic_model.proofs.Matrix.{or_literal}
use Rattle.blic_model.proofs.Leaves.{leaf}

-- 1 for a node that is no leaf
abbrev pub inner : Node → ℕ
inner (Const b) = 0
inner (Var x) = 0
inner (Not a) = 0
inner (Fix x b a) = 1
inner (And a b) = 1
inner (Or a b) = 1

abbrev inner_nodes : List Node → ℕ
inner_nodes nodes = sum_by inner nodes

one_each : (n : Node) → leaf n + inner n ≡ 1
one_each (Const b) = refl
one_each (Var x) = refl
one_each (Not a) = refl
one_each (Fix x b a) = refl
one_each (And a b) = refl
one_each (Or a b) = refl

pub length_split : (nodes : List Node) → length nodes ≡ sum_by leaf nodes + sum_by inner nodes
length_split [] = refl
length_split (n ∷ nodes) = omega (arith, length_split nodes, one_each n, sum_by-cons leaf n nodes, sum_by-cons inner n nodes)

add_counts : (n : Node) (nodes : List Node) → inner_nodes (add_node n nodes).nodes ≤ inner_nodes nodes + inner n
add_counts n nodes = elim (cases_lt (position_or_len (same_node n) nodes) (length nodes)) [
  | inl l ↦ omega (arith, ap (sum_by inner) (found_same n nodes l))
  | inr l ↦ omega (arith, ap (sum_by inner) (new_nodes n nodes l), sum_by_push inner nodes n)
]

literal_counts : (prefix : List Bound) (nodes : List Node) (l : Lit) → inner_nodes (add_literal prefix nodes l).nodes ≤ inner_nodes nodes
unfolding add_literal
literal_counts prefix nodes l = go l.negative
  where
    v : Added
    v = add_node (Var (level_of prefix l.var)) nodes

    vc : inner_nodes v.nodes ≤ inner_nodes nodes
    vc = omega (arith, add_counts (Var (level_of prefix l.var)) nodes)

    go : (b : Bool) → inner_nodes (cond b (add_node (Not v.number) v.nodes) v).nodes ≤ inner_nodes nodes
    go true = omega (arith, vc, add_counts (Not v.number) v.nodes)
    go false = vc

literals_count : (prefix : List Bound) (ls : List Lit) (so_far : Added)
    → inner_nodes (fold (or_literal prefix) so_far ls).nodes ≤ inner_nodes so_far.nodes + length ls
literals_count prefix [] so_far = omega arith
literals_count prefix (m ∷ ms) so_far =
    let b = add_literal prefix so_far.nodes m in
    let h = literals_count prefix ms (or_literal prefix so_far m) in
    omega (arith, h, literal_counts prefix so_far.nodes m, add_counts (Or so_far.number b.number) b.nodes)

clause_counts : (prefix : List Bound) (nodes : List Node) (c : List Lit)
    → inner_nodes (add_clause prefix nodes c).nodes ≤ inner_nodes nodes + length c
unfolding add_clause
clause_counts prefix nodes [] = omega (arith, add_counts (Const false) nodes)
clause_counts prefix nodes (l ∷ ls) = omega (arith, literals_count prefix ls (add_literal prefix nodes l), literal_counts prefix nodes l)

-- the literals of clauses
abbrev literals : List (List Lit) → ℕ
literals cs = sum_by length cs

clauses_split : (half : ℕ) (cs : List (List Lit)) → half ≤ length cs
    → (literals cs ≡ literals (take half cs) + literals (drop half cs)) × (length (take half cs) ≡ half) × (length (drop half cs) + half ≡ length cs)
clauses_split half cs l = (
  ap (sum_by length) (sym (take-append-drop half cs)) ∙ sum_by-append length (take half cs) (drop half cs),
  omega (arith, length-take half cs),
  omega (arith, length-drop half cs),
)

-- one less where there is a clause
matrix_counts : (prefix : List Bound) (most : ℕ) (nodes : List Node) (cs : List (List Lit)) → length cs ≤ most
    → (0 < length cs → inner_nodes (add_matrix prefix most nodes cs).nodes + 1 ≤ inner_nodes nodes + literals cs + length cs) × (inner_nodes (add_matrix prefix most nodes cs).nodes ≤ inner_nodes nodes + literals cs + length cs)
unfolding add_matrix
matrix_counts prefix zero nodes [] l = ((λ h. absurd (omega arith)), omega (arith, add_counts (Const true) nodes))
matrix_counts prefix zero nodes (c ∷ cs) l = absurd (omega arith)
matrix_counts prefix (suc most) nodes [] l = ((λ h. absurd (omega arith)), omega (arith, add_counts (Const true) nodes))
matrix_counts prefix (suc most) nodes (c ∷ []) l =
    let h = clause_counts prefix nodes c in
    let e = sum_by-cons length c [] in
    ((λ p. omega (arith, h, e)), omega (arith, h, e))
matrix_counts prefix (suc most) nodes (c ∷ d ∷ cs) l =
    let all = c ∷ d ∷ cs in
    let half = (length (c ∷ d ∷ cs) + 1) / 2 in
    let left = add_matrix prefix most nodes (take half (c ∷ d ∷ cs)) in
    let right = add_matrix prefix most left.nodes (drop half (c ∷ d ∷ cs)) in
    let w = clauses_split half (c ∷ d ∷ cs) (omega arith) in
    let lc = matrix_counts prefix most nodes (take half (c ∷ d ∷ cs)) (omega (arith, w.1)) in
    let rc = matrix_counts prefix most left.nodes (drop half (c ∷ d ∷ cs)) (omega (arith, w.2)) in
    let l1 : inner_nodes left.nodes + 1 ≤ inner_nodes nodes + literals (take half (c ∷ d ∷ cs)) + length (take half (c ∷ d ∷ cs)) = lc.0 (omega (arith, w.1)) in
    let r1 : inner_nodes right.nodes + 1 ≤ inner_nodes left.nodes + literals (drop half (c ∷ d ∷ cs)) + length (drop half (c ∷ d ∷ cs)) = rc.0 (omega (arith, w.2)) in
    let t : inner_nodes (add_node (And left.number right.number) right.nodes).nodes + 1 ≤ inner_nodes nodes + literals (c ∷ d ∷ cs) + length (c ∷ d ∷ cs) =
    sum_up (inner_nodes nodes) (inner_nodes left.nodes) (inner_nodes right.nodes) (inner_nodes (add_node (And left.number right.number) right.nodes).nodes)
    (literals (take half (c ∷ d ∷ cs))) (literals (drop half (c ∷ d ∷ cs))) (literals (c ∷ d ∷ cs)) (length (take half (c ∷ d ∷ cs))) (length (drop half (c ∷ d ∷ cs))) half (length (c ∷ d ∷ cs))
    l1 r1 (add_counts (And left.number right.number) right.nodes) w.0 w.1 w.2 in
    ((λ p. t), omega (arith, t))
  where
    sum_up : (n l r a tl dl al tn dn half an : ℕ) → l + 1 ≤ n + tl + tn → r + 1 ≤ l + dl + dn → a ≤ r + 1 → al ≡ tl + dl → tn ≡ half → dn + half ≡ an
        → a + 1 ≤ n + al + an
    sum_up n l r a tl dl al tn dn half an h1 h2 h3 h4 h5 h6 = omega arith

level_counts : (k : ℕ) (b : Bound) (clauses : List (List Lit)) (so_far : Added)
    → inner_nodes (add_level k b clauses so_far).nodes ≤ inner_nodes so_far.nodes + 3
unfolding add_level
level_counts k b clauses so_far = go (stands_in b.var clauses) b.quant
  where
    z : Added
    z = add_node (Fix k false so_far.number) so_far.nodes

    o : Added
    o = add_node (Fix k true so_far.number) z.nodes

    two : inner_nodes o.nodes ≤ inner_nodes so_far.nodes + 2
    two = omega (arith, add_counts (Fix k false so_far.number) so_far.nodes, add_counts (Fix k true so_far.number) z.nodes)

    go : (c : Bool) (q : Quant) → inner_nodes (cond c (add_node (joined_by q z.number o.number) o.nodes) so_far).nodes ≤ inner_nodes so_far.nodes + 3
    go false q = omega arith
    go true Exists = omega (arith, two, add_counts (Or z.number o.number) o.nodes)
    go true Forall = omega (arith, two, add_counts (And z.number o.number) o.nodes)

levels_count : (k : ℕ) (bs : List Bound) (clauses : List (List Lit)) (matrix : Added)
    → inner_nodes (add_levels k bs clauses matrix).nodes ≤ inner_nodes matrix.nodes + 3 * length bs
unfolding add_levels
levels_count k [] clauses matrix = omega arith
levels_count k (b ∷ bs) clauses matrix =
    omega (arith, levels_count (suc k) bs clauses matrix, level_counts k b clauses (add_levels (suc k) bs clauses matrix))

pub few_inner_nodes : (f : PrenexFormula) → sum_by inner (nodes_of f).nodes ≤ sum_by length f.clauses + length f.clauses + 3 * length f.prefix
unfolding nodes_of
few_inner_nodes f =
    omega (arith, levels_count 0 f.prefix f.clauses (add_matrix f.prefix (length f.clauses) [] f.clauses), (matrix_counts f.prefix (length f.clauses) [] f.clauses (omega arith)).1)
