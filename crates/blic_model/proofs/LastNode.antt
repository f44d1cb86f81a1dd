-- What was added last is the root: the number of what was built is the last of its list.
use Rattle.std.proofs.Common.{arith, ℕ, zero, suc, ◌≡◌, ◌+◌, ◌<◌, ◌≤◌, refl, sym, ◌∙◌, ap, subst, ◌⊎◌, inl, inr, List, [], ◌∷◌, ◌++◌, length, take, drop, Bool, true, false, cond, ltb}
use Rattle.std.specs.Prelude.{fold, ◌/◌}
use Rattle.std.specs.List.{position_or_len}
use Rattle.std.proofs.lemmas.Bool.{cases_lt, le-ltb}
use Rattle.std.proofs.lemmas.List.{length_push, length-take, length-drop, get_or_append_left, get_or_push}
use Rattle.blic_model.specs.declared.node.Node.{Node}
use Rattle.blic_model.specs.declared.node.Node.TheVariants.{Const, Var, Not, Fix, And, Or}
use Rattle.blic_model.specs.declared.prefix.Quant.{Quant}
use Rattle.blic_model.specs.declared.prefix.Quant.TheVariants.{Exists, Forall}
use Rattle.blic_model.specs.declared.prefix.Bound.{Bound}
use Rattle.blic_model.specs.declared.formula.Lit.{Lit}
use Rattle.blic_model.specs.Formula.{PrenexFormula}
use Rattle.blic_model.specs.Circuit.{node_at}
use Rattle.blic_model.specs.Building.{Added, same_node, add_node, level_of, add_literal, add_clause, add_matrix, joined_by, stands_in, add_level, add_levels, nodes_of}
use Rattle.blic_model.specs.Truth.{matrix_holds}
use Rattle.blic_model.proofs.Ordered.{ChildrenBelow, AreOrdered}
use Rattle.blic_model.proofs.Adding.{Gives, add_gives, position_le, found_same, found_node, new_nodes}
use Rattle.blic_model.proofs.Matrix.{by_level, literal_gives, or_literal, or_literal_gives, matrix_gives}
use Rattle.blic_model.proofs.Quantified.{levels_give}
use Rattle.blic_model.proofs.LevelOf.{HasLevels, VarsDiffer, has_levels}

-- the number is the last of the list
abbrev pub IsLast : Added → Type 0
IsLast b = suc b.number ≡ length b.nodes

-- nothing was appended, or the number is the last
abbrev pub Grows : List Node → Added → Type 0
Grows nodes b = (b.nodes ≡ nodes) ⊎ IsLast b

pub new_last : (n : Node) (nodes : List Node) → length nodes ≤ position_or_len (same_node n) nodes → IsLast (add_node n nodes)
unfolding add_node
new_last n nodes l =
    let q : position_or_len (same_node n) nodes ≤ length nodes = position_le (same_node n) nodes in
    let e : length (cond (ltb (position_or_len (same_node n) nodes) (length nodes)) nodes (nodes ++ n ∷ [])) ≡ length (nodes ++ n ∷ []) = ap (λ b. length (cond b nodes (nodes ++ n ∷ []))) (le-ltb _ _ l) in
    omega (arith, e, length_push nodes n)

add_grows : (n : Node) (nodes : List Node) → Grows nodes (add_node n nodes)
add_grows n nodes =
    elim (cases_lt (position_or_len (same_node n) nodes) (length nodes)) [ inl l ↦ inl (found_same n nodes l) | inr l ↦ inr (new_last n nodes l) ]

-- a node with the last node for a child is new
pub add_last : (n : Node) (nodes : List Node) → AreOrdered nodes → (c : ℕ) → suc c ≡ length nodes → ((k : ℕ) → ChildrenBelow k n → c < k)
    → IsLast (add_node n nodes)
add_last n nodes o c e h = elim (cases_lt (position_or_len (same_node n) nodes) (length nodes)) [
  | inl l ↦
      let w : c < position_or_len (same_node n) nodes = h _ (subst (ChildrenBelow (position_or_len (same_node n) nodes)) (sym (found_node n nodes l)) (o _ l)) in
      absurd (omega arith)
  | inr l ↦ new_last n nodes l
]

literal_grows : (prefix : List Bound) (nodes : List Node) (l : Lit) → AreOrdered nodes → Grows nodes (add_literal prefix nodes l)
unfolding add_literal
literal_grows prefix nodes l o = go l.negative (add_grows (Var (level_of prefix l.var)) nodes)
  where
    v : Added
    v = add_node (Var (level_of prefix l.var)) nodes

    vo : AreOrdered v.nodes
    vo = (add_gives (Var (level_of prefix l.var)) nodes o tt).ordered

    go : (b : Bool) → Grows nodes v → Grows nodes (cond b (add_node (Not v.number) v.nodes) v)
    go false g = g
    go true (inl e) = elim (add_grows (Not v.number) v.nodes) [ inl f ↦ inl (f ∙ e) | inr f ↦ inr f ]
    go true (inr e) = inr (add_last (Not v.number) v.nodes vo v.number e (λ k h. h))

or_literal_grows : (prefix : List Bound) (nodes : List Node) (so_far : Added) (m : Lit) → AreOrdered so_far.nodes → Grows nodes so_far
    → Grows nodes (or_literal prefix so_far m)
or_literal_grows prefix nodes so_far m o g = go g (literal_grows prefix so_far.nodes m o)
  where
    b : Added
    b = add_literal prefix so_far.nodes m

    bo : AreOrdered b.nodes
    bo = (literal_gives prefix so_far.nodes m o).ordered

    go : Grows nodes so_far → Grows so_far.nodes b → Grows nodes (add_node (Or so_far.number b.number) b.nodes)
    go g (inr e) = inr (add_last (Or so_far.number b.number) b.nodes bo b.number e (λ k h. h.1))
    go (inr e) (inl f) = inr (add_last (Or so_far.number b.number) b.nodes bo so_far.number (e ∙ ap length (sym f)) (λ k h. h.0))
    go (inl e) (inl f) = elim (add_grows (Or so_far.number b.number) b.nodes) [ inl q ↦ inl (q ∙ (f ∙ e)) | inr q ↦ inr q ]

literals_grow : (prefix : List Bound) (nodes : List Node) (ls : List Lit) (so_far : Added) (f : (ℕ → Bool) → Bool) → Gives nodes so_far f
    → Grows nodes so_far → Grows nodes (fold (or_literal prefix) so_far ls)
literals_grow prefix nodes [] so_far f h g = g
literals_grow prefix nodes (m ∷ ms) so_far f h g =
    literals_grow prefix nodes ms (or_literal prefix so_far m) _ (or_literal_gives prefix nodes so_far f h m) (or_literal_grows prefix nodes so_far m h.ordered g)

clause_grows : (prefix : List Bound) (nodes : List Node) (c : List Lit) → AreOrdered nodes → Grows nodes (add_clause prefix nodes c)
unfolding add_clause
clause_grows prefix nodes [] o = add_grows (Const false) nodes
clause_grows prefix nodes (l ∷ ls) o =
    literals_grow prefix nodes ls (add_literal prefix nodes l) _ (literal_gives prefix nodes l o) (literal_grows prefix nodes l o)

and_grows : (nodes : List Node) (left right : Added) → AreOrdered right.nodes → Grows nodes left → Grows left.nodes right
    → Grows nodes (add_node (And left.number right.number) right.nodes)
and_grows nodes left right o g (inr e) = inr (add_last (And left.number right.number) right.nodes o right.number e (λ k h. h.1))
and_grows nodes left right o (inr e) (inl f) =
    inr (add_last (And left.number right.number) right.nodes o left.number (e ∙ ap length (sym f)) (λ k h. h.0))
and_grows nodes left right o (inl e) (inl f) =
    elim (add_grows (And left.number right.number) right.nodes) [ inl q ↦ inl (q ∙ (f ∙ e)) | inr q ↦ inr q ]

matrix_grows : (prefix : List Bound) (most : ℕ) (nodes : List Node) (cs : List (List Lit)) → length cs ≤ most → AreOrdered nodes
    → Grows nodes (add_matrix prefix most nodes cs)
unfolding add_matrix
matrix_grows prefix zero nodes cs l o = add_grows (Const true) nodes
matrix_grows prefix (suc most) nodes [] l o = add_grows (Const true) nodes
matrix_grows prefix (suc most) nodes (c ∷ []) l o = clause_grows prefix nodes c o
matrix_grows prefix (suc most) nodes (c ∷ d ∷ cs) l o =
    let half = (length (c ∷ d ∷ cs) + 1) / 2 in
    let left = add_matrix prefix most nodes (take half (c ∷ d ∷ cs)) in
    let right = add_matrix prefix most left.nodes (drop half (c ∷ d ∷ cs)) in
    let u = matrix_gives prefix most nodes (take half (c ∷ d ∷ cs)) (omega (arith, length-take half (c ∷ d ∷ cs))) o in
    let w = matrix_gives prefix most left.nodes (drop half (c ∷ d ∷ cs)) (omega (arith, length-drop half (c ∷ d ∷ cs))) u.ordered in
    and_grows nodes left right w.ordered (matrix_grows prefix most nodes (take half (c ∷ d ∷ cs)) (omega (arith, length-take half (c ∷ d ∷ cs))) o)
    (matrix_grows prefix most left.nodes (drop half (c ∷ d ∷ cs)) (omega (arith, length-drop half (c ∷ d ∷ cs))) u.ordered)

pub is_new : (n : Node) (nodes : List Node) → AreOrdered nodes → (c : ℕ) → suc c ≡ length nodes → ((k : ℕ) → ChildrenBelow k n → c < k)
    → length nodes ≤ position_or_len (same_node n) nodes
is_new n nodes o c e h = elim (cases_lt (position_or_len (same_node n) nodes) (length nodes)) [
  | inl l ↦
      let w : c < position_or_len (same_node n) nodes = h _ (subst (ChildrenBelow (position_or_len (same_node n) nodes)) (sym (found_node n nodes l)) (o _ l)) in
      absurd (omega arith)
  | inr l ↦ l
]

-- the second fixing of a level is new too: the only node above the child is the first fixing
second_new : (k root : ℕ) (nodes : List Node) → AreOrdered nodes → suc root ≡ length nodes
    → IsLast (add_node (Fix k true root) (nodes ++ Fix k false root ∷ []))
second_new k root nodes o e =
    elim (cases_lt (position_or_len (same_node (Fix k true root)) (nodes ++ Fix k false root ∷ [])) (length (nodes ++ Fix k false root ∷ []))) [
      | inr l ↦ new_last (Fix k true root) (nodes ++ Fix k false root ∷ []) l
      | inl l ↦ absurd (go (position_or_len (same_node (Fix k true root)) (nodes ++ Fix k false root ∷ [])) l (found_node (Fix k true root) (nodes ++ Fix k false root ∷ []) l))
    ]
  where
    apart : Fix k true root ≡ Fix k false root → ⊥
    apart q = cc

    go : (p : ℕ) → p < length (nodes ++ Fix k false root ∷ []) → Fix k true root ≡ node_at (nodes ++ Fix k false root ∷ []) p → ⊥
    go p l q = elim (cases_lt p (length nodes)) [
      | inl h ↦
          let w : root < p = subst (ChildrenBelow p) (sym (q ∙ get_or_append_left nodes (Fix k false root ∷ []) (Const false) p h)) (o p h) in
          absurd (omega arith)
      | inr h ↦
          let s : p ≡ length nodes = omega (arith, length_push nodes (Fix k false root)) in
          absurd (apart (q ∙ (ap (node_at (nodes ++ Fix k false root ∷ [])) s ∙ get_or_push nodes (Fix k false root) (Const false) (length nodes) refl)))
    ]

level_last : (k : ℕ) (b : Bound) (clauses : List (List Lit)) (so_far : Added) → AreOrdered so_far.nodes → IsLast so_far
    → IsLast (add_level k b clauses so_far)
unfolding add_level
level_last k b clauses so_far o e = go (stands_in b.var clauses)
  where
    z : Added
    z = add_node (Fix k false so_far.number) so_far.nodes

    c : Added
    c = add_node (Fix k true so_far.number) z.nodes

    zn : z.nodes ≡ so_far.nodes ++ Fix k false so_far.number ∷ []
    zn = new_nodes (Fix k false so_far.number) so_far.nodes (is_new (Fix k false so_far.number) so_far.nodes o so_far.number e (λ k h. h))

    cl : IsLast c
    cl = subst (λ ns. IsLast (add_node (Fix k true so_far.number) ns)) (sym zn) (second_new k so_far.number so_far.nodes o e)

    zo : AreOrdered z.nodes
    zo = (add_gives (Fix k false so_far.number) so_far.nodes o (omega arith)).ordered

    co : AreOrdered c.nodes
    co = (add_gives (Fix k true so_far.number) z.nodes zo (omega (arith, ap length zn, length_push so_far.nodes (Fix k false so_far.number)))).ordered

    join : (q : Quant) → IsLast (add_node (joined_by q z.number c.number) c.nodes)
    join Exists = add_last (Or z.number c.number) c.nodes co c.number cl (λ k h. h.1)
    join Forall = add_last (And z.number c.number) c.nodes co c.number cl (λ k h. h.1)

    go : (t : Bool) → IsLast (cond t (add_node (joined_by b.quant z.number c.number) c.nodes) so_far)
    go true = join b.quant
    go false = e

levels_last : (prefix : List Bound) (clauses : List (List Lit)) (k : ℕ) (bs : List Bound) → HasLevels prefix k bs → (matrix : Added)
    → Gives [] matrix (λ a. matrix_holds (by_level prefix a) clauses) → IsLast matrix → IsLast (add_levels k bs clauses matrix)
unfolding add_levels
levels_last prefix clauses k [] l matrix h e = e
levels_last prefix clauses k (b ∷ bs) l matrix h e =
    level_last k b clauses (add_levels (suc k) bs clauses matrix) (levels_give prefix clauses (suc k) bs l.2 [] matrix h).ordered (levels_last prefix clauses (suc k) bs l.2 matrix h e)

-- a formula's circuit ends with its root
pub nodes_last : (f : PrenexFormula) → VarsDiffer f.prefix → IsLast (nodes_of f)
unfolding nodes_of
nodes_last f d =
    let none : AreOrdered [] = λ k l. absurd (omega arith) in
    let h = matrix_gives f.prefix (length f.clauses) [] f.clauses (omega arith) none in
    levels_last f.prefix f.clauses 0 f.prefix (has_levels f.prefix d (length f.prefix) 0 (omega arith)) (add_matrix f.prefix (length f.clauses) [] f.clauses) h
    (last (add_matrix f.prefix (length f.clauses) [] f.clauses) h.means.0 (matrix_grows f.prefix (length f.clauses) [] f.clauses (omega arith) none))
  where
    last : (b : Added) → b.number < length b.nodes → Grows [] b → IsLast b
    last b l (inl e) = absurd (omega (arith, ap length e))
    last b l (inr e) = e
