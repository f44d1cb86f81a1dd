-- Each node of a formula's circuit but the root is a child of another.
use Rattle.std.proofs.Common.{arith, ℕ, zero, suc, ◌≡◌, ◌+◌, ◌<◌, ◌≤◌, refl, sym, ◌∙◌, ap, subst, inl, inr, List, [], ◌∷◌, ◌++◌, length, take, drop, Bool, true, false, cond, ◌||◌, eqb, append_assoc}
use Rattle.std.specs.Prelude.{fold, ◌/◌}
use Rattle.std.specs.List.{list_any, position_or_len}
use Rattle.std.proofs.lemmas.Bool.{cases_lt, cases_eq, eq-eqb}
use Rattle.std.proofs.lemmas.List.{append-nil, length_push}
use Rattle.std.proofs.lemmas.List.Folds.{list_any-append, list_any_at}
use Rattle.blic_model.specs.declared.node.Node.{Node}
use Rattle.blic_model.specs.declared.node.Node.TheVariants.{Const, Var, Not, Fix, And, Or}
use Rattle.blic_model.specs.declared.prefix.Quant.{Quant}
use Rattle.blic_model.specs.declared.prefix.Quant.TheVariants.{Exists, Forall}
use Rattle.blic_model.specs.declared.prefix.Bound.{Bound}
use Rattle.blic_model.specs.declared.formula.Lit.{Lit}
use Rattle.blic_model.specs.Formula.{PrenexFormula}
use Rattle.blic_model.specs.Shape.{is_child}
use Rattle.blic_model.specs.Building.{Added, same_node, add_node, level_of, add_literal, add_clause, add_matrix, joined_by, stands_in, add_level, add_levels, nodes_of}
use Rattle.blic_model.proofs.Adding.{position_le, number_is, found_same, new_nodes, added_node}
use Rattle.blic_model.proofs.Matrix.{or_literal}
use Rattle.blic_model.proofs.Grown.{number_below}

-- node k is a child
abbrev pub IsUsed : List Node → ℕ → Type 0
IsUsed nodes k = list_any (is_child k) nodes ≡ true

-- what was built extends the list, and of what was added only the number is no child yet
pub record Uses (nodes : List Node) (b : Added) : Type 0 where
  pub more : List Node
  pub extends : b.nodes ≡ nodes ++ more
  pub used : (k : ℕ) → length nodes ≤ k → k < length b.nodes → (k ≡ b.number → ⊥) → IsUsed b.nodes k

used_more : (nodes more : List Node) (k : ℕ) → IsUsed nodes k → IsUsed (nodes ++ more) k
used_more nodes more k u = list_any-append (is_child k) nodes more ∙ ap (λ b. b || list_any (is_child k) more) u

used_still : (nodes : List Node) (b : Added) → Uses nodes b → (k : ℕ) → IsUsed nodes k → IsUsed b.nodes k
used_still nodes b h k u = subst (λ ns. IsUsed ns k) (sym h.extends) (used_more nodes h.more k u)

add_uses : (n : Node) (nodes : List Node) → Uses nodes (add_node n nodes)
add_uses n nodes = elim (cases_lt (position_or_len (same_node n) nodes) (length nodes)) [
  | inl l ↦ record { more = []; extends = found_same n nodes l ∙ sym (append-nil nodes); used = λ k h m ne. absurd (omega (arith, ap length (found_same n nodes l))) }
  | inr l ↦ record {
    more = n ∷ [];
    extends = new_nodes n nodes l;
    used = λ k h m ne.
        let q : position_or_len (same_node n) nodes ≤ length nodes = position_le (same_node n) nodes in
        absurd (ne (omega (arith, number_is n nodes, ap length (new_nodes n nodes l), length_push nodes n)));
  }
]

child_used : (n : Node) (nodes : List Node) (k : ℕ) → is_child k n ≡ true → IsUsed (add_node n nodes).nodes k
child_used n nodes k e =
    list_any_at (is_child k) (add_node n nodes).nodes (add_node n nodes).number (Const false) (number_below n nodes) (ap (is_child k) (added_node n nodes) ∙ e)

-- one was built after another, and then a node over both
over_both : (nodes : List Node) (s b : Added) (n : Node) → Uses nodes s → Uses s.nodes b → is_child s.number n ≡ true → is_child b.number n ≡ true
    → Uses nodes (add_node n b.nodes)
over_both nodes s b n h g p q =
    let c = add_node n b.nodes in
    let w = add_uses n b.nodes in record {
      more = h.more ++ (g.more ++ w.more);
      extends = w.extends ∙ (ap (λ ns. ns ++ w.more) (g.extends ∙ ap (λ ns. ns ++ g.more) h.extends) ∙ regroup nodes h.more g.more w.more);
      used = λ k l m ne. elim (cases_lt k (length s.nodes)) [
        | inl i ↦ elim (cases_eq k s.number) [
          | inl e ↦ subst (IsUsed c.nodes) (sym e) (child_used n b.nodes s.number p)
          | inr a ↦ used_still b.nodes c w k (used_still s.nodes b g k (h.used k l i a))
        ]
        | inr i ↦ elim (cases_lt k (length b.nodes)) [
          | inl j ↦ elim (cases_eq k b.number) [
            | inl e ↦ subst (IsUsed c.nodes) (sym e) (child_used n b.nodes b.number q)
            | inr a ↦ used_still b.nodes c w k (g.used k i j a)
          ]
          | inr j ↦ w.used k j m ne
        ]
      ];
    }
  where
    regroup : (a b c d : List Node) → ((a ++ b) ++ c) ++ d ≡ a ++ (b ++ (c ++ d))
    regroup a b c d = simp append_assoc

-- a node over what was built
over_one : (nodes : List Node) (s : Added) (n : Node) → Uses nodes s → is_child s.number n ≡ true → Uses nodes (add_node n s.nodes)
over_one nodes s n h p =
    let c = add_node n s.nodes in
    let w = add_uses n s.nodes in record {
      more = h.more ++ w.more;
      extends = w.extends ∙ (ap (λ ns. ns ++ w.more) h.extends ∙ append_assoc nodes h.more w.more);
      used = λ k l m ne. elim (cases_lt k (length s.nodes)) [
        | inl i ↦ elim (cases_eq k s.number) [
          | inl e ↦ subst (IsUsed c.nodes) (sym e) (child_used n s.nodes s.number p)
          | inr a ↦ used_still s.nodes c w k (h.used k l i a)
        ]
        | inr i ↦ w.used k i m ne
      ];
    }

self : (k : ℕ) → eqb k k ≡ true
self k = eq-eqb k k refl

first_child : (j k : ℕ) → (eqb j j || eqb k j) ≡ true
first_child j k = ap (λ b. b || eqb k j) (self j)

second_child : (j k : ℕ) → (eqb j k || eqb k k) ≡ true
second_child j k = either_way (eqb j k) (eqb k k) (self k)
  where
    either_way : (a b : Bool) → b ≡ true → (a || b) ≡ true
    either_way a b h = grind arith

over_or : (nodes : List Node) (s b : Added) → Uses nodes s → Uses s.nodes b → Uses nodes (add_node (Or s.number b.number) b.nodes)
over_or nodes s b h g = over_both nodes s b (Or s.number b.number) h g (first_child s.number b.number) (second_child s.number b.number)

over_and : (nodes : List Node) (s b : Added) → Uses nodes s → Uses s.nodes b → Uses nodes (add_node (And s.number b.number) b.nodes)
over_and nodes s b h g = over_both nodes s b (And s.number b.number) h g (first_child s.number b.number) (second_child s.number b.number)

literal_uses : (prefix : List Bound) (nodes : List Node) (l : Lit) → Uses nodes (add_literal prefix nodes l)
unfolding add_literal
literal_uses prefix nodes l = go l.negative
  where
    v : Added
    v = add_node (Var (level_of prefix l.var)) nodes

    go : (b : Bool) → Uses nodes (cond b (add_node (Not v.number) v.nodes) v)
    go true = over_one nodes v (Not v.number) (add_uses (Var (level_of prefix l.var)) nodes) (self v.number)
    go false = add_uses (Var (level_of prefix l.var)) nodes

literals_use : (prefix : List Bound) (nodes : List Node) (ls : List Lit) (so_far : Added) → Uses nodes so_far
    → Uses nodes (fold (or_literal prefix) so_far ls)
literals_use prefix nodes [] so_far h = h
literals_use prefix nodes (m ∷ ms) so_far h =
    literals_use prefix nodes ms (or_literal prefix so_far m) (over_or nodes so_far (add_literal prefix so_far.nodes m) h (literal_uses prefix so_far.nodes m))

clause_uses : (prefix : List Bound) (nodes : List Node) (c : List Lit) → Uses nodes (add_clause prefix nodes c)
unfolding add_clause
clause_uses prefix nodes [] = add_uses (Const false) nodes
clause_uses prefix nodes (l ∷ ls) = literals_use prefix nodes ls (add_literal prefix nodes l) (literal_uses prefix nodes l)

matrix_uses : (prefix : List Bound) (most : ℕ) (nodes : List Node) (cs : List (List Lit)) → Uses nodes (add_matrix prefix most nodes cs)
unfolding add_matrix
matrix_uses prefix zero nodes cs = add_uses (Const true) nodes
matrix_uses prefix (suc most) nodes [] = add_uses (Const true) nodes
matrix_uses prefix (suc most) nodes (c ∷ []) = clause_uses prefix nodes c
matrix_uses prefix (suc most) nodes (c ∷ d ∷ cs) =
    let half = (length (c ∷ d ∷ cs) + 1) / 2 in
    let left = add_matrix prefix most nodes (take half (c ∷ d ∷ cs)) in
    over_and nodes left (add_matrix prefix most left.nodes (drop half (c ∷ d ∷ cs))) (matrix_uses prefix most nodes (take half (c ∷ d ∷ cs))) (matrix_uses prefix most left.nodes (drop half (c ∷ d ∷ cs)))

over_join : (q : Quant) (nodes : List Node) (s b : Added) → Uses nodes s → Uses s.nodes b
    → Uses nodes (add_node (joined_by q s.number b.number) b.nodes)
over_join Exists nodes s b h g = over_or nodes s b h g
over_join Forall nodes s b h g = over_and nodes s b h g

level_uses : (nodes : List Node) (k : ℕ) (b : Bound) (clauses : List (List Lit)) (so_far : Added) → Uses nodes so_far
    → Uses nodes (add_level k b clauses so_far)
unfolding add_level
level_uses nodes k b clauses so_far h = go (stands_in b.var clauses)
  where
    z : Added
    z = add_node (Fix k false so_far.number) so_far.nodes

    o : Added
    o = add_node (Fix k true so_far.number) z.nodes

    go : (c : Bool) → Uses nodes (cond c (add_node (joined_by b.quant z.number o.number) o.nodes) so_far)
    go true = over_join b.quant nodes z o (over_one nodes so_far (Fix k false so_far.number) h (self so_far.number)) (add_uses (Fix k true so_far.number) z.nodes)
    go false = h

levels_use : (nodes : List Node) (k : ℕ) (bs : List Bound) (clauses : List (List Lit)) (matrix : Added) → Uses nodes matrix
    → Uses nodes (add_levels k bs clauses matrix)
unfolding add_levels
levels_use nodes k [] clauses matrix h = h
levels_use nodes k (b ∷ bs) clauses matrix h =
    level_uses nodes k b clauses (add_levels (suc k) bs clauses matrix) (levels_use nodes (suc k) bs clauses matrix h)

pub circuit_uses : (f : PrenexFormula) → Uses [] (nodes_of f)
unfolding nodes_of
circuit_uses f =
    levels_use [] 0 f.prefix f.clauses (add_matrix f.prefix (length f.clauses) [] f.clauses) (matrix_uses f.prefix (length f.clauses) [] f.clauses)
