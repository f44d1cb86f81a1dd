-- Literals and clauses, in the steps that add them.
use Rattle.std.proofs.Common.{◌≡◌, ℕ, List, [], ◌∷◌, length, ap, sym, ◌∙◌, arith, true, false, cond}
use Rattle.std.specs.Prelude.{fold}
use Rattle.blic_model.specs.declared.node.Node.{Node}
use Rattle.blic_model.specs.declared.node.Node.TheVariants.{Const, Var, Not}
use Rattle.blic_model.specs.declared.prefix.Bound.{Bound}
use Rattle.blic_model.specs.declared.formula.Lit.{Lit}
use Rattle.blic_model.specs.Building.{Added, add_node, level_of, add_literal, add_clause}
use Rattle.blic_circuit.specs.Steps.{or_literal}

-- a list with the number of one of its nodes
abbrev pub added : List Node → ℕ → Added
added nodes number = record { nodes = nodes; number = number }

pub literal_plain : (prefix : List Bound) (nodes ns : List Node) (l : Lit) (level k : ℕ) → level ≡ level_of prefix l.var → added ns k ≡ add_node (Var level) nodes
    → l.negative ≡ false → added ns k ≡ add_literal prefix nodes l
unfolding add_literal
literal_plain prefix nodes ns l level k e a plain =
    let v = add_node (Var (level_of prefix l.var)) nodes in
    a ∙ (ap (λ x. add_node (Var x) nodes) e ∙ sym (ap (λ b. cond b (add_node (Not v.number) v.nodes) v) plain))

pub literal_negated : (prefix : List Bound) (nodes ns ms : List Node) (l : Lit) (level k j : ℕ) → level ≡ level_of prefix l.var → added ns k ≡ add_node (Var level) nodes
    → l.negative ≡ true → added ms j ≡ add_node (Not k) ns → added ms j ≡ add_literal prefix nodes l
unfolding add_literal
literal_negated prefix nodes ns ms l level k j e a negated b =
    let v = add_node (Var (level_of prefix l.var)) nodes in
    b
    ∙ (ap (λ (w : Added). add_node (Not w.number) w.nodes) (a ∙ ap (λ x. add_node (Var x) nodes) e)
    ∙ sym (ap (λ b. cond b (add_node (Not v.number) v.nodes) v) negated))

pub clause_empty : (prefix : List Bound) (nodes : List Node) (ls : List Lit) (b : Added) → length ls ≡ 0 → b ≡ add_node (Const false) nodes → b ≡ add_clause prefix nodes ls
unfolding add_clause
clause_empty prefix nodes [] b none a = a
clause_empty prefix nodes (l ∷ ls) b none a = absurd (omega arith)

pub clause_whole : (prefix : List Bound) (nodes ns : List Node) (clause ls : List Lit) (l : Lit) (k : ℕ) (b : Added) → clause ≡ l ∷ ls → added ns k ≡ add_literal prefix nodes l
    → b ≡ fold (or_literal prefix) (added ns k) ls → b ≡ add_clause prefix nodes clause
unfolding add_clause
clause_whole prefix nodes ns clause ls l k b split a others =
    others ∙ (ap (λ (w : Added). fold (or_literal prefix) w ls) a ∙ sym (ap (add_clause prefix nodes) split))
