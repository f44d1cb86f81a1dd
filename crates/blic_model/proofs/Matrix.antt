-- The clauses of a formula mean in its circuit what they mean in the formula.
use Rattle.std.proofs.Common.{arith, ℕ, zero, suc, ◌≡◌, ◌+◌, ◌≤◌, sym, ◌∙◌, ap, List, [], ◌∷◌, length, take, drop, Bool, true, false, cond, not, ◌&&◌, ◌||◌}
use Rattle.std.specs.Prelude.{fold, ◌/◌}
use Rattle.std.proofs.lemmas.List.{take-append-drop, length-take, length-drop}
use Rattle.std.proofs.lemmas.List.Folds.{list_all-append}
use Rattle.blic_model.specs.declared.node.Node.{Node}
use Rattle.blic_model.specs.declared.node.Node.TheVariants.{Const, Var, Not, Or}
use Rattle.blic_model.specs.declared.prefix.Bound.{Bound}
use Rattle.blic_model.specs.declared.formula.Lit.{Lit}
use Rattle.blic_model.specs.Building.{Added, add_node, level_of, add_literal, add_clause, add_matrix}
use Rattle.blic_model.specs.Truth.{literal_holds, clause_holds, matrix_holds}
use Rattle.blic_model.proofs.Ordered.{AreOrdered}
use Rattle.blic_model.proofs.Adding.{Gives, kept, after, reads, add_gives, add_not, add_and, add_or}

-- an assignment of the variables, from one of the levels
abbrev pub by_level : List Bound → (ℕ → Bool) → ℕ → Bool
by_level prefix a v = a (level_of prefix v)

pub literal_gives : (prefix : List Bound) (nodes : List Node) (l : Lit) → AreOrdered nodes
    → Gives nodes (add_literal prefix nodes l) (λ a. literal_holds (by_level prefix a) l)
unfolding add_literal
literal_gives prefix nodes l o = go l.negative
  where
    v : Gives nodes (add_node (Var (level_of prefix l.var)) nodes) (λ a. by_level prefix a l.var)
    v = add_gives (Var (level_of prefix l.var)) nodes o tt

    go : (b : Bool)
        → Gives nodes (cond b (add_node (Not (add_node (Var (level_of prefix l.var)) nodes).number) (add_node (Var (level_of prefix l.var)) nodes).nodes) (add_node (Var (level_of prefix l.var)) nodes))
        (λ a. cond b (not (by_level prefix a l.var)) (by_level prefix a l.var))
    go true = after nodes _ _ _ _ v (add_not _ _ _ v.ordered v.means)
    go false = v

-- one more literal
abbrev pub or_literal : List Bound → Added → Lit → Added
or_literal prefix so_far m = let b = add_literal prefix so_far.nodes m in add_node (Or so_far.number b.number) b.nodes

pub or_literal_gives : (prefix : List Bound) (nodes : List Node) (so_far : Added) (f : (ℕ → Bool) → Bool) → Gives nodes so_far f → (m : Lit)
    → Gives nodes (or_literal prefix so_far m) (λ a. f a || literal_holds (by_level prefix a) m)
or_literal_gives prefix nodes so_far f h m =
    let b = literal_gives prefix so_far.nodes m h.ordered in
    after nodes (add_literal prefix so_far.nodes m) _ _ _ (after nodes so_far _ f _ h b)
    (add_or _ _ _ f (λ a. literal_holds (by_level prefix a) m) b.ordered (kept so_far.nodes (add_literal prefix so_far.nodes m) _ h.ordered b so_far.number f h.means) b.means)

pub literals_give : (prefix : List Bound) (nodes : List Node) (ls : List Lit) (so_far : Added) (f : (ℕ → Bool) → Bool) → Gives nodes so_far f
    → Gives nodes (fold (or_literal prefix) so_far ls) (λ a. f a || clause_holds (by_level prefix a) ls)
literals_give prefix nodes [] so_far f h = reads nodes so_far f (λ a. f a || clause_holds (by_level prefix a) []) (λ a. nothing (f a)) h
  where
    nothing : (b : Bool) → b ≡ (b || false)
    nothing b = grind arith
literals_give prefix nodes (m ∷ ms) so_far f h =
    reads nodes _ _ _ (λ a. regroup (f a) (literal_holds (by_level prefix a) m) (clause_holds (by_level prefix a) ms))
    (literals_give prefix nodes ms (or_literal prefix so_far m) (λ a. f a || literal_holds (by_level prefix a) m) (or_literal_gives prefix nodes so_far f h m))
  where
    regroup : (b c d : Bool) → ((b || c) || d) ≡ (b || (c || d))
    regroup b c d = grind arith

pub clause_gives : (prefix : List Bound) (nodes : List Node) (c : List Lit) → AreOrdered nodes
    → Gives nodes (add_clause prefix nodes c) (λ a. clause_holds (by_level prefix a) c)
unfolding add_clause
clause_gives prefix nodes [] o = add_gives (Const false) nodes o tt
clause_gives prefix nodes (l ∷ ls) o =
    literals_give prefix nodes ls (add_literal prefix nodes l) (λ a. literal_holds (by_level prefix a) l) (literal_gives prefix nodes l o)

pub matrix_gives : (prefix : List Bound) (most : ℕ) (nodes : List Node) (cs : List (List Lit)) → length cs ≤ most → AreOrdered nodes
    → Gives nodes (add_matrix prefix most nodes cs) (λ a. matrix_holds (by_level prefix a) cs)
unfolding add_matrix
matrix_gives prefix zero nodes [] l o = add_gives (Const true) nodes o tt
matrix_gives prefix zero nodes (c ∷ cs) l o = absurd (omega arith)
matrix_gives prefix (suc most) nodes [] l o = add_gives (Const true) nodes o tt
matrix_gives prefix (suc most) nodes (c ∷ []) l o = reads nodes _ _ _ (λ a. one _) (clause_gives prefix nodes c o)
  where
    one : (b : Bool) → b ≡ (b && true)
    one b = grind arith
matrix_gives prefix (suc most) nodes (c ∷ d ∷ cs) l o =
    let half = (length (c ∷ d ∷ cs) + 1) / 2 in
    let left = add_matrix prefix most nodes (take half (c ∷ d ∷ cs)) in
    let right = add_matrix prefix most left.nodes (drop half (c ∷ d ∷ cs)) in
    let u : Gives nodes left (λ a. matrix_holds (by_level prefix a) (take half (c ∷ d ∷ cs))) =
    matrix_gives prefix most nodes (take half (c ∷ d ∷ cs)) (omega (arith, length-take half (c ∷ d ∷ cs))) o in
    let w : Gives left.nodes right (λ a. matrix_holds (by_level prefix a) (drop half (c ∷ d ∷ cs))) =
    matrix_gives prefix most left.nodes (drop half (c ∷ d ∷ cs)) (omega (arith, length-drop half (c ∷ d ∷ cs))) u.ordered in
    after nodes right _ _ _ (after nodes left right _ _ u w)
    (reads right.nodes _ _ _ (λ a. sym (list_all-append (clause_holds (by_level prefix a)) (take half (c ∷ d ∷ cs)) (drop half (c ∷ d ∷ cs))) ∙ ap (matrix_holds (by_level prefix a)) (take-append-drop half (c ∷ d ∷ cs)))
    (add_and right.nodes left.number right.number _ _ w.ordered (kept left.nodes right _ u.ordered w left.number _ u.means) w.means))
