-- The free levels of what was built.
use Rattle.std.proofs.Common.{arith, ℕ, zero, suc, ◌≡◌, ◌+◌, ◌<◌, ◌≤◌, refl, sym, ◌∙◌, ap, subst, inl, inr, List, [], ◌∷◌, ◌++◌, length, take, drop, Bool, true, false, cond, not, ◌&&◌, ◌||◌, eqb}
use Rattle.std.specs.Prelude.{fold, ◌/◌, All}
use mathlib.Core.Path.{ap₂}
use Rattle.std.proofs.lemmas.Bool.{eqb-true, and_parts, or_cases, false≢true, not-true}
use Rattle.std.proofs.lemmas.List.{get_or_append_left, length-take, length-drop}
use Rattle.std.proofs.lemmas.List.Elements.{All-head, All-tail, All-take, All-drop}
use Rattle.blic_model.specs.declared.node.Node.{Node}
use Rattle.blic_model.specs.declared.node.Node.TheVariants.{Const, Var, Not, Fix, And, Or}
use Rattle.blic_model.specs.declared.prefix.Bound.{Bound}
use Rattle.blic_model.specs.declared.formula.Lit.{Lit}
use Rattle.blic_model.specs.Circuit.{node_at, free_step, is_free}
use Rattle.blic_model.specs.Building.{Added, add_node, level_of, add_literal, add_clause, add_matrix}
use Rattle.blic_model.proofs.Ordered.{ChildrenBelow, AreOrdered, all_ordered, strong}
use Rattle.blic_model.proofs.Entries.{is_free-step}
use Rattle.blic_model.proofs.Adding.{Gives, longer, add_gives, added_node}
use Rattle.blic_model.proofs.Matrix.{literal_gives, or_literal, or_literal_gives, matrix_gives}

step_agree : (k : ℕ) (m : Node) (l : ℕ) → ChildrenBelow l m → (F G : ℕ → ℕ → Bool) (x : ℕ) → ((j : ℕ) → j < l → F j x ≡ G j x)
    → free_step k m F x ≡ free_step 0 m G x
step_agree k (Const b) l h F G x e = refl
step_agree k (Var y) l h F G x e = refl
step_agree k (Not c) l h F G x e = e c h
step_agree k (Fix y b c) l h F G x e = ap (λ p. p && not (eqb x y)) (e c h)
step_agree k (And c d) l h F G x e = ap₂ (λ p q. p || q) (e c h.0) (e d h.1)
step_agree k (Or c d) l h F G x e = ap₂ (λ p q. p || q) (e c h.0) (e d h.1)

same_step : (k : ℕ) (m : Node) (F : ℕ → ℕ → Bool) (x : ℕ) → free_step 0 m F x ≡ free_step k m F x
same_step k (Const b) F x = refl
same_step k (Var y) F x = refl
same_step k (Not c) F x = refl
same_step k (Fix y b c) F x = refl
same_step k (And c d) F x = refl
same_step k (Or c d) F x = refl

-- a node keeps its free levels where nodes are appended
free_more : (nodes more : List Node) → AreOrdered nodes → AreOrdered (nodes ++ more) → (x k : ℕ) → k < length nodes
    → is_free (nodes ++ more) k x ≡ is_free nodes k x
free_more nodes more o p x =
    strong (λ k. k < length nodes → is_free (nodes ++ more) k x ≡ is_free nodes k x)
    (λ k ih l.
    let e : node_at (nodes ++ more) k ≡ node_at nodes k = get_or_append_left nodes more (Const false) k l in
    is_free-step (nodes ++ more) k (all_ordered (nodes ++ more) p k) x
    ∙ (ap (λ m. free_step k m (is_free (nodes ++ more)) x) e
    ∙ (step_agree k (node_at nodes k) k (o k l) (is_free (nodes ++ more)) (is_free nodes) x (λ j h. ih j h (omega arith))
    ∙ (same_step k (node_at nodes k) (is_free nodes) x ∙ sym (is_free-step nodes k (o k l) x)))))

pub free_kept : (nodes : List Node) (b : Added) (f : (ℕ → Bool) → Bool) → AreOrdered nodes → Gives nodes b f → (k : ℕ) → k < length nodes → (x : ℕ)
    → is_free b.nodes k x ≡ is_free nodes k x
free_kept nodes b f o h k l x =
    subst (λ ns. is_free ns k x ≡ is_free nodes k x) (sym h.extends) (free_more nodes h.more o (subst AreOrdered h.extends h.ordered) x k l)

-- the free levels of a node that is added come from its children
pub add_free : (n : Node) (nodes : List Node) → AreOrdered nodes → ChildrenBelow (length nodes) n → (x : ℕ)
    → is_free (add_node n nodes).nodes (add_node n nodes).number x ≡ free_step 0 n (is_free nodes) x
add_free n nodes o h x =
    let b = add_node n nodes in
    let g = add_gives n nodes o h in
    is_free-step b.nodes b.number (all_ordered b.nodes g.ordered b.number) x
    ∙ (ap (λ m. free_step b.number m (is_free b.nodes) x) (added_node n nodes)
    ∙ step_agree b.number n (length nodes) h (is_free b.nodes) (is_free nodes) x (λ j l. free_kept nodes b (λ a. _) o g j l x))

-- each free level of node k passes T
abbrev pub FreeIn : (ℕ → Type 0) → List Node → ℕ → Type 0
FreeIn T nodes k = (x : ℕ) → is_free nodes k x ≡ true → T x

abbrev pub HasFreeIn : (ℕ → Type 0) → Added → Type 0
HasFreeIn T b = FreeIn T b.nodes b.number

pub free_still : (T : ℕ → Type 0) (nodes : List Node) (b : Added) (f : (ℕ → Bool) → Bool) → AreOrdered nodes → Gives nodes b f → (k : ℕ)
    → k < length nodes → FreeIn T nodes k → FreeIn T b.nodes k
free_still T nodes b f o g k l t x e = t x (sym (free_kept nodes b f o g k l x) ∙ e)

pub const_free : (T : ℕ → Type 0) (c : Bool) (nodes : List Node) → AreOrdered nodes → HasFreeIn T (add_node (Const c) nodes)
const_free T c nodes o x e = absurd (false≢true (sym (add_free (Const c) nodes o tt x) ∙ e))

var_free : (T : ℕ → Type 0) (y : ℕ) (nodes : List Node) → AreOrdered nodes → T y → HasFreeIn T (add_node (Var y) nodes)
var_free T y nodes o t x e = subst T (sym (eqb-true x y (sym (add_free (Var y) nodes o tt x) ∙ e))) t

not_free : (T : ℕ → Type 0) (k : ℕ) (nodes : List Node) → AreOrdered nodes → k < length nodes → FreeIn T nodes k
    → HasFreeIn T (add_node (Not k) nodes)
not_free T k nodes o l t x e = t x (sym (add_free (Not k) nodes o l x) ∙ e)

pub fix_free : (T : ℕ → Type 0) (y : ℕ) (c : Bool) (k : ℕ) (nodes : List Node) → AreOrdered nodes → k < length nodes → FreeIn T nodes k
    → (x : ℕ) → is_free (add_node (Fix y c k) nodes).nodes (add_node (Fix y c k) nodes).number x ≡ true → T x × (eqb x y ≡ false)
fix_free T y c k nodes o l t x e =
    let w = and_parts (is_free nodes k x) (not (eqb x y)) (sym (add_free (Fix y c k) nodes o l x) ∙ e) in
    (t x w.0, not-true (eqb x y) w.1)

pub and_free : (T : ℕ → Type 0) (j k : ℕ) (nodes : List Node) → AreOrdered nodes → j < length nodes → k < length nodes → FreeIn T nodes j
    → FreeIn T nodes k → HasFreeIn T (add_node (And j k) nodes)
and_free T j k nodes o l m t u x e =
    elim (or_cases (is_free nodes j x) (is_free nodes k x) (sym (add_free (And j k) nodes o (l, m) x) ∙ e)) [ inl q ↦ t x q | inr q ↦ u x q ]

pub or_free : (T : ℕ → Type 0) (j k : ℕ) (nodes : List Node) → AreOrdered nodes → j < length nodes → k < length nodes → FreeIn T nodes j
    → FreeIn T nodes k → HasFreeIn T (add_node (Or j k) nodes)
or_free T j k nodes o l m t u x e =
    elim (or_cases (is_free nodes j x) (is_free nodes k x) (sym (add_free (Or j k) nodes o (l, m) x) ∙ e)) [ inl q ↦ t x q | inr q ↦ u x q ]

-- the level of a literal
abbrev pub LevelIn : (ℕ → Type 0) → List Bound → Lit → Type 0
LevelIn T prefix l = T (level_of prefix l.var)

literal_free : (T : ℕ → Type 0) (prefix : List Bound) (nodes : List Node) (l : Lit) → AreOrdered nodes → LevelIn T prefix l
    → HasFreeIn T (add_literal prefix nodes l)
unfolding add_literal
literal_free T prefix nodes l o t = go l.negative
  where
    v : Added
    v = add_node (Var (level_of prefix l.var)) nodes

    g : Gives nodes v (λ a. a (level_of prefix l.var))
    g = add_gives (Var (level_of prefix l.var)) nodes o tt

    vf : HasFreeIn T v
    vf = var_free T (level_of prefix l.var) nodes o t

    go : (b : Bool) → HasFreeIn T (cond b (add_node (Not v.number) v.nodes) v)
    go true = not_free T v.number v.nodes g.ordered g.means.0 vf
    go false = vf

or_literal_free : (T : ℕ → Type 0) (prefix : List Bound) (nodes : List Node) (so_far : Added) (f : (ℕ → Bool) → Bool) → Gives nodes so_far f
    → (m : Lit) → LevelIn T prefix m → HasFreeIn T so_far → HasFreeIn T (or_literal prefix so_far m)
or_literal_free T prefix nodes so_far f h m t u =
    let b = add_literal prefix so_far.nodes m in
    let g = literal_gives prefix so_far.nodes m h.ordered in
    let l : so_far.number < length b.nodes = omega (arith, h.means.0, longer so_far.nodes b _ g) in
    or_free T so_far.number b.number b.nodes g.ordered l g.means.0 (free_still T so_far.nodes b _ h.ordered g so_far.number h.means.0 u)
    (literal_free T prefix so_far.nodes m h.ordered t)

literals_free : (T : ℕ → Type 0) (prefix : List Bound) (nodes : List Node) (ls : List Lit) → All (LevelIn T prefix) ls
    → (so_far : Added) (f : (ℕ → Bool) → Bool) → Gives nodes so_far f → HasFreeIn T so_far
    → HasFreeIn T (fold (or_literal prefix) so_far ls)
literals_free T prefix nodes [] t so_far f h u = u
literals_free T prefix nodes (m ∷ ms) t so_far f h u =
    literals_free T prefix nodes ms (All-tail (LevelIn T prefix) m ms t) (or_literal prefix so_far m) _ (or_literal_gives prefix nodes so_far f h m)
    (or_literal_free T prefix nodes so_far f h m (All-head (LevelIn T prefix) m ms t) u)

clause_free : (T : ℕ → Type 0) (prefix : List Bound) (nodes : List Node) (c : List Lit) → AreOrdered nodes → All (LevelIn T prefix) c
    → HasFreeIn T (add_clause prefix nodes c)
unfolding add_clause
clause_free T prefix nodes [] o t = const_free T false nodes o
clause_free T prefix nodes (l ∷ ls) o t =
    literals_free T prefix nodes ls (All-tail (LevelIn T prefix) l ls t) (add_literal prefix nodes l) _ (literal_gives prefix nodes l o)
    (literal_free T prefix nodes l o (All-head (LevelIn T prefix) l ls t))

-- the free levels of a matrix are levels of its literals
pub matrix_free : (T : ℕ → Type 0) (prefix : List Bound) (most : ℕ) (nodes : List Node) (cs : List (List Lit)) → length cs ≤ most → AreOrdered nodes
    → All (All (LevelIn T prefix)) cs
    → HasFreeIn T (add_matrix prefix most nodes cs)
unfolding add_matrix
matrix_free T prefix zero nodes cs l o t = const_free T true nodes o
matrix_free T prefix (suc most) nodes [] l o t = const_free T true nodes o
matrix_free T prefix (suc most) nodes (c ∷ []) l o t = clause_free T prefix nodes c o (All-head (All (LevelIn T prefix)) c [] t)
matrix_free T prefix (suc most) nodes (c ∷ d ∷ cs) l o t =
    let half = (length (c ∷ d ∷ cs) + 1) / 2 in
    let left = add_matrix prefix most nodes (take half (c ∷ d ∷ cs)) in
    let right = add_matrix prefix most left.nodes (drop half (c ∷ d ∷ cs)) in
    let u = matrix_gives prefix most nodes (take half (c ∷ d ∷ cs)) (omega (arith, length-take half (c ∷ d ∷ cs))) o in
    let w = matrix_gives prefix most left.nodes (drop half (c ∷ d ∷ cs)) (omega (arith, length-drop half (c ∷ d ∷ cs))) u.ordered in
    let within : left.number < length right.nodes = omega (arith, u.means.0, longer left.nodes right _ w) in
    and_free T left.number right.number right.nodes w.ordered within w.means.0
    (free_still T left.nodes right _ u.ordered w left.number u.means.0
    (matrix_free T prefix most nodes (take half (c ∷ d ∷ cs)) (omega (arith, length-take half (c ∷ d ∷ cs))) o (All-take (All (LevelIn T prefix)) half (c ∷ d ∷ cs) t)))
    (matrix_free T prefix most left.nodes (drop half (c ∷ d ∷ cs)) (omega (arith, length-drop half (c ∷ d ∷ cs))) u.ordered (All-drop (All (LevelIn T prefix)) half (c ∷ d ∷ cs) t))
