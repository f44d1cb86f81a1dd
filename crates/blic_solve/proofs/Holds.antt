-- A node's function comes from those of its children, and depends on its free levels alone.
use Rattle.std.proofs.Common.{arith, ℕ, ◌<◌, ◌≡◌, refl, sym, ◌∙◌, ap, subst, inl, inr, List, length, Bool, true, false, not, ◌&&◌, ◌||◌, eqb}
use mathlib.Core.Path.{ap₂}
use Rattle.std.proofs.lemmas.Bool.{cases_lt, cases_eq, eq-eqb, eqb-true, ne_eqb, or_left, or_right, ltb-true, and_parts, or_cases}
use Rattle.std.proofs.lemmas.List.{get_or_past}
use Rattle.blic_model.specs.declared.node.Node.{Node}
use Rattle.blic_model.specs.declared.node.Node.TheVariants.{Const, Var, Not, Fix, And, Or}
use Rattle.blic_model.specs.Circuit.{node_at, root, free_step, is_free}
use Rattle.blic_model.specs.Shape.{levels_below, IsShaped}
use Rattle.blic_model.specs.Value.{put, holds_step, holds}
use Rattle.blic_model.proofs.Put.{put_here, put_other}
use Rattle.blic_model.proofs.Ordered.{ChildrenBelow, AllOrdered, ordered_all, strong}
use Rattle.blic_model.proofs.Entries.{is_free-step, holds-step}
use Rattle.blic_model.proofs.Shaped.{ordered_of, in_range_of, closed_of}
use Rattle.blic_store.specs.Function.{Function, Same}
use Rattle.blic_solve.proofs.Tables.{LooksBelow}

-- a function that looks at the levels that pass the test alone
abbrev LooksAt : (ℕ → Bool) → Function → Type 0
LooksAt test f = (p q : ℕ → Bool) → ((x : ℕ) → test x ≡ true → p x ≡ q x) → f p ≡ f q

still_free : (c : Bool) (x y : ℕ) → (x ≡ y → ⊥) → c ≡ true → (c && not (eqb x y)) ≡ true
still_free c x y q f = grind (arith, ne_eqb x y q)

depends_step : (nodes : List Node) (k : ℕ) → ((j : ℕ) → j < k → LooksAt (is_free nodes j) (holds nodes j))
    → (m : Node) → ChildrenBelow k m → ((x : ℕ) → free_step k m (is_free nodes) x ≡ is_free nodes k x)
    → LooksAt (is_free nodes k) (holds_step k m (holds nodes))
depends_step nodes k ih (Const b) h f p q e = refl
depends_step nodes k ih (Var y) h f p q e = e y (sym (f y) ∙ eq-eqb y y refl)
depends_step nodes k ih (Not a) h f p q e = ap not (ih a h p q (λ x i. e x (sym (f x) ∙ i)))
depends_step nodes k ih (Fix y b a) h f p q e =
    ih a h (put p y b) (put q y b) (λ x i. elim (cases_eq x y) [
      | inl w ↦ subst (λ z. put p y b z ≡ put q y b z) (sym w) (put_here p y b ∙ sym (put_here q y b))
      | inr n ↦ put_other p y b x n ∙ (e x (sym (f x) ∙ still_free (is_free nodes a x) x y n i) ∙ sym (put_other q y b x n))
    ])
depends_step nodes k ih (And a b) h f p q e =
    ap₂ (λ x y. x && y) (ih a h.0 p q (λ x i. e x (sym (f x) ∙ or_left _ _ i))) (ih b h.1 p q (λ x i. e x (sym (f x) ∙ or_right _ _ i)))
depends_step nodes k ih (Or a b) h f p q e =
    ap₂ (λ x y. x || y) (ih a h.0 p q (λ x i. e x (sym (f x) ∙ or_left _ _ i))) (ih b h.1 p q (λ x i. e x (sym (f x) ∙ or_right _ _ i)))

looks_at_free : (nodes : List Node) → AllOrdered nodes → (k : ℕ) → LooksAt (is_free nodes k) (holds nodes k)
looks_at_free nodes o = strong (λ k. LooksAt (is_free nodes k) (holds nodes k))
    (λ k ih p q e. holds-step nodes k (o k) p
    ∙ (depends_step nodes k ih (node_at nodes k) (o k) (λ x. sym (is_free-step nodes k (o k) x)) p q e ∙ sym (holds-step nodes k (o k) q)))

below_step : (nodes : List Node) (levels k : ℕ) → ((j : ℕ) → j < k → (x : ℕ) → is_free nodes j x ≡ true → x < levels)
    → (m : Node) → ChildrenBelow k m → levels_below levels m ≡ true → (x : ℕ) → free_step k m (is_free nodes) x ≡ true → x < levels
below_step nodes levels k ih (Const b) h l x f = absurd (let w : false ≡ true = f in cc)
below_step nodes levels k ih (Var y) h l x f = subst (λ z. z < levels) (sym (eqb-true x y f)) (ltb-true y levels l)
below_step nodes levels k ih (Not a) h l x f = ih a h x f
below_step nodes levels k ih (Fix y b a) h l x f = ih a h x (and_parts (is_free nodes a x) (not (eqb x y)) f).0
below_step nodes levels k ih (And a b) h l x f = elim (or_cases (is_free nodes a x) (is_free nodes b x) f) [ inl i ↦ ih a h.0 x i | inr i ↦ ih b h.1 x i ]
below_step nodes levels k ih (Or a b) h l x f = elim (or_cases (is_free nodes a x) (is_free nodes b x) f) [ inl i ↦ ih a h.0 x i | inr i ↦ ih b h.1 x i ]

all_in_range : (nodes : List Node) (levels : ℕ) → IsShaped nodes levels → (k : ℕ) → levels_below levels (node_at nodes k) ≡ true
all_in_range nodes levels s k = elim (cases_lt k (length nodes)) [
  | inl l ↦ in_range_of nodes levels s k l
  | inr l ↦ ap (levels_below levels) (get_or_past nodes k (Const false) l)
]

pub ordered : (nodes : List Node) (levels : ℕ) → IsShaped nodes levels → AllOrdered nodes
ordered nodes levels s = ordered_all nodes (ordered_of nodes levels s)

free_below : (nodes : List Node) (levels : ℕ) → IsShaped nodes levels → (k x : ℕ) → is_free nodes k x ≡ true → x < levels
free_below nodes levels s = strong (λ k. (x : ℕ) → is_free nodes k x ≡ true → x < levels)
    (λ k ih x f. (let o = ordered nodes levels s k in
    below_step nodes levels k ih (node_at nodes k) o (all_in_range nodes levels s k) x (sym (is_free-step nodes k o x) ∙ f)))

-- The functions of a circuit's nodes look at its levels alone.
pub looks_below : (nodes : List Node) (levels : ℕ) → IsShaped nodes levels → (k : ℕ) → LooksBelow levels (holds nodes k)
looks_below nodes levels s k p q e = looks_at_free nodes (ordered nodes levels s) k p q (λ x f. e x (free_below nodes levels s k x f))

-- The root has one value at all points.
pub root_constant : (nodes : List Node) (levels : ℕ) → IsShaped nodes levels → (p q : ℕ → Bool) → holds nodes (root nodes) p ≡ holds nodes (root nodes) q
root_constant nodes levels s p q = looks_at_free nodes (ordered nodes levels s) (root nodes) p q (λ x f.
    absurd (let w : false ≡ true = sym (closed_of nodes levels s x (free_below nodes levels s (root nodes) x f)) ∙ f in cc))

-- What a node makes of functions that are those of its children is its function.
pub step_same : (nodes : List Node) (k : ℕ) (known : ℕ → Function) → ((j : ℕ) → j < k → Same (known j) (holds nodes j)) → ChildrenBelow k (node_at nodes k)
    → Same (holds_step k (node_at nodes k) known) (holds nodes k)
step_same nodes k known e o p = go (node_at nodes k) o ∙ sym (holds-step nodes k o p)
  where
    go : (m : Node) → ChildrenBelow k m → holds_step k m known p ≡ holds_step k m (holds nodes) p
    go (Const b) h = refl
    go (Var y) h = refl
    go (Not a) h = ap not (e a h p)
    go (Fix y b a) h = e a h (put p y b)
    go (And a b) h = ap₂ (λ x y. x && y) (e a h.0 p) (e b h.1 p)
    go (Or a b) h = ap₂ (λ x y. x || y) (e a h.0 p) (e b h.1 p)
