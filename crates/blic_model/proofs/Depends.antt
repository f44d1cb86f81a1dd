-- A node's value, and each part of it, depend on its free levels alone.
use Rattle.std.proofs.Common.{arith, ℕ, ◌≡◌, ◌<◌, refl, sym, ◌∙◌, ap, subst, inl, inr, List, [], ◌∷◌, take, Bool, true, not, ◌&&◌, eqb}
use Rattle.std.specs.Prelude.{fold, All}
use mathlib.Core.Path.{ap₂}
use Rattle.std.proofs.lemmas.Bool.{cases_eq, eq-eqb, ne_eqb, or_left, or_right}
use Rattle.std.proofs.lemmas.List.Elements.{All-head, All-tail, All-take, filter_passes}
use Rattle.blic_field.specs.Field.{mul, sub, or}
use Rattle.blic_model.specs.declared.node.Node.{Node}
use Rattle.blic_model.specs.declared.node.Node.TheVariants.{Const, Var, Not, Fix, And, Or}
use Rattle.blic_model.specs.Circuit.{node_at, below, free_step, is_free, free}
use Rattle.blic_model.specs.Value.{Point, put, bit, linearize, value_step, value}
use Rattle.blic_model.specs.Reduction.{combined, part}
use Rattle.blic_model.specs.Degree.{DependsOn}
use Rattle.blic_model.proofs.Put.{put_here, put_other}
use Rattle.blic_model.proofs.Ordered.{ChildrenBelow, AllOrdered, strong}
use Rattle.blic_model.proofs.Entries.{is_free-step, value-step}
use Rattle.blic_model.proofs.Degrees.{linearize-def}

same_put : (test : ℕ → Bool) (s r : Point) → ((x : ℕ) → test x ≡ true → s x ≡ r x) → (y t x : ℕ) → test x ≡ true → put s y t x ≡ put r y t x
same_put test s r h y t x e = let q : s x ≡ r x = h x e in grind arith

DependsOn-linearize : (f : Point → ℕ) (test : ℕ → Bool) (y : ℕ) → test y ≡ true → DependsOn f test → DependsOn (linearize f y) test
DependsOn-linearize f test y e d s r h =
    let q : s y ≡ r y = h y e in
    let u : f (put s y 0) ≡ f (put r y 0) = d (put s y 0) (put r y 0) (same_put test s r h y 0) in
    let w : f (put s y 1) ≡ f (put r y 1) = d (put s y 1) (put r y 1) (same_put test s r h y 1) in
    linearize-def f y s ∙ rw (q, u, w) refl ∙ sym (linearize-def f y r)

DependsOn-fold : (test : ℕ → Bool) (xs : List ℕ) → All (λ x. test x ≡ true) xs → (f : Point → ℕ) → DependsOn f test
    → DependsOn (fold linearize f xs) test
DependsOn-fold test [] a f d = d
DependsOn-fold test (y ∷ ys) a f d =
    DependsOn-fold test ys (All-tail (λ x. test x ≡ true) y ys a) (linearize f y) (DependsOn-linearize f test y (All-head (λ x. test x ≡ true) y ys a) d)

pub free_all : (nodes : List Node) (levels k : ℕ) → All (λ x. is_free nodes k x ≡ true) (free nodes levels k)
unfolding free
free_all nodes levels k = filter_passes (is_free nodes k) (below levels)

still_free : (c : Bool) (x y : ℕ) → (x ≡ y → ⊥) → c ≡ true → (c && not (eqb x y)) ≡ true
still_free c x y q f = grind (arith, ne_eqb x y q)

depends_step : (nodes : List Node) (levels k : ℕ) → ((j : ℕ) → j < k → DependsOn (value nodes levels j) (is_free nodes j))
    → (m : Node) → ChildrenBelow k m → ((x : ℕ) → free_step k m (is_free nodes) x ≡ is_free nodes k x)
    → DependsOn (value_step nodes levels k m (value nodes levels)) (is_free nodes k)
depends_step nodes levels k ih (Const b) h f s r q = refl
depends_step nodes levels k ih (Var y) h f s r q = q y (sym (f y) ∙ eq-eqb y y refl)
depends_step nodes levels k ih (Not a) h f s r q = ap (λ z. sub 1 z) (ih a h s r (λ x e. q x (sym (f x) ∙ e)))
depends_step nodes levels k ih (Fix y b a) h f s r q =
    ih a h (put s y (bit b)) (put r y (bit b)) (λ x e. elim (cases_eq x y) [
      | inl w ↦ subst (λ z. put s y (bit b) z ≡ put r y (bit b) z) (sym w) (put_here s y (bit b) ∙ sym (put_here r y (bit b)))
      | inr n ↦ put_other s y (bit b) x n ∙ (q x (sym (f x) ∙ still_free (is_free nodes a x) x y n e) ∙ sym (put_other r y (bit b) x n))
    ])
depends_step nodes levels k ih (And a b) h f s r q =
    DependsOn-fold (is_free nodes k) (free nodes levels k) (free_all nodes levels k) (λ r. mul (value nodes levels a r) (value nodes levels b r))
    (λ s r q. ap₂ mul (ih a h.0 s r (λ x e. q x (sym (f x) ∙ or_left _ _ e))) (ih b h.1 s r (λ x e. q x (sym (f x) ∙ or_right _ _ e)))) s r q
depends_step nodes levels k ih (Or a b) h f s r q =
    DependsOn-fold (is_free nodes k) (free nodes levels k) (free_all nodes levels k) (λ r. or (value nodes levels a r) (value nodes levels b r))
    (λ s r q. ap₂ or (ih a h.0 s r (λ x e. q x (sym (f x) ∙ or_left _ _ e))) (ih b h.1 s r (λ x e. q x (sym (f x) ∙ or_right _ _ e)))) s r q

-- A value depends on the node's free levels alone.
pub value_depends : (nodes : List Node) (levels : ℕ) → AllOrdered nodes → (k : ℕ) → DependsOn (value nodes levels k) (is_free nodes k)
value_depends nodes levels o = strong (λ k. DependsOn (value nodes levels k) (is_free nodes k))
    (λ k ih s r q. value-step nodes levels k (o k) s
    ∙ (depends_step nodes levels k ih (node_at nodes k) (o k) (λ x. sym (is_free-step nodes k (o k) x)) s r q ∙ sym (value-step nodes levels k (o k) r)))

combined_depends : (nodes : List Node) (levels k : ℕ) → ((j : ℕ) → DependsOn (value nodes levels j) (is_free nodes j))
    → (m : Node) → ((x : ℕ) → free_step k m (is_free nodes) x ≡ is_free nodes k x) → DependsOn (combined m (value nodes levels)) (is_free nodes k)
combined_depends nodes levels k v (Const b) f s r q = refl
combined_depends nodes levels k v (Var y) f s r q = refl
combined_depends nodes levels k v (Not a) f s r q = refl
combined_depends nodes levels k v (Fix y b a) f s r q = refl
combined_depends nodes levels k v (And a b) f s r q =
    ap₂ mul (v a s r (λ x e. q x (sym (f x) ∙ or_left _ _ e))) (v b s r (λ x e. q x (sym (f x) ∙ or_right _ _ e)))
combined_depends nodes levels k v (Or a b) f s r q =
    ap₂ or (v a s r (λ x e. q x (sym (f x) ∙ or_left _ _ e))) (v b s r (λ x e. q x (sym (f x) ∙ or_right _ _ e)))

-- and so does `part`
pub part_depends : (nodes : List Node) (levels : ℕ) → AllOrdered nodes → (k i : ℕ) → DependsOn (part nodes levels k i) (is_free nodes k)
unfolding part
part_depends nodes levels o k i =
    DependsOn-fold (is_free nodes k) (take i (free nodes levels k)) (All-take (λ x. is_free nodes k x ≡ true) i (free nodes levels k) (free_all nodes levels k))
    (combined (node_at nodes k) (value nodes levels))
    (combined_depends nodes levels k (value_depends nodes levels o) (node_at nodes k) (λ x. sym (is_free-step nodes k (o k) x)))
