-- Degree reduction: each part is of degree at most 2 in each level, so that one polynomial gives it, and no other.
use Rattle.std.proofs.Common.{arith, ℕ, zero, suc, ◌≡◌, ◌+◌, ◌<◌, refl, sym, ◌∙◌, ap, subst, List, [], ◌∷◌, length, get_or, take, Bool, true, false, cond}
use Rattle.std.specs.Prelude.{fold, filter, All}
use Rattle.std.proofs.lemmas.List.{take_more}
use Rattle.std.proofs.Math.Seq.{take-length}
use Rattle.std.proofs.lemmas.List.Elements.{filter-append, All-append, All-weaker, All-nil, All-cons, All-get_or}
use Rattle.std.proofs.lemmas.List.Sums.{fold-append}
use Rattle.blic_field.specs.Field.{modulus, minus_one, add, mul}
use Rattle.blic_field.specs.Quadratic.{Quadratic, at, HasElements}
use Rattle.blic_field.proofs.Ring.{ring, mul_below, or_below, blend_below}
use Rattle.blic_field.proofs.Interpolation.{at-def, at-interpolate, interpolate_unique, HasElements-interpolate}
use Rattle.blic_model.specs.declared.node.Node.{Node}
use Rattle.blic_model.specs.declared.node.Node.TheVariants.{Const, Var, Not, Fix, And, Or}
use Rattle.blic_model.specs.Circuit.{node_at, below, is_free, free}
use Rattle.blic_model.specs.Value.{Point, put, linearize, value_step, value}
use Rattle.blic_model.specs.Counts.{is_binary}
use Rattle.blic_model.specs.Reduction.{combined, part, poly}
use Rattle.blic_model.specs.Degree.{IsPoint, IsLinear, IsQuadratic}
use Rattle.blic_model.specs.Laws.{free_level}
use Rattle.blic_model.proofs.Ordered.{AllOrdered}
use Rattle.blic_model.proofs.Entries.{value-step}
use Rattle.blic_model.proofs.Degrees.{IsQuadratic-mul, IsQuadratic-or, IsLinear-linearize_here, IsQuadratic-fold, IsLinear-fold, linearize-def}
use Rattle.blic_model.proofs.LinearValues.{value_linear}

nought : (t : ℕ) → 0 ≡ add 0 (add (mul 0 t) (mul 0 (mul t t)))
nought t = simp ring (omega arith)

quadratic_combined : (value : ℕ → Point → ℕ) (x : ℕ) → ((j : ℕ) → IsLinear (value j) x) → (m : Node) → IsQuadratic (combined m value) x
quadratic_combined value x v (Const b) s p = (0, 0, 0, λ t r. nought t)
quadratic_combined value x v (Var y) s p = (0, 0, 0, λ t r. nought t)
quadratic_combined value x v (Not a) s p = (0, 0, 0, λ t r. nought t)
quadratic_combined value x v (Fix y b a) s p = (0, 0, 0, λ t r. nought t)
quadratic_combined value x v (And a b) s p = IsQuadratic-mul (value a) (value b) x (v a) (v b) s p
quadratic_combined value x v (Or a b) s p = IsQuadratic-or (value a) (value b) x (v a) (v b) s p

-- `part` is of degree at most 2 in each level.
pub part_quadratic : (nodes : List Node) (levels : ℕ) → AllOrdered nodes → (k i x : ℕ) → x < levels → IsQuadratic (part nodes levels k i) x
unfolding part
part_quadratic nodes levels o k i x l =
    IsQuadratic-fold (take i (free nodes levels k)) (combined (node_at nodes k) (value nodes levels)) x
    (quadratic_combined (value nodes levels) x (λ j. value_linear nodes levels o x l j) (node_at nodes k))

pub All-below : (test : ℕ → Bool) (n : ℕ) → All (λ x. x < n) (filter test (below n))
unfolding below
All-below test zero = All-nil (λ x. x < zero)
All-below test (suc n) =
    subst (λ ys. All (λ x. x < suc n) ys) (sym (filter-append test (below n) (n ∷ [])))
    (All-append (λ x. x < suc n) (filter test (below n)) (filter test (n ∷ []))
    (All-weaker (λ x. x < n) (λ x. x < suc n) (λ x h. omega arith) (filter test (below n)) (All-below test n)) (last (test n)))
  where
    last : (b : Bool) → All (λ x. x < suc n) (cond b (n ∷ []) [])
    last true = All-cons (λ x. x < suc n) n [] (omega arith) (All-nil (λ x. x < suc n))
    last false = All-nil (λ x. x < suc n)

pub free_below : (nodes : List Node) (levels k i : ℕ) → i < length (free nodes levels k) → free_level nodes levels k i < levels
unfolding free
free_below nodes levels k i l = All-get_or (λ x. x < levels) (free nodes levels k) i 0 l (All-below (is_free nodes k) levels)

-- the polynomial of a level gives the part's values along it
pub at-poly : (nodes : List Node) (levels : ℕ) → AllOrdered nodes → (k i : ℕ) → i < length (free nodes levels k) → (s : Point) → IsPoint s → (t : ℕ)
    → t < modulus
    → at (poly nodes levels k i s) t ≡ part nodes levels k i (put s (free_level nodes levels k i) t)
unfolding poly
at-poly nodes levels o k i l s p t r =
    let w = part_quadratic nodes levels o k i (free_level nodes levels k i) (free_below nodes levels k i l) s p in
    let q : Quadratic = record { c0 = w.0; c1 = w.1; c2 = w.2 } in
    at-interpolate (λ t. part nodes levels k i (put s (free_level nodes levels k i) t)) q (λ x h. w.3 x h ∙ sym (at-def q x)) t r

combined_below : (m : Node) (value : ℕ → Point → ℕ) (s : Point) → combined m value s < modulus
combined_below (Const b) value s = omega arith
combined_below (Var x) value s = omega arith
combined_below (Not a) value s = omega arith
combined_below (Fix x b a) value s = omega arith
combined_below (And a b) value s = mul_below _ _
combined_below (Or a b) value s = or_below _ _

fold_below : (xs : List ℕ) (f : Point → ℕ) → ((s : Point) → f s < modulus) → (s : Point) → fold linearize f xs s < modulus
fold_below [] f h s = h s
fold_below (y ∷ ys) f h s = fold_below ys (linearize f y) (λ r. subst (λ z. z < modulus) (sym (linearize-def f y r)) (blend_below _ _ _)) s

pub part_below : (nodes : List Node) (levels k i : ℕ) (s : Point) → part nodes levels k i s < modulus
unfolding part
part_below nodes levels k i s =
    fold_below (take i (free nodes levels k)) (combined (node_at nodes k) (value nodes levels)) (combined_below (node_at nodes k) (value nodes levels)) s

pub HasElements-poly : (nodes : List Node) (levels k i : ℕ) (s : Point) → HasElements (poly nodes levels k i s)
unfolding poly
HasElements-poly nodes levels k i s = HasElements-interpolate _ (part_below nodes levels k i _)

pub poly_unique : (nodes : List Node) (levels : ℕ) → AllOrdered nodes → (k i : ℕ) → i < length (free nodes levels k) → (s : Point) → IsPoint s
    → (p : Quadratic) → HasElements p
    → ((t : ℕ) → t < modulus → at p t ≡ part nodes levels k i (put s (free_level nodes levels k i) t)) → p ≡ poly nodes levels k i s
poly_unique nodes levels o k i l s point p h e =
    let same = λ (t : ℕ) (r : t < modulus). e t r ∙ sym (at-poly nodes levels o k i l s point t r) in
    interpolate_unique p (poly nodes levels k i s) h (HasElements-poly nodes levels k i s) (same 0 (omega arith)) (same 1 (omega arith)) (same minus_one (omega arith))

-- no level reduced
pub part_none : (nodes : List Node) (levels k : ℕ) (s : Point) → part nodes levels k 0 s ≡ combined (node_at nodes k) (value nodes levels) s
unfolding part
part_none nodes levels k s = refl

part_more_fold : (nodes : List Node) (levels k i : ℕ) → i < length (free nodes levels k)
    → part nodes levels k (i + 1) ≡ linearize (part nodes levels k i) (free_level nodes levels k i)
unfolding part
part_more_fold nodes levels k i l =
    ap (fold linearize (combined (node_at nodes k) (value nodes levels))) (take_more (free nodes levels k) i 0 l)
    ∙ fold-append linearize (combined (node_at nodes k) (value nodes levels)) (take i (free nodes levels k)) (free_level nodes levels k i ∷ [])

-- one more level reduced
pub part_more : (nodes : List Node) (levels k i : ℕ) → i < length (free nodes levels k) → (s : Point)
    → part nodes levels k (i + 1) s ≡ linearize (part nodes levels k i) (free_level nodes levels k i) s
part_more nodes levels k i l s = ap (λ f. f s) (part_more_fold nodes levels k i l)

whole : (nodes : List Node) (levels k : ℕ) → (m : Node) → is_binary m ≡ true → (s : Point)
    → fold linearize (combined m (value nodes levels)) (free nodes levels k) s ≡ value_step nodes levels k m (value nodes levels) s
whole nodes levels k (Const b) e s = absurd (cc)
whole nodes levels k (Var x) e s = absurd (cc)
whole nodes levels k (Not a) e s = absurd (cc)
whole nodes levels k (Fix x b a) e s = absurd (cc)
whole nodes levels k (And a b) e s = refl
whole nodes levels k (Or a b) e s = refl

-- each level reduced
pub part_all : (nodes : List Node) (levels : ℕ) → AllOrdered nodes → (k : ℕ) → is_binary (node_at nodes k) ≡ true → (s : Point)
    → part nodes levels k (length (free nodes levels k)) s ≡ value nodes levels k s
unfolding part
part_all nodes levels o k e s =
    ap (λ ys. fold linearize (combined (node_at nodes k) (value nodes levels)) ys s) (take-length (free nodes levels k))
    ∙ whole nodes levels k (node_at nodes k) e s ∙ sym (value-step nodes levels k (o k) s)

-- over a list of levels, from the one at place j on
linear_taken : (ys : List ℕ) (i j : ℕ) → j < i → j < length ys → (f : Point → ℕ) → IsLinear (fold linearize f (take i ys)) (get_or ys j 0)
linear_taken [] i j l h f = absurd (omega arith)
linear_taken (y ∷ ys) zero j l h f = absurd (omega arith)
linear_taken (y ∷ ys) (suc i) zero l h f = IsLinear-fold (take i ys) (linearize f y) y (IsLinear-linearize_here f y)
linear_taken (y ∷ ys) (suc i) (suc j) l h f = linear_taken ys i j (omega arith) (omega arith) (linearize f y)

-- what is reduced is linear, and stays so
pub reduced_linear : (nodes : List Node) (levels k i j : ℕ) → j < i → j < length (free nodes levels k)
    → IsLinear (part nodes levels k i) (free_level nodes levels k j)
unfolding part
reduced_linear nodes levels k i j l h = linear_taken (free nodes levels k) i j l h (combined (node_at nodes k) (value nodes levels))
