-- Points with their levels drawn.
use Rattle.std.proofs.Common.{arith, ℕ, zero, suc, ◌≡◌, ◌+◌, ◌<◌, ◌≤◌, refl, sym, ◌∙◌, ap, subst, ◌⊎◌, inl, inr, List, [], ◌∷◌, ◌++◌, length, get_or, drop, Bool, true, false, cond, not, eqb}
use Rattle.std.specs.Prelude.{filter, All, Contains}
use Rattle.std.proofs.lemmas.Bool.{cases_eq, cases_lt, eqb-true, ltb-true, and_parts, or_cases, false≢true}
use Rattle.std.proofs.lemmas.List.{get_or_append_left, get_or_push, length-append, get_or-drop, length-drop, drop_all, get_or_past}
use Rattle.std.proofs.Math.Seq.{drop-cons}
use Rattle.std.proofs.lemmas.List.Elements.{filter-append, All-from_get_or, All-head, All-tail, All-get_or}
use Rattle.blic_model.specs.declared.node.Node.{Node}
use Rattle.blic_model.specs.declared.node.Node.TheVariants.{Const, Var, Not, Fix, And, Or}
use Rattle.blic_field.specs.Field.{modulus}
use Rattle.blic_model.specs.Circuit.{node_at, below, free_step, is_free, free}
use Rattle.blic_model.specs.Shape.{levels_below, IsShaped}
use Rattle.blic_model.specs.Value.{Point, put}
use Rattle.blic_model.specs.Degree.{IsPoint}
use Rattle.blic_model.proofs.Put.{put_here, put_other, IsPoint-put}
use Rattle.blic_model.proofs.Ordered.{ChildrenBelow, AllOrdered, strong}
use Rattle.blic_model.proofs.Entries.{is_free-step}
use Rattle.blic_model.proofs.Reduced.{All-below}
use Rattle.blic_model.proofs.Shaped.{in_range_of}
use Rattle.blic_claims.specs.Claims.{Transcript, Claim, drawn, zero_point, node_point, point_at}
use Rattle.blic_claims.proofs.Lists.{Contains-cons_cases, Contains-filter, Contains-below}

-- numbers that pass a test, in rising order
pub rising : (test : ℕ → Bool) (n i j : ℕ) → i < j → j < length (filter test (below n))
    → get_or (filter test (below n)) i 0 < get_or (filter test (below n)) j 0
unfolding below
rising test zero i j h l = absurd (omega arith)
rising test (suc n) i j h l =
    subst (λ ys. get_or ys i 0 < get_or ys j 0) (sym (filter-append test (below n) (n ∷ [])))
    (go (test n) (subst (λ ys. j < length ys) (filter-append test (below n) (n ∷ [])) l) (rising test n i j h))
  where
    go : (b : Bool) → j < length (filter test (below n) ++ cond b (n ∷ []) [])
        → (j < length (filter test (below n)) → get_or (filter test (below n)) i 0 < get_or (filter test (below n)) j 0)
        → get_or (filter test (below n) ++ cond b (n ∷ []) []) i 0 < get_or (filter test (below n) ++ cond b (n ∷ []) []) j 0
    go b m ih = elim (cases_lt j (length (filter test (below n)))) [
      | inl q ↦
          let li : i < length (filter test (below n)) = omega arith in
          rw (get_or_append_left (filter test (below n)) (cond b (n ∷ []) []) 0 i li, get_or_append_left (filter test (below n)) (cond b (n ∷ []) []) 0 j q)
          (ih q)
      | inr q ↦ last b m q
    ]
      where
        last : (b : Bool) → j < length (filter test (below n) ++ cond b (n ∷ []) []) → length (filter test (below n)) ≤ j
            → get_or (filter test (below n) ++ cond b (n ∷ []) []) i 0 < get_or (filter test (below n) ++ cond b (n ∷ []) []) j 0
        last false m q = absurd (omega (arith, length-append (filter test (below n)) []))
        last true m q =
            let e : length (filter test (below n)) ≡ j = omega (arith, length-append (filter test (below n)) (n ∷ [])) in
            let li : i < length (filter test (below n)) = omega arith in
            rw (get_or_append_left (filter test (below n)) (n ∷ []) 0 i li, get_or_push (filter test (below n)) n 0 j e)
            (All-get_or (λ x. x < n) (filter test (below n)) i 0 li (All-below test n))

-- the free levels of a node rise
pub free_rise : (nodes : List Node) (levels k i j : ℕ) → i < j → j < length (free nodes levels k)
    → get_or (free nodes levels k) i 0 < get_or (free nodes levels k) j 0
unfolding free
free_rise nodes levels k i j h l = rising (is_free nodes k) levels i j h l

-- a level outside the list keeps its element
pub drawn_other : (draw : ℕ → ℕ) (i : ℕ) (xs : List ℕ) (s : Point) (x : ℕ) → All (λ y. x < y) xs → drawn draw i xs s x ≡ s x
drawn_other draw i [] s x a = refl
drawn_other draw i (y ∷ ys) s x a =
    let l : x < y = All-head (λ y. x < y) y ys a in
    put_other (drawn draw (suc i) ys s) y (draw i) x (λ e. omega arith) ∙ drawn_other draw (suc i) ys s x (All-tail (λ y. x < y) y ys a)

-- a level of the list has its draw, whatever the point was
pub drawn_same : (draw : ℕ → ℕ) (i : ℕ) (xs : List ℕ) (s r : Point) (x : ℕ) → Contains xs x → drawn draw i xs s x ≡ drawn draw i xs r x
drawn_same draw i [] s r x (k, l, e) = absurd (omega arith)
drawn_same draw i (y ∷ ys) s r x c =
    elim (cases_eq x y) [
      | inl e ↦ subst (λ z. put (drawn draw (suc i) ys s) y (draw i) z ≡ put (drawn draw (suc i) ys r) y (draw i) z) (sym e)
          (put_here (drawn draw (suc i) ys s) y (draw i) ∙ sym (put_here (drawn draw (suc i) ys r) y (draw i)))
      | inr ne ↦ put_other (drawn draw (suc i) ys s) y (draw i) x ne
          ∙ (drawn_same draw (suc i) ys s r x (tail (Contains-cons_cases y ys x c) ne) ∙ sym (put_other (drawn draw (suc i) ys r) y (draw i) x ne))
    ]
  where
    tail : (y ≡ x) ⊎ Contains ys x → (x ≡ y → ⊥) → Contains ys x
    tail (inl e) ne = absurd (ne (sym e))
    tail (inr d) ne = d

-- where the draws are elements, the points are points
pub IsPoint-drawn : (draw : ℕ → ℕ) (i : ℕ) (xs : List ℕ) (s : Point) → ((j : ℕ) → draw j < modulus) → IsPoint s → IsPoint (drawn draw i xs s)
IsPoint-drawn draw i [] s h p = p
IsPoint-drawn draw i (y ∷ ys) s h p = IsPoint-put (drawn draw (suc i) ys s) y (draw i) (IsPoint-drawn draw (suc i) ys s h p) (h i)

pub IsPoint-point_at : (nodes : List Node) (levels : ℕ) (T : Transcript) (k : ℕ) (c : Claim) (i : ℕ) → ((j : ℕ) → T.draw k j < modulus)
    → IsPoint c.point → IsPoint (point_at nodes levels T k c i)
IsPoint-point_at nodes levels T k c i h p = IsPoint-drawn (T.draw k) i (drop i (free nodes levels k)) c.point h p

pub IsPoint-node_point : (nodes : List Node) (levels : ℕ) (T : Transcript) (k : ℕ) → ((j : ℕ) → T.draw k j < modulus)
    → IsPoint (node_point nodes levels T k)
unfolding node_point
IsPoint-node_point nodes levels T k h = IsPoint-drawn (T.draw k) 0 (free nodes levels k) zero_point h (λ x. omega arith)

-- one draw more
pub point_at_more : (nodes : List Node) (levels : ℕ) (T : Transcript) (k : ℕ) (c : Claim) (i : ℕ) → i < length (free nodes levels k)
    → point_at nodes levels T k c i ≡ put (point_at nodes levels T k c (i + 1)) (get_or (free nodes levels k) i 0) (T.draw k i)
point_at_more nodes levels T k c i l =
    ap (λ ys. drawn (T.draw k) i ys c.point) (drop-cons (free nodes levels k) i 0 l)
    ∙ ap (λ m. put (drawn (T.draw k) m (drop m (free nodes levels k)) c.point) (get_or (free nodes levels k) i 0) (T.draw k i)) (one i)
  where
    one : (i : ℕ) → suc i ≡ i + 1
    one i = omega arith

-- no draw yet
pub point_at_start : (nodes : List Node) (levels : ℕ) (T : Transcript) (k : ℕ) (c : Claim)
    → point_at nodes levels T k c (length (free nodes levels k)) ≡ c.point
point_at_start nodes levels T k c =
    ap (λ ys. drawn (T.draw k) (length (free nodes levels k)) ys c.point) (drop_all (length (free nodes levels k)) (free nodes levels k) (omega arith))

-- before its draw a level has the claim's own element
pub point_at_own : (nodes : List Node) (levels : ℕ) (T : Transcript) (k : ℕ) (c : Claim) (i : ℕ) → i < length (free nodes levels k)
    → point_at nodes levels T k c (i + 1) (get_or (free nodes levels k) i 0) ≡ c.point (get_or (free nodes levels k) i 0)
point_at_own nodes levels T k c i l =
    drawn_other (T.draw k) (i + 1) (drop (i + 1) (free nodes levels k)) c.point (get_or (free nodes levels k) i 0)
    (All-from_get_or (λ y. get_or (free nodes levels k) i 0 < y) (drop (i + 1) (free nodes levels k)) 0
    (λ j h. rw (get_or-drop (i + 1) (free nodes levels k) j 0)
    (free_rise nodes levels k i (i + 1 + j) (omega arith) (omega (arith, length-drop (i + 1) (free nodes levels k))))))

-- levels of variables are in range
abbrev pub AllLevelled : List Node → ℕ → Type 0
AllLevelled nodes levels = (k x : ℕ) → node_at nodes k ≡ Var x → x < levels

pub levelled_from_shape : (nodes : List Node) (levels : ℕ) → IsShaped nodes levels → AllLevelled nodes levels
levelled_from_shape nodes levels h k x e = elim (cases_lt k (length nodes)) [
  | inl l ↦ ltb-true x levels (sym (ap (levels_below levels) e) ∙ in_range_of nodes levels h k l)
  | inr l ↦ absurd (apart (sym (get_or_past nodes k (Const false) l) ∙ e))
]
  where
    apart : Const false ≡ Var x → ⊥
    apart q = cc

levelled_step : (nodes : List Node) (levels k x : ℕ) → ((j : ℕ) → j < k → is_free nodes j x ≡ true → x < levels)
    → (m : Node) → ((y : ℕ) → m ≡ Var y → y < levels) → ChildrenBelow k m → free_step k m (is_free nodes) x ≡ true → x < levels
levelled_step nodes levels k x ih (Const b) v h f = absurd (false≢true f)
levelled_step nodes levels k x ih (Var y) v h f = subst (λ z. z < levels) (sym (eqb-true x y f)) (v y refl)
levelled_step nodes levels k x ih (Not a) v h f = ih a h f
levelled_step nodes levels k x ih (Fix y b a) v h f = ih a h (and_parts (is_free nodes a x) (not (eqb x y)) f).0
levelled_step nodes levels k x ih (And a b) v h f =
    elim (or_cases (is_free nodes a x) (is_free nodes b x) f) [ inl e ↦ ih a h.0 e | inr e ↦ ih b h.1 e ]
levelled_step nodes levels k x ih (Or a b) v h f =
    elim (or_cases (is_free nodes a x) (is_free nodes b x) f) [ inl e ↦ ih a h.0 e | inr e ↦ ih b h.1 e ]

-- and so are free levels
pub free_levels : (nodes : List Node) (levels : ℕ) → AllOrdered nodes → AllLevelled nodes levels → (x k : ℕ) → is_free nodes k x ≡ true → x < levels
free_levels nodes levels o v x = strong (λ k. is_free nodes k x ≡ true → x < levels)
    (λ k ih e. levelled_step nodes levels k x ih (node_at nodes k) (v k) (o k) (sym (is_free-step nodes k (o k) x) ∙ e))

-- once all are drawn, every claim's point agrees with the node's
pub point_at_end : (nodes : List Node) (levels : ℕ) → AllOrdered nodes → AllLevelled nodes levels
    → (T : Transcript) (k : ℕ) (c : Claim) (x : ℕ) → is_free nodes k x ≡ true → point_at nodes levels T k c 0 x ≡ node_point nodes levels T k x
unfolding free node_point
point_at_end nodes levels o v T k c x e =
    drawn_same (T.draw k) 0 (free nodes levels k) c.point zero_point x
    (Contains-filter (is_free nodes k) (below levels) x e (Contains-below levels x (free_levels nodes levels o v x k e)))
