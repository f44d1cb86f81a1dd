-- The free levels of a node rise, and those of a child are among them, the fixed level aside.
use Rattle.std.proofs.Common.{arith, ℕ, zero, suc, ◌≡◌, ◌<◌, ◌≤◌, refl, sym, ◌∙◌, ap, subst, ◌⊎◌, inl, inr, List, [], ◌∷◌, ◌++◌, length, get_or, Bool, true, false, cond, ◌==◌, not, ◌&&◌, ◌||◌, Option, Some, None}
use Rattle.std.specs.Prelude.{filter}
use Rattle.std.proofs.lemmas.Bool.{cases_eq}
use Rattle.std.proofs.lemmas.List.{append-nil, length_push, get_or_push, get_or_append_left}
use Rattle.std.proofs.lemmas.List.Elements.{filter-append, filter_agree}
use Rattle.std.proofs.lemmas.List.Sums.{length-filter, count_by-le-length}
use Rattle.blic_model.specs.declared.node.Node.{Node}
use Rattle.blic_model.specs.declared.node.Node.TheVariants.{Not, Fix, And, Or}
use Rattle.blic_model.specs.Circuit.{node_at, below, free_step, is_free, free}
use Rattle.blic_model.specs.Order.{IsOrdered}
use Rattle.blic_model.proofs.Ordered.{ordered_all}
use Rattle.blic_model.proofs.Entries.{is_free-step}
use Rattle.blic_model.proofs.ChildEntries.{length_of_below}
use Rattle.blic_claims.specs.Elements.{StandsFrom, Covers, fixed_bit}
use Rattle.blic_claims.specs.declared.elements.Fixed.{Fixed}

-- one number more, if it passes
push : (p : ℕ → Bool) (n : ℕ) → filter p (below (suc n)) ≡ filter p (below n) ++ cond (p n) (n ∷ []) []
unfolding below
push p n = filter-append p (below n) (n ∷ [])

abbrev Passing : (ℕ → Bool) → ℕ → List ℕ → Type 0
Passing p n xs = (i : ℕ) → i < length xs → (get_or xs i 0 < n) × (p (get_or xs i 0) ≡ true)

passing_more : (p : ℕ → Bool) (n : ℕ) (xs : List ℕ) (b : Bool) → p n ≡ b → Passing p n xs → Passing p (suc n) (xs ++ cond b (n ∷ []) [])
passing_more p n xs true e h i l = elim (cases_eq i (length xs)) [
  | inl q ↦
      let at : get_or (xs ++ n ∷ []) i 0 ≡ n = get_or_push xs n 0 i (sym q) in
      (omega arith, ap p at ∙ e)
  | inr ne ↦
      let m : i < length xs = omega (arith, length_push xs n) in
      let at = get_or_append_left xs (n ∷ []) 0 i m in
      let w = h i m in
      let u = w.0 in
      (omega arith, ap p at ∙ w.1)
]
passing_more p n xs false e h i l =
    let same = append-nil xs in
    let w = h i (omega (arith, ap length same)) in
    let u = w.0 in
    let at = ap (λ ys. get_or ys i 0) same in
    (omega arith, ap p at ∙ w.1)

filter_passing : (p : ℕ → Bool) (n : ℕ) → Passing p n (filter p (below n))
unfolding below
filter_passing p zero i l = absurd (omega arith)
filter_passing p (suc n) i l = subst (Passing p (suc n)) (sym (push p n)) (passing_more p n (filter p (below n)) (p n) refl (filter_passing p n)) i l

abbrev pub Rising : List ℕ → Type 0
Rising xs = (i j : ℕ) → i < j → j < length xs → get_or xs i 0 < get_or xs j 0

rising_more : (p : ℕ → Bool) (n : ℕ) (xs : List ℕ) (b : Bool) → Passing p n xs → Rising xs → Rising (xs ++ cond b (n ∷ []) [])
rising_more p n xs true h r i j l m = elim (cases_eq j (length xs)) [
  | inl q ↦
      let at = get_or_push xs n 0 j (sym q) in
      let at_i = get_or_append_left xs (n ∷ []) 0 i (omega arith) in
      let u = (h i (omega arith)).0 in
      omega arith
  | inr ne ↦
      let k : j < length xs = omega (arith, length_push xs n) in
      let at = get_or_append_left xs (n ∷ []) 0 j k in
      let at_i = get_or_append_left xs (n ∷ []) 0 i (omega arith) in
      let u = r i j l k in
      omega arith
]
rising_more p n xs false h r i j l m = subst Rising (sym (append-nil xs)) r i j l m

filter_rising : (p : ℕ → Bool) (n : ℕ) → Rising (filter p (below n))
unfolding below
filter_rising p zero i j l m = absurd (omega arith)
filter_rising p (suc n) i j l m = subst Rising (sym (push p n)) (rising_more p n (filter p (below n)) (p n) (filter_passing p n) (filter_rising p n)) i j l m

stands_more : (xs ys : List ℕ) (y : ℕ) → StandsFrom 0 xs y → StandsFrom 0 (xs ++ ys) y
stands_more xs ys y (m, f, l, e) = (m, f, omega (arith, longer xs ys m l), get_or_append_left xs ys 0 m l ∙ e)
  where
    longer : (xs ys : List ℕ) (m : ℕ) → m < length xs → m < length (xs ++ ys)
    longer [] ys m l = absurd (omega arith)
    longer (x ∷ xs) ys zero l = omega arith
    longer (x ∷ xs) ys (suc m) l = (let u = longer xs ys m (omega arith) in omega arith)

filter_has : (p : ℕ → Bool) (n y : ℕ) → y < n → p y ≡ true → StandsFrom 0 (filter p (below n)) y
filter_has p zero y l e = absurd (omega arith)
filter_has p (suc n) y l e = subst (λ xs. StandsFrom 0 xs y) (sym (push p n)) (elim (cases_eq y n) [
  | inl q ↦ subst (λ b. StandsFrom 0 (filter p (below n) ++ cond b (n ∷ []) []) y) (sym (ap p (sym q) ∙ e))
      (length (filter p (below n)), omega arith, omega (arith, length_push (filter p (below n)) n), get_or_push (filter p (below n)) n 0 (length (filter p (below n))) refl ∙ sym q)
  | inr ne ↦ stands_more (filter p (below n)) (cond (p n) (n ∷ []) []) y (filter_has p n y (omega arith) e)
])

-- the free levels of a node
pub free_few : (nodes : List Node) (levels k : ℕ) → length (free nodes levels k) ≤ levels
unfolding free
free_few nodes levels k = omega (arith, length-filter (is_free nodes k) (below levels), count_by-le-length (is_free nodes k) (below levels), length_of_below levels)

pub free_rising : (nodes : List Node) (levels k : ℕ) → Rising (free nodes levels k)
unfolding free
free_rising nodes levels k = filter_rising (is_free nodes k) levels

pub free_passing : (nodes : List Node) (levels k i : ℕ) → i < length (free nodes levels k)
    → (get_or (free nodes levels k) i 0 < levels) × (is_free nodes k (get_or (free nodes levels k) i 0) ≡ true)
unfolding free
free_passing nodes levels k i l = filter_passing (is_free nodes k) levels i l

free_has : (nodes : List Node) (levels k y : ℕ) → y < levels → is_free nodes k y ≡ true → StandsFrom 0 (free nodes levels k) y
unfolding free
free_has nodes levels k y l e = filter_has (is_free nodes k) levels y l e

-- a level that is free in both
covered_by : (nodes : List Node) (levels k a : ℕ) (fixed : Option Fixed) → ((y : ℕ) → is_free nodes a y ≡ true → fixed_bit fixed y ≡ None → is_free nodes k y ≡ true)
    → Covers (free nodes levels k) fixed (free nodes levels a)
covered_by nodes levels k a fixed h i l e =
    let w = free_passing nodes levels a i l in free_has nodes levels k (get_or (free nodes levels a) i 0) w.0 (h (get_or (free nodes levels a) i 0) w.1 e)

step_at : (nodes : List Node) (k : ℕ) (n : Node) → IsOrdered nodes → node_at nodes k ≡ n → (y : ℕ) → is_free nodes k y ≡ free_step k n (is_free nodes) y
step_at nodes k n o e y = is_free-step nodes k (ordered_all nodes o k) y ∙ ap (λ m. free_step k m (is_free nodes) y) e

-- a negation has the free levels of its child
pub same_free : (nodes : List Node) (levels k a : ℕ) → IsOrdered nodes → node_at nodes k ≡ Not a → free nodes levels k ≡ free nodes levels a
unfolding free
same_free nodes levels k a o e = filter_agree (is_free nodes k) (is_free nodes a) (λ y. step_at nodes k (Not a) o e y) (below levels)

pub fix_covers : (nodes : List Node) (levels k a x : ℕ) (b : Bool) → IsOrdered nodes → node_at nodes k ≡ Fix x b a
    → Covers (free nodes levels k) (Some (record { level = x; bit = b })) (free nodes levels a)
fix_covers nodes levels k a x b o e = covered_by nodes levels k a (Some (record { level = x; bit = b })) (λ y f n. step_at nodes k (Fix x b a) o e y ∙ both (is_free nodes a y) (y == x) b f n)
  where
    both : (p q b : Bool) → p ≡ true → cond q (Some b) None ≡ None → (p && not q) ≡ true
    both p true b f n = absurd (some_is_none b n)
      where
        some_is_none : (b : Bool) → Some b ≡ None → ⊥
        some_is_none b n = cc
    both p false b f n = ap (λ q. q && true) f

pub left_covers : (nodes : List Node) (levels k a b : ℕ) → IsOrdered nodes → (node_at nodes k ≡ And a b) ⊎ (node_at nodes k ≡ Or a b)
    → Covers (free nodes levels k) None (free nodes levels a)
left_covers nodes levels k a b o (inl e) = covered_by nodes levels k a None (λ y f n. step_at nodes k (And a b) o e y ∙ ap (λ p. p || is_free nodes b y) f)
left_covers nodes levels k a b o (inr e) = covered_by nodes levels k a None (λ y f n. step_at nodes k (Or a b) o e y ∙ ap (λ p. p || is_free nodes b y) f)

right : (p q : Bool) → q ≡ true → (p || q) ≡ true
right true q e = refl
right false q e = e

pub right_covers : (nodes : List Node) (levels k a b : ℕ) → IsOrdered nodes → (node_at nodes k ≡ And a b) ⊎ (node_at nodes k ≡ Or a b)
    → Covers (free nodes levels k) None (free nodes levels b)
right_covers nodes levels k a b o (inl e) = covered_by nodes levels k b None (λ y f n. step_at nodes k (And a b) o e y ∙ right (is_free nodes a y) (is_free nodes b y) f)
right_covers nodes levels k a b o (inr e) = covered_by nodes levels k b None (λ y f n. step_at nodes k (Or a b) o e y ∙ right (is_free nodes a y) (is_free nodes b y) f)
