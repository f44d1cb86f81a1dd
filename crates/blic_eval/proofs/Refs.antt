-- The extensions of refs, and their lines.
use Rattle.std.proofs.Common.{arith, ℕ, zero, suc, ◌+◌, ◌-◌, ◌≡◌, ◌≢◌, ◌<◌, ◌≤◌, refl, sym, ◌∙◌, ap, subst, ◌⊎◌, inl, inr, List, length, get_or, Bool, true, false}
use Rattle.std.specs.Prelude.{set}
use mathlib.Core.Path.{ap₂, fun_ext}
use Rattle.std.proofs.lemmas.Bool.{cases_eq}
use Rattle.std.proofs.lemmas.List.{get_or-set_same, get_or-set_other}
use Rattle.blic_field.specs.Field.{modulus, sub, blend}
use Rattle.blic_field.proofs.Ring.{ring, blend_below, sub_below}
use Rattle.blic_poly2.specs.declared.linear.Lin.{Lin}
use Rattle.blic_poly2.specs.Poly.{lin_at, LinHasElements}
use Rattle.blic_poly2.proofs.Values.{lin_at-def}
use Rattle.blic_model.specs.Value.{Point, put}
use Rattle.blic_model.proofs.Put.{put_here, put_other}
use Rattle.blic_store.specs.declared.decision.Decision.{Decision}
use Rattle.blic_store.specs.Canonical.{IsCanonical}
use Rattle.blic_store.specs.Diagram.{IsRef, cofactor, decision_at, function, high_of, level_of, low_of}
use Rattle.blic_store.proofs.Canonical.{with_bit, with_bit-here, with_bit-other, blind}
use Rattle.blic_store.proofs.Cofactors.{cofactor-here, is_cofactor}
use Rattle.blic_store.proofs.Functions.{function-false, function-true}
use Rattle.blic_store.proofs.Levels.{level_of-node}
use Rattle.blic_eval.specs.Extension.{extension}
use Rattle.blic_eval.specs.Lines.{HasLevels, HasLines, HasValues, IsLine, IsValue, line_of}
use Rattle.blic_eval.specs.Reached.{IsAmong, IsReached, IsReachedBySome}
use Rattle.blic_eval.proofs.Extensions.{IsBlind, IsPartAt, Ignores-extension, extension_blend, extension_constant}

with_bit_is : (p : ℕ → Bool) (x : ℕ) (b : Bool) → with_bit p x b ≡ put p x b
with_bit_is p x b = fun_ext (λ y. elim (cases_eq y x) [
  | inl e ↦ subst (λ z. with_bit p x b z ≡ put p x b z) (sym e) (with_bit-here p x b ∙ sym (put_here p x b))
  | inr n ↦ with_bit-other p x b y n ∙ sym (put_other p x b y n)
])

-- A ref's function doesn't depend on the levels above its own.
pub IsBlind-ref : (nodes : List Decision) → IsCanonical nodes → (r : ℕ) → IsRef nodes r → (x : ℕ) → x < level_of nodes r → IsBlind (function nodes r) x
IsBlind-ref nodes c r h x l p b = ap (function nodes r) (sym (with_bit_is p x b)) ∙ blind nodes c r h p x b l

-- A cofactor is the function with the level's bit fixed.
pub IsPartAt-cofactor : (nodes : List Decision) → IsCanonical nodes → (r x : ℕ) (v : Bool) → IsRef nodes r → 2 ≤ r → x ≤ level_of nodes r
    → IsPartAt (function nodes r) x v (function nodes (cofactor nodes r x v))
IsPartAt-cofactor nodes c r x v h i l =
    let w = is_cofactor nodes c r x v h i l in
    record {
      value = λ p. ap (function nodes r) (sym (with_bit_is p x v)) ∙ sym (w.value p);
      blind = IsBlind-ref nodes c (cofactor nodes r x v) w.held x w.below;
    }

-- The value of a ref is the blend of those of its sides.
pub ref_blend : (nodes : List Decision) → IsCanonical nodes → (levels r : ℕ) → IsRef nodes r → 2 ≤ r → level_of nodes r < levels → (s : Point)
    → extension (function nodes r) levels s
    ≡ blend (s (level_of nodes r)) (extension (function nodes (low_of nodes r)) levels s) (extension (function nodes (high_of nodes r)) levels s)
ref_blend nodes c levels r h i l =
    let x = level_of nodes r in
    extension_blend (function nodes r) (function nodes (low_of nodes r)) (function nodes (high_of nodes r)) levels x l
    (subst (λ z. IsPartAt (function nodes r) x false (function nodes z)) (cofactor-here nodes r x false refl) (IsPartAt-cofactor nodes c r x false h i (omega arith)))
    (subst (λ z. IsPartAt (function nodes r) x true (function nodes z)) (cofactor-here nodes r x true refl) (IsPartAt-cofactor nodes c r x true h i (omega arith)))

-- the values of the constants
pub extension-false : (nodes : List Decision) (levels : ℕ) (s : Point) → extension (function nodes 0) levels s ≡ 0
extension-false nodes levels s = extension_constant (function nodes 0) false levels (λ p. ap (λ f. f p) (function-false nodes)) s

pub extension-true : (nodes : List Decision) (levels : ℕ) (s : Point) → extension (function nodes 1) levels s ≡ 1
extension-true nodes levels s = extension_constant (function nodes 1) true levels (λ p. ap (λ f. f p) (function-true nodes)) s

-- the entries of the table of lines

pub line_of-false : (lines : List Lin) → line_of lines 0 ≡ record { c0 = 0; c1 = 0 }
unfolding line_of
line_of-false lines = refl

pub line_of-true : (lines : List Lin) → line_of lines 1 ≡ record { c0 = 1; c1 = 0 }
unfolding line_of
line_of-true lines = refl

pub line_of-decision : (lines : List Lin) (k : ℕ) → line_of lines (suc (suc k)) ≡ get_or lines k (record { c0 = 0; c1 = 0 })
unfolding line_of
line_of-decision lines k = refl

pub line_of-inner : (lines : List Lin) (r : ℕ) → 2 ≤ r → line_of lines r ≡ get_or lines (r - 2) (record { c0 = 0; c1 = 0 })
line_of-inner lines r h = let e : r ≡ suc (suc (r - 2)) = omega arith in ap (line_of lines) e ∙ line_of-decision lines (r - 2)

-- Another entry is written.
pub line_of-set_other : (lines : List Lin) (k r : ℕ) (a : Lin) → r ≢ k + 2 → line_of (set lines k a) r ≡ line_of lines r
line_of-set_other lines k zero a n = line_of-false (set lines k a) ∙ sym (line_of-false lines)
line_of-set_other lines k (suc zero) a n = line_of-true (set lines k a) ∙ sym (line_of-true lines)
line_of-set_other lines k (suc (suc j)) a n =
    line_of-decision (set lines k a) j ∙ (get_or-set_other lines k j a (record { c0 = 0; c1 = 0 }) (λ e. n (omega arith)) ∙ sym (line_of-decision lines j))

pub line_of-set_same : (lines : List Lin) (k r : ℕ) (a : Lin) → k < length lines → r ≡ k + 2 → line_of (set lines k a) r ≡ a
line_of-set_same lines k r a l e =
    let q : r ≡ suc (suc k) = omega arith in
    ap (line_of (set lines k a)) q ∙ (line_of-decision (set lines k a) k ∙ get_or-set_same lines k a (record { c0 = 0; c1 = 0 }) l)

pub lin_constant : (c t : ℕ) → c < modulus → lin_at (record { c0 = c; c1 = 0 }) t ≡ c
lin_constant c t l = simp (lin_at-def, ring) (omega arith)

-- The table has the constants whatever it is.
pub constant_line : (nodes : List Decision) (levels level : ℕ) (s : Point) (lines : List Lin) (r : ℕ) → r < 2 → IsLine nodes levels level s r (line_of lines r)
constant_line nodes levels level s lines zero l =
    subst (IsLine nodes levels level s 0) (sym (line_of-false lines))
    (record { elements = (omega arith, omega arith); values = λ t. lin_constant 0 t (omega arith) ∙ sym (extension-false nodes levels (put s level t)) })
constant_line nodes levels level s lines (suc zero) l =
    subst (IsLine nodes levels level s 1) (sym (line_of-true lines))
    (record { elements = (omega arith, omega arith); values = λ t. lin_constant 1 t (omega arith) ∙ sym (extension-true nodes levels (put s level t)) })
constant_line nodes levels level s lines (suc (suc r)) l = absurd (omega arith)

pub constant_value : (nodes : List Decision) (levels : ℕ) (s : Point) (lines : List Lin) (r : ℕ) → r < 2 → IsValue nodes levels s lines r
constant_value nodes levels s lines zero l = ap (λ z. z.c0) (line_of-false lines) ∙ sym (extension-false nodes levels s)
constant_value nodes levels s lines (suc zero) l = ap (λ z. z.c0) (line_of-true lines) ∙ sym (extension-true nodes levels s)
constant_value nodes levels s lines (suc (suc r)) l = absurd (omega arith)

pub lines_none : (nodes : List Decision) (levels level : ℕ) (s : Point) (lines : List Lin) (numbers : List ℕ) → HasLines nodes levels level s lines numbers 0
lines_none nodes levels level s lines numbers r h = elim h [
  | inl c ↦ constant_line nodes levels level s lines r c
  | inr w ↦ absurd (let l = w.1 in omega arith)
]

pub values_none : (nodes : List Decision) (levels : ℕ) (s : Point) (lines : List Lin) (numbers : List ℕ) → HasValues nodes levels s lines numbers 0
values_none nodes levels s lines numbers r h = elim h [
  | inl c ↦ constant_value nodes levels s lines r c
  | inr w ↦ absurd (let l = w.1 in omega arith)
]

-- A ref among one decision more is the next one, or was among them and is another.
among_next : (nodes : List Decision) (a b : ℕ) (numbers : List ℕ) → IsReached nodes a b numbers → (i k r : ℕ) → i < length numbers → k ≡ get_or numbers i 0 → IsAmong numbers (i + 1) r
    → (r ≡ k + 2) ⊎ (IsAmong numbers i r × (r ≢ k + 2))
among_next nodes a b numbers reached i k r l e h = elim h [
  | inl c ↦ inr (inl c, (λ q. absurd (omega arith)))
  | inr w ↦ (let m = w.1 in let q = w.2 in elim (cases_eq w.0 i) [
    | inl same ↦ inl (w.2 ∙ ap (λ z. z + 2) (ap (λ z. get_or numbers z 0) same ∙ sym e))
    | inr n ↦ (let ne : w.0 ≢ i = n in
        let before : w.0 < i = omega arith in
        inr (inr (w.0, before, w.2), (λ same. reached.closed.once w.0 i before l (let back : get_or numbers w.0 0 ≡ k = omega arith in back ∙ e))))
  ])
]

-- One line more.
pub lines_more : (nodes : List Decision) (levels level : ℕ) (s : Point) (lines : List Lin) (numbers : List ℕ) (i k : ℕ) (a : Lin) → IsReachedBySome nodes numbers → i < length numbers
    → k ≡ get_or numbers i 0 → k < length lines → HasLines nodes levels level s lines numbers i → IsLine nodes levels level s (k + 2) a → HasLines nodes levels level s (set lines k a) numbers (i + 1)
lines_more nodes levels level s lines numbers i k a some l e m before line r h = elim (among_next nodes some.a some.b numbers some.reached i k r l e h) [
  | inl q ↦ subst (IsLine nodes levels level s r) (sym (line_of-set_same lines k r a m q)) (subst (λ z. IsLine nodes levels level s z a) (sym q) line)
  | inr w ↦ subst (IsLine nodes levels level s r) (sym (line_of-set_other lines k r a w.1)) (before r w.0)
]

pub values_more : (nodes : List Decision) (levels : ℕ) (s : Point) (lines : List Lin) (numbers : List ℕ) (i k v : ℕ) (a : Lin) → IsReachedBySome nodes numbers → i < length numbers
    → k ≡ get_or numbers i 0 → k < length lines → HasValues nodes levels s lines numbers i → a ≡ record { c0 = v; c1 = 0 } → v ≡ extension (function nodes (k + 2)) levels s
    → HasValues nodes levels s (set lines k a) numbers (i + 1)
values_more nodes levels s lines numbers i k v a some l e m before is value r h = elim (among_next nodes some.a some.b numbers some.reached i k r l e h) [
  | inl q ↦ ap (λ z. z.c0) (line_of-set_same lines k r a m q) ∙ (ap (λ z. z.c0) is ∙ (value ∙ ap (λ z. extension (function nodes z) levels s) (sym q)))
  | inr w ↦ ap (λ z. z.c0) (line_of-set_other lines k r a w.1) ∙ before r w.0
]

-- what the table has of decision k's sides
pub record HasSideLines (nodes : List Decision) (levels level : ℕ) (s : Point) (lines : List Lin) (k : ℕ) : Type 0 where
  pub held : k < length nodes
  pub low : IsLine nodes levels level s (low_of nodes (k + 2)) (line_of lines (low_of nodes (k + 2)))
  pub high : IsLine nodes levels level s (high_of nodes (k + 2)) (line_of lines (high_of nodes (k + 2)))

pub sides_among : (nodes : List Decision) (numbers : List ℕ) (i k : ℕ) → IsReachedBySome nodes numbers → i < length numbers → k ≡ get_or numbers i 0
    → (k < length nodes) × IsAmong numbers i (low_of nodes (k + 2)) × IsAmong numbers i (high_of nodes (k + 2))
sides_among nodes numbers i k some l e =
    let back : get_or numbers i 0 ≡ (k + 2) - 2 = omega arith in
    let held = some.reached.closed.held i l in (
      omega arith,
      subst (λ z. IsAmong numbers i (decision_at nodes z).low) back (some.reached.closed.low i l),
      subst (λ z. IsAmong numbers i (decision_at nodes z).high) back (some.reached.closed.high i l),
    )

pub side_lines : (nodes : List Decision) (levels level : ℕ) (s : Point) (lines : List Lin) (numbers : List ℕ) (i k : ℕ) → IsReachedBySome nodes numbers → i < length numbers
    → k ≡ get_or numbers i 0 → HasLines nodes levels level s lines numbers i → HasSideLines nodes levels level s lines k
side_lines nodes levels level s lines numbers i k some l e before =
    let w = sides_among nodes numbers i k some l e in
    record { held = w.0; low = before (low_of nodes (k + 2)) w.1; high = before (high_of nodes (k + 2)) w.2 }

-- what the table has of decision k's sides, as values
pub record HasSideValues (nodes : List Decision) (levels : ℕ) (s : Point) (lines : List Lin) (k : ℕ) : Type 0 where
  pub held : k < length nodes
  pub low : IsValue nodes levels s lines (low_of nodes (k + 2))
  pub high : IsValue nodes levels s lines (high_of nodes (k + 2))

pub side_values : (nodes : List Decision) (levels : ℕ) (s : Point) (lines : List Lin) (numbers : List ℕ) (i k : ℕ) → IsReachedBySome nodes numbers → i < length numbers
    → k ≡ get_or numbers i 0 → HasValues nodes levels s lines numbers i → HasSideValues nodes levels s lines k
side_values nodes levels s lines numbers i k some l e before =
    let w = sides_among nodes numbers i k some l e in
    record { held = w.0; low = before (low_of nodes (k + 2)) w.1; high = before (high_of nodes (k + 2)) w.2 }

-- A line at a level on which the function doesn't depend has the function's value at 0.
at_zero : (a : Lin) → a.c0 < modulus → a.c0 ≡ lin_at a 0
at_zero a l = simp (lin_at-def, ring) (omega arith)

pub flat_value : (nodes : List Decision) → IsCanonical nodes → (levels level : ℕ) (s : Point) (r : ℕ) (a : Lin) → IsRef nodes r → level < level_of nodes r
    → IsLine nodes levels level s r a → a.c0 ≡ extension (function nodes r) levels s
flat_value nodes c levels level s r a h l w =
    at_zero a w.elements.0 ∙ (w.values 0 ∙ Ignores-extension (function nodes r) levels level (IsBlind-ref nodes c r h level l) s 0)

-- what is known of decision k and of the lines of its sides
pub record HasSides (nodes : List Decision) (levels level : ℕ) (s : Point) (k own : ℕ) (low high : Lin) : Type 0 where
  pub canonical : IsCanonical nodes
  pub in_range : k < length nodes
  pub own_is : own ≡ level_of nodes (k + 2)
  pub in_levels : own < levels
  pub low_line : IsLine nodes levels level s (low_of nodes (k + 2)) low
  pub high_line : IsLine nodes levels level s (high_of nodes (k + 2)) high

decision_blend : (nodes : List Decision) → IsCanonical nodes → (levels k own : ℕ) → k < length nodes → own ≡ level_of nodes (k + 2) → own < levels → (s : Point)
    → extension (function nodes (k + 2)) levels s
    ≡ blend (s own) (extension (function nodes (low_of nodes (k + 2))) levels s) (extension (function nodes (high_of nodes (k + 2))) levels s)
decision_blend nodes c levels k own h e l s =
    subst (λ z. extension (function nodes (k + 2)) levels s
    ≡ blend (s z) (extension (function nodes (low_of nodes (k + 2))) levels s) (extension (function nodes (high_of nodes (k + 2))) levels s)) (sym e)
    (ref_blend nodes c levels (k + 2) (omega arith) (omega arith) (omega arith) s)

-- The line of a decision whose level is above.
pub line_above : (nodes : List Decision) (levels level : ℕ) (s : Point) (k own : ℕ) (low high a : Lin) → HasSides nodes levels level s k own low high → own < level
    → ((t : ℕ) → lin_at a t ≡ blend (s own) (lin_at low t) (lin_at high t)) → LinHasElements a → IsLine nodes levels level s (k + 2) a
line_above nodes levels level s k own low high a w l e q = record {
  elements = q;
  values = λ t.
      e t
      ∙ (ap₂ (blend (s own)) (w.low_line.values t) (w.high_line.values t)
      ∙ (ap (λ z. blend z (extension (function nodes (low_of nodes (k + 2))) levels (put s level t)) (extension (function nodes (high_of nodes (k + 2))) levels (put s level t)))
      (sym (put_other s level t own (λ z. absurd (omega arith))))
      ∙ sym (decision_blend nodes w.canonical levels k own w.in_range w.own_is w.in_levels (put s level t))));
}

sides_below : (nodes : List Decision) → IsCanonical nodes → (k : ℕ) → k < length nodes
    → (low_of nodes (k + 2) < length nodes + 2) × (high_of nodes (k + 2) < length nodes + 2)
    × (level_of nodes (k + 2) < level_of nodes (low_of nodes (k + 2))) × (level_of nodes (k + 2) < level_of nodes (high_of nodes (k + 2)))
    × (low_of nodes (k + 2) < k + 2) × (high_of nodes (k + 2) < k + 2)
sides_below nodes c k h =
    let e : (k + 2) - 2 ≡ k = omega arith in
    let o = c.placed k h in
    let q = level_of-node nodes (k + 2) (omega arith) in
    let q2 : (decision_at nodes ((k + 2) - 2)).level ≡ (decision_at nodes k).level = ap (λ z. (decision_at nodes z).level) e in
    let el : low_of nodes (k + 2) ≡ (decision_at nodes k).low = ap (λ z. (decision_at nodes z).low) e in
    let eh : high_of nodes (k + 2) ≡ (decision_at nodes k).high = ap (λ z. (decision_at nodes z).high) e in
    let ll = ap (level_of nodes) el in
    let lh = ap (level_of nodes) eh in
    let a = o.low_before in let b = o.high_before in let d = o.above_low in let f = o.above_high in
    (omega arith, omega arith, omega arith, omega arith, omega arith, omega arith)

straight : (u w t : ℕ) → lin_at (record { c0 = u; c1 = sub w u }) t ≡ blend t u w
straight u w t = simp (lin_at-def, ring) (omega arith)

flat_at : (nodes : List Decision) → IsCanonical nodes → (levels level : ℕ) (s : Point) (t r : ℕ) (d : Lin) → IsRef nodes r → level < level_of nodes r
    → IsLine nodes levels level s r d → d.c0 ≡ extension (function nodes r) levels (put s level t)
flat_at nodes c levels level s t r d h m v =
    flat_value nodes c levels level s r d h m v ∙ sym (Ignores-extension (function nodes r) levels level (IsBlind-ref nodes c r h level m) s t)

-- The line of a decision of the level.
pub line_here : (nodes : List Decision) (levels level : ℕ) (s : Point) (k own : ℕ) (low high a : Lin) → HasSides nodes levels level s k own low high → own ≡ level
    → a ≡ record { c0 = low.c0; c1 = sub high.c0 low.c0 } → IsLine nodes levels level s (k + 2) a
line_here nodes levels level s k own low high a w l e =
    let b = sides_below nodes w.canonical k w.in_range in
    let o = w.own_is in
    subst (IsLine nodes levels level s (k + 2)) (sym e) (record {
      elements = (w.low_line.elements.0, sub_below _ _);
      values = λ t.
          straight low.c0 high.c0 t
          ∙ (ap₂ (blend t) (flat_at nodes w.canonical levels level s t (low_of nodes (k + 2)) low b.0 (omega arith) w.low_line)
          (flat_at nodes w.canonical levels level s t (high_of nodes (k + 2)) high b.1 (omega arith) w.high_line)
          ∙ (ap (λ z. blend z (extension (function nodes (low_of nodes (k + 2))) levels (put s level t)) (extension (function nodes (high_of nodes (k + 2))) levels (put s level t)))
          (sym (ap (put s level t) l ∙ put_here s level t))
          ∙ sym (decision_blend nodes w.canonical levels k own w.in_range w.own_is w.in_levels (put s level t))));
    })

-- The line of a decision whose level is below.
pub line_under : (nodes : List Decision) (levels level : ℕ) (s : Point) (k own : ℕ) (low high a : Lin) → HasSides nodes levels level s k own low high → level < own
    → a ≡ record { c0 = blend (s own) low.c0 high.c0; c1 = 0 } → IsLine nodes levels level s (k + 2) a
line_under nodes levels level s k own low high a w l e =
    let b = sides_below nodes w.canonical k w.in_range in
    let o = w.own_is in
    subst (IsLine nodes levels level s (k + 2)) (sym e) (record {
      elements = (blend_below _ _ _, omega arith);
      values = λ t.
          lin_constant (blend (s own) low.c0 high.c0) t (blend_below _ _ _)
          ∙ (ap₂ (blend (s own)) (flat_value nodes w.canonical levels level s (low_of nodes (k + 2)) low b.0 (omega arith) w.low_line)
          (flat_value nodes w.canonical levels level s (high_of nodes (k + 2)) high b.1 (omega arith) w.high_line)
          ∙ (sym (decision_blend nodes w.canonical levels k own w.in_range w.own_is w.in_levels s)
          ∙ sym (Ignores-extension (function nodes (k + 2)) levels level (IsBlind-ref nodes w.canonical (k + 2) (omega arith) level (omega arith)) s t)));
    })

-- The value of a decision.
pub value_is : (nodes : List Decision) → IsCanonical nodes → (levels : ℕ) (s : Point) (k own : ℕ) (low high : Lin) → k < length nodes → own ≡ level_of nodes (k + 2) → own < levels
    → low.c0 ≡ extension (function nodes (low_of nodes (k + 2))) levels s → high.c0 ≡ extension (function nodes (high_of nodes (k + 2))) levels s
    → blend (s own) low.c0 high.c0 ≡ extension (function nodes (k + 2)) levels s
value_is nodes c levels s k own low high h e l a b =
    ap₂ (blend (s own)) a b ∙ sym (decision_blend nodes c levels k own h e l s)

-- Where a decision's sides are before it, and its level is among the levels.
pub record IsPlacedAt (nodes : List Decision) (levels k : ℕ) : Type 0 where
  pub low_before : low_of nodes (k + 2) < k + 2
  pub high_before : high_of nodes (k + 2) < k + 2
  pub level_in : level_of nodes (k + 2) < levels

pub placed_at : (nodes : List Decision) → IsCanonical nodes → (levels k : ℕ) → HasLevels nodes levels → k < length nodes → IsPlacedAt nodes levels k
placed_at nodes c levels k h l =
    let b = sides_below nodes c k l in
    let e : (k + 2) - 2 ≡ k = omega arith in
    let q = level_of-node nodes (k + 2) (omega arith) in
    let q2 : (decision_at nodes ((k + 2) - 2)).level ≡ (decision_at nodes k).level = ap (λ z. (decision_at nodes z).level) e in
    let m = h k l in
    record { low_before = b.4; high_before = b.5; level_in = omega arith }

-- What is read of the table for the sides of decision k.
pub has_sides : (nodes : List Decision) (levels level : ℕ) (s : Point) (k : ℕ) (lines : List Lin) (own r low high : ℕ) (low_line high_line : Lin)
    → IsCanonical nodes → HasLevels nodes levels → HasSideLines nodes levels level s lines k
    → r ≡ k + 2 → own ≡ level_of nodes r → low ≡ low_of nodes r → high ≡ high_of nodes r → low_line ≡ line_of lines low → high_line ≡ line_of lines high
    → HasSides nodes levels level s k own low_line high_line
has_sides nodes levels level s k lines own r low high low_line high_line c h before re oe le he ll hl =
    let p = placed_at nodes c levels k h before.held in
    let i = p.level_in in
    let own_is = oe ∙ ap (level_of nodes) re in
    let low_is = le ∙ ap (low_of nodes) re in
    let high_is = he ∙ ap (high_of nodes) re in
    record {
      canonical = c;
      in_range = before.held;
      own_is = own_is;
      in_levels = omega arith;
      low_line = subst (IsLine nodes levels level s (low_of nodes (k + 2))) (sym (ll ∙ ap (line_of lines) low_is)) before.low;
      high_line = subst (IsLine nodes levels level s (high_of nodes (k + 2))) (sym (hl ∙ ap (line_of lines) high_is)) before.high;
    }

pub value_of_sides : (nodes : List Decision) (levels : ℕ) (s : Point) (k : ℕ) (lines : List Lin) (own r low high : ℕ) (low_line high_line : Lin)
    → IsCanonical nodes → HasLevels nodes levels → HasSideValues nodes levels s lines k
    → r ≡ k + 2 → own ≡ level_of nodes r → low ≡ low_of nodes r → high ≡ high_of nodes r → low_line ≡ line_of lines low → high_line ≡ line_of lines high
    → blend (s own) low_line.c0 high_line.c0 ≡ extension (function nodes (k + 2)) levels s
value_of_sides nodes levels s k lines own r low high low_line high_line c h before re oe le he ll hl =
    let p = placed_at nodes c levels k h before.held in
    let i = p.level_in in
    let own_is = oe ∙ ap (level_of nodes) re in
    let low_is = le ∙ ap (low_of nodes) re in
    let high_is = he ∙ ap (high_of nodes) re in
    value_is nodes c levels s k own low_line high_line before.held own_is (omega arith)
    (ap (λ z. z.c0) (ll ∙ ap (line_of lines) low_is) ∙ before.low)
    (ap (λ z. z.c0) (hl ∙ ap (line_of lines) high_is) ∙ before.high)
