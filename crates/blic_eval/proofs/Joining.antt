-- The polynomials of refs that are joined.
use Rattle.std.proofs.Common.{arith, ℕ, ◌+◌, ◌*◌, ◌≡◌, ◌≢◌, ◌<◌, ◌≤◌, refl, sym, ◌∙◌, ap, subst, ◌⊎◌, inl, inr, List, length, Bool, true, false}
use Rattle.std.specs.Prelude.{min, nat_le, set, cond}
use mathlib.Core.Path.{ap₂, fun_ext}
use Rattle.std.proofs.lemmas.Bool.{cases_eq, cases_lt, false≢true}
use Rattle.std.proofs.lemmas.Bool.Decides.{nat_tests}
use Rattle.std.proofs.lemmas.List.{get_or-set_same, get_or-set_other}
use Rattle.blic_field.specs.Field.{modulus, mul, or, blend}
use Rattle.blic_field.specs.Quadratic.{Quadratic, at, interpolate, HasElements}
use Rattle.blic_field.proofs.Interpolation.{at-def, interpolate-at}
use Rattle.blic_field.proofs.Ring.{ring, mul_below, or_below, add_below, blend_below}
use Rattle.blic_poly2.specs.declared.linear.Lin.{Lin}
use Rattle.blic_poly2.specs.Poly.{lin_at}
use Rattle.blic_poly2.proofs.Values.{lin_at-def}
use Rattle.blic_model.specs.Value.{Point, put, linearize}
use Rattle.blic_model.proofs.Put.{put_other}
use Rattle.blic_model.proofs.Degrees.{Ignores}
use Rattle.blic_store.specs.declared.decision.Decision.{Decision}
use Rattle.blic_store.specs.Canonical.{IsCanonical}
use Rattle.blic_store.specs.Diagram.{IsRef, cofactor, function, level_of}
use Rattle.blic_graph.specs.declared.pair.Pair.{Pair}
use Rattle.blic_graph.specs.declared.pair.Side.{Side}
use Rattle.blic_graph.specs.Pairs.{IsGraph, IsListed, IsSide, StandsAt, level_of_pair, pair_at}
use Rattle.blic_graph.proofs.Closed.{child_below}
use Rattle.blic_store.proofs.Cofactors.{is_cofactor}
use Rattle.blic_apply.specs.declared.operation.Op.{Op}
use Rattle.blic_apply.specs.declared.operation.Op.TheVariants.{And, Or}
use Rattle.blic_eval.specs.Extension.{extension, joined, joined_poly}
use Rattle.blic_eval.specs.Lines.{HasLevels, HasLines, IsLine, line_of}
use Rattle.blic_eval.specs.Reached.{IsAmong}
use Rattle.blic_eval.specs.Sides.{HasPolys, HasTables, IsFirstUnder, IsGraphOfReached, IsInTables, IsJoined, IsPairPoly, is_under, leaf_of, lines_joined, poly_at, poly_of_side, reduced_joined, value_at, widened_of}
use Rattle.blic_eval.proofs.Linearized.{AllBelow, reduced, reduced_ignored, reduced_linear, IsFixed, blend_of_fixed}
use Rattle.blic_eval.proofs.Extensions.{AllBelow-extension, Ignores-extension, IsFixed-extension, IsPartAt, linearize_extension}
use Rattle.blic_eval.proofs.Reaching.{AreAmong, among_cofactor, pair_among}
use Rattle.blic_eval.proofs.Refs.{IsBlind-ref, IsPartAt-cofactor, extension-false, extension-true, flat_value, lin_constant, line_of-false, line_of-true}

-- the values of two refs, joined
abbrev pub both : Op → List Decision → ℕ → ℕ → ℕ → Point → ℕ
both op nodes levels c d p = joined op (extension (function nodes c) levels p) (extension (function nodes d) levels p)

pub reduced_joined-def : (op : Op) (nodes : List Decision) (levels level c d : ℕ) → reduced_joined op nodes levels level c d ≡ reduced (both op nodes levels c d) level
unfolding reduced_joined
reduced_joined-def op nodes levels level c d = refl

pub joined_below : (op : Op) (u w : ℕ) → joined op u w < modulus
joined_below And u w = mul_below u w
joined_below Or u w = or_below u w

AllBelow-both : (op : Op) (nodes : List Decision) (levels c d : ℕ) → AllBelow (both op nodes levels c d)
AllBelow-both op nodes levels c d p = joined_below op _ _

Ignores-both : (op : Op) (nodes : List Decision) → IsCanonical nodes → (levels c d : ℕ) → IsRef nodes c → IsRef nodes d → (x : ℕ) → x < level_of nodes c → x < level_of nodes d
    → Ignores (both op nodes levels c d) x
Ignores-both op nodes can levels c d hc hd x lc ld s t =
    ap₂ (joined op) (Ignores-extension (function nodes c) levels x (IsBlind-ref nodes can c hc x lc) s t)
    (Ignores-extension (function nodes d) levels x (IsBlind-ref nodes can d hd x ld) s t)

IsFixed-both : (op : Op) (nodes : List Decision) (levels c d c' d' x : ℕ) (b : Bool) → IsPartAt (function nodes c) x b (function nodes c') → IsPartAt (function nodes d) x b (function nodes d')
    → IsFixed (both op nodes levels c d) x b (both op nodes levels c' d')
IsFixed-both op nodes levels c d c' d' x b i j =
    let u = IsFixed-extension (function nodes c) (function nodes c') levels x b i in
    let w = IsFixed-extension (function nodes d) (function nodes d') levels x b j in
    record { value = λ s. ap₂ (joined op) (u.value s) (w.value s); ignores = λ s t. ap₂ (joined op) (u.ignores s t) (w.ignores s t) }

-- Above the level the two are blended between what both become.
pub joined_above : (op : Op) (nodes : List Decision) → IsCanonical nodes → (levels level c d x : ℕ) → IsRef nodes c → IsRef nodes d → 2 ≤ c → 2 ≤ d
    → x ≤ level_of nodes c → x ≤ level_of nodes d → x < level → (s : Point) (t : ℕ)
    → reduced_joined op nodes levels level c d (put s level t)
    ≡ blend (s x) (reduced_joined op nodes levels level (cofactor nodes c x false) (cofactor nodes d x false) (put s level t))
    (reduced_joined op nodes levels level (cofactor nodes c x true) (cofactor nodes d x true) (put s level t))
joined_above op nodes can levels level c d x hc hd ic id lc ld l s t =
    let at_def = λ (e f : ℕ). ap (λ u. u (put s level t)) (reduced_joined-def op nodes levels level e f) in
    at_def c d
    ∙ (blend_of_fixed (both op nodes levels c d) level x
    (both op nodes levels (cofactor nodes c x false) (cofactor nodes d x false)) (both op nodes levels (cofactor nodes c x true) (cofactor nodes d x true))
    (AllBelow-both op nodes levels c d) (AllBelow-both op nodes levels _ _) (AllBelow-both op nodes levels _ _) l
    (IsFixed-both op nodes levels c d (cofactor nodes c x false) (cofactor nodes d x false) x false (IsPartAt-cofactor nodes can c x false hc ic lc) (IsPartAt-cofactor nodes can d x false hd id ld))
    (IsFixed-both op nodes levels c d (cofactor nodes c x true) (cofactor nodes d x true) x true (IsPartAt-cofactor nodes can c x true hc ic lc) (IsPartAt-cofactor nodes can d x true hd id ld))
    (put s level t)
    ∙ (ap (λ z. blend z (reduced (both op nodes levels (cofactor nodes c x false) (cofactor nodes d x false)) level (put s level t))
    (reduced (both op nodes levels (cofactor nodes c x true) (cofactor nodes d x true)) level (put s level t))) (put_other s level t x (λ e. absurd (omega arith)))
    ∙ sym (ap₂ (blend (s x)) (at_def (cofactor nodes c x false) (cofactor nodes d x false)) (at_def (cofactor nodes c x true) (cofactor nodes d x true)))))

-- From the level on nothing is made linear.
pub joined_from : (op : Op) (nodes : List Decision) → IsCanonical nodes → (levels level c d : ℕ) → IsRef nodes c → IsRef nodes d
    → level ≤ level_of nodes c → level ≤ level_of nodes d → (p : Point) → reduced_joined op nodes levels level c d p ≡ both op nodes levels c d p
joined_from op nodes can levels level c d hc hd lc ld p =
    ap (λ u. u p) (reduced_joined-def op nodes levels level c d)
    ∙ ap (λ u. u p) (reduced_ignored (both op nodes levels c d) level (AllBelow-both op nodes levels c d)
    (λ x l. Ignores-both op nodes can levels c d hc hd x (omega arith) (omega arith)))

-- joined with a constant

mul_one_left : (u : ℕ) → u < modulus → mul 1 u ≡ u
mul_one_left u l = simp ring (omega arith)

mul_one_right : (u : ℕ) → u < modulus → mul u 1 ≡ u
mul_one_right u l = simp ring (omega arith)

mul_zero_left : (u : ℕ) → mul 0 u ≡ 0
mul_zero_left u = simp ring (omega arith)

mul_zero_right : (u : ℕ) → mul u 0 ≡ 0
mul_zero_right u = simp ring (omega arith)

or_zero_left : (u : ℕ) → u < modulus → or 0 u ≡ u
or_zero_left u l = simp ring (omega arith)

or_zero_right : (u : ℕ) → u < modulus → or u 0 ≡ u
or_zero_right u l = simp ring (omega arith)

or_one_left : (u : ℕ) → or 1 u ≡ 1
or_one_left u = simp ring (omega arith)

or_one_right : (u : ℕ) → or u 1 ≡ 1
or_one_right u = simp ring (omega arith)

leaf_and : (c d : ℕ) → ((c ≡ 1) × (leaf_of And c d ≡ d)) ⊎ (((d ≡ 1) × (leaf_of And c d ≡ c)) ⊎ ((c ≢ 1) × (d ≢ 1) × (leaf_of And c d ≡ 0)))
leaf_and c d = grind arith

leaf_or : (c d : ℕ) → ((c ≡ 0) × (leaf_of Or c d ≡ d)) ⊎ (((d ≡ 0) × (leaf_of Or c d ≡ c)) ⊎ ((c ≢ 0) × (d ≢ 0) × (leaf_of Or c d ≡ 1)))
leaf_or c d = grind arith

-- Whatever gives the constants their bits as values gives the leaf the values joined.
pub leaf_value : (op : Op) (c d : ℕ) → min c d < 2 → (V : ℕ → ℕ) → V 0 ≡ 0 → V 1 ≡ 1 → ((r : ℕ) → V r < modulus) → joined op (V c) (V d) ≡ V (leaf_of op c d)
leaf_value And c d l V z o h = elim (leaf_and c d) [
  | inl e ↦ ap (λ w. mul w (V d)) (ap V e.0 ∙ o) ∙ (mul_one_left (V d) (h d) ∙ sym (ap V e.1))
  | inr w ↦ elim w [
    | inl e ↦ ap (mul (V c)) (ap V e.0 ∙ o) ∙ (mul_one_right (V c) (h c) ∙ sym (ap V e.1))
    | inr e ↦ elim (cases_eq c 0) [
      | inl q ↦ ap (λ w. mul w (V d)) (ap V q ∙ z) ∙ (mul_zero_left (V d) ∙ sym (ap V e.2 ∙ z))
      | inr q ↦
          let n : c ≢ 0 = q in let m = e.0 in let k = e.1 in
          let p : d ≡ 0 = omega arith in
          ap (mul (V c)) (ap V p ∙ z) ∙ (mul_zero_right (V c) ∙ sym (ap V e.2 ∙ z))
    ]
  ]
]
leaf_value Or c d l V z o h = elim (leaf_or c d) [
  | inl e ↦ ap (λ w. or w (V d)) (ap V e.0 ∙ z) ∙ (or_zero_left (V d) (h d) ∙ sym (ap V e.1))
  | inr w ↦ elim w [
    | inl e ↦ ap (or (V c)) (ap V e.0 ∙ z) ∙ (or_zero_right (V c) (h c) ∙ sym (ap V e.1))
    | inr e ↦ elim (cases_eq c 1) [
      | inl q ↦ ap (λ w. or w (V d)) (ap V q ∙ o) ∙ (or_one_left (V d) ∙ sym (ap V e.2 ∙ o))
      | inr q ↦
          let n : c ≢ 1 = q in let m = e.0 in let k = e.1 in
          let p : d ≡ 1 = omega arith in
          ap (or (V c)) (ap V p ∙ o) ∙ (or_one_right (V c) ∙ sym (ap V e.2 ∙ o))
    ]
  ]
]

-- Two refs of which one is constant.
pub joined_leaf : (op : Op) (nodes : List Decision) (levels level c d : ℕ) → level ≤ levels → min c d < 2 → (p : Point)
    → reduced_joined op nodes levels level c d p ≡ both op nodes levels c d p
joined_leaf op nodes levels level c d l m p =
    let leaf : both op nodes levels c d ≡ extension (function nodes (leaf_of op c d)) levels =
    fun_ext (λ r. leaf_value op c d m (λ z. extension (function nodes z) levels r) (extension-false nodes levels r) (extension-true nodes levels r)
    (λ z. AllBelow-extension (function nodes z) levels r)) in
    ap (λ u. u p) (reduced_joined-def op nodes levels level c d)
    ∙ ap (λ u. u p) (reduced_linear (both op nodes levels c d) level
    (λ x h. subst (λ u. linearize u x ≡ u) (sym leaf) (linearize_extension (function nodes (leaf_of op c d)) levels x (omega arith))))

-- what stays the same while the pairs are evaluated: those from the nth on are under the level
pub record IsRun (nodes : List Decision) (levels level : ℕ) (s : Point) (pairs : List Pair) (n : ℕ) (lines : List Lin) : Type 0 where
  pub canonical : IsCanonical nodes
  pub levels_in : HasLevels nodes levels
  pub level_in : level < levels
  pub numbers : List ℕ
  pub graph : IsGraphOfReached nodes pairs numbers
  pub lines_are : HasLines nodes levels level s lines numbers (length numbers)
  pub room : length nodes ≤ length lines
  pub under : IsFirstUnder pairs level n

-- The lines of two refs, joined.
pub lines_are_both : (op : Op) (nodes : List Decision) (levels level : ℕ) (s : Point) (lines : List Lin) (c d : ℕ)
    → IsLine nodes levels level s c (line_of lines c) → IsLine nodes levels level s d (line_of lines d) → (t : ℕ) → lines_joined op lines c d t ≡ both op nodes levels c d (put s level t)
lines_are_both op nodes levels level s lines c d hc hd t = ap₂ (joined op) (hc.values t) (hd.values t)

at_most_holds : (n j : ℕ) → n ≤ j → nat_le n j ≡ true
at_most_holds n j l = grind (arith, nat_tests)

at_most_fails : (n j : ℕ) → j < n → nat_le n j ≡ false
at_most_fails n j l = grind (arith, nat_tests)

widened_at : (a : Lin) (t : ℕ) → at (widened_of a) t ≡ lin_at a t
widened_at a t = simp (at-def, lin_at-def, ring) (omega arith)

lin_below : (a : Lin) (t : ℕ) → lin_at a t < modulus
lin_below a t = subst (λ z. z < modulus) (sym (lin_at-def a t)) (add_below _ _)

-- The polynomial that has the same value everywhere.
flat_at_all : (v t : ℕ) → v < modulus → at (widened_of (record { c0 = v; c1 = 0 })) t ≡ v
flat_at_all v t l = widened_at (record { c0 = v; c1 = 0 }) t ∙ lin_constant v t l

-- The line of a leaf.
pub leaf_values : (op : Op) (lines : List Lin) (c d : ℕ) → min c d < 2 → (t : ℕ) → at (widened_of (line_of lines (leaf_of op c d))) t ≡ lines_joined op lines c d t
leaf_values op lines c d m t =
    widened_at (line_of lines (leaf_of op c d)) t
    ∙ sym (leaf_value op c d m (λ r. lin_at (line_of lines r) t)
    (ap (λ a. lin_at a t) (line_of-false lines) ∙ lin_constant 0 t (omega arith))
    (ap (λ a. lin_at a t) (line_of-true lines) ∙ lin_constant 1 t (omega arith))
    (λ r. lin_below (line_of lines r) t))

-- a pair of a run, and what is in the tables of its refs
record IsKnown (nodes : List Decision) (levels level : ℕ) (s : Point) (pairs : List Pair) (lines : List Lin) (j : ℕ) : Type 0 where
  level_is : (pair_at pairs j).level ≡ level_of_pair nodes (pair_at pairs j).first (pair_at pairs j).second
  first_held : IsRef nodes (pair_at pairs j).first
  second_held : IsRef nodes (pair_at pairs j).second
  first_inner : 2 ≤ (pair_at pairs j).first
  second_inner : 2 ≤ (pair_at pairs j).second
  first_line : IsLine nodes levels level s (pair_at pairs j).first (line_of lines (pair_at pairs j).first)
  second_line : IsLine nodes levels level s (pair_at pairs j).second (line_of lines (pair_at pairs j).second)

known : (nodes : List Decision) (levels level : ℕ) (s : Point) (pairs : List Pair) (n : ℕ) (lines : List Lin) (j : ℕ) → IsRun nodes levels level s pairs n lines → j < length pairs
    → IsKnown nodes levels level s pairs lines j
known nodes levels level s pairs n lines j run h =
    let l = run.graph.graph.listed j h in
    let w = pair_among nodes run.canonical run.graph.first run.graph.second run.numbers run.graph.reached (pair_at pairs j).first (pair_at pairs j).second l.of in
    record {
      level_is = l.level;
      first_held = l.of.first_inner.held;
      second_held = l.of.second_inner.held;
      first_inner = l.of.first_inner.inner;
      second_inner = l.of.second_inner.inner;
      first_line = run.lines_are (pair_at pairs j).first w.first;
      second_line = run.lines_are (pair_at pairs j).second w.second;
    }

-- A pair under the level has the same value everywhere.
value_is_joined : (op : Op) (nodes : List Decision) (levels level : ℕ) (s : Point) (pairs : List Pair) (n : ℕ) (lines : List Lin) (j : ℕ)
    → IsRun nodes levels level s pairs n lines → n ≤ j → j < length pairs → (t : ℕ)
    → value_at op pairs lines j ≡ reduced_joined op nodes levels level (pair_at pairs j).first (pair_at pairs j).second (put s level t)
value_is_joined op nodes levels level s pairs n lines j run l h t =
    let can = run.canonical in
    let k = known nodes levels level s pairs n lines j run h in
    let c = (pair_at pairs j).first in
    let d = (pair_at pairs j).second in
    let e = k.level_is in
    let m = run.under.under j l h in
    let lc : level < level_of nodes c = omega arith in
    let ld : level < level_of nodes d = omega arith in
    ap₂ (joined op) (flat_value nodes can levels level s c (line_of lines c) k.first_held lc k.first_line) (flat_value nodes can levels level s d (line_of lines d) k.second_held ld k.second_line)
    ∙ (sym (Ignores-both op nodes can levels c d k.first_held k.second_held level lc ld s t)
    ∙ sym (joined_from op nodes can levels level c d k.first_held k.second_held (omega arith) (omega arith) (put s level t)))

poly_of_under : (op : Op) (pairs : List Pair) (n : ℕ) (lines : List Lin) (polys : List Quadratic) (j : ℕ) → n ≤ j
    → poly_of_side op pairs n lines polys (Side.Pair j) ≡ widened_of (record { c0 = value_at op pairs lines j; c1 = 0 })
poly_of_under op pairs n lines polys j l = ap (λ b. cond b (widened_of (record { c0 = value_at op pairs lines j; c1 = 0 })) (poly_at polys j)) (at_most_holds n j l)

poly_of_before : (op : Op) (pairs : List Pair) (n : ℕ) (lines : List Lin) (polys : List Quadratic) (j : ℕ) → j < n → poly_of_side op pairs n lines polys (Side.Pair j) ≡ poly_at polys j
poly_of_before op pairs n lines polys j l = ap (λ b. cond b (widened_of (record { c0 = value_at op pairs lines j; c1 = 0 })) (poly_at polys j)) (at_most_fails n j l)

-- The polynomial of a side is that of the two refs joined.
pub side_is : (op : Op) (nodes : List Decision) (levels level : ℕ) (s : Point) (pairs : List Pair) (n : ℕ) (lines : List Lin) (polys : List Quadratic) (k : ℕ)
    → IsRun nodes levels level s pairs n lines → HasPolys op nodes levels level s pairs n polys k
    → (c d : ℕ) → IsLine nodes levels level s c (line_of lines c) → IsLine nodes levels level s d (line_of lines d) → IsLine nodes levels level s (leaf_of op c d) (line_of lines (leaf_of op c d))
    → (side : Side) → IsSide pairs side c d → ((j : ℕ) → StandsAt pairs j c d → k ≤ j) → IsJoined op nodes levels level s c d (poly_of_side op pairs n lines polys side)
side_is op nodes levels level s pairs n lines polys k run done c d hc hd leaf (Side.Pair j) e later = elim (cases_lt j n) [
  | inl f ↦ subst (IsJoined op nodes levels level s c d) (sym (poly_of_before op pairs n lines polys j f))
      (subst (λ z. IsJoined op nodes levels level s z d (poly_at polys j)) e.first
      (subst (λ z. IsJoined op nodes levels level s (pair_at pairs j).first z (poly_at polys j)) e.second (done j (later j e) f)))
  | inr f ↦ subst (IsJoined op nodes levels level s c d) (sym (poly_of_under op pairs n lines polys j f)) (record {
    elements = (joined_below op _ _, omega arith, omega arith);
    values = λ t.
        flat_at_all (value_at op pairs lines j) t (joined_below op _ _)
        ∙ (value_is_joined op nodes levels level s pairs n lines j run f e.in_range t
        ∙ ap₂ (λ y z. reduced_joined op nodes levels level y z (put s level t)) e.first e.second);
  })
]
side_is op nodes levels level s pairs n lines polys k run done c d hc hd leaf (Side.Done y z) e later =
    let m = e.2 in
    let p = e.0 in
    let q = e.1 in
    let w = run.level_in in
    let same : leaf_of op y z ≡ leaf_of op c d = ap₂ (leaf_of op) e.0 e.1 in
    let l : IsLine nodes levels level s (leaf_of op y z) (line_of lines (leaf_of op y z)) =
    subst (λ r. IsLine nodes levels level s r (line_of lines r)) (sym same) leaf in
    record {
      elements = (l.elements.0, l.elements.1, omega arith);
      values = λ t.
          leaf_values op lines y z e.2 t
          ∙ (ap₂ (λ u v. lines_joined op lines u v t) e.0 e.1
          ∙ (lines_are_both op nodes levels level s lines c d hc hd t
          ∙ sym (joined_leaf op nodes levels level c d (omega arith) (omega arith) (put s level t))));
    }

-- A pair that a side of pair k names comes later.
later : (nodes : List Decision) → IsCanonical nodes → (a b : ℕ) (pairs : List Pair) → IsGraph nodes a b pairs → (k : ℕ) → k < length pairs → (v : Bool) (j : ℕ)
    → StandsAt pairs j (cofactor nodes (pair_at pairs k).first (pair_at pairs k).level v) (cofactor nodes (pair_at pairs k).second (pair_at pairs k).level v) → k + 1 ≤ j
later nodes c a b pairs graph k h v j w =
    let x = pair_at pairs k in
    let l = graph.listed k h in
    let m = graph.listed j w.in_range in
    let under = child_below nodes c x.first x.second x.level v l.of.first_inner l.of.second_inner l.level in
    let e : (pair_at pairs j).level ≡ level_of_pair nodes (cofactor nodes x.first x.level v) (cofactor nodes x.second x.level v) =
    m.level ∙ ap₂ (level_of_pair nodes) w.first w.second in
    elim (cases_lt k j) [
      | inl q ↦ omega arith
      | inr q ↦ elim (cases_eq j k) [
        | inl p ↦ absurd (let r : (pair_at pairs j).level ≡ x.level = ap (λ z. (pair_at pairs z).level) p in omega arith)
        | inr n ↦ absurd (let ne : j ≢ k = n in let r = graph.rising j k (omega arith) h in omega arith)
      ]
    ]

-- What a side names is in the tables.
pub side_in : (nodes : List Decision) (levels level : ℕ) (s : Point) (pairs : List Pair) (n : ℕ) (lines : List Lin) → IsRun nodes levels level s pairs n lines
    → (c d : ℕ) → IsRef nodes c → IsRef nodes d → (side : Side) → IsSide pairs side c d → IsInTables pairs lines side
side_in nodes levels level s pairs n lines run c d hc hd (Side.Pair j) e =
    let r = run.room in
    let p = e.first in
    let q = e.second in
    (e.in_range, omega arith, omega arith)
side_in nodes levels level s pairs n lines run c d hc hd (Side.Done y z) e =
    let r = run.room in
    let p = e.0 in
    let q = e.1 in
    (omega arith, omega arith, e.2)

-- And what a pair names.
pub pair_in : (nodes : List Decision) (levels level : ℕ) (s : Point) (pairs : List Pair) (n : ℕ) (lines : List Lin) (k : ℕ)
    → IsRun nodes levels level s pairs n lines → k < length pairs → HasTables pairs lines (pair_at pairs k)
pair_in nodes levels level s pairs n lines k run h =
    let x = pair_at pairs k in
    let l = run.graph.graph.listed k h in
    let e = l.level in
    let r = run.room in
    let f = l.of.first_inner.held in
    let g = l.of.second_inner.held in
    let held : (v : Bool) → IsRef nodes (cofactor nodes x.first x.level v) × IsRef nodes (cofactor nodes x.second x.level v) =
    λ v. (
      (is_cofactor nodes run.canonical x.first x.level v l.of.first_inner.held l.of.first_inner.inner (omega arith)).held,
      (is_cofactor nodes run.canonical x.second x.level v l.of.second_inner.held l.of.second_inner.inner (omega arith)).held,
    ) in
    record {
      first = omega arith;
      second = omega arith;
      low = side_in nodes levels level s pairs n lines run _ _ (held false).0 (held false).1 x.low l.low;
      high = side_in nodes levels level s pairs n lines run _ _ (held true).0 (held true).1 x.high l.high;
    }

-- The leaf of two refs is one of the two or a constant.
among_leaf : (op : Op) (numbers : List ℕ) (c d : ℕ) → IsAmong numbers (length numbers) c → IsAmong numbers (length numbers) d → IsAmong numbers (length numbers) (leaf_of op c d)
among_leaf And numbers c d hc hd = elim (leaf_and c d) [
  | inl e ↦ subst (IsAmong numbers (length numbers)) (sym e.1) hd
  | inr w ↦ elim w [
    | inl e ↦ subst (IsAmong numbers (length numbers)) (sym e.1) hc
    | inr e ↦ (let q = e.2 in inl (omega arith))
  ]
]
among_leaf Or numbers c d hc hd = elim (leaf_or c d) [
  | inl e ↦ subst (IsAmong numbers (length numbers)) (sym e.1) hd
  | inr w ↦ elim w [
    | inl e ↦ subst (IsAmong numbers (length numbers)) (sym e.1) hc
    | inr e ↦ (let q = e.2 in inl (omega arith))
  ]
]

-- A pair's polynomial from the tables is that of its refs joined.
pub pair_is : (op : Op) (nodes : List Decision) (levels level : ℕ) (s : Point) (pairs : List Pair) (n : ℕ) (lines : List Lin) (polys : List Quadratic) (k : ℕ) (q : Quadratic)
    → IsRun nodes levels level s pairs n lines → HasPolys op nodes levels level s pairs n polys (k + 1) → k < n
    → IsPairPoly op level s pairs n lines polys (pair_at pairs k) q → IsJoined op nodes levels level s (pair_at pairs k).first (pair_at pairs k).second q
pair_is op nodes levels level s pairs n lines polys k q run done before w = record { elements = w.elements; values = values }
  where
    can : IsCanonical nodes
    can = run.canonical

    h : k < length pairs
    h = let u = run.under.within in omega arith

    x : Pair
    x = pair_at pairs k

    l : IsListed nodes run.graph.first run.graph.second pairs (pair_at pairs k)
    l = run.graph.graph.listed k h

    lf : (pair_at pairs k).level ≤ level_of nodes (pair_at pairs k).first
    lf = let e = l.level in omega arith

    ls : (pair_at pairs k).level ≤ level_of nodes (pair_at pairs k).second
    ls = let e = l.level in omega arith

    among : AreAmong run.numbers (pair_at pairs k).first (pair_at pairs k).second
    among = pair_among nodes can run.graph.first run.graph.second run.numbers run.graph.reached (pair_at pairs k).first (pair_at pairs k).second l.of

    among_first : (v : Bool) → IsAmong run.numbers (length run.numbers) (cofactor nodes x.first x.level v)
    among_first v = among_cofactor nodes run.graph.first run.graph.second run.numbers run.graph.reached x.first x.level v among.first_inner among.first

    among_second : (v : Bool) → IsAmong run.numbers (length run.numbers) (cofactor nodes x.second x.level v)
    among_second v = among_cofactor nodes run.graph.first run.graph.second run.numbers run.graph.reached x.second x.level v among.second_inner among.second

    side : (v : Bool) (side : Side) → IsSide pairs side (cofactor nodes x.first x.level v) (cofactor nodes x.second x.level v) → (t : ℕ)
        → at (poly_of_side op pairs n lines polys side) t ≡ reduced_joined op nodes levels level (cofactor nodes x.first x.level v) (cofactor nodes x.second x.level v) (put s level t)
    side v sd e t =
        (side_is op nodes levels level s pairs n lines polys (k + 1) run done (cofactor nodes x.first x.level v) (cofactor nodes x.second x.level v)
        (run.lines_are (cofactor nodes x.first x.level v) (among_first v)) (run.lines_are (cofactor nodes x.second x.level v) (among_second v))
        (run.lines_are (leaf_of op (cofactor nodes x.first x.level v) (cofactor nodes x.second x.level v))
        (among_leaf op run.numbers (cofactor nodes x.first x.level v) (cofactor nodes x.second x.level v) (among_first v) (among_second v)))
        sd e (later nodes can run.graph.first run.graph.second pairs run.graph.graph k h v)).values t

    above : x.level < level → (t : ℕ) → at q t ≡ reduced_joined op nodes levels level x.first x.second (put s level t)
    above m t =
        w.above m t
        ∙ (ap₂ (blend (s x.level)) (side false x.low l.low t) (side true x.high l.high t)
        ∙ sym (joined_above op nodes can levels level x.first x.second x.level l.of.first_inner.held l.of.second_inner.held l.of.first_inner.inner l.of.second_inner.inner lf ls m s t))

    here : x.level ≡ level → (t : ℕ) → at q t ≡ reduced_joined op nodes levels level x.first x.second (put s level t)
    here m t =
        w.here m t
        ∙ (lines_are_both op nodes levels level s lines x.first x.second (run.lines_are x.first among.first) (run.lines_are x.second among.second) t
        ∙ sym (joined_from op nodes can levels level x.first x.second l.of.first_inner.held l.of.second_inner.held
        (let a = lf in omega arith) (let a = ls in omega arith) (put s level t)))

    values : (t : ℕ) → at q t ≡ reduced_joined op nodes levels level x.first x.second (put s level t)
    values t = elim (cases_lt x.level level) [
      | inl m ↦ above m t
      | inr m ↦ here (let u = run.under.before k before in omega arith) t
    ]

-- One pair more.
pub polys_more : (op : Op) (nodes : List Decision) (levels level : ℕ) (s : Point) (pairs : List Pair) (n : ℕ) (polys : List Quadratic) (k : ℕ) (q : Quadratic) → k < length polys
    → HasPolys op nodes levels level s pairs n polys (k + 1) → IsJoined op nodes levels level s (pair_at pairs k).first (pair_at pairs k).second q
    → HasPolys op nodes levels level s pairs n (set polys k q) k
polys_more op nodes levels level s pairs n polys k q h done w j l m = elim (cases_eq j k) [
  | inl e ↦ subst (λ z. IsJoined op nodes levels level s (pair_at pairs z).first (pair_at pairs z).second (poly_at (set polys k q) z)) (sym e)
      (subst (IsJoined op nodes levels level s (pair_at pairs k).first (pair_at pairs k).second) (sym (get_or-set_same polys k q _ h)) w)
  | inr ne ↦
      let other : j ≢ k = ne in
      subst (IsJoined op nodes levels level s (pair_at pairs j).first (pair_at pairs j).second) (sym (get_or-set_other polys k j q _ ne)) (done j (omega arith) m)
]

joined_poly-def : (op : Op) (nodes : List Decision) (levels level a b : ℕ) (s : Point)
    → joined_poly op (function nodes a) (function nodes b) levels level s ≡ interpolate (λ t. reduced_joined op nodes levels level a b (put s level t))
unfolding joined_poly reduced_joined
joined_poly-def op nodes levels level a b s = refl

-- The polynomial of two refs joined is the one that the definition gives.
joined_is : (op : Op) (nodes : List Decision) (levels level : ℕ) (s : Point) (a b : ℕ) (q : Quadratic) → IsJoined op nodes levels level s a b q
    → q ≡ joined_poly op (function nodes a) (function nodes b) levels level s
joined_is op nodes levels level s a b q w =
    sym (joined_poly-def op nodes levels level a b s ∙ (ap interpolate (fun_ext (λ t. sym (w.values t))) ∙ interpolate-at q w.elements))

-- Sides that are both under the level are blended as values.
flat_side : (op : Op) (pairs : List Pair) (n : ℕ) (lines : List Lin) (polys : List Quadratic) (side : Side) → is_under n side ≡ true → (t : ℕ)
    → (poly_of_side op pairs n lines polys side).c0 ≡ at (poly_of_side op pairs n lines polys side) t
flat_side op pairs n lines polys (Side.Pair j) e t =
    let p : poly_of_side op pairs n lines polys (Side.Pair j) ≡ widened_of (record { c0 = value_at op pairs lines j; c1 = 0 }) =
    ap (λ b. cond b (widened_of (record { c0 = value_at op pairs lines j; c1 = 0 })) (poly_at polys j)) e in
    ap (λ z. z.c0) p ∙ sym (ap (λ z. at z t) p ∙ flat_at_all (value_at op pairs lines j) t (joined_below op _ _))
flat_side op pairs n lines polys (Side.Done c d) e t = absurd (false≢true e)

pub pair_flat : (op : Op) (level : ℕ) (s : Point) (pairs : List Pair) (n : ℕ) (lines : List Lin) (polys : List Quadratic) (x : Pair) (low high q : Quadratic) (v : ℕ) → x.level ≢ level
    → is_under n x.low ≡ true → is_under n x.high ≡ true → low ≡ poly_of_side op pairs n lines polys x.low → high ≡ poly_of_side op pairs n lines polys x.high
    → v ≡ blend (s x.level) low.c0 high.c0 → q ≡ widened_of (record { c0 = v; c1 = 0 }) → IsPairPoly op level s pairs n lines polys x q
pair_flat op level s pairs n lines polys x low high q v ne ul uh el eh ev eq =
    let b : v < modulus = subst (λ z. z < modulus) (sym ev) (blend_below _ _ _) in
    record {
      elements = subst HasElements (sym eq) (b, omega arith, omega arith);
      above = λ m t.
          ap (λ z. at z t) eq
          ∙ (flat_at_all v t b
          ∙ (ev ∙ ap₂ (blend (s x.level)) (ap (λ z. z.c0) el ∙ flat_side op pairs n lines polys x.low ul t) (ap (λ z. z.c0) eh ∙ flat_side op pairs n lines polys x.high uh t)));
      here = λ m. absurd (ne m);
    }

one_product : (p : Bool) → cond p 1 0 ≤ 1
one_product true = omega arith
one_product false = omega arith

-- Where there is no pair, one of the two refs is constant.
pub no_pairs : (nodes : List Decision) (a b : ℕ) (pairs : List Pair) → IsGraph nodes a b pairs → length pairs ≡ 0 → min a b < 2
no_pairs nodes a b pairs graph e = elim (cases_lt (min a b) 2) [ inl l ↦ l | inr l ↦ absurd (let w = graph.some (omega arith) (omega arith) in omega arith) ]

-- The two refs as a side.
pub root_is_side : (nodes : List Decision) (a b : ℕ) (pairs : List Pair) (side : Side) → IsGraph nodes a b pairs → (0 < length pairs → side ≡ Side.Pair 0) → (length pairs ≡ 0 → side ≡ Side.Done a b)
    → IsSide pairs side a b
root_is_side nodes a b pairs side graph pair done = elim (cases_lt 0 (length pairs)) [
  | inl l ↦ subst (λ z. IsSide pairs z a b) (sym (pair l)) (graph.root l)
  | inr l ↦ (let none : length pairs ≡ 0 = omega arith in subst (λ z. IsSide pairs z a b) (sym (done none)) (refl, refl, no_pairs nodes a b pairs graph none))
]

-- It takes a product only where there are pairs, all of which are under the level.
pub root_products : (n : ℕ) (a b : ℕ) (pairs : List Pair) (side : Side) → n ≤ length pairs → (0 < length pairs → side ≡ Side.Pair 0) → (length pairs ≡ 0 → side ≡ Side.Done a b)
    → 4 * n + cond (is_under n side) 1 0 ≤ 4 * length pairs
root_products n a b pairs side l pair done = elim (cases_lt 0 (length pairs)) [
  | inl some ↦ elim (cases_lt 0 n) [
    | inl m ↦ few n (length pairs) (cond (is_under n side) 1 0) l (ap (λ z. cond (is_under n z) 1 0) (pair some) ∙ ap (λ (c : Bool). cond c 1 0) (at_most_fails n 0 m))
    | inr m ↦ one n (length pairs) (cond (is_under n side) 1 0) m some (one_product (is_under n side))
  ]
  | inr none ↦ few n (length pairs) (cond (is_under n side) 1 0) l (ap (λ z. cond (is_under n z) 1 0) (done (omega arith)))
]
  where
    few : (n p t : ℕ) → n ≤ p → t ≡ 0 → 4 * n + t ≤ 4 * p
    few n p t l e = omega arith

    one : (n p t : ℕ) → n ≤ 0 → 0 < p → t ≤ 1 → 4 * n + t ≤ 4 * p
    one n p t l m e = omega arith

-- The polynomial of the two refs.
pub root_is : (op : Op) (nodes : List Decision) (levels level : ℕ) (s : Point) (a b : ℕ) (pairs : List Pair) (n : ℕ) (lines : List Lin) (polys : List Quadratic) (side : Side) (q : Quadratic)
    → (run : IsRun nodes levels level s pairs n lines) → HasPolys op nodes levels level s pairs n polys 0
    → IsAmong run.numbers (length run.numbers) a → IsAmong run.numbers (length run.numbers) b → IsSide pairs side a b → q ≡ poly_of_side op pairs n lines polys side
    → q ≡ joined_poly op (function nodes a) (function nodes b) levels level s
root_is op nodes levels level s a b pairs n lines polys side q run done ha hb e is =
    is
    ∙ joined_is op nodes levels level s a b (poly_of_side op pairs n lines polys side)
    (side_is op nodes levels level s pairs n lines polys 0 run done a b (run.lines_are a ha) (run.lines_are b hb) (run.lines_are (leaf_of op a b) (among_leaf op run.numbers a b ha hb))
    side e (λ j w. omega arith))
