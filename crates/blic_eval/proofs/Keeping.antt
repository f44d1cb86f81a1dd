-- The values that are kept.
use Rattle.std.proofs.Common.{arith, ℕ, suc, ◌+◌, ◌<◌, ◌≤◌, ◌≡◌, ◌≢◌, refl, sym, ◌∙◌, ap, subst, inl, inr, List, [], length, take, get_or}
use Rattle.std.specs.Prelude.{set}
use Rattle.std.proofs.lemmas.Bool.{cases_eq, cases_lt}
use Rattle.std.proofs.lemmas.Grind.{same_number_lists}
use Rattle.std.proofs.lemmas.List.{get_or-map, get_or-take, length-map, length-take-le}
use Rattle.blic_field.specs.Field.{modulus, blend}
use Rattle.blic_field.proofs.Ring.{blend_below}
use Rattle.blic_poly2.specs.declared.linear.Lin.{Lin}
use Rattle.blic_model.specs.Value.{Point}
use Rattle.blic_store.specs.declared.decision.Decision.{Decision}
use Rattle.blic_store.specs.Canonical.{IsCanonical}
use Rattle.blic_store.specs.Diagram.{decision_at, function, high_of, level_of, low_of}
use Rattle.blic_store.specs.Numbers.{IsOnce}
use Rattle.blic_eval.specs.Extension.{extension}
use Rattle.blic_eval.specs.Kept.{HasKept, IsDownTo, IsWhole, kept_in}
use Rattle.blic_eval.specs.Lines.{HasLevels, HasLines, HasValues, IsLine, line_of}
use Rattle.blic_eval.specs.Reached.{HasFallingLevels, IsAmong, IsReachedBySome, level_in}
use Rattle.blic_eval.proofs.Extensions.{Ignores-extension}
use Rattle.blic_eval.proofs.Refs.{IsBlind-ref, constant_line, constant_value, lin_constant, line_of-set_other, placed_at, ref_blend, side_values, value_is}
use Rattle.blic_eval.proofs.Sorting.{level_of-decision}

-- So many values are kept.
pub length-kept_in : (lines : List Lin) (numbers : List ℕ) (n : ℕ) → n ≤ length numbers → length (kept_in lines numbers n) ≡ n
length-kept_in lines numbers n l = length-map (take n numbers) (λ k. (line_of lines (k + 2)).c0) ∙ length-take-le n numbers l

-- A value is that of the decision's line.
pub get_or-kept_in : (lines : List Lin) (numbers : List ℕ) (n i : ℕ) → n ≤ length numbers → i < n → get_or (kept_in lines numbers n) i 0 ≡ (line_of lines (get_or numbers i 0 + 2)).c0
get_or-kept_in lines numbers n i l m =
    let long = length-take-le n numbers l in
    get_or-map (λ k. (line_of lines (k + 2)).c0) (take n numbers) i 0 0 (omega arith) ∙ ap (λ z. (line_of lines (z + 2)).c0) (get_or-take n numbers i 0 m)

-- Where the lines of the first decisions are the same, the same values are kept.
pub kept_in-same : (old new : List Lin) (numbers : List ℕ) (n : ℕ) → n ≤ length numbers → ((i : ℕ) → i < n → line_of new (get_or numbers i 0 + 2) ≡ line_of old (get_or numbers i 0 + 2))
    → kept_in new numbers n ≡ kept_in old numbers n
kept_in-same old new numbers n l same =
    let a = length-kept_in old numbers n l in
    let b = length-kept_in new numbers n l in
    same_number_lists (kept_in new numbers n) (kept_in old numbers n) (omega arith) (λ i m.
    let h : i < n = omega arith in
    get_or-kept_in new numbers n i l h ∙ (ap (λ z. z.c0) (same i h) ∙ sym (get_or-kept_in old numbers n i l h)))

-- What is kept, as values of refs in the table.
pub values_from_kept : (nodes : List Decision) (levels : ℕ) (s : Point) (lines : List Lin) (numbers : List ℕ) (n : ℕ) → n ≤ length numbers
    → HasKept nodes levels s numbers (kept_in lines numbers n) → HasValues nodes levels s lines numbers n
values_from_kept nodes levels s lines numbers n l h r among = elim among [
  | inl c ↦ constant_value nodes levels s lines r c
  | inr w ↦
      let long = length-kept_in lines numbers n l in
      let m = w.1 in
      let value = sym (get_or-kept_in lines numbers n w.0 l w.1) ∙ h w.0 (omega arith) in
      subst (λ z. (line_of lines z).c0 ≡ extension (function nodes z) levels s) (sym w.2) value
]

-- And back.
pub kept_from_values : (nodes : List Decision) (levels : ℕ) (s : Point) (lines : List Lin) (numbers : List ℕ) (n : ℕ) → n ≤ length numbers
    → HasValues nodes levels s lines numbers n → HasKept nodes levels s numbers (kept_in lines numbers n)
kept_from_values nodes levels s lines numbers n l h i m =
    let long = length-kept_in lines numbers n l in
    let inside : i < n = omega arith in
    get_or-kept_in lines numbers n i l inside ∙ h (get_or numbers i 0 + 2) (inr (i, inside, refl))

-- The front of a list by falling level goes down to a level, if what comes next is of a smaller one.
pub down_to : (nodes : List Decision) (numbers : List ℕ) (n level : ℕ) → HasFallingLevels nodes numbers → n ≤ length numbers → ((i : ℕ) → i < n → level ≤ level_in nodes numbers i)
    → (n < length numbers → level_in nodes numbers n < level) → IsDownTo nodes numbers n level
down_to nodes numbers n level falling few above next = record {
  few = few;
  above = above;
  under = λ i l m. elim (cases_eq i n) [
    | inl e ↦ (let here = ap (level_in nodes numbers) e in let small = next (omega arith) in omega arith)
    | inr ne ↦ (let other : i ≢ n = ne in let falls = falling n i (omega arith) m in let small = next (omega arith) in omega arith)
  ];
}

-- A front down to a level has no level in part.
pub whole_from_down : (nodes : List Decision) (numbers : List ℕ) (n level least : ℕ) → least ≤ level → IsDownTo nodes numbers n level → IsWhole nodes numbers n least
whole_from_down nodes numbers n level least l d = record {
  few = d.few;
  above = λ i m. (let a = d.above i m in omega arith);
  whole = λ i j m h k. (let a = d.above i m in let b = d.under j h k in omega arith);
}

-- A whole front goes down to above the level that comes next.
pub down_from_whole : (nodes : List Decision) (numbers : List ℕ) (n least own : ℕ) → HasFallingLevels nodes numbers → IsWhole nodes numbers n least → n < length numbers
    → own ≡ level_in nodes numbers n → IsDownTo nodes numbers n (suc own)
down_from_whole nodes numbers n least own falling w l e =
    down_to nodes numbers n (suc own) falling w.few (λ i m. let b = w.whole i n m (omega arith) l in omega arith) (λ m. omega arith)

-- A ref among the first decisions has a line in the table.
pub among_inside : (numbers : List ℕ) (n m r : ℕ) → n ≤ length numbers → ((i : ℕ) → i < length numbers → get_or numbers i 0 < m) → IsAmong numbers n r → r < m + 2
among_inside numbers n m r l inside among = elim among [
  | inl c ↦ omega arith
  | inr w ↦ (let h = w.1 in let e = w.2 in let b = inside w.0 (omega arith) in omega arith)
]

-- The line of a decision is written, and those of the others stay.
pub written_other : (lines : List Lin) (numbers : List ℕ) (i n : ℕ) (a : Lin) → IsOnce numbers → i < length numbers → n < length numbers → i ≢ n
    → line_of (set lines (get_or numbers n 0) a) (get_or numbers i 0 + 2) ≡ line_of lines (get_or numbers i 0 + 2)
written_other lines numbers i n a once l m ne =
    line_of-set_other lines (get_or numbers n 0) (get_or numbers i 0 + 2) a (λ e.
    let same : get_or numbers i 0 ≡ get_or numbers n 0 = omega arith in
    elim (cases_lt i n) [
      | inl f ↦ once i n f m same
      | inr f ↦ (let other : i ≢ n = ne in once n i (omega arith) l (sym same))
    ])

-- The value that was computed for the next decision is its value at each point with this element at its level.
pub level_value : (nodes : List Decision) → IsCanonical nodes → (levels : ℕ) (s : Point) (lines : List Lin) (numbers : List ℕ) (n level r v : ℕ) → IsReachedBySome nodes numbers
    → n < length numbers → level_in nodes numbers n ≡ level → HasLevels nodes levels → s level ≡ r → HasValues nodes levels s lines numbers n
    → v ≡ blend r (line_of lines (low_of nodes (get_or numbers n 0 + 2))).c0 (line_of lines (high_of nodes (get_or numbers n 0 + 2))).c0
    → v ≡ extension (function nodes (get_or numbers n 0 + 2)) levels s
level_value nodes c levels s lines numbers n level r v some l own in_levels element before is =
    let k = get_or numbers n 0 in
    let sides = side_values nodes levels s lines numbers n k some l refl before in
    let at : level_of nodes (k + 2) ≡ level = level_of-decision nodes k ∙ own in
    let placed = placed_at nodes c levels k in_levels sides.held in
    let below = placed.level_in in
    is
    ∙ (ap (λ z. blend z (line_of lines (low_of nodes (k + 2))).c0 (line_of lines (high_of nodes (k + 2))).c0) (sym element)
    ∙ value_is nodes c levels s k level (line_of lines (low_of nodes (k + 2))) (line_of lines (high_of nodes (k + 2))) sides.held (sym at) (omega arith) sides.low sides.high)

-- A kept value is the decision's line at a smaller level.
line_kept : (nodes : List Decision) → IsCanonical nodes → (levels level : ℕ) (s : Point) (k : ℕ) (a : Lin) → k < length nodes → HasLevels nodes levels → level < (decision_at nodes k).level
    → a.c0 ≡ extension (function nodes (k + 2)) levels s → a.c1 ≡ 0 → IsLine nodes levels level s (k + 2) a
line_kept nodes c levels level s k a held in_levels under value flat =
    let at = level_of-decision nodes k in
    let placed = placed_at nodes c levels k in_levels held in
    let below = placed.level_in in
    let small : a.c0 < modulus =
    subst (λ z. z < modulus) (sym (value ∙ ref_blend nodes c levels (k + 2) (omega arith) (omega arith) below s)) (blend_below _ _ _) in
    let is : a ≡ record { c0 = a.c0; c1 = 0 } = λ i. record { c0 = a.c0; c1 = flat i } in
    subst (IsLine nodes levels level s (k + 2)) (sym is) (record {
      elements = (small, omega arith);
      values = λ t.
          lin_constant a.c0 t small
          ∙ (value ∙ sym (Ignores-extension (function nodes (k + 2)) levels level (IsBlind-ref nodes c (k + 2) (omega arith) level (omega arith)) s t));
    })

-- What is kept are lines at the level.
pub lines_kept : (nodes : List Decision) → IsCanonical nodes → (levels level : ℕ) (s : Point) (lines : List Lin) (numbers : List ℕ) (n : ℕ) → IsReachedBySome nodes numbers → HasLevels nodes levels
    → IsDownTo nodes numbers n (suc level) → ((i : ℕ) → i < n → (line_of lines (get_or numbers i 0 + 2)).c1 ≡ 0) → HasKept nodes levels s numbers (kept_in lines numbers n)
    → HasLines nodes levels level s lines numbers n
lines_kept nodes c levels level s lines numbers n some in_levels down flat kept r among = elim among [
  | inl b ↦ constant_line nodes levels level s lines r b
  | inr w ↦
      let k = get_or numbers w.0 0 in
      let m = w.1 in
      let few = down.few in
      let high = down.above w.0 w.1 in
      let values = values_from_kept nodes levels s lines numbers n down.few kept in
      subst (λ z. IsLine nodes levels level s z (line_of lines z)) (sym w.2)
      (line_kept nodes c levels level s k (line_of lines (k + 2)) (some.reached.closed.held w.0 (omega arith)) in_levels (omega arith)
      (values (k + 2) (inr (w.0, w.1, refl))) (flat w.0 w.1))
]

-- Where the values of all decisions are kept, the table has the value of each ref among them.
pub all_kept : (nodes : List Decision) (levels : ℕ) (s : Point) (lines : List Lin) (numbers : List ℕ) (n r : ℕ) → n ≤ length numbers → (reached kept : List ℕ) → numbers ≡ reached
    → kept_in lines numbers n ≡ kept → length kept ≡ length reached → HasKept nodes levels s reached kept → IsAmong reached (length reached) r
    → (line_of lines r).c0 ≡ extension (function nodes r) levels s
all_kept nodes levels s lines numbers n r l reached kept same is all has among =
    let long = length-kept_in lines numbers n l in
    let whole : length reached ≡ n = sym all ∙ (ap length (sym is) ∙ long) in
    values_from_kept nodes levels s lines numbers n l (subst (HasKept nodes levels s numbers) (sym is) (subst (λ z. HasKept nodes levels s z kept) (sym same) has)) r
    (subst (λ z. IsAmong numbers z r) whole (subst (λ z. IsAmong z (length reached) r) (sym same) among))

-- Where nothing is kept, no level is kept in part.
pub whole_none : (nodes : List Decision) (numbers kept : List ℕ) (level : ℕ) → kept ≡ [] → IsWhole nodes numbers (length kept) level
whole_none nodes numbers kept level none =
    let e = ap length none in
    record { few = omega arith; above = λ i l. absurd (omega arith); whole = λ i j l m h. absurd (omega arith) }

-- And what is kept are values at any point.
pub kept_none : (nodes : List Decision) (levels : ℕ) (s : Point) (numbers kept : List ℕ) → kept ≡ [] → HasKept nodes levels s numbers kept
kept_none nodes levels s numbers kept none i l = let e = ap length none in absurd (omega arith)
