-- What two functions lead to, by falling level.
use Rattle.std.proofs.Common.{arith, ℕ, suc, ◌+◌, ◌<◌, ◌≡◌, ◌≢◌, ◌⊎◌, refl, sym, ◌∙◌, ap, subst, inl, inr, List, length, get_or}
use Rattle.std.specs.List.{swap}
use Rattle.std.specs.List.Sorted.{IsPermutation}
use Rattle.std.proofs.lemmas.Bool.{cases_eq, cases_lt}
use Rattle.std.proofs.lemmas.List.{get_or_default}
use Rattle.std.proofs.lemmas.List.Edits.{length-swap, swapped_from_swap}
use Rattle.std.proofs.lemmas.List.Elements.{Contains-get_or}
use Rattle.std.proofs.lemmas.List.Sorted.{Contains-permutation, IsPermutation-keeps, IsPermutation-sym}
use Rattle.blic_store.specs.declared.decision.Decision.{Decision}
use Rattle.blic_store.specs.Canonical.{IsCanonical}
use Rattle.blic_store.specs.Diagram.{decision_at, level_of}
use Rattle.blic_store.specs.Numbers.{IsOnce}
use Rattle.blic_store.proofs.Levels.{level_of-suc}
use Rattle.blic_eval.specs.Reached.{HasFallingLevels, IsAmong, IsClosed, IsPartOfEither, IsReached, level_in}
use Rattle.blic_eval.specs.Walks.{IsFound}
use Rattle.blic_eval.proofs.Walking.{among_more}

-- before places a and b were swapped, what stands at k stood at j
abbrev Tracks : ℕ → ℕ → ℕ → ℕ → Type 0
Tracks a b k j = ((k ≡ a) × (j ≡ b)) ⊎ (((k ≡ b) × (j ≡ a)) ⊎ ((k ≢ a) × (k ≢ b) × (j ≡ k)))

swapped_at : (xs : List ℕ) (a b k : ℕ) → a < length xs → b < length xs → k < length xs
    → (j : ℕ) × (j < length xs) × (get_or (swap xs a b) k 0 ≡ get_or xs j 0) × Tracks a b k j
swapped_at xs a b k la lb lk =
    let s = swapped_from_swap xs (swap xs a b) a b 0 la lb refl in
    elim (cases_eq k a) [
      | inl here ↦ (b, lb, ap (λ z. get_or (swap xs a b) z 0) here ∙ s.0, inl (here, refl))
      | inr n ↦ elim (cases_eq k b) [
        | inl there ↦ (a, la, ap (λ z. get_or (swap xs a b) z 0) there ∙ s.1, inr (inl (there, refl)))
        | inr m ↦ (k, lk, s.2 k n m, inr (inr (n, m, refl)))
      ]
    ]

-- Two places come from two.
tracks_two : (a b i j x y : ℕ) → Tracks a b i x → Tracks a b j y → i < j → x ≡ y → ⊥
tracks_two a b i j x y t u l e = elim t [
  | inl p ↦ elim u [
    | inl q ↦ omega (arith, p.0, q.0, l)
    | inr w ↦ elim w [ inl q ↦ omega (arith, p.0, p.1, q.0, q.1, l, e) | inr q ↦ q.1 (omega (arith, p.1, q.2, e)) ]
  ]
  | inr v ↦ elim v [
    | inl p ↦ elim u [
      | inl q ↦ omega (arith, p.0, p.1, q.0, q.1, l, e)
      | inr w ↦ elim w [ inl q ↦ omega (arith, p.0, q.0, l) | inr q ↦ q.0 (omega (arith, p.1, q.2, e)) ]
    ]
    | inr p ↦ elim u [
      | inl q ↦ p.1 (omega (arith, p.2, q.1, e))
      | inr w ↦ elim w [ inl q ↦ p.0 (omega (arith, p.2, q.1, e)) | inr q ↦ omega (arith, p.2, q.2, l, e) ]
    ]
  ]
]

once_swap : (xs : List ℕ) (a b : ℕ) → a < length xs → b < length xs → IsOnce xs → IsOnce (swap xs a b)
once_swap xs a b la lb once i j l h e =
    let long = length-swap xs a b in
    let p = swapped_at xs a b i la lb (omega (arith, long, l, h)) in
    let q = swapped_at xs a b j la lb (omega (arith, long, h)) in
    let same : get_or xs p.0 0 ≡ get_or xs q.0 0 = sym p.2 ∙ e ∙ q.2 in
    elim (cases_eq p.0 q.0) [
      | inl s ↦ tracks_two a b i j p.0 q.0 p.3 q.3 l s
      | inr n ↦ elim (cases_lt p.0 q.0) [
        | inl f ↦ once p.0 q.0 f q.1 same
        | inr f ↦ (let ne : p.0 ≢ q.0 = n in once q.0 p.0 (omega arith) p.1 (sym same))
      ]
    ]

pub once_sorted : (xs ys : List ℕ) → IsPermutation xs ys → IsOnce xs → IsOnce ys
once_sorted xs ys p once = IsPermutation-keeps xs IsOnce once once_swap ys p

-- What one list has, the other has.
stands_in : (xs ys : List ℕ) → IsPermutation xs ys → (i : ℕ) → i < length xs → (j : ℕ) × (j < length ys) × (get_or xs i 0 ≡ get_or ys j 0)
stands_in xs ys p i l =
    let x = get_or xs i 0 in
    let w = Contains-permutation xs ys x p (Contains-get_or xs i 0 l) in
    (w.0, w.1, sym w.2 ∙ get_or_default ys w.0 x 0 w.1)

pub each_sorted : (xs ys : List ℕ) → IsPermutation xs ys → (P : ℕ → Type 0) → ((i : ℕ) → i < length xs → P (get_or xs i 0)) → (i : ℕ) → i < length ys → P (get_or ys i 0)
each_sorted xs ys p P each i l = let s = stands_in ys xs (IsPermutation-sym xs ys p) i l in subst P (sym s.2) (each s.0 s.1)

among_sorted : (xs ys : List ℕ) → IsPermutation xs ys → (r : ℕ) → IsAmong xs (length xs) r → IsAmong ys (length ys) r
among_sorted xs ys p r h = elim h [
  | inl c ↦ inl c
  | inr w ↦ (let s = stands_in xs ys p w.0 w.1 in inr (s.0, s.1, w.2 ∙ ap (λ z. z + 2) s.2))
]

pub level_of-decision : (nodes : List Decision) (k : ℕ) → level_of nodes (k + 2) ≡ (decision_at nodes k).level
level_of-decision nodes k = let e : k + 2 ≡ suc (suc k) = omega arith in ap (level_of nodes) e ∙ level_of-suc nodes k

-- A ref of a greater level stands before.
among_before : (nodes : List Decision) (ys : List ℕ) (i r : ℕ) → HasFallingLevels nodes ys → i < length ys → level_in nodes ys i < level_of nodes r
    → IsAmong ys (length ys) r → IsAmong ys i r
among_before nodes ys i r falling l above h = elim h [
  | inl c ↦ inl c
  | inr w ↦
      let at : level_of nodes (get_or ys w.0 0 + 2) ≡ level_in nodes ys w.0 = level_of-decision nodes (get_or ys w.0 0) in
      let own : level_of nodes r ≡ level_in nodes ys w.0 = ap (level_of nodes) w.2 ∙ at in
      elim (cases_lt w.0 i) [
        | inl f ↦ inr (w.0, f, w.2)
        | inr f ↦ elim (cases_eq w.0 i) [
          | inl same ↦ absurd (omega (arith, own, above, ap (level_in nodes ys) same))
          | inr n ↦ (let ne : w.0 ≢ i = n in absurd (omega (arith, own, above, falling i w.0 (omega arith) w.1)))
        ]
      ]
]

-- By falling level each decision still stands after those that it leads to.
pub closed_sorted : (nodes : List Decision) → IsCanonical nodes → (xs ys : List ℕ) → IsPermutation xs ys → HasFallingLevels nodes ys → IsClosed nodes xs → IsClosed nodes ys
closed_sorted nodes canonical xs ys p falling c =
    let back = IsPermutation-sym xs ys p in
    let held : (i : ℕ) → i < length ys → get_or ys i 0 < length nodes =
    λ i l. (let s = stands_in ys xs back i l in subst (λ z. z < length nodes) (sym s.2) (c.held s.0 s.1)) in
    record {
      held = held;
      once = once_sorted xs ys p c.once;
      low = λ i l.
          let s = stands_in ys xs back i l in
          let side = among_sorted xs ys p _ (among_more xs s.0 (length xs) _ (omega (arith, s.1)) (c.low s.0 s.1)) in
          among_before nodes ys i (decision_at nodes (get_or ys i 0)).low falling l (canonical.placed (get_or ys i 0) (held i l)).above_low
          (subst (λ z. IsAmong ys (length ys) (decision_at nodes z).low) (sym s.2) side);
      high = λ i l.
          let s = stands_in ys xs back i l in
          let side = among_sorted xs ys p _ (among_more xs s.0 (length xs) _ (omega (arith, s.1)) (c.high s.0 s.1)) in
          among_before nodes ys i (decision_at nodes (get_or ys i 0)).high falling l (canonical.placed (get_or ys i 0) (held i l)).above_high
          (subst (λ z. IsAmong ys (length ys) (decision_at nodes z).high) (sym s.2) side);
    }

-- What was found, by falling level.
pub reached_sorted : (nodes : List Decision) → IsCanonical nodes → (a b : ℕ) (xs ys : List ℕ) → IsFound nodes a b xs → IsPermutation xs ys → HasFallingLevels nodes ys → IsReached nodes a b ys
reached_sorted nodes canonical a b xs ys found p falling =
    let back = IsPermutation-sym xs ys p in
    record {
      falling = falling;
      closed = closed_sorted nodes canonical xs ys p falling found.closed;
      first = among_sorted xs ys p a found.first;
      second = among_sorted xs ys p b found.second;
      only = λ i l. (let s = stands_in ys xs back i l in subst (λ z. IsPartOfEither nodes a b (z + 2)) (sym s.2) (found.only s.0 s.1));
    }
