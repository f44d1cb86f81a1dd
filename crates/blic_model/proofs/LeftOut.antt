-- Lists without a level that stands in them at most once.
use Rattle.std.proofs.Common.{arith, ℕ, ◌≡◌, ◌+◌, ◌-◌, ◌<◌, ◌≤◌, refl, sym, ◌∙◌, ap, subst, inl, inr, List, [], ◌∷◌, ◌++◌, length, get_or, Bool, true, false, cond, ◌==◌, not}
use Rattle.std.specs.Prelude.{filter}
use Rattle.std.specs.List.{position_or_len}
use mathlib.Core.Path.{ap₂}
use Rattle.std.proofs.lemmas.Bool.{cases_lt, eq-eqb, cond-true, cond-false}
use Rattle.std.proofs.lemmas.List.{append-nil, length-append, get_or_past}
use Rattle.std.proofs.lemmas.List.Elements.{filter-append}
use Rattle.blic_model.specs.declared.node.Node.{Node}
use Rattle.blic_model.specs.Circuit.{below, is_free, free}
use Rattle.blic_model.specs.LevelLists.{stretch, StandsOnce, free_lists}
use Rattle.blic_model.proofs.FreeLists.{filter_missing, filter_one, entry_of_lists, length_of_lists}
use Rattle.blic_model.proofs.StretchLaws.{stretch_first, stretch_last, front_without}

-- a list in which the level doesn't stand
absent : (level : ℕ) (xs : List ℕ) → length (filter (λ x. x == level) xs) ≡ 0 → filter (λ x. not (x == level)) xs ≡ xs
absent level [] e = refl
absent level (x ∷ xs) e = go (x == level) e (absent level xs)
  where
    go : (b : Bool) → length (cond b (x ∷ filter (λ y. y == level) xs) (filter (λ y. y == level) xs)) ≡ 0
        → (length (filter (λ y. y == level) xs) ≡ 0 → filter (λ y. not (y == level)) xs ≡ xs)
        → cond (not b) (x ∷ filter (λ y. not (y == level)) xs) (filter (λ y. not (y == level)) xs) ≡ x ∷ xs
    go true e rest = absurd (omega arith)
    go false e rest = ap (λ ys. x ∷ ys) (rest e)

-- the level is the first
without_first : (level x : ℕ) (xs : List ℕ) → x ≡ level → StandsOnce level (x ∷ xs) → xs ≡ filter (λ y. not (y == level)) (x ∷ xs)
without_first level x xs e once =
    let same = eq-eqb x level e in
    let more = ap length (cond-true (x == level) (x ∷ filter (λ y. y == level) xs) (filter (λ y. y == level) xs) same) in
    let none : length (filter (λ y. y == level) xs) ≡ 0 = omega arith in
    sym (cond-false (not (x == level)) (x ∷ filter (λ y. not (y == level)) xs) (filter (λ y. not (y == level)) xs) (ap not same) ∙ absent level xs none)

-- the level is the last
without_last : (level x : ℕ) (xs : List ℕ) → x ≡ level → StandsOnce level (xs ++ x ∷ []) → xs ≡ filter (λ y. not (y == level)) (xs ++ x ∷ [])
without_last level x xs e once =
    let same = eq-eqb x level e in
    let here = cond-true (x == level) (x ∷ []) [] same in
    let all = ap length (filter-append (λ y. y == level) xs (x ∷ []) ∙ ap (λ ys. filter (λ y. y == level) xs ++ ys) here) ∙ length-append (filter (λ y. y == level) xs) (x ∷ []) in
    let none : length (filter (λ y. y == level) xs) ≡ 0 = omega arith in
    sym (filter-append (λ y. not (y == level)) xs (x ∷ [])
    ∙ (ap₂ (λ ys zs. ys ++ zs) (absent level xs none) (cond-false (not (x == level)) (x ∷ []) [] (ap not same)) ∙ append-nil xs))

pub first_left_out : (xs : List ℕ) (start end level : ℕ) → StandsOnce level (stretch xs start end)
    → start < end → end ≤ length xs → get_or xs start 0 ≡ level → stretch xs (start + 1) end ≡ filter (λ y. not (y == level)) (stretch xs start end)
first_left_out xs start end level once l u e =
    let split = stretch_first xs start end l u in
    without_first level (get_or xs start 0) (stretch xs (start + 1) end) e (subst (StandsOnce level) split once) ∙ ap (filter (λ y. not (y == level))) (sym split)

pub last_left_out : (xs : List ℕ) (start end level : ℕ) → StandsOnce level (stretch xs start end)
    → start < end → end ≤ length xs → get_or xs (end - 1) 0 ≡ level → stretch xs start (end - 1) ≡ filter (λ y. not (y == level)) (stretch xs start end)
last_left_out xs start end level once l u e =
    let p : end ≡ (end - 1) + 1 = omega arith in
    let split = ap (stretch xs start) p ∙ stretch_last xs start (end - 1) (omega arith) (omega arith) in
    without_last level (get_or xs (end - 1) 0) (stretch xs start (end - 1)) e (subst (StandsOnce level) split once) ∙ ap (filter (λ y. not (y == level))) (sym split)

pub nothing_left_out : (xs : List ℕ) (start end level j : ℕ) → start ≤ end → end ≤ length xs → j ≡ position_or_len (λ x. x == level) (stretch xs start end) → end - start ≤ j
    → stretch xs start end ≡ filter (λ y. not (y == level)) (stretch xs start end)
nothing_left_out xs start end level j l u place far =
    let w = front_without xs start end j level l u place (omega arith) in
    let inner = w.0 in
    let n : end ≡ start + j = omega arith in
    ap (stretch xs start) n ∙ w.1

fewer : (p q : ℕ → Bool) (xs : List ℕ) → length (filter q (filter p xs)) ≤ length (filter q xs)
fewer p q [] = omega arith
fewer p q (x ∷ xs) = go (p x) (q x) (fewer p q xs)
  where
    both : (c : Bool) (ys zs : List ℕ) → length ys ≤ length zs → length (cond c (x ∷ ys) ys) ≤ length (cond c (x ∷ zs) zs)
    both true ys zs l = omega arith
    both false ys zs l = l

    one : (c : Bool) (ys zs : List ℕ) → length ys ≤ length zs → length ys ≤ length (cond c (x ∷ zs) zs)
    one true ys zs l = omega arith
    one false ys zs l = l

    go : (b c : Bool) → length (filter q (filter p xs)) ≤ length (filter q xs)
        → length (filter q (cond b (x ∷ filter p xs) (filter p xs))) ≤ length (cond (q x) (x ∷ filter q xs) (filter q xs))
    go true c l = both (q x) (filter q (filter p xs)) (filter q xs) l
    go false c l = one (q x) (filter q (filter p xs)) (filter q xs) l

free_once : (nodes : List Node) (levels k level : ℕ) → StandsOnce level (free nodes levels k)
unfolding free
free_once nodes levels k level = elim (cases_lt level levels) [
  | inl l ↦ (let f = fewer (is_free nodes k) (λ x. x == level) (below levels) in let e = ap length (filter_one levels level l) in omega arith)
  | inr l ↦ (let f = fewer (is_free nodes k) (λ x. x == level) (below levels) in let e = ap length (filter_missing levels level l) in omega arith)
]

-- in a list of free levels each stands at most once
pub lists_once : (nodes : List Node) (levels i : ℕ) (lists : List (List ℕ)) → lists ≡ free_lists nodes levels i → (j level : ℕ) → StandsOnce level (get_or lists j [])
lists_once nodes levels i lists e j level = elim (cases_lt j i) [
  | inl l ↦ subst (StandsOnce level) (sym (ap (λ ls. get_or ls j []) e ∙ entry_of_lists nodes levels i j l)) (free_once nodes levels j level)
  | inr l ↦ subst (StandsOnce level) (sym (ap (λ ls. get_or ls j []) e ∙ get_or_past (free_lists nodes levels i) j [] (omega (arith, length_of_lists nodes levels i)))) (omega arith)
]
