-- Stretches of a list, and lists that stand at them.
use Rattle.std.proofs.Common.{arith, ℕ, zero, suc, ◌≡◌, ◌+◌, ◌-◌, ◌<◌, ◌≤◌, refl, sym, ◌∙◌, ap, subst, ◌⊎◌, inl, inr, List, [], ◌∷◌, ◌++◌, length, get_or, take, drop, Bool, true, false, cond, ◌==◌, nat_lt, not}
use Rattle.std.specs.Prelude.{filter}
use Rattle.std.specs.List.{prefix_len, position_or_len}
use mathlib.Core.Path.{ap₂}
use Rattle.std.proofs.Math.Seq.{drop-cons}
use Rattle.std.proofs.lemmas.Bool.{cases_Bool, lt-ltb, le-ltb, eq-eqb, ne_eqb, cond-true, cond-false}
use Rattle.std.proofs.lemmas.List.{append-nil, append_assoc, length-append, length-take, length-drop, length-map, get_or_append_left, get_or-take, get_or-drop, get_or-map, take-append-le, take_all, take-take, take_more, take_at, get_or_read, drop_at, map-append, same_lists}
use Rattle.std.proofs.lemmas.List.Sums.{prefix_len-le-length}
use Rattle.std.proofs.lemmas.List.Elements.{filter-append}
use Rattle.blic_model.specs.declared.level_lists.Stretch.{Stretch}
use Rattle.blic_model.specs.LevelLists.{stretch, merged, put_in}
use Rattle.blic_model.specs.Stretches.{lists_at, no_stretch, IsInside, AreInside, BeginsWith, IsAt, IsMergedUpTo}

pub stretch_is : (xs : List ℕ) (s e : ℕ) → stretch xs s e ≡ take (e - s) (drop s xs)
unfolding stretch
stretch_is xs s e = refl

pub length_of_stretch : (xs : List ℕ) (s e : ℕ) → s ≤ e → e ≤ length xs → length (stretch xs s e) ≡ e - s
length_of_stretch xs s e l u = ap length (stretch_is xs s e) ∙ omega (arith, length-take (e - s) (drop s xs), length-drop s xs)

pub entry_of_stretch : (xs : List ℕ) (s e i d : ℕ) → i < e - s → get_or (stretch xs s e) i d ≡ get_or xs (s + i) d
entry_of_stretch xs s e i d l = ap (λ ys. get_or ys i d) (stretch_is xs s e) ∙ (get_or-take (e - s) (drop s xs) i d l ∙ get_or-drop s xs i d)

pub stretch_none : (xs : List ℕ) (s e : ℕ) → e ≤ s → stretch xs s e ≡ []
stretch_none xs s e l = stretch_is xs s e ∙ (let z : e - s ≡ zero = omega arith in ap (λ n. take n (drop s xs)) z)

pub stretch_first : (xs : List ℕ) (s e : ℕ) → s < e → e ≤ length xs → stretch xs s e ≡ get_or xs s 0 ∷ stretch xs (s + 1) e
stretch_first xs s e l u =
    let n : e - s ≡ suc (e - (s + 1)) = omega arith in
    let q : suc s ≡ s + 1 = omega arith in
    stretch_is xs s e ∙ (ap (λ n. take n (drop s xs)) n ∙ (ap (take (suc (e - (s + 1)))) (drop-cons xs s 0 (omega arith))
    ∙ (ap (λ p. get_or xs s 0 ∷ take (e - (s + 1)) (drop p xs)) q ∙ ap (λ ys. get_or xs s 0 ∷ ys) (sym (stretch_is xs (s + 1) e)))))

pub stretch_last : (xs : List ℕ) (s i : ℕ) → s ≤ i → i < length xs → stretch xs s (i + 1) ≡ stretch xs s i ++ get_or xs i 0 ∷ []
stretch_last xs s i l u =
    let n : (i + 1) - s ≡ (i - s) + 1 = omega arith in
    let p : s + (i - s) ≡ i = omega arith in
    stretch_is xs s (i + 1) ∙ (ap (λ n. take n (drop s xs)) n
    ∙ (take_more (drop s xs) (i - s) 0 (omega (arith, length-drop s xs))
    ∙ ap₂ (λ ys y. ys ++ y ∷ []) (sym (stretch_is xs s i)) (get_or-drop s xs (i - s) 0 ∙ ap (λ k. get_or xs k 0) p)))

-- a stretch of a list is one of a longer list that begins with it
pub stretch_of_front : (xs ys : List ℕ) (s e : ℕ) → BeginsWith ys xs → length xs ≤ length ys → s ≤ e → e ≤ length xs → stretch ys s e ≡ stretch xs s e
stretch_of_front xs ys s e b long l u =
    same_lists (stretch ys s e) (stretch xs s e) (length_of_stretch ys s e l (omega arith) ∙ sym (length_of_stretch xs s e l u)) (λ k d m.
    let n : k < e - s = omega (arith, length_of_stretch ys s e l (omega arith)) in
    entry_of_stretch ys s e k d n
    ∙ (sym (get_or-take (length xs) ys (s + k) d (omega arith)) ∙ (ap (λ zs. get_or zs (s + k) d) b ∙ sym (entry_of_stretch xs s e k d n))))

pub entry_of_front : (xs ys : List ℕ) (i d : ℕ) → BeginsWith ys xs → i < length xs → get_or ys i d ≡ get_or xs i d
entry_of_front xs ys i d b l = sym (get_or-take (length xs) ys i d l) ∙ ap (λ zs. get_or zs i d) b

pub begins_with_itself : (xs : List ℕ) → BeginsWith xs xs
begins_with_itself xs = take_all (length xs) xs (omega arith)

pub begins_with_first : (xs ys : List ℕ) → BeginsWith (xs ++ ys) xs
begins_with_first xs ys = take_at xs ys (length xs) refl

pub begins_with_pushed : (xs ys : List ℕ) (y : ℕ) → BeginsWith ys xs → length xs ≤ length ys → BeginsWith (ys ++ y ∷ []) xs
begins_with_pushed xs ys y b l = take-append-le (length xs) ys (y ∷ []) l ∙ b

pub begins_with_both : (xs ys zs : List ℕ) → BeginsWith ys xs → length xs ≤ length ys → BeginsWith zs ys → BeginsWith zs xs
begins_with_both xs ys zs b l c = sym (take-take (length xs) (length ys) zs l) ∙ (ap (take (length xs)) c ∙ b)

pub longer_from_front : (xs ys : List ℕ) → BeginsWith ys xs → length xs ≤ length ys
longer_from_front xs ys b = omega (arith, length-take (length xs) ys, ap length b)

-- what was added at the end stands there
pub stretch_of_added : (xs ys : List ℕ) → stretch (xs ++ ys) (length xs) (length (xs ++ ys)) ≡ ys
stretch_of_added xs ys =
    stretch_is (xs ++ ys) (length xs) (length (xs ++ ys))
    ∙ (ap (take (length (xs ++ ys) - length xs)) (drop_at xs ys (length xs) refl) ∙ take_all _ ys (omega (arith, length-append xs ys)))

pub is_at_end : (xs ys zs : List ℕ) (s : Stretch) → zs ≡ xs ++ ys → s.start ≡ length xs → s.end ≡ length zs → IsAt zs s ys
is_at_end xs ys zs s e f g =
    let long = ap length e ∙ length-append xs ys in
    ((omega arith, omega arith), ap₂ (stretch zs) f g ∙ (ap (λ ws. stretch ws (length xs) (length ws)) e ∙ stretch_of_added xs ys))

-- list k of those at stretches
pub list_at : (levels : List ℕ) (stretches : List Stretch) (k : ℕ) (d : Stretch) → k < length stretches
    → get_or (lists_at levels stretches) k [] ≡ stretch levels (get_or stretches k d).start (get_or stretches k d).end
list_at levels stretches k d l = get_or-map (λ s. stretch levels s.start s.end) stretches k d [] l

pub lists_of_front : (xs ys : List ℕ) (stretches : List Stretch) → BeginsWith ys xs → AreInside xs stretches → lists_at ys stretches ≡ lists_at xs stretches
lists_of_front xs ys stretches b inside =
    same_lists (lists_at ys stretches) (lists_at xs stretches) (length-map stretches _ ∙ sym (length-map stretches _)) (λ k d l.
    let m : k < length stretches = omega (arith, length-map stretches (λ s. stretch ys s.start s.end)) in
    let w = inside.each k m in
    get_or-map (λ s. stretch ys s.start s.end) stretches k no_stretch d m
    ∙ (stretch_of_front xs ys _ _ b (longer_from_front xs ys b) w.0 w.1 ∙ sym (get_or-map (λ s. stretch xs s.start s.end) stretches k no_stretch d m)))

-- a list is added
pub lists_pushed : (xs ys : List ℕ) (stretches more : List Stretch) (s : Stretch) (list : List ℕ) → BeginsWith ys xs → AreInside xs stretches
    → more ≡ stretches ++ s ∷ [] → stretch ys s.start s.end ≡ list → lists_at ys more ≡ lists_at xs stretches ++ list ∷ []
lists_pushed xs ys stretches more s list b inside e f =
    ap (lists_at ys) e ∙ (map-append (λ s. stretch ys s.start s.end) stretches (s ∷ []) ∙ ap₂ (λ zs z. zs ++ z ∷ []) (lists_of_front xs ys stretches b inside) f)

-- a stretch is copied, one element after another
pub copied_more : (xs ys zs : List ℕ) (s i x : ℕ) → ys ≡ xs ++ stretch xs s i → s ≤ i → i < length xs → x ≡ get_or ys i x → zs ≡ ys ++ x ∷ [] → zs ≡ xs ++ stretch xs s (i + 1)
copied_more xs ys zs s i x e l u r f =
    let n : length xs ≤ length ys = omega (arith, ap length e, length-append xs (stretch xs s i)) in
    let read : x ≡ get_or xs i 0 = get_or_read ys i x (omega arith) r 0 ∙ (ap (λ ws. get_or ws i 0) e ∙ get_or_append_left xs (stretch xs s i) 0 i u) in
    f ∙ (ap₂ (λ ws w. ws ++ w ∷ []) e read ∙ (append_assoc xs (stretch xs s i) (get_or xs i 0 ∷ []) ∙ ap (λ ws. xs ++ ws) (sym (stretch_last xs s i l u))))

pub copied_none : (xs : List ℕ) (s : ℕ) → xs ≡ xs ++ stretch xs s s
copied_none xs s = sym (ap (λ ws. xs ++ ws) (stretch_none xs s s (omega arith)) ∙ append-nil xs)

-- the same of the elements that pass
pub filtered_none : (p : ℕ → Bool) (xs : List ℕ) (s : ℕ) → xs ≡ xs ++ filter p (stretch xs s s)
filtered_none p xs s = sym (ap (λ ws. xs ++ filter p ws) (stretch_none xs s s (omega arith)) ∙ append-nil xs)

filtered_last : (p : ℕ → Bool) (xs : List ℕ) (s i : ℕ) → s ≤ i → i < length xs → filter p (stretch xs s (i + 1)) ≡ filter p (stretch xs s i) ++ cond (p (get_or xs i 0)) (get_or xs i 0 ∷ []) []
filtered_last p xs s i l u = ap (filter p) (stretch_last xs s i l u) ∙ filter-append p (stretch xs s i) (get_or xs i 0 ∷ [])

filtered_read : (p : ℕ → Bool) (xs ys : List ℕ) (s i x : ℕ) → ys ≡ xs ++ filter p (stretch xs s i) → i < length xs → x ≡ get_or ys i x → x ≡ get_or xs i 0
filtered_read p xs ys s i x e u r =
    get_or_read ys i x (omega (arith, ap length e, length-append xs (filter p (stretch xs s i)))) r 0
    ∙ (ap (λ ws. get_or ws i 0) e ∙ get_or_append_left xs (filter p (stretch xs s i)) 0 i u)

pub filtered_passes : (p : ℕ → Bool) (xs ys zs : List ℕ) (s i x : ℕ) → ys ≡ xs ++ filter p (stretch xs s i) → s ≤ i → i < length xs → x ≡ get_or ys i x → p x ≡ true → zs ≡ ys ++ x ∷ []
    → zs ≡ xs ++ filter p (stretch xs s (i + 1))
filtered_passes p xs ys zs s i x e l u r t f =
    let read = filtered_read p xs ys s i x e u r in
    f ∙ (ap₂ (λ ws w. ws ++ w ∷ []) e read ∙ (append_assoc xs (filter p (stretch xs s i)) (get_or xs i 0 ∷ [])
    ∙ ap (λ ws. xs ++ ws) (ap (λ b. filter p (stretch xs s i) ++ cond b (get_or xs i 0 ∷ []) []) (sym (sym (ap p read) ∙ t)) ∙ sym (filtered_last p xs s i l u))))

pub filtered_fails : (p : ℕ → Bool) (xs ys : List ℕ) (s i x : ℕ) → ys ≡ xs ++ filter p (stretch xs s i) → s ≤ i → i < length xs → x ≡ get_or ys i x → p x ≡ false
    → ys ≡ xs ++ filter p (stretch xs s (i + 1))
filtered_fails p xs ys s i x e l u r t =
    let read = filtered_read p xs ys s i x e u r in
    e ∙ ap (λ ws. xs ++ ws) (sym (append-nil (filter p (stretch xs s i))) ∙ (ap (λ b. filter p (stretch xs s i) ++ cond b (get_or xs i 0 ∷ []) []) (sym (sym (ap p read) ∙ t)) ∙ sym (filtered_last p xs s i l u)))

pub other_level : (x level : ℕ) → (x ≡ level → ⊥) → not (x == level) ≡ true
other_level x level ne = ap not (ne_eqb x level ne)

pub same_level : (x level : ℕ) → x ≡ level → not (x == level) ≡ false
same_level x level e = ap not (eq-eqb x level e)

-- where at most one element stands from the first that fails on, those that pass are a front
filter_front : (p : ℕ → Bool) (xs : List ℕ) → length xs - prefix_len p xs ≤ 1 → filter p xs ≡ take (prefix_len p xs) xs
filter_front p [] l = refl
filter_front p (x ∷ xs) l = go (cases_Bool (p x)) (filter_front p xs)
  where
    nothing : (ys : List ℕ) → length ys ≡ 0 → filter p ys ≡ []
    nothing [] e = refl
    nothing (y ∷ ys) e = absurd (omega arith)

    go : (p x ≡ true) ⊎ (p x ≡ false) → (length xs - prefix_len p xs ≤ 1 → filter p xs ≡ take (prefix_len p xs) xs)
        → cond (p x) (x ∷ filter p xs) (filter p xs) ≡ take (cond (p x) (1 + prefix_len p xs) 0) (x ∷ xs)
    go (inl t) rest =
        let n : 1 + prefix_len p xs ≡ suc (prefix_len p xs) = omega arith in
        let place : prefix_len p (x ∷ xs) ≡ 1 + prefix_len p xs = ap (λ b. cond b (1 + prefix_len p xs) 0) t in
        ap (λ b. cond b (x ∷ filter p xs) (filter p xs)) t
        ∙ (ap (λ ys. x ∷ ys) (rest (omega arith)) ∙ (ap (λ m. take m (x ∷ xs)) (sym n) ∙ ap (λ b. take (cond b (1 + prefix_len p xs) 0) (x ∷ xs)) (sym t)))
    go (inr f) rest =
        let place : prefix_len p (x ∷ xs) ≡ 0 = ap (λ b. cond b (1 + prefix_len p xs) 0) f in
        let none : length xs ≡ 0 = omega arith in
        ap (λ b. cond b (x ∷ filter p xs) (filter p xs)) f
        ∙ (nothing xs none ∙ ap (λ b. take (cond b (1 + prefix_len p xs) 0) (x ∷ xs)) (sym f))

pub place_inside : (xs : List ℕ) (s e j level : ℕ) → s ≤ e → e ≤ length xs → j ≡ position_or_len (λ x. x == level) (stretch xs s e) → j ≤ e - s
place_inside xs s e j level l u place =
    omega (arith, length_of_stretch xs s e l u, prefix_len-le-length (λ x. not (x == level)) (stretch xs s e))

pub front_without : (xs : List ℕ) (s e j level : ℕ) → s ≤ e → e ≤ length xs → j ≡ position_or_len (λ x. x == level) (stretch xs s e) → (e - s) - j ≤ 1
    → (s + j ≤ e) × (stretch xs s (s + j) ≡ filter (λ x. not (x == level)) (stretch xs s e))
front_without xs s e j level l u place few = (
  inside,
  (let n : (s + j) - s ≡ j = omega arith in
      stretch_is xs s (s + j) ∙ (ap (λ m. take m (drop s xs)) n ∙ (sym (take-take j (e - s) (drop s xs) (omega (arith, inside)))
      ∙ (ap (take j) (sym (stretch_is xs s e)) ∙ (ap (λ m. take m (stretch xs s e)) place ∙ sym (filter_front (λ x. not (x == level)) (stretch xs s e) (omega (arith, long)))))))),
)
  where
    long : length (stretch xs s e) ≡ e - s
    long = length_of_stretch xs s e l u

    inside : s + j ≤ e
    inside = omega (arith, long, prefix_len-le-length (λ x. not (x == level)) (stretch xs s e))

merged_less : (x y : ℕ) (xs ys : List ℕ) → x < y → merged (x ∷ xs) (y ∷ ys) ≡ x ∷ merged xs (y ∷ ys)
merged_less x y xs ys l = cond-true (nat_lt x y) _ _ (lt-ltb x y l)

merged_greater : (x y : ℕ) (xs ys : List ℕ) → y < x → merged (x ∷ xs) (y ∷ ys) ≡ y ∷ merged (x ∷ xs) ys
merged_greater x y xs ys l = cond-false (nat_lt x y) _ _ (le-ltb x y (omega arith)) ∙ cond-true (nat_lt y x) _ _ (lt-ltb y x l)

merged_same : (x y : ℕ) (xs ys : List ℕ) → x ≡ y → merged (x ∷ xs) (y ∷ ys) ≡ x ∷ merged xs ys
merged_same x y xs ys e = cond-false (nat_lt x y) _ _ (le-ltb x y (omega arith)) ∙ cond-false (nat_lt y x) _ _ (le-ltb y x (omega arith))

pub merged_nil : (xs : List ℕ) → merged xs [] ≡ xs
merged_nil [] = refl
merged_nil (x ∷ xs) = ap (λ ys. x ∷ ys) (merged_nil xs)

merged_moves : (old new more : List ℕ) (x : ℕ) (before behind : List ℕ) (whole : List ℕ) → more ≡ new ++ x ∷ [] → before ≡ x ∷ behind → new ++ before ≡ whole → more ++ behind ≡ whole
merged_moves old new more x before behind whole e f g = ap (λ ws. ws ++ behind) e ∙ (append_assoc new (x ∷ []) behind ∙ (ap (λ ws. new ++ ws) (sym f) ∙ g))

merged_read : (old new : List ℕ) (i x : ℕ) → BeginsWith new old → length old ≤ length new → i < length old → x ≡ get_or new i x → x ≡ get_or old i 0
merged_read old new i x b long l r = get_or_read new i x (omega arith) r 0 ∙ entry_of_front old new i 0 b l

pub merged_left : (old new more : List ℕ) (left right : Stretch) (i j a b : ℕ) → IsMergedUpTo old new left right i j → i < left.end → j < right.end → left.end ≤ length old → right.end ≤ length old
    → a ≡ get_or new i a → b ≡ get_or new j b → a < b → more ≡ new ++ a ∷ [] → IsMergedUpTo old more left right (i + 1) j
merged_left old new more left right i j a b m li lj ul ur ra rb l e =
    let pa = merged_read old new i a m.front m.long (omega arith) ra in
    let pb = merged_read old new j b m.front m.long (omega arith) rb in
    record {
      left_inside = omega arith;
      right_inside = m.right_inside;
      front = ap (take (length old)) e ∙ begins_with_pushed old new a m.front m.long;
      long = omega (arith, ap length e, length-append new (a ∷ []));
      rest = merged_moves old new more a _ _ _ e
          (ap₂ merged (stretch_first old i left.end li ul) (stretch_first old j right.end lj ur)
          ∙ (merged_less (get_or old i 0) (get_or old j 0) (stretch old (i + 1) left.end) (stretch old (j + 1) right.end) (omega arith)
          ∙ ap₂ (λ w ws. w ∷ merged (stretch old (i + 1) left.end) ws) (sym pa) (sym (stretch_first old j right.end lj ur)))) m.rest;
    }

pub merged_right : (old new more : List ℕ) (left right : Stretch) (i j a b : ℕ) → IsMergedUpTo old new left right i j → i < left.end → j < right.end → left.end ≤ length old → right.end ≤ length old
    → a ≡ get_or new i a → b ≡ get_or new j b → b < a → more ≡ new ++ b ∷ [] → IsMergedUpTo old more left right i (j + 1)
merged_right old new more left right i j a b m li lj ul ur ra rb l e =
    let pa = merged_read old new i a m.front m.long (omega arith) ra in
    let pb = merged_read old new j b m.front m.long (omega arith) rb in
    record {
      left_inside = m.left_inside;
      right_inside = omega arith;
      front = ap (take (length old)) e ∙ begins_with_pushed old new b m.front m.long;
      long = omega (arith, ap length e, length-append new (b ∷ []));
      rest = merged_moves old new more b _ _ _ e
          (ap₂ merged (stretch_first old i left.end li ul) (stretch_first old j right.end lj ur)
          ∙ (merged_greater (get_or old i 0) (get_or old j 0) (stretch old (i + 1) left.end) (stretch old (j + 1) right.end) (omega arith)
          ∙ ap₂ (λ w ws. w ∷ merged ws (stretch old (j + 1) right.end)) (sym pb) (sym (stretch_first old i left.end li ul)))) m.rest;
    }

pub merged_both : (old new more : List ℕ) (left right : Stretch) (i j a b : ℕ) → IsMergedUpTo old new left right i j → i < left.end → j < right.end → left.end ≤ length old → right.end ≤ length old
    → a ≡ get_or new i a → b ≡ get_or new j b → a ≡ b → more ≡ new ++ a ∷ [] → IsMergedUpTo old more left right (i + 1) (j + 1)
merged_both old new more left right i j a b m li lj ul ur ra rb l e =
    let pa = merged_read old new i a m.front m.long (omega arith) ra in
    let pb = merged_read old new j b m.front m.long (omega arith) rb in
    record {
      left_inside = omega arith;
      right_inside = omega arith;
      front = ap (take (length old)) e ∙ begins_with_pushed old new a m.front m.long;
      long = omega (arith, ap length e, length-append new (a ∷ []));
      rest = merged_moves old new more a _ _ _ e
          (ap₂ merged (stretch_first old i left.end li ul) (stretch_first old j right.end lj ur)
          ∙ (merged_same (get_or old i 0) (get_or old j 0) (stretch old (i + 1) left.end) (stretch old (j + 1) right.end) (omega arith)
          ∙ ap (λ w. w ∷ merged (stretch old (i + 1) left.end) (stretch old (j + 1) right.end)) (sym pa))) m.rest;
    }

-- what is left of the two is copied, and nothing is left of one
pub merged_end : (old new more all : List ℕ) (left right : Stretch) (i j : ℕ) → IsMergedUpTo old new left right i j → (left.end ≤ i) ⊎ (right.end ≤ j)
    → left.end ≤ length old → right.end ≤ length old → more ≡ new ++ stretch new i left.end → all ≡ more ++ stretch more j right.end
    → all ≡ old ++ merged (stretch old left.start left.end) (stretch old right.start right.end)
merged_end old new more all left right i j m ends ul ur e f =
    let b = ap (take (length new)) e ∙ begins_with_first new (stretch new i left.end) in
    let c = begins_with_both old new more m.front m.long b in
    let first = stretch_of_front old new i left.end m.front m.long m.left_inside ul in
    let second = stretch_of_front old more j right.end c (longer_from_front old more c) m.right_inside ur in
    f ∙ (ap₂ (λ ws vs. ws ++ vs) (e ∙ ap (λ ws. new ++ ws) first) second ∙ (append_assoc new (stretch old i left.end) (stretch old j right.end) ∙ (ap (λ ws. new ++ ws) (joined ends) ∙ m.rest)))
  where
    joined : (left.end ≤ i) ⊎ (right.end ≤ j) → stretch old i left.end ++ stretch old j right.end ≡ merged (stretch old i left.end) (stretch old j right.end)
    joined (inl l) = ap (λ ws. ws ++ stretch old j right.end) (stretch_none old i left.end l) ∙ ap (λ ws. merged ws (stretch old j right.end)) (sym (stretch_none old i left.end l))
    joined (inr l) = ap (λ ws. stretch old i left.end ++ ws) (stretch_none old j right.end l) ∙ (append-nil (stretch old i left.end) ∙ (sym (merged_nil (stretch old i left.end)) ∙ ap (merged (stretch old i left.end)) (sym (stretch_none old j right.end l))))

-- list k, read from the stretches
pub list_read : (levels : List ℕ) (stretches : List Stretch) (lists : List (List ℕ)) (k : ℕ) (at : Stretch) → lists_at levels stretches ≡ lists → AreInside levels stretches
    → k < length lists → at ≡ get_or stretches k at → IsInside (length levels) at × (get_or lists k [] ≡ stretch levels at.start at.end)
list_read levels stretches lists k at view inside l r =
    let m : k < length stretches = omega (arith, ap length view, length-map stretches (λ s. stretch levels s.start s.end)) in
    let read : at ≡ get_or stretches k no_stretch = get_or_read stretches k at m r no_stretch in (
      subst (IsInside (length levels)) (sym read) (inside.each k m),
      sym (ap (λ ls. get_or ls k []) view) ∙ (list_at levels stretches k no_stretch m ∙ ap (λ s. stretch levels s.start s.end) (sym read)),
    )

not_below_itself : (x : ℕ) → nat_lt x x ≡ false
not_below_itself x = le-ltb x x (omega arith)

-- a list merged with itself
merged_itself : (xs : List ℕ) → merged xs xs ≡ xs
merged_itself [] = refl
merged_itself (x ∷ xs) =
    ap (λ b. cond b (x ∷ merged xs (x ∷ xs)) (cond b (x ∷ put_in x (merged xs) xs) (x ∷ merged xs xs))) (not_below_itself x)
    ∙ ap (λ ys. x ∷ ys) (merged_itself xs)

-- and one stretch with the same
pub merged_stretch : (levels : List ℕ) (left right : Stretch) → left.start ≡ right.start → left.end ≡ right.end
    → stretch levels left.start left.end ≡ merged (stretch levels left.start left.end) (stretch levels right.start right.end)
merged_stretch levels left right starts ends =
    sym (ap₂ (λ (s e : ℕ). merged (stretch levels left.start left.end) (stretch levels s e)) (sym starts) (sym ends) ∙ merged_itself (stretch levels left.start left.end))
