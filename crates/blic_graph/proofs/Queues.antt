-- Queues: a request more, the next level, and a request that is taken.
use Rattle.std.proofs.Common.{arith, ℕ, zero, suc, ◌+◌, ◌-◌, ◌^◌, ◌<◌, ◌≤◌, ◌≡◌, ◌≢◌, refl, sym, ◌∙◌, ap, subst, ◌⊎◌, inl, inr, List, [], ◌∷◌, ◌++◌, length, get_or, true, false, cond}
use Rattle.std.specs.Prelude.{set, ◌==◌}
use Rattle.std.specs.List.{All, Contains}
use Rattle.std.specs.List.Sorted.{IsPermutation}
use Rattle.std.specs.BinaryHeap.{IsHeap, IsUpperBound}
use Rattle.std.specs.Ordering.{is_lt, nat_cmp}
use Rattle.std.specs.declared.cmp.Ordering.TheVariants.{Less, Equal, Greater}
use Rattle.std.proofs.lemmas.Bool.{cases_eq, cases_lt, lt-ltb}
use Rattle.std.proofs.lemmas.List.{get_or_append_left, get_or_past, get_or-set_other, length-set, length_push}
use Rattle.std.proofs.lemmas.List.Elements.{All-cons, All-tail}
use Rattle.std.proofs.lemmas.List.Sorted.{All-permutation, Contains-permutation}
use Rattle.std.proofs.lemmas.Grind.{get_or-set_at}
use Rattle.std.proofs.Math.Seq.{get_or-append_seam}
use Rattle.blic_graph.specs.declared.waiting.Request.{Request}
use Rattle.blic_graph.specs.Queue.{Asks, IsIn, IsNoted, IsQueue, IsWaiting, Queue, Takes, WaitsAlike, bucket_at, request_at}

abbrev none : Request
none = record { first = 0; second = 0; place = 0 }

abbrev Buckets : Type 0
Buckets = List (List Request)

-- Buckets of which one is changed.
bucket-here : (later : Buckets) (x : ℕ) (b : List Request) → x < length later → bucket_at (set later x b) x ≡ b
bucket-here later x b h = get_or-set_at later x x b [] refl h

bucket-other : (later : Buckets) (x y : ℕ) (b : List Request) → y ≢ x → bucket_at (set later x b) y ≡ bucket_at later y
bucket-other later x y b n = get_or-set_other later x y b [] n

in_append : (b : List Request) (r q : Request) → IsIn b q → IsIn (b ++ r ∷ []) q
in_append b r q i =
    let h = i.in_range in
    let len = length_push b r in
    record { place = i.place; in_range = omega arith; is = get_or_append_left b (r ∷ []) none i.place h ∙ i.is }

in_last : (b : List Request) (r : Request) → IsIn (b ++ r ∷ []) r
in_last b r = let len = length_push b r in record { place = length b; in_range = omega arith; is = get_or-append_seam b r [] none }

in_either : (b : List Request) (r q : Request) → IsIn (b ++ r ∷ []) q → IsIn b q ⊎ (q ≡ r)
in_either b r q i =
    let h = i.in_range in
    let len = length_push b r in
    elim (cases_lt i.place (length b)) [
      | inl m ↦ inl (record { place = i.place; in_range = m; is = sym (get_or_append_left b (r ∷ []) none i.place m) ∙ i.is })
      | inr m ↦ (let e : i.place ≡ length b = omega arith in inr (sym i.is ∙ (ap (request_at (b ++ r ∷ [])) e ∙ get_or-append_seam b r [] none)))
    ]

-- A request more, for a level that is still to come.
abbrev asked : Queue → ℕ → Request → Buckets → List ℕ → Queue
asked old x r later levels = record old { later = set later x (bucket_at later x ++ r ∷ []); levels = levels }

asks : (old : Queue) (x : ℕ) (r : Request) (later : Buckets) (levels : List ℕ) → old.level < x → x < length later → ((y : ℕ) → bucket_at later y ≡ bucket_at old.later y) → Asks old (asked old x r later levels) x r
asks old x r later levels h l same = record {
  level = refl;
  left = refl;
  added = IsWaiting.later h (subst (λ z. IsIn z r) (sym here) (in_last (bucket_at later x) r));
  kept = kept;
  only = only;
}
  where
    here : bucket_at (set later x (bucket_at later x ++ r ∷ [])) x ≡ bucket_at later x ++ r ∷ []
    here = bucket-here later x (bucket_at later x ++ r ∷ []) l

    other : (y : ℕ) → y ≢ x → bucket_at (set later x (bucket_at later x ++ r ∷ [])) y ≡ bucket_at old.later y
    other y n = bucket-other later x y (bucket_at later x ++ r ∷ []) n ∙ same y

    kept : (y : ℕ) (q : Request) → IsWaiting old y q → IsWaiting (asked old x r later levels) y q
    kept y q (IsWaiting.here e i) = IsWaiting.here e i
    kept y q (IsWaiting.later m i) = IsWaiting.later m (elim (cases_eq y x) [
      | inl e ↦ subst (λ z. IsIn z q) (sym (ap (bucket_at (set later x (bucket_at later x ++ r ∷ []))) e ∙ here))
          (in_append (bucket_at later x) r q (subst (λ z. IsIn z q) (sym (same x)) (subst (λ z. IsIn (bucket_at old.later z) q) e i)))
      | inr n ↦ subst (λ z. IsIn z q) (sym (other y n)) i
    ])

    only : (y : ℕ) (q : Request) → IsWaiting (asked old x r later levels) y q → IsWaiting old y q ⊎ ((y ≡ x) × (q ≡ r))
    only y q (IsWaiting.here e i) = inl (IsWaiting.here e i)
    only y q (IsWaiting.later m i) = elim (cases_eq y x) [
      | inl e ↦ elim (in_either (bucket_at later x) r q (subst (λ z. IsIn z q) (ap (bucket_at (set later x (bucket_at later x ++ r ∷ []))) e ∙ here) i)) [
        | inl j ↦ inl (IsWaiting.later m (subst (λ z. IsIn (bucket_at old.later z) q) (sym e) (subst (λ z. IsIn z q) (same x) j)))
        | inr s ↦ inr (e, s)
      ]
      | inr n ↦ inl (IsWaiting.later m (subst (λ z. IsIn z q) (other y n) i))
    ]

pub asks_at : (old mid : Queue) (x : ℕ) (r : Request) (b c : List Request) → old.level < x → mid.level ≡ old.level → mid.left ≡ old.left → x < length mid.later → ((y : ℕ) → bucket_at mid.later y ≡ bucket_at old.later y)
    → b ≡ bucket_at mid.later x → c ≡ b ++ r ∷ [] → Asks old (record mid { later = set mid.later x c }) x r
asks_at old mid x r b c h level left l same e f =
    let g : c ≡ bucket_at mid.later x ++ r ∷ [] = f ∙ ap (λ z. z ++ r ∷ []) e in
    let q : asked old x r mid.later mid.levels ≡ record mid { later = set mid.later x c } = λ i. record { level = sym level i; left = sym left i; later = set mid.later x (sym g i); levels = mid.levels } in
    subst (λ z. Asks old z x r) q (asks old x r mid.later mid.levels h l same)

-- What is noted of a longer list of buckets.
noted_longer : (later longer : Buckets) (level : ℕ) (levels : List ℕ) → length later ≤ length longer → All (IsNoted later level) levels → All (IsNoted longer level) levels
noted_longer later longer level levels l all k d h = let n = all k d h in record { no_sooner = n.no_sooner; in_range = let r = n.in_range in omega arith }

-- The buckets are the same, though there may be more.
pub queue-widened : (levels : List ℕ) (later longer : Buckets) (level : ℕ) → IsQueue levels later level → length later ≤ length longer → length longer ≤ 2 ^ 32 → ((x : ℕ) → bucket_at longer x ≡ bucket_at later x) → IsQueue levels longer level
queue-widened levels later longer level w l few same = record {
  ordered = w.ordered;
  noted = noted_longer later longer level levels l w.noted;
  listed = λ x h. w.listed x (subst (λ (z : List Request). 0 < length z) (same x) h);
  come = λ x h. same x ∙ w.come x h;
  few = few;
}

-- A level is noted.
queue-noted : (levels more : List ℕ) (later : Buckets) (level y : ℕ) → IsQueue levels later level → IsHeap nat_cmp more → IsPermutation (y ∷ levels) more → IsNoted later level y → IsQueue more later level
queue-noted levels more later level y w heap p n = record {
  ordered = heap;
  noted = All-permutation (IsNoted later level) (y ∷ levels) more p (All-cons (IsNoted later level) y levels n w.noted);
  listed = λ x h. let c = w.listed x h in Contains-permutation (y ∷ levels) more (2 ^ 32 - 1 - x) p (suc c.0, (let l = c.1 in omega arith), c.2);
  come = w.come;
  few = w.few;
}

-- A bucket of a level that is noted gets a request, or none.
pub queue-set : (levels : List ℕ) (later : Buckets) (level x : ℕ) (b : List Request) → IsQueue levels later level → level < x → Contains levels (2 ^ 32 - 1 - x) → IsQueue levels (set later x b) level
queue-set levels later level x b w m c = record {
  ordered = w.ordered;
  noted = noted_longer later (set later x b) level levels (let l = length-set later x b in omega arith) w.noted;
  listed = λ y h. elim (cases_eq y x) [
    | inl e ↦ subst (λ z. Contains levels (2 ^ 32 - 1 - z)) (sym e) c
    | inr n ↦ w.listed y (subst (λ (z : List Request). 0 < length z) (bucket-other later x y b n) h)
  ];
  come = λ y h. bucket-other later x y b (λ e. absurd (omega (arith, e))) ∙ w.come y h;
  few = let l = length-set later x b in let f = w.few in omega arith;
}

pub noted_has : (levels more : List ℕ) (x : ℕ) → IsPermutation ((2 ^ 32 - 1 - x) ∷ levels) more → Contains more (2 ^ 32 - 1 - x)
noted_has levels more x p = Contains-permutation ((2 ^ 32 - 1 - x) ∷ levels) more (2 ^ 32 - 1 - x) p (0, omega arith, refl)

-- A level is noted, and its bucket stays empty.
pub queue-open : (levels more : List ℕ) (later longer : Buckets) (level x : ℕ) (b : List Request) → IsQueue levels later level → length later ≤ length longer → length longer ≤ 2 ^ 32 → ((y : ℕ) → bucket_at longer y ≡ bucket_at later y)
    → level < x → x < length longer → IsHeap nat_cmp more → IsPermutation ((2 ^ 32 - 1 - x) ∷ levels) more → IsQueue more (set longer x b) level
queue-open levels more later longer level x b w l few same m h heap p =
    queue-set more longer level x b
    (queue-noted levels more longer level (2 ^ 32 - 1 - x) (queue-widened levels later longer level w l few same) heap p (record { no_sooner = omega arith; in_range = omega arith }))
    m (noted_has levels more x p)

in_buckets : (later : Buckets) (x : ℕ) → 0 < length (bucket_at later x) → x < length later
in_buckets later x h = elim (cases_lt x (length later)) [
  | inl m ↦ m
  | inr m ↦ absurd (omega (arith, ap length (get_or_past later x [] m)))
]

below_here : (y e : ℕ) → is_lt (nat_cmp y e) ≡ false → e ≤ y
below_here y e h = elim (cases_lt y e) [
  | inl m ↦ absurd (differ (sym h ∙ ap (λ b. is_lt (cond b Less (cond (y == e) Equal Greater))) (lt-ltb y e m)))
  | inr m ↦ m
]
  where
    differ : false ≡ true → ⊥
    differ q = cc

-- No element is over the greatest.
pub below_all : (y : ℕ) (rest : List ℕ) → IsUpperBound nat_cmp y rest → All (λ e. e ≤ y) rest
below_all y [] b k d h = absurd (omega arith)
below_all y (e ∷ rest) b zero d h = below_here y e b.0
below_all y (e ∷ rest) b (suc k) d h = below_all y rest b.1 k d (omega arith)

-- What is known of the level z of which the code was taken out.
record IsTakenOut (levels rest : List ℕ) (later : Buckets) (level z : ℕ) : Type 0 where
  pub code : 2 ^ 32 - 1 - z + z ≡ 2 ^ 32 - 1
  pub no_sooner : level ≤ z
  pub in_range : z < length later
  pub noted : All (IsNoted later level) rest
  pub others : (x : ℕ) → x ≢ z → 0 < length (bucket_at later x) → Contains rest (2 ^ 32 - 1 - x)

rest_has : (rest : List ℕ) (y a : ℕ) → a ≢ y → Contains (y ∷ rest) a → Contains rest a
rest_has rest y a n c = at c.0 c.1 c.2
  where
    at : (k : ℕ) → k < suc (length rest) → get_or (y ∷ rest) k a ≡ a → Contains rest a
    at zero h e = absurd (n (sym e))
    at (suc k) h e = (k, omega arith, e)

taken_out : (levels rest : List ℕ) (later : Buckets) (level y : ℕ) → IsQueue levels later level → y < 2 ^ 32 → IsPermutation levels (y ∷ rest) → IsTakenOut levels rest later level (2 ^ 32 - 1 - y)
taken_out levels rest later level y w range p =
    let all = All-permutation (IsNoted later level) levels (y ∷ rest) p w.noted in
    let one : IsNoted later level y = all 0 0 (omega arith) in
    let a = one.no_sooner in
    let b = one.in_range in
    let few = w.few in
    record {
      code = omega arith;
      no_sooner = omega arith;
      in_range = omega arith;
      noted = All-tail (IsNoted later level) y rest all;
      others = λ x n h.
          let l = in_buckets later x h in
          let apart : x ≢ 2 ^ 32 - 1 - y = n in
          rest_has rest y (2 ^ 32 - 1 - x) (λ e. absurd (omega (arith, e))) (Contains-permutation levels (y ∷ rest) (2 ^ 32 - 1 - x) p (w.listed x h));
    }

pub out_in_range : (levels rest : List ℕ) (later : Buckets) (level y : ℕ) → IsQueue levels later level → y < 2 ^ 32 → IsPermutation levels (y ∷ rest) → 2 ^ 32 - 1 - y < length later
out_in_range levels rest later level y w range p = (taken_out levels rest later level y w range p).in_range

emptied : (later : Buckets) (z x : ℕ) → z < length later → 0 < length (bucket_at (set later z []) x) → (x ≢ z) × (0 < length (bucket_at later x))
emptied later z x l h = elim (cases_eq x z) [
  | inl e ↦ absurd (omega (arith, ap length (ap (bucket_at (set later z [])) e ∙ bucket-here later z [] l)))
  | inr n ↦ (n, subst (λ (b : List Request). 0 < length b) (bucket-other later z x [] n) h)
]

-- The requests of the level are given up.
pub queue-given_up : (levels rest : List ℕ) (later : Buckets) (level y : ℕ) (b : List Request) → IsQueue levels later level → y < 2 ^ 32 → IsPermutation levels (y ∷ rest) → IsHeap nat_cmp rest → b ≡ [] → IsQueue rest (set later (2 ^ 32 - 1 - y) b) level
queue-given_up levels rest later level y b w range p heap e =
    let z : ℕ = 2 ^ 32 - 1 - y in
    let t = taken_out levels rest later level y w range p in
    subst (λ (b : List Request). IsQueue rest (set later (2 ^ 32 - 1 - y) b) level) (sym e) (record {
      ordered = heap;
      noted = noted_longer later (set later z []) level rest (let l = length-set later z [] in omega arith) t.noted;
      listed = λ x h. let m = emptied later z x t.in_range h in t.others x m.0 m.1;
      come = λ x h. elim (cases_eq x z) [
        | inl s ↦ ap (bucket_at (set later z [])) s ∙ bucket-here later z [] t.in_range
        | inr n ↦ bucket-other later z x [] n ∙ w.come x h
      ];
      few = let l = length-set later z [] in let f = w.few in omega arith;
    })

-- A level before the least one that is noted has no requests.
none_before : (levels rest : List ℕ) (later : Buckets) (level y x : ℕ) → IsQueue levels later level → y < 2 ^ 32 → IsPermutation levels (y ∷ rest) → All (λ e. e ≤ y) rest → x < 2 ^ 32 - 1 - y → 0 < length (bucket_at later x) → ⊥
none_before levels rest later level y x w range p below l h =
    let t = taken_out levels rest later level y w range p in
    let c = t.others x (λ e. absurd (omega (arith, e))) h in
    let b = below c.0 (2 ^ 32 - 1 - x) c.1 in
    omega (arith, c.2)

-- The queue goes on to the least level that is noted.
pub queue-go_on : (levels rest : List ℕ) (later : Buckets) (level y : ℕ) (b : List Request) → IsQueue levels later level → y < 2 ^ 32 → IsPermutation levels (y ∷ rest) → IsHeap nat_cmp rest → All (λ e. e ≤ y) rest → b ≡ [] → IsQueue rest (set later (2 ^ 32 - 1 - y) b) (2 ^ 32 - 1 - y)
queue-go_on levels rest later level y b w range p heap below e =
    let z : ℕ = 2 ^ 32 - 1 - y in
    let t = taken_out levels rest later level y w range p in
    subst (λ (b : List Request). IsQueue rest (set later (2 ^ 32 - 1 - y) b) (2 ^ 32 - 1 - y)) (sym e) (record {
      ordered = heap;
      noted = λ k d h.
          let n = t.noted k d h in
          let l = length-set later z [] in
          let m = below k d h in
          record { no_sooner = omega arith; in_range = let r = n.in_range in omega arith };
      listed = λ x h. let m = emptied later z x t.in_range h in t.others x m.0 m.1;
      come = λ x h. elim (cases_eq x z) [
        | inl s ↦ ap (bucket_at (set later z [])) s ∙ bucket-here later z [] t.in_range
        | inr n ↦ (let apart : x ≢ z = n in bucket-other later z x [] n ∙ none_of (bucket_at later x) (none_before levels rest later level y x w range p below (omega arith)))
      ];
      few = let l = length-set later z [] in let f = w.few in omega arith;
    })
  where
    none_of : (b : List Request) → (0 < length b → ⊥) → b ≡ []
    none_of [] n = refl
    none_of (r ∷ b) n = absurd (n (omega arith))

in_some : (b : List Request) (r : Request) → IsIn b r → 0 < length b
in_some b r i = let h = i.in_range in omega arith

-- The same requests wait.
pub waiting-go_on : (levels rest : List ℕ) (old : Queue) (y : ℕ) (left b : List Request) → IsQueue levels old.later old.level → length old.left ≡ 0 → y < 2 ^ 32 → IsPermutation levels (y ∷ rest) → All (λ e. e ≤ y) rest
    → left ≡ bucket_at old.later (2 ^ 32 - 1 - y) → b ≡ [] → WaitsAlike old (record { level = 2 ^ 32 - 1 - y; left = left; later = set old.later (2 ^ 32 - 1 - y) b; levels = rest })
waiting-go_on levels rest old y left b w none range p below f e x r = (forth, back)
  where
    z : ℕ
    z = 2 ^ 32 - 1 - y

    new : Queue
    new = record { level = z; left = left; later = set old.later z b; levels = rest }

    t : IsTakenOut levels rest old.later old.level z
    t = taken_out levels rest old.later old.level y w range p

    here : bucket_at (set old.later z b) z ≡ []
    here = bucket-here old.later z b t.in_range ∙ e

    come : IsIn (bucket_at old.later z) r → IsWaiting old z r
    come i = elim (cases_lt old.level z) [
      | inl m ↦ IsWaiting.later m i
      | inr m ↦ absurd (let n = t.no_sooner in let c = w.come z m in let h = in_some (bucket_at old.later z) r i in omega (arith, ap length c))
    ]

    forth : IsWaiting new x r → IsWaiting old x r
    forth (IsWaiting.here q i) = subst (λ v. IsWaiting old v r) (sym q) (come (subst (λ v. IsIn v r) f i))
    forth (IsWaiting.later m i) = let n = t.no_sooner in IsWaiting.later (omega arith) (subst (λ v. IsIn v r) (bucket-other old.later z x b (λ q. absurd (omega (arith, q)))) i)

    back : IsWaiting old x r → IsWaiting new x r
    back (IsWaiting.here q i) = absurd (let h = i.in_range in omega arith)
    back (IsWaiting.later m i) = elim (cases_eq x z) [
      | inl q ↦ IsWaiting.here q (subst (λ v. IsIn v r) (sym f) (subst (λ v. IsIn (bucket_at old.later v) r) q i))
      | inr n ↦ elim (cases_lt x z) [
        | inl l ↦ absurd (none_before levels rest old.later old.level y x w range p below l (in_some (bucket_at old.later x) r i))
        | inr l ↦ (let apart : x ≢ z = n in IsWaiting.later (omega arith) (subst (λ v. IsIn v r) (sym (bucket-other old.later z x b n)) i))
      ]
    ]

-- A request is taken from those that are left.
pub takes : (old mid new : Queue) (r : Request) → WaitsAlike old mid → old.level ≤ mid.level → new.level ≡ mid.level → new.later ≡ mid.later → mid.left ≡ new.left ++ r ∷ [] → Takes old new r
takes old mid new r alike later level buckets left = record {
  waited = (alike new.level r).0 (IsWaiting.here level (subst (λ z. IsIn z r) (sym left) (in_last new.left r)));
  no_sooner = omega arith;
  kept = λ x q v. kept x q ((alike x q).1 v);
  only = λ x q v. (alike x q).0 (only x q v);
}
  where
    kept : (x : ℕ) (q : Request) → IsWaiting mid x q → IsWaiting new x q ⊎ ((x ≡ new.level) × (q ≡ r))
    kept x q (IsWaiting.here e i) = elim (in_either new.left r q (subst (λ z. IsIn z q) left i)) [
      | inl j ↦ inl (IsWaiting.here (e ∙ sym level) j)
      | inr s ↦ inr (e ∙ sym level, s)
    ]
    kept x q (IsWaiting.later m i) = inl (IsWaiting.later (omega arith) (subst (λ z. IsIn (bucket_at z x) q) (sym buckets) i))

    only : (x : ℕ) (q : Request) → IsWaiting new x q → IsWaiting mid x q
    only x q (IsWaiting.here e i) = IsWaiting.here (e ∙ level) (subst (λ z. IsIn z q) (sym left) (in_append new.left r q i))
    only x q (IsWaiting.later m i) = IsWaiting.later (omega arith) (subst (λ z. IsIn (bucket_at z x) q) buckets i)
