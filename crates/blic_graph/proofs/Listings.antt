-- Listings: a level that begins, and a pair more.
use Rattle.std.proofs.Common.{arith, ℕ, ◌+◌, ◌*◌, ◌<◌, ◌≤◌, ◌≡◌, refl, sym, ◌∙◌, ap, subst, ◌⊎◌, inl, inr, List, [], ◌∷◌, ◌++◌, length, Bool, true, false}
use mathlib.Core.Path.{ap₂}
use Rattle.std.proofs.lemmas.Bool.{cases_lt}
use Rattle.std.proofs.lemmas.List.{length_push}
use Rattle.blic_store.specs.declared.decision.Decision.{Decision}
use Rattle.blic_graph.specs.declared.pair.Pair.{Pair}
use Rattle.blic_graph.specs.declared.pair.Side.{Side}
use Rattle.blic_graph.specs.declared.waiting.Request.{Request}
use Rattle.blic_graph.specs.Pairs.{IsInner, IsSide, StandsAt, level_of_pair, pair_at}
use Rattle.blic_graph.specs.Queue.{IsWaiting, Queue, Takes, bit_of, pair_of}
use Rattle.blic_store.specs.Diagram.{cofactor}
use Rattle.blic_graph.specs.Listing.{AddsPair, Begins, Found, IsAsked, IsFoundPair, IsGoing, IsListing, IsMissing, IsOpen, IsOr, IsSideSoFar, IsTaken, IsUnderBoth, Waits, first_at, second_at, side_of}
use Rattle.blic_graph.proofs.Keys.{pair-append, pair-last, stands-append}
use Rattle.blic_graph.proofs.Requests.{IsDone, IsGrown, IsRequest, grown}

-- A side stays one where the pairs stand where they stood.
pub side_stays : (old new : List Pair) → ((k r s : ℕ) → StandsAt old k r s → StandsAt new k r s) → (side : Side) (r s : ℕ) → IsSide old side r s → IsSide new side r s
side_stays old new keep (Side.Pair n) r s h = keep n r s h
side_stays old new keep (Side.Done c d) r s h = h

-- So far too, where what waited waits.
pub side_so_far : (old new : List Pair) (V W : Type 0) → ((k r s : ℕ) → StandsAt old k r s → StandsAt new k r s) → (V → W) → (side : Side) (r s : ℕ) → IsSideSoFar old V side r s → IsSideSoFar new W side r s
side_so_far old new V W keep more side r s (inl h) = inl (side_stays old new keep side r s h)
side_so_far old new V W keep more side r s (inr v) = inr (more v)

next_start : (l : Found) (q : Queue) (start : ℕ) → ((q.level ≡ l.queue.level) × (start ≡ l.start)) ⊎ ((l.queue.level < q.level) × (start ≡ length l.pairs)) → l.start ≤ length l.pairs
    → ((j : ℕ) → j < l.start → j < length l.pairs → (pair_at l.pairs j).level < l.queue.level) → ((j : ℕ) → j < length l.pairs → (pair_at l.pairs j).level ≤ l.queue.level)
    → (start ≤ length l.pairs) × ((j : ℕ) → j < start → j < length l.pairs → (pair_at l.pairs j).level < q.level)
next_start l q start (inl e) i before late = (omega (arith, e.1), λ j h m. let b = before j (omega (arith, e.1)) m in omega (arith, e.0))
next_start l q start (inr e) i before late = (omega (arith, e.1), λ j h m. let b = late j m in omega (arith, e.0))

open_before : (old new : Queue) (r : Request) → Takes old new r → (y : ℕ) (q : Request) → IsOr new r y q → IsWaiting old y q
open_before old new r t y q (inl w) = t.only y q w
open_before old new r t y q (inr e) = subst (λ z. IsWaiting old z q) (sym e.0) (subst (IsWaiting old new.level) (sym e.1) t.waited)

taken_at : (nodes : List Decision) (l : Found) (q : Queue) (start : ℕ) (r : Request) → IsGoing nodes l → Takes l.queue q r → ((q.level ≡ l.queue.level) × (start ≡ l.start)) ⊎ ((l.queue.level < q.level) × (start ≡ length l.pairs))
    → IsTaken nodes (record l { start = start; queue = q }) r
taken_at nodes l q start r g t b =
    let w = g.listing in
    let later = t.no_sooner in
    let starts = next_start l q start b w.start_in w.before_start w.no_later in
    record {
      root = g.root;
      listing = record {
        found = w.found;
        rising = w.rising;
        no_later = λ j h. let m = w.no_later j h in omega arith;
        before_start = starts.1;
        once = w.once;
        sides = λ j bit h. let x = pair_at l.pairs j in
            side_so_far l.pairs l.pairs (Waits (IsWaiting l.queue) j bit) (Waits (IsOr q r) j bit) (λ n r s z. z)
            (λ v. (v.0, v.1, t.kept v.0 v.1 v.2, v.3))
            (side_of x bit) (first_at nodes x bit) (second_at nodes x bit) (w.sides j bit h);
        opened = λ y z o. w.opened y z (open_before l.queue q r t y z o);
        start_in = starts.0;
        few = w.few;
      };
    }

-- A request is taken, and its level has begun.
pub taken_next : (nodes : List Decision) (old new : Found) (r : Request) → IsGoing nodes old → Takes old.queue new.queue r → Begins old new → IsTaken nodes new r
taken_next nodes old new r g t b = subst (λ (z : Found). IsTaken nodes z r) (sym b.same) (taken_at nodes old new.queue new.start r g t b.start)

-- What is known of a pair that is added.
pub record IsNewPair (nodes : List Decision) (l : Found) (q : Queue) (x : Pair) (Open More : ℕ → Request → Type 0) : Type 0 where
  pub found : IsFoundPair nodes l.first l.second x
  pub come : x.level ≡ l.queue.level
  pub missing : IsMissing l.pairs l.start x.first x.second
  pub room : length l.pairs < l.most
  pub level : q.level ≡ l.queue.level
  pub opens : (y : ℕ) (r : Request) → Open y r → More y r
  pub side : (bit : Bool) → IsDone (side_of x bit) (first_at nodes x bit) (second_at nodes x bit) ⊎ ((y : ℕ) × (r : Request) × More y r × IsRequest nodes x (length l.pairs) y r bit)
  pub only : (y : ℕ) (r : Request) → More y r → Open y r ⊎ ((bit : Bool) × IsRequest nodes x (length l.pairs) y r bit)

abbrev with_pair : Found → Queue → Pair → Found
with_pair l q x = record l { pairs = l.pairs ++ x ∷ []; queue = q }

done_side : (pairs : List Pair) (side : Side) (c d : ℕ) → IsDone side c d → IsSide pairs side c d
done_side pairs side c d e = subst (λ (z : Side). IsSide pairs z c d) (sym e.is) (refl, refl, e.constant)

pub listing_add : (nodes : List Decision) (l : Found) (q : Queue) (x : Pair) (Open More : ℕ → Request → Type 0) → IsListing nodes l Open → IsNewPair nodes l q x Open More → IsListing nodes (with_pair l q x) More
listing_add nodes l q x Open More w n = record {
  found = λ k h. elim (cases_lt k (length l.pairs)) [
    | inl m ↦ subst (IsFoundPair nodes l.first l.second) (sym (old k m)) (w.found k m)
    | inr m ↦ subst (IsFoundPair nodes l.first l.second) (sym (last k (omega (arith, len)))) n.found
  ];
  rising = λ j k d h. elim (cases_lt k (length l.pairs)) [
    | inl m ↦ (let r = w.rising j k d m in let a = level_old j (omega arith) in let b = level_old k m in omega arith)
    | inr m ↦ (let b = level_last k (omega (arith, len)) in let c = level_le j (omega arith) in omega arith)
  ];
  no_later = λ k h. let a = level_le k h in let b = n.come in let c = n.level in omega arith;
  before_start = λ k s h. let i = w.start_in in let a = level_old k (omega arith) in let b = w.before_start k s (omega arith) in let c = n.level in omega arith;
  once = λ j k d h e. elim (cases_lt k (length l.pairs)) [
    | inl m ↦ (λ f. w.once j k d m (sym (first_old j (omega arith)) ∙ (e ∙ first_old k m)) (sym (second_old j (omega arith)) ∙ (f ∙ second_old k m)))
    | inr m ↦ (λ f. new_once j (omega (arith, len))
        (sym (first_old j (omega (arith, len))) ∙ (e ∙ ap (λ (z : Pair). z.first) (last k (omega (arith, len)))))
        (sym (second_old j (omega (arith, len))) ∙ (f ∙ ap (λ (z : Pair). z.second) (last k (omega (arith, len))))))
  ];
  sides = λ k bit h. elim (cases_lt k (length l.pairs)) [
    | inl m ↦ subst (λ (z : Pair). IsSideSoFar (l.pairs ++ x ∷ []) (Waits More k bit) (side_of z bit) (first_at nodes z bit) (second_at nodes z bit)) (sym (old k m))
        (side_so_far l.pairs (l.pairs ++ x ∷ []) (Waits Open k bit) (Waits More k bit) (λ i r s. stands-append l.pairs x i r s)
        (λ v. (v.0, v.1, n.opens v.0 v.1 v.2, v.3)) (side_of (pair_at l.pairs k) bit) (first_at nodes (pair_at l.pairs k) bit) (second_at nodes (pair_at l.pairs k) bit) (w.sides k bit m))
    | inr m ↦ subst (λ (z : Pair). IsSideSoFar (l.pairs ++ x ∷ []) (Waits More k bit) (side_of z bit) (first_at nodes z bit) (second_at nodes z bit)) (sym (last k (omega (arith, len))))
        (subst (λ z. IsSideSoFar (l.pairs ++ x ∷ []) (Waits More z bit) (side_of x bit) (first_at nodes x bit) (second_at nodes x bit)) (let z : length l.pairs ≡ k = omega (arith, len) in z) (new_side bit))
  ];
  opened = λ y r o. elim (n.only y r o) [ inl v ↦ open_old y r (w.opened y r v) | inr v ↦ open_new y r v.0 v.1 ];
  start_in = let i = w.start_in in omega (arith, len);
  few = let r = n.room in omega (arith, len);
}
  where
    len : length (l.pairs ++ x ∷ []) ≡ length l.pairs + 1
    len = length_push l.pairs x

    old : (k : ℕ) → k < length l.pairs → pair_at (l.pairs ++ x ∷ []) k ≡ pair_at l.pairs k
    old k m = pair-append l.pairs x k m

    last : (k : ℕ) → k ≡ length l.pairs → pair_at (l.pairs ++ x ∷ []) k ≡ x
    last k e = pair-last l.pairs x k e

    level_old : (k : ℕ) → k < length l.pairs → (pair_at (l.pairs ++ x ∷ []) k).level ≡ (pair_at l.pairs k).level
    level_old k m = ap (λ (z : Pair). z.level) (old k m)

    first_old : (k : ℕ) → k < length l.pairs → (pair_at (l.pairs ++ x ∷ []) k).first ≡ (pair_at l.pairs k).first
    first_old k m = ap (λ (z : Pair). z.first) (old k m)

    second_old : (k : ℕ) → k < length l.pairs → (pair_at (l.pairs ++ x ∷ []) k).second ≡ (pair_at l.pairs k).second
    second_old k m = ap (λ (z : Pair). z.second) (old k m)

    level_last : (k : ℕ) → k ≡ length l.pairs → (pair_at (l.pairs ++ x ∷ []) k).level ≡ x.level
    level_last k e = ap (λ (z : Pair). z.level) (last k e)

    level_le : (k : ℕ) → k < length (l.pairs ++ x ∷ []) → (pair_at (l.pairs ++ x ∷ []) k).level ≤ x.level
    level_le k h = elim (cases_lt k (length l.pairs)) [
      | inl m ↦ (let a = level_old k m in let b = w.no_later k m in let c = n.come in omega arith)
      | inr m ↦ (let a = level_last k (omega (arith, len)) in omega arith)
    ]

    new_once : (j : ℕ) → j < length l.pairs → (pair_at l.pairs j).first ≡ x.first → (pair_at l.pairs j).second ≡ x.second → ⊥
    new_once j h e f = elim (cases_lt j l.start) [
      | inl s ↦ (let a = (w.found j h).level in let b = n.found.level in let c = ap₂ (level_of_pair nodes) e f in let d = w.before_start j s h in let g = n.come in omega arith)
      | inr s ↦ n.missing j s (record { in_range = h; first = e; second = f })
    ]

    new_side : (bit : Bool) → IsSideSoFar (l.pairs ++ x ∷ []) (Waits More (length l.pairs) bit) (side_of x bit) (first_at nodes x bit) (second_at nodes x bit)
    new_side bit = elim (n.side bit) [
      | inl d ↦ inl (done_side (l.pairs ++ x ∷ []) (side_of x bit) (first_at nodes x bit) (second_at nodes x bit) d)
      | inr v ↦ inr (v.0, v.1, v.2, record { pair_is = v.3.pair_is; bit_is = v.3.bit_is })
    ]

    open_old : (y : ℕ) (r : Request) → IsOpen nodes l.pairs y r → IsOpen nodes (l.pairs ++ x ∷ []) y r
    open_old y r o =
        let p = o.pair_in in
        record {
          pair_in = omega (arith, len);
          first = o.first ∙ ap (λ (z : Pair). first_at nodes z (bit_of r)) (sym (old (pair_of r) p));
          second = o.second ∙ ap (λ (z : Pair). second_at nodes z (bit_of r)) (sym (old (pair_of r) p));
          first_inner = o.first_inner;
          second_inner = o.second_inner;
          level = o.level;
        }

    open_new : (y : ℕ) (r : Request) (bit : Bool) → IsRequest nodes x (length l.pairs) y r bit → IsOpen nodes (l.pairs ++ x ∷ []) y r
    open_new y r bit o =
        let e = last (pair_of r) o.pair_is in
        record {
          pair_in = let p = o.pair_is in omega (arith, len);
          first = o.first ∙ ap₂ (λ (z : Pair) b. first_at nodes z b) (sym e) (sym o.bit_is);
          second = o.second ∙ ap₂ (λ (z : Pair) b. second_at nodes z b) (sym e) (sym o.bit_is);
          first_inner = o.first_inner;
          second_inner = o.second_inner;
          level = o.level;
        }

-- The queue of a listing with a pair more.
pub grown_of : (nodes : List Decision) (l new : Found) (r s : ℕ) (a : AddsPair nodes l new r s) → IsGrown nodes l.queue new.queue a.pair (length l.pairs)
grown_of nodes l new r s a = grown nodes l.queue a.between new.queue a.pair (length l.pairs) a.asked_low a.asked_high

pub new_pair_of : (nodes : List Decision) (l new : Found) (r s : ℕ) (Open More : ℕ → Request → Type 0) → IsUnderBoth nodes l.first l.second r s → (a : AddsPair nodes l new r s) → IsInner nodes r → IsInner nodes s → l.queue.level ≡ level_of_pair nodes r s
    → ((y : ℕ) (q : Request) → Open y q → More y q) → ((y : ℕ) (q : Request) → IsWaiting new.queue y q → More y q)
    → ((y : ℕ) (q : Request) → More y q → Open y q ⊎ ((bit : Bool) × IsRequest nodes a.pair (length l.pairs) y q bit))
    → IsNewPair nodes l new.queue a.pair Open More
new_pair_of nodes l new r s Open More u a i j e opens more only =
    let x = a.pair in
    let asked = grown_of nodes l new r s a in
    record {
      found = record {
        first_inner = subst (λ z. 2 ≤ z) (sym a.first) i.inner;
        second_inner = subst (λ z. 2 ≤ z) (sym a.second) j.inner;
        of = subst (λ z. IsUnderBoth nodes l.first l.second z x.second) (sym a.first) (subst (IsUnderBoth nodes l.first l.second r) (sym a.second) u);
        level = a.level ∙ (e ∙ ap₂ (level_of_pair nodes) (sym a.first) (sym a.second));
      };
      come = a.level;
      missing = subst (λ z. IsMissing l.pairs l.start z x.second) (sym a.first) (subst (IsMissing l.pairs l.start r) (sym a.second) a.missing);
      room = a.room;
      level = asked.level;
      opens = opens;
      side = λ bit. elim (asked.side bit) [ inl d ↦ inl d | inr v ↦ inr (v.0, v.1, more v.0 v.1 v.2, v.3) ];
      only = only;
    }

asked_level : (nodes : List Decision) (old new : Queue) (place c d : ℕ) (side : Side) → IsAsked nodes old new place c d side → new.level ≡ old.level
asked_level nodes old new place c d side (IsAsked.constant m s e) = ap (λ (q : Queue). q.level) e
asked_level nodes old new place c d side (IsAsked.inner i j a) = a.level

-- What `add` does, one step after the other.
pub adds_pair : (nodes : List Decision) (l mid late new : Found) (n r s : ℕ) (low high : Side) → n ≡ length l.pairs → IsMissing l.pairs l.start r s → length l.pairs < l.most
    → IsAsked nodes l.queue mid.queue (2 * n + 0) (cofactor nodes r l.queue.level false) (cofactor nodes s l.queue.level false) low → mid ≡ record l { queue = mid.queue }
    → IsAsked nodes mid.queue late.queue (2 * n + 1) (cofactor nodes r mid.queue.level true) (cofactor nodes s mid.queue.level true) high → late ≡ record mid { queue = late.queue }
    → new ≡ record late { pairs = late.pairs ++ record { level = late.queue.level; first = r; second = s; low = low; high = high } ∷ [] } → AddsPair nodes l new r s
adds_pair nodes l mid late new n r s low high e missing room a p b q u =
    let level : mid.queue.level ≡ l.queue.level = asked_level nodes l.queue mid.queue (2 * n + 0) _ _ low a in
    let later : late.queue.level ≡ l.queue.level = asked_level nodes mid.queue late.queue (2 * n + 1) _ _ high b ∙ level in
    let x : Pair = record { level = l.queue.level; first = r; second = s; low = low; high = high } in
    let all : late ≡ record l { queue = late.queue } = q ∙ ap (λ (z : Found). record z { queue = late.queue }) p in
    let sum : new ≡ record l { pairs = l.pairs ++ x ∷ []; queue = late.queue } = u ∙ (ap (λ z. record late { pairs = late.pairs ++ record { level = z; first = r; second = s; low = low; high = high } ∷ [] }) later ∙ ap (λ (z : Found). record z { pairs = z.pairs ++ x ∷ [] }) all) in
    let queue : new.queue ≡ late.queue = ap (λ (z : Found). z.queue) sum in
    record {
      missing = missing;
      room = room;
      pair = x;
      level = refl;
      first = refl;
      second = refl;
      between = mid.queue;
      asked_low = subst (λ z. IsAsked nodes l.queue mid.queue (2 * z + 0) (cofactor nodes r l.queue.level false) (cofactor nodes s l.queue.level false) low) e a;
      asked_high = subst (λ (z : Queue). IsAsked nodes mid.queue z (2 * length l.pairs + 1) (cofactor nodes r l.queue.level true) (cofactor nodes s l.queue.level true) high) (sym queue)
          (subst (λ z. IsAsked nodes mid.queue late.queue (2 * length l.pairs + 1) (cofactor nodes r z true) (cofactor nodes s z true) high) level
          (subst (λ z. IsAsked nodes mid.queue late.queue (2 * z + 1) (cofactor nodes r mid.queue.level true) (cofactor nodes s mid.queue.level true) high) e b));
      added = sum ∙ ap (λ z. record l { pairs = l.pairs ++ x ∷ []; queue = z }) (sym queue);
    }
