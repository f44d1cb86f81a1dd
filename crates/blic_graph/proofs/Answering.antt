-- A request is answered: the pair is new or stood there, and its side names it.
use Rattle.std.proofs.Common.{arith, ℕ, zero, suc, ◌<◌, ◌≤◌, ◌≡◌, refl, sym, ◌∙◌, ap, subst, ◌⊎◌, inl, inr, List, ◌∷◌, length, get_or, map, Bool}
use mathlib.Core.Path.{ap₂}
use Rattle.std.proofs.lemmas.Bool.{cases_eq, cases_lt}
use Rattle.std.proofs.lemmas.List.{get_or-map, length-map, length-set, length_push}
use Rattle.blic_store.specs.declared.decision.Decision.{Decision}
use Rattle.blic_store.specs.Diagram.{cofactor}
use Rattle.blic_store.specs.Canonical.{IsCanonical}
use Rattle.blic_graph.specs.declared.pair.Pair.{Pair}
use Rattle.blic_graph.specs.declared.pair.Side.{Side}
use Rattle.blic_graph.specs.declared.waiting.Request.{Request}
use Rattle.blic_graph.specs.Pairs.{IsInner, IsPairOf, PassesMost, StandsAt, level_of_pair, pair_at}
use Rattle.blic_graph.specs.Queue.{IsWaiting, bit_of, pair_of}
use Rattle.blic_graph.specs.Listing.{AddsPair, Found, IsFor, IsFoundPair, IsGoing, IsListing, IsOpen, IsOr, IsSideSoFar, IsTaken, IsUnderBoth, IsWithoutRoom, Waits, first_at, second_at, side_of, with_side}
use Rattle.blic_graph.proofs.Closed.{pair_of_under, under_both_child}
use Rattle.blic_graph.proofs.Keys.{stands-append}
use Rattle.blic_graph.proofs.Listings.{IsNewPair, grown_of, listing_add, new_pair_of, side_so_far}
use Rattle.blic_graph.proofs.Requests.{IsRequest}
use Rattle.blic_graph.proofs.Sides.{SameKeys, at-here, cases_bit, keys-named, named, side-here, side-named, stands-named}

found_same : (nodes : List Decision) (a b : ℕ) (x y : Pair) → SameKeys x y → IsFoundPair nodes a b x → IsFoundPair nodes a b y
found_same nodes a b x y e f = record {
  first_inner = subst (λ z. 2 ≤ z) (sym e.first) f.first_inner;
  second_inner = subst (λ z. 2 ≤ z) (sym e.second) f.second_inner;
  of = subst (λ z. IsUnderBoth nodes a b z y.second) (sym e.first) (subst (IsUnderBoth nodes a b x.first) (sym e.second) f.of);
  level = e.level ∙ (f.level ∙ ap₂ (level_of_pair nodes) (sym e.first) (sym e.second));
}

first_same : (nodes : List Decision) (x y : Pair) (bit : Bool) → SameKeys x y → first_at nodes x bit ≡ first_at nodes y bit
first_same nodes x y bit e = ap₂ (λ r z. cofactor nodes r z bit) (sym e.first) (sym e.level)

second_same : (nodes : List Decision) (x y : Pair) (bit : Bool) → SameKeys x y → second_at nodes x bit ≡ second_at nodes y bit
second_same nodes x y bit e = ap₂ (λ r z. cofactor nodes r z bit) (sym e.second) (sym e.level)

children_same : (nodes : List Decision) (pairs : List Pair) (W : Type 0) (x y : Pair) (bit : Bool) (side : Side) → SameKeys x y → IsSideSoFar pairs W side (first_at nodes x bit) (second_at nodes x bit) → IsSideSoFar pairs W side (first_at nodes y bit) (second_at nodes y bit)
children_same nodes pairs W x y bit side e h =
    subst (λ z. IsSideSoFar pairs W side z (second_at nodes y bit)) (first_same nodes x y bit e) (subst (IsSideSoFar pairs W side (first_at nodes x bit)) (second_same nodes x y bit e) h)

-- The taken request's side names its pair.
pub going_named : (nodes : List Decision) (l : Found) (r : Request) (n : ℕ) → IsTaken nodes l r → StandsAt l.pairs n r.first r.second
    → IsGoing nodes (record l { pairs = named l.pairs (pair_of r) (bit_of r) (Side.Pair n) })
going_named nodes l r n t st = record {
  root = stands-named l.pairs p 0 l.first l.second bit (Side.Pair n) p_in t.root;
  listing = record {
    found = λ j h. found_same nodes l.first l.second (pair_at l.pairs j) (pair_at news j) (keys j) (w.found j (omega (arith, len)));
    rising = λ i j m h. let r = w.rising i j m (omega (arith, len)) in let a = (keys i).level in let b = (keys j).level in omega arith;
    no_later = λ j h. let r = w.no_later j (omega (arith, len)) in let a = (keys j).level in omega arith;
    before_start = λ j m h. let r = w.before_start j m (omega (arith, len)) in let a = (keys j).level in omega arith;
    once = λ i j m h f g. w.once i j m (omega (arith, len)) (sym (keys i).first ∙ (f ∙ (keys j).first)) (sym (keys i).second ∙ (g ∙ (keys j).second));
    sides = λ j b h. elim (cases_eq j p) [
      | inl q ↦ elim (cases_bit b bit) [ inl f ↦ side_here j b q f | inr m ↦ side_other j b (omega (arith, len)) (λ _. m) ]
      | inr m ↦ side_other j b (omega (arith, len)) (λ q _. m q)
    ];
    opened = λ y q v. opened y q (w.opened y q (inl v));
    start_in = let r = w.start_in in omega (arith, len);
    few = let r = w.few in omega (arith, len);
  };
}
  where
    w : IsListing nodes l (IsOr l.queue r)
    w = t.listing

    o : IsOpen nodes l.pairs l.queue.level r
    o = w.opened l.queue.level r (inr (refl, refl))

    p : ℕ
    p = pair_of r

    bit : Bool
    bit = bit_of r

    p_in : p < length l.pairs
    p_in = o.pair_in

    news : List Pair
    news = named l.pairs p bit (Side.Pair n)

    len : length news ≡ length l.pairs
    len = length-set l.pairs p (with_side (pair_at l.pairs p) bit (Side.Pair n))

    keys : (j : ℕ) → SameKeys (pair_at l.pairs j) (pair_at news j)
    keys j = keys-named l.pairs p j bit (Side.Pair n) p_in

    W : ℕ → Bool → Type 0
    W j b = Waits (IsWaiting l.queue) j b

    side_here : (j : ℕ) (b : Bool) → j ≡ p → b ≡ bit → IsSideSoFar news (W j b) (side_of (pair_at news j) b) (first_at nodes (pair_at news j) b) (second_at nodes (pair_at news j) b)
    side_here j b q f =
        let x = pair_at l.pairs p in
        let y = pair_at news p in
        let at : StandsAt news n (first_at nodes x bit) (second_at nodes x bit) =
        subst (λ z. StandsAt news n z (second_at nodes x bit)) o.first (subst (StandsAt news n r.first) o.second (stands-named l.pairs p n r.first r.second bit (Side.Pair n) p_in st)) in
        let side : side_of y bit ≡ Side.Pair n = ap (λ (z : Pair). side_of z bit) (at-here l.pairs p bit (Side.Pair n) p_in) ∙ side-here x bit (Side.Pair n) in
        let base : IsSideSoFar news (W p bit) (side_of y bit) (first_at nodes y bit) (second_at nodes y bit) =
        subst (λ (z : Side). IsSideSoFar news (W p bit) z (first_at nodes y bit) (second_at nodes y bit)) (sym side) (children_same nodes news (W p bit) x y bit (Side.Pair n) (keys p) (inl at)) in
        subst (λ z. IsSideSoFar news (W z b) (side_of (pair_at news z) b) (first_at nodes (pair_at news z) b) (second_at nodes (pair_at news z) b)) (sym q)
        (subst (λ z. IsSideSoFar news (W p z) (side_of y z) (first_at nodes y z) (second_at nodes y z)) (sym f) base)

    waits : (j : ℕ) (b : Bool) → (j ≡ p → b ≡ bit → ⊥) → (y : ℕ) (q : Request) → IsOr l.queue r y q → IsFor q j b → W j b
    waits j b m y q (inl v) f = (y, q, v, f)
    waits j b m y q (inr z) f = absurd (let g = subst (λ (z : Request). IsFor z j b) z.1 f in m (sym g.pair_is) (sym g.bit_is))

    side_other : (j : ℕ) (b : Bool) → j < length l.pairs → (j ≡ p → b ≡ bit → ⊥) → IsSideSoFar news (W j b) (side_of (pair_at news j) b) (first_at nodes (pair_at news j) b) (second_at nodes (pair_at news j) b)
    side_other j b h m =
        let x = pair_at l.pairs j in
        let y = pair_at news j in
        subst (λ (z : Side). IsSideSoFar news (W j b) z (first_at nodes y b) (second_at nodes y b)) (sym (side-named l.pairs p j bit b (Side.Pair n) p_in m))
        (children_same nodes news (W j b) x y b (side_of x b) (keys j)
        (side_so_far l.pairs news (Waits (IsOr l.queue r) j b) (W j b) (λ i r s. stands-named l.pairs p i r s bit (Side.Pair n) p_in)
        (λ v. waits j b m v.0 v.1 v.2 v.3) (side_of x b) (first_at nodes x b) (second_at nodes x b) (w.sides j b h)))

    opened : (y : ℕ) (q : Request) → IsOpen nodes l.pairs y q → IsOpen nodes news y q
    opened y q o = record {
      pair_in = let r = o.pair_in in omega (arith, len);
      first = o.first ∙ first_same nodes (pair_at l.pairs (pair_of q)) (pair_at news (pair_of q)) (bit_of q) (keys (pair_of q));
      second = o.second ∙ second_same nodes (pair_at l.pairs (pair_of q)) (pair_at news (pair_of q)) (bit_of q) (keys (pair_of q));
      first_inner = o.first_inner;
      second_inner = o.second_inner;
      level = o.level;
    }

-- The pair of a taken request is new.
pub taken_add : (nodes : List Decision) (l new : Found) (r : Request) → IsTaken nodes l r → IsUnderBoth nodes l.first l.second r.first r.second → IsInner nodes r.first → IsInner nodes r.second
    → l.queue.level ≡ level_of_pair nodes r.first r.second → AddsPair nodes l new r.first r.second → IsTaken nodes new r
taken_add nodes l new r t u i j e a = subst (λ z. IsTaken nodes z r) (sym a.added) (record {
  listing = listing_add nodes l new.queue a.pair (IsOr l.queue r) (IsOr new.queue r) t.listing n;
  root = stands-append l.pairs a.pair 0 l.first l.second t.root;
})
  where
    level : new.queue.level ≡ l.queue.level
    level = (grown_of nodes l new r.first r.second a).level

    opens : (y : ℕ) (q : Request) → IsOr l.queue r y q → IsOr new.queue r y q
    opens y q (inl v) = inl ((grown_of nodes l new r.first r.second a).kept y q v)
    opens y q (inr z) = inr (z.0 ∙ sym level, z.1)

    only : (y : ℕ) (q : Request) → IsOr new.queue r y q → IsOr l.queue r y q ⊎ ((bit : Bool) × IsRequest nodes a.pair (length l.pairs) y q bit)
    only y q (inl v) = elim ((grown_of nodes l new r.first r.second a).only y q v) [ inl m ↦ inl (inl m) | inr m ↦ inr m ]
    only y q (inr z) = inl (inr (z.0 ∙ level, z.1))

    n : IsNewPair nodes l new.queue a.pair (IsOr l.queue r) (IsOr new.queue r)
    n = new_pair_of nodes l new r.first r.second (IsOr l.queue r) (IsOr new.queue r) u a i j e opens (λ y q v. inl v) only

-- What is known of the functions of a taken request.
pub record IsPending (nodes : List Decision) (l : Found) (c d : ℕ) : Type 0 where
  pub under : IsUnderBoth nodes l.first l.second c d
  pub first_inner : IsInner nodes c
  pub second_inner : IsInner nodes d
  pub level : l.queue.level ≡ level_of_pair nodes c d

pub pending : (nodes : List Decision) → IsCanonical nodes → (l : Found) (r : Request) → IsTaken nodes l r → IsPending nodes l r.first r.second
pending nodes cn l r t =
    let w = t.listing in
    let o = w.opened l.queue.level r (inr (refl, refl)) in
    let x = pair_at l.pairs (pair_of r) in
    let f = w.found (pair_of r) o.pair_in in
    let both : IsUnderBoth nodes l.first l.second (first_at nodes x (bit_of r)) (second_at nodes x (bit_of r)) = under_both_child nodes cn l.first l.second x.first x.second x.level (bit_of r) f.of f.first_inner f.second_inner f.level in
    let under : IsUnderBoth nodes l.first l.second r.first r.second = subst (λ z. IsUnderBoth nodes l.first l.second z r.second) (sym o.first) (subst (IsUnderBoth nodes l.first l.second (first_at nodes x (bit_of r))) (sym o.second) both) in
    record {
      under = under;
      first_inner = record { held = under.first.held; inner = o.first_inner };
      second_inner = record { held = under.second.held; inner = o.second_inner };
      level = o.level;
    }

abbrev both : Pair → ℕ × ℕ
both x = (x.first, x.second)

-- Where there is no room for a new pair there are too many.
pub passes_most : (nodes : List Decision) (l : Found) (Open : ℕ → Request → Type 0) (r s : ℕ) → IsListing nodes l Open → IsPending nodes l r s → IsWithoutRoom l r s → PassesMost nodes l.first l.second l.most
passes_most nodes l Open r s w b f = record {
  some = (r, s) ∷ map both l.pairs;
  more = let h = f.full in omega (arith, len);
  each = each;
  once = once;
}
  where
    len : length (map both l.pairs) ≡ length l.pairs
    len = length-map l.pairs both

    at : (j : ℕ) → j < length l.pairs → get_or (map both l.pairs) j (0, 0) ≡ both (pair_at l.pairs j)
    at j h = get_or-map both l.pairs j (record { level = 0; first = 0; second = 0; low = Side.Done 0 0; high = Side.Done 0 0 }) (0, 0) h

    each : (j : ℕ) → j < suc (length (map both l.pairs)) → IsPairOf nodes l.first l.second (get_or ((r, s) ∷ map both l.pairs) j (0, 0)).0 (get_or ((r, s) ∷ map both l.pairs) j (0, 0)).1
    each zero h = pair_of_under nodes l.first l.second r s b.under b.first_inner.inner b.second_inner.inner
    each (suc j) h =
        let x = w.found j (omega (arith, len)) in
        subst (λ z. IsPairOf nodes l.first l.second z.0 z.1) (sym (at j (omega (arith, len))))
        (pair_of_under nodes l.first l.second (pair_at l.pairs j).first (pair_at l.pairs j).second x.of x.first_inner x.second_inner)

    new : (j : ℕ) → j < length l.pairs → (pair_at l.pairs j).first ≡ r → (pair_at l.pairs j).second ≡ s → ⊥
    new j h e g = elim (cases_lt j l.start) [
      | inl m ↦ (let a = (w.found j h).level in let c = b.level in let d = ap₂ (level_of_pair nodes) e g in let q = w.before_start j m h in omega arith)
      | inr m ↦ f.missing j m (record { in_range = h; first = e; second = g })
    ]

    once : (i j : ℕ) → i < j → j < suc (length (map both l.pairs)) → get_or ((r, s) ∷ map both l.pairs) i (0, 0) ≡ get_or ((r, s) ∷ map both l.pairs) j (0, 0) → ⊥
    once i zero d h e = absurd (omega arith)
    once zero (suc j) d h e =
        let q = e ∙ at j (omega (arith, len)) in
        new j (omega (arith, len)) (sym (ap (λ z. z.0) q)) (sym (ap (λ z. z.1) q))
    once (suc i) (suc j) d h e =
        let q = sym (at i (omega (arith, len))) ∙ (e ∙ at j (omega (arith, len))) in
        w.once i j (omega arith) (omega (arith, len)) (ap (λ z. z.0) q) (ap (λ z. z.1) q)

-- What `answer` leaves.
pub answered : (nodes : List Decision) → IsCanonical nodes → (l mid new : Found) (r : Request) (n : ℕ) → IsTaken nodes l r → (mid ≡ l) ⊎ AddsPair nodes l mid r.first r.second → StandsAt mid.pairs n r.first r.second
    → new ≡ record mid { pairs = named mid.pairs (pair_of r) (bit_of r) (Side.Pair n) } → IsGoing nodes new
answered nodes cn l mid new r n t (inl q) st u = subst (IsGoing nodes) (sym u) (going_named nodes mid r n (subst (λ z. IsTaken nodes z r) (sym q) t) st)
answered nodes cn l mid new r n t (inr a) st u =
    let b = pending nodes cn l r t in
    subst (IsGoing nodes) (sym u) (going_named nodes mid r n (taken_add nodes l mid r t b.under b.first_inner b.second_inner b.level a) st)

pub no_shorter : (nodes : List Decision) (l mid : Found) (c d : ℕ) → (mid ≡ l) ⊎ AddsPair nodes l mid c d → length l.pairs ≤ length mid.pairs
no_shorter nodes l mid c d (inl q) = omega (arith, ap (λ (z : Found). length z.pairs) q)
no_shorter nodes l mid c d (inr a) = omega (arith, ap (λ (z : Found). length z.pairs) a.added, length_push l.pairs a.pair)
