-- The first pair, and the graph that stands when nothing waits.
use Rattle.std.proofs.Common.{arith, ℕ, ◌<◌, ◌≤◌, ◌≡◌, sym, ◌∙◌, ap, subst, ◌⊎◌, inl, inr, List, [], length, Bool, true, false}
use mathlib.Core.Path.{ap₂}
use Rattle.blic_store.specs.declared.decision.Decision.{Decision}
use Rattle.blic_store.specs.Function.{Same, after}
use Rattle.blic_store.specs.Diagram.{IsRef, cofactor, function}
use Rattle.blic_store.specs.Canonical.{IsCanonical}
use Rattle.blic_store.proofs.Canonical.{same_ref}
use Rattle.blic_store.proofs.Under.{constant_stays}
use Rattle.blic_graph.specs.declared.pair.Pair.{Pair}
use Rattle.blic_graph.specs.declared.pair.Side.{Side}
use Rattle.blic_graph.specs.declared.waiting.Request.{Request}
use Rattle.blic_graph.specs.Pairs.{IsGraph, IsInner, IsListed, IsPairOf, IsSide, PassesMost, StandsAt, level_of_pair, pair_at}
use Rattle.blic_graph.specs.Queue.{IsWaiting, Queue}
use Rattle.blic_graph.specs.Listing.{AddsPair, Found, IsBegun, IsGoing, IsListing, IsSideSoFar, Waits, first_at, second_at, side_of}
use Rattle.blic_graph.proofs.Answering.{IsPending, passes_most}
use Rattle.blic_graph.proofs.Closed.{HasRootAndChildren, closed_has_all, pair_of_under, under_both_none}
use Rattle.blic_graph.proofs.Listings.{grown_of, listing_add, new_pair_of}

abbrev empty : ℕ → ℕ → ℕ → Queue → Found
empty a b most queue = record { first = a; second = b; most = most; pairs = []; start = 0; queue = queue }

NoneOpen : ℕ → Request → Type 0
NoneOpen y r = ⊥

listing_none : (nodes : List Decision) (a b most : ℕ) (queue : Queue) → IsListing nodes (empty a b most queue) NoneOpen
unfolding NoneOpen
listing_none nodes a b most queue = record {
  found = λ k h. absurd (omega arith);
  rising = λ j k m h. absurd (omega arith);
  no_later = λ k h. absurd (omega arith);
  before_start = λ k m h. absurd (omega arith);
  once = λ j k m h. absurd (omega arith);
  sides = λ k bit h. absurd (omega arith);
  opened = λ y r v. absurd v;
  start_in = omega arith;
  few = omega arith;
}

begun_is : (l : Found) (a b most level : ℕ) → IsBegun l a b most level → l ≡ empty a b most l.queue
begun_is l a b most level e = λ i. record { first = e.first_is i; second = e.second_is i; most = e.most_is i; pairs = e.pairs i; start = e.start i; queue = l.queue }

pending_root : (nodes : List Decision) (a b most : ℕ) (queue : Queue) → IsInner nodes a → IsInner nodes b → queue.level ≡ level_of_pair nodes a b → IsPending nodes (empty a b most queue) a b
pending_root nodes a b most queue i j e = record { under = under_both_none nodes a b i.held j.held; first_inner = i; second_inner = j; level = e }

root_at : (nodes : List Decision) (a b most : ℕ) (queue : Queue) (new : Found) → IsInner nodes a → IsInner nodes b → queue.level ≡ level_of_pair nodes a b → ((y : ℕ) (r : Request) → IsWaiting queue y r → ⊥) → AddsPair nodes (empty a b most queue) new a b → IsGoing nodes new
unfolding NoneOpen
root_at nodes a b most queue new i j e none x = subst (IsGoing nodes) (sym x.added) (record {
  listing = listing_add nodes (empty a b most queue) new.queue x.pair NoneOpen (IsWaiting new.queue) (listing_none nodes a b most queue)
      (new_pair_of nodes (empty a b most queue) new a b NoneOpen (IsWaiting new.queue) (under_both_none nodes a b i.held j.held) x i j e
      (λ y r v. absurd v) (λ y r v. v)
      (λ y r v. elim ((grown_of nodes (empty a b most queue) new a b x).only y r v) [ inl w ↦ absurd (none y r w) | inr w ↦ inr w ]));
  root = record { in_range = omega arith; first = x.first; second = x.second };
})

-- The two functions are the first pair.
pub going_root : (nodes : List Decision) (a b most level : ℕ) (l new : Found) → IsBegun l a b most level → IsInner nodes a → IsInner nodes b → level ≡ level_of_pair nodes a b → AddsPair nodes l new a b → IsGoing nodes new
going_root nodes a b most level l new q i j e x =
    root_at nodes a b most l.queue new i j (q.level_is ∙ e) q.none (subst (λ z. AddsPair nodes z new a b) (begun_is l a b most level q) x)

pub full_root : (nodes : List Decision) (a b most level : ℕ) (l : Found) → IsBegun l a b most level → IsInner nodes a → IsInner nodes b → level ≡ level_of_pair nodes a b → l.most ≤ length l.pairs → PassesMost nodes a b most
full_root nodes a b most level l q i j e f =
    passes_most nodes (empty a b most l.queue) NoneOpen a b (listing_none nodes a b most l.queue) (pending_root nodes a b most l.queue i j (q.level_is ∙ e)) (record {
      missing = λ k m x. absurd (let r = x.in_range in omega arith);
      full = omega (arith, ap length q.pairs, q.most_is);
    })

pub operands_root : (nodes : List Decision) (a b most level : ℕ) (l new : Found) → IsBegun l a b most level → AddsPair nodes l new a b → (new.first ≡ a) × (new.second ≡ b) × (new.most ≡ most)
operands_root nodes a b most level l new q x = (ap (λ (z : Found). z.first) x.added ∙ q.first_is, ap (λ (z : Found). z.second) x.added ∙ q.second_is, ap (λ (z : Found). z.most) x.added ∙ q.most_is)

-- A side of which nothing waits.
settled_side : (pairs : List Pair) (W : Type 0) → (W → ⊥) → (side : Side) (r s : ℕ) → IsSideSoFar pairs W side r s → IsSide pairs side r s
settled_side pairs W none side r s (inl h) = h
settled_side pairs W none side r s (inr v) = absurd (none v)

abbrev Has : List Pair → ℕ → ℕ → Type 0
Has pairs r s = (k : ℕ) × StandsAt pairs k r s

side_listed : (pairs : List Pair) (side : Side) (r s : ℕ) → IsSide pairs side r s → 2 ≤ r → 2 ≤ s → Has pairs r s
side_listed pairs (Side.Pair j) r s h i m = (j, h)
side_listed pairs (Side.Done c d) r s h i m = absurd (let u = h.0 in let v = h.1 in let w = h.2 in omega arith)

ChildListed : List Decision → List Pair → Bool → ℕ → ℕ → ℕ → Type 0
ChildListed nodes pairs v r s x = 2 ≤ cofactor nodes r x v → 2 ≤ cofactor nodes s x v → Has pairs (cofactor nodes r x v) (cofactor nodes s x v)

pub graph_at_end : (nodes : List Decision) → IsCanonical nodes → (l : Found) → IsRef nodes l.first → IsRef nodes l.second → IsGoing nodes l → ((y : ℕ) (r : Request) → IsWaiting l.queue y r → ⊥) → IsGraph nodes l.first l.second l.pairs
unfolding ChildListed
graph_at_end nodes c l i j g none = record {
  listed = listed;
  complete = closed_has_all nodes c l.first l.second (Has l.pairs) i j closed;
  once = w.once;
  rising = λ m n d h. w.rising m n (omega arith) h;
  some = λ _ _. g.root.in_range;
  root = λ _. g.root;
}
  where
    w : IsListing nodes l (IsWaiting l.queue)
    w = g.listing

    side : (k : ℕ) (bit : Bool) → k < length l.pairs → IsSide l.pairs (side_of (pair_at l.pairs k) bit) (first_at nodes (pair_at l.pairs k) bit) (second_at nodes (pair_at l.pairs k) bit)
    side k bit h = settled_side l.pairs (Waits (IsWaiting l.queue) k bit) (λ v. none v.0 v.1 v.2) (side_of (pair_at l.pairs k) bit) (first_at nodes (pair_at l.pairs k) bit) (second_at nodes (pair_at l.pairs k) bit) (w.sides k bit h)

    listed : (k : ℕ) → k < length l.pairs → IsListed nodes l.first l.second l.pairs (pair_at l.pairs k)
    listed k h =
        let f = w.found k h in
        record {
          of = pair_of_under nodes l.first l.second (pair_at l.pairs k).first (pair_at l.pairs k).second f.of f.first_inner f.second_inner;
          level = f.level;
          low = side k false h;
          high = side k true h;
        }

    child : (r s x : ℕ) (v : Bool) → (k : ℕ) → StandsAt l.pairs k r s → x ≡ level_of_pair nodes r s → ChildListed nodes l.pairs v r s x
    child r s x v k h e =
        let p = pair_at l.pairs k in
        let level : p.level ≡ x = (w.found k h.in_range).level ∙ (ap₂ (level_of_pair nodes) h.first h.second ∙ sym e) in
        subst (λ z. ChildListed nodes l.pairs v z s x) h.first (subst (λ z. ChildListed nodes l.pairs v p.first z x) h.second
        (subst (λ z. ChildListed nodes l.pairs v p.first p.second z) level
        (λ m n. side_listed l.pairs (side_of p v) (first_at nodes p v) (second_at nodes p v) (side k v h.in_range) m n)))

    closed : HasRootAndChildren nodes l.first l.second (Has l.pairs)
    closed = record {
      root = λ m n. (0, g.root);
      child = λ r s x v has e m n. child r s x v has.0 has.1 e m n;
    }

-- The same, of the functions that the listing began with.
pub graph_of : (nodes : List Decision) → IsCanonical nodes → (a b : ℕ) (l : Found) → IsRef nodes a → IsRef nodes b → l.first ≡ a → l.second ≡ b → IsGoing nodes l → ((y : ℕ) (r : Request) → IsWaiting l.queue y r → ⊥) → IsGraph nodes a b l.pairs
graph_of nodes c a b l i j f s g none =
    subst (λ z. IsGraph nodes z b l.pairs) f (subst (λ z. IsGraph nodes l.first z l.pairs) s (graph_at_end nodes c l (subst (IsRef nodes) (sym f) i) (subst (IsRef nodes) (sym s) j) g none))

constant_part : (nodes : List Decision) → IsCanonical nodes → (a r : ℕ) (bits : List Bool) → IsRef nodes a → a < 2 → IsRef nodes r → 2 ≤ r → Same (function nodes r) (λ p. function nodes a (after bits p)) → ⊥
constant_part nodes c a r bits h l i m e =
    let q = same_ref nodes c r a i h (λ p. e p ∙ constant_stays nodes a l (after bits p) p) in
    omega arith

-- A constant has no pairs.
pub graph_none : (nodes : List Decision) → IsCanonical nodes → (a b : ℕ) → IsRef nodes a → IsRef nodes b → (a < 2) ⊎ (b < 2) → IsGraph nodes a b []
graph_none nodes c a b h i k = record {
  listed = λ n l. absurd (omega arith);
  complete = λ r s p. absurd (never k r s p);
  once = λ m n d l e. absurd (omega arith);
  rising = λ m n d l. absurd (omega arith);
  some = λ u v. absurd (small k u v);
  root = λ l. absurd (omega arith);
}
  where
    small : (a < 2) ⊎ (b < 2) → 2 ≤ a → 2 ≤ b → ⊥
    small (inl x) u v = omega arith
    small (inr x) u v = omega arith

    never : (a < 2) ⊎ (b < 2) → (r s : ℕ) → IsPairOf nodes a b r s → ⊥
    never (inl x) r s p = constant_part nodes c a r p.bits h x p.first_inner.held p.first_inner.inner p.first
    never (inr x) r s p = constant_part nodes c b s p.bits i x p.second_inner.held p.second_inner.inner p.second
