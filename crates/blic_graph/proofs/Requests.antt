-- Queues in which the sides of a new pair are asked for.
use Rattle.std.proofs.Common.{arith, ℕ, ◌+◌, ◌*◌, ◌/◌, ◌%◌, ◌<◌, ◌≤◌, ◌≡◌, refl, sym, ◌∙◌, ap, subst, ◌⊎◌, inl, inr, List, Bool, true, false}
use Rattle.std.specs.Prelude.{min, ◌==◌}
use Rattle.std.proofs.lemmas.Bool.Decides.{nat_tests}
use Rattle.blic_store.specs.declared.decision.Decision.{Decision}
use Rattle.blic_graph.specs.declared.pair.Pair.{Pair}
use Rattle.blic_graph.specs.declared.pair.Side.{Side}
use Rattle.blic_graph.specs.declared.waiting.Request.{Request}
use Rattle.blic_graph.specs.Pairs.{level_of_pair}
use Rattle.blic_graph.specs.Queue.{IsWaiting, Queue, bit_of, pair_of}
use Rattle.blic_graph.specs.Listing.{IsAsked, first_at, second_at, side_of}

-- Request r is for one side of pair n, which is x.
pub record IsRequest (nodes : List Decision) (x : Pair) (n y : ℕ) (r : Request) (bit : Bool) : Type 0 where
  pub pair_is : pair_of r ≡ n
  pub bit_is : bit_of r ≡ bit
  pub first : r.first ≡ first_at nodes x bit
  pub second : r.second ≡ second_at nodes x bit
  pub first_inner : 2 ≤ r.first
  pub second_inner : 2 ≤ r.second
  pub level : y ≡ level_of_pair nodes r.first r.second

-- A side is two functions, one of them constant.
pub record IsDone (side : Side) (c d : ℕ) : Type 0 where
  pub is : side ≡ Side.Done c d
  pub constant : min c d < 2

-- A queue with what one side asks for.
pub record IsStep (nodes : List Decision) (old new : Queue) (x : Pair) (n : ℕ) (bit : Bool) : Type 0 where
  pub level : new.level ≡ old.level
  pub kept : (y : ℕ) (r : Request) → IsWaiting old y r → IsWaiting new y r
  pub side : IsDone (side_of x bit) (first_at nodes x bit) (second_at nodes x bit) ⊎ ((y : ℕ) × (r : Request) × IsWaiting new y r × IsRequest nodes x n y r bit)
  pub only : (y : ℕ) (r : Request) → IsWaiting new y r → IsWaiting old y r ⊎ IsRequest nodes x n y r bit

abbrev code : Bool → ℕ
code false = 0
code true = 1

half : (n : ℕ) (bit : Bool) → (2 * n + code bit) / 2 ≡ n
half n false = omega arith
half n true = omega arith

odd : (n : ℕ) (bit : Bool) → ((2 * n + code bit) % 2 == 1) ≡ bit
odd n false = let e : (2 * n + 0) % 2 ≡ 0 = omega arith in grind (arith, nat_tests)
odd n true = let e : (2 * n + 1) % 2 ≡ 1 = omega arith in grind (arith, nat_tests)

request_is : (nodes : List Decision) (x : Pair) (n y : ℕ) (q : Request) (bit : Bool) → 2 ≤ first_at nodes x bit → 2 ≤ second_at nodes x bit → y ≡ level_of_pair nodes (first_at nodes x bit) (second_at nodes x bit)
    → q ≡ record { first = first_at nodes x bit; second = second_at nodes x bit; place = 2 * n + code bit } → IsRequest nodes x n y q bit
request_is nodes x n y q bit i j e s = subst (λ (r : Request). IsRequest nodes x n y r bit) (sym s) (record {
  pair_is = half n bit;
  bit_is = odd n bit;
  first = refl;
  second = refl;
  first_inner = i;
  second_inner = j;
  level = e;
})

step : (nodes : List Decision) (old new : Queue) (x : Pair) (n : ℕ) (bit : Bool) → IsAsked nodes old new (2 * n + code bit) (first_at nodes x bit) (second_at nodes x bit) (side_of x bit) → IsStep nodes old new x n bit
step nodes old new x n bit (IsAsked.constant m s e) = record {
  level = ap (λ (q : Queue). q.level) e;
  kept = λ y r w. subst (λ z. IsWaiting z y r) (sym e) w;
  side = inl (record { is = s; constant = m });
  only = λ y r w. inl (subst (λ z. IsWaiting z y r) e w);
}
step nodes old new x n bit (IsAsked.inner i j a) =
    let y = level_of_pair nodes (first_at nodes x bit) (second_at nodes x bit) in
    let q : Request = record { first = first_at nodes x bit; second = second_at nodes x bit; place = 2 * n + code bit } in
    record {
      level = a.level;
      kept = a.kept;
      side = inr (y, q, a.added, request_is nodes x n y q bit i j refl refl);
      only = λ z r w. elim (a.only z r w) [ inl v ↦ inl v | inr e ↦ inr (request_is nodes x n z r bit i j e.0 e.1) ];
    }

-- A queue with what both sides of a pair ask for.
pub record IsGrown (nodes : List Decision) (old new : Queue) (x : Pair) (n : ℕ) : Type 0 where
  pub level : new.level ≡ old.level
  pub kept : (y : ℕ) (r : Request) → IsWaiting old y r → IsWaiting new y r
  pub side : (bit : Bool) → IsDone (side_of x bit) (first_at nodes x bit) (second_at nodes x bit) ⊎ ((y : ℕ) × (r : Request) × IsWaiting new y r × IsRequest nodes x n y r bit)
  pub only : (y : ℕ) (r : Request) → IsWaiting new y r → IsWaiting old y r ⊎ ((bit : Bool) × IsRequest nodes x n y r bit)

pub grown : (nodes : List Decision) (old mid new : Queue) (x : Pair) (n : ℕ) → IsAsked nodes old mid (2 * n + 0) (first_at nodes x false) (second_at nodes x false) x.low → IsAsked nodes mid new (2 * n + 1) (first_at nodes x true) (second_at nodes x true) x.high → IsGrown nodes old new x n
grown nodes old mid new x n a b = record {
  level = high.level ∙ low.level;
  kept = λ y r w. high.kept y r (low.kept y r w);
  side = side;
  only = λ y r w. elim (high.only y r w) [
    | inl v ↦ elim (low.only y r v) [ inl u ↦ inl u | inr q ↦ inr (false, q) ]
    | inr q ↦ inr (true, q)
  ];
}
  where
    low : IsStep nodes old mid x n false
    low = step nodes old mid x n false a

    high : IsStep nodes mid new x n true
    high = step nodes mid new x n true b

    side : (bit : Bool) → IsDone (side_of x bit) (first_at nodes x bit) (second_at nodes x bit) ⊎ ((y : ℕ) × (r : Request) × IsWaiting new y r × IsRequest nodes x n y r bit)
    side false = elim low.side [ inl d ↦ inl d | inr v ↦ inr (v.0, v.1, high.kept v.0 v.1 v.2, v.3) ]
    side true = high.side
