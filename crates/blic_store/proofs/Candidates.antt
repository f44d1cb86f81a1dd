-- The walk over the items with one hash: the older ones of a chain are asked whether they are wanted, until one is or none is left.
use Rattle.std.proofs.Common.{arith, ℕ, ◌+◌, ◌<◌, ◌≤◌, ◌≡◌, ◌≢◌, sym, ◌∙◌, ap, subst, List, length, map, get_or}
use Rattle.std.specs.Prelude.{Option, Some, None, IfSome, IfNone}
use Rattle.std.proofs.lemmas.List.{get_or-map, length-map}
use Rattle.blic_store.specs.UniqueTable.{IsLast, HasNone, hash_at}

abbrev pub steps_left : Option ℕ → ℕ
steps_left (Some k) = k + 1
steps_left None = 0

abbrev pub HasHash : (ℕ → ℕ) → ℕ → Option ℕ → Type 0
HasHash hash_of hash (Some k) = hash_of k ≡ hash
HasHash hash_of hash None = Unit {0}

-- Of n items, each one that is wanted is at or before the candidate.
pub record IsCandidate (n : ℕ) (hash_of : ℕ → ℕ) (wanted : ℕ → Type 0) (hash : ℕ) (o : Option ℕ) : Type 0 where
  pub in_range : steps_left o ≤ n
  pub has_hash : HasHash hash_of hash o
  pub before : (k : ℕ) → k < n → wanted k → k < steps_left o

-- the n items are entered with their hashes
pub record IsHashed (n : ℕ) (hash_of : ℕ → ℕ) (hashes : List ℕ) : Type 0 where
  pub long : length hashes ≡ n
  pub entered : (k : ℕ) → k < n → hash_at hashes k ≡ hash_of k

pub hashed_map : {X : Type 0} (f : X → ℕ) (xs : List X) (x : X) (hashes : List ℕ) → hashes ≡ map f xs → IsHashed (length xs) (λ k. f (get_or xs k x)) hashes
hashed_map f xs x hashes e = record {
  long = ap length e ∙ length-map xs f;
  entered = λ k l. ap (λ z. hash_at z k) e ∙ get_or-map f xs k x 0 l;
}

-- each item that is wanted has the hash
abbrev pub HaveHash : (ℕ → ℕ) → (ℕ → Type 0) → ℕ → Type 0
HaveHash hash_of wanted hash = (k : ℕ) → wanted k → hash_of k ≡ hash

-- What the table says of the items below a bound.
candidate_below : (n : ℕ) (hash_of : ℕ → ℕ) (wanted : ℕ → Type 0) (hash : ℕ) (hashes : List ℕ) (most : ℕ) (o : Option ℕ) → IsHashed n hash_of hashes → HaveHash hash_of wanted hash
    → most ≤ n → ((k : ℕ) → k < n → wanted k → k < most) → IfSome o (IsLast hashes most hash) → IfNone o (HasNone hashes most hash) → IsCandidate n hash_of wanted hash o
candidate_below n hash_of wanted hash hashes most (Some k) table same l below some none =
    let b = some.below in
    record {
      in_range = omega arith;
      has_hash = sym (table.entered k (omega arith)) ∙ some.equal;
      before = λ j h w. let last = some.last j (below j h w) (table.entered j h ∙ same j w) in omega arith;
    }
candidate_below n hash_of wanted hash hashes most None table same l below some none = record {
  in_range = omega arith;
  has_hash = tt;
  before = λ j h w. absurd (none j (below j h w) (table.entered j h ∙ same j w));
}

pub candidate_newest : (n : ℕ) (hash_of : ℕ → ℕ) (wanted : ℕ → Type 0) (hash : ℕ) (hashes : List ℕ) (own : ℕ) (o : Option ℕ) → IsHashed n hash_of hashes → HaveHash hash_of wanted hash
    → own ≡ hash → IfSome o (IsLast hashes (length hashes) own) → IfNone o (HasNone hashes (length hashes) own) → IsCandidate n hash_of wanted hash o
candidate_newest n hash_of wanted hash hashes own o table same e some none =
    let long = table.long in
    candidate_below n hash_of wanted hash hashes (length hashes) o table same (omega arith) (λ k l w. omega arith)
    (subst (λ z. IfSome o (IsLast hashes (length hashes) z)) e some) (subst (λ z. IfNone o (HasNone hashes (length hashes) z)) e none)

-- A candidate that isn't wanted leaves those before it.
pub candidate_older : (n : ℕ) (hash_of : ℕ → ℕ) (wanted : ℕ → Type 0) (hash : ℕ) (hashes : List ℕ) (k : ℕ) (o : Option ℕ) → IsHashed n hash_of hashes → HaveHash hash_of wanted hash
    → IsCandidate n hash_of wanted hash (Some k) → (wanted k → ⊥) → IfSome o (IsLast hashes k (hash_at hashes k)) → IfNone o (HasNone hashes k (hash_at hashes k)) → IsCandidate n hash_of wanted hash o
candidate_older n hash_of wanted hash hashes k o table same c unwanted some none =
    let l = c.in_range in
    let e : hash_at hashes k ≡ hash = table.entered k (omega arith) ∙ c.has_hash in
    candidate_below n hash_of wanted hash hashes k o table same (omega arith)
    (λ j h w. let b = c.before j h w in
    let other : j ≢ k = λ (z : j ≡ k). unwanted (subst wanted z w) in omega arith)
    (subst (λ z. IfSome o (IsLast hashes k z)) e some) (subst (λ z. IfNone o (HasNone hashes k z)) e none)
