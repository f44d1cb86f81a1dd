-- The links of a table: which numbers have a hash, and links that are set.
use Rattle.std.proofs.Common.{arith, ℕ, ◌+◌, ◌<◌, ◌≤◌, ◌≡◌, ◌≢◌, refl, sym, ◌∙◌, ap, subst, List, length, get_or, map}
use Rattle.std.specs.Prelude.{set, Option, Some, None, IfSome, IfNone}
use Rattle.std.proofs.lemmas.List.{get_or-set_other, length-map, length-set}
use Rattle.std.proofs.lemmas.Grind.{get_or-set_at}
use Rattle.std.proofs.lemmas.Option.{IfSome_then}
use Rattle.std.proofs.Math.ListN.{get_or-map}
use Rattle.std.proofs.Math.Seq.{map-set_same}
use Rattle.blic_store.specs.declared.unique_table.Link.{Link}
use Rattle.blic_store.specs.UniqueTable.{IsChained, HasChains, HasNone, IsLast, bucket, bucket_at, hash_at, link_at, older_at}
use Rattle.blic_store.proofs.Chains.{chained_same, chained_more}

abbrev none : Link
none = record { hash = 0; older = 0 }

pub hash_at-map : (links : List Link) (k : ℕ) → hash_at (map (λ l. l.hash) links) k ≡ (link_at links k).hash
hash_at-map links k = get_or-map (λ (l : Link). l.hash) links k (record { hash = 0; older = 0 })

abbrev linked : List ℕ → List Link → ℕ → ℕ → Link
linked heads links n b = record { hash = (link_at links n).hash; older = get_or heads b 0 }

pub hashes-chain : (heads : List ℕ) (links : List Link) (n b : ℕ) → map (λ (l : Link). l.hash) (set links n (linked heads links n b)) ≡ map (λ (l : Link). l.hash) links
hashes-chain heads links n b = map-set_same (λ (l : Link). l.hash) links n (linked heads links n b) (record { hash = 0; older = 0 }) refl

pub chains-chain : (heads : List ℕ) (links : List Link) (n b v : ℕ) → HasChains heads links n → b ≡ bucket_at (length heads) links n → b < length heads → n < length links → v ≡ n + 1
    → HasChains (set heads b v) (set links n (linked heads links n b)) (n + 1)
chains-chain heads links n b v t e lb ln q =
    subst (λ z. HasChains (set heads b z) (set links n (linked heads links n b)) (n + 1)) (sym q)
    (subst (λ z. IsChained (bucket_at z news) (older_at news) (n + 1) (set heads b (n + 1))) (sym (length-set heads b (n + 1)))
    (chained_more (bucket_at (length heads) news) (older_at news) n b heads
    (chained_same (bucket_at (length heads) links) (bucket_at (length heads) news) (older_at links) (older_at news) n heads
    (λ k h. ap (bucket (length heads)) (same k))
    (λ k h. ap (λ (l : Link). l.older) (get_or-set_other links n k (linked heads links n b) none (let w : k ≢ n = omega arith in w))) t)
    (e ∙ sym (ap (bucket (length heads)) (same n))) lb
    (ap (λ (l : Link). l.older) (get_or-set_at links n n (linked heads links n b) none refl ln))))
  where
    news : List Link
    news = set links n (linked heads links n b)

    same : (k : ℕ) → (link_at news k).hash ≡ (link_at links k).hash
    same k = sym (hash_at-map news k) ∙ (ap (λ z. hash_at z k) (hashes-chain heads links n b) ∙ hash_at-map links k)

-- What a walk from a link finds, where all numbers below n with the hash stand before it.
some_from : (hashes : List ℕ) (n from hash : ℕ) (o : Option ℕ) → from ≤ n → ((j : ℕ) → j < n → hash_at hashes j ≡ hash → j < from) → IfSome o (IsLast hashes from hash) → IfSome o (IsLast hashes n hash)
some_from hashes n from hash o l all s = IfSome_then o s (λ k x. record {
  below = let b = x.below in omega arith;
  equal = x.equal;
  last = λ j h e. x.last j (all j h e) e;
})

none_from : (hashes : List ℕ) (n from hash : ℕ) (o : Option ℕ) → ((j : ℕ) → j < n → hash_at hashes j ≡ hash → j < from) → IfNone o (HasNone hashes from hash) → IfNone o (HasNone hashes n hash)
none_from hashes n from hash (Some k) all s = s
none_from hashes n from hash None all s = λ j h e. s j (all j h e) e

abbrev hashes_of : List Link → List ℕ
hashes_of links = map (λ (l : Link). l.hash) links

before_head : (heads : List ℕ) (links : List Link) (hash : ℕ) → HasChains heads links (length links) → (j : ℕ) → j < length links → hash_at (hashes_of links) j ≡ hash → j < get_or heads (bucket (length heads) hash) 0
before_head heads links hash t j l e =
    subst (λ z. j < get_or heads (bucket (length heads) z) 0) (sym (hash_at-map links j) ∙ e) (t.below_head j l)

before_link : (heads : List ℕ) (links : List Link) (k : ℕ) → HasChains heads links (length links) → k < length links → (j : ℕ) → j < k → hash_at (hashes_of links) j ≡ hash_at (hashes_of links) k → j < older_at links k
before_link heads links k t h j l e =
    t.below_link j k l h (ap (bucket (length heads)) (sym (hash_at-map links j) ∙ (e ∙ hash_at-map links k)))

-- The walk from the head of a hash's bucket.
pub newest_some : (heads : List ℕ) (links : List Link) (hash from : ℕ) (o : Option ℕ) → HasChains heads links (length links) → from ≡ get_or heads (bucket (length heads) hash) 0
    → IfSome o (IsLast (hashes_of links) from hash) → IfSome o (IsLast (hashes_of links) (length (hashes_of links)) hash)
newest_some heads links hash from o t e s =
    let l = length-map links (λ (l : Link). l.hash) in
    let h = t.head_is_item (bucket (length heads) hash) in
    some_from (hashes_of links) (length (hashes_of links)) from hash o (omega arith)
    (λ j i q. let b = before_head heads links hash t j (omega arith) q in omega arith) s

pub newest_none : (heads : List ℕ) (links : List Link) (hash from : ℕ) (o : Option ℕ) → HasChains heads links (length links) → from ≡ get_or heads (bucket (length heads) hash) 0
    → IfNone o (HasNone (hashes_of links) from hash) → IfNone o (HasNone (hashes_of links) (length (hashes_of links)) hash)
newest_none heads links hash from o t e s =
    let l = length-map links (λ (l : Link). l.hash) in
    none_from (hashes_of links) (length (hashes_of links)) from hash o
    (λ j i q. let b = before_head heads links hash t j (omega arith) q in omega arith) s

-- The walk from a number's link.
pub older_some : (heads : List ℕ) (links : List Link) (k hash from : ℕ) (o : Option ℕ) → HasChains heads links (length links) → k < length links → hash ≡ (link_at links k).hash → from ≡ older_at links k
    → IfSome o (IsLast (hashes_of links) from hash) → IfSome o (IsLast (hashes_of links) k (hash_at (hashes_of links) k))
older_some heads links k hash from o t h q e s =
    let older = t.link_is_older k h in
    some_from (hashes_of links) k from (hash_at (hashes_of links) k) o (omega arith)
    (λ j i w. let b = before_link heads links k t h j i w in omega arith)
    (subst (λ z. IfSome o (IsLast (hashes_of links) from z)) (q ∙ sym (hash_at-map links k)) s)

pub older_none : (heads : List ℕ) (links : List Link) (k hash from : ℕ) (o : Option ℕ) → HasChains heads links (length links) → k < length links → hash ≡ (link_at links k).hash → from ≡ older_at links k
    → IfNone o (HasNone (hashes_of links) from hash) → IfNone o (HasNone (hashes_of links) k (hash_at (hashes_of links) k))
older_none heads links k hash from o t h q e s =
    none_from (hashes_of links) k from (hash_at (hashes_of links) k) o
    (λ j i w. let b = before_link heads links k t h j i w in omega arith)
    (subst (λ z. IfNone o (HasNone (hashes_of links) from z)) (q ∙ sym (hash_at-map links k)) s)
