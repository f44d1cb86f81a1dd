-- The unique table: numbers from 0 on, each entered with a hash, and for each bucket of hashes a chain of its numbers, the newest first. Chains hold numbers plus one, and 0 for none.
use Rattle.std.specs.Prelude.{ℕ, ◌-◌, ◌^◌, bit_and, ◌<◌, ◌≤◌, ◌≡◌, ◌≢◌, List, length, slice_index_or}
use Rattle.blic_store.specs.declared.unique_table.Link.{Link}

-- the hash that number k was entered with
abbrev pub hash_at : List ℕ → ℕ → ℕ
hash_at hashes k = slice_index_or hashes k 0

-- k is the last of the numbers below n that were entered with the hash
pub record IsLast (hashes : List ℕ) (n hash k : ℕ) : Type 0 where
  pub below : k < n
  pub equal : hash_at hashes k ≡ hash
  pub last : (j : ℕ) → j < n → hash_at hashes j ≡ hash → j ≤ k

-- none of the numbers below n was entered with the hash
abbrev pub HasNone : List ℕ → ℕ → ℕ → Type 0
HasNone hashes n hash = (j : ℕ) → j < n → hash_at hashes j ≢ hash

-- the bucket of a hash, if there are `size`: near hashes have near buckets
unfoldable pub bucket : ℕ → ℕ → ℕ
bucket size hash = bit_and hash (size - 1)

abbrev pub link_at : List Link → ℕ → Link
link_at links k = slice_index_or links k (record { hash = 0; older = 0 })

abbrev pub bucket_at : ℕ → List Link → ℕ → ℕ
bucket_at size links k = bucket size (link_at links k).hash

abbrev pub older_at : List Link → ℕ → ℕ
older_at links k = (link_at links k).older

-- the items below n are in the chains of their buckets: `bucket_of` gives an item its bucket, and `older` its link
pub record IsChained (bucket_of older : ℕ → ℕ) (n : ℕ) (heads : List ℕ) : Type 0 where
  pub below_head : (k : ℕ) → k < n → k < slice_index_or heads (bucket_of k) 0
  pub below_link : (j k : ℕ) → j < k → k < n → bucket_of j ≡ bucket_of k → j < older k
  pub head_is_item : (b : ℕ) → slice_index_or heads b 0 ≤ n
  pub head_in_bucket : (b : ℕ) → 0 < slice_index_or heads b 0 → bucket_of (slice_index_or heads b 0 - 1) ≡ b
  pub link_is_older : (k : ℕ) → k < n → older k ≤ k
  pub link_in_bucket : (k : ℕ) → k < n → 0 < older k → bucket_of (older k - 1) ≡ bucket_of k

-- the first n links are in the chains of the buckets
abbrev pub HasChains : List ℕ → List Link → ℕ → Type 0
HasChains heads links n = IsChained (bucket_at (length heads) links) (older_at links) n heads

-- a number of buckets
pub record IsSize (n : ℕ) : Type 0 where
  pub some : 0 < n
  pub in_range : n ≤ 2 ^ 32

-- what the table keeps
pub record IsTable (heads : List ℕ) (links : List Link) : Type 0 where
  pub size : IsSize (length heads)
  pub chains : HasChains heads links (length links)
  pub few : length links < 2 ^ 32
