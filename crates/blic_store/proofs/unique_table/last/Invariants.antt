use Rattle.std.proofs.Common.{ℕ, ◌≡◌, ◌-◌, ◌<◌, ◌≤◌, length, map}
use Rattle.blic_store.specs.UniqueTable.{bucket, bucket_at, hash_at}
use Rattle.blic_store.proofs.unique_table.last.Given as goal

abbrev pub invariant-loop-at : goal.invariant-loop-at
invariant-loop-at l = record {
  in_chain : l.at ≤ l.from;
  in_bucket : 0 < l.at → bucket_at (length l.heads) l.links (l.at - 1) ≡ bucket (length l.heads) l.hash;
  older : (j : ℕ) → j < l.from → hash_at (map (λ x. x.hash) l.links) j ≡ l.hash → j < l.at;
}

abbrev pub decreases-loop-at : goal.decreases-loop-at
decreases-loop-at l = l.at
