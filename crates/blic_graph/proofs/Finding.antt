-- The search for a pair among those from a place on.
use Rattle.std.proofs.Common.{arith, ℕ, ◌+◌, ◌-◌, ◌≤◌, ◌≡◌, ◌≢◌, ◌∙◌, ap, List, length, map, drop}
use Rattle.std.specs.Prelude.{false, ◌==◌, Option, None}
use Rattle.std.proofs.lemmas.Bool.Decides.{nat_tests}
use Rattle.std.proofs.lemmas.List.{get_or-drop, length-drop}
use mathlib.Core.Path.{ap₂}
use Rattle.blic_store.proofs.Candidates.{IsCandidate, IsHashed, hashed_map, steps_left}
use Rattle.blic_graph.specs.declared.pair.Pair.{Pair}
use Rattle.blic_graph.specs.declared.pair.Side.TheVariants as Side
use Rattle.blic_graph.specs.Pairs.{StandsAt, pair_at}
use Rattle.blic_graph.specs.Listing.{IsMissing, hash_of, hash_of_pair}

pub pair-drop : (pairs : List Pair) (start k : ℕ) → pair_at (drop start pairs) k ≡ pair_at pairs (start + k)
pair-drop pairs start k = get_or-drop start pairs k (record { level = 0; first = 0; second = 0; low = Side.Done 0 0; high = Side.Done 0 0 })

abbrev pub hash_at_place : List Pair → ℕ → ℕ
hash_at_place pairs k = hash_of_pair (pair_at pairs k)

abbrev pub IsAt : List Pair → ℕ → ℕ → ℕ → Type 0
IsAt pairs r s k = StandsAt pairs k r s

-- each place of r and s is at or before the candidate
abbrev pub IsCandidateOf : List Pair → ℕ → ℕ → Option ℕ → Type 0
IsCandidateOf pairs r s = IsCandidate (length pairs) (hash_at_place pairs) (IsAt pairs r s) (hash_of r s)

pub pairs_hashed : (pairs : List Pair) (hashes : List ℕ) → hashes ≡ map hash_of_pair pairs → IsHashed (length pairs) (hash_at_place pairs) hashes
pairs_hashed pairs hashes e = hashed_map hash_of_pair pairs (record { level = 0; first = 0; second = 0; low = Side.Done 0 0; high = Side.Done 0 0 }) hashes e

pub hash_here : (pairs : List Pair) (r s k : ℕ) → IsAt pairs r s k → hash_at_place pairs k ≡ hash_of r s
hash_here pairs r s k x = ap₂ hash_of x.first x.second

-- The pairs from a place on.
stands-drop : (pairs : List Pair) (start k r s : ℕ) → start ≤ k → StandsAt pairs k r s → StandsAt (drop start pairs) (k - start) r s
stands-drop pairs start k r s l x =
    let len = length-drop start pairs in
    let i = x.in_range in
    let e : start + (k - start) ≡ k = omega arith in
    record {
      in_range = omega arith;
      first = ap (λ (z : Pair). z.first) (pair-drop pairs start (k - start)) ∙ (ap (λ z. (pair_at pairs z).first) e ∙ x.first);
      second = ap (λ (z : Pair). z.second) (pair-drop pairs start (k - start)) ∙ (ap (λ z. (pair_at pairs z).second) e ∙ x.second);
    }

pub missing_at_end : (pairs : List Pair) (start r s : ℕ) (o : Option ℕ) → o ≡ None → IsCandidateOf (drop start pairs) r s o → IsMissing pairs start r s
missing_at_end pairs start r s o e c k l x =
    let here = stands-drop pairs start k r s l x in
    let b = c.before (k - start) here.in_range here in
    let z = ap steps_left e in
    omega arith

pub unequal_numbers : (a b : ℕ) → (a == b) ≡ false → a ≢ b
unequal_numbers a b e = grind (arith, nat_tests)
