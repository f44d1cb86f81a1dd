-- Lists of pairs that are appended to, and whose sides change.
use Rattle.std.proofs.Common.{arith, ℕ, ◌<◌, ◌≡◌, refl, sym, ◌∙◌, ap, List, [], ◌∷◌, ◌++◌, length, map, drop, Bool, true, false}
use Rattle.std.specs.Prelude.{set}
use Rattle.std.proofs.lemmas.List.{drop-map, get_or_append_left, length-set, length_push}
use Rattle.std.proofs.Math.Seq.{get_or-append_seam, map-set_same}
use Rattle.blic_graph.specs.declared.pair.Pair.{Pair}
use Rattle.blic_graph.specs.declared.pair.Side.{Side}
use Rattle.blic_graph.specs.Pairs.{StandsAt, pair_at}
use Rattle.blic_graph.specs.Listing.{IsEntered, hash_of_pair, with_side}

abbrev none : Pair
none = record { level = 0; first = 0; second = 0; low = Side.Done 0 0; high = Side.Done 0 0 }

pub pair-append : (pairs : List Pair) (x : Pair) (k : ℕ) → k < length pairs → pair_at (pairs ++ x ∷ []) k ≡ pair_at pairs k
pair-append pairs x k h = get_or_append_left pairs (x ∷ []) none k h

pub pair-last : (pairs : List Pair) (x : Pair) (k : ℕ) → k ≡ length pairs → pair_at (pairs ++ x ∷ []) k ≡ x
pair-last pairs x k h = ap (pair_at (pairs ++ x ∷ [])) h ∙ get_or-append_seam pairs x [] none

pub stands-append : (pairs : List Pair) (x : Pair) (k r s : ℕ) → StandsAt pairs k r s → StandsAt (pairs ++ x ∷ []) k r s
stands-append pairs x k r s h =
    let l = h.in_range in
    let len = length_push pairs x in
    let e = pair-append pairs x k l in
    record { in_range = omega arith; first = ap (λ (z : Pair). z.first) e ∙ h.first; second = ap (λ (z : Pair). z.second) e ∙ h.second }

-- The hashes of the pairs from a place on stay where a side is set.
hashes-set : (pairs : List Pair) (start k : ℕ) (y : Pair) → hash_of_pair y ≡ hash_of_pair (pair_at pairs k) → map hash_of_pair (drop start (set pairs k y)) ≡ map hash_of_pair (drop start pairs)
hashes-set pairs start k y e = sym (drop-map hash_of_pair start (set pairs k y)) ∙ (ap (drop start) (map-set_same hash_of_pair pairs k y none e) ∙ drop-map hash_of_pair start pairs)

pub entered-set : (pairs : List Pair) (start : ℕ) (hashes : List ℕ) (k : ℕ) (y : Pair) → IsEntered pairs start hashes → hash_of_pair y ≡ hash_of_pair (pair_at pairs k) → IsEntered (set pairs k y) start hashes
entered-set pairs start hashes k y t e =
    let len = length-set pairs k y in
    let few = t.few in
    let i = t.start_in in
    record {
      entered = t.entered ∙ sym (hashes-set pairs start k y e);
      start_in = omega arith;
      few = omega arith;
    }

pub hash-with : (x : Pair) (bit : Bool) (side : Side) → hash_of_pair (with_side x bit side) ≡ hash_of_pair x
hash-with x false side = refl
hash-with x true side = refl
