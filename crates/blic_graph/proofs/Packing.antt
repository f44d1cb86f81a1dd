-- Pairs that are packed.
use Rattle.std.proofs.Common.{ℕ, zero, suc, ◌<◌, ◌≡◌, refl, sym, ◌∙◌, ap, List, [], ◌∷◌, length, map, Bool}
use Rattle.std.specs.Prelude.{set}
use Rattle.std.proofs.lemmas.Bool.{cond_below}
use Rattle.std.proofs.lemmas.List.{get_or-map}
use Rattle.blic_graph.specs.declared.packed.Packed.{Packed}
use Rattle.blic_graph.specs.declared.pair.Side.{Side}
use Rattle.blic_graph.specs.Listing.{with_side}
use Rattle.blic_graph.specs.Packing.{packed_at, side_from, unpacked}
use Rattle.blic_graph.specs.Pairs.{pair_at}

-- The code of a pair's number is the number.
pub side_from-pair : (n : ℕ) → n < 536870912 → side_from n ≡ Side.Pair n
side_from-pair n h = sym (cond_below n 536870912 (Side.Pair n) _ h)

map-set : (items : List Packed) (k : ℕ) (y : Packed) → map unpacked (set items k y) ≡ set (map unpacked items) k (unpacked y)
map-set [] k y = refl
map-set (x ∷ items) zero y = refl
map-set (x ∷ items) (suc k) y = ap (λ z. unpacked x ∷ z) (map-set items k y)

pub pair-unpacked : (items : List Packed) (k : ℕ) → k < length items → pair_at (map unpacked items) k ≡ unpacked (packed_at items k)
pair-unpacked items k h =
    get_or-map unpacked items k (record { level = 0; first = 0; second = 0; low = 0; high = 0 }) (record { level = 0; first = 0; second = 0; low = Side.Done 0 0; high = Side.Done 0 0 }) h

-- A side of a packed pair is set.
pub side-set : (items : List Packed) (k : ℕ) (x y : Packed) (bit : Bool) (side : Side) → k < length items → x ≡ packed_at items k → unpacked y ≡ with_side (unpacked x) bit side
    → map unpacked (set items k y) ≡ set (map unpacked items) k (with_side (pair_at (map unpacked items) k) bit side)
side-set items k x y bit side h e q =
    map-set items k y ∙ ap (λ z. set (map unpacked items) k z) (q ∙ ap (λ z. with_side z bit side) (ap unpacked e ∙ sym (pair-unpacked items k h)))
