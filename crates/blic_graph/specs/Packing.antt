-- Private: pairs in twenty bytes: a side is the number of a pair, or by its top bits which of two functions is constant, and the other one.
use Rattle.std.specs.Prelude.{ℕ, ◌-◌, ◌<◌, cond, min, List, slice_index_or, nat_lt}
use Rattle.blic_graph.specs.declared.pair.Pair.{Pair}
use Rattle.blic_graph.specs.declared.pair.Side.{Side}
use Rattle.blic_graph.specs.declared.packed.Packed.{Packed}

-- the side of a code
abbrev pub side_from : ℕ → Side
side_from code =
    cond (nat_lt code 536870912) (Side.Pair code)
    (cond (nat_lt code 1073741824) (Side.Done 0 (code - 536870912))
    (cond (nat_lt code 1610612736) (Side.Done 1 (code - 1073741824))
    (cond (nat_lt code 2147483648) (Side.Done (code - 1610612736) 0)
    (Side.Done (code - 2147483648) 1))))

-- the pair that is packed
abbrev pub unpacked : Packed → Pair
unpacked p = record { level = p.level; first = p.first; second = p.second; low = side_from p.low; high = side_from p.high }

abbrev pub packed_at : List Packed → ℕ → Packed
packed_at pairs k = slice_index_or pairs k (record { level = 0; first = 0; second = 0; low = 0; high = 0 })

-- no side of two functions that are a pair is packed
abbrev pub IsPackable : Side → Type 0
IsPackable (Side.Pair k) = Unit {0}
IsPackable (Side.Done r s) = min r s < 2
