-- Where a list has all pairs, no more than it has are different.
use Rattle.std.proofs.Common.{arith, ℕ, ◌≤◌, sym, ◌∙◌, List, length, get_or}
use mathlib.Core.Path.{ap₂}
use Rattle.blic_store.specs.declared.decision.Decision.{Decision}
use Rattle.blic_store.proofs.Pigeonhole.{le_from_images}
use Rattle.blic_graph.specs.declared.pair.Pair.{Pair}
use Rattle.blic_graph.specs.Pairs.{IsGraph, PassesMost, StandsAt}

pub no_room : (nodes : List Decision) (a b most : ℕ) (pairs : List Pair) → IsGraph nodes a b pairs → length pairs ≤ most → PassesMost nodes a b most → ⊥
no_room nodes a b most pairs g l p =
    let few : length p.some ≤ length pairs = le_from_images (length p.some) (length pairs) (λ k y. StandsAt pairs y (get_or p.some k (0, 0)).0 (get_or p.some k (0, 0)).1)
    (λ k h. let x = g.complete (get_or p.some k (0, 0)).0 (get_or p.some k (0, 0)).1 (p.each k h) in record { place = x.0; below = x.1.in_range; related = x.1 })
    (λ j k y d h s t. p.once j k d h (ap₂ (λ (u v : ℕ). (u, v)) (sym s.first ∙ t.first) (sym s.second ∙ t.second))) in
    let more = p.more in
    omega arith
