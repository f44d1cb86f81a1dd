-- What an honest prover replies at each turn, by its own draws.
use Rattle.std.specs.Prelude.{ℕ, ◌+◌, Bool, ◌==◌, List, map, slice_index_or}
use Rattle.blic_model.specs.declared.node.Node.{Node}
use Rattle.blic_model.specs.declared.node.Node.TheVariants.{And, Or}
use Rattle.blic_model.specs.Circuit.{node_at, root, table}
use Rattle.blic_model.specs.Value.{value}
use Rattle.blic_model.specs.Reduction.{poly}
use Rattle.blic_claims.specs.Claims.{Transcript, claims_on, node_point, point_at, zero_point}
use Rattle.blic_claims.specs.Turns.{Turn, ForPolys, ForValues, Reply, Polys, Values, turns, transcript}

-- whether the root's value is 1
abbrev pub honest_answer : List Node → ℕ → Bool
honest_answer nodes levels = value nodes levels (root nodes) zero_point == 1

-- the operands of a binary node; another node has none
abbrev pub operands : Node → ℕ × ℕ
operands (And a b) = (a, b)
operands (Or a b) = (a, b)
operands _ = (0, 0)

-- the honest reply at a turn: the polynomial of each claim's point at that moment, or the operands' values at the node's point
abbrev pub honest_at : List Node → ℕ → Transcript → Turn → Reply
honest_at nodes levels T (ForPolys k i) = Polys (map (λ c. poly nodes levels k i (point_at nodes levels T k c (i + 1))) (claims_on nodes levels T k))
honest_at nodes levels T (ForValues k) =
    Values (value nodes levels (operands (node_at nodes k)).0 (node_point nodes levels T k)) (value nodes levels (operands (node_at nodes k)).1 (node_point nodes levels T k))

-- the first n honest replies under the draws: each follows from the draws and the replies before it
unfoldable pub honest_replies : List Node → ℕ → List ℕ → ℕ → List Reply
honest_replies nodes levels draws =
    table (λ t known. honest_at nodes levels (transcript nodes levels (honest_answer nodes levels) draws known) (slice_index_or (turns nodes levels) t (ForValues 0)))
