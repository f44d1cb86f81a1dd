-- The walk that begins with the answer.
use Rattle.std.proofs.Common.{arith, ℕ, ◌≡◌, ◌+◌, ◌-◌, ◌<◌, sym, ◌∙◌, ap, List, [], length, get_or, set, Bool, get_or-set_same}
use Rattle.std.specs.Prelude.{sum_by}
use Rattle.blic_model.specs.declared.node.Node.{Node}
use Rattle.blic_model.specs.Circuit.{OrderedCircuit, root, below, table, free}
use Rattle.blic_model.specs.Counts.{claims}
use Rattle.blic_model.specs.Value.{bit}
use Rattle.blic_model.specs.Shape.{IsShaped}
use Rattle.blic_model.proofs.Shaped.{size_of}
use Rattle.blic_claims.specs.Claims.{claims_on, claims_on_entry, claim_at, no_claim}
use Rattle.blic_claims.specs.Places.{layout_of}
use Rattle.blic_claims.specs.Points.{PointTable, coordinate}
use Rattle.blic_claims.specs.Turns.{transcript}
use Rattle.blic_claims.proofs.Rows.{sum_apart}
use Rattle.blic_claims.proofs.SomeClaim.{some_claim_law}
use Rattle.blic_claims.proofs.Starting.{held_at_start, start_none}
use Rattle.blic_verifier.specs.Holding.{value_in, WalksTo}
use Rattle.blic_verifier.proofs.Passing.{value_place}

-- the root's claim is the answer
root_value : (nodes : List Node) (levels : ℕ) (answer : Bool) → (claim_at nodes levels (transcript nodes levels answer [] []) (root nodes) 0).value ≡ bit answer
unfolding claims_on transcript
root_value nodes levels answer =
    let T = transcript nodes levels answer [] [] in
    let e : root nodes - root nodes ≡ 0 = omega arith in
    ap (λ n. (get_or (claims_on_entry nodes levels T n (table (claims_on_entry nodes levels T) n)) 0 no_claim).value) e

-- the root's first claim has its place
pub root_place : (c : OrderedCircuit) → IsShaped c.nodes (length c.order)
    → sum_by (claims c.nodes) (below (root c.nodes)) < sum_by (claims c.nodes) (below (length c.nodes))
root_place c s =
    let some = some_claim_law c.nodes (length c.order) s (root c.nodes) (let z = size_of c.nodes (length c.order) s in omega (arith, z.0)) in
    let z = size_of c.nodes (length c.order) s in
    omega (arith, some, sum_apart (claims c.nodes) (root c.nodes) (length c.nodes) (omega (arith, z.0)))

pub answer_walk : (c : OrderedCircuit) (answer : Bool) (p : PointTable) (vs ws : List ℕ) → IsShaped c.nodes (length c.order)
    → p.rows ≡ (layout_of c).rows → length vs ≡ sum_by (claims c.nodes) (below (length c.nodes))
    → ws ≡ set vs (sum_by (claims c.nodes) (below (root c.nodes))) (bit answer) → WalksTo c answer [] [] (length c.nodes) p ws
answer_walk c answer p vs ws s ep long written =
    let nodes = c.nodes in
    let levels = length c.order in
    let size = size_of nodes levels s in
    let some : 0 < length nodes = size.0 in
    let T = transcript nodes levels answer [] [] in
    let start : sum_by (claims nodes) (below (root nodes)) + 0 ≡ sum_by (claims nodes) (below (root nodes)) = omega arith in
    let held : value_in p ws (root nodes) 0 ≡ bit answer =
    value_place c p ws (root nodes) 0 ep (omega arith)
    ∙ (ap (λ z. get_or ws z 0) start ∙ (ap (λ z. get_or z (sum_by (claims nodes) (below (root nodes))) 0) written
    ∙ get_or-set_same vs (sum_by (claims nodes) (below (root nodes))) (bit answer) 0 (omega (arith, root_place c s)))) in
    record {
      inside = omega arith;
      below = held_at_start nodes levels T (coordinate p) (value_in p ws) s (held ∙ sym (root_value nodes levels answer));
      clear = λ j h l. absurd (omega arith);
      reply_count = λ j e. start_none nodes (λ n. length (free nodes levels n) + 1) j e;
      draws_made = λ j e. start_none nodes (λ n. length (free nodes levels n)) j e;
      complete = λ e. absurd (omega arith);
      fitting = tt;
    }
