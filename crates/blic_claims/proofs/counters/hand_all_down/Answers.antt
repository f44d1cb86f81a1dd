use Rattle.std.proofs.Common.{arith, ◌≡◌, ◌∙◌, ◌+◌, ◌-◌, ap, length, get_or, rules}
use mathlib.Core.Path.{ap₂}
use Rattle.std.specs.Vec.{with_items}
use Rattle.std.proofs.lemmas.List.{length-set, map-id, with_items_is}
use Rattle.blic_model.specs.Counts.{handed_down}
use Rattle.blic_claims.specs.Counters.{counted_places}
use Rattle.blic_model.proofs.Shaped.{ordered_of, size_of}
use Rattle.blic_claims.proofs.Counting.{counted_start, counted_step, placed_step, counted_end, placed_end}
use Rattle.blic_claims.proofs.counters.hand_all_down.Goals as goal

pub loop-k-init : goal.loop-k-init
loop-k-init c =
    let size = size_of c.args.circuit.now.nodes (length c.args.circuit.now.order) c.is_within_limits.ensures.shaped in
    let h = c.in_ok-counts.ensures.items_if_clones_equal in
    record {
      inside = omega arith;
      counts_long = search rules;
      places_long = search rules;
      counts = counted_start c.args.circuit.now.nodes c.in_ok-counts.counts.items c.nodes-nodes.result _ (search rules) c.nodes-nodes.ensures (omega arith) (search rules);
      places = λ j l m. absurd (omega arith);
    }

pub hand_down-requires-clause-children : goal.hand_down-requires-clause-children
hand_down-requires-clause-children c = rw c.node.ensures (ordered_of c.args.circuit.now.nodes (length c.args.circuit.now.order) c.is_within_limits.ensures.shaped (c.loop-k.k - 1) (omega arith))

pub loop-k-preserved : goal.loop-k-preserved
loop-k-preserved c =
    let j = c.loop-k.k - 1 in
    let nodes = c.args.circuit.now.nodes in
    let ordered = ordered_of nodes (length c.args.circuit.now.order) c.is_within_limits.ensures.shaped in
    let w : (with_items c.loop-k.counts c.hand_down.new.counts).items ≡ c.hand_down.new.counts =
    with_items_is c.loop-k.counts c.hand_down.new.counts (omega (arith, c.loop-k.counts.ok)) in
    let each = c.in_ok-places-2.ensures.each in
    let places = c.in_ok-places-2.ensures.places in
    record {
      inside = omega arith;
      counts_long = ap length w ∙ omega arith;
      places_long = length-set c.loop-k.places.items j c.in_ok-places-2.field-0 ∙ c.loop-k.invariant.places_long;
      counts = λ a.
          ap (λ xs. get_or xs a 0) w
          ∙ counted_step nodes c.loop-k.counts.items c.hand_down.new.counts c.loop-k.k j ordered (omega arith) (omega arith) c.loop-k.invariant.counts
          (λ b. each b ∙ ap₂ (λ n xs. get_or xs b 0 + handed_down n (get_or xs j 0) b) c.node.ensures c.deref_mut.ensures.value) a;
      places =
          placed_step nodes c.loop-k.counts.items c.loop-k.places.items c.loop-k.k j c.in_ok-places-2.field-0 ordered (omega arith) (omega arith)
          c.loop-k.invariant.places_long c.loop-k.invariant.counts c.loop-k.invariant.places
          (places ∙ ap₂ (λ n xs. counted_places (λ b. get_or xs b 0) n) c.node.ensures c.deref_mut.ensures.value);
    }

pub returns-clause-counts : goal.returns-clause-counts
returns-clause-counts c =
    counted_end c.args.circuit.now.nodes c.loop-k.counts.items c.loop-k.k (ordered_of c.args.circuit.now.nodes (length c.args.circuit.now.order) c.is_within_limits.ensures.shaped)
    (omega arith) c.loop-k.invariant.counts_long c.loop-k.invariant.counts

pub returns-clause-places : goal.returns-clause-places
returns-clause-places c =
    map-id c.loop-k.places.items ∙ placed_end c.args.circuit.now.nodes c.loop-k.places.items c.loop-k.k (omega arith) c.loop-k.invariant.places_long c.loop-k.invariant.places
