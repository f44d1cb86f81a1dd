-- The graphs so far and one more.
use Rattle.std.proofs.Common.{arith, ℕ, ◌≡◌, ◌≢◌, ◌∙◌, ◌+◌, ◌<◌, ◌≤◌, inl, inr, sym, ap, subst, List, length, get_or, Option, None}
use Rattle.std.proofs.lemmas.Bool.{cases_eq}
use Rattle.std.proofs.lemmas.List.{get_or_default}
use Rattle.blic_graph.specs.declared.pair.Pair.{Pair}
use Rattle.blic_solve.specs.Plan.{Solved, pair_count}
use Rattle.blic_solve.proofs.plan.Plan.largest_graph.Goals as goal
use Rattle.blic_solve.proofs.plan.Plan.largest_graph.Goals.{then-pairs-largest, else-pairs-largest}

at_most : (graphs : List (Option (List Pair))) (i largest more : ℕ) → ((k : ℕ) → k < i → pair_count (get_or graphs k None) ≤ largest) → largest ≤ more → pair_count (get_or graphs i None) ≤ more
    → (k : ℕ) → k < i + 1 → pair_count (get_or graphs k None) ≤ more
at_most graphs i largest more h l here k b = elim (cases_eq k i) [
  | inl e ↦ subst (λ j. pair_count (get_or graphs j None) ≤ more) (sym e) here
  | inr n ↦ (let ne : k ≢ i = n in omega (arith, h k (omega arith)))
]

-- a graph that is larger is the largest
larger : (graphs : List (Option (List Pair))) (i largest more : ℕ) → ((k : ℕ) → k < i → pair_count (get_or graphs k None) ≤ largest) → largest < more → pair_count (get_or graphs i None) ≡ more
    → ((k : ℕ) → k < i + 1 → pair_count (get_or graphs k None) ≤ more) × ((k : ℕ) × (pair_count (get_or graphs k None) ≡ more))
larger graphs i largest more h l here = (at_most graphs i largest more h (omega arith) (omega arith), (i, here))

pub loop-graph-preserved : goal.loop-graph-preserved
loop-graph-preserved c =
    let here : pair_count (get_or c.args.self.now.graphs c.loop-graph.graph-index None) ≡ c.count-pairs.result =
    ap (λ (p : Solved). pair_count (get_or p.graphs c.loop-graph.graph-index None)) (sym c.self.view_is)
    ∙ (ap pair_count (sym (c.graph-item.is ∙ (ap (λ items. get_or items c.loop-graph.graph-index c.graph-item.result) c.deref-graph-items.ensures.value
    ∙ get_or_default c.self.inside.graphs.items c.loop-graph.graph-index c.graph-item.result None
    (subst (λ items. c.loop-graph.graph-index < length items) c.deref-graph-items.ensures.value c.loop-graph-test.true)))) ∙ sym c.count-pairs.ensures) in
    elim c.if-pairs-largest.branch [
      | then-pairs-largest w ↦ subst (λ n. ((k : ℕ) → k < c.loop-graph.graph-index + 1 → pair_count (get_or c.args.self.now.graphs k None) ≤ n) × ((k : ℕ) × (pair_count (get_or c.args.self.now.graphs k None) ≡ n)))
          (sym w.largest-is) (larger c.args.self.now.graphs c.loop-graph.graph-index c.loop-graph.largest c.count-pairs.result c.loop-graph.invariant.0 w.if-pairs-largest.true here)
      | else-pairs-largest w ↦ subst (λ n. ((k : ℕ) → k < c.loop-graph.graph-index + 1 → pair_count (get_or c.args.self.now.graphs k None) ≤ n) × ((k : ℕ) × (pair_count (get_or c.args.self.now.graphs k None) ≡ n)))
          (sym w.largest-is) (at_most c.args.self.now.graphs c.loop-graph.graph-index c.loop-graph.largest c.loop-graph.largest c.loop-graph.invariant.0 (omega arith) (let l = w.if-pairs-largest.false in omega arith), c.loop-graph.invariant.1)
    ]
