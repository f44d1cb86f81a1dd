use Rattle.std.proofs.Common.{arith, ◌-◌, ◌∙◌}
use Rattle.std.proofs.lemmas.Result.{err_from_is_err_and}
use Rattle.blic_apply.proofs.Combining.{IsAsked, asked, turn_adds, turn_next}
use Rattle.blic_apply.proofs.operation.combine.Goals as goal

asked_here : (c : goal.After-level) → IsAsked c.args.op c.args.store.now.nodes c.up.store.nodes c.args.graph.now (c.up.k - 1) c.level.result c.result-low.result c.result-high.result
asked_here c =
    asked c.args.op c.args.store.now.nodes c.up.store.nodes c.args.a c.args.b c.args.graph.now c.up.results.items c.up.k c.level.result c.result-low.result c.result-high.result
    c.up.invariant.turn (omega arith) c.level.ensures c.level.type_inv
    c.children-low.result.0 c.deref.result.now c.children-low.ensures.low c.deref.ensures.value c.result-low.ensures
    c.children-low.result.1 c.deref-in-up.result.now c.children-low.ensures.high c.deref-in-up.ensures.value c.result-high.ensures

pub make-requires-clause-lo_held : goal.make-requires-clause-lo_held
make-requires-clause-lo_held c = (asked_here c).low_half.held

pub make-requires-clause-hi_held : goal.make-requires-clause-hi_held
make-requires-clause-hi_held c = (asked_here c).high_half.held

pub make-requires-clause-above_lo : goal.make-requires-clause-above_lo
make-requires-clause-above_lo c = let w = asked_here c in let e = w.level_is in let l = w.low_half.below in omega arith

pub make-requires-clause-above_hi : goal.make-requires-clause-above_hi
make-requires-clause-above_hi c = let w = asked_here c in let e = w.level_is in let l = w.high_half.below in omega arith

pub up-preserved : goal.up-preserved
up-preserved c =
    let here = asked c.args.op c.args.store.now.nodes c.up.store.nodes c.args.a c.args.b c.args.graph.now c.up.results.items c.up.k c.level.result c.result-low.result c.result-high.result
    c.up.invariant.turn (omega arith) c.level.ensures c.level.type_inv
    c.children-low.result.0 c.deref.result.now c.children-low.ensures.low c.deref.ensures.value c.result-low.ensures
    c.children-low.result.1 c.deref-in-up.result.now c.children-low.ensures.high c.deref-in-up.ensures.value c.result-high.ensures in
    record {
      turn = turn_next c.args.op c.args.store.now.nodes c.up.store c.make.new.self c.args.a c.args.b c.args.graph.now c.up.results.items c.up.k c.level.result c.result-low.result c.result-high.result c.in_ok-results.field-0
          c.up.invariant.turn (omega arith) here c.in_ok-results.ensures.ok;
      same_limit = c.in_ok-results.ensures.ok.same_limit ∙ c.up.invariant.same_limit;
    }

pub returns-in_err-results-clause-full : goal.returns-in_err-results-clause-full
returns-in_err-results-clause-full c e =
    let here = asked c.args.op c.args.store.now.nodes c.up.store.nodes c.args.a c.args.b c.args.graph.now c.up.results.items c.up.k c.level.result c.result-low.result c.result-high.result
    c.up.invariant.turn (omega arith) c.level.ensures c.level.type_inv
    c.children-low.result.0 c.deref.result.now c.children-low.ensures.low c.deref.ensures.value c.result-low.ensures
    c.children-low.result.1 c.deref-in-up.result.now c.children-low.ensures.high c.deref-in-up.ensures.value c.result-high.ensures in
    let p = err_from_is_err_and c.from_residual.result c.from_residual.ensures.1 in
    let w = c.make.ensures.full (cc (c.in_err-results.was, p.1, p.2, e)) in (
      w.0,
      turn_adds c.args.op c.args.store.now.nodes c.up.store.nodes w.0 c.args.a c.args.b c.args.graph.now c.up.results.items c.up.k c.level.result c.result-low.result c.result-high.result
          c.up.invariant.turn (omega arith) here w.1,
      omega (arith, w.2, c.up.invariant.same_limit),
    )
