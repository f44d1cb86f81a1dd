use Rattle.std.proofs.Common.{◌≡◌, sym, ◌∙◌, subst}
use Rattle.std.specs.Prelude.{min}
use mathlib.Core.Path.{ap₂}
use Rattle.std.proofs.lemmas.Result.{err_from_is_err_and}
use Rattle.blic_graph.specs.declared.graph.GraphError.TheVariants.{PairsFull}
use Rattle.blic_graph.specs.Pairs.{IsGraph, level_of_pair}
use Rattle.blic_graph.proofs.Errors.{same_error}
use Rattle.blic_graph.proofs.Graphs.{full_root, going_root, graph_of, operands_root}
use Rattle.blic_graph.proofs.Listings.{taken_next}
use Rattle.blic_graph.proofs.lister.fill.Goals as goal

pub requests-init : goal.requests-init
requests-init c =
    let nodes = c.args.store.now.nodes in
    let level : c.min.result ≡ level_of_pair nodes c.args.a c.args.b = c.min.ensures ∙ ap₂ min c.level.ensures c.level-2.ensures in
    let operands = operands_root nodes c.args.a c.args.b c.args.most c.min.result c.begin.new.self c.add.new.self c.begin.ensures c.in_ok-add.ensures.pairs in
    record {
      going = going_root nodes c.args.a c.args.b c.args.most c.min.result c.begin.new.self c.add.new.self c.begin.ensures c.requires.a_inner c.requires.b_inner level c.in_ok-add.ensures.pairs;
      first = operands.0;
      second = operands.1;
      most = operands.2;
    }

pub returns-in_err-add-clause-full : goal.returns-in_err-add-clause-full
returns-in_err-add-clause-full c =
    let nodes = c.args.store.now.nodes in
    let p = err_from_is_err_and c.from_residual.result c.from_residual.ensures.1 in
    let level : c.min.result ≡ level_of_pair nodes c.args.a c.args.b = c.min.ensures ∙ ap₂ min c.level.ensures c.level-2.ensures in
    rw (p.1, p.2) (λ e. full_root nodes c.args.a c.args.b c.args.most c.min.result c.begin.new.self c.begin.ensures c.requires.a_inner c.requires.b_inner level (c.in_err-add.ensures.full (same_error c.in_err-add.field-0.0 PairsFull e)))

pub answer-requires-clause-taken : goal.answer-requires-clause-taken
answer-requires-clause-taken c = taken_next c.args.store.now.nodes c.requests.list c.next.new.self c.in-Some.request c.requests.invariant.going c.in-Some.ensures.queue c.in-Some.ensures.begins

pub returns-clause-graph : goal.returns-clause-graph
returns-clause-graph c =
    let l = c.requests.list in
    subst (IsGraph c.args.store.now.nodes c.args.a c.args.b) (sym c.next.ensures.pairs)
    (graph_of c.args.store.now.nodes c.canonical_law.ensures.canonical c.args.a c.args.b l c.requires.a_inner.held c.requires.b_inner.held
    c.requests.invariant.first c.requests.invariant.second c.requests.invariant.going c.in_default.ensures.none)
