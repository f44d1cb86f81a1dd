use Rattle.std.proofs.Common.{arith, refl, inr, ◌∙◌}
use mathlib.Core.Path.{ap₂}
use Rattle.std.proofs.lemmas.Result.{err_from_is_err_and}
use Rattle.blic_graph.specs.declared.graph.GraphError.TheVariants.{PairsFull}
use Rattle.blic_graph.specs.declared.pair.Side.TheVariants as Side
use Rattle.blic_graph.proofs.Answering.{answered, no_shorter, passes_most, pending}
use Rattle.blic_graph.proofs.Errors.{same_error}
use Rattle.blic_graph.proofs.Sides.{named}
use Rattle.blic_graph.proofs.pair_list.PairList.answer.Goals as goal

pub number-requires-clause-first_inner : goal.number-requires-clause-first_inner
number-requires-clause-first_inner c = (pending c.args.store.now.nodes c.canonical_law.ensures.canonical c.args.self.now c.args.request c.requires.taken).first_inner

pub number-requires-clause-second_inner : goal.number-requires-clause-second_inner
number-requires-clause-second_inner c = (pending c.args.store.now.nodes c.canonical_law.ensures.canonical c.args.self.now c.args.request c.requires.taken).second_inner

pub number-requires-clause-level : goal.number-requires-clause-level
number-requires-clause-level c = (pending c.args.store.now.nodes c.canonical_law.ensures.canonical c.args.self.now c.args.request c.requires.taken).level

pub returns-in_err-number-clause-full : goal.returns-in_err-number-clause-full
returns-in_err-number-clause-full c =
    let l = c.args.self.now in
    let p = err_from_is_err_and c.from_residual.result c.from_residual.ensures.1 in
    let waits = pending c.args.store.now.nodes c.canonical_law.ensures.canonical l c.args.request c.requires.taken in
    rw (p.1, p.2) (λ e. passes_most c.args.store.now.nodes l _ c.args.request.first c.args.request.second c.requires.taken.listing waits (c.in_err-number.ensures.full (same_error c.in_err-number.field-0.0 PairsFull e)))

pub set_side-requires-clause-k : goal.set_side-requires-clause-k
set_side-requires-clause-k c =
    let l = c.args.self.now in
    let o = c.requires.taken.listing.opened l.queue.level c.args.request (inr (refl, refl)) in
    let here = o.pair_in in
    let longer = no_shorter c.args.store.now.nodes l c.number.new.self c.args.request.first c.args.request.second c.in_ok-number.ensures.pairs in
    omega (arith, c.pair.ensures)

pub returns-clause-going : goal.returns-clause-going
returns-clause-going c =
    answered c.args.store.now.nodes c.canonical_law.ensures.canonical c.args.self.now c.number.new.self c.set_side.new.self c.args.request c.in_ok-number.number c.requires.taken
    c.in_ok-number.ensures.pairs c.in_ok-number.ensures.number (c.set_side.ensures ∙ ap₂ (λ p b. record c.number.new.self { pairs = named c.number.new.self.pairs p b (Side.Pair c.in_ok-number.number) }) c.pair.ensures c.bit.ensures)
