use Rattle.std.proofs.Common.{arith, ◌∙◌, ap}
use Rattle.blic_eval.proofs.Sorting.{reached_sorted}
use Rattle.blic_eval.proofs.scratch.Scratch.begin.Goals as goal

pub returns-clause-reached : goal.returns-clause-reached
returns-clause-reached c =
    reached_sorted c.args.store.now.nodes c.canonical_law.ensures.canonical c.args.a c.args.b c.reach.new.set.numbers c.sort_by_level.new.self.numbers
    c.reach.ensures.found c.sort_by_level.ensures.same c.sort_by_level.ensures.falling

pub invariant_of-self : goal.invariant_of-self
invariant_of-self c =
    let reached = reached_sorted c.args.store.now.nodes c.canonical_law.ensures.canonical c.args.a c.args.b c.reach.new.set.numbers c.sort_by_level.new.self.numbers
    c.reach.ensures.found c.sort_by_level.ensures.same c.sort_by_level.ensures.falling in
    let lines_ok = c.self.inside.lines.ok in
    let room = c.requires.room in
    let nodes = ap (λ z. z.nodes) c.self.view_is in
    let path = c.reach.ensures.path in
    let capacity = c.self.invariant.1 in (
      c.sort_by_level.ensures.room ∙ (c.reach.ensures.room ∙ c.self.invariant.0),
      omega arith,
      record {
        few = omega arith;
        inside = λ i l. (let h = reached.closed.held i l in omega arith);
        flat = λ i l. absurd (omega arith);
      },
    )
