use Rattle.std.proofs.Common.{arith, length, sym, ◌∙◌, ap}
use Rattle.blic_store.specs.declared.decision.Decision.{Decision}
use Rattle.blic_store.proofs.Made.{answers_found, answers_if_ok, full_new, placed_made, unequal_numbers}
use Rattle.blic_store.proofs.store.Store.make.Goals as goal

pub returns-in-Some-clause-ok : goal.returns-in-Some-clause-ok
returns-in-Some-clause-ok c =
    answers_found c.args.self.now (record { level = c.args.level; low = c.args.lo; high = c.args.hi }) c.in-Some.k c.numbered.result
    c.canonical_law.ensures.canonical c.in-Some.ensures.in_range c.in-Some.ensures.equal c.numbered.ensures

pub returns-then-len-self-clause-full : goal.returns-then-len-self-clause-full
returns-then-len-self-clause-full c _ =
    let d : Decision = record { level = c.args.level; low = c.args.lo; high = c.args.hi } in
    full_new c.args.self.now d c.canonical_law.ensures.canonical
    (placed_made c.args.self.now d c.ranges.level.fits c.requires.lo_held c.requires.hi_held c.requires.above_lo c.requires.above_hi (unequal_numbers c.args.lo c.args.hi (sym c.eq.ensures ∙ c.if-eq.false)))
    c.in_default.ensures.none
    (omega (arith, ap (λ d. length d.nodes) c.self.view_is, ap (λ d. d.limit) c.self.view_is))

pub returns-clause-ok : goal.returns-clause-ok
returns-clause-ok c =
    let d : Decision = record { level = c.args.level; low = c.args.lo; high = c.args.hi } in
    answers_if_ok c.args.self.now c.add.new.self d c.add.result c.canonical_law.ensures.canonical
    (placed_made c.args.self.now d c.ranges.level.fits c.requires.lo_held c.requires.hi_held c.requires.above_lo c.requires.above_hi (unequal_numbers c.args.lo c.args.hi (sym c.eq.ensures ∙ c.if-eq.false)))
    c.in_default.ensures.none c.add.ensures.nodes c.add.ensures.limit c.add.ensures.ok
