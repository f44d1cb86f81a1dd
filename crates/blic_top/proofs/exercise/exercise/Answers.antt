use Rattle.std.proofs.Common.{arith, ℕ, None, length, subst, sym, ◌∙◌, true, ◌≤◌, ◌^◌}
use Rattle.blic_gen.specs.Chain.{chain}
use Rattle.blic_model.specs.CircuitLimits.{most_points}
use Rattle.blic_model.specs.Circuit.{OrderedCircuit}
use Rattle.blic_model.specs.Shape.{IsShaped}
use Rattle.blic_top.specs.Faults.{fault_in}
use Rattle.blic_input.specs.Faults.{Counts, Entropy}
use Rattle.blic_top.specs.Jobs.{chain_problem}
use Rattle.blic_top.proofs.DrawCount.{few_draws}
use Rattle.blic_top.proofs.Exercised.{both, first_is, first_only, has_line, joined, joined_deed, line_cut, never_printing, quiet_line}
use Rattle.blic_input.proofs.Problems.{problem_circuit}
use Rattle.blic_top.proofs.exercise.exercise.Goals as goal

pub exercise_one-requires-in-Ok-clause-first : goal.exercise_one-requires-in-Ok-clause-first
exercise_one-requires-in-Ok-clause-first g c =
    let n = c.args.pairs in
    let o = c.args.options.now in
    let p = chain_problem n true in
    let d = c.in-Some.ensures.decides in
    let line = has_line c.in-Some.first c.in-Some-draws_of.draws (sym c.draws_of.ensures ∙ c.in-Some-draws_of.is) in
    let one = first_is n o (record { files = None; alters = g.W.Watch.alters c.args.watch.now }) d.0 c.in-Some.first c.in-Some-draws_of.draws _ _ line d.2 in
    let shaped = subst (λ (d : OrderedCircuit). IsShaped d.nodes (length d.order)) (sym (problem_circuit (chain n true)))
    (c.circuit_law.ensures.shape (chain n true) (c.chain_law.ensures n true c.requires.pairs.0 c.requires.pairs.1)) in
    subst (λ m. m ≤ 2 ^ 60) (sym one.draws_are) (low (few_draws p.circuit.nodes (length p.circuit.order) c.claims_law.ensures.some shaped one.small))
  where
    low : {n : ℕ} → n ≤ most_points → n ≤ 2 ^ 60
    low few = omega (arith, few)

pub returns-in-Ok-clause-decides : goal.returns-in-Ok-clause-decides
returns-in-Ok-clause-decides g c =
    let n = c.args.pairs in
    let o = c.args.options.now in
    let d = c.in-Some.ensures.decides in
    let line = has_line c.in-Some.first c.in-Some-draws_of.draws (sym c.draws_of.ensures ∙ c.in-Some-draws_of.is) in
    let one = first_is n o (record { files = None; alters = g.W.Watch.alters c.args.watch.now }) d.0 c.in-Some.first c.in-Some-draws_of.draws _ _ line d.2 in
    let late = c.exercise_one-in-Ok.ensures.decides in (
      joined d.0 c.in-Some.first late.0,
      joined_deed n o _ _ _ _ _ _ d.0 late.0 c.in-Some.first c.in-Some-draws_of.draws one d.1 late.1,
      both n o (g.W.Watch.alters c.args.watch.now) (g.W.Watch.alters c.exercise_one.new.watch) _ _ _ _ d.0 late.0 c.in-Some.first c.in-Some-draws_of.draws c.exercise_one-in-Ok.result line one
          c.in-Some.ensures.alters d.2 c.in-Ok.ensures.bytes late.2,
    )

pub returns-in-Ok-clause-entropy_cause : goal.returns-in-Ok-clause-entropy_cause
returns-in-Ok-clause-entropy_cause g c =
    let line = has_line c.in-Some.first c.in-Some-draws_of.draws (sym c.draws_of.ensures ∙ c.in-Some-draws_of.is) in
    subst (λ n. Counts Entropy (fault_in c.exercise_one-in-Ok.result) n (g.E.Entropy.faults c.exercise_one-in-Ok.new.entropy)) (quiet_line c.in-Some.first c.in-Some-draws_of.draws _ _ line c.in-Some.ensures.entropy_cause) c.exercise_one-in-Ok.ensures.entropy_cause

pub returns-in-Err-clause-decides : goal.returns-in-Err-clause-decides
returns-in-Err-clause-decides g c =
    let n = c.args.pairs in
    let o = c.args.options.now in
    let d = c.in-Some.ensures.decides in
    let line = has_line c.in-Some.first c.in-Some-draws_of.draws (sym c.draws_of.ensures ∙ c.in-Some-draws_of.is) in
    (d.0, d.1, line_cut n o (g.W.Watch.alters c.args.watch.now) d.0 _ _ _ c.in-Some.first c.in-Some-draws_of.draws line d.2 c.in-Err.ensures.bytes)

pub returns-in-Err-clause-entropy_cause : goal.returns-in-Err-clause-entropy_cause
returns-in-Err-clause-entropy_cause g c =
    let line = has_line c.in-Some.first c.in-Some-draws_of.draws (sym c.draws_of.ensures ∙ c.in-Some-draws_of.is) in
    quiet_line c.in-Some.first c.in-Some-draws_of.draws _ _ line c.in-Some.ensures.entropy_cause

pub returns-in_default-clause-decides : goal.returns-in_default-clause-decides
returns-in_default-clause-decides g c =
    let d = c.in_default.ensures.decides in
    never_printing c.args.pairs c.args.options.now true 0 (record { files = None; alters = g.W.Watch.alters c.args.watch.now }) d.0 _ _ d.2

pub returns-in_default-draws_of-clause-decides : goal.returns-in_default-draws_of-clause-decides
returns-in_default-draws_of-clause-decides g c =
    let d = c.in-Some.ensures.decides in
    (d.0, d.1, first_only c.args.pairs c.args.options.now (g.W.Watch.alters c.args.watch.now) d.0 _ _ c.in-Some.first (sym c.draws_of.ensures ∙ c.in_default-draws_of.is) d.2)
