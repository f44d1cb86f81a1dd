use Rattle.std.proofs.Common.{arith, ◌≡◌, ◌≢◌, ◌-◌, ap, subst, sym, ◌∙◌, inl, inr, ◌<◌}
use Rattle.std.proofs.lemmas.Bool.{cases_eq}
use Rattle.blic_store.specs.Diagram.{decision_at}
use Rattle.blic_store.proofs.Levels.{level_of-node}
use Rattle.blic_eval.proofs.tests.fits.Goals as goal

pub loop-k-preserved : goal.loop-k-preserved
loop-k-preserved c =
    let nodes = c.args.store.now.nodes in
    let k = c.loop-k.k in
    let small = c.if-level-levels.false in
    let number = c.numbered.ensures in
    let back : c.numbered.result - 2 ≡ k = omega arith in
    let level = c.level.ensures ∙ (level_of-node nodes c.numbered.result (omega arith) ∙ ap (λ j. (decision_at nodes j).level) back) in
    record {
      within = λ j l. elim (cases_eq j k) [
        | inl e ↦ subst (λ z. (decision_at nodes z).level < c.args.levels) (sym e) (omega arith)
        | inr n ↦ (let ne : j ≢ k = n in c.loop-k.invariant.within j (omega arith))
      ];
    }
