use Rattle.std.proofs.Common.{arith, ◌<◌, sym, ◌∙◌}
use Rattle.blic_store.proofs.Cofactors.{cofactor-other}
use Rattle.blic_store.proofs.Levels.{level_of-const}
use Rattle.blic_store.proofs.store.Store.cofactor.Goals.{then-is_const-via-then-is_const, then-is_const-via-else-is_const+then-level}
use Rattle.blic_store.proofs.store.Store.cofactor.Goals as goal

pub returns-then-is_const : goal.returns-then-is_const
returns-then-is_const c =
    let nodes = c.args.self.now.nodes in
    elim c.then-is_const.branch [
      | then-is_const-via-then-is_const w ↦ (
          let const : c.args.r < 2 = c.is_const.ensures.0 w.if-is_const.true in
          let deep = level_of-const nodes c.args.r const in
          sym (cofactor-other nodes c.args.r c.args.level c.args.bit (λ e. absurd (omega arith))))
      | then-is_const-via-else-is_const+then-level w ↦
          sym (cofactor-other nodes c.args.r c.args.level c.args.bit (λ e. w.if-level.true (w.level.ensures ∙ e)))
    ]
