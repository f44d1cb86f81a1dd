use Rattle.std.proofs.Common.{arith, ap}
use Rattle.blic_solve.specs.Progress.{Rooted}
use Rattle.blic_solve.proofs.answering.Roots.push.Goals as goal

pub overflow_add-self : goal.overflow_add-self
overflow_add-self c = omega (arith, c.requires, ap (λ (r : Rooted). r.most) c.self.view_is, ap (λ (r : Rooted). r.listed) c.self.view_is)
