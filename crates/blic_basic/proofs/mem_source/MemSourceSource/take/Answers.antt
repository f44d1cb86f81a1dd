use Rattle.std.proofs.Common.{ap}
use Rattle.std.specs.Prelude.{Some}
use Rattle.blic_basic.proofs.Appended.{taken_bytes}
use Rattle.blic_basic.proofs.mem_source.MemSourceSource.take.Goals as goal

pub returns-clause-bytes : goal.returns-clause-bytes
returns-clause-bytes c = (
  c.copy_front-count.ensures.some,
  c.copy_front-count.ensures.fits,
  rw (← c.self.view_is) (ap Some (taken_bytes _ _ _ _ (rw c.deref-2.ensures.value at c.copy_front-count.ensures.copied))),
)
