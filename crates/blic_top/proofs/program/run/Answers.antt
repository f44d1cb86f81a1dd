use Rattle.std.proofs.Common.{ℕ, ◌≡◌, arith}
use Rattle.blic_top.proofs.Linking.{link_fault_so, verifies_so}
use Rattle.blic_top.proofs.Promised.{came, certifies_so, exercises_so, limits_second_so, limits_so, refuses_so, solves_so, tells_certified_so, tells_so, usage_so}
use Rattle.blic_top.proofs.program.run.Goals as goal

pub returns-clause-tells : goal.returns-clause-tells
returns-clause-tells g c =
    rw (← c.deref.ensures.value)
    (tells_so _ (record { files = g.F.Files.files c.args.files.now; alters = g.W.Watch.alters c.args.watch.now }) c.perform.ensures.says.0 c.perform.result _ _ c.perform.ensures.says.2)

pub returns-clause-tells_certified : goal.returns-clause-tells_certified
returns-clause-tells_certified g c =
    rw (← c.deref.ensures.value)
    (tells_certified_so _ (record { files = g.F.Files.files c.args.files.now; alters = g.W.Watch.alters c.args.watch.now }) c.perform.ensures.says.0 c.perform.result _ _ c.perform.ensures.says.2)

pub returns-clause-usage : goal.returns-clause-usage
returns-clause-usage g c quiet =
    rw (← c.deref.ensures.value)
    (usage_so _ (record { files = g.F.Files.files c.args.files.now; alters = g.W.Watch.alters c.args.watch.now }) c.perform.ensures.says.0 c.perform.result (came _ (record { files = g.F.Files.files c.args.files.now; alters = g.W.Watch.alters c.args.watch.now }) c.perform.ensures.says.0 c.perform.result _ _ c.perform.ensures.says.2 (λ e. quiet (c.perform.ensures.write_fault e))))

pub returns-clause-solves : goal.returns-clause-solves
returns-clause-solves g c calm quiet =
    rw (← c.deref.ensures.value)
    (solves_so _ (record { files = g.F.Files.files c.args.files.now; alters = g.W.Watch.alters c.args.watch.now }) c.perform.ensures.says.0 c.perform.result (came _ (record { files = g.F.Files.files c.args.files.now; alters = g.W.Watch.alters c.args.watch.now }) c.perform.ensures.says.0 c.perform.result _ _ c.perform.ensures.says.2 (λ e. quiet (c.perform.ensures.write_fault e))) (λ e. calm (c.perform.ensures.read_fault e)))

pub returns-clause-certifies : goal.returns-clause-certifies
returns-clause-certifies g c calm quiet still honest =
    rw (← c.deref.ensures.value)
    (certifies_so _ (record { files = g.F.Files.files c.args.files.now; alters = g.W.Watch.alters c.args.watch.now }) c.perform.ensures.says.0 c.perform.result (came _ (record { files = g.F.Files.files c.args.files.now; alters = g.W.Watch.alters c.args.watch.now }) c.perform.ensures.says.0 c.perform.result _ _ c.perform.ensures.says.2 (λ e. quiet (c.perform.ensures.write_fault e))) (λ e. calm (c.perform.ensures.read_fault e)) (λ e. still (c.perform.ensures.entropy_fault e)) honest)

pub returns-clause-exercises : goal.returns-clause-exercises
returns-clause-exercises g c quiet honest =
    rw (← c.deref.ensures.value)
    (exercises_so _ (record { files = g.F.Files.files c.args.files.now; alters = g.W.Watch.alters c.args.watch.now }) c.perform.ensures.says.0 c.perform.result (came _ (record { files = g.F.Files.files c.args.files.now; alters = g.W.Watch.alters c.args.watch.now }) c.perform.ensures.says.0 c.perform.result _ _ c.perform.ensures.says.2 (λ e. quiet (c.perform.ensures.write_fault e))) honest)

pub returns-clause-limits_second : goal.returns-clause-limits_second
returns-clause-limits_second g c quiet honest =
    rw (← c.deref.ensures.value)
    (limits_second_so _ (record { files = g.F.Files.files c.args.files.now; alters = g.W.Watch.alters c.args.watch.now }) c.perform.ensures.says.0 c.perform.result (came _ (record { files = g.F.Files.files c.args.files.now; alters = g.W.Watch.alters c.args.watch.now }) c.perform.ensures.says.0 c.perform.result _ _ c.perform.ensures.says.2 (λ e. quiet (c.perform.ensures.write_fault e))) honest)

pub returns-clause-limits : goal.returns-clause-limits
returns-clause-limits g c calm quiet =
    rw (← c.deref.ensures.value)
    (limits_so _ (record { files = g.F.Files.files c.args.files.now; alters = g.W.Watch.alters c.args.watch.now }) c.perform.ensures.says.0 c.perform.result (came _ (record { files = g.F.Files.files c.args.files.now; alters = g.W.Watch.alters c.args.watch.now }) c.perform.ensures.says.0 c.perform.result _ _ c.perform.ensures.says.2 (λ e. quiet (c.perform.ensures.write_fault e))) (λ e. calm (c.perform.ensures.read_fault e)))

pub returns-clause-refuses : goal.returns-clause-refuses
returns-clause-refuses g c calm quiet =
    rw (← c.deref.ensures.value)
    (refuses_so _ (record { files = g.F.Files.files c.args.files.now; alters = g.W.Watch.alters c.args.watch.now }) c.perform.ensures.says.0 c.perform.result (came _ (record { files = g.F.Files.files c.args.files.now; alters = g.W.Watch.alters c.args.watch.now }) c.perform.ensures.says.0 c.perform.result _ _ c.perform.ensures.says.2 (λ e. quiet (c.perform.ensures.write_fault e))) (λ e. calm (c.perform.ensures.read_fault e)))

pub returns-clause-verifies : goal.returns-clause-verifies
returns-clause-verifies g c calm quiet still linked =
    rw (← c.deref.ensures.value)
    (verifies_so _ (record { files = g.F.Files.files c.args.files.now; alters = g.W.Watch.alters c.args.watch.now }) _ _ c.perform.ensures.says.0 c.perform.result (came _ (record { files = g.F.Files.files c.args.files.now; alters = g.W.Watch.alters c.args.watch.now }) c.perform.ensures.says.0 c.perform.result _ _ c.perform.ensures.says.2 (λ e. quiet (c.perform.ensures.write_fault e)))
    c.perform.ensures.says.1 (λ e. calm (c.perform.ensures.read_fault e)) (λ e. still (c.perform.ensures.entropy_fault e)) linked)

pub returns-clause-link_fault : goal.returns-clause-link_fault
returns-clause-link_fault g c five =
    link_fault_so _ (record { files = g.F.Files.files c.args.files.now; alters = g.W.Watch.alters c.args.watch.now }) _ _ c.perform.ensures.says.0 c.perform.result (came _ (record { files = g.F.Files.files c.args.files.now; alters = g.W.Watch.alters c.args.watch.now }) c.perform.ensures.says.0 c.perform.result _ _ c.perform.ensures.says.2 (λ e. five_or_four c.perform.result five e))
    c.perform.ensures.says.1 five
  where
    five_or_four : (n : ℕ) → n ≡ 5 → n ≡ 4 → ⊥
    five_or_four n five four = omega (arith, five, four)
