use Rattle.std.proofs.Common.{ℕ, ◌<◌, ◌≤◌, length, List, ap, arith}
use Rattle.std.specs.Prelude.{All, vec_len}
use Rattle.blic_basic.specs.Named.{NamedBytes}
use Rattle.blic_basic.proofs.Spares.{length-bytes_of-le, last_spare}
use Rattle.blic_basic.proofs.mem_files.MemFilesFiles.open_file.Goals as goal

pub fill-requires-clause-fits : goal.fill-requires-clause-fits
fill-requires-clause-fits c =
    let files = c.self.inside in
    let all : All (λ (file : NamedBytes). length file.bytes ≤ files.longest) c.deref-2.result.now = rw c.deref-2.ensures.value c.self.invariant.2 in
    let fits = length-bytes_of-le c.deref-2.result.now c.args.name.now c.in-Some.file.now.bytes files.longest all c.in-Some.ensures in
    let some : 0 < vec_len files.spares = omega (arith, c.in-Some-pop.ensures.cases) in
    let spare = last_spare files.spares.items (vec_len files.spares) (files.longest, files.takes_failing.items) c.in-Some-pop.spare
    c.self.invariant.1 some (c.in-Some-pop.ensures.value c.in-Some-pop.spare some) in
    omega (arith, fits, ap (λ (s : ℕ × List ℕ). s.0) spare, ap length c.deref-3.ensures.value, ap (λ (f : NamedBytes). length f.bytes) c.file.view_is)
