use Rattle.std.proofs.Common.{subst, sym, map, string_bytes}
use Rattle.blic_words.specs.Requests.{request_of}
use Rattle.blic_top.specs.Means.{Runs}
use Rattle.blic_top.proofs.Asking.{runs, runs_off, runs_short}
use Rattle.blic_top.proofs.program.perform.Goals as goal

pub returns-in-Ok-clause-says : goal.returns-in-Ok-clause-says
returns-in-Ok-clause-says g c =
    let d = c.in-Some.ensures.decides in (
      d.0,
      d.1,
      subst (λ n. Runs (request_of (map string_bytes c.args.words.now)) (record { files = g.F.Files.files c.args.files.now; alters = g.W.Watch.alters c.args.watch.now }) d.0 n (g.O.Sink.held c.args.out.now) (g.O.Sink.held c.print.new.out)) (sym c.status.ensures)
          (runs (request_of (map string_bytes c.args.words.now)) (record { files = g.F.Files.files c.args.files.now; alters = g.W.Watch.alters c.args.watch.now }) d.0 _ _ _ c.in-Some.outcome d.2 c.in-Ok.ensures.bytes),
    )

pub returns-in-Err-clause-says : goal.returns-in-Err-clause-says
returns-in-Err-clause-says g c =
    let d = c.in-Some.ensures.decides in
    (d.0, d.1, runs_short (request_of (map string_bytes c.args.words.now)) (record { files = g.F.Files.files c.args.files.now; alters = g.W.Watch.alters c.args.watch.now }) d.0 _ _ _ c.in-Some.outcome d.2 c.in-Err.ensures.bytes)

pub returns-in-None-clause-says : goal.returns-in-None-clause-says
returns-in-None-clause-says g c =
    let d = c.in-None.ensures.decides in
    (d.0, d.1, runs_off (request_of (map string_bytes c.args.words.now)) (record { files = g.F.Files.files c.args.files.now; alters = g.W.Watch.alters c.args.watch.now }) d.0 _ _ d.2)
