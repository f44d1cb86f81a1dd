use Rattle.std.proofs.Common.{Some, None, map, string_bytes}
use Rattle.blic_words.specs.Requests.{request_of, Solve, Certify, Verify, Exercise}
use Rattle.blic_top.specs.declared.outcome.Outcome.TheVariants.{Usage}
use Rattle.blic_top.proofs.Asking.{as_asked, done_here, done_over, misused, solved_file, wanted}
use Rattle.blic_top.proofs.program.decide.Goals as goal

pub returns-in-Ok-Some-Solve-clause-decides : goal.returns-in-Ok-Some-Solve-clause-decides
returns-in-Ok-Some-Solve-clause-decides g c =
    let i = c.in-Ok-Some-Solve in
    let e = rw (i.field-0-is, i.field-0-0-is) at i.ensures.exact in
    as_asked (Some (Solve i.file.now i.options)) (request_of (map string_bytes c.args.words.now)) (record { files = g.F.Files.files c.args.files.now; alters = g.W.Watch.alters c.args.watch.now }) _ _ _ _ (Some c.solve.result) e
    (solved_file (g.F.Files.files c.args.files.now) (g.W.Watch.alters c.args.watch.now) i.file.now i.options _ (g.O.Sink.held c.args.out.now) c.solve.result (c.solve.ensures.says (g.W.Watch.alters c.args.watch.now)))

pub certify-requires : goal.certify-requires
certify-requires g c =
    let i = c.in-Ok-Some-Certify in
    let ranges = rw (i.field-0-is, i.field-0-0-is) at i.ensures.ranges in
    record { repeat = ranges.1 }

pub returns-in-Ok-Some-Certify-clause-decides : goal.returns-in-Ok-Some-Certify-clause-decides
returns-in-Ok-Some-Certify-clause-decides g c =
    let i = c.in-Ok-Some-Certify in
    let e = rw (i.field-0-is, i.field-0-0-is) at i.ensures.exact in
    let d = c.certify.ensures.decides in
    as_asked (Some (Certify i.file.now i.options)) (request_of (map string_bytes c.args.words.now)) (record { files = g.F.Files.files c.args.files.now; alters = g.W.Watch.alters c.args.watch.now }) _ _ _ _ c.certify.result e (d.0, done_here _ _ _ _ _ d.0 d.1, d.2)

pub verify-requires : goal.verify-requires
verify-requires g c =
    let i = c.in-Ok-Some-Verify in
    record { free = c.requires.free; repeat = rw (i.field-0-is, i.field-0-0-is) at i.ensures.ranges }

pub returns-in-Ok-Some-Verify-clause-decides : goal.returns-in-Ok-Some-Verify-clause-decides
returns-in-Ok-Some-Verify-clause-decides g c =
    let i = c.in-Ok-Some-Verify in
    let e = rw (i.field-0-is, i.field-0-0-is) at i.ensures.exact in
    let d = c.verify.ensures.decides in
    as_asked (Some (Verify i.file.now i.address.now i.options)) (request_of (map string_bytes c.args.words.now)) (record { files = g.F.Files.files c.args.files.now; alters = g.W.Watch.alters c.args.watch.now }) _ _ _ _ c.verify.result e
    (d.0, done_over _ _ _ _ _ d.0 d.1, d.2 (g.W.Watch.alters c.args.watch.now))

pub exercise-requires : goal.exercise-requires
exercise-requires g c =
    let i = c.in-Ok-Some-Exercise in
    record { pairs = rw (i.field-0-is, i.field-0-0-is) at i.ensures.ranges }

pub returns-in-Ok-Some-Exercise-clause-decides : goal.returns-in-Ok-Some-Exercise-clause-decides
returns-in-Ok-Some-Exercise-clause-decides g c =
    let i = c.in-Ok-Some-Exercise in
    let e = rw (i.field-0-is, i.field-0-0-is) at i.ensures.exact in
    let d = c.exercise.ensures.decides in
    as_asked (Some (Exercise i.pairs i.options)) (request_of (map string_bytes c.args.words.now)) (record { files = g.F.Files.files c.args.files.now; alters = g.W.Watch.alters c.args.watch.now }) _ _ _ _ c.exercise.result e
    (d.0, done_here _ _ _ _ _ d.0 d.1, d.2 (g.F.Files.files c.args.files.now))

pub returns-in-Ok-None-clause-decides : goal.returns-in-Ok-None-clause-decides
returns-in-Ok-None-clause-decides g c =
    let i = c.in-Ok-None in
    let e = rw i.field-0-is at i.ensures.exact in
    as_asked None (request_of (map string_bytes c.args.words.now)) (record { files = g.F.Files.files c.args.files.now; alters = g.W.Watch.alters c.args.watch.now }) _ _ _ _ (Some Usage) e (misused (record { files = g.F.Files.files c.args.files.now; alters = g.W.Watch.alters c.args.watch.now }) _ (g.O.Sink.held c.args.out.now))

pub returns-in-Err-clause-decides : goal.returns-in-Err-clause-decides
returns-in-Err-clause-decides g c = wanted (request_of (map string_bytes c.args.words.now)) (record { files = g.F.Files.files c.args.files.now; alters = g.W.Watch.alters c.args.watch.now }) _ (g.O.Sink.held c.args.out.now)

pub returns-in-Ok-Some-Exercise-clause-read_cause : goal.returns-in-Ok-Some-Exercise-clause-read_cause
returns-in-Ok-Some-Exercise-clause-read_cause g c = c.exercise.ensures.no_read_fault (g.F.Files.faults c.args.files.now)

pub returns-in-Ok-Some-Solve-clause-entropy_cause : goal.returns-in-Ok-Some-Solve-clause-entropy_cause
returns-in-Ok-Some-Solve-clause-entropy_cause g c = c.solve.ensures.no_seed_fault (g.E.Entropy.faults c.args.entropy.now)
