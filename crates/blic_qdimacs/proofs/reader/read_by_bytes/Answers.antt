use Rattle.std.proofs.Common.{◌≡◌, ◌≤◌, ◌+◌, length, take, arith, ap, sym, ◌∙◌, length-take-le, Err}
use Rattle.std.specs.Io.KnownBytes.{prepend_known}
use Rattle.std.proofs.lemmas.Result.{err_from_is_err_and}
use Rattle.blic_qdimacs.specs.declared.error.ReadError.TheVariants as errors
use Rattle.blic_qdimacs.specs.View.{machine_of}
use Rattle.blic_qdimacs.proofs.Bytes.{taken_more, piece_taken, piece_refused, ended_reads, cut_reads, fed_front, fed_few}
use Rattle.blic_qdimacs.proofs.Sounding.{sound_reached}
use Rattle.blic_qdimacs.proofs.Stopping.{stops_early, stops_here}
use Rattle.blic_qdimacs.proofs.reader.read_by_bytes.Goals as goal

pub finish-requires : goal.finish-requires
finish-requires g c = sound_reached (take 67108864 c.pieces.invariant.taken.0) (machine_of c.pieces.reader) c.pieces.invariant.taken.3

pub returns-in_err-feed-in-Got-clause-taken : goal.returns-in_err-feed-in-Got-clause-taken
returns-in_err-feed-in-Got-clause-taken g c =
    let piece = take c.in-Got.n c.take_at_most.new.buffer in
    let size : length piece ≡ c.in-Got.n = length-take-le c.in-Got.n c.take_at_most.new.buffer c.in-Got.ensures.bytes.1 in
    let few : length c.pieces.invariant.taken.0 + length piece ≤ 67108865 = omega (arith, size, c.in-Got.ensures.few, c.pieces.invariant.taken.2, c.pieces-test.true) in
    taken_more 67108865 _ _ _ c.pieces.invariant.taken.0 piece few c.pieces.invariant.taken.1 c.in-Got.ensures.bytes.2

pub pieces-preserved : goal.pieces-preserved
pieces-preserved g c =
    let t = piece_taken 67108864 _ _ _ c.pieces.invariant.taken.0 (take c.in-Got.n c.take_at_most.new.buffer) (take c.min.result c.take_at_most.new.buffer)
    (machine_of c.pieces.reader) (machine_of c.feed.new.self) c.pieces.taken
    c.pieces.invariant.taken.2 c.pieces-test.true c.pieces.invariant.taken.1 c.in-Got.ensures.bytes.2
    (fed_front 67108864 c.pieces.taken c.in-Got.n c.min.result c.take_at_most.new.buffer c.min.ensures c.in-Got.ensures.bytes.1)
    c.pieces.invariant.taken.3 c.in_ok-feed-in-Got.ensures.bytes in
    let grown : c.feed.new.self.line ≤ c.pieces.reader.line + length (take c.min.result c.take_at_most.new.buffer) = c.in_ok-feed-in-Got.ensures.line in
    let short : length (take c.min.result c.take_at_most.new.buffer) ≤ c.in-Got.n = fed_few 67108864 c.pieces.taken c.in-Got.n c.min.result c.take_at_most.new.buffer c.min.ensures in
    record {
      taken = (t.0, t.1, t.2 ∙ ap (λ n. c.pieces.taken + n) (length-take-le c.in-Got.n c.take_at_most.new.buffer c.in-Got.ensures.bytes.1), t.3);
      few = omega (arith, c.in-Got.ensures.few);
      line = omega (arith, grown, short, c.pieces.invariant.line);
      faults = c.in-Got.ensures.cause ∙ c.pieces.invariant.faults;
    }

pub returns-in_err-feed-in-Got-clause-exact : goal.returns-in_err-feed-in-Got-clause-exact
returns-in_err-feed-in-Got-clause-exact g c =
    let p = err_from_is_err_and c.from_residual-in_err-feed-in-Got.result c.from_residual-in_err-feed-in-Got.ensures.1 in
    rw (p.1, p.2)
    (piece_refused 67108864 _ _ _ c.pieces.invariant.taken.0 (take c.in-Got.n c.take_at_most.new.buffer) (take c.min.result c.take_at_most.new.buffer)
    (machine_of c.pieces.reader) c.pieces.taken c.in_err-feed-in-Got.field-0.0
    c.pieces.invariant.taken.2 c.pieces-test.true c.pieces.invariant.taken.1 c.in-Got.ensures.bytes.2
    (fed_front 67108864 c.pieces.taken c.in-Got.n c.min.result c.take_at_most.new.buffer c.min.ensures c.in-Got.ensures.bytes.1)
    c.pieces.invariant.taken.3 c.in_err-feed-in-Got.ensures.bytes.1)

pub returns-in_err-feed-in-Got-clause-cause : goal.returns-in_err-feed-in-Got-clause-cause
returns-in_err-feed-in-Got-clause-cause g c =
    let p = err_from_is_err_and c.from_residual-in_err-feed-in-Got.result c.from_residual-in_err-feed-in-Got.ensures.1 in
    rw (p.1, p.2)
    (λ _. c.in-Got.ensures.cause ∙ c.pieces.invariant.faults, λ fault. absurd (c.in_err-feed-in-Got.ensures.bytes.0 fault))

pub returns-in-End-clause-exact : goal.returns-in-End-clause-exact
returns-in-End-clause-exact g c =
    let few : c.pieces.taken ≤ 67108864 = omega (arith, c.pieces-test.true) in
    ended_reads 67108864 _ _ c.pieces.invariant.taken.0 (machine_of c.pieces.reader) c.pieces.taken c.finish.result c.pieces.invariant.taken.2 few
    (c.pieces.invariant.taken.1 ∙ ap (prepend_known c.pieces.invariant.taken.0) (sym c.in-End.ensures.bytes.0)) c.in-End.ensures.bytes.1 c.pieces.invariant.taken.3 c.finish.ensures.answer

pub returns-clause-exact : goal.returns-clause-exact
returns-clause-exact g c =
    let size : length c.pieces.invariant.taken.0 ≡ 67108864 + 1 = omega (arith, c.pieces.invariant.taken.2, c.pieces.invariant.few, c.pieces-test.false) in
    cut_reads 67108864 _ _ c.pieces.invariant.taken.0 (machine_of c.pieces.reader) size c.pieces.invariant.taken.1 c.pieces.invariant.taken.3

pub returns-in_err-feed-in-Got-clause-early : goal.returns-in_err-feed-in-Got-clause-early
returns-in_err-feed-in-Got-clause-early g c =
    let piece = take c.in-Got.n c.take_at_most.new.buffer in
    let size : length piece ≡ c.in-Got.n = length-take-le c.in-Got.n c.take_at_most.new.buffer c.in-Got.ensures.bytes.1 in
    let few : length c.pieces.invariant.taken.0 + length piece ≤ 67108865 = omega (arith, size, c.in-Got.ensures.few, c.pieces.invariant.taken.2, c.pieces-test.true) in
    let small : length piece ≤ 65536 = omega (arith, size, c.in-Got.ensures.bytes.1, c.min.array_long) in
    stops_early _ _ _ c.pieces.invariant.taken.0 piece (machine_of c.pieces.reader) c.from_residual-in_err-feed-in-Got.result few small
    c.pieces.invariant.taken.1 c.in-Got.ensures.bytes.2 c.pieces.invariant.taken.3

pub returns-in-End-clause-early : goal.returns-in-End-clause-early
returns-in-End-clause-early g c =
    stops_here _ _ c.pieces.invariant.taken.0 (machine_of c.pieces.reader) c.finish.result (omega (arith, c.pieces.invariant.taken.2, c.pieces.invariant.few))
    (c.pieces.invariant.taken.1 ∙ ap (prepend_known c.pieces.invariant.taken.0) (sym c.in-End.ensures.bytes.0)) c.pieces.invariant.taken.3

pub returns-in-Failed-clause-early : goal.returns-in-Failed-clause-early
returns-in-Failed-clause-early g c =
    stops_here _ _ c.pieces.invariant.taken.0 (machine_of c.pieces.reader) (Err errors.Fault) (omega (arith, c.pieces.invariant.taken.2, c.pieces.invariant.few))
    (c.pieces.invariant.taken.1 ∙ ap (prepend_known c.pieces.invariant.taken.0) (sym c.in-Failed.ensures.bytes)) c.pieces.invariant.taken.3

pub returns-clause-early : goal.returns-clause-early
returns-clause-early g c =
    stops_here _ _ c.pieces.invariant.taken.0 (machine_of c.pieces.reader) (Err (errors.TooLong c.pieces.reader.line))
    (omega (arith, c.pieces.invariant.taken.2, c.pieces.invariant.few)) c.pieces.invariant.taken.1 c.pieces.invariant.taken.3
