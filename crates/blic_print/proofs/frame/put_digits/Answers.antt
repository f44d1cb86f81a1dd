use Rattle.std.proofs.Common.{◌≡◌, ℕ, ◌+◌, ◌-◌, ◌*◌, ◌++◌, take, drop, refl, subst, rules, arith, length-append, length, ap, sym, ◌∙◌}
use Rattle.std.proofs.lemmas.List.{take-append-drop}
use Rattle.std.specs.Io.KnownBytes.{append_known}
use Rattle.blic_print.specs.Gathering.{IsUnderWay}
use Rattle.blic_print.proofs.Digits.{digits_front, digits_put, no_digits}
use Rattle.blic_print.proofs.Waiting.{all_waits}
use Rattle.blic_print.proofs.frame.put_digits.Goals as goal

pub chunks-init : goal.chunks-init
chunks-init g c = record {
  inside = omega arith;
  room = refl;
  put = all_waits (g.O.Sink.held c.args.out.now) _ c.args.gathered.now (no_digits c.args.gathered.now);
  faults = refl;
}

pub chunks-preserved : goal.chunks-preserved
chunks-preserved g c = record {
  inside = omega arith;
  room =
      let count = 2 * (c.chunks.done + c.min.result - c.chunks.done) in
      let rest = drop count c.chunks.digits in
      length-append c.encode.new.digits rest ∙ ap (λ n. n + length rest) c.encode.auto.digits
      ∙ (sym (length-append (take count c.chunks.digits) rest) ∙ ap length (take-append-drop count c.chunks.digits)) ∙ c.chunks.invariant.room;
  put =
      digits_put c.args.gathered.now c.args.bytes.now _ c.chunks.done (c.chunks.done + c.min.result) _ _ _ _ _ (omega arith) refl c.chunks.invariant.put
      (subst (λ t. IsUnderWay (g.O.Sink.held c.chunks.out) (g.O.Sink.held c.put.new.out) (c.chunks.gathered ++ t) c.put.new.self) c.encode.ensures c.in-Ok.ensures.bytes);
  faults = search rules;
}

pub returns-in-Err-clause-bytes : goal.returns-in-Err-clause-bytes
returns-in-Err-clause-bytes g c =
    digits_front c.args.gathered.now c.args.bytes.now _ c.chunks.done (c.chunks.done + c.min.result) _ _ _ _ (omega arith) refl c.chunks.invariant.put
    (subst (λ t. (n : ℕ) × (g.O.Sink.held c.put.new.out ≡ append_known (g.O.Sink.held c.chunks.out) (take n (c.chunks.gathered ++ t)))) c.encode.ensures c.in-Err.ensures.bytes)
