use Rattle.std.proofs.Common.{◌≡◌, ◌∙◌, ◌<◌, sym, ap, refl, subst, ℕ, List, length, arith}
use Rattle.blic_basic.specs.Outside.{Rose}
use Rattle.blic_messages.specs.declared.feeding.Fed.{Fed}
use Rattle.blic_messages.specs.declared.feeding.Fed.TheVariants as feds
use Rattle.blic_messages.specs.Decoding.{Decoding, fed_with, decoding_with}
use Rattle.blic_messages.specs.FrontLaws.{AreBytes}
use Rattle.blic_messages.specs.Grammar.{Grammar, front}
use Rattle.blic_inbox.proofs.Waits.{all_bytes, inside_more, waits_first, partial_more, waits_on, decided_whole, decided_broken, no_more_passes}
use Rattle.blic_inbox.proofs.listening.listen.Goals as goal

-- the piece that was fed is what waited
fed_inbox : {F : Type 0} → (g : Grammar F) → (answer told : Fed) (decoder : Decoding F) (piece inbox : List ℕ) → answer ≡ told → answer ≡ fed_with g decoder piece → piece ≡ inbox
    → told ≡ fed_with g decoder inbox
fed_inbox g answer told decoder piece inbox is fed same = sym is ∙ (fed ∙ ap (fed_with g decoder) same)

by_inbox : {F : Type 0} → (g : Grammar F) → (next decoder : Decoding F) (piece inbox : List ℕ) → next ≡ decoding_with g decoder piece → piece ≡ inbox → next ≡ decoding_with g decoder inbox
by_inbox g next decoder piece inbox state same = state ∙ ap (decoding_with g decoder) same

pub loop-init : goal.loop-init
loop-init g c = (c.requires.usable, refl, waits_first g.D.Decoder.grammar (g.K.Link.pieces c.args.link.now) c.args.inbox.now (g.D.Decoder.decoding c.args.decoder.now) c.requires.fresh)

pub returns-in-Whole-clause-heard : goal.returns-in-Whole-clause-heard
returns-in-Whole-clause-heard g c =
    let w = c.loop.invariant.2 in
    let fed = fed_inbox g.D.Decoder.grammar c.feed.result (feds.Whole c.in-Whole.count) (g.D.Decoder.decoding c.loop.decoder) c.waiting.result.now c.loop.inbox c.in-Whole.is c.feed.ensures.answer c.waiting.ensures.same in (
      w.pieces,
      w.told_is,
      w.listens,
      decided_whole g.D.Decoder.grammar (g.K.Link.pieces c.args.link.now) (g.K.Link.pieces c.loop.link) c.args.inbox.now (g.D.Decoder.decoding c.loop.decoder) (g.D.Decoder.decoding c.feed.new.self) c.loop.inbox c.pass.new.self c.loop.counter c.in-Whole.count w fed
          (by_inbox g.D.Decoder.grammar (g.D.Decoder.decoding c.feed.new.self) (g.D.Decoder.decoding c.loop.decoder) c.waiting.result.now c.loop.inbox c.feed.ensures.state c.waiting.ensures.same) (c.feed.ensures.taken c.in-Whole.count c.in-Whole.is).0 c.pass.ensures,
      all_bytes g.D.Decoder.grammar (g.K.Link.pieces c.args.link.now) (g.K.Link.pieces c.loop.link) c.args.inbox.now (g.D.Decoder.decoding c.loop.decoder) c.loop.inbox c.loop.counter w (subst AreBytes c.waiting.ensures.same c.waiting.ensures.bytes),
    )

pub returns-in-Whole-clause-usable : goal.returns-in-Whole-clause-usable
returns-in-Whole-clause-usable g c = c.loop.invariant.0

pub returns-in-Whole-clause-cause : goal.returns-in-Whole-clause-cause
returns-in-Whole-clause-cause g c = c.loop.invariant.1

pub returns-in-Broken-clause-heard : goal.returns-in-Broken-clause-heard
returns-in-Broken-clause-heard g c =
    let w = c.loop.invariant.2 in
    let fed = fed_inbox g.D.Decoder.grammar c.feed.result feds.Broken (g.D.Decoder.decoding c.loop.decoder) c.waiting.result.now c.loop.inbox c.in-Broken.is c.feed.ensures.answer c.waiting.ensures.same in (
      w.pieces,
      w.told_is,
      w.listens,
      decided_broken g.D.Decoder.grammar (g.K.Link.pieces c.args.link.now) (g.K.Link.pieces c.loop.link) c.args.inbox.now (g.D.Decoder.decoding c.loop.decoder) (g.D.Decoder.decoding c.feed.new.self) c.loop.inbox c.loop.inbox c.loop.counter w fed
          (by_inbox g.D.Decoder.grammar (g.D.Decoder.decoding c.feed.new.self) (g.D.Decoder.decoding c.loop.decoder) c.waiting.result.now c.loop.inbox c.feed.ensures.state c.waiting.ensures.same),
      all_bytes g.D.Decoder.grammar (g.K.Link.pieces c.args.link.now) (g.K.Link.pieces c.loop.link) c.args.inbox.now (g.D.Decoder.decoding c.loop.decoder) c.loop.inbox c.loop.counter w (subst AreBytes c.waiting.ensures.same c.waiting.ensures.bytes),
    )

pub returns-in-Broken-clause-usable : goal.returns-in-Broken-clause-usable
returns-in-Broken-clause-usable g c = c.loop.invariant.0

pub returns-in-Broken-clause-cause : goal.returns-in-Broken-clause-cause
returns-in-Broken-clause-cause g c = c.loop.invariant.1

pub fill-requires-clause-usable : goal.fill-requires-clause-usable
fill-requires-clause-usable g c = c.loop.invariant.0

pub returns-in-End-clause-heard : goal.returns-in-End-clause-heard
returns-in-End-clause-heard g c =
    let w = c.loop.invariant.2 in
    let fed = fed_inbox g.D.Decoder.grammar c.feed.result feds.More (g.D.Decoder.decoding c.loop.decoder) c.waiting.result.now c.loop.inbox c.in-More.is c.feed.ensures.answer c.waiting.ensures.same in
    let partial = partial_more g.D.Decoder.grammar (g.K.Link.pieces c.args.link.now) (g.K.Link.pieces c.loop.link) c.args.inbox.now (g.D.Decoder.decoding c.loop.decoder) c.loop.inbox c.loop.counter w fed in
    let filled = c.in-End.ensures.bytes in
    (w.pieces, filled.1 ∙ w.told_is, w.listens, (ap (front g.D.Decoder.grammar) (sym w.all) ∙ partial, inside_more g.D.Decoder.grammar (g.K.Link.pieces c.args.link.now) (g.K.Link.pieces c.loop.link) c.args.inbox.now (g.D.Decoder.decoding c.loop.decoder) (g.D.Decoder.decoding c.feed.new.self) c.loop.inbox c.loop.counter w fed (by_inbox g.D.Decoder.grammar (g.D.Decoder.decoding c.feed.new.self) (g.D.Decoder.decoding c.loop.decoder) c.waiting.result.now c.loop.inbox c.feed.ensures.state c.waiting.ensures.same), filled.2), all_bytes g.D.Decoder.grammar (g.K.Link.pieces c.args.link.now) (g.K.Link.pieces c.loop.link) c.args.inbox.now (g.D.Decoder.decoding c.loop.decoder) c.loop.inbox c.loop.counter w (subst AreBytes c.waiting.ensures.same c.waiting.ensures.bytes))

pub returns-in-End-clause-cause : goal.returns-in-End-clause-cause
returns-in-End-clause-cause g c = c.in-End.ensures.cause ∙ c.loop.invariant.1

pub returns-in-Failed-clause-heard : goal.returns-in-Failed-clause-heard
returns-in-Failed-clause-heard g c =
    let w = c.loop.invariant.2 in
    let fed = fed_inbox g.D.Decoder.grammar c.feed.result feds.More (g.D.Decoder.decoding c.loop.decoder) c.waiting.result.now c.loop.inbox c.in-More.is c.feed.ensures.answer c.waiting.ensures.same in
    let partial = partial_more g.D.Decoder.grammar (g.K.Link.pieces c.args.link.now) (g.K.Link.pieces c.loop.link) c.args.inbox.now (g.D.Decoder.decoding c.loop.decoder) c.loop.inbox c.loop.counter w fed in
    (w.pieces, c.in-Failed.ensures.bytes.1 ∙ w.told_is, w.listens, ap (front g.D.Decoder.grammar) (sym w.all) ∙ partial, all_bytes g.D.Decoder.grammar (g.K.Link.pieces c.args.link.now) (g.K.Link.pieces c.loop.link) c.args.inbox.now (g.D.Decoder.decoding c.loop.decoder) c.loop.inbox c.loop.counter w (subst AreBytes c.waiting.ensures.same c.waiting.ensures.bytes))

pub returns-in-Failed-clause-cause : goal.returns-in-Failed-clause-cause
returns-in-Failed-clause-cause g c = subst (λ n. Rose n (g.K.Link.faults c.fill.new.link)) c.loop.invariant.1 c.in-Failed.ensures.cause

pub loop-preserved : goal.loop-preserved
loop-preserved g c =
    let w = c.loop.invariant.2 in
    let fed = fed_inbox g.D.Decoder.grammar c.feed.result feds.More (g.D.Decoder.decoding c.loop.decoder) c.waiting.result.now c.loop.inbox c.in-More.is c.feed.ensures.answer c.waiting.ensures.same in
    let filled = c.in-Got.ensures.bytes in
    let some : 0 < length c.fill.new.self = omega (arith, filled.0, filled.1) in (
      c.fill.ensures.usable,
      c.in-Got.ensures.cause ∙ c.loop.invariant.1,
      waits_on g.D.Decoder.grammar (g.K.Link.pieces c.args.link.now) (g.K.Link.pieces c.loop.link) (g.K.Link.pieces c.fill.new.link) c.args.inbox.now (g.D.Decoder.decoding c.loop.decoder) (g.D.Decoder.decoding c.feed.new.self) c.loop.inbox c.fill.new.self c.loop.counter w fed
          (by_inbox g.D.Decoder.grammar (g.D.Decoder.decoding c.feed.new.self) (g.D.Decoder.decoding c.loop.decoder) c.waiting.result.now c.loop.inbox c.feed.ensures.state c.waiting.ensures.same) (subst AreBytes c.waiting.ensures.same c.waiting.ensures.bytes) some filled.2,
    )

pub returns-clause-heard : goal.returns-clause-heard
returns-clause-heard g c =
    absurd (no_more_passes g.D.Decoder.grammar (g.K.Link.pieces c.args.link.now) (g.K.Link.pieces c.loop.link) c.args.inbox.now (g.D.Decoder.decoding c.loop.decoder) c.loop.inbox c.loop.counter c.longest-end.result c.longest-end.ensures.enough c.loop.invariant.2 (omega (arith, c.loop-test.false)))

pub returns-clause-usable : goal.returns-clause-usable
returns-clause-usable g c = c.loop.invariant.0

pub returns-clause-cause : goal.returns-clause-cause
returns-clause-cause g c =
    absurd (no_more_passes g.D.Decoder.grammar (g.K.Link.pieces c.args.link.now) (g.K.Link.pieces c.loop.link) c.args.inbox.now (g.D.Decoder.decoding c.loop.decoder) c.loop.inbox c.loop.counter c.longest-end.result c.longest-end.ensures.enough c.loop.invariant.2 (omega (arith, c.loop-test.false)))
