use Rattle.std.proofs.Common.{◌≡◌, refl, ◌∙◌, ap, subst, arith}
use Rattle.blic_talk.proofs.Onward.{nothing_more}
use Rattle.blic_top.specs.Conversing.{InProcess, Steps}
use Rattle.blic_top.specs.Deed.{joined, silent}
use Rattle.blic_top.specs.Series.{draws_of}
use Rattle.blic_top.specs.Turning.{HaveAgreed}
use Rattle.blic_top.proofs.Certified.{same_turn}
use Rattle.blic_top.proofs.Coursing.{all_agreed, counted, decided, none_agreed, one_more, settled_counts, some_agreed, still}
use Rattle.blic_top.proofs.DrawCount.{fewer}
use Rattle.blic_top.proofs.Traces.{seen_more, seen_none}
use Rattle.blic_top.proofs.conversations.hold.Goals as goal

pub loop-number-init : goal.loop-number-init
loop-number-init g c = record {
  same = refl;
  answers = refl;
  alters = refl;
  faults = refl;
  agreed = (silent, seen_none _, none_agreed (InProcess c.args.problem.now (draws_of c.args.problem.now c.args.draws.seed c.args.draws.first) (g.W.Watch.alters c.args.watch.now) c.args.conversation.now.talk), nothing_more _);
}

pub hold_one-verdict-requires : goal.hold_one-verdict-requires
hold_one-verdict-requires g c =
    let i = c.loop-number.invariant in
    let d = c.args.draws in
    record {
      about = ap (λ x. x.about) i.same ∙ c.requires.about;
      answers = i.answers ∙ c.requires.answers;
      each = c.requires.each;
      few = fewer d.first c.loop-number.number d.count d.each (omega arith) c.requires.few;
    }

pub loop-number-preserved : goal.loop-number-preserved
loop-number-preserved g c =
    let i = c.loop-number.invariant in
    let p = c.args.problem.now in
    let d = c.args.draws in
    let draws = draws_of p d.seed d.first in
    let alters = g.W.Watch.alters c.args.watch.now in
    let talk = c.args.conversation.now.talk in
    let turn = c.hold_one-verdict.ensures.turn in
    let next = one_more (InProcess p draws alters talk) (Steps p draws alters talk) c.loop-number.number i.agreed.0 turn.0 c.loop-number.agreed _ _ _ c.hold_one-verdict.result c.in-Ok.truth i.agreed.2 i.agreed.3
    (same_turn p draws alters _ talk _ c.loop-number.number turn.0 _ _ c.hold_one-verdict.result i.alters (ap (λ x. x.talk) i.same) turn.2) c.in-Ok.ensures in
    record {
      same = c.hold_one-verdict.ensures.same ∙ i.same;
      answers = c.hold_one-verdict.ensures.answers ∙ i.answers;
      alters = c.hold_one-verdict.ensures.alters ∙ i.alters;
      faults = still c.loop-number.agreed c.hold_one-verdict.result c.in-Ok.truth _ _ _ i.faults c.hold_one-verdict.ensures.cause c.in-Ok.ensures;
      agreed = (joined i.agreed.0 turn.0, seen_more _ _ _ i.agreed.0 turn.0 i.agreed.1 turn.1, next.0, next.1);
    }

pub returns-in-Err-clause-comes : goal.returns-in-Err-clause-comes
returns-in-Err-clause-comes g c =
    let i = c.loop-number.invariant in
    let p = c.args.problem.now in
    let d = c.args.draws in
    let draws = draws_of p d.seed d.first in
    let alters = g.W.Watch.alters c.args.watch.now in
    let talk = c.args.conversation.now.talk in
    let turn = c.hold_one-verdict.ensures.turn in (
      joined i.agreed.0 turn.0,
      seen_more _ _ _ i.agreed.0 turn.0 i.agreed.1 turn.1,
      decided (InProcess p draws alters talk) (Steps p draws alters talk) c.loop-number.number d.count i.agreed.0 turn.0 c.loop-number.agreed _ _ _ c.hold_one-verdict.result c.in-Err.course (omega arith) i.agreed.2 i.agreed.3
          (same_turn p draws alters _ talk _ c.loop-number.number turn.0 _ _ c.hold_one-verdict.result i.alters (ap (λ x. x.talk) i.same) turn.2) c.in-Err.ensures,
    )

pub settled-requires : goal.settled-requires
settled-requires g c =
    let i = c.loop-number.invariant in
    let all : c.loop-number.number ≡ c.args.draws.count = omega arith in
    record { some = some_agreed (InProcess c.args.problem.now (draws_of c.args.problem.now c.args.draws.seed c.args.draws.first) (g.W.Watch.alters c.args.watch.now) c.args.conversation.now.talk) c.args.draws.count i.agreed.0 c.loop-number.agreed c.requires.some (subst (λ n. HaveAgreed (InProcess c.args.problem.now (draws_of c.args.problem.now c.args.draws.seed c.args.draws.first) (g.W.Watch.alters c.args.watch.now) c.args.conversation.now.talk) n i.agreed.0 c.loop-number.agreed) all i.agreed.2) }

pub returns-clause-comes : goal.returns-clause-comes
returns-clause-comes g c =
    let i = c.loop-number.invariant in
    let all : c.loop-number.number ≡ c.args.draws.count = omega arith in (
      i.agreed.0,
      i.agreed.1,
      all_agreed (InProcess c.args.problem.now (draws_of c.args.problem.now c.args.draws.seed c.args.draws.first) (g.W.Watch.alters c.args.watch.now) c.args.conversation.now.talk) (Steps c.args.problem.now (draws_of c.args.problem.now c.args.draws.seed c.args.draws.first) (g.W.Watch.alters c.args.watch.now) c.args.conversation.now.talk) c.args.draws.count i.agreed.0 c.loop-number.agreed _ _ c.settled.result c.requires.some (subst (λ n. HaveAgreed (InProcess c.args.problem.now (draws_of c.args.problem.now c.args.draws.seed c.args.draws.first) (g.W.Watch.alters c.args.watch.now) c.args.conversation.now.talk) n i.agreed.0 c.loop-number.agreed) all i.agreed.2) i.agreed.3 c.settled.ensures,
    )

pub returns-in-Err-clause-cause : goal.returns-in-Err-clause-cause
returns-in-Err-clause-cause g c =
    counted c.loop-number.agreed c.hold_one-verdict.result c.in-Err.course _ _ _ c.loop-number.invariant.faults c.hold_one-verdict.ensures.cause c.in-Err.ensures

pub returns-clause-cause : goal.returns-clause-cause
returns-clause-cause g c =
    let i = c.loop-number.invariant in
    let all : c.loop-number.number ≡ c.args.draws.count = omega arith in
    settled_counts (InProcess c.args.problem.now (draws_of c.args.problem.now c.args.draws.seed c.args.draws.first) (g.W.Watch.alters c.args.watch.now) c.args.conversation.now.talk) c.args.draws.count i.agreed.0 c.loop-number.agreed c.settled.result _ _ c.requires.some (subst (λ n. HaveAgreed (InProcess c.args.problem.now (draws_of c.args.problem.now c.args.draws.seed c.args.draws.first) (g.W.Watch.alters c.args.watch.now) c.args.conversation.now.talk) n i.agreed.0 c.loop-number.agreed) all i.agreed.2) c.settled.ensures i.faults
