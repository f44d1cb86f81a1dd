use Rattle.std.proofs.Common.{◌≡◌, refl, ◌∙◌, ap, subst, arith}
use Rattle.blic_talk.proofs.Onward.{nothing_more}
use Rattle.blic_top.specs.Conversing.{OverLink, Records}
use Rattle.blic_top.specs.Deed.{joined, silent}
use Rattle.blic_top.specs.Series.{draws_of}
use Rattle.blic_top.specs.Turning.{HaveAgreed}
use Rattle.blic_top.proofs.Coursing.{all_agreed, counted, decided, none_agreed, one_more, settled_counts, some_agreed, still}
use Rattle.blic_top.proofs.DrawCount.{fewer}
use Rattle.blic_top.proofs.Led.{none_missed, same_turn}
use Rattle.blic_top.proofs.Traces.{dialed_more, dialed_none}
use Rattle.blic_top.proofs.verify.lead.Goals as goal

pub loop-number-init : goal.loop-number-init
loop-number-init g c = record {
  same = refl;
  free = c.requires.free;
  faults = refl;
  agreed = (silent, dialed_none _, none_agreed (OverLink c.args.problem.now (draws_of c.args.problem.now c.args.draws.seed c.args.draws.first) c.args.client.now.talk), nothing_more _);
}

pub lead_one-verdict-requires : goal.lead_one-verdict-requires
lead_one-verdict-requires g c =
    let i = c.loop-number.invariant in
    let d = c.args.draws in
    record {
      free = i.free;
      about = ap (λ x. x.about) i.same ∙ c.requires.about;
      each = c.requires.each;
      few = fewer d.first c.loop-number.number d.count d.each (omega arith) c.requires.few;
    }

pub loop-number-preserved : goal.loop-number-preserved
loop-number-preserved g c =
    let i = c.loop-number.invariant in
    let p = c.args.problem.now in
    let d = c.args.draws in
    let draws = draws_of p d.seed d.first in
    let talk = c.args.client.now.talk in
    let turn = c.lead_one-verdict.ensures.turn in
    let none = none_missed p draws talk c.loop-number.number i.agreed.0 c.loop-number.agreed i.agreed.2 in
    let next = one_more (OverLink p draws talk) (Records p draws talk) c.loop-number.number i.agreed.0 turn.0 c.loop-number.agreed _ _ _ c.lead_one-verdict.result c.in-Ok.truth i.agreed.2 i.agreed.3
    (same_turn p draws talk _ c.loop-number.number turn.0 _ _ c.lead_one-verdict.result (ap (λ x. x.talk) i.same) turn.2) c.in-Ok.ensures in
    record {
      same = c.lead_one-verdict.ensures.same ∙ i.same;
      free = c.lead_one-verdict.ensures.free;
      faults = still c.loop-number.agreed c.lead_one-verdict.result c.in-Ok.truth _ _ _ i.faults c.lead_one-verdict.ensures.cause c.in-Ok.ensures;
      agreed = (joined i.agreed.0 turn.0, dialed_more _ _ _ i.agreed.0 turn.0 none i.agreed.1 turn.1, next.0, next.1);
    }

pub returns-in-Err-clause-comes : goal.returns-in-Err-clause-comes
returns-in-Err-clause-comes g c =
    let i = c.loop-number.invariant in
    let p = c.args.problem.now in
    let d = c.args.draws in
    let draws = draws_of p d.seed d.first in
    let talk = c.args.client.now.talk in
    let turn = c.lead_one-verdict.ensures.turn in
    let none = none_missed p draws talk c.loop-number.number i.agreed.0 c.loop-number.agreed i.agreed.2 in (
      joined i.agreed.0 turn.0,
      dialed_more _ _ _ i.agreed.0 turn.0 none i.agreed.1 turn.1,
      decided (OverLink p draws talk) (Records p draws talk) c.loop-number.number d.count i.agreed.0 turn.0 c.loop-number.agreed _ _ _ c.lead_one-verdict.result c.in-Err.course (omega arith) i.agreed.2 i.agreed.3
          (same_turn p draws talk _ c.loop-number.number turn.0 _ _ c.lead_one-verdict.result (ap (λ x. x.talk) i.same) turn.2) c.in-Err.ensures,
    )

pub settled-requires : goal.settled-requires
settled-requires g c =
    let i = c.loop-number.invariant in
    let all : c.loop-number.number ≡ c.args.draws.count = omega arith in
    record { some = some_agreed (OverLink c.args.problem.now (draws_of c.args.problem.now c.args.draws.seed c.args.draws.first) c.args.client.now.talk) c.args.draws.count i.agreed.0 c.loop-number.agreed c.requires.some (subst (λ n. HaveAgreed (OverLink c.args.problem.now (draws_of c.args.problem.now c.args.draws.seed c.args.draws.first) c.args.client.now.talk) n i.agreed.0 c.loop-number.agreed) all i.agreed.2) }

pub returns-clause-comes : goal.returns-clause-comes
returns-clause-comes g c =
    let i = c.loop-number.invariant in
    let all : c.loop-number.number ≡ c.args.draws.count = omega arith in (
      i.agreed.0,
      i.agreed.1,
      all_agreed (OverLink c.args.problem.now (draws_of c.args.problem.now c.args.draws.seed c.args.draws.first) c.args.client.now.talk) (Records c.args.problem.now (draws_of c.args.problem.now c.args.draws.seed c.args.draws.first) c.args.client.now.talk) c.args.draws.count i.agreed.0 c.loop-number.agreed _ _ c.settled.result c.requires.some (subst (λ n. HaveAgreed (OverLink c.args.problem.now (draws_of c.args.problem.now c.args.draws.seed c.args.draws.first) c.args.client.now.talk) n i.agreed.0 c.loop-number.agreed) all i.agreed.2) i.agreed.3 c.settled.ensures,
    )

pub returns-in-Err-clause-cause : goal.returns-in-Err-clause-cause
returns-in-Err-clause-cause g c =
    counted c.loop-number.agreed c.lead_one-verdict.result c.in-Err.course _ _ _ c.loop-number.invariant.faults c.lead_one-verdict.ensures.cause c.in-Err.ensures

pub returns-clause-cause : goal.returns-clause-cause
returns-clause-cause g c =
    let i = c.loop-number.invariant in
    let all : c.loop-number.number ≡ c.args.draws.count = omega arith in
    settled_counts (OverLink c.args.problem.now (draws_of c.args.problem.now c.args.draws.seed c.args.draws.first) c.args.client.now.talk) c.args.draws.count i.agreed.0 c.loop-number.agreed c.settled.result _ _ c.requires.some (subst (λ n. HaveAgreed (OverLink c.args.problem.now (draws_of c.args.problem.now c.args.draws.seed c.args.draws.first) c.args.client.now.talk) n i.agreed.0 c.loop-number.agreed) all i.agreed.2) c.settled.ensures i.faults
