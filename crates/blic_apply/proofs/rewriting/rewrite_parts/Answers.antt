use Rattle.std.proofs.Common.{arith, ◌≡◌, ◌+◌, ◌++◌, ◌∷◌, [], map, ◌∙◌, ap, subst, sym, refl, inl, inr}
use Rattle.std.proofs.lemmas.Result.{err_from_is_err_and}
use Rattle.std.proofs.lemmas.List.{nil_from_length}
use Rattle.blic_store.proofs.Made.{on_ok}
use Rattle.blic_store.proofs.Paths.{side_before}
use Rattle.blic_apply.specs.Changing.{IsStep}
use Rattle.blic_apply.specs.PartTable.{Enters}
use Rattle.blic_apply.specs.declared.rewriting.Waiting.{Waiting}
use Rattle.blic_apply.proofs.Changing.{IsReady, above_low, above_high}
use Rattle.blic_apply.proofs.Waits.{AreWaiting, IsResumed, path_of, path_push, resumed, waiting_part, waits_none, waits_push}
use Rattle.blic_apply.proofs.Walk.{IsWalk, in_hand, is_ready, has_changed, walk_first, walk_down, walk_adds, walk_answers}
use Rattle.blic_apply.proofs.Table.{fewer, if_ok, missing, missing_less}
use Rattle.blic_apply.proofs.rewriting.rewrite_parts.Goals as goal

pub up-init : goal.up-init
up-init c = record {
  walk = rw c.requires.none (walk_first c.args.change c.args.store.now.nodes c.args.a c.args.made.now c.canonical_law.ensures.canonical c.requires.held c.requires.unsettled c.requires.fresh);
  waits = rw c.requires.none (waits_none c.args.change c.args.store.now.nodes c.args.a);
  step = c.first_step-step.ensures;
  same_limit = refl;
}

pub first_step-step-requires-in-Low-clause-held : goal.first_step-step-requires-in-Low-clause-held
first_step-step-requires-in-Low-clause-held c =
    let step = subst (IsStep c.args.change c.up.store.nodes c.up.made c.up.at) c.in-Low.is c.up.invariant.step in
    let here = in_hand c.args.change c.args.store.now.nodes c.up.store.nodes c.args.a (map waiting_part c.up.waiting.items) c.up.at c.up.made c.up.invariant.walk in
    let before = side_before c.up.store.nodes c.up.invariant.walk.adds.canonical c.up.at c.in-Low.low here.led.1.held here.unsettled.inner (inl step.0) in
    let held = here.led.1.held in
    omega arith

pub first_step-step-requires-in-Low-clause-inner : goal.first_step-step-requires-in-Low-clause-inner
first_step-step-requires-in-Low-clause-inner c =
    let step = subst (IsStep c.args.change c.up.store.nodes c.up.made c.up.at) c.in-Low.is c.up.invariant.step in
    step.1.unsettled.inner

pub first_step-step-requires-in-Low-clause-made : goal.first_step-step-requires-in-Low-clause-made
first_step-step-requires-in-Low-clause-made c =
    has_changed c.args.change c.args.store.now.nodes c.up.store.nodes c.args.a (path_of c.up.waiting.items c.up.at) c.up.made c.up.invariant.walk

pub up-smaller-in-Low : goal.up-smaller-in-Low
up-smaller-in-Low c =
    let step = subst (IsStep c.args.change c.up.store.nodes c.up.made c.up.at) c.in-Low.is c.up.invariant.step in
    let here = in_hand c.args.change c.args.store.now.nodes c.up.store.nodes c.args.a (map waiting_part c.up.waiting.items) c.up.at c.up.made c.up.invariant.walk in
    let before = side_before c.up.store.nodes c.up.invariant.walk.adds.canonical c.up.at c.in-Low.low here.led.1.held here.unsettled.inner (inl step.0) in
    omega arith

pub up-preserved-in-Low : goal.up-preserved-in-Low
up-preserved-in-Low c =
    let step = subst (IsStep c.args.change c.up.store.nodes c.up.made c.up.at) c.in-Low.is c.up.invariant.step in
    let pushed : c.push.new.self.items ≡ c.up.waiting.items ++ (Waiting.Low c.up.at) ∷ [] = c.push.ensures.items ∙ if_ok c.push.result (c.up.waiting.items ++ (Waiting.Low c.up.at) ∷ []) c.up.waiting.items c.if-is_err.ensures.value in
    record {
      walk = subst (λ z. IsWalk c.args.change c.args.store.now.nodes c.up.store.nodes c.args.a (z ++ c.in-Low.low ∷ []) c.up.made) (sym (ap (map waiting_part) pushed ∙ path_push c.up.waiting.items (Waiting.Low c.up.at)))
          (walk_down c.args.change c.args.store.now.nodes c.up.store.nodes c.args.a (map waiting_part c.up.waiting.items) c.up.at c.in-Low.low c.up.made c.up.invariant.walk (inl step.0) step.1);
      waits = subst (λ z. AreWaiting c.args.change c.up.store.nodes z c.in-Low.low) (sym pushed) (waits_push c.args.change c.up.store.nodes c.up.waiting.items (Waiting.Low c.up.at) c.in-Low.low c.up.invariant.waits step.0);
      step = c.first_step-step-in-Low.ensures;
      same_limit = c.up.invariant.same_limit;
    }

pub first_step-step-requires-in-High-clause-held : goal.first_step-step-requires-in-High-clause-held
first_step-step-requires-in-High-clause-held c =
    let step = subst (IsStep c.args.change c.up.store.nodes c.up.made c.up.at) c.in-High.is c.up.invariant.step in
    let here = in_hand c.args.change c.args.store.now.nodes c.up.store.nodes c.args.a (map waiting_part c.up.waiting.items) c.up.at c.up.made c.up.invariant.walk in
    let before = side_before c.up.store.nodes c.up.invariant.walk.adds.canonical c.up.at c.in-High.high here.led.1.held here.unsettled.inner (inr step.1) in
    let held = here.led.1.held in
    omega arith

pub first_step-step-requires-in-High-clause-inner : goal.first_step-step-requires-in-High-clause-inner
first_step-step-requires-in-High-clause-inner c =
    let step = subst (IsStep c.args.change c.up.store.nodes c.up.made c.up.at) c.in-High.is c.up.invariant.step in
    step.2.unsettled.inner

pub first_step-step-requires-in-High-clause-made : goal.first_step-step-requires-in-High-clause-made
first_step-step-requires-in-High-clause-made c =
    has_changed c.args.change c.args.store.now.nodes c.up.store.nodes c.args.a (path_of c.up.waiting.items c.up.at) c.up.made c.up.invariant.walk

pub up-smaller-in-High : goal.up-smaller-in-High
up-smaller-in-High c =
    let step = subst (IsStep c.args.change c.up.store.nodes c.up.made c.up.at) c.in-High.is c.up.invariant.step in
    let here = in_hand c.args.change c.args.store.now.nodes c.up.store.nodes c.args.a (map waiting_part c.up.waiting.items) c.up.at c.up.made c.up.invariant.walk in
    let before = side_before c.up.store.nodes c.up.invariant.walk.adds.canonical c.up.at c.in-High.high here.led.1.held here.unsettled.inner (inr step.1) in
    omega arith

pub up-preserved-in-High : goal.up-preserved-in-High
up-preserved-in-High c =
    let step = subst (IsStep c.args.change c.up.store.nodes c.up.made c.up.at) c.in-High.is c.up.invariant.step in
    let pushed : c.push-in-High.new.self.items ≡ c.up.waiting.items ++ (Waiting.High c.up.at c.in-High.new_low) ∷ [] = c.push-in-High.ensures.items ∙ if_ok c.push-in-High.result (c.up.waiting.items ++ (Waiting.High c.up.at c.in-High.new_low) ∷ []) c.up.waiting.items c.if-is_err-2.ensures.value in
    record {
      walk = subst (λ z. IsWalk c.args.change c.args.store.now.nodes c.up.store.nodes c.args.a (z ++ c.in-High.high ∷ []) c.up.made) (sym (ap (map waiting_part) pushed ∙ path_push c.up.waiting.items (Waiting.High c.up.at c.in-High.new_low)))
          (walk_down c.args.change c.args.store.now.nodes c.up.store.nodes c.args.a (map waiting_part c.up.waiting.items) c.up.at c.in-High.high c.up.made c.up.invariant.walk (inr step.1) step.2);
      waits = subst (λ z. AreWaiting c.args.change c.up.store.nodes z c.in-High.high) (sym pushed) (waits_push c.args.change c.up.store.nodes c.up.waiting.items (Waiting.High c.up.at c.in-High.new_low) c.in-High.high c.up.invariant.waits (step.1, step.0));
      step = c.first_step-step-in-High.ensures;
      same_limit = c.up.invariant.same_limit;
    }

pub level-requires-clause-held : goal.level-requires-clause-held
level-requires-clause-held c =
    (in_hand c.args.change c.args.store.now.nodes c.up.store.nodes c.args.a (map waiting_part c.up.waiting.items) c.up.at c.up.made c.up.invariant.walk).led.1.held

pub level-requires-clause-inner : goal.level-requires-clause-inner
level-requires-clause-inner c =
    (in_hand c.args.change c.args.store.now.nodes c.up.store.nodes c.args.a (map waiting_part c.up.waiting.items) c.up.at c.up.made c.up.invariant.walk).unsettled.inner

pub make-requires-clause-lo_held : goal.make-requires-clause-lo_held
make-requires-clause-lo_held c =
    let ready : IsReady c.args.change c.up.store.nodes c.up.at c.in-Ready.new_low c.in-Ready.new_high =
    is_ready c.args.change c.args.store.now.nodes c.up.store.nodes c.args.a (map waiting_part c.up.waiting.items) c.up.at c.in-Ready.new_low c.in-Ready.new_high c.up.made c.up.invariant.walk (subst (IsStep c.args.change c.up.store.nodes c.up.made c.up.at) c.in-Ready.is c.up.invariant.step) in
    ready.low_side.held

pub make-requires-clause-hi_held : goal.make-requires-clause-hi_held
make-requires-clause-hi_held c =
    let ready : IsReady c.args.change c.up.store.nodes c.up.at c.in-Ready.new_low c.in-Ready.new_high =
    is_ready c.args.change c.args.store.now.nodes c.up.store.nodes c.args.a (map waiting_part c.up.waiting.items) c.up.at c.in-Ready.new_low c.in-Ready.new_high c.up.made c.up.invariant.walk (subst (IsStep c.args.change c.up.store.nodes c.up.made c.up.at) c.in-Ready.is c.up.invariant.step) in
    ready.high_side.held

pub make-requires-clause-above_lo : goal.make-requires-clause-above_lo
make-requires-clause-above_lo c =
    let ready : IsReady c.args.change c.up.store.nodes c.up.at c.in-Ready.new_low c.in-Ready.new_high =
    is_ready c.args.change c.args.store.now.nodes c.up.store.nodes c.args.a (map waiting_part c.up.waiting.items) c.up.at c.in-Ready.new_low c.in-Ready.new_high c.up.made c.up.invariant.walk (subst (IsStep c.args.change c.up.store.nodes c.up.made c.up.at) c.in-Ready.is c.up.invariant.step) in
    omega (arith, c.level.ensures, above_low c.args.change c.up.store.nodes c.up.at c.in-Ready.new_low c.in-Ready.new_high c.up.invariant.walk.adds.canonical ready)

pub make-requires-clause-above_hi : goal.make-requires-clause-above_hi
make-requires-clause-above_hi c =
    let ready : IsReady c.args.change c.up.store.nodes c.up.at c.in-Ready.new_low c.in-Ready.new_high =
    is_ready c.args.change c.args.store.now.nodes c.up.store.nodes c.args.a (map waiting_part c.up.waiting.items) c.up.at c.in-Ready.new_low c.in-Ready.new_high c.up.made c.up.invariant.walk (subst (IsStep c.args.change c.up.store.nodes c.up.made c.up.at) c.in-Ready.is c.up.invariant.step) in
    omega (arith, c.level.ensures, above_high c.args.change c.up.store.nodes c.up.at c.in-Ready.new_low c.in-Ready.new_high c.up.invariant.walk.adds.canonical ready)

pub returns-in_err-answer-in-Ready-clause-full : goal.returns-in_err-answer-in-Ready-clause-full
returns-in_err-answer-in-Ready-clause-full c e =
    let ready : IsReady c.args.change c.up.store.nodes c.up.at c.in-Ready.new_low c.in-Ready.new_high =
    is_ready c.args.change c.args.store.now.nodes c.up.store.nodes c.args.a (map waiting_part c.up.waiting.items) c.up.at c.in-Ready.new_low c.in-Ready.new_high c.up.made c.up.invariant.walk (subst (IsStep c.args.change c.up.store.nodes c.up.made c.up.at) c.in-Ready.is c.up.invariant.step) in
    let p = err_from_is_err_and c.from_residual.result c.from_residual.ensures.1 in
    let w = c.make.ensures.full (cc (c.in_err-answer-in-Ready.was, p.1, p.2, e)) in (
      w.0,
      walk_adds c.args.change c.args.store.now.nodes c.up.store.nodes w.0 c.args.a (map waiting_part c.up.waiting.items) c.up.at c.level.result c.in-Ready.new_low c.in-Ready.new_high c.up.made c.up.invariant.walk c.level.ensures ready w.1,
      omega (arith, w.2, c.up.invariant.same_limit),
    )

pub returns-in_default-clause-ok : goal.returns-in_default-clause-ok
returns-in_default-clause-ok c =
    let ready : IsReady c.args.change c.up.store.nodes c.up.at c.in-Ready.new_low c.in-Ready.new_high =
    is_ready c.args.change c.args.store.now.nodes c.up.store.nodes c.args.a (map waiting_part c.up.waiting.items) c.up.at c.in-Ready.new_low c.in-Ready.new_high c.up.made c.up.invariant.walk (subst (IsStep c.args.change c.up.store.nodes c.up.made c.up.at) c.in-Ready.is c.up.invariant.step) in
    let none : c.up.waiting.items ≡ [] = nil_from_length c.up.waiting.items (omega (arith, c.in_default.ensures.cases.0)) in
    walk_answers c.args.change c.args.store.now c.up.store c.make.new.self c.args.a c.up.at c.level.result c.in-Ready.new_low c.in-Ready.new_high c.in_ok-answer-in-Ready.answer c.up.made
    (subst (λ z. IsWalk c.args.change c.args.store.now.nodes c.up.store.nodes c.args.a (path_of z c.up.at) c.up.made) none c.up.invariant.walk)
    c.level.ensures ready c.up.invariant.same_limit c.in_ok-answer-in-Ready.ensures.ok

pub returns-then-is_err-3-clause-err : goal.returns-then-is_err-3-clause-err
returns-then-is_err-3-clause-err c =
    let ready : IsReady c.args.change c.up.store.nodes c.up.at c.in-Ready.new_low c.in-Ready.new_high =
    is_ready c.args.change c.args.store.now.nodes c.up.store.nodes c.args.a (map waiting_part c.up.waiting.items) c.up.at c.in-Ready.new_low c.in-Ready.new_high c.up.made c.up.invariant.walk (subst (IsStep c.args.change c.up.store.nodes c.up.made c.up.at) c.in-Ready.is c.up.invariant.step) in
    walk_adds c.args.change c.args.store.now.nodes c.up.store.nodes c.make.new.self.nodes c.args.a (map waiting_part c.up.waiting.items) c.up.at c.level.result c.in-Ready.new_low c.in-Ready.new_high c.up.made c.up.invariant.walk c.level.ensures ready c.in_ok-answer-in-Ready.ensures.ok.adds

pub second_step-step-requires-clause-held : goal.second_step-step-requires-clause-held
second_step-step-requires-clause-held c =
    let ready : IsReady c.args.change c.up.store.nodes c.up.at c.in-Ready.new_low c.in-Ready.new_high =
    is_ready c.args.change c.args.store.now.nodes c.up.store.nodes c.args.a (map waiting_part c.up.waiting.items) c.up.at c.in-Ready.new_low c.in-Ready.new_high c.up.made c.up.invariant.walk (subst (IsStep c.args.change c.up.store.nodes c.up.made c.up.at) c.in-Ready.is c.up.invariant.step) in
    let entered : Enters c.up.made c.enter.new.self c.up.at c.in_ok-answer-in-Ready.answer = on_ok c.enter.result (Enters c.up.made c.enter.new.self c.up.at c.in_ok-answer-in-Ready.answer) c.if-is_err-3.ensures.value c.enter.ensures in
    let next : IsResumed c.args.change c.args.store.now.nodes c.make.new.self.nodes c.args.a c.pop.new.self.items (Waiting.Low c.in-Low-above.part) c.enter.new.self c.in_ok-answer-in-Ready.answer =
    subst (λ f. IsResumed c.args.change c.args.store.now.nodes c.make.new.self.nodes c.args.a c.pop.new.self.items f c.enter.new.self c.in_ok-answer-in-Ready.answer) c.in-Low-above.is
    (resumed c.args.change c.args.store.now.nodes c.up.store c.make.new.self c.args.a c.up.waiting.items c.pop.new.self.items c.in-Some.above c.up.at c.level.result c.in-Ready.new_low c.in-Ready.new_high c.in_ok-answer-in-Ready.answer c.up.made c.enter.new.self
    c.up.invariant.walk c.up.invariant.waits c.in-Some.ensures.items c.level.ensures ready c.in_ok-answer-in-Ready.ensures.ok entered) in
    (in_hand c.args.change c.args.store.now.nodes c.make.new.self.nodes c.args.a (map waiting_part c.pop.new.self.items) c.in-Low-above.part c.enter.new.self next.walk).led.1.held

pub second_step-step-requires-clause-inner : goal.second_step-step-requires-clause-inner
second_step-step-requires-clause-inner c =
    let ready : IsReady c.args.change c.up.store.nodes c.up.at c.in-Ready.new_low c.in-Ready.new_high =
    is_ready c.args.change c.args.store.now.nodes c.up.store.nodes c.args.a (map waiting_part c.up.waiting.items) c.up.at c.in-Ready.new_low c.in-Ready.new_high c.up.made c.up.invariant.walk (subst (IsStep c.args.change c.up.store.nodes c.up.made c.up.at) c.in-Ready.is c.up.invariant.step) in
    let entered : Enters c.up.made c.enter.new.self c.up.at c.in_ok-answer-in-Ready.answer = on_ok c.enter.result (Enters c.up.made c.enter.new.self c.up.at c.in_ok-answer-in-Ready.answer) c.if-is_err-3.ensures.value c.enter.ensures in
    let next : IsResumed c.args.change c.args.store.now.nodes c.make.new.self.nodes c.args.a c.pop.new.self.items (Waiting.Low c.in-Low-above.part) c.enter.new.self c.in_ok-answer-in-Ready.answer =
    subst (λ f. IsResumed c.args.change c.args.store.now.nodes c.make.new.self.nodes c.args.a c.pop.new.self.items f c.enter.new.self c.in_ok-answer-in-Ready.answer) c.in-Low-above.is
    (resumed c.args.change c.args.store.now.nodes c.up.store c.make.new.self c.args.a c.up.waiting.items c.pop.new.self.items c.in-Some.above c.up.at c.level.result c.in-Ready.new_low c.in-Ready.new_high c.in_ok-answer-in-Ready.answer c.up.made c.enter.new.self
    c.up.invariant.walk c.up.invariant.waits c.in-Some.ensures.items c.level.ensures ready c.in_ok-answer-in-Ready.ensures.ok entered) in
    (in_hand c.args.change c.args.store.now.nodes c.make.new.self.nodes c.args.a (map waiting_part c.pop.new.self.items) c.in-Low-above.part c.enter.new.self next.walk).unsettled.inner

pub second_step-step-requires-clause-made : goal.second_step-step-requires-clause-made
second_step-step-requires-clause-made c =
    let ready : IsReady c.args.change c.up.store.nodes c.up.at c.in-Ready.new_low c.in-Ready.new_high =
    is_ready c.args.change c.args.store.now.nodes c.up.store.nodes c.args.a (map waiting_part c.up.waiting.items) c.up.at c.in-Ready.new_low c.in-Ready.new_high c.up.made c.up.invariant.walk (subst (IsStep c.args.change c.up.store.nodes c.up.made c.up.at) c.in-Ready.is c.up.invariant.step) in
    let entered : Enters c.up.made c.enter.new.self c.up.at c.in_ok-answer-in-Ready.answer = on_ok c.enter.result (Enters c.up.made c.enter.new.self c.up.at c.in_ok-answer-in-Ready.answer) c.if-is_err-3.ensures.value c.enter.ensures in
    let next : IsResumed c.args.change c.args.store.now.nodes c.make.new.self.nodes c.args.a c.pop.new.self.items (Waiting.Low c.in-Low-above.part) c.enter.new.self c.in_ok-answer-in-Ready.answer =
    subst (λ f. IsResumed c.args.change c.args.store.now.nodes c.make.new.self.nodes c.args.a c.pop.new.self.items f c.enter.new.self c.in_ok-answer-in-Ready.answer) c.in-Low-above.is
    (resumed c.args.change c.args.store.now.nodes c.up.store c.make.new.self c.args.a c.up.waiting.items c.pop.new.self.items c.in-Some.above c.up.at c.level.result c.in-Ready.new_low c.in-Ready.new_high c.in_ok-answer-in-Ready.answer c.up.made c.enter.new.self
    c.up.invariant.walk c.up.invariant.waits c.in-Some.ensures.items c.level.ensures ready c.in_ok-answer-in-Ready.ensures.ok entered) in
    has_changed c.args.change c.args.store.now.nodes c.make.new.self.nodes c.args.a (path_of c.pop.new.self.items c.in-Low-above.part) c.enter.new.self next.walk

pub second_step-step-requires-clause-low : goal.second_step-step-requires-clause-low
second_step-step-requires-clause-low c =
    let ready : IsReady c.args.change c.up.store.nodes c.up.at c.in-Ready.new_low c.in-Ready.new_high =
    is_ready c.args.change c.args.store.now.nodes c.up.store.nodes c.args.a (map waiting_part c.up.waiting.items) c.up.at c.in-Ready.new_low c.in-Ready.new_high c.up.made c.up.invariant.walk (subst (IsStep c.args.change c.up.store.nodes c.up.made c.up.at) c.in-Ready.is c.up.invariant.step) in
    let entered : Enters c.up.made c.enter.new.self c.up.at c.in_ok-answer-in-Ready.answer = on_ok c.enter.result (Enters c.up.made c.enter.new.self c.up.at c.in_ok-answer-in-Ready.answer) c.if-is_err-3.ensures.value c.enter.ensures in
    let next : IsResumed c.args.change c.args.store.now.nodes c.make.new.self.nodes c.args.a c.pop.new.self.items (Waiting.Low c.in-Low-above.part) c.enter.new.self c.in_ok-answer-in-Ready.answer =
    subst (λ f. IsResumed c.args.change c.args.store.now.nodes c.make.new.self.nodes c.args.a c.pop.new.self.items f c.enter.new.self c.in_ok-answer-in-Ready.answer) c.in-Low-above.is
    (resumed c.args.change c.args.store.now.nodes c.up.store c.make.new.self c.args.a c.up.waiting.items c.pop.new.self.items c.in-Some.above c.up.at c.level.result c.in-Ready.new_low c.in-Ready.new_high c.in_ok-answer-in-Ready.answer c.up.made c.enter.new.self
    c.up.invariant.walk c.up.invariant.waits c.in-Some.ensures.items c.level.ensures ready c.in_ok-answer-in-Ready.ensures.ok entered) in
    next.sides

pub up-smaller-in-Low-above : goal.up-smaller-in-Low-above
up-smaller-in-Low-above c =
    let ready : IsReady c.args.change c.up.store.nodes c.up.at c.in-Ready.new_low c.in-Ready.new_high =
    is_ready c.args.change c.args.store.now.nodes c.up.store.nodes c.args.a (map waiting_part c.up.waiting.items) c.up.at c.in-Ready.new_low c.in-Ready.new_high c.up.made c.up.invariant.walk (subst (IsStep c.args.change c.up.store.nodes c.up.made c.up.at) c.in-Ready.is c.up.invariant.step) in
    let entered : Enters c.up.made c.enter.new.self c.up.at c.in_ok-answer-in-Ready.answer = on_ok c.enter.result (Enters c.up.made c.enter.new.self c.up.at c.in_ok-answer-in-Ready.answer) c.if-is_err-3.ensures.value c.enter.ensures in
    let next : IsResumed c.args.change c.args.store.now.nodes c.make.new.self.nodes c.args.a c.pop.new.self.items (Waiting.Low c.in-Low-above.part) c.enter.new.self c.in_ok-answer-in-Ready.answer =
    subst (λ f. IsResumed c.args.change c.args.store.now.nodes c.make.new.self.nodes c.args.a c.pop.new.self.items f c.enter.new.self c.in_ok-answer-in-Ready.answer) c.in-Low-above.is
    (resumed c.args.change c.args.store.now.nodes c.up.store c.make.new.self c.args.a c.up.waiting.items c.pop.new.self.items c.in-Some.above c.up.at c.level.result c.in-Ready.new_low c.in-Ready.new_high c.in_ok-answer-in-Ready.answer c.up.made c.enter.new.self
    c.up.invariant.walk c.up.invariant.waits c.in-Some.ensures.items c.level.ensures ready c.in_ok-answer-in-Ready.ensures.ok entered) in
    let here = in_hand c.args.change c.args.store.now.nodes c.up.store.nodes c.args.a (map waiting_part c.up.waiting.items) c.up.at c.up.made c.up.invariant.walk in
    let at_most = here.in_range in
    fewer c.args.a (missing c.up.made (c.args.a + 1)) (missing c.enter.new.self (c.args.a + 1)) c.up.at c.in-Low-above.part
    (missing_less c.up.made c.enter.new.self c.up.at c.in_ok-answer-in-Ready.answer (c.args.a + 1) entered here.unmade (omega arith))
    (in_hand c.args.change c.args.store.now.nodes c.make.new.self.nodes c.args.a (map waiting_part c.pop.new.self.items) c.in-Low-above.part c.enter.new.self next.walk).in_range

pub up-preserved-in-Low-above : goal.up-preserved-in-Low-above
up-preserved-in-Low-above c =
    let ready : IsReady c.args.change c.up.store.nodes c.up.at c.in-Ready.new_low c.in-Ready.new_high =
    is_ready c.args.change c.args.store.now.nodes c.up.store.nodes c.args.a (map waiting_part c.up.waiting.items) c.up.at c.in-Ready.new_low c.in-Ready.new_high c.up.made c.up.invariant.walk (subst (IsStep c.args.change c.up.store.nodes c.up.made c.up.at) c.in-Ready.is c.up.invariant.step) in
    let entered : Enters c.up.made c.enter.new.self c.up.at c.in_ok-answer-in-Ready.answer = on_ok c.enter.result (Enters c.up.made c.enter.new.self c.up.at c.in_ok-answer-in-Ready.answer) c.if-is_err-3.ensures.value c.enter.ensures in
    let next : IsResumed c.args.change c.args.store.now.nodes c.make.new.self.nodes c.args.a c.pop.new.self.items (Waiting.Low c.in-Low-above.part) c.enter.new.self c.in_ok-answer-in-Ready.answer =
    subst (λ f. IsResumed c.args.change c.args.store.now.nodes c.make.new.self.nodes c.args.a c.pop.new.self.items f c.enter.new.self c.in_ok-answer-in-Ready.answer) c.in-Low-above.is
    (resumed c.args.change c.args.store.now.nodes c.up.store c.make.new.self c.args.a c.up.waiting.items c.pop.new.self.items c.in-Some.above c.up.at c.level.result c.in-Ready.new_low c.in-Ready.new_high c.in_ok-answer-in-Ready.answer c.up.made c.enter.new.self
    c.up.invariant.walk c.up.invariant.waits c.in-Some.ensures.items c.level.ensures ready c.in_ok-answer-in-Ready.ensures.ok entered) in
    record { walk = next.walk; waits = next.waits; step = c.second_step-step.ensures; same_limit = c.in_ok-answer-in-Ready.ensures.ok.same_limit ∙ c.up.invariant.same_limit }

pub up-smaller : goal.up-smaller
up-smaller c =
    let ready : IsReady c.args.change c.up.store.nodes c.up.at c.in-Ready.new_low c.in-Ready.new_high =
    is_ready c.args.change c.args.store.now.nodes c.up.store.nodes c.args.a (map waiting_part c.up.waiting.items) c.up.at c.in-Ready.new_low c.in-Ready.new_high c.up.made c.up.invariant.walk (subst (IsStep c.args.change c.up.store.nodes c.up.made c.up.at) c.in-Ready.is c.up.invariant.step) in
    let entered : Enters c.up.made c.enter.new.self c.up.at c.in_ok-answer-in-Ready.answer = on_ok c.enter.result (Enters c.up.made c.enter.new.self c.up.at c.in_ok-answer-in-Ready.answer) c.if-is_err-3.ensures.value c.enter.ensures in
    let next : IsResumed c.args.change c.args.store.now.nodes c.make.new.self.nodes c.args.a c.pop.new.self.items (Waiting.High c.in-High-above.part c.in-High-above.low) c.enter.new.self c.in_ok-answer-in-Ready.answer =
    subst (λ f. IsResumed c.args.change c.args.store.now.nodes c.make.new.self.nodes c.args.a c.pop.new.self.items f c.enter.new.self c.in_ok-answer-in-Ready.answer) c.in-High-above.is
    (resumed c.args.change c.args.store.now.nodes c.up.store c.make.new.self c.args.a c.up.waiting.items c.pop.new.self.items c.in-Some.above c.up.at c.level.result c.in-Ready.new_low c.in-Ready.new_high c.in_ok-answer-in-Ready.answer c.up.made c.enter.new.self
    c.up.invariant.walk c.up.invariant.waits c.in-Some.ensures.items c.level.ensures ready c.in_ok-answer-in-Ready.ensures.ok entered) in
    let here = in_hand c.args.change c.args.store.now.nodes c.up.store.nodes c.args.a (map waiting_part c.up.waiting.items) c.up.at c.up.made c.up.invariant.walk in
    let at_most = here.in_range in
    fewer c.args.a (missing c.up.made (c.args.a + 1)) (missing c.enter.new.self (c.args.a + 1)) c.up.at c.in-High-above.part
    (missing_less c.up.made c.enter.new.self c.up.at c.in_ok-answer-in-Ready.answer (c.args.a + 1) entered here.unmade (omega arith))
    (in_hand c.args.change c.args.store.now.nodes c.make.new.self.nodes c.args.a (map waiting_part c.pop.new.self.items) c.in-High-above.part c.enter.new.self next.walk).in_range

pub up-preserved : goal.up-preserved
up-preserved c =
    let ready : IsReady c.args.change c.up.store.nodes c.up.at c.in-Ready.new_low c.in-Ready.new_high =
    is_ready c.args.change c.args.store.now.nodes c.up.store.nodes c.args.a (map waiting_part c.up.waiting.items) c.up.at c.in-Ready.new_low c.in-Ready.new_high c.up.made c.up.invariant.walk (subst (IsStep c.args.change c.up.store.nodes c.up.made c.up.at) c.in-Ready.is c.up.invariant.step) in
    let entered : Enters c.up.made c.enter.new.self c.up.at c.in_ok-answer-in-Ready.answer = on_ok c.enter.result (Enters c.up.made c.enter.new.self c.up.at c.in_ok-answer-in-Ready.answer) c.if-is_err-3.ensures.value c.enter.ensures in
    let next : IsResumed c.args.change c.args.store.now.nodes c.make.new.self.nodes c.args.a c.pop.new.self.items (Waiting.High c.in-High-above.part c.in-High-above.low) c.enter.new.self c.in_ok-answer-in-Ready.answer =
    subst (λ f. IsResumed c.args.change c.args.store.now.nodes c.make.new.self.nodes c.args.a c.pop.new.self.items f c.enter.new.self c.in_ok-answer-in-Ready.answer) c.in-High-above.is
    (resumed c.args.change c.args.store.now.nodes c.up.store c.make.new.self c.args.a c.up.waiting.items c.pop.new.self.items c.in-Some.above c.up.at c.level.result c.in-Ready.new_low c.in-Ready.new_high c.in_ok-answer-in-Ready.answer c.up.made c.enter.new.self
    c.up.invariant.walk c.up.invariant.waits c.in-Some.ensures.items c.level.ensures ready c.in_ok-answer-in-Ready.ensures.ok entered) in
    record { walk = next.walk; waits = next.waits; step = next.sides; same_limit = c.in_ok-answer-in-Ready.ensures.ok.same_limit ∙ c.up.invariant.same_limit }
