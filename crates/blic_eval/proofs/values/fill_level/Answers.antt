use Rattle.std.proofs.Common.{arith, ◌∙◌, ◌≡◌, ◌+◌, refl, inl, inr, ap, get_or}
use Rattle.std.specs.Prelude.{set}
use Rattle.std.proofs.lemmas.Bool.{cases_lt}
use Rattle.std.proofs.lemmas.List.{length-set}
use Rattle.blic_eval.specs.Lines.{line_of}
use Rattle.blic_eval.specs.Reached.{level_in}
use Rattle.blic_eval.proofs.Keeping.{level_value, written_other}
use Rattle.blic_eval.proofs.Reaching.{reached_few}
use Rattle.blic_eval.proofs.Refs.{line_of-set_same, values_more}
use Rattle.blic_eval.proofs.values.fill_level.Goals as goal

pub overflow_add-n : goal.overflow_add-n
overflow_add-n g c =
    let some = c.requires.reached in
    let few = reached_few c.args.store.now.nodes some.a some.b c.args.reached.now some.reached in
    let most = c.canonical_law.ensures.in_range in
    let next = c.in-Some.ensures.some.0 in
    omega arith

pub next-preserved : goal.next-preserved
next-preserved g c =
    let nodes = c.args.store.now.nodes in
    let reached = c.args.reached.now in
    let n = c.next.n in
    let k = get_or reached n 0 in
    let a = c.constant.result in
    let more = c.next.invariant.more in
    let next = c.in-Some.ensures.some.0 in
    let own = c.in-Some.ensures.some.1 in
    let not_under = c.if-own-level.false in
    let not_above = c.requires.above.under n more next in
    let long = c.next.invariant.long in
    let room = c.requires.inside n next in
    let count = c.next.invariant.count in
    let one = c.value_of_decision.ensures.count in
    let closed = c.requires.reached.reached.closed in
    let few = c.requires.above.few in
    let value = ap (λ z. z.c0) c.constant.ensures in
    record {
      more = omega arith;
      inside = omega arith;
      above = λ i l. elim (cases_lt i n) [
        | inl f ↦ c.next.invariant.above i f
        | inr f ↦ (let here : i ≡ n = omega arith in let same = ap (level_in nodes reached) here in omega arith)
      ];
      long = length-set c.next.lines k a ∙ long;
      before = λ i l. written_other c.next.lines reached i n a closed.once (omega arith) next (λ e. absurd (omega arith)) ∙ c.next.invariant.before i l;
      flat = λ i l m. elim (cases_lt i n) [
        | inl f ↦ ap (λ z. z.c1) (written_other c.next.lines reached i n a closed.once (omega arith) next (λ e. absurd (omega arith))) ∙ c.next.invariant.flat i l f
        | inr f ↦
            let here : i ≡ n = omega arith in
            ap (λ z. (line_of (set c.next.lines k a) (get_or reached z 0 + 2)).c1) here
            ∙ (ap (λ z. z.c1) (line_of-set_same c.next.lines k (k + 2) a (omega arith) refl) ∙ ap (λ z. z.c1) c.constant.ensures)
      ];
      values = λ levels s in_levels element old.
          let before = c.next.invariant.values levels s in_levels element old in
          let is = level_value nodes c.canonical_law.ensures.canonical levels s c.next.lines reached n c.args.level c.args.r c.value_of_decision.result c.requires.reached next (omega arith) in_levels element before
          c.value_of_decision.ensures.value in
          values_more nodes levels s c.next.lines reached n k c.value_of_decision.result a c.requires.reached next refl (omega arith) before c.constant.ensures is;
      count = omega arith;
    }
