use Rattle.std.proofs.Common.{arith, ◌-◌, ap, false, length}
use Rattle.std.specs.List.{list_any}
use Rattle.std.specs.BTreeSet.{contains}
use Rattle.std.proofs.lemmas.List.{drop_all}
use Rattle.blic_model.specs.declared.node.Node.TheVariants.{Const}
use Rattle.blic_model.specs.Shape.{all_differ}
use Rattle.blic_model.specs.contracts.node.NodeOrd.TheImpl.{cmp-value}
use Rattle.blic_model.proofs.DifferentNodes.{has_none, has_more, is_new, is_old}
use Rattle.blic_model.proofs.shape.all_differ.Goals as goal

pub loop-i-init : goal.loop-i-init
loop-i-init c = record {
  inside = omega arith;
  differ = ap all_differ (drop_all (length c.args.nodes.now) c.args.nodes.now (omega arith));
  seen = has_none c.args.nodes.now (contains cmp-value.it c.new-seen.result) (λ q. ap (list_any _) c.new-seen.ensures.empty);
}

pub loop-i-preserved : goal.loop-i-preserved
loop-i-preserved c =
    let j = c.loop-i.i - 1 in
    record {
      inside = omega arith;
      differ = is_new c.args.nodes.now c.loop-i.i j (Const false) (contains cmp-value.it c.loop-i.seen) c.in_ok-insert.field-0 (omega arith) (omega arith) c.loop-i.invariant.seen
          c.in_ok-insert.ensures.added c.if-not-branch.false c.loop-i.invariant.differ;
      seen = has_more c.args.nodes.now c.loop-i.i j (Const false) (contains cmp-value.it c.loop-i.seen) (contains cmp-value.it c.insert.new.self) (omega arith) (omega arith)
          c.loop-i.invariant.seen c.in_ok-insert.ensures.updates.0;
    }

pub returns-then-not-branch : goal.returns-then-not-branch
returns-then-not-branch c =
    is_old c.args.nodes.now c.loop-i.i (c.loop-i.i - 1) (Const false) (contains cmp-value.it c.loop-i.seen) c.in_ok-insert.field-0 (omega arith) (omega arith) c.loop-i.invariant.seen
    c.in_ok-insert.ensures.added c.if-not-branch.true
