use Rattle.std.proofs.Common.{arith, ◌≡◌, ◌+◌, ◌-◌, ◌++◌, ◌∷◌, [], refl, sym, ◌∙◌, ap, subst, length}
use Rattle.std.proofs.lemmas.List.{length_push, nil_from_length}
use Rattle.blic_store.specs.Numbers.{Lacks}
use Rattle.blic_store.proofs.Paths.{side_before, smaller}
use Rattle.blic_eval.specs.Reached.{IsAmong}
use Rattle.blic_eval.specs.Reached.{IsClosed}
use Rattle.blic_eval.specs.Walks.{AddsParts}
use Rattle.blic_eval.proofs.Numbering.{with_decision}
use Rattle.blic_eval.proofs.Walking.{IsWalk, closed_fewer, in_hand, walk_adds, walk_down, walk_ends, walk_first, walk_up}
use Rattle.blic_eval.proofs.reached.walk.Goals as goal

pub up-init : goal.up-init
up-init c = record {
  walk = walk_first c.args.store.now.nodes c.canonical_law.ensures.canonical c.args.r c.in-Some.at c.args.set.now.numbers c.clear.new.self.items c.clear.ensures.items c.requires.held
      c.requires.closed c.in-Some.ensures.some.0 c.in-Some.ensures.some.1 c.in-Some.ensures.some.2;
  room = refl;
  capacity = c.clear.ensures.capacity;
}

pub missing_side-requires-clause-held : goal.missing_side-requires-clause-held
missing_side-requires-clause-held c =
    (in_hand c.args.store.now.nodes c.args.r c.args.set.now.numbers c.up.set.numbers c.up.path.items c.up.at c.requires.held c.up.invariant.walk).led.1.held

pub missing_side-requires-clause-inner : goal.missing_side-requires-clause-inner
missing_side-requires-clause-inner c =
    (in_hand c.args.store.now.nodes c.args.r c.args.set.now.numbers c.up.set.numbers c.up.path.items c.up.at c.requires.held c.up.invariant.walk).inner

pub missing_side-requires-clause-room : goal.missing_side-requires-clause-room
missing_side-requires-clause-room c =
    let room = c.up.invariant.room in
    let enough = c.requires.room in
    omega arith

pub push_reserved-requires : goal.push_reserved-requires
push_reserved-requires c =
    let here = (in_hand c.args.store.now.nodes c.args.r c.args.set.now.numbers c.up.set.numbers c.up.path.items c.up.at c.requires.held c.up.invariant.walk) in
    let short = here.short in
    let inner = here.inner in
    let long = c.up.path.ok in
    let capacity = c.up.invariant.capacity in
    let enough = c.requires.path in
    omega arith

pub up-smaller-in-Some-missing_side : goal.up-smaller-in-Some-missing_side
up-smaller-in-Some-missing_side c =
    let here = (in_hand c.args.store.now.nodes c.args.r c.args.set.now.numbers c.up.set.numbers c.up.path.items c.up.at c.requires.held c.up.invariant.walk) in
    let before = side_before c.args.store.now.nodes c.canonical_law.ensures.canonical c.up.at c.in-Some-missing_side.side here.led.1.held here.inner c.in-Some-missing_side.ensures.some.side in
    omega arith

pub up-preserved-in-Some-missing_side : goal.up-preserved-in-Some-missing_side
up-preserved-in-Some-missing_side c = record {
  walk = subst (λ xs. IsWalk c.args.store.now.nodes c.args.r c.args.set.now.numbers c.up.set.numbers (xs ++ c.in-Some-missing_side.side ∷ [])) (sym c.push_reserved.ensures.items)
      (walk_down c.args.store.now.nodes c.args.r c.args.set.now.numbers c.up.set.numbers c.up.path.items c.up.at c.in-Some-missing_side.side c.up.invariant.walk c.in-Some-missing_side.ensures.some);
  room = c.up.invariant.room;
  capacity = c.push_reserved.ensures.capacity ∙ c.up.invariant.capacity;
}

pub add-requires-clause-room : goal.add-requires-clause-room
add-requires-clause-room c =
    let here = (in_hand c.args.store.now.nodes c.args.r c.args.set.now.numbers c.up.set.numbers c.up.path.items c.up.at c.requires.held c.up.invariant.walk) in
    let short = here.short in
    let inner = here.inner in
    let room = c.up.invariant.room in
    let enough = c.requires.room in
    omega arith

pub add-requires-clause-new : goal.add-requires-clause-new
add-requires-clause-new c =
    subst (λ z. Lacks c.up.set.numbers (z - 2)) (sym c.number.ensures)
    (in_hand c.args.store.now.nodes c.args.r c.args.set.now.numbers c.up.set.numbers c.up.path.items c.up.at c.requires.held c.up.invariant.walk).lacks

pub returns-in_default-pop-clause-closed : goal.returns-in_default-pop-clause-closed
returns-in_default-pop-clause-closed c =
    subst (λ s. IsClosed c.args.store.now.nodes s.numbers) (sym (with_decision c.up.set c.add.new.self c.number.result c.up.at c.number.ensures c.add.ensures))
    (walk_adds c.args.store.now.nodes c.args.r c.args.set.now.numbers c.up.set.numbers c.up.path.items c.up.at c.up.invariant.walk c.in-None.ensures.none).closed

pub returns-in_default-pop-clause-adds : goal.returns-in_default-pop-clause-adds
returns-in_default-pop-clause-adds c =
    subst (λ s. AddsParts c.args.store.now.nodes c.args.r c.args.set.now.numbers s.numbers) (sym (with_decision c.up.set c.add.new.self c.number.result c.up.at c.number.ensures c.add.ensures))
    (walk_adds c.args.store.now.nodes c.args.r c.args.set.now.numbers c.up.set.numbers c.up.path.items c.up.at c.up.invariant.walk c.in-None.ensures.none).adds

pub returns-in_default-pop-clause-reached : goal.returns-in_default-pop-clause-reached
returns-in_default-pop-clause-reached c =
    let none : c.up.path.items ≡ [] = let ok = c.up.path.ok in let no = c.in_default-pop.ensures.cases.0 in nil_from_length c.up.path.items (omega arith) in
    subst (λ s. IsAmong s.numbers (length s.numbers) c.args.r) (sym (with_decision c.up.set c.add.new.self c.number.result c.up.at c.number.ensures c.add.ensures))
    (walk_ends c.args.store.now.nodes c.args.r c.args.set.now.numbers c.up.set.numbers c.up.path.items c.up.at none c.up.invariant.walk)

pub returns-in_default-pop-clause-room : goal.returns-in_default-pop-clause-room
returns-in_default-pop-clause-room c = ap (λ s. s.room) c.add.ensures ∙ c.up.invariant.room

pub returns-in_default-pop-clause-path : goal.returns-in_default-pop-clause-path
returns-in_default-pop-clause-path c = c.pop.ensures.capacity ∙ c.up.invariant.capacity

pub up-smaller : goal.up-smaller
up-smaller c =
    let nodes = c.args.store.now.nodes in
    let here = in_hand nodes c.args.r c.args.set.now.numbers c.up.set.numbers c.up.path.items c.up.at c.requires.held c.up.invariant.walk in
    let short = here.short in
    let inner = here.inner in
    let waited : c.up.path.items ≡ c.pop.new.self.items ++ c.in-Some-pop.above ∷ [] = c.in-Some-pop.ensures.items in
    let next = walk_up nodes c.args.r c.args.set.now.numbers c.up.set.numbers c.up.path.items c.pop.new.self.items c.up.at c.in-Some-pop.above waited c.up.invariant.walk c.in-None.ensures.none in
    let above = (in_hand nodes c.args.r c.args.set.now.numbers (c.up.set.numbers ++ (c.up.at - 2) ∷ []) c.pop.new.self.items c.in-Some-pop.above c.requires.held next).short in
    let fewer = closed_fewer nodes c.up.set.numbers (c.up.at - 2) c.up.invariant.walk.closed here.lacks (omega arith) in
    let longer : length c.add.new.self.numbers ≡ length c.up.set.numbers + 1 = ap (λ s. length s.numbers) (with_decision c.up.set c.add.new.self c.number.result c.up.at c.number.ensures c.add.ensures) ∙ length_push c.up.set.numbers (c.up.at - 2) in
    smaller (length nodes + 1) (length c.up.set.numbers) (length c.add.new.self.numbers) c.up.at c.in-Some-pop.above longer (omega arith) (omega arith)

pub up-preserved : goal.up-preserved
up-preserved c =
    let nodes = c.args.store.now.nodes in
    let waited : c.up.path.items ≡ c.pop.new.self.items ++ c.in-Some-pop.above ∷ [] = c.in-Some-pop.ensures.items in
    let next = walk_up nodes c.args.r c.args.set.now.numbers c.up.set.numbers c.up.path.items c.pop.new.self.items c.up.at c.in-Some-pop.above waited c.up.invariant.walk c.in-None.ensures.none in
    record {
      walk = subst (λ s. IsWalk nodes c.args.r c.args.set.now.numbers s.numbers (c.pop.new.self.items ++ c.in-Some-pop.above ∷ [])) (sym (with_decision c.up.set c.add.new.self c.number.result c.up.at c.number.ensures c.add.ensures)) next;
      room = ap (λ s. s.room) c.add.ensures ∙ c.up.invariant.room;
      capacity = c.pop.ensures.capacity ∙ c.up.invariant.capacity;
    }
