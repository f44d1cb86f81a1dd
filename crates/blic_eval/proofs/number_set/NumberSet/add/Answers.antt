use Rattle.std.proofs.Common.{arith, ◌≡◌, ◌<◌, ap, length, subst, sym, set}
use Rattle.blic_store.specs.Numbers.{Lacks}
use Rattle.blic_eval.specs.Numbers.{HasPlaces}
use Rattle.blic_eval.proofs.Numbering.{places_more, room_left}
use Rattle.blic_eval.proofs.number_set.NumberSet.add.Goals as goal

pub overflow_cast-len : goal.overflow_cast-len
overflow_cast-len c =
    let numbers = c.self.inside.numbers in
    let places = c.self.inside.places in
    let number_ok = numbers.ok in
    let place_ok = places.ok in
    let view = c.self.view_is in
    let room : c.args.number < length places.items = let e = ap (λ z. z.room) view in let l = c.requires.room in omega arith in
    let lacks : Lacks numbers.items c.args.number = subst (λ xs. Lacks xs c.args.number) (sym (ap (λ z. z.numbers) view)) c.requires.new in
    let left = room_left numbers.items places.items c.args.number c.self.invariant.0 room lacks in
    let few = c.self.invariant.0.few in
    let len = c.len.ensures in
    omega arith

pub push_reserved-requires : goal.push_reserved-requires
push_reserved-requires c =
    let numbers = c.self.inside.numbers in
    let places = c.self.inside.places in
    let number_ok = numbers.ok in
    let place_ok = places.ok in
    let view = c.self.view_is in
    let room : c.args.number < length places.items = let e = ap (λ z. z.room) view in let l = c.requires.room in omega arith in
    let lacks : Lacks numbers.items c.args.number = subst (λ xs. Lacks xs c.args.number) (sym (ap (λ z. z.numbers) view)) c.requires.new in
    let left = room_left numbers.items places.items c.args.number c.self.invariant.0 room lacks in
    let capacity = c.self.invariant.1 in
    omega arith

pub invariant_of-self : goal.invariant_of-self
invariant_of-self c =
    let numbers = c.self.inside.numbers in
    let places = c.self.inside.places in
    let number_ok = numbers.ok in
    let place_ok = places.ok in
    let view = c.self.view_is in
    let room : c.args.number < length places.items = let e = ap (λ z. z.room) view in let l = c.requires.room in omega arith in
    let lacks : Lacks numbers.items c.args.number = subst (λ xs. Lacks xs c.args.number) (sym (ap (λ z. z.numbers) view)) c.requires.new in
    let len : c.len.result ≡ length numbers.items = let e = c.len.ensures in omega arith in
    let capacity = c.self.invariant.1 in
    let kept = c.push_reserved.ensures.capacity in (
      subst (λ xs. HasPlaces xs (set places.items c.args.number c.len.result)) (sym c.push_reserved.ensures.items)
          (places_more numbers.items places.items c.args.number c.len.result c.self.invariant.0 room lacks len),
      omega arith,
      c.self.invariant.2,
    )
