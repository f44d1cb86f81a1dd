-- Sets of numbers, each with its place.
use Rattle.std.proofs.Common.{arith, ℕ, ◌-◌, ◌<◌, ◌≡◌, sym, ◌∙◌, ap, subst, inl, inr, List, [], ◌∷◌, ◌++◌, length, get_or, set}
use Rattle.std.proofs.lemmas.Bool.{cases_lt}
use Rattle.std.proofs.lemmas.List.{get_or-set_same, get_or-set_other, length_push, length-set}
use Rattle.blic_store.specs.Numbers.{IsOnce, Lacks}
use Rattle.blic_store.proofs.Numbers.{each_push, once_fewer, push_front, push_last}
use Rattle.blic_eval.specs.Numbers.{HasPlaces, Numbers}

-- Where each number has its place, none stands twice.
pub placed_once : (numbers places : List ℕ) → HasPlaces numbers places → IsOnce numbers
placed_once numbers places h i j l m e =
    let a = h.placed i (omega arith) in
    let b = h.placed j m in
    let c : i ≡ j = sym a ∙ (ap (λ z. get_or places z 0) e ∙ b) in
    absurd (omega arith)

pub room_left : (numbers places : List ℕ) (k : ℕ) → HasPlaces numbers places → k < length places → Lacks numbers k → length numbers < length places
room_left numbers places k h l lacks = once_fewer numbers k (length places) h.held (placed_once numbers places h) lacks l

-- One number more.
pub places_more : (numbers places : List ℕ) (k n : ℕ) → HasPlaces numbers places → k < length places → Lacks numbers k → n ≡ length numbers → HasPlaces (numbers ++ k ∷ []) (set places k n)
places_more numbers places k n h l lacks e =
    let len = length_push numbers k in
    let long = length-set places k n in
    record {
      held = λ i m. (let w = each_push (λ z. z < length places) numbers k h.held l i m in omega arith);
      placed = λ i m. elim (cases_lt i (length numbers)) [
        | inl f ↦ ap (λ z. get_or (set places k n) z 0) (push_front numbers k i f)
            ∙ (get_or-set_other places k (get_or numbers i 0) n 0 (lacks i f) ∙ h.placed i f)
        | inr f ↦ ap (λ z. get_or (set places k n) z 0) (push_last numbers k i (omega arith))
            ∙ (get_or-set_same places k n 0 l ∙ (omega arith))
      ];
      few = (let f = h.few in omega arith);
    }

-- The set with the decision of a ref, whose number was read.
pub with_decision : (old new : Numbers) (number at : ℕ) → number ≡ at → new ≡ record { room = old.room; numbers = old.numbers ++ (number - 2) ∷ [] } → new ≡ record { room = old.room; numbers = old.numbers ++ (at - 2) ∷ [] }
with_decision old new number at e h = subst (λ z. new ≡ record { room = old.room; numbers = old.numbers ++ (z - 2) ∷ [] }) e h
