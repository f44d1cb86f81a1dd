-- Where the answer fits, no list shows that the limit is passed.
use Rattle.std.proofs.Common.{arith, ℕ, zero, suc, ◌+◌, ◌-◌, ◌<◌, ◌≤◌, ◌≡◌, sym, ◌∙◌, ap, inl, inr, List, length}
use Rattle.std.proofs.lemmas.Bool.{cases_lt}
use Rattle.blic_store.specs.declared.decision.Decision.{Decision}
use Rattle.blic_store.specs.Function.{Function, Same, after}
use Rattle.blic_store.specs.Diagram.{IsRef, function}
use Rattle.blic_store.specs.Canonical.{IsCanonical}
use Rattle.blic_store.specs.Growth.{Diagrams, Adds, Answers, PassesLimit}
use Rattle.blic_store.proofs.Functions.{function-false, function-true}
use Rattle.blic_store.proofs.Canonical.{same_ref}
use Rattle.blic_store.proofs.Parts.{function-kept, no_shorter}
use Rattle.blic_store.proofs.Under.{part_held}
use Rattle.blic_store.proofs.Pigeonhole.{IsImage, le_from_images}

-- A ref whose function is a decision's of another list is a decision.
inner : (nodes other : List Decision) → IsCanonical nodes → (k s : ℕ) → k < length nodes → Same (function other s) (function nodes (suc (suc k))) → 2 ≤ s
inner nodes other c k zero h e =
    absurd (let q = same_ref nodes c 0 (suc (suc k)) (omega arith) (omega arith) (λ p. ap (λ f. f p) (function-false nodes) ∙ (sym (ap (λ f. f p) (function-false other)) ∙ e p)) in omega arith)
inner nodes other c k (suc zero) h e =
    absurd (let q = same_ref nodes c 1 (suc (suc k)) (omega arith) (omega arith) (λ p. ap (λ f. f p) (function-true nodes) ∙ (sym (ap (λ f. f p) (function-true other)) ∙ e p)) in omega arith)
inner nodes other c k (suc (suc s)) h e = omega arith

-- A ref of the other list that stands for decision k.
record IsHeldBy (nodes other : List Decision) (k s : ℕ) : Type 0 where
  pub held : IsRef other s
  pub value : Same (function other s) (function nodes (suc (suc k)))

held_in : (f : Function) (old nodes other : List Decision) (r : ℕ) → Adds f old nodes → Adds f old other → IsRef other r → Same (function other r) f → (k : ℕ) → k < length nodes
    → (s : ℕ) × IsHeldBy nodes other k s
held_in f old nodes other r a b h v k l = elim (cases_lt k (length old)) [
  | inl m ↦ (
    suc (suc k),
    record {
      held = let w = no_shorter f old other b in omega arith;
      value = λ p. ap (λ g. g p) (function-kept f old other b (suc (suc k)) (omega arith)) ∙ sym (ap (λ g. g p) (function-kept f old nodes a (suc (suc k)) (omega arith)));
    },
  )
  | inr m ↦ (let part = a.parts (suc (suc k)) (omega arith) (omega arith) in
      let w = part_held other b.canonical r h part.0 in
      (w.0, record { held = w.1.held; value = λ p. w.1.value p ∙ (v (after part.0 p) ∙ sym (part.1 p)) }))
]

-- The list with the answer is as long as each list that adds parts of the same function.
no_longer : (f : Function) (old nodes other : List Decision) (r : ℕ) → Adds f old nodes → Adds f old other → IsRef other r → Same (function other r) f → length nodes ≤ length other
no_longer f old nodes other r a b h v = le_from_images (length nodes) (length other) (λ k y. Same (function other (y + 2)) (function nodes (suc (suc k)))) image apart
  where
    image : (k : ℕ) → k < length nodes → IsImage (λ k y. Same (function other (y + 2)) (function nodes (suc (suc k)))) (length other) k
    image k l =
        let s = held_in f old nodes other r a b h v k l in
        let i = inner nodes other a.canonical k s.0 l s.1.value in
        let w = s.1.held in
        record {
          place = s.0 - 2;
          below = omega arith;
          related = λ p. ap (λ z. function other z p) (let e : s.0 - 2 + 2 ≡ s.0 = omega arith in e) ∙ s.1.value p;
        }

    apart : (j k y : ℕ) → j < k → k < length nodes → Same (function other (y + 2)) (function nodes (suc (suc j))) → Same (function other (y + 2)) (function nodes (suc (suc k))) → ⊥
    apart j k y m l e g =
        let q = same_ref nodes a.canonical (suc (suc j)) (suc (suc k)) (omega arith) (omega arith) (λ p. sym (e p) ∙ g p) in
        omega arith

pub no_room : (f : Function) (old new : Diagrams) (r : ℕ) → Answers f old new r → length new.nodes ≤ new.limit → PassesLimit f old → ⊥
no_room f old new r a l p =
    let same = a.same_limit in
    let most = no_longer f old.nodes p.0 new.nodes r p.1 a.adds a.held a.value in
    let more = p.2 in
    omega arith
