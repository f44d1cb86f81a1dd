-- The walk over the decisions that functions lead to.
use Rattle.std.proofs.Common.{arith, ℕ, ◌+◌, ◌-◌, ◌<◌, ◌≤◌, ◌≡◌, refl, sym, ◌∙◌, ap, subst, inl, inr, List, [], ◌∷◌, ◌++◌, length, get_or}
use Rattle.std.proofs.lemmas.Bool.{cases_lt}
use Rattle.std.proofs.lemmas.List.{length_push}
use Rattle.blic_store.specs.declared.decision.Decision.{Decision}
use Rattle.blic_store.specs.Canonical.{IsCanonical}
use Rattle.blic_store.specs.Diagram.{IsRef, decision_at, function}
use Rattle.blic_store.specs.Function.{IsPart}
use Rattle.blic_store.specs.Numbers.{Lacks}
use Rattle.blic_store.specs.Under.{IsLedTo}
use Rattle.blic_store.proofs.Numbers.{Each, each_front, each_last, each_push, falling_above, lacks_push, once_fewer, once_push, push_front, push_last}
use Rattle.blic_store.proofs.Paths.{IsPath, at_hand, path_down, path_first, path_up}
use Rattle.blic_eval.specs.Reached.{IsAmong, IsClosed}
use Rattle.blic_eval.specs.Walks.{AddsParts, HasSidesOf, IsFound, IsMissingSide}

pub among_more : (numbers : List ℕ) (m n r : ℕ) → m ≤ n → IsAmong numbers m r → IsAmong numbers n r
among_more numbers m n r l a = elim a [
  | inl c ↦ inl c
  | inr w ↦ (let i = w.1 in inr (w.0, omega arith, w.2))
]

-- What is in a list is in one that begins with it.
pub among_kept : (old new : List ℕ) (n r : ℕ) → n ≤ length old → ((i : ℕ) → i < length old → get_or new i 0 ≡ get_or old i 0) → IsAmong old n r → IsAmong new n r
among_kept old new n r l kept a = elim a [
  | inl c ↦ inl c
  | inr w ↦ (let i = w.1 in inr (w.0, w.1, w.2 ∙ ap (λ z. z + 2) (sym (kept w.0 (omega arith)))))
]

among_push : (numbers : List ℕ) (k n r : ℕ) → n ≤ length numbers → IsAmong numbers n r → IsAmong (numbers ++ k ∷ []) n r
among_push numbers k n r l a = among_kept numbers (numbers ++ k ∷ []) n r l (push_front numbers k) a

among_last : (numbers : List ℕ) (k r : ℕ) → r ≡ k + 2 → IsAmong (numbers ++ k ∷ []) (length (numbers ++ k ∷ [])) r
among_last numbers k r e =
    let len = length_push numbers k in
    inr (length numbers, omega arith, e ∙ ap (λ z. z + 2) (sym (push_last numbers k (length numbers) refl)))

-- One decision more.
pub closed_more : (nodes : List Decision) (numbers : List ℕ) (at : ℕ) → IsClosed nodes numbers → IsRef nodes at → 2 ≤ at → Lacks numbers (at - 2) → HasSidesOf nodes numbers at → IsClosed nodes (numbers ++ (at - 2) ∷ [])
closed_more nodes numbers at c h inner lacks sides =
    let k = at - 2 in
    let len = length_push numbers k in
    record {
      held = each_push (λ z. z < length nodes) numbers k c.held (omega arith);
      once = once_push numbers k c.once lacks;
      low = λ i l. elim (cases_lt i (length numbers)) [
        | inl f ↦ subst (λ z. IsAmong (numbers ++ k ∷ []) i (decision_at nodes z).low) (sym (push_front numbers k i f)) (among_push numbers k i _ (omega arith) (c.low i f))
        | inr f ↦ subst (λ z. IsAmong (numbers ++ k ∷ []) i (decision_at nodes z).low) (sym (push_last numbers k i (omega arith)))
            (among_more (numbers ++ k ∷ []) (length numbers) i _ f (among_push numbers k (length numbers) _ (omega arith) sides.low))
      ];
      high = λ i l. elim (cases_lt i (length numbers)) [
        | inl f ↦ subst (λ z. IsAmong (numbers ++ k ∷ []) i (decision_at nodes z).high) (sym (push_front numbers k i f)) (among_push numbers k i _ (omega arith) (c.high i f))
        | inr f ↦ subst (λ z. IsAmong (numbers ++ k ∷ []) i (decision_at nodes z).high) (sym (push_last numbers k i (omega arith)))
            (among_more (numbers ++ k ∷ []) (length numbers) i _ f (among_push numbers k (length numbers) _ (omega arith) sides.high))
      ];
    }

pub closed_none : (nodes : List Decision) → IsClosed nodes []
closed_none nodes = record {
  held = λ i l. absurd (omega arith);
  once = λ i j l h. absurd (omega arith);
  low = λ i l. absurd (omega arith);
  high = λ i l. absurd (omega arith);
}

pub adds_none : (nodes : List Decision) (r : ℕ) (numbers : List ℕ) → AddsParts nodes r numbers numbers
adds_none nodes r numbers = record { longer = omega arith; kept = λ i l. refl; parts = λ i l h. absurd (omega arith) }

adds_push : (nodes : List Decision) (r : ℕ) (old numbers : List ℕ) (k : ℕ) → AddsParts nodes r old numbers → IsPart (function nodes r) (function nodes (k + 2)) → AddsParts nodes r old (numbers ++ k ∷ [])
adds_push nodes r old numbers k a part =
    let len = length_push numbers k in
    let long = a.longer in
    record {
      longer = omega arith;
      kept = λ i l. push_front numbers k i (omega arith) ∙ a.kept i l;
      parts = λ i l h. elim (cases_lt i (length numbers)) [
        | inl f ↦ subst (λ z. IsPart (function nodes r) (function nodes (z + 2))) (sym (push_front numbers k i f)) (a.parts i l f)
        | inr f ↦ subst (λ z. IsPart (function nodes r) (function nodes (z + 2))) (sym (push_last numbers k i (omega arith))) part
      ];
    }

-- What is known in a walk from r: the decisions on the path are not in the list yet.
pub record IsWalk (nodes : List Decision) (r : ℕ) (old numbers path : List ℕ) : Type 0 where
  pub canonical : IsCanonical nodes
  pub closed : IsClosed nodes numbers
  pub adds : AddsParts nodes r old numbers
  pub leads : IsPath nodes r path
  pub lacking : Each (λ z. Lacks numbers (z - 2)) path

-- what is known of the ref in hand
pub record IsInHand (nodes : List Decision) (r : ℕ) (numbers xs : List ℕ) (at : ℕ) : Type 0 where
  pub inner : 2 ≤ at
  pub led : IsLedTo nodes r at
  pub short : at + length xs < length nodes + 2
  pub lacks : Lacks numbers (at - 2)

pub in_hand : (nodes : List Decision) (r : ℕ) (old numbers xs : List ℕ) (at : ℕ) → IsRef nodes r → IsWalk nodes r old numbers (xs ++ at ∷ []) → IsInHand nodes r numbers xs at
in_hand nodes r old numbers xs at h w =
    let here = at_hand nodes r xs at w.leads in
    let s = here.short in
    record { inner = here.inner; led = here.led; short = omega arith; lacks = each_last (λ z. Lacks numbers (z - 2)) xs at w.lacking }

-- The beginning.
pub walk_first : (nodes : List Decision) → IsCanonical nodes → (r at : ℕ) (numbers path : List ℕ) → path ≡ [] → IsRef nodes r → IsClosed nodes numbers → at ≡ r → 2 ≤ at → Lacks numbers (at - 2)
    → IsWalk nodes r numbers numbers (path ++ at ∷ [])
walk_first nodes c r at numbers path none h closed e inner lacks =
    subst (λ z. IsWalk nodes r numbers numbers (z ++ at ∷ [])) (sym none) (record {
      canonical = c;
      closed = closed;
      adds = adds_none nodes r numbers;
      leads = subst (λ z. IsPath nodes r (z ∷ [])) (sym e) (path_first nodes r h (omega arith));
      lacking = each_push (λ z. Lacks numbers (z - 2)) [] at (λ k l. absurd (omega arith)) lacks;
    })

-- A side that is missing comes next.
pub walk_down : (nodes : List Decision) (r : ℕ) (old numbers xs : List ℕ) (at j : ℕ) → IsWalk nodes r old numbers (xs ++ at ∷ []) → IsMissingSide nodes numbers at j
    → IsWalk nodes r old numbers ((xs ++ at ∷ []) ++ j ∷ [])
walk_down nodes r old numbers xs at j w m = record {
  canonical = w.canonical;
  closed = w.closed;
  adds = w.adds;
  leads = path_down nodes w.canonical r xs at j w.leads m.side m.inner;
  lacking = each_push (λ z. Lacks numbers (z - 2)) (xs ++ at ∷ []) j w.lacking m.lacks;
}

-- what the list is once the decision in hand is added
pub record IsAdded (nodes : List Decision) (r : ℕ) (old numbers : List ℕ) : Type 0 where
  pub closed : IsClosed nodes numbers
  pub adds : AddsParts nodes r old numbers

pub walk_adds : (nodes : List Decision) (r : ℕ) (old numbers xs : List ℕ) (at : ℕ) → IsWalk nodes r old numbers (xs ++ at ∷ []) → HasSidesOf nodes numbers at → IsAdded nodes r old (numbers ++ (at - 2) ∷ [])
walk_adds nodes r old numbers xs at w sides =
    let here = at_hand nodes r xs at w.leads in
    let lacks = each_last (λ z. Lacks numbers (z - 2)) xs at w.lacking in
    let inner = here.inner in
    let e : at ≡ (at - 2) + 2 = omega arith in
    record {
      closed = closed_more nodes numbers at w.closed here.led.1.held here.inner lacks sides;
      adds = adds_push nodes r old numbers (at - 2) w.adds (here.led.0, λ p. ap (λ z. function nodes z p) (sym e) ∙ here.led.1.value p);
    }

-- It was the last one.
pub walk_ends : (nodes : List Decision) (r : ℕ) (old numbers xs : List ℕ) (at : ℕ) → xs ≡ [] → IsWalk nodes r old numbers (xs ++ at ∷ []) → IsAmong (numbers ++ (at - 2) ∷ []) (length (numbers ++ (at - 2) ∷ [])) r
walk_ends nodes r old numbers xs at none w =
    let here = at_hand nodes r xs at w.leads in
    let inner = here.inner in
    let root : at ≡ r = ap (λ z. get_or (z ++ at ∷ []) 0 0) (sym none) ∙ w.leads.root in
    among_last numbers (at - 2) r (omega arith)

-- Else the decision that waited for it comes next.
pub walk_up : (nodes : List Decision) (r : ℕ) (old numbers xs ys : List ℕ) (at above : ℕ) → xs ≡ ys ++ above ∷ [] → IsWalk nodes r old numbers (xs ++ at ∷ []) → HasSidesOf nodes numbers at
    → IsWalk nodes r old (numbers ++ (at - 2) ∷ []) (ys ++ above ∷ [])
walk_up nodes r old numbers xs ys at above e w sides =
    let len = length_push ys above in
    let long = ap length e in
    let added = walk_adds nodes r old numbers xs at w sides in
    let here = at_hand nodes r xs at w.leads in
    let inner = here.inner in
    subst (IsWalk nodes r old (numbers ++ (at - 2) ∷ [])) e (record {
      canonical = w.canonical;
      closed = added.closed;
      adds = added.adds;
      leads = path_up nodes r xs at (omega arith) w.leads;
      lacking = λ i h.
          let f = falling_above xs at w.leads.falling i h in
          lacks_push numbers (at - 2) (get_or xs i 0 - 2) (each_front (λ z. Lacks numbers (z - 2)) xs at w.lacking i h) (omega arith);
    })

-- A list of distinct decisions that lacks one is shorter than the store.
pub closed_fewer : (nodes : List Decision) (numbers : List ℕ) (k : ℕ) → IsClosed nodes numbers → Lacks numbers k → k < length nodes → length numbers < length nodes
closed_fewer nodes numbers k c lacks l = once_fewer numbers k (length nodes) c.held c.once lacks l

-- Two walks, from nothing.
pub reached_both : (nodes : List Decision) (a b : ℕ) (first second : List ℕ) → AddsParts nodes a [] first → IsAmong first (length first) a
    → IsClosed nodes second → AddsParts nodes b first second → IsAmong second (length second) b → IsFound nodes a b second
reached_both nodes a b first second add_a in_a closed add_b in_b =
    let long = add_b.longer in
    record {
      closed = closed;
      first = among_more second (length first) (length second) a long (among_kept first second (length first) a (omega arith) add_b.kept in_a);
      second = in_b;
      only = λ i l. elim (cases_lt i (length first)) [
        | inl f ↦ inl (subst (λ z. IsPart (function nodes a) (function nodes (z + 2))) (sym (add_b.kept i f)) (add_a.parts i (omega arith) f))
        | inr f ↦ inr (add_b.parts i f l)
      ];
    }
