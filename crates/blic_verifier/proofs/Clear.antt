-- What the nodes taken after a reply show.
use Rattle.std.proofs.Common.{arith, ℕ, zero, suc, ◌≡◌, ◌+◌, ◌<◌, ◌≤◌, sym, ◌∙◌, ap, inl, inr, List, [], ◌∷◌, ◌++◌, length, Bool, true, ltb, append_assoc}
use Rattle.std.proofs.lemmas.Bool.{cases_eq, cases_lt, lt-ltb}
use Rattle.std.proofs.lemmas.List.Elements.{filter-append}
use Rattle.std.specs.Prelude.{map, flat_map, filter, find, reverse, Some, None}
use Rattle.blic_model.specs.Circuit.{node_at, below, free}
use Rattle.blic_model.specs.Counts.{is_binary}
use Rattle.blic_model.specs.declared.node.Node.{Node}
use Rattle.blic_claims.proofs.Turns.{reverse_below, values_first}
use Rattle.blic_claims.specs.Claims.{Transcript, claims_on}
use Rattle.blic_claims.specs.Turns.{polys_number, values_number, replies_above}
use Rattle.blic_verifier.proofs.Finding.{find_parts, none_part, none_left, find_skip, found, filter_all, filter_parts_upto}
use Rattle.blic_verifier.proofs.Shown.{replies_above_falls, polys_part, ends_part, shown_all, shown_nothing, shown_binary, shown_no_binary, binary_is}
use Rattle.blic_verifier.proofs.ShownKept.{is_shown}
use Rattle.blic_verifier.specs.Acceptance.{Check, poly_check, combine_check, binary_checks, node_checks, checks, fails}
use Rattle.blic_verifier.specs.Verdict.{fault_upto}
use Rattle.blic_verifier.specs.Walking.{conditions, IsClear}

find_first : {X : Type 0} (f p : X → Bool) (g : ℕ → List X) (n k : ℕ) (c : X) → k < n → ((j : ℕ) → k < j → j < n → find f (filter p (g j)) ≡ None)
    → find f (filter p (g k)) ≡ Some c
    → find f (filter p (flat_map g (reverse (below n)))) ≡ Some c
find_first f p g zero k c l a e = absurd (omega arith)
find_first f p g (suc n) k c l a e =
    ap (λ z. find f (filter p (flat_map g z))) (reverse_below n) ∙ (ap (find f) (filter-append p (g n) (flat_map g (reverse (below n))))
    ∙ elim (cases_eq k n) [
      | inl q ↦ found f (filter p (g n)) _ c (ap (λ z. find f (filter p (g z))) (sym q) ∙ e)
      | inr q ↦ find_skip f (filter p (g n)) _ (a n (omega arith) (omega arith)) ∙ find_first f p g n k c (omega arith) (λ j h m. a j h (omega arith)) e
    ])

-- A fault at a node below clear ones is the first.
pub fault_here : (nodes : List Node) (levels : ℕ) (T : Transcript) (w k : ℕ) (c : Check) → k < length nodes → IsClear nodes levels T w (suc k)
    → find fails (filter (is_shown w) (conditions nodes levels T k)) ≡ Some c → fault_upto nodes levels T w ≡ Some c
unfolding checks
fault_here nodes levels T w k c l a e = find_first fails (is_shown w) (conditions nodes levels T) (length nodes) k c l (λ j h m. a j h m) e

-- One clear node more.
pub clear_more : (nodes : List Node) (levels : ℕ) (T : Transcript) (w k : ℕ) → IsClear nodes levels T w (suc k)
    → find fails (filter (is_shown w) (conditions nodes levels T k)) ≡ None → IsClear nodes levels T w k
clear_more nodes levels T w k a e j h l = elim (cases_eq k j) [
  | inl q ↦ ap (λ z. find fails (filter (is_shown w) (conditions nodes levels T z))) (sym q) ∙ e
  | inr q ↦ a j (omega arith) l
]

-- All nodes clear.
pub clear_all : (nodes : List Node) (levels : ℕ) (T : Transcript) (w : ℕ) → IsClear nodes levels T w 0 → fault_upto nodes levels T w ≡ None
unfolding checks
clear_all nodes levels T w a = find_parts fails (is_shown w) (conditions nodes levels T) (length nodes) (λ j l. a j (omega arith) l)

-- At the next binary node the walk stops: nothing at it or below is shown.
pub clear_stop : (nodes : List Node) (levels : ℕ) (T : Transcript) (w k : ℕ) → k < length nodes → is_binary (node_at nodes k) ≡ true
    → w ≤ replies_above nodes levels k + 1 → IsClear nodes levels T w (suc k)
    → fault_upto nodes levels T w ≡ None
clear_stop nodes levels T w k lk b s a =
    clear_all nodes levels T w (λ j h l. elim (cases_lt j k) [
      | inl q ↦ (let v = values_first nodes levels j k q lk b in ap (find fails) (shown_nothing nodes levels T j w (node_at nodes j) (claims_on nodes levels T j) (omega arith)))
      | inr q ↦ clear_more nodes levels T w k a (here (binary_is nodes levels T k (node_at nodes k) (claims_on nodes levels T k) b)) j q l
    ])
  where
    here : (both : ℕ) × (node_checks nodes levels T k (node_at nodes k) (claims_on nodes levels T k) ≡ binary_checks nodes levels T k (claims_on nodes levels T k) both)
        → find fails (filter (is_shown w) (conditions nodes levels T k)) ≡ None
    here (both, e) = ap (λ z. find fails (filter (is_shown w) z)) e ∙ ap (find fails) (shown_no_binary nodes levels T k w (claims_on nodes levels T k) both s)

-- A leaf's conditions are shown by the reply after which it is taken.
pub leaf_shown : (nodes : List Node) (levels : ℕ) (k w : ℕ) (g : ℕ → Check) (n : ℕ) → ((c : ℕ) → (g c).reply ≡ replies_above nodes levels k)
    → replies_above nodes levels k < w → filter (is_shown w) (map g (below n)) ≡ map g (below n)
leaf_shown nodes levels k w g n e s = filter_all (is_shown w) g (below n) (λ c. ap (λ z. ltb z w) (e c) ∙ lt-ltb (replies_above nodes levels k) w s)

-- The last reply of a binary node: its ends, then its combine; the nodes above are clear.
pub values_verdict : (nodes : List Node) (levels : ℕ) (T : Transcript) (k both : ℕ) → k < length nodes → is_binary (node_at nodes k) ≡ true
    → conditions nodes levels T k ≡ binary_checks nodes levels T k (claims_on nodes levels T k) both
    → fault_upto nodes levels T (values_number nodes levels k + 1) ≡ None
    → IsClear nodes levels T (values_number nodes levels k + 2) (suc k)
    × (find fails (filter (is_shown (values_number nodes levels k + 2)) (conditions nodes levels T k)) ≡ find fails (ends_part nodes levels T k (claims_on nodes levels T k) ++ combine_check nodes levels T k (claims_on nodes levels T k) both ∷ []))
unfolding checks
values_verdict nodes levels T k both lk b is e =
    let n = values_number nodes levels k + 1 in
    let w = values_number nodes levels k + 2 in
    let cs = claims_on nodes levels T k in
    let g : ℕ → List Check = λ i. map (poly_check nodes levels T k cs i) (below (length cs)) in
    let P = polys_part nodes levels T k cs in
    let E = ends_part nodes levels T k cs in
    let C = combine_check nodes levels T k cs both ∷ [] in
    let own : find fails (filter (is_shown n) ((P ++ E) ++ C)) ≡ None = ap (λ z. find fails (filter (is_shown n) z)) (sym is) ∙ none_part fails (is_shown n) (conditions nodes levels T) (length nodes) k lk e in
    let before : find fails (filter (is_shown n) P) ≡ None =
    none_left fails (filter (is_shown n) P) (filter (is_shown n) E)
    (ap (find fails) (sym (filter-append (is_shown n) P E)) ∙ none_left fails (filter (is_shown n) (P ++ E)) (filter (is_shown n) C) (ap (find fails) (sym (filter-append (is_shown n) (P ++ E) C)) ∙ own)) in
    let polys : find fails P ≡ None = ap (find fails) (sym (filter_parts_upto (is_shown n) g (length (free nodes levels k)) (λ i l. filter_all (is_shown n) (poly_check nodes levels T k cs i) _ (λ c. lt-ltb (polys_number nodes levels k i + 1) n (omega arith))))) ∙ before in (
      (λ j h l.
          let s = replies_above_falls nodes levels k j h l in
          let r : is_binary (node_at nodes j) ≡ true → values_number nodes levels j + 1 < n = λ c. (let v = values_first nodes levels k j h l c in omega arith) in
          ap (find fails) (shown_all nodes levels T j w (node_at nodes j) (claims_on nodes levels T j) (λ c. (let u = r c in omega arith)) (omega arith) ∙ sym (shown_all nodes levels T j n (node_at nodes j) (claims_on nodes levels T j) r (omega arith)))
          ∙ none_part fails (is_shown n) (conditions nodes levels T) (length nodes) j l e),
      ap (λ z. find fails (filter (is_shown w) z)) is ∙ (ap (find fails) (shown_binary nodes levels T k w cs both (omega arith) ∙ assoc P E C) ∙ find_skip fails P (E ++ C) polys),
    )
  where
    assoc : {X : Type 0} (P E C : List X) → (P ++ E) ++ C ≡ P ++ (E ++ C)
    assoc P E C = simp append_assoc
