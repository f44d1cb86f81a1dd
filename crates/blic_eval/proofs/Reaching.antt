-- The list of what two functions lead to has the functions of each of their pairs.
use Rattle.std.proofs.Common.{arith, ℕ, ◌-◌, ◌≤◌, ◌≡◌, sym, subst, inl, inr, List, length, get_or, Bool, false, true}
use Rattle.std.proofs.lemmas.Bool.{cases_eq}
use Rattle.blic_store.specs.declared.decision.Decision.{Decision}
use Rattle.blic_store.specs.Canonical.{IsCanonical}
use Rattle.blic_store.specs.Diagram.{IsRef, cofactor, decision_at, high_of, level_of, low_of}
use Rattle.blic_store.proofs.Cofactors.{cofactor-here, cofactor-other}
use Rattle.blic_store.proofs.Numbers.{once_few}
use Rattle.blic_graph.specs.Pairs.{IsPairOf}
use Rattle.blic_graph.proofs.Closed.{closed_has_all}
use Rattle.blic_eval.specs.Reached.{IsAmong, IsReached}
use Rattle.blic_eval.proofs.Walking.{among_more}

-- There are no more of them than the store has decisions.
pub reached_few : (nodes : List Decision) (a b : ℕ) (numbers : List ℕ) → IsReached nodes a b numbers → length numbers ≤ length nodes
reached_few nodes a b numbers r = once_few numbers (length nodes) r.closed.held r.closed.once

-- What is in the list is a ref.
pub among_held : (nodes : List Decision) (a b : ℕ) (numbers : List ℕ) → IsReached nodes a b numbers → (r : ℕ) → IsAmong numbers (length numbers) r → IsRef nodes r
among_held nodes a b numbers reached r h = elim h [
  | inl c ↦ omega arith
  | inr w ↦ (let l = reached.closed.held w.0 w.1 in let e = w.2 in omega arith)
]

among_sides : (nodes : List Decision) (a b : ℕ) (numbers : List ℕ) → IsReached nodes a b numbers → (r : ℕ) → 2 ≤ r → IsAmong numbers (length numbers) r
    → IsAmong numbers (length numbers) (low_of nodes r) × IsAmong numbers (length numbers) (high_of nodes r)
among_sides nodes a b numbers reached r l h = elim h [
  | inl c ↦ absurd (omega arith)
  | inr w ↦ (let i = w.1 in let q = w.2 in
      let e : get_or numbers w.0 0 ≡ r - 2 = omega arith in (
        subst (λ z. IsAmong numbers (length numbers) (decision_at nodes z).low) e (among_more numbers w.0 (length numbers) _ (omega arith) (reached.closed.low w.0 w.1)),
        subst (λ z. IsAmong numbers (length numbers) (decision_at nodes z).high) e (among_more numbers w.0 (length numbers) _ (omega arith) (reached.closed.high w.0 w.1)),
      ))
]

-- So are its cofactors.
pub among_cofactor : (nodes : List Decision) (a b : ℕ) (numbers : List ℕ) → IsReached nodes a b numbers → (r x : ℕ) (v : Bool) → 2 ≤ r → IsAmong numbers (length numbers) r
    → IsAmong numbers (length numbers) (cofactor nodes r x v)
among_cofactor nodes a b numbers reached r x false l h = elim (cases_eq (level_of nodes r) x) [
  | inl e ↦ subst (IsAmong numbers (length numbers)) (sym (cofactor-here nodes r x false e)) (among_sides nodes a b numbers reached r l h).0
  | inr n ↦ subst (IsAmong numbers (length numbers)) (sym (cofactor-other nodes r x false n)) h
]
among_cofactor nodes a b numbers reached r x true l h = elim (cases_eq (level_of nodes r) x) [
  | inl e ↦ subst (IsAmong numbers (length numbers)) (sym (cofactor-here nodes r x true e)) (among_sides nodes a b numbers reached r l h).1
  | inr n ↦ subst (IsAmong numbers (length numbers)) (sym (cofactor-other nodes r x true n)) h
]

-- both refs are in the list, and neither is constant
pub record AreAmong (numbers : List ℕ) (r s : ℕ) : Type 0 where
  pub first_inner : 2 ≤ r
  pub second_inner : 2 ≤ s
  pub first : IsAmong numbers (length numbers) r
  pub second : IsAmong numbers (length numbers) s

-- The functions of each pair are in the list.
pub pair_among : (nodes : List Decision) → IsCanonical nodes → (a b : ℕ) (numbers : List ℕ) → IsReached nodes a b numbers → (r s : ℕ) → IsPairOf nodes a b r s → AreAmong numbers r s
pair_among nodes c a b numbers reached =
    closed_has_all nodes c a b (AreAmong numbers)
    (among_held nodes a b numbers reached a reached.first) (among_held nodes a b numbers reached b reached.second)
    (record {
      root = λ i j. record { first_inner = i; second_inner = j; first = reached.first; second = reached.second };
      child = λ r s x v w e i j. record {
        first_inner = i;
        second_inner = j;
        first = among_cofactor nodes a b numbers reached r x v w.first_inner w.first;
        second = among_cofactor nodes a b numbers reached s x v w.second_inner w.second;
      };
    })
