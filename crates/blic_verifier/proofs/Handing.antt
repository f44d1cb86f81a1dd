-- Claims that a node hands down.
use Rattle.std.proofs.Common.{arith, ℕ, suc, ◌≡◌, ◌<◌, refl, ◌∙◌, ap, List, length}
use Rattle.std.proofs.lemmas.Bool.{eq-eqb, ne_eqb}
use Rattle.std.specs.Prelude.{map, filter, find, Some, not}
use Rattle.blic_model.specs.Circuit.{below}
use Rattle.blic_model.specs.declared.node.Node.{Node}
use Rattle.blic_claims.specs.Claims.{Transcript}
use Rattle.blic_claims.specs.Turns.{replies_above}
use Rattle.blic_verifier.proofs.Finding.{find_mapped, find_mapped_none}
use Rattle.blic_verifier.proofs.ShownKept.{is_shown}
use Rattle.blic_verifier.proofs.Clear.{clear_more, leaf_shown}
use Rattle.blic_verifier.specs.Acceptance.{leaf_check, fails}
use Rattle.blic_verifier.specs.Walking.{conditions, IsClear}

-- A leaf: the first claim whose value is not the wanted one is the fault, and a leaf without one is clear.
pub leaf_fault : (nodes : List Node) (levels : ℕ) (T : Transcript) (w k c n : ℕ) (left right : ℕ → ℕ) → k < length nodes
    → w ≡ suc (replies_above nodes levels k) → conditions nodes levels T k ≡ map (λ j. leaf_check nodes levels k j (left j) (right j)) (below n)
    → IsClear nodes levels T w (suc k)
    → c < n → ((d : ℕ) → d < c → left d ≡ right d) → (left c ≡ right c → ⊥)
    → find fails (filter (is_shown w) (conditions nodes levels T k)) ≡ Some (leaf_check nodes levels k c (left c) (right c))
leaf_fault nodes levels T w k c n left right lk ew e clear lc h bad =
    ap (λ z. find fails (filter (is_shown w) z)) e
    ∙ (ap (find fails) (leaf_shown nodes levels k w (λ j. leaf_check nodes levels k j (left j) (right j)) n (λ j. refl) (omega arith))
    ∙ find_mapped fails (λ j. leaf_check nodes levels k j (left j) (right j)) n c lc (λ d l. ap not (eq-eqb _ _ (h d l))) (ap not (ne_eqb _ _ bad)))

pub leaf_fine : (nodes : List Node) (levels : ℕ) (T : Transcript) (w k n : ℕ) (left right : ℕ → ℕ) → w ≡ suc (replies_above nodes levels k)
    → conditions nodes levels T k ≡ map (λ j. leaf_check nodes levels k j (left j) (right j)) (below n) → IsClear nodes levels T w (suc k)
    → ((d : ℕ) → d < n → left d ≡ right d) → IsClear nodes levels T w k
leaf_fine nodes levels T w k n left right ew e clear h =
    clear_more nodes levels T w k clear
    (ap (λ z. find fails (filter (is_shown w) z)) e
    ∙ (ap (find fails) (leaf_shown nodes levels k w (λ j. leaf_check nodes levels k j (left j) (right j)) n (λ j. refl) (omega arith))
    ∙ find_mapped_none fails (λ j. leaf_check nodes levels k j (left j) (right j)) n (λ d l. ap not (eq-eqb _ _ (h d l)))))
