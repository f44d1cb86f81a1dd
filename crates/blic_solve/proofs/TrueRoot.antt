-- The root's ref is one of the constants.
use Rattle.std.proofs.Common.{arith, ℕ, ◌-◌, ◌<◌, ◌≡◌, refl, sym, ◌∙◌, ap, List, length, Bool, true, false, eqb}
use Rattle.blic_model.specs.declared.node.Node.{Node}
use Rattle.blic_model.specs.Circuit.{root}
use Rattle.blic_model.specs.Value.{holds}
use Rattle.blic_model.specs.Shape.{IsShaped}
use Rattle.blic_model.proofs.Shaped.{size_of}
use Rattle.blic_store.specs.Canonical.{IsCanonical}
use Rattle.blic_store.proofs.Functions.{function-false, function-true}
use Rattle.blic_store.proofs.Canonical.{same_ref}
use Rattle.blic_solve.specs.Plan.{Solved, root_of, IsPlan}
use Rattle.blic_solve.proofs.Holds.{root_constant}

pub answer_is : (nodes : List Node) (levels : ℕ) (plan : Solved) → IsCanonical plan.store.nodes → IsShaped nodes levels → IsPlan nodes levels plan
    → (r : ℕ) → r ≡ root_of plan (length plan.roots - 1) → (a : ℕ → Bool) → eqb r 1 ≡ holds nodes (root nodes) a
answer_is nodes levels plan canonical shaped p r e a = by (holds nodes (root nodes) a) refl
  where
    some : 0 < length nodes
    some = (size_of nodes levels shaped).0

    is_root : r ≡ root_of plan (root nodes)
    is_root = e ∙ ap (λ n. root_of plan (n - 1)) p.roots

    by : (b : Bool) → holds nodes (root nodes) a ≡ b → eqb r 1 ≡ b
    by true h =
        let s = p.solved (root nodes) (omega (arith, some)) in
        let q = same_ref plan.store.nodes canonical (root_of plan (root nodes)) 1 s.held (omega arith)
        (λ x. s.value x ∙ (root_constant nodes levels shaped x a ∙ (h ∙ sym (ap (λ f. f x) (function-true plan.store.nodes))))) in
        ap (λ z. eqb z 1) (is_root ∙ q)
    by false h =
        let s = p.solved (root nodes) (omega (arith, some)) in
        let q = same_ref plan.store.nodes canonical (root_of plan (root nodes)) 0 s.held (omega arith)
        (λ x. s.value x ∙ (root_constant nodes levels shaped x a ∙ (h ∙ sym (ap (λ f. f x) (function-false plan.store.nodes))))) in
        ap (λ z. eqb z 1) (is_root ∙ q)
