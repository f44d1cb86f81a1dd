-- What a node adds, from the ref that was made.
use Rattle.std.proofs.Common.{arith, ℕ, ◌≡◌, refl, sym, ◌∙◌, ap, subst, List, [], Bool, true, false, cond, Result, Ok, Err, Option, None, IfOk}
use mathlib.Core.Path.{ap₂, fun_ext}
use Rattle.std.proofs.lemmas.List.{append-nil}
use Rattle.blic_store.specs.declared.decision.Decision.{Decision}
use Rattle.blic_store.specs.Function.{Function, Same, choice}
use Rattle.blic_store.specs.Diagram.{IsRef, function}
use Rattle.blic_store.specs.Canonical.{IsCanonical}
use Rattle.blic_store.specs.Growth.{Diagrams, Answers, PassesLimit}
use Rattle.blic_store.proofs.Functions.{function-false, function-true}
use Rattle.blic_graph.specs.declared.pair.Pair.{Pair}
use Rattle.blic_solve.specs.Step.{IsFewOf, IsStepOf, PassesNodesOf}

-- the choice between the constants is the level's variable
pub variable_is : (decisions : List Decision) (x : ℕ) → choice x (function decisions 0) (function decisions 1) ≡ (λ p. p x)
variable_is decisions x = ap₂ (choice x) (function-false decisions) (function-true decisions) ∙ fun_ext (λ p. own (p x))
  where
    own : (b : Bool) → cond b true false ≡ b
    own true = refl
    own false = refl

-- a constant is answered by the store as it is
pub constant_answer : (store : Diagrams) → IsCanonical store.nodes → (b : Bool) → Answers (λ p. b) store store (cond b 1 0)
constant_answer store c b = record {
  adds = record { canonical = c; extends = ([], sym (append-nil store.nodes)); parts = λ r l h. absurd (omega arith) };
  same_limit = refl;
  held = held b;
  value = value b;
}
  where
    held : (b : Bool) → IsRef store.nodes (cond b 1 0)
    held true = omega arith
    held false = omega arith

    value : (b : Bool) → Same (function store.nodes (cond b 1 0)) (λ p. b)
    value true p = ap (λ f. f p) (function-true store.nodes)
    value false p = ap (λ f. f p) (function-false store.nodes)

-- the step of a node that isn't binary, whose function was made
module _ {S E F : Type 0} (root : S → ℕ) (graph : S → Option (List Pair)) (f : Function) (P : Option (List Pair) → Type 0) (most : ℕ) (old new : Diagrams) where
  pub single_step : (made : Result ℕ F) (result : Result S E) → IfOk result (λ s. (made ≡ Ok (root s)) × (graph s ≡ None)) → P None → IfOk made (λ r. Answers f old new r)
      → IfOk result (λ s. IsStepOf f P most old new (root s) (graph s))
  single_step made (Ok s) h p a = record {
    answers = subst (λ m. IfOk m (λ r. Answers f old new r)) h.0 a;
    pairs = subst (IsFewOf P most) (sym h.1) (record { graph_is = p; few = omega arith });
  }
  single_step made (Err e) h p a = tt

-- and whose function passes the limit
pub single_full : (f : Function) (P : Option (List Pair) → Type 0) (most : ℕ) (old : Diagrams) → P None → PassesLimit f old → PassesNodesOf f P most old
single_full f P most old p l = record { graph = None; pairs = record { graph_is = p; few = omega arith }; passed = l }

pub at_two : (P : ℕ → ℕ → Type 0) (a b x y : ℕ) → a ≡ x → b ≡ y → P a b → P x y
at_two P a b x y e f h = subst (λ z. P z y) e (subst (P a) f h)
