-- The claims on a node are as many as the circuit says.
use Rattle.std.proofs.Common.{ℕ, zero, suc, ◌≡◌, ◌+◌, ◌-◌, ◌<◌, refl, sym, ◌∙◌, ap, List, [], length, Bool, true, false, cond, eqb}
use mathlib.Core.Path.{ap₂}
use Rattle.std.proofs.lemmas.List.{length-map, length-append}
use Rattle.std.proofs.lemmas.List.Concat.{length-flat_map}
use Rattle.blic_model.specs.declared.node.Node.{Node}
use Rattle.blic_model.specs.declared.node.Node.TheVariants.{Const, Var, Not, Fix, And, Or}
use Rattle.blic_model.specs.Circuit.{node_at, root, below, table}
use Rattle.blic_model.specs.Counts.{handed_down, claims_entry, claims}
use Rattle.blic_model.proofs.Ordered.{strong}
use Rattle.blic_model.proofs.Entries.{get-table}
use Rattle.blic_claims.specs.Claims.{Transcript, Claim, claims_from, claims_on_entry, claims_on}
use Rattle.blic_claims.proofs.Lists.{below_contains, sum_by_agree}

length_if : {X : Type 0} (b : Bool) (xs : List X) → length (cond b xs []) ≡ cond b (length xs) 0
length_if true xs = refl
length_if false xs = refl

-- a parent hands down as many claims as the circuit says
pub length-claims_from : (nodes : List Node) (levels : ℕ) (T : Transcript) (p : ℕ) (m : Node) (cs : List Claim) (k n : ℕ) → length cs ≡ n
    → length (claims_from nodes levels T p m cs k) ≡ handed_down m n k
length-claims_from nodes levels T p (Const b) cs k n e = refl
length-claims_from nodes levels T p (Var x) cs k n e = refl
length-claims_from nodes levels T p (Not a) cs k n e = length_if (eqb a k) _ ∙ ap (λ z. cond (eqb a k) z 0) (length-map cs _ ∙ e)
length-claims_from nodes levels T p (Fix x b a) cs k n e = length_if (eqb a k) _ ∙ ap (λ z. cond (eqb a k) z 0) (length-map cs _ ∙ e)
length-claims_from nodes levels T p (And a b) cs k n e = length-append _ _ ∙ ap₂ (λ x y. x + y) (length_if (eqb a k) _) (length_if (eqb b k) _)
length-claims_from nodes levels T p (Or a b) cs k n e = length-append _ _ ∙ ap₂ (λ x y. x + y) (length_if (eqb a k) _) (length_if (eqb b k) _)

-- the claims on node `root - n`
abbrev pub claims_under : List Node → ℕ → Transcript → ℕ → List Claim
claims_under nodes levels T n = claims_on_entry nodes levels T n (table (claims_on_entry nodes levels T) n)

count_step : (nodes : List Node) (levels : ℕ) (T : Transcript) (n : ℕ)
    → ((j : ℕ) → j < n → length (claims_under nodes levels T j) ≡ claims_entry nodes j (table (claims_entry nodes) j))
    → length (claims_under nodes levels T n) ≡ claims_entry nodes n (table (claims_entry nodes) n)
count_step nodes levels T zero ih = refl
count_step nodes levels T (suc n) ih =
    length-flat_map _ (below (suc n)) ∙ sum_by_agree _ _ (below (suc n)) (λ j c.
    let l : j < suc n = below_contains (suc n) j c in
    length-claims_from nodes levels T (root nodes - j) (node_at nodes (root nodes - j)) _ (root nodes - suc n) _
    (ap length (get-table (claims_on_entry nodes levels T) [] (suc n) j l) ∙ (ih j l ∙ sym (get-table (claims_entry nodes) 0 (suc n) j l))))

pub length-claims_on : (nodes : List Node) (levels : ℕ) (T : Transcript) (k : ℕ) → length (claims_on nodes levels T k) ≡ claims nodes k
unfolding claims_on claims
length-claims_on nodes levels T k =
    strong (λ n. length (claims_under nodes levels T n) ≡ claims_entry nodes n (table (claims_entry nodes) n)) (count_step nodes levels T)
    (root nodes - k)
