-- Claims have points and elements, where the draws and the values sent are elements.
use Rattle.std.proofs.Common.{arith, ℕ, zero, suc, ◌-◌, ◌<◌, sym, subst, List, [], ◌∷◌, Bool, true, false, cond, eqb}
use Rattle.std.specs.Prelude.{All}
use Rattle.std.proofs.lemmas.List.Elements.{All-append, All-cons, All-nil, All-weaker, All-map}
use Rattle.blic_field.specs.Field.{modulus, sub}
use Rattle.blic_field.proofs.Ring.{sub_below}
use Rattle.blic_model.specs.declared.node.Node.{Node}
use Rattle.blic_model.specs.declared.node.Node.TheVariants.{Const, Var, Not, Fix, And, Or}
use Rattle.blic_model.specs.Circuit.{node_at, root, below}
use Rattle.blic_model.specs.Value.{Point, put, bit}
use Rattle.blic_model.specs.Degree.{IsPoint}
use Rattle.blic_model.proofs.Ordered.{strong}
use Rattle.blic_model.proofs.Entries.{get-table}
use Rattle.blic_model.proofs.Values.{bit_below}
use Rattle.blic_model.proofs.Put.{IsPoint-put}
use Rattle.blic_claims.specs.Claims.{Transcript, Claim, node_point, operand_claims, claims_from, claims_on_entry, claims_on}
use Rattle.blic_claims.proofs.Lists.{All-flat_map, below_contains}
use Rattle.blic_claims.proofs.ClaimCounts.{claims_under}
use Rattle.blic_claims.proofs.Drawn.{IsPoint-node_point}
use Rattle.blic_verifier.proofs.OfElements.{IsOfElements}

abbrev pub ClaimHasElements : Claim → Type 0
ClaimHasElements c = IsPoint c.point × (c.value < modulus)

-- the claim that each claim on a Not or a Fix node becomes
abbrev pub negated : Claim → Claim
negated c = record { point = c.point; value = sub 1 c.value }

abbrev pub fixed : ℕ → Bool → Claim → Claim
fixed x b c = record { point = put c.point x (bit b); value = c.value }

all_if : (b : Bool) (cs : List Claim) → All ClaimHasElements cs → All ClaimHasElements (cond b cs [])
all_if true cs h = h
all_if false cs h = All-nil ClaimHasElements

one_claim : (c : Claim) → ClaimHasElements c → All ClaimHasElements (c ∷ [])
one_claim c h = All-cons ClaimHasElements c [] h (All-nil ClaimHasElements)

from_operands : (a b : ℕ) (s : Point) (values : ℕ × ℕ) (k : ℕ) → IsPoint s → values.0 < modulus → values.1 < modulus
    → All ClaimHasElements (operand_claims a b s values k)
from_operands a b s values k p l m =
    All-append ClaimHasElements _ _ (all_if (eqb a k) _ (one_claim (record { point = s; value = values.0 }) (p, l)))
    (all_if (eqb b k) _ (one_claim (record { point = s; value = values.1 }) (p, m)))

from_parent : (nodes : List Node) (levels : ℕ) (T : Transcript) → IsOfElements T → (p : ℕ) (parent : Node) (cs : List Claim) (k : ℕ)
    → All ClaimHasElements cs → All ClaimHasElements (claims_from nodes levels T p parent cs k)
from_parent nodes levels T t p (Const b) cs k h = All-nil ClaimHasElements
from_parent nodes levels T t p (Var x) cs k h = All-nil ClaimHasElements
from_parent nodes levels T t p (Not a) cs k h =
    all_if (eqb a k) _ (All-map ClaimHasElements negated cs
    (All-weaker ClaimHasElements (λ c. ClaimHasElements (negated c)) (λ c g. (g.0, sub_below 1 c.value)) cs h))
from_parent nodes levels T t p (Fix x b a) cs k h =
    all_if (eqb a k) _ (All-map ClaimHasElements (fixed x b) cs
    (All-weaker ClaimHasElements (λ c. ClaimHasElements (fixed x b c)) (λ c g. (IsPoint-put c.point x (bit b) g.0 (bit_below b), g.1)) cs h))
from_parent nodes levels T t p (And a b) cs k h =
    from_operands a b (node_point nodes levels T p) (T.values p) k (IsPoint-node_point nodes levels T p (t.draws p)) (t.first p) (t.second p)
from_parent nodes levels T t p (Or a b) cs k h =
    from_operands a b (node_point nodes levels T p) (T.values p) k (IsPoint-node_point nodes levels T p (t.draws p)) (t.first p) (t.second p)

entry_elements : (nodes : List Node) (levels : ℕ) (T : Transcript) → IsOfElements T → (n : ℕ)
    → ((j : ℕ) → j < n → All ClaimHasElements (claims_under nodes levels T j)) → All ClaimHasElements (claims_under nodes levels T n)
entry_elements nodes levels T t zero ih = one_claim _ ((λ x. omega arith), bit_below T.answer)
entry_elements nodes levels T t (suc n) ih =
    All-flat_map ClaimHasElements _ (below (suc n)) (λ j c.
    let l : j < suc n = below_contains (suc n) j c in
    from_parent nodes levels T t (root nodes - j) (node_at nodes (root nodes - j)) _ (root nodes - suc n)
    (subst (All ClaimHasElements) (sym (get-table (claims_on_entry nodes levels T) [] (suc n) j l)) (ih j l)))

pub claims_elements : (nodes : List Node) (levels : ℕ) (T : Transcript) → IsOfElements T → (k : ℕ) → All ClaimHasElements (claims_on nodes levels T k)
unfolding claims_on
claims_elements nodes levels T t k =
    strong (λ n. All ClaimHasElements (claims_under nodes levels T n)) (entry_elements nodes levels T t) (root nodes - k)
