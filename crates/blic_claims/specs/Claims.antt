-- The claims of a conversation about a circuit. A claim says that a node has a value at a point.
use Rattle.std.specs.Prelude.{ℕ, zero, suc, ◌-◌, Bool, cond, ◌==◌, List, [], ◌∷◌, ◌++◌, slice_index_or, map, flat_map, drop}
use Rattle.blic_field.specs.Field.{sub}
use Rattle.blic_field.specs.Quadratic.{Quadratic}
use Rattle.blic_model.specs.declared.node.Node.{Node}
use Rattle.blic_model.specs.declared.node.Node.TheVariants.{Const, Var, Not, Fix, And, Or}
use Rattle.blic_model.specs.Circuit.{node_at, root, below, table, free}
use Rattle.blic_model.specs.Value.{Point, put, bit}

-- what was said and drawn: the answer; for each binary node and each of its free levels, by its place among them,
-- the draw (challenge) and the polynomials; and for each binary node the values of its operands
pub record Transcript : Type 0 where
  pub answer : Bool
  pub draw : ℕ → ℕ → ℕ
  pub polys : ℕ → ℕ → List Quadratic
  pub values : ℕ → ℕ × ℕ

pub record Claim : Type 0 where
  pub point : Point
  pub value : ℕ

-- the point s with the levels of the list set to draws i, i + 1 and so on
abbrev pub drawn : (ℕ → ℕ) → ℕ → List ℕ → Point → Point
drawn draw i [] s = s
drawn draw i (x ∷ xs) s = put (drawn draw (suc i) xs s) x (draw i)

-- 0 at each level
abbrev pub zero_point : Point
zero_point x = 0

-- the point of a binary node, once all its levels are drawn; it is one for all claims on the node
unfoldable pub node_point : List Node → ℕ → Transcript → ℕ → Point
node_point nodes levels T k = drawn (T.draw k) 0 (free nodes levels k) zero_point

-- what a binary parent with operands a and b hands down to node k: a claim for each operand place, the first operand first
abbrev pub operand_claims : ℕ → ℕ → Point → ℕ × ℕ → ℕ → List Claim
operand_claims a b s values k =
    cond (a == k) (record { point = s; value = values.0 } ∷ []) [] ++ cond (b == k) (record { point = s; value = values.1 } ∷ []) []

-- the claims that a parent, with the claims cs on it, hands down to node k
abbrev pub claims_from : List Node → ℕ → Transcript → ℕ → Node → List Claim → ℕ → List Claim
claims_from nodes levels T parent (Const b) cs k = []
claims_from nodes levels T parent (Var x) cs k = []
claims_from nodes levels T parent (Not a) cs k = cond (a == k) (map (λ c. record { point = c.point; value = sub 1 c.value }) cs) []
claims_from nodes levels T parent (Fix x b a) cs k = cond (a == k) (map (λ c. record { point = put c.point x (bit b); value = c.value }) cs) []
claims_from nodes levels T parent (And a b) cs k = operand_claims a b (node_point nodes levels T parent) (T.values parent) k
claims_from nodes levels T parent (Or a b) cs k = operand_claims a b (node_point nodes levels T parent) (T.values parent) k

-- from the root down: entry n is that of node `root - n`. The root has the answer as its claim, another node has what its
-- parents hand down, by falling number of the parent
abbrev pub claims_on_entry : List Node → ℕ → Transcript → ℕ → List (List Claim) → List Claim
claims_on_entry nodes levels T zero known = record { point = zero_point; value = bit T.answer } ∷ []
claims_on_entry nodes levels T (suc n) known =
    flat_map (λ j. claims_from nodes levels T (root nodes - j) (node_at nodes (root nodes - j)) (slice_index_or known j []) (root nodes - suc n)) (below (suc n))

-- the claims on node k, in the order in which they are made
unfoldable pub claims_on : List Node → ℕ → Transcript → ℕ → List Claim
claims_on nodes levels T k = claims_on_entry nodes levels T (root nodes - k) (table (claims_on_entry nodes levels T) (root nodes - k))

abbrev pub no_claim : Claim
no_claim = record { point = zero_point; value = 0 }

abbrev pub claim_at : List Node → ℕ → Transcript → ℕ → ℕ → Claim
claim_at nodes levels T k j = slice_index_or (claims_on nodes levels T k) j no_claim

-- the point of a claim on node k once its free levels i and above are drawn
abbrev pub point_at : List Node → ℕ → Transcript → ℕ → Claim → ℕ → Point
point_at nodes levels T k c i = drawn (T.draw k) i (drop i (free nodes levels k)) c.point
