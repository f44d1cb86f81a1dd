-- What a verifier checks in a whole conversation: a list of conditions, each with its place.
use Rattle.std.specs.Prelude.{ℕ, ◌≡◌, ◌+◌, Bool, cond, not, ◌==◌, List, [], ◌∷◌, ◌++◌, slice_index_or, map, flat_map, drop, length, reverse, All, find, Option}
use Rattle.std.specs.List.{AllZip}
use Rattle.blic_field.specs.Field.{mul, or}
use Rattle.blic_field.specs.Quadratic.{Quadratic, at}
use Rattle.blic_poly2.specs.Poly.{reduced_at}
use Rattle.blic_model.specs.declared.node.Node.{Node}
use Rattle.blic_model.specs.declared.node.Node.TheVariants.{Const, Var, Not, Fix, And, Or}
use Rattle.blic_model.specs.Circuit.{node_at, below, free}
use Rattle.blic_model.specs.Value.{bit}
use Rattle.blic_model.specs.Counts.{draws as draw_count}
use Rattle.blic_claims.specs.Claims.{Transcript, Claim, claims_on, no_claim}
use Rattle.blic_claims.specs.Turns.{Reply, Fits, turns, transcript, replies_above, polys_number, values_number}
use Rattle.blic_verifier.specs.declared.place.Part.{Part}
use Rattle.blic_verifier.specs.declared.place.Part.TheVariants.{Poly, Ends, Combine, Leaf}

abbrev pub no_poly : Quadratic
no_poly = record { c0 = 0; c1 = 0; c2 = 0 }

-- the polynomial sent for claim j at free level i of node k
abbrev pub sent : Transcript → ℕ → ℕ → ℕ → Quadratic
sent T k i j = slice_index_or (T.polys k i) j no_poly

-- the value of claim j on node k once its free levels i and above are drawn: at each draw it becomes that of the polynomial sent
abbrev pub value_at : List Node → ℕ → Transcript → ℕ → ℕ → Claim → ℕ → ℕ
value_at nodes levels T k j c i = cond (i == length (free nodes levels k)) c.value (at (sent T k i j) (T.draw k i))

-- a condition: two elements have to be equal, at a place. It is shown by the reply of this number; the answer is reply 0
pub record Check : Type 0 where
  pub node : ℕ
  pub part : Part
  pub claim : ℕ
  pub reply : ℕ
  pub left : ℕ
  pub right : ℕ

-- the polynomial for claim j, reduced at the claim's element of free level i, is the claim's value
abbrev pub poly_check : List Node → ℕ → Transcript → ℕ → List Claim → ℕ → ℕ → Check
poly_check nodes levels T k cs i j =
    let c = slice_index_or cs j no_claim in
    record {
      node = k;
      part = Poly i;
      claim = j;
      reply = polys_number nodes levels k i + 1;
      left = reduced_at (sent T k i j) (c.point (slice_index_or (free nodes levels k) i 0));
      right = value_at nodes levels T k j c (i + 1);
    }

-- once all levels are drawn, claim j has the value of claim 0
abbrev pub ends_check : List Node → ℕ → Transcript → ℕ → List Claim → ℕ → Check
ends_check nodes levels T k cs j =
    record {
      node = k;
      part = Ends;
      claim = j;
      reply = values_number nodes levels k + 1;
      left = value_at nodes levels T k j (slice_index_or cs j no_claim) 0;
      right = value_at nodes levels T k 0 (slice_index_or cs 0 no_claim) 0;
    }

-- and that is what the operands' values give
abbrev pub combine_check : List Node → ℕ → Transcript → ℕ → List Claim → ℕ → Check
combine_check nodes levels T k cs both =
    record {
      node = k;
      part = Combine;
      claim = 0;
      reply = values_number nodes levels k + 1;
      left = value_at nodes levels T k 0 (slice_index_or cs 0 no_claim) 0;
      right = both;
    }

-- the conditions of a binary node: its polynomials from the lowest free level up, the ends, and how the values combine
abbrev pub binary_checks : List Node → ℕ → Transcript → ℕ → List Claim → ℕ → List Check
binary_checks nodes levels T k cs both =
    flat_map (λ i. map (poly_check nodes levels T k cs i) (below (length cs))) (reverse (below (length (free nodes levels k))))
    ++ map (ends_check nodes levels T k cs) (drop 1 (below (length cs)))
    ++ combine_check nodes levels T k cs both ∷ []

-- a leaf is taken with the last reply of the binary nodes above it
abbrev pub leaf_check : List Node → ℕ → ℕ → ℕ → ℕ → ℕ → Check
leaf_check nodes levels k j left right =
    record { node = k; part = Leaf; claim = j; reply = replies_above nodes levels k; left = left; right = right }

-- the conditions of one node with the claims cs on it, in the order in which they are checked
abbrev pub node_checks : List Node → ℕ → Transcript → ℕ → Node → List Claim → List Check
node_checks nodes levels T k (Const b) cs =
    map (λ j. leaf_check nodes levels k j (slice_index_or cs j no_claim).value (bit b)) (below (length cs))
node_checks nodes levels T k (Var x) cs =
    map (λ j. leaf_check nodes levels k j (slice_index_or cs j no_claim).value ((slice_index_or cs j no_claim).point x)) (below (length cs))
node_checks nodes levels T k (Not a) cs = []
node_checks nodes levels T k (Fix x b a) cs = []
node_checks nodes levels T k (And a b) cs = binary_checks nodes levels T k cs (mul (T.values k).0 (T.values k).1)
node_checks nodes levels T k (Or a b) cs = binary_checks nodes levels T k cs (or (T.values k).0 (T.values k).1)

-- all conditions: the nodes from the root's number down to 0
unfoldable pub checks : List Node → ℕ → Transcript → List Check
checks nodes levels T = flat_map (λ k. node_checks nodes levels T k (node_at nodes k) (claims_on nodes levels T k)) (reverse (below (length nodes)))

abbrev pub fails : Check → Bool
fails c = not (c.left == c.right)

-- the first condition that fails
abbrev pub first_fault : List Node → ℕ → Transcript → Option Check
first_fault nodes levels T = find fails (checks nodes levels T)

abbrev pub AllHold : List Node → ℕ → Transcript → Type 0
AllHold nodes levels T = All (λ c. c.left ≡ c.right) (checks nodes levels T)

-- acceptance: all draws and all replies are there, each reply fits its turn, and every condition holds
abbrev pub Passes : List Node → ℕ → Bool → List ℕ → List Reply → Type 0
Passes nodes levels answer draws replies =
    (length draws ≡ draw_count nodes levels) × AllZip (Fits nodes) (turns nodes levels) replies × AllHold nodes levels (transcript nodes levels answer draws replies)
