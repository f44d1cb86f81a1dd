-- What the conditions of a node say, where all conditions of a conversation hold.
use Rattle.std.proofs.Common.{arith, ℕ, zero, suc, ◌≡◌, ◌+◌, ◌<◌, refl, ◌∙◌, ap, List, [], ◌∷◌, ◌++◌, length, get_or, drop}
use Rattle.std.specs.Prelude.{All, Contains, map, flat_map, reverse}
use Rattle.std.proofs.lemmas.List.{length-drop, get_or-drop}
use Rattle.std.proofs.lemmas.List.Elements.{All-head}
use Rattle.blic_model.specs.declared.node.Node.{Node}
use Rattle.blic_model.specs.Circuit.{node_at, below, free}
use Rattle.blic_model.proofs.ChildEntries.{length_of_below, entry_of_below}
use Rattle.blic_claims.specs.Claims.{Transcript, Claim, no_claim, claims_on}
use Rattle.blic_claims.proofs.Lists.{Contains-below, Contains-reverse, all_left, all_right, all_in_flat_map, all_in_map}
use Rattle.blic_verifier.specs.Acceptance.{value_at, Check, poly_check, ends_check, combine_check, binary_checks, node_checks, checks, AllHold}

abbrev pub Holds : Check → Type 0
Holds c = c.left ≡ c.right

-- the conditions of one node
pub node_passes : (nodes : List Node) (levels : ℕ) (T : Transcript) → AllHold nodes levels T → (k : ℕ) → k < length nodes
    → All Holds (node_checks nodes levels T k (node_at nodes k) (claims_on nodes levels T k))
unfolding checks
node_passes nodes levels T h k l =
    all_in_flat_map Holds (λ k. node_checks nodes levels T k (node_at nodes k) (claims_on nodes levels T k)) (reverse (below (length nodes))) k h
    (Contains-reverse (below (length nodes)) k (Contains-below (length nodes) k l))

-- the conditions on the polynomials of a binary node, and on its ends
abbrev level_checks : List Node → ℕ → Transcript → ℕ → List Claim → ℕ → List Check
level_checks nodes levels T k cs i = map (poly_check nodes levels T k cs i) (below (length cs))

abbrev polys_checks : List Node → ℕ → Transcript → ℕ → List Claim → List Check
polys_checks nodes levels T k cs = flat_map (level_checks nodes levels T k cs) (reverse (below (length (free nodes levels k))))

abbrev ends_checks : List Node → ℕ → Transcript → ℕ → List Claim → List Check
ends_checks nodes levels T k cs = map (ends_check nodes levels T k cs) (drop 1 (below (length cs)))

pub poly_passes : (nodes : List Node) (levels : ℕ) (T : Transcript) (k : ℕ) (cs : List Claim) (both : ℕ) → All Holds (binary_checks nodes levels T k cs both)
    → (i j : ℕ) → i < length (free nodes levels k) → j < length cs → Holds (poly_check nodes levels T k cs i j)
poly_passes nodes levels T k cs both h i j li lj =
    let front = all_left Holds (polys_checks nodes levels T k cs ++ ends_checks nodes levels T k cs) (combine_check nodes levels T k cs both ∷ []) h in
    let polys = all_left Holds (polys_checks nodes levels T k cs) (ends_checks nodes levels T k cs) front in
    let here = all_in_flat_map Holds (level_checks nodes levels T k cs) (reverse (below (length (free nodes levels k)))) i polys
    (Contains-reverse (below (length (free nodes levels k))) i (Contains-below (length (free nodes levels k)) i li)) in
    all_in_map Holds (poly_check nodes levels T k cs i) (below (length cs)) j here (Contains-below (length cs) j lj)

Contains-rest : (n j : ℕ) → suc j < n → Contains (drop 1 (below n)) (suc j)
Contains-rest n j l = (
  j,
  omega (arith, length-drop 1 (below n), length_of_below n),
  get_or-drop 1 (below n) j (suc j) ∙ (ap (λ z. get_or (below n) z (suc j)) (one j) ∙ entry_of_below n (suc j) (suc j) l),
)
  where
    one : (j : ℕ) → 1 + j ≡ suc j
    one j = omega arith

pub ends_passes : (nodes : List Node) (levels : ℕ) (T : Transcript) (k : ℕ) (cs : List Claim) (both : ℕ) → All Holds (binary_checks nodes levels T k cs both)
    → (j : ℕ) → j < length cs → value_at nodes levels T k j (get_or cs j no_claim) 0 ≡ value_at nodes levels T k 0 (get_or cs 0 no_claim) 0
ends_passes nodes levels T k cs both h zero l = refl
ends_passes nodes levels T k cs both h (suc j) l =
    let front = all_left Holds (polys_checks nodes levels T k cs ++ ends_checks nodes levels T k cs) (combine_check nodes levels T k cs both ∷ []) h in
    let ends = all_right Holds (polys_checks nodes levels T k cs) (ends_checks nodes levels T k cs) front in
    all_in_map Holds (ends_check nodes levels T k cs) (drop 1 (below (length cs))) (suc j) ends (Contains-rest (length cs) j l)

pub combine_passes : (nodes : List Node) (levels : ℕ) (T : Transcript) (k : ℕ) (cs : List Claim) (both : ℕ) → All Holds (binary_checks nodes levels T k cs both)
    → value_at nodes levels T k 0 (get_or cs 0 no_claim) 0 ≡ both
combine_passes nodes levels T k cs both h =
    All-head Holds (combine_check nodes levels T k cs both) []
    (all_right Holds (polys_checks nodes levels T k cs ++ ends_checks nodes levels T k cs) (combine_check nodes levels T k cs both ∷ []) h)
