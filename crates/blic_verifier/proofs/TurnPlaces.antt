-- Of which node a turn is.
use Rattle.std.proofs.Common.{arith, ℕ, zero, suc, ◌≡◌, ◌+◌, ◌-◌, ◌<◌, sym, ◌∙◌, ap, subst, ◌⊎◌, inl, inr, List, ◌++◌, length, get_or, Bool, true, false, cond}
use Rattle.std.specs.Prelude.{flat_map, reverse}
use mathlib.Core.Path.{fun_ext}
use Rattle.std.proofs.lemmas.Bool.{cases_eq, cases_lt}
use Rattle.std.proofs.lemmas.List.{length-append}
use Rattle.blic_model.specs.declared.node.Node.{Node}
use Rattle.blic_model.specs.Circuit.{node_at, below, free}
use Rattle.blic_model.specs.Counts.{is_binary}
use Rattle.blic_claims.specs.Turns.{ForPolys, ForValues, node_turns, turns, replies_above, polys_number, values_number, is_polys}
use Rattle.blic_claims.proofs.Turns.{above, above-suc, above-own, reverse_below, length-node_turns, sum_above_is, polys_turn, values_turn, values_below}
use Rattle.blic_verifier.specs.HonestLaws.{TurnsAreOfNodes}

find_block : {X : Type 0} (f : ℕ → List X) (n t : ℕ) → t < length (flat_map f (reverse (below n)))
    → (k : ℕ) × (p : ℕ) × (k < n) × (p < length (f k)) × (t ≡ above (λ j. length (f j)) n k + p)
unfolding below
find_block f zero t l = absurd (omega arith)
find_block f (suc n) t l =
    let m : t < length (f n ++ flat_map f (reverse (below n))) = subst (λ ys. t < length (flat_map f ys)) (reverse_below n) l in
    elim (cases_lt t (length (f n))) [
      | inl q ↦ (n, t, omega arith, q, omega (arith, above-own (λ j. length (f j)) (suc n) n (omega arith)))
      | inr q ↦
          let w = find_block f n (t - length (f n)) (omega (arith, length-append (f n) (flat_map f (reverse (below n))))) in
          (w.0, w.1, omega (arith, w.2), w.3, omega (arith, w.4, above-suc (λ j. length (f j)) n w.0 w.2))
    ]

-- turn t is for the polynomials in a free level of a binary node
pub record PolysPlace (nodes : List Node) (levels : ℕ) (t : ℕ) : Type 0 where
  pub node : ℕ
  pub level : ℕ
  pub inside : node < length nodes
  pub binary : is_binary (node_at nodes node) ≡ true
  pub left : level < length (free nodes levels node)
  pub number : t ≡ polys_number nodes levels node level

-- or for the values of a binary node
pub record ValuesPlace (nodes : List Node) (levels : ℕ) (t : ℕ) : Type 0 where
  pub node : ℕ
  pub inside : node < length nodes
  pub binary : is_binary (node_at nodes node) ≡ true
  pub number : t ≡ values_number nodes levels node

place_in : (nodes : List Node) (levels t k p : ℕ) → k < length nodes → t ≡ replies_above nodes levels k + p → (b : Bool)
    → is_binary (node_at nodes k) ≡ b → p < cond b (length (free nodes levels k) + 1) 0 → PolysPlace nodes levels t ⊎ ValuesPlace nodes levels t
place_in nodes levels t k p lk e false bin l = absurd (omega arith)
place_in nodes levels t k p lk e true bin l = elim (cases_eq p (length (free nodes levels k))) [
  | inl q ↦ inr (record { node = k; inside = lk; binary = bin; number = omega arith })
  | inr q ↦ inl (record { node = k; level = length (free nodes levels k) - 1 - p; inside = lk; binary = bin; left = omega arith; number = omega arith })
]

pub turn_place : (nodes : List Node) (levels t : ℕ) → t < length (turns nodes levels) → PolysPlace nodes levels t ⊎ ValuesPlace nodes levels t
unfolding turns
turn_place nodes levels t l =
    let w = find_block (node_turns nodes levels) (length nodes) t l in
    let above_is : above (λ j. length (node_turns nodes levels j)) (length nodes) w.0 ≡ replies_above nodes levels w.0 =
    ap (λ f. above f (length nodes) w.0) (fun_ext (length-node_turns nodes levels)) ∙ sym (sum_above_is nodes (λ j. length (free nodes levels j) + 1) w.0) in
    place_in nodes levels t w.0 w.1 w.2 (w.4 ∙ ap (λ z. z + w.1) above_is) (is_binary (node_at nodes w.0)) (λ i. is_binary (node_at nodes w.0))
    (subst (λ z. w.1 < z) (length-node_turns nodes levels w.0) w.3)

pub polys_turn_is : (nodes : List Node) (levels t : ℕ) (p : PolysPlace nodes levels t) → get_or (turns nodes levels) t (ForValues 0) ≡ ForPolys p.node p.level
polys_turn_is nodes levels t p =
    ap (λ n. get_or (turns nodes levels) n (ForValues 0)) p.number ∙ polys_turn nodes levels p.node p.level p.inside p.binary p.left

pub values_turn_is : (nodes : List Node) (levels t : ℕ) (p : ValuesPlace nodes levels t) → get_or (turns nodes levels) t (ForValues 0) ≡ ForValues p.node
values_turn_is nodes levels t p =
    ap (λ n. get_or (turns nodes levels) n (ForValues 0)) p.number ∙ values_turn nodes levels p.node p.inside p.binary

same_node : (j i k m : ℕ) → ForPolys j i ≡ ForPolys k m → (j ≡ k) × (i ≡ m)
same_node j i k m e = (cc, cc)

other_kind : {A : Type 0} (j k m : ℕ) → ForValues j ≡ ForPolys k m → A
other_kind j k m e = absurd (cc)

not_polys : {A : Type 0} (j : ℕ) → is_polys (ForValues j) ≡ true → A
not_polys j e = absurd (cc)

polys_of_node : (nodes : List Node) (levels t k i : ℕ) → t < length (turns nodes levels) → get_or (turns nodes levels) t (ForValues 0) ≡ ForPolys k i
    → (k < length nodes) × (is_binary (node_at nodes k) ≡ true) × (i < length (free nodes levels k))
polys_of_node nodes levels t k i l e = elim (turn_place nodes levels t l) [
  | inl p ↦
      let s = same_node p.node p.level k i (sym (polys_turn_is nodes levels t p) ∙ e) in (
        subst (λ z. z < length nodes) s.0 p.inside,
        subst (λ z. is_binary (node_at nodes z) ≡ true) s.0 p.binary,
        subst (λ z. i < length (free nodes levels z)) s.0 (subst (λ z. z < length (free nodes levels p.node)) s.1 p.left),
      )
  | inr p ↦ other_kind p.node k i (sym (values_turn_is nodes levels t p) ∙ e)
]

pub more_turns : (nodes : List Node) (levels t : ℕ) → t < length (turns nodes levels) → is_polys (get_or (turns nodes levels) t (ForValues 0)) ≡ true
    → suc t < length (turns nodes levels)
more_turns nodes levels t l e = elim (turn_place nodes levels t l) [
  | inl p ↦
      let number = p.number in
      let left = p.left in
      omega (arith, values_below nodes levels p.node p.inside p.binary)
  | inr p ↦ not_polys p.node (ap is_polys (sym (values_turn_is nodes levels t p)) ∙ e)
]

pub turns_are_of_nodes : TurnsAreOfNodes
turns_are_of_nodes nodes levels shaped = ((λ t k i. polys_of_node nodes levels t k i), (λ t. more_turns nodes levels t))
