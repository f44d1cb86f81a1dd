-- The replies and the draws above node 0 are all, where node 0 is not binary.
use Rattle.std.proofs.Common.{arith, ℕ, zero, suc, ◌≡◌, ◌+◌, ◌*◌, ◌^◌, ◌<◌, ◌≤◌, refl, sym, ◌∙◌, ap, List, length, Bool, true, false, cond}
use Rattle.std.specs.Prelude.{flat_map, reverse, sum_by}
use mathlib.Core.Path.{fun_ext}
use Rattle.std.proofs.lemmas.Bool.{cond-false}
use Rattle.std.proofs.lemmas.List.{length-append, append-nil}
use Rattle.blic_model.specs.declared.node.Node.{Node}
use Rattle.blic_model.specs.Circuit.{node_at, below, free}
use Rattle.blic_model.specs.Counts.{is_binary, draws}
use Rattle.blic_claims.specs.Turns.{node_turns, turns, draws_above, replies_above}
use Rattle.blic_claims.proofs.FreeLevels.{free_few}
use Rattle.blic_claims.proofs.Turns.{above, above-suc, above-own, reverse_below, length-node_turns, sum_above_is}
use Rattle.blic_claims.proofs.Rows.{sum_more}

length_parts : {X : Type 0} (f : ℕ → List X) (n : ℕ) → length (flat_map f (reverse (below (suc n)))) ≡ above (λ j. length (f j)) (suc n) 0 + length (f 0)
unfolding below
length_parts f zero =
    ap (λ z. length (flat_map f z)) (reverse_below 0) ∙ (ap length (append-nil (f 0)) ∙ omega (arith, above-own (λ j. length (f j)) 1 0 (omega arith)))
length_parts f (suc n) =
    ap (λ z. length (flat_map f z)) (reverse_below (suc n)) ∙ (length-append (f (suc n)) (flat_map f (reverse (below (suc n))))
    ∙ omega (arith, length_parts f n, above-suc (λ j. length (f j)) (suc n) 0 (omega arith)))

sum_none : (f : ℕ → ℕ) → sum_by f (below 0) ≡ 0
unfolding below
sum_none f = refl

sum_parts : (f : ℕ → ℕ) (n : ℕ) → sum_by f (below (suc n)) ≡ above f (suc n) 0 + f 0
sum_parts f zero = sum_more f 0 ∙ omega (arith, sum_none f, above-own f 1 0 (omega arith))
sum_parts f (suc n) = omega (arith, sum_more f (suc n), sum_parts f n, above-suc f (suc n) 0 (omega arith))

count_before : (n : ℕ) → 0 < n → (m : ℕ) × (n ≡ suc m)
count_before zero l = absurd (omega arith)
count_before (suc m) l = (m, refl)

-- all turns are those above node 0, and its own
pub all_turns : (nodes : List Node) (levels : ℕ) → 0 < length nodes
    → length (turns nodes levels) ≡ above (λ j. cond (is_binary (node_at nodes j)) (length (free nodes levels j) + 1) 0) (length nodes) 0 + cond (is_binary (node_at nodes 0)) (length (free nodes levels 0) + 1) 0
unfolding turns
all_turns nodes levels l =
    let m = count_before (length nodes) l in
    ap (λ z. length (flat_map (node_turns nodes levels) (reverse (below z)))) m.1 ∙ (length_parts (node_turns nodes levels) m.0
    ∙ (ap (λ z. above (λ j. length (node_turns nodes levels j)) z 0 + length (node_turns nodes levels 0)) (sym m.1)
    ∙ ap (λ f. above f (length nodes) 0 + f 0) (fun_ext (length-node_turns nodes levels))))

pub all_replies : (nodes : List Node) (levels : ℕ) → 0 < length nodes → is_binary (node_at nodes 0) ≡ false
    → length (turns nodes levels) ≡ replies_above nodes levels 0
all_replies nodes levels l b =
    omega (
      arith,
      all_turns nodes levels l,
      sum_above_is nodes (λ j. length (free nodes levels j) + 1) 0,
      cond-false (is_binary (node_at nodes 0)) (length (free nodes levels 0) + 1) 0 b,
    )

pub all_draws : (nodes : List Node) (levels : ℕ) → 0 < length nodes → is_binary (node_at nodes 0) ≡ false → draws nodes levels ≡ draws_above nodes levels 0
unfolding draws
all_draws nodes levels l b =
    let m = count_before (length nodes) l in
    let f : ℕ → ℕ = λ k. cond (is_binary (node_at nodes k)) (length (free nodes levels k)) 0 in
    let none : f 0 ≡ 0 = cond-false (is_binary (node_at nodes 0)) (length (free nodes levels 0)) 0 b in
    let here : sum_by f (below (suc m.0)) ≡ above f (suc m.0) 0 = omega (arith, sum_parts f m.0, none) in
    ap (λ z. sum_by f (below z)) m.1 ∙ (here ∙ (ap (λ z. above f z 0) (sym m.1) ∙ sym (sum_above_is nodes (λ j. length (free nodes levels j)) 0)))

-- the turns have numbers of one word
few_parts : {X : Type 0} (f : ℕ → List X) (n : ℕ) → ((j : ℕ) → length (f j) ≤ 4294967296) → length (flat_map f (reverse (below n))) ≤ n * 4294967296
unfolding below
few_parts f zero h = omega arith
few_parts f (suc n) h =
    let e : length (flat_map f (reverse (below (suc n)))) ≡ length (f n) + length (flat_map f (reverse (below n))) =
    ap (λ z. length (flat_map f z)) (reverse_below n) ∙ length-append (f n) (flat_map f (reverse (below n))) in
    omega (arith, e, h n, few_parts f n h)

few_own : (b : Bool) (n : ℕ) → cond b (n + 1) 0 ≤ n + 1
few_own true n = omega arith
few_own false n = omega arith

pub few_turns : (nodes : List Node) (levels : ℕ) → length nodes ≤ 4194304 → levels < 4294967296 → length (turns nodes levels) < 2 ^ 60
unfolding turns
few_turns nodes levels l m =
    omega (
      arith,
      few_parts (node_turns nodes levels) (length nodes) (λ j. omega (arith, length-node_turns nodes levels j, few_own (is_binary (node_at nodes j)) (length (free nodes levels j)), free_few nodes levels j)),
    )
