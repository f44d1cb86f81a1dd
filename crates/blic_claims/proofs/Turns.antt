-- Where each turn stands in the list of turns.
use Rattle.std.proofs.Common.{arith, ℕ, zero, suc, ◌≡◌, ◌+◌, ◌-◌, ◌<◌, ◌≤◌, refl, sym, ◌∙◌, ap, subst, inl, inr, List, [], ◌∷◌, ◌++◌, length, get_or, Bool, true, false, cond, ltb}
use Rattle.std.specs.Prelude.{map, flat_map, filter, reverse, sum_by}
use mathlib.Core.Path.{fun_ext}
use Rattle.std.proofs.lemmas.Bool.{cases_eq, cases_lt, lt-ltb, le-ltb}
use Rattle.std.proofs.lemmas.List.{length_push, length-map, length-reverse, get_or_append_left, get_or-append-add, get_or_push, reverse-append, get_or-reverse, append-nil, get_or-map, get_or_past}
use Rattle.std.proofs.lemmas.List.Elements.{filter-append}
use Rattle.std.proofs.lemmas.List.Sums.{sum_by_push}
use Rattle.blic_model.specs.declared.node.Node.{Node}
use Rattle.blic_model.specs.declared.node.Node.TheVariants.{Const}
use Rattle.blic_model.specs.Circuit.{node_at, below, free}
use Rattle.blic_model.specs.Counts.{is_binary}
use Rattle.blic_model.proofs.ChildEntries.{length_of_below, entry_of_below}
use Rattle.blic_claims.specs.Turns.{Turn, ForPolys, ForValues, node_turns, turns, sum_above, polys_number, values_number}

-- the sum of g over k < j < n
pub above : (ℕ → ℕ) → ℕ → ℕ → ℕ
above g n k = sum_by g (filter (ltb k) (below n))

filter_one : (k n : ℕ) (b : Bool) → ltb k n ≡ b → filter (ltb k) (n ∷ []) ≡ cond b (n ∷ []) []
filter_one k n b e = ap (λ c. cond c (n ∷ []) []) e

pub above-suc : (g : ℕ → ℕ) (n k : ℕ) → k < n → above g (suc n) k ≡ above g n k + g n
unfolding above below
above-suc g n k l =
    ap (sum_by g) (filter-append (ltb k) (below n) (n ∷ []) ∙ ap (λ ys. filter (ltb k) (below n) ++ ys) (filter_one k n true (lt-ltb k n l)))
    ∙ sum_by_push g (filter (ltb k) (below n)) n

pub above-own : (g : ℕ → ℕ) (n k : ℕ) → n ≤ suc k → above g n k ≡ 0
unfolding above below
above-own g zero k l = refl
above-own g (suc n) k l =
    ap (sum_by g) (filter-append (ltb k) (below n) (n ∷ [])
    ∙ ap (λ ys. filter (ltb k) (below n) ++ ys) (filter_one k n false (le-ltb k n (omega arith))))
    ∙ (ap (sum_by g) (append-nil (filter (ltb k) (below n))) ∙ above-own g n k (omega arith))

pub above_step : (g : ℕ → ℕ) (n k j : ℕ) → k < j → j < n → above g n j + g j ≤ above g n k
above_step g zero k j h l = absurd (omega arith)
above_step g (suc n) k j h l = elim (cases_eq j n) [
  | inl e ↦ omega (arith, above-own g (suc n) j (omega arith), above-suc g n k (omega arith), ap g e)
  | inr ne ↦ omega (arith, above-suc g n j (omega arith), above-suc g n k (omega arith), above_step g n k j h (omega arith))
]

pub reverse_below : (n : ℕ) → reverse (below (suc n)) ≡ n ∷ reverse (below n)
unfolding below
reverse_below n = reverse-append (below n) (n ∷ [])

-- entry p of block k
pub block : {X : Type 0} (f : ℕ → List X) (d : X) (n k p : ℕ) → k < n → p < length (f k)
    → get_or (flat_map f (reverse (below n))) (above (λ j. length (f j)) n k + p) d ≡ get_or (f k) p d
block f d zero k p l h = absurd (omega arith)
block f d (suc n) k p l h =
    subst (λ ys. get_or (flat_map f ys) (above (λ j. length (f j)) (suc n) k + p) d ≡ get_or (f k) p d) (sym (reverse_below n))
    (elim (cases_eq k n) [
      | inl e ↦
          let i : above (λ j. length (f j)) (suc n) k + p ≡ p = omega (arith, above-own (λ j. length (f j)) (suc n) k (omega arith)) in
          let q : p < length (f n) = subst (λ j. p < length (f j)) e h in
          ap (λ z. get_or (f n ++ flat_map f (reverse (below n))) z d) i
          ∙ (get_or_append_left (f n) (flat_map f (reverse (below n))) d p q ∙ ap (λ j. get_or (f j) p d) (sym e))
      | inr ne ↦
          let i : above (λ j. length (f j)) (suc n) k + p ≡ length (f n) + (above (λ j. length (f j)) n k + p) =
          omega (arith, above-suc (λ j. length (f j)) n k (omega arith)) in
          ap (λ z. get_or (f n ++ flat_map f (reverse (below n))) z d) i
          ∙ (get_or-append-add (f n) (flat_map f (reverse (below n))) (above (λ j. length (f j)) n k + p) d ∙ block f d n k p (omega arith) h)
    ])

-- the turns of a binary node
abbrev pub turns_of : ℕ → ℕ → List Turn
turns_of k w = map (ForPolys k) (reverse (below w)) ++ ForValues k ∷ []

pub length-polys_turns : (k w : ℕ) → length (map (ForPolys k) (reverse (below w))) ≡ w
length-polys_turns k w = length-map (reverse (below w)) (ForPolys k) ∙ (length-reverse (below w) ∙ length_of_below w)

length-turns_of : (k w : ℕ) → length (turns_of k w) ≡ w + 1
length-turns_of k w = length_push (map (ForPolys k) (reverse (below w))) (ForValues k) ∙ ap (λ z. z + 1) (length-polys_turns k w)

pub length-node_turns : (nodes : List Node) (levels j : ℕ)
    → length (node_turns nodes levels j) ≡ cond (is_binary (node_at nodes j)) (length (free nodes levels j) + 1) 0
length-node_turns nodes levels j = go (is_binary (node_at nodes j))
  where
    go : (b : Bool) → length (cond b (turns_of j (length (free nodes levels j))) []) ≡ cond b (length (free nodes levels j) + 1) 0
    go false = refl
    go true = length-turns_of j (length (free nodes levels j))

pub sum_above_is : (nodes : List Node) (f : ℕ → ℕ) (k : ℕ) → sum_above nodes f k ≡ above (λ j. cond (is_binary (node_at nodes j)) (f j) 0) (length nodes) k
unfolding sum_above above
sum_above_is nodes f k = refl

-- the turn that is p places into node k's
pub turn_at : (d : Turn) (nodes : List Node) (levels k p : ℕ) → k < length nodes → p < length (node_turns nodes levels k)
    → get_or (turns nodes levels) (sum_above nodes (λ j. length (free nodes levels j) + 1) k + p) d ≡ get_or (node_turns nodes levels k) p d
unfolding turns
turn_at d nodes levels k p l h =
    ap (λ z. get_or (flat_map (node_turns nodes levels) (reverse (below (length nodes)))) (z + p) d)
    (sum_above_is nodes (λ j. length (free nodes levels j) + 1) k
    ∙ sym (ap (λ g. above g (length nodes) k) (fun_ext (length-node_turns nodes levels))))
    ∙ block (node_turns nodes levels) d (length nodes) k p l h

pub binary_turns : (nodes : List Node) (levels k : ℕ) → is_binary (node_at nodes k) ≡ true
    → node_turns nodes levels k ≡ map (ForPolys k) (reverse (below (length (free nodes levels k)))) ++ ForValues k ∷ []
binary_turns nodes levels k b = ap (λ c. cond c (turns_of k (length (free nodes levels k))) []) b

length-binary_turns : (nodes : List Node) (levels k : ℕ) → is_binary (node_at nodes k) ≡ true
    → length (node_turns nodes levels k) ≡ length (free nodes levels k) + 1
length-binary_turns nodes levels k b = length-node_turns nodes levels k ∙ ap (λ c. cond c (length (free nodes levels k) + 1) 0) b

-- the turn of a number
pub values_turn_at : (d : Turn) (nodes : List Node) (levels k : ℕ) → k < length nodes → is_binary (node_at nodes k) ≡ true
    → get_or (turns nodes levels) (values_number nodes levels k) d ≡ ForValues k
values_turn_at d nodes levels k l b =
    turn_at d nodes levels k (length (free nodes levels k)) l (omega (arith, length-binary_turns nodes levels k b))
    ∙ (ap (λ ts. get_or ts (length (free nodes levels k)) d) (binary_turns nodes levels k b)
    ∙ get_or_push (map (ForPolys k) (reverse (below (length (free nodes levels k))))) (ForValues k) d (length (free nodes levels k))
    (length-polys_turns k (length (free nodes levels k))))

pub values_turn : (nodes : List Node) (levels k : ℕ) → k < length nodes → is_binary (node_at nodes k) ≡ true
    → get_or (turns nodes levels) (values_number nodes levels k) (ForValues 0) ≡ ForValues k
values_turn nodes levels k l b = values_turn_at (ForValues 0) nodes levels k l b

pub polys_turn : (nodes : List Node) (levels k i : ℕ) → k < length nodes → is_binary (node_at nodes k) ≡ true → i < length (free nodes levels k)
    → get_or (turns nodes levels) (polys_number nodes levels k i) (ForValues 0) ≡ ForPolys k i
polys_turn nodes levels k i l b h =
    turn_at (ForValues 0) nodes levels k (length (free nodes levels k) - 1 - i) l (omega (arith, length-binary_turns nodes levels k b))
    ∙ (ap (λ ts. get_or ts (length (free nodes levels k) - 1 - i) (ForValues 0)) (binary_turns nodes levels k b) ∙
    (let n = length (free nodes levels k) in
    let p = n - 1 - i in
    let inside : p < length (reverse (below n)) = omega (arith, length-reverse (below n), length_of_below n) in
    let inside_map : p < length (map (ForPolys k) (reverse (below n))) = omega (arith, length-polys_turns k n) in
    let inside_below : p < length (below n) = omega (arith, length_of_below n) in
    let back : length (below n) - 1 - p ≡ i = omega (arith, length_of_below n) in
    get_or_append_left (map (ForPolys k) (reverse (below n))) (ForValues k ∷ []) (ForValues 0) p inside_map
    ∙ (get_or-map (ForPolys k) (reverse (below n)) p 0 (ForValues 0) inside
    ∙ ap (ForPolys k) (get_or-reverse (below n) p 0 inside_below ∙ (ap (λ z. get_or (below n) z 0) back ∙ entry_of_below n i 0 h)))))

-- a larger node's replies come first, and so do its draws.
pub values_first : (nodes : List Node) (levels k j : ℕ) → k < j → j < length nodes → is_binary (node_at nodes j) ≡ true
    → values_number nodes levels j < sum_above nodes (λ n. length (free nodes levels n) + 1) k
values_first nodes levels k j h l b =
    omega (
      arith,
      sum_above_is nodes (λ n. length (free nodes levels n) + 1) k,
      sum_above_is nodes (λ n. length (free nodes levels n) + 1) j,
      above_step (λ n. cond (is_binary (node_at nodes n)) (length (free nodes levels n) + 1) 0) (length nodes) k j h l,
      ap (λ c. cond c (length (free nodes levels j) + 1) 0) b,
    )

-- and each of them is a turn
pub polys_below : (nodes : List Node) (levels k i : ℕ) → k < length nodes → is_binary (node_at nodes k) ≡ true → i < length (free nodes levels k)
    → polys_number nodes levels k i < length (turns nodes levels)
polys_below nodes levels k i l b h = elim (cases_lt (polys_number nodes levels k i) (length (turns nodes levels))) [
  | inl q ↦ q
  | inr q ↦
      absurd (apart (sym (get_or_past (turns nodes levels) (polys_number nodes levels k i) (ForValues 0) q) ∙ polys_turn nodes levels k i l b h))
]
  where
    apart : ForValues 0 ≡ ForPolys k i → ⊥
    apart e = cc

pub values_below : (nodes : List Node) (levels k : ℕ) → k < length nodes → is_binary (node_at nodes k) ≡ true
    → values_number nodes levels k < length (turns nodes levels)
values_below nodes levels k l b = elim (cases_lt (values_number nodes levels k) (length (turns nodes levels))) [
  | inl q ↦ q
  | inr q ↦
      absurd (apart (sym (get_or_past (turns nodes levels) (values_number nodes levels k) (ForPolys 0 0) q)
      ∙ values_turn_at (ForPolys 0 0) nodes levels k l b))
]
  where
    apart : ForPolys 0 0 ≡ ForValues k → ⊥
    apart e = cc

pub draws_first : (nodes : List Node) (levels k j : ℕ) → k < j → j < length nodes → is_binary (node_at nodes j) ≡ true
    → sum_above nodes (λ n. length (free nodes levels n)) j + length (free nodes levels j) ≤ sum_above nodes (λ n. length (free nodes levels n)) k
draws_first nodes levels k j h l b =
    omega (
      arith,
      sum_above_is nodes (λ n. length (free nodes levels n)) k,
      sum_above_is nodes (λ n. length (free nodes levels n)) j,
      above_step (λ n. cond (is_binary (node_at nodes n)) (length (free nodes levels n)) 0) (length nodes) k j h l,
      ap (λ c. cond c (length (free nodes levels j)) 0) b,
    )

-- a binary node is one of the list
pub binary_inside : (nodes : List Node) (j : ℕ) → is_binary (node_at nodes j) ≡ true → j < length nodes
binary_inside nodes j b = elim (cases_lt j (length nodes)) [
  | inl l ↦ l
  | inr l ↦ absurd (wrong (sym (ap is_binary (get_or_past nodes j (Const false) l)) ∙ b))
]
  where
    wrong : false ≡ true → ⊥
    wrong q = cc
