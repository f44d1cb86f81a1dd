-- What the replies so far show stays, whatever is drawn and said afterwards.
use Rattle.std.proofs.Common.{arith, ℕ, zero, suc, ◌≡◌, ◌+◌, ◌-◌, ◌<◌, ◌≤◌, refl, sym, ◌∙◌, ap, subst, inl, inr, List, [], ◌∷◌, ◌++◌, length, take, Bool, true, false, cond}
use Rattle.std.specs.Prelude.{map, flat_map, filter, find, reverse}
use mathlib.Core.Path.{ap₂, fun_ext}
use Rattle.std.proofs.lemmas.Bool.{cases_eq, cond-true}
use Rattle.std.proofs.lemmas.List.{length-append, append-nil, get_or_append_left, length-map, length-reverse, take-append-le}
use Rattle.std.proofs.lemmas.List.Elements.{filter-append}
use Rattle.std.proofs.Math.Seq.{take-append-add}
use Rattle.blic_model.specs.declared.node.Node.{Node}
use Rattle.blic_model.specs.Circuit.{node_at, below, free}
use Rattle.blic_model.specs.Counts.{is_binary}
use Rattle.blic_model.proofs.ChildEntries.{length_of_below}
use Rattle.blic_claims.specs.Turns.{ForPolys, ForValues, Reply, node_turns, turns, transcript, draws_above, replies_above, draw_number, polys_number, values_number, no_reply, polys_of, values_of, is_polys}
use Rattle.blic_claims.proofs.Turns.{above, above-suc, above-own, reverse_below, length-node_turns, binary_turns, sum_above_is, binary_inside}
use Rattle.blic_verifier.specs.Acceptance.{fails}
use Rattle.blic_verifier.specs.VerdictLaws.{FaultIsFixed}
use Rattle.blic_verifier.proofs.Finding.{filter_all}
use Rattle.blic_verifier.proofs.ShownKept.{Agree, checks_kept}

-- how many entries of a list pass
count : {X : Type 0} → (X → Bool) → List X → ℕ
count t xs = length (filter t xs)

count-append : {X : Type 0} (t : X → Bool) (xs ys : List X) → count t (xs ++ ys) ≡ count t xs + count t ys
unfolding count
count-append t xs ys = ap length (filter-append t xs ys) ∙ length-append (filter t xs) (filter t ys)

-- more of a list has no fewer
count_more : {X : Type 0} (t : X → Bool) (xs : List X) (m n : ℕ) → m ≤ n → count t (take m xs) ≤ count t (take n xs)
unfolding count
count_more t xs zero n l = omega arith
count_more t xs (suc m) zero l = absurd (omega arith)
count_more t [] (suc m) (suc n) l = omega arith
count_more t (x ∷ xs) (suc m) (suc n) l = go (t x) (count_more t xs m n (omega arith))
  where
    go : (b : Bool) → length (filter t (take m xs)) ≤ length (filter t (take n xs))
        → length (cond b (x ∷ filter t (take m xs)) (filter t (take m xs))) ≤ length (cond b (x ∷ filter t (take n xs)) (filter t (take n xs)))
    go true h = omega arith
    go false h = h

-- where all pass
count_taken : {X : Type 0} (t : X → Bool) (g : ℕ → X) (xs : List ℕ) (p : ℕ) → ((c : ℕ) → t (g c) ≡ true) → p ≤ length xs → count t (take p (map g xs)) ≡ p
unfolding count
count_taken t g xs zero h l = refl
count_taken t g [] (suc p) h l = absurd (omega arith)
count_taken t g (x ∷ xs) (suc p) h l =
    ap (λ b. length (cond b (g x ∷ filter t (take p (map g xs))) (filter t (take p (map g xs))))) (h x)
    ∙ (let e = count_taken t g xs p h (omega arith) in omega arith)

-- in the parts down to p entries into part k
count_parts : {X : Type 0} (t : X → Bool) (f : ℕ → List X) (n k p : ℕ) → k < n → p ≤ length (f k)
    → count t (take (above (λ j. length (f j)) n k + p) (flat_map f (reverse (below n)))) ≡ above (λ j. count t (f j)) n k + count t (take p (f k))
count_parts t f zero k p l h = absurd (omega arith)
count_parts t f (suc n) k p l h =
    ap (λ z. count t (take (above (λ j. length (f j)) (suc n) k + p) (flat_map f z))) (reverse_below n)
    ∙ elim (cases_eq k n) [
      | inl e ↦
          let i : above (λ j. length (f j)) (suc n) k + p ≡ p = omega (arith, above-own (λ j. length (f j)) (suc n) k (omega arith)) in
          let q : p ≤ length (f n) = subst (λ j. p ≤ length (f j)) e h in
          ap (λ z. count t (take z (f n ++ flat_map f (reverse (below n))))) i
          ∙ (ap (count t) (take-append-le p (f n) (flat_map f (reverse (below n))) q)
          ∙ (ap (λ j. count t (take p (f j))) (sym e) ∙ omega (arith, above-own (λ j. count t (f j)) (suc n) k (omega arith))))
      | inr ne ↦
          let i : above (λ j. length (f j)) (suc n) k + p ≡ length (f n) + (above (λ j. length (f j)) n k + p) = omega (arith, above-suc (λ j. length (f j)) n k (omega arith)) in
          ap (λ z. count t (take z (f n ++ flat_map f (reverse (below n))))) i
          ∙ (ap (count t) (take-append-add (f n) (flat_map f (reverse (below n))) (above (λ j. length (f j)) n k + p))
          ∙ (count-append t (f n) (take (above (λ j. length (f j)) n k + p) (flat_map f (reverse (below n))))
          ∙ omega (arith, count_parts t f n k p (omega arith) h, above-suc (λ j. count t (f j)) n k (omega arith))))
    ]

-- a node's turns for polynomials
node_count : (nodes : List Node) (levels j : ℕ)
    → count is_polys (node_turns nodes levels j) ≡ cond (is_binary (node_at nodes j)) (length (free nodes levels j)) 0
unfolding count
node_count nodes levels j = go (is_binary (node_at nodes j))
  where
    go : (b : Bool)
        → length (filter is_polys (cond b (map (ForPolys j) (reverse (below (length (free nodes levels j)))) ++ ForValues j ∷ []) [])) ≡ cond b (length (free nodes levels j)) 0
    go false = refl
    go true =
        ap length (filter-append is_polys (map (ForPolys j) (reverse (below (length (free nodes levels j))))) (ForValues j ∷ []) ∙ append-nil (filter is_polys (map (ForPolys j) (reverse (below (length (free nodes levels j)))))))
        ∙ (ap length (filter_all is_polys (ForPolys j) (reverse (below (length (free nodes levels j)))) (λ c. refl))
        ∙ (length-map _ (ForPolys j) ∙ (length-reverse _ ∙ length_of_below _)))

-- so many draws come before the end of node k's first p replies
polys_before : (nodes : List Node) (levels k p : ℕ) → k < length nodes → is_binary (node_at nodes k) ≡ true → p ≤ length (free nodes levels k)
    → count is_polys (take (replies_above nodes levels k + p) (turns nodes levels)) ≡ draws_above nodes levels k + p
unfolding turns
polys_before nodes levels k p lk b l =
    let n = length (free nodes levels k) in
    let ys : List ℕ = reverse (below n) in
    let long : length ys ≡ n = length-reverse (below n) ∙ length_of_below n in
    let own = binary_turns nodes levels k b in
    let wide : length (node_turns nodes levels k) ≡ cond (is_binary (node_at nodes k)) (n + 1) 0 = length-node_turns nodes levels k in
    let two : cond (is_binary (node_at nodes k)) (n + 1) 0 ≡ n + 1 = cond-true (is_binary (node_at nodes k)) (n + 1) 0 b in
    let here : count is_polys (take p (node_turns nodes levels k)) ≡ p =
    ap (λ z. count is_polys (take p z)) own
    ∙ (ap (count is_polys) (take-append-le p (map (ForPolys k) ys) (ForValues k ∷ []) (omega (arith, length-map ys (ForPolys k), long)))
    ∙ count_taken is_polys (ForPolys k) ys p (λ c. refl) (omega arith)) in
    ap (λ z. count is_polys (take (z + p) (flat_map (node_turns nodes levels) (reverse (below (length nodes))))))
    (sum_above_is nodes (λ j. length (free nodes levels j) + 1) k ∙ ap (λ f. above f (length nodes) k) (sym (fun_ext (length-node_turns nodes levels))))
    ∙ (count_parts is_polys (node_turns nodes levels) (length nodes) k p lk (omega arith)
    ∙ (ap₂ (λ f z. above f (length nodes) k + z) (fun_ext (node_count nodes levels)) here
    ∙ ap (λ z. z + p) (sym (sum_above_is nodes (λ j. length (free nodes levels j)) k))))

-- how many draws come before the reply of number t
abbrev pub draws_before : List Node → ℕ → ℕ → ℕ
draws_before nodes levels t = length (filter is_polys (take t (turns nodes levels)))

pub draws_before_rise : (nodes : List Node) (levels m n : ℕ) → m ≤ n → draws_before nodes levels m ≤ draws_before nodes levels n
unfolding count
draws_before_rise nodes levels m n l = count_more is_polys (turns nodes levels) m n l

pub draws_before_node : (nodes : List Node) (levels k p : ℕ) → k < length nodes → is_binary (node_at nodes k) ≡ true → p ≤ length (free nodes levels k)
    → draws_before nodes levels (replies_above nodes levels k + p) ≡ draws_above nodes levels k + p
unfolding count
draws_before_node nodes levels k p lk b l = polys_before nodes levels k p lk b l

agree_more : (nodes : List Node) (levels : ℕ) (answer : Bool) (draws others : List ℕ) (replies more : List Reply)
    → count is_polys (take (length replies - 1) (turns nodes levels)) ≤ length draws
    → Agree nodes levels (transcript nodes levels answer draws replies) (transcript nodes levels answer (draws ++ others) (replies ++ more)) (length replies + 1)
unfolding transcript
agree_more nodes levels answer draws others replies more h = record {
  answers = refl;
  values = λ k b l. ap values_of (sym (get_or_append_left replies more no_reply (values_number nodes levels k) (omega arith)));
  polys = λ k i b li l. ap polys_of (sym (get_or_append_left replies more no_reply (polys_number nodes levels k i) (omega arith)));
  draws = λ k i b li l. sym (get_or_append_left draws others 0 (draw_number nodes levels k i) (drawn k i b li l));
}
  where
    drawn : (k i : ℕ) → is_binary (node_at nodes k) ≡ true → i < length (free nodes levels k) → polys_number nodes levels k i + 2 < length replies + 1
        → draw_number nodes levels k i < length draws
    drawn k i b li l =
        let p = length (free nodes levels k) - i in
        let upto = polys_before nodes levels k p (binary_inside nodes k b) b (omega arith) in
        let most = count_more is_polys (turns nodes levels) (replies_above nodes levels k + p) (length replies - 1) (omega arith) in
        omega arith

pub fault_is_fixed : FaultIsFixed
unfolding count
fault_is_fixed nodes levels answer draws others replies more h =
    ap (find fails) (checks_kept nodes levels (transcript nodes levels answer draws replies) (transcript nodes levels answer (draws ++ others) (replies ++ more)) (length replies + 1) (agree_more nodes levels answer draws others replies more h))

-- a node's draws are its turns for polynomials
pub draws_of_node : (nodes : List Node) (levels j : ℕ) → length (filter is_polys (node_turns nodes levels j)) ≡ cond (is_binary (node_at nodes j)) (length (free nodes levels j)) 0
unfolding count
draws_of_node nodes levels j = node_count nodes levels j
