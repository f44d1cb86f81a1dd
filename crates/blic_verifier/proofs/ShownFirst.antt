-- The conditions that the first replies show stand first in the list of all.
use Rattle.std.proofs.Common.{arith, ℕ, zero, suc, ◌≡◌, ◌+◌, ◌<◌, ◌≤◌, refl, sym, ◌∙◌, ap, subst, ◌⊎◌, inl, inr, List, [], ◌∷◌, ◌++◌, length, Bool, true, false, cond, append_assoc}
use Rattle.std.specs.Prelude.{map, flat_map, filter, find, reverse}
use mathlib.Core.Path.{ap₂}
use Rattle.std.proofs.lemmas.Bool.{cases_lt, lt-ltb, le-ltb}
use Rattle.std.proofs.lemmas.List.{append-nil}
use Rattle.std.proofs.lemmas.List.Elements.{filter-append}
use Rattle.blic_model.specs.declared.node.Node.{Node}
use Rattle.blic_model.specs.Circuit.{node_at, below, free}
use Rattle.blic_model.specs.Counts.{is_binary}
use Rattle.blic_claims.specs.Claims.{Transcript, Claim, claims_on}
use Rattle.blic_claims.specs.Turns.{replies_above, polys_number, values_number}
use Rattle.blic_claims.proofs.Turns.{reverse_below, values_first}
use Rattle.blic_verifier.specs.Acceptance.{fails, poly_check, ends_check, combine_check, binary_checks, checks}
use Rattle.blic_verifier.specs.VerdictLaws.{ShownFaultIsFirst}
use Rattle.blic_verifier.specs.Walking.{conditions}
use Rattle.blic_verifier.proofs.Finding.{found, filter_all, filter_nothing}
use Rattle.blic_verifier.proofs.ShownKept.{is_shown}
use Rattle.blic_verifier.proofs.Shown.{replies_above_falls, polys_part, ends_part, shown_all, shown_nothing, shown_binary, binary_is}

-- what the test keeps is the first part of the list
KeepsFirst : {X : Type 0} → (X → Bool) → List X → Type 0
KeepsFirst {X} p xs = (rest : List X) × (xs ≡ filter p xs ++ rest)

-- a whole list, or nothing of it
all_first : {X : Type 0} (p : X → Bool) (xs : List X) → filter p xs ≡ xs → KeepsFirst p xs
unfolding KeepsFirst
all_first p xs e = ([], sym (append-nil (filter p xs) ∙ e))

none_first : {X : Type 0} (p : X → Bool) (xs : List X) → filter p xs ≡ [] → KeepsFirst p xs
unfolding KeepsFirst
none_first p xs e = (xs, ap (λ z. z ++ xs) (sym e))

-- a list that is kept whole before one of which the first part is kept
first_after : {X : Type 0} (p : X → Bool) (xs ys : List X) → filter p xs ≡ xs → KeepsFirst p ys → KeepsFirst p (xs ++ ys)
unfolding KeepsFirst
first_after p xs ys e (rest, h) = (rest, ap₂ (λ a b. a ++ b) (sym e) h ∙ (sym (append_assoc (filter p xs) (filter p ys) rest) ∙ ap (λ z. z ++ rest) (sym (filter-append p xs ys))))

-- a list of which the first part is kept before one of which nothing is
first_before : {X : Type 0} (p : X → Bool) (xs ys : List X) → KeepsFirst p xs → filter p ys ≡ [] → KeepsFirst p (xs ++ ys)
unfolding KeepsFirst
first_before p xs ys (rest, h) e =
    (rest ++ ys, ap (λ z. z ++ ys) h ∙ (append_assoc (filter p xs) rest ys ∙ ap (λ z. z ++ (rest ++ ys)) (sym (append-nil (filter p xs)) ∙ (ap (λ z. filter p xs ++ z) (sym e) ∙ sym (filter-append p xs ys)))))

-- parts with numbers below n, counted down: each is kept whole, or it keeps its first part and nothing is kept of the parts behind
first_parts : {X : Type 0} (p : X → Bool) (g : ℕ → List X) (n : ℕ)
    → ((k : ℕ) → k < n → (b : Bool) × cond b (filter p (g k) ≡ g k) (KeepsFirst p (g k) × ((j : ℕ) → j < k → filter p (g j) ≡ [])))
    → KeepsFirst p (flat_map g (reverse (below n)))
unfolding below
first_parts p g zero h = all_first p [] refl
first_parts p g (suc n) h =
    subst (λ z. KeepsFirst p (flat_map g z)) (sym (reverse_below n)) (go (h n (omega arith)) (first_parts p g n (λ k l. h k (omega arith))))
  where
    nothing : {X : Type 0} (p : X → Bool) (g : ℕ → List X) (m : ℕ) → ((j : ℕ) → j < m → filter p (g j) ≡ []) → filter p (flat_map g (reverse (below m))) ≡ []
    nothing p g zero h = refl
    nothing p g (suc m) h =
        ap (λ z. filter p (flat_map g z)) (reverse_below m) ∙ (filter-append p (g m) (flat_map g (reverse (below m))) ∙ ap₂ (λ a b. a ++ b) (h m (omega arith)) (nothing p g m (λ j l. h j (omega arith))))

    go : (b : Bool) × cond b (filter p (g n) ≡ g n) (KeepsFirst p (g n) × ((j : ℕ) → j < n → filter p (g j) ≡ []))
        → KeepsFirst p (flat_map g (reverse (below n))) → KeepsFirst p (g n ++ flat_map g (reverse (below n)))
    go (true, e) ih = first_after p (g n) (flat_map g (reverse (below n))) e ih
    go (false, (f, e)) ih = first_before p (g n) (flat_map g (reverse (below n))) f (nothing p g n e)

-- within a binary node
binary_first : (nodes : List Node) (levels : ℕ) (T : Transcript) (k w : ℕ) (cs : List Claim) (both : ℕ)
    → KeepsFirst (is_shown w) (binary_checks nodes levels T k cs both)
binary_first nodes levels T k w cs both = elim (cases_lt (values_number nodes levels k + 1) w) [
  | inl l ↦ all_first (is_shown w) (binary_checks nodes levels T k cs both) (shown_binary nodes levels T k w cs both l)
  | inr l ↦
      let late = le-ltb (values_number nodes levels k + 1) w l in
      first_before (is_shown w) (polys_part nodes levels T k cs ++ ends_part nodes levels T k cs) (combine_check nodes levels T k cs both ∷ [])
      (first_before (is_shown w) (polys_part nodes levels T k cs) (ends_part nodes levels T k cs)
      (first_parts (is_shown w) (λ i. map (poly_check nodes levels T k cs i) (below (length cs))) (length (free nodes levels k)) (λ i li. part i li (cases_lt (polys_number nodes levels k i + 1) w)))
      (filter_nothing (is_shown w) (ends_check nodes levels T k cs) _ (λ c. late)))
      (ap (λ b. cond b (combine_check nodes levels T k cs both ∷ []) []) late)
]
  where
    part : (i : ℕ) → i < length (free nodes levels k) → (polys_number nodes levels k i + 1 < w) ⊎ (w ≤ polys_number nodes levels k i + 1)
        → (b : Bool) × cond b (filter (is_shown w) (map (poly_check nodes levels T k cs i) (below (length cs))) ≡ map (poly_check nodes levels T k cs i) (below (length cs)))
        (KeepsFirst (is_shown w) (map (poly_check nodes levels T k cs i) (below (length cs))) × ((j : ℕ) → j < i → filter (is_shown w) (map (poly_check nodes levels T k cs j) (below (length cs))) ≡ []))
    part i li (inl l) = (true, filter_all (is_shown w) (poly_check nodes levels T k cs i) _ (λ c. lt-ltb (polys_number nodes levels k i + 1) w l))
    part i li (inr l) = (
      false,
      (
        none_first (is_shown w) (map (poly_check nodes levels T k cs i) (below (length cs))) (filter_nothing (is_shown w) (poly_check nodes levels T k cs i) _ (λ c. le-ltb (polys_number nodes levels k i + 1) w l)),
        λ j h. filter_nothing (is_shown w) (poly_check nodes levels T k cs j) _ (λ c. le-ltb (polys_number nodes levels k j + 1) w (omega arith)),
      ),
    )

-- node by node
node_first : (nodes : List Node) (levels : ℕ) (T : Transcript) (w k : ℕ) → k < length nodes
    → (b : Bool) × cond b (filter (is_shown w) (conditions nodes levels T k) ≡ conditions nodes levels T k)
    (KeepsFirst (is_shown w) (conditions nodes levels T k) × ((j : ℕ) → j < k → filter (is_shown w) (conditions nodes levels T j) ≡ []))
node_first nodes levels T w k lk = go (is_binary (node_at nodes k)) refl
  where
    other : is_binary (node_at nodes k) ≡ false → (replies_above nodes levels k < w) ⊎ (w ≤ replies_above nodes levels k)
        → (b : Bool) × cond b (filter (is_shown w) (conditions nodes levels T k) ≡ conditions nodes levels T k)
        (KeepsFirst (is_shown w) (conditions nodes levels T k) × ((j : ℕ) → j < k → filter (is_shown w) (conditions nodes levels T j) ≡ []))
    other b (inl l) = (true, shown_all nodes levels T k w (node_at nodes k) (claims_on nodes levels T k) (λ e. absurd (apart (sym b ∙ e))) l)
      where
        apart : false ≡ true → ⊥
        apart e = cc
    other b (inr l) = (
      false,
      (
        none_first (is_shown w) (conditions nodes levels T k) (shown_nothing nodes levels T k w (node_at nodes k) (claims_on nodes levels T k) l),
        λ j h. shown_nothing nodes levels T j w (node_at nodes j) (claims_on nodes levels T j) (omega (arith, replies_above_falls nodes levels j k h lk)),
      ),
    )

    binary : is_binary (node_at nodes k) ≡ true → (values_number nodes levels k + 1 < w) ⊎ (w ≤ values_number nodes levels k + 1)
        → (b : Bool) × cond b (filter (is_shown w) (conditions nodes levels T k) ≡ conditions nodes levels T k)
        (KeepsFirst (is_shown w) (conditions nodes levels T k) × ((j : ℕ) → j < k → filter (is_shown w) (conditions nodes levels T j) ≡ []))
    binary b (inl l) = (true, shown_all nodes levels T k w (node_at nodes k) (claims_on nodes levels T k) (λ e. l) (omega arith))
    binary b (inr l) =
        let is = binary_is nodes levels T k (node_at nodes k) (claims_on nodes levels T k) b in (
          false,
          (
            subst (KeepsFirst (is_shown w)) (sym is.1) (binary_first nodes levels T k w (claims_on nodes levels T k) is.0),
            λ j h. shown_nothing nodes levels T j w (node_at nodes j) (claims_on nodes levels T j) (omega (arith, values_first nodes levels j k h lk b)),
          ),
        )

    go : (b : Bool) → is_binary (node_at nodes k) ≡ b → (b : Bool) × cond b (filter (is_shown w) (conditions nodes levels T k) ≡ conditions nodes levels T k)
        (KeepsFirst (is_shown w) (conditions nodes levels T k) × ((j : ℕ) → j < k → filter (is_shown w) (conditions nodes levels T j) ≡ []))
    go true e = binary e (cases_lt (values_number nodes levels k + 1) w)
    go false e = other e (cases_lt (replies_above nodes levels k) w)

pub shown_fault_is_first : ShownFaultIsFirst
unfolding checks KeepsFirst
shown_fault_is_first nodes levels T n c e =
    let first : KeepsFirst (is_shown n) (checks nodes levels T) = first_parts (is_shown n) (conditions nodes levels T) (length nodes) (λ k l. node_first nodes levels T n k l) in
    ap (find fails) first.1 ∙ found fails (filter (is_shown n) (checks nodes levels T)) first.0 c e
