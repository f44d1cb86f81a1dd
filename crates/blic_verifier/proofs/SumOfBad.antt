-- Over all draws of a conversation at most as many elements are bad as is printed.
use Rattle.std.proofs.Common.{arith, ℕ, ◌≡◌, ◌*◌, ◌<◌, ◌≤◌, subst, List, [], ◌∷◌, length, Bool, true, false, cond}
use Rattle.std.specs.Prelude.{map, flat_map, reverse, sum_by, All, Contains}
use Rattle.std.proofs.lemmas.List.Elements.{Contains-append_right, All-head, All-weaker, All-map, All-contains}
use Rattle.std.proofs.lemmas.List.Sorted.{IsPermutation-reverse, sum_by-IsPermutation}
use Rattle.std.proofs.lemmas.List.Sums.{sum_by-cons, sum_by-append, sum_by_push, sum_by-le}
use Rattle.blic_model.specs.declared.node.Node.{Node}
use Rattle.blic_model.specs.Circuit.{node_at, below, free}
use Rattle.blic_model.specs.Counts.{is_binary, claims, points}
use Rattle.blic_claims.specs.Turns.{Turn, ForPolys, ForValues, node_turns, turns}
use Rattle.blic_claims.proofs.Lists.{Contains-head, Contains-below, Contains-reverse, All-reverse_below, all_left, all_right, all_in_flat_map, all_in_map}
use Rattle.blic_claims.proofs.Turns.{turns_of, length-polys_turns}
use Rattle.blic_verifier.specs.Soundness.{AreBadAt}
use Rattle.blic_verifier.specs.SoundnessLaws.{FewBadAtADraw, FewBadInAll}

-- a sum part by part
sum_within : {X Y : Type 0} (f : Y → ℕ) (g : X → List Y) (h : X → ℕ) (xs : List X) → ((x : X) → Contains xs x → sum_by f (g x) ≤ 2 * h x)
    → sum_by f (flat_map g xs) ≤ 2 * sum_by h xs
sum_within f g h [] l = omega arith
sum_within f g h (x ∷ xs) l =
    let here = l x (Contains-head x xs) in
    let rest = sum_within f g h xs (λ y c. l y (Contains-append_right (x ∷ []) xs y c)) in
    omega (arith, sum_by-append f (g x) (flat_map g xs), sum_by-cons h x xs)

-- the turns of a binary node, where the values count nothing and the polynomials of a level 2 * m at most
turns_within : (f : Turn → ℕ) (k m w : ℕ) → f (ForValues k) ≡ 0 → ((i : ℕ) → i < w → f (ForPolys k i) ≤ 2 * m) → sum_by f (turns_of k w) ≤ 2 * (m * w)
turns_within f k m w none few =
    let polys = map (ForPolys k) (reverse (below w)) in
    let each : All (λ t. f t ≤ 2 * m) polys =
    All-map (λ t. f t ≤ 2 * m) (ForPolys k) (reverse (below w))
    (All-weaker (λ i. i < w) (λ i. f (ForPolys k i) ≤ 2 * m) few (reverse (below w)) (All-reverse_below w)) in
    let most = subst (λ n. sum_by f polys ≤ n * (2 * m)) (length-polys_turns k w) (sum_by-le f (2 * m) polys each) in
    omega (arith, sum_by_push f polys (ForValues k), most, none)

-- the turns of a node, where P bounds what is counted at a turn
node_within : (nodes : List Node) (levels k m : ℕ) (P : Turn → Type 0) (f : Turn → ℕ) → All P (node_turns nodes levels k)
    → (P (ForValues k) → f (ForValues k) ≡ 0) → ((i : ℕ) → i < length (free nodes levels k) → P (ForPolys k i) → f (ForPolys k i) ≤ 2 * m)
    → sum_by f (node_turns nodes levels k) ≤ 2 * cond (is_binary (node_at nodes k)) (m * length (free nodes levels k)) 0
node_within nodes levels k m P f h none few = go (is_binary (node_at nodes k)) h
  where
    go : (b : Bool) → All P (cond b (turns_of k (length (free nodes levels k))) [])
        → sum_by f (cond b (turns_of k (length (free nodes levels k))) []) ≤ 2 * cond b (m * length (free nodes levels k)) 0
    go false h = omega arith
    go true h =
        let levels_below = reverse (below (length (free nodes levels k))) in
        let polys = all_left P (map (ForPolys k) levels_below) (ForValues k ∷ []) h in
        let values = All-head P (ForValues k) [] (all_right P (map (ForPolys k) levels_below) (ForValues k ∷ []) h) in
        turns_within f k m (length (free nodes levels k)) (none values) (λ i l.
        few i l (all_in_map P (ForPolys k) levels_below i polys
        (Contains-reverse (below (length (free nodes levels k))) i (Contains-below (length (free nodes levels k)) i l))))

pub few_bad_in_all : FewBadAtADraw → FewBadInAll
unfolding turns points
few_bad_in_all at_draw prime nodes levels shape answer draws replies e elements h =
    let all = reverse (below (length nodes)) in
    let coordinates : ℕ → ℕ = λ k. cond (is_binary (node_at nodes k)) (claims nodes k * length (free nodes levels k)) 0 in
    subst (λ n. sum_by (λ t. length (elements t)) (flat_map (node_turns nodes levels) all) ≤ 2 * n)
    (sum_by-IsPermutation coordinates (below (length nodes)) all (IsPermutation-reverse (below (length nodes))))
    (sum_within (λ t. length (elements t)) (node_turns nodes levels) coordinates all (λ k c.
    let inside : k < length nodes = All-contains (λ k. k < length nodes) all k (All-reverse_below (length nodes)) c in
    node_within nodes levels k (claims nodes k) (λ t. AreBadAt nodes levels answer draws replies t (elements t)) (λ t. length (elements t))
    (all_in_flat_map (λ t. AreBadAt nodes levels answer draws replies t (elements t)) (node_turns nodes levels) all k h c)
    (λ none. none) (λ i l few. at_draw prime nodes levels shape answer draws replies e k i inside l (elements (ForPolys k i)) few.0 few.1)))
