-- Claims handed down from the root, one node after another.
use Rattle.std.proofs.Common.{arith, ℕ, zero, suc, ◌≡◌, ◌+◌, ◌-◌, ◌*◌, ◌<◌, ◌≤◌, refl, sym, ◌∙◌, ap, ◌⊎◌, inl, inr, List, [], ◌∷◌, ◌++◌, length, get_or, take, drop, Bool, true, false, cond, ◌==◌, nat_lt}
use Rattle.std.specs.Prelude.{sum, sum_by, slice_set}
use mathlib.Core.Path.{ap₂}
use Rattle.std.proofs.lemmas.Bool.{cases_eq, eq-eqb, ne_eqb, ltb-true, and_parts, cond-false}
use Rattle.std.proofs.lemmas.List.{take_all, drop_all, drop-append-le}
use Rattle.std.proofs.lemmas.List.Sums.{sum_by-cons, sum_by_push}
use Rattle.blic_model.specs.declared.node.Node.{Node}
use Rattle.blic_model.specs.declared.node.Node.TheVariants.{Const, Var, Not, Fix, And, Or}
use Rattle.blic_model.specs.Circuit.{node_at, root, below, table}
use Rattle.blic_model.specs.Counts.{is_binary, handed_down, claims_entry, claims}
use Rattle.blic_model.specs.Shape.{children_below}
use Rattle.blic_model.specs.CircuitTables.{binary_claims, IsTabled, HasClaims}
use Rattle.blic_model.proofs.ChildEntries.{entry_of_table, length_of_below, sum_below_none, sum_below_more, sum_below_next, sum_below_agree, sum_below_le}

sum_more : (x : ℕ) (xs : List ℕ) → sum (x ∷ xs) ≡ x + sum xs
sum_more x xs = sum_by-cons (λ y. y) x xs

-- the sum of a front, after a write to it
pub sum_after_set : (xs : List ℕ) (i a y : ℕ) → a < i → i ≤ length xs → sum (take i (slice_set xs a y)) + get_or xs a 0 ≡ sum (take i xs) + y
sum_after_set [] i a y l m = absurd (omega arith)
sum_after_set (x ∷ xs) zero a y l m = absurd (omega arith)
sum_after_set (x ∷ xs) (suc i) zero y l m = omega (arith, sum_more y (take i xs), sum_more x (take i xs))
sum_after_set (x ∷ xs) (suc i) (suc a) y l m =
    omega (arith, sum_more x (take i (slice_set xs a y)), sum_more x (take i xs), sum_after_set xs i a y (omega arith) (omega arith))

-- an entry is within the sum of a front that has it
pub entry_within_sum : (xs : List ℕ) (i a : ℕ) → a < i → i ≤ length xs → get_or xs a 0 ≤ sum (take i xs)
entry_within_sum [] i a l m = absurd (omega arith)
entry_within_sum (x ∷ xs) zero a l m = absurd (omega arith)
entry_within_sum (x ∷ xs) (suc i) zero l m = omega (arith, sum_more x (take i xs))
entry_within_sum (x ∷ xs) (suc i) (suc a) l m = omega (arith, sum_more x (take i xs), entry_within_sum xs i a (omega arith) (omega arith))

sum_take_suc : (xs : List ℕ) (i : ℕ) → i < length xs → sum (take (suc i) xs) ≡ sum (take i xs) + get_or xs i 0
sum_take_suc [] i l = absurd (omega arith)
sum_take_suc (x ∷ xs) zero l = omega (arith, sum_more x [])
sum_take_suc (x ∷ xs) (suc i) l = omega (arith, sum_more x (take (suc i) xs), sum_more x (take i xs), sum_take_suc xs i (omega arith))

pub sum_take_next : (xs : List ℕ) (i j : ℕ) → j ≡ i + 1 → i < length xs → sum (take j xs) ≡ sum (take i xs) + get_or xs i 0
sum_take_next xs i j e l = (let s : j ≡ suc i = omega arith in ap (λ k. sum (take k xs)) s) ∙ sum_take_suc xs i l

-- what the first p nodes from the root down hand to node k, with the root's own claim
unfoldable pub handed_by : List Node → ℕ → ℕ → ℕ
handed_by nodes p k =
    cond (k == root nodes) 1 0 + sum_by (λ j. handed_down (node_at nodes (root nodes - j)) (claims nodes (root nodes - j)) k) (below p)

pub handed_by_none : (nodes : List Node) (k : ℕ) → handed_by nodes 0 k ≡ cond (k == root nodes) 1 0
unfolding handed_by
handed_by_none nodes k = omega (arith, sum_below_none (λ j. handed_down (node_at nodes (root nodes - j)) (claims nodes (root nodes - j)) k))

pub handed_by_more : (nodes : List Node) (p k : ℕ) → handed_by nodes (suc p) k ≡ handed_by nodes p k + handed_down (node_at nodes (root nodes - p)) (claims nodes (root nodes - p)) k
unfolding handed_by
handed_by_more nodes p k = omega (arith, sum_below_more (λ j. handed_down (node_at nodes (root nodes - j)) (claims nodes (root nodes - j)) k) p)

two_nothing : (i k a b : ℕ) → nat_lt a i ≡ true → nat_lt b i ≡ true → i ≤ k → cond (a == k) 1 0 + cond (b == k) 1 0 ≡ 0
two_nothing i k a b p q l =
    let s = ltb-true a i p in
    let t = ltb-true b i q in
    ap₂ (λ x y. cond x 1 0 + cond y 1 0) (ne_eqb a k (λ e. omega arith)) (ne_eqb b k (λ e. omega arith))

-- a node hands nothing to one that isn't below it
pub handed_nothing : (i k m : ℕ) (n : Node) → children_below i n ≡ true → i ≤ k → handed_down n m k ≡ 0
handed_nothing i k m (Const b) h l = refl
handed_nothing i k m (Var x) h l = refl
handed_nothing i k m (Not a) h l = (let lt = ltb-true a i h in ap (λ b. cond b m 0) (ne_eqb a k (λ e. omega arith)))
handed_nothing i k m (Fix x b a) h l = (let lt = ltb-true a i h in ap (λ b. cond b m 0) (ne_eqb a k (λ e. omega arith)))
handed_nothing i k m (And a b) h l = two_nothing i k a b (and_parts _ _ h).0 (and_parts _ _ h).1 l
handed_nothing i k m (Or a b) h l = two_nothing i k a b (and_parts _ _ h).0 (and_parts _ _ h).1 l

pub first_claims : (nodes : List Node) → claims nodes (root nodes) ≡ 1
unfolding claims
first_claims nodes = (let e : root nodes - root nodes ≡ 0 = omega arith in ap (λ n. claims_entry nodes n (table (claims_entry nodes) n)) e)

no_own_claim : (k r : ℕ) → (k ≡ r → ⊥) → ◌≡◌ {A = ℕ} (cond (k == r) 1 0) 0
no_own_claim k r ne = cond-false (k == r) 1 0 (ne_eqb k r ne)

-- a node's claims are all handed down once its number is reached
claims_when_reached : (nodes : List Node) (k n : ℕ) → root nodes - k ≡ suc n → claims nodes k ≡ handed_by nodes (suc n) k
unfolding claims handed_by
claims_when_reached nodes k n e =
    let same : root nodes - suc n ≡ k = omega arith in
    ap (λ m. claims_entry nodes m (table (claims_entry nodes) m)) e
    ∙ (sum_below_agree _ (λ j. handed_down (node_at nodes (root nodes - j)) (claims nodes (root nodes - j)) k) (suc n) (λ j l.
    let back : root nodes - (root nodes - j) ≡ j = omega arith in
    ap₂ (λ m c. handed_down (node_at nodes (root nodes - j)) m c)
    (entry_of_table (claims_entry nodes) 0 (suc n) j l ∙ ap (λ m. claims_entry nodes m (table (claims_entry nodes) m)) (sym back)) same)
    ∙ no_claim)
  where
    no_claim : sum_by (λ j. handed_down (node_at nodes (root nodes - j)) (claims nodes (root nodes - j)) k) (below (suc n))
        ≡ cond (k == root nodes) 1 0 + sum_by (λ j. handed_down (node_at nodes (root nodes - j)) (claims nodes (root nodes - j)) k) (below (suc n))
    no_claim = omega (arith, no_own_claim k (root nodes) (λ q. omega arith))

reached : (nodes : List Node) (k p : ℕ) → k ≤ root nodes → root nodes - k ≡ p → handed_by nodes p k ≡ claims nodes k
reached nodes k zero l e =
    let q : k ≡ root nodes = omega arith in
    handed_by_none nodes k ∙ (ap (λ b. cond b 1 0) (eq-eqb k (root nodes) q) ∙ (sym (first_claims nodes) ∙ ap (claims nodes) (sym q)))
reached nodes k (suc n) l e = sym (claims_when_reached nodes k n e)

-- a sum from r down, with what is left of the sum up to r
sum_from_top : (f : ℕ → ℕ) (r p q : ℕ) → p + q ≡ suc r → sum_by (λ j. f (r - j)) (below p) + sum_by f (below q) ≡ sum_by f (below (suc r))
sum_from_top f r zero q e =
    let whole = ap (λ n. sum_by f (below n)) (let s : q ≡ suc r = omega arith in s) in
    omega (arith, sum_below_none (λ j. f (r - j)))
sum_from_top f r (suc p) q e =
    let place : r - p ≡ q = omega arith in
    let here = ap f place in
    omega (arith, sum_below_more (λ j. f (r - j)) p, sum_below_more f q, sum_from_top f r p (suc q) (omega arith))

below_more : (n : ℕ) → below (suc n) ≡ below n ++ n ∷ []
unfolding below
below_more n = refl

-- the sum past the first m numbers, with that of the first m
sum_past : (f : ℕ → ℕ) (m n : ℕ) → m ≤ n → sum_by f (below m) + sum_by f (drop m (below n)) ≡ sum_by f (below n)
sum_past f m zero l =
    let none = ap (sum_by f) (drop_all m (below zero) (omega (arith, length_of_below zero))) in
    let e : m ≡ zero = omega arith in
    let same = ap (λ n. sum_by f (below n)) e in
    omega (arith, sum_below_none f)
sum_past f m (suc n) l =
    elim (cases_eq m (suc n)) [
      | inl e ↦
          let none = ap (sum_by f) (drop_all m (below (suc n)) (omega (arith, length_of_below (suc n)))) in
          let same = ap (λ n. sum_by f (below n)) e in
          omega arith
      | inr ne ↦
          let more = ap (λ ns. sum_by f (drop m ns)) (below_more n) ∙ (ap (sum_by f) (drop-append-le m (below n) (n ∷ []) (omega (arith, length_of_below n))) ∙ sum_by_push f (drop m (below n)) n) in
          omega (arith, sum_past f m n (omega arith), sum_below_more f n)
    ]

-- the claims of a node but the root, as a sum over the nodes after it
pub claims_from_above : (nodes : List Node) (k : ℕ) → k < root nodes
    → claims nodes k ≡ sum_by (λ j. handed_down (node_at nodes j) (claims nodes j) k) (drop (k + 1) (below (length nodes)))
unfolding handed_by
claims_from_above nodes k l =
    let f = λ (j : ℕ). handed_down (node_at nodes j) (claims nodes j) k in
    let own : ◌≡◌ {A = ℕ} (cond (k == root nodes) 1 0) 0 = no_own_claim k (root nodes) (λ q. omega arith) in
    let all = reached nodes k (root nodes - k) (omega arith) refl in
    let long : length nodes ≡ suc (root nodes) = omega arith in
    let top = sum_from_top f (root nodes) (root nodes - k) (k + 1) (omega arith) in
    let past = sum_past f (k + 1) (length nodes) (omega arith) in
    let same = ap (λ n. sum_by f (below n)) long in
    omega arith

-- nothing more is handed to a node that was reached
pub handed_by_all : (nodes : List Node) (k p : ℕ) → ((i : ℕ) → i < length nodes → children_below i (node_at nodes i) ≡ true)
    → k < length nodes → root nodes ≤ p + k → p ≤ length nodes → handed_by nodes p k ≡ claims nodes k
handed_by_all nodes k zero h l m u = reached nodes k zero (omega arith) (omega arith)
handed_by_all nodes k (suc p) h l m u =
    elim (cases_eq (root nodes - k) (suc p)) [
      | inl e ↦ reached nodes k (suc p) (omega arith) e
      | inr ne ↦
          handed_by_more nodes p k
          ∙ (let none = handed_nothing (root nodes - p) k (claims nodes (root nodes - p)) (node_at nodes (root nodes - p)) (h (root nodes - p) (omega arith)) (omega arith) in
          let all = handed_by_all nodes k p h l (omega arith) (omega arith) in
          omega arith)
    ]

-- the sum of a front, after a number was added to one of its entries
pub sum_after_add : (xs ys : List ℕ) (i a m : ℕ) → ys ≡ slice_set xs a (get_or xs a 0 + m) → a < i → i ≤ length xs → sum (take i ys) ≡ sum (take i xs) + m
sum_after_add xs ys i a m e l u =
    ap (λ zs. sum (take i zs)) e ∙ (let s = sum_after_set xs i a (get_or xs a 0 + m) l u in omega arith)

pub one_child : (i child : ℕ) (parent : Node) → (parent ≡ Not child) ⊎ ((x : ℕ) × (b : Bool) × (parent ≡ Fix x b child)) → children_below i parent ≡ true
    → (child < i) × (is_binary parent ≡ false)
one_child i child parent (inl e) h = (ltb-true child i (sym (ap (children_below i) e) ∙ h), ap is_binary e)
one_child i child parent (inr (x, b, e)) h = (ltb-true child i (sym (ap (children_below i) e) ∙ h), ap is_binary e)

pub two_children : (i left right : ℕ) (parent : Node) → (parent ≡ And left right) ⊎ (parent ≡ Or left right) → children_below i parent ≡ true
    → (left < i) × (right < i)
two_children i left right parent (inl e) h =
    let w = and_parts (nat_lt left i) (nat_lt right i) (sym (ap (children_below i) e) ∙ h) in
    (ltb-true left i w.0, ltb-true right i w.1)
two_children i left right parent (inr e) h =
    let w = and_parts (nat_lt left i) (nat_lt right i) (sym (ap (children_below i) e) ∙ h) in
    (ltb-true left i w.0, ltb-true right i w.1)

pub cond_at_most : (b : Bool) (m : ℕ) → cond b m 0 ≤ m
cond_at_most true m = omega arith
cond_at_most false m = omega arith

abbrev pub AreHanded : List Node → ℕ → List ℕ → Type 0
AreHanded nodes i counts = (k : ℕ) → get_or counts k 0 ≡ handed_by nodes (length nodes - i) k

-- one node hands down what it has
pub handed_step : (nodes : List Node) (xs ys : List ℕ) (i j : ℕ) (parent : Node) → ((k : ℕ) → k < length nodes → children_below k (node_at nodes k) ≡ true)
    → i ≡ j + 1 → i ≤ length nodes → parent ≡ node_at nodes j → AreHanded nodes i xs
    → ((k : ℕ) → get_or ys k 0 ≡ get_or xs k 0 + handed_down parent (get_or xs j 0) k)
    → (get_or xs j 0 ≡ claims nodes j) × AreHanded nodes j ys
handed_step nodes xs ys i j parent children e u p old new = (
  all,
  λ k. new k ∙ (ap₂ (λ m z. get_or xs k 0 + handed_down m z k) (p ∙ ap (node_at nodes) place) (all ∙ ap (claims nodes) place)
      ∙ (ap (λ z. z + handed_down (node_at nodes (root nodes - (length nodes - i))) (claims nodes (root nodes - (length nodes - i))) k) (old k)
      ∙ (sym (handed_by_more nodes (length nodes - i) k) ∙ ap (λ q. handed_by nodes q k) next))),
)
  where
    place : j ≡ root nodes - (length nodes - i)
    place = omega arith

    next : suc (length nodes - i) ≡ length nodes - j
    next = omega arith

    all : get_or xs j 0 ≡ claims nodes j
    all = old j ∙ handed_by_all nodes j (length nodes - i) children (omega arith) (omega arith) (omega arith)

-- the claims that wait below i, with those that ended at binary nodes from i on
abbrev pub FewWait : List Node → ℕ → List ℕ → Type 0
FewWait nodes i counts =
    sum (take i counts) + sum_by (binary_claims nodes) (below (length nodes)) ≤ 2 * (length nodes - i) + 1 + sum_by (binary_claims nodes) (below i)

pub few_step : (nodes : List Node) (xs ys : List ℕ) (i j : ℕ) → i ≡ j + 1 → i ≤ length nodes → length xs ≡ length nodes → FewWait nodes i xs
    → get_or xs j 0 ≡ claims nodes j → sum (take j ys) + cond (is_binary (node_at nodes j)) (get_or xs j 0) 0 ≤ sum (take j xs) + get_or xs j 0 + 2
    → FewWait nodes j ys
few_step nodes xs ys i j e u long old all new =
    let here : cond (is_binary (node_at nodes j)) (get_or xs j 0) 0 ≡ binary_claims nodes j = ap (λ m. cond (is_binary (node_at nodes j)) m 0) all in
    let more = sum_below_next (binary_claims nodes) j i e in
    let front = sum_take_next xs j i e (omega arith) in
    omega arith

pub few_fit : (nodes : List Node) (xs : List ℕ) (i j : ℕ) → i ≡ j → i ≤ length nodes → length nodes ≤ 4194304 → FewWait nodes i xs → sum (take j xs) ≤ 16777216
few_fit nodes xs i j e u few wait =
    let at = ap (λ k. sum (take k xs)) e in
    let shorter = sum_below_le (binary_claims nodes) i (length nodes) u in
    omega arith

pub handed_start : (nodes : List Node) (xs : List ℕ) → length xs ≡ length nodes → ((k : ℕ) → get_or xs k 0 ≡ cond (k == root nodes) 1 0) → sum xs ≡ 1
    → AreHanded nodes (length nodes) xs × FewWait nodes (length nodes) xs
handed_start nodes xs long start one = (
  (λ k. let z : 0 ≡ length nodes - length nodes = omega arith in start k ∙ (sym (handed_by_none nodes k) ∙ ap (λ p. handed_by nodes p k) z)),
  (let whole = ap sum (take_all (length nodes) xs (omega arith)) in omega arith),
)

pub claims_at_end : (nodes : List Node) (xs : List ℕ) (i : ℕ) → i ≡ 0 → IsTabled nodes → length xs ≡ length nodes → AreHanded nodes i xs → FewWait nodes i xs → HasClaims nodes xs
claims_at_end nodes xs i e t long handed wait = record {
  long = long;
  each = λ k l. handed k ∙ handed_by_all nodes k (length nodes - i) t.children l (omega arith) (omega arith);
  few =
      let none = ap (λ k. sum_by (binary_claims nodes) (below k)) e ∙ sum_below_none (binary_claims nodes) in
      omega arith;
}
