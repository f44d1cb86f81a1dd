-- Where the claims that a parent hands down stand among the claims on a node.
use Rattle.std.proofs.Common.{arith, ℕ, zero, suc, ◌≡◌, ◌+◌, ◌-◌, ◌<◌, ◌≤◌, sym, ◌∙◌, ap, subst, inl, inr, List, [], ◌∷◌, ◌++◌, length, get_or, true, cond, eqb}
use Rattle.std.specs.Prelude.{flat_map, sum_by}
use mathlib.Core.Path.{ap₂}
use Rattle.std.proofs.lemmas.Bool.{cases_eq, ne_eqb}
use Rattle.std.proofs.lemmas.List.{length-append, get_or_append_left, get_or-append-add, append-nil}
use Rattle.std.proofs.lemmas.List.Concat.{length-flat_map, flat_map-append}
use Rattle.std.proofs.lemmas.List.Sums.{sum_by_push}
use Rattle.blic_model.specs.declared.node.Node.{Node}
use Rattle.blic_model.specs.Circuit.{node_at, root, below}
use Rattle.blic_model.specs.Counts.{handed_down, claims}
use Rattle.blic_model.proofs.Entries.{get-table}
use Rattle.blic_claims.specs.Claims.{Transcript, Claim, claims_from, claims_on_entry, claims_on, no_claim}
use Rattle.blic_claims.specs.Places.{given}
use Rattle.blic_claims.specs.ClaimLaws.{PlaceLaw}
use Rattle.blic_claims.proofs.Lists.{below_contains, flat_map_agree, sum_by_agree}
use Rattle.blic_claims.proofs.ClaimCounts.{claims_under, length-claims_from, length-claims_on}

-- the lists f 0, f 1 and so on, n of them, joined
abbrev blocks : {X : Type 0} → (ℕ → List X) → ℕ → List X
blocks f n = flat_map f (below n)

blocks-suc : {X : Type 0} (f : ℕ → List X) (n : ℕ) → blocks f (suc n) ≡ blocks f n ++ f n
unfolding below
blocks-suc f n = flat_map-append f (below n) (n ∷ []) ∙ ap (λ ys. blocks f n ++ ys) (append-nil (f n))

length-blocks-suc : {X : Type 0} (f : ℕ → List X) (n : ℕ) → length (blocks f (suc n)) ≡ length (blocks f n) + length (f n)
length-blocks-suc f n = ap length (blocks-suc f n) ∙ length-append (blocks f n) (f n)

length-blocks-le : {X : Type 0} (f : ℕ → List X) (n m : ℕ) → n ≤ m → length (blocks f n) ≤ length (blocks f m)
length-blocks-le f n zero l = (let e = ap (λ k. length (blocks f k)) (none n l) in omega arith)
  where
    none : (n : ℕ) → n ≤ zero → n ≡ zero
    none n l = omega arith
length-blocks-le f n (suc m) l = elim (cases_eq n (suc m)) [
  | inl e ↦ (let u = ap (λ k. length (blocks f k)) e in omega arith)
  | inr ne ↦ omega (arith, length-blocks-suc f m, length-blocks-le f n m (omega arith))
]

-- entry c of block n
entry : {X : Type 0} (f : ℕ → List X) (d : X) (m n c : ℕ) → n < m → c < length (f n)
    → get_or (blocks f m) (length (blocks f n) + c) d ≡ get_or (f n) c d
entry f d zero n c l h = absurd (omega arith)
entry f d (suc m) n c l h =
    ap (λ ys. get_or ys (length (blocks f n) + c) d) (blocks-suc f m)
    ∙ elim (cases_eq n m) [
      | inl e ↦ ap (λ k. get_or (blocks f m ++ f m) (length (blocks f k) + c) d) e
          ∙ (get_or-append-add (blocks f m) (f m) c d ∙ ap (λ k. get_or (f k) c d) (sym e))
      | inr ne ↦
          let u = length-blocks-suc f n in
          let w = length-blocks-le f (suc n) m (omega arith) in
          get_or_append_left (blocks f m) (f m) d (length (blocks f n) + c) (omega arith) ∙ entry f d m n c (omega arith) h
    ]

-- an entry of the first blocks
pub entry_left : {X : Type 0} (f : ℕ → List X) (d : X) (m n c : ℕ) → n ≤ m → c < length (flat_map f (below n))
    → get_or (flat_map f (below m)) c d ≡ get_or (flat_map f (below n)) c d
entry_left f d zero n c l h = (let e : 0 ≡ n = omega arith in ap (λ k. get_or (blocks f k) c d) e)
entry_left f d (suc m) n c l h = elim (cases_eq (suc m) n) [
  | inl e ↦ ap (λ k. get_or (blocks f k) c d) e
  | inr ne ↦
      let u = length-blocks-le f n m (omega arith) in
      ap (λ ys. get_or ys c d) (blocks-suc f m) ∙ (get_or_append_left (blocks f m) (f m) d c (omega arith) ∙ entry_left f d m n c (omega arith) h)
]

-- what node `root - j` hands down to node a
unfoldable pub handed_by : List Node → ℕ → Transcript → ℕ → ℕ → List Claim
handed_by nodes levels T a j =
    claims_from nodes levels T (root nodes - j) (node_at nodes (root nodes - j)) (claims_on nodes levels T (root nodes - j)) a

claims_under_is : (nodes : List Node) (levels : ℕ) (T : Transcript) (m : ℕ) → suc m ≤ root nodes
    → claims_under nodes levels T (suc m) ≡ flat_map (handed_by nodes levels T (root nodes - suc m)) (below (suc m))
unfolding claims_on handed_by
claims_under_is nodes levels T m l =
    flat_map_agree _ _ (below (suc m)) (λ j c.
    let q : j < suc m = below_contains (suc m) j c in
    let back : j ≡ root nodes - (root nodes - j) = omega arith in
    ap (λ cs. claims_from nodes levels T (root nodes - j) (node_at nodes (root nodes - j)) cs (root nodes - suc m))
    (get-table (claims_on_entry nodes levels T) [] (suc m) j q ∙ ap (claims_under nodes levels T) back))

-- the claims on a node below the root are those that its parents hand down
pub claims_is : (nodes : List Node) (levels : ℕ) (T : Transcript) (a : ℕ) → a < root nodes
    → claims_on nodes levels T a ≡ flat_map (handed_by nodes levels T a) (below (root nodes - a))
unfolding claims_on
claims_is nodes levels T a l =
    let m = root nodes - a - 1 in
    let e : root nodes - a ≡ suc m = omega arith in
    let b : root nodes - suc m ≡ a = omega arith in
    ap (claims_under nodes levels T) e
    ∙ (claims_under_is nodes levels T m (omega arith) ∙ ap₂ (λ k n. flat_map (handed_by nodes levels T k) (below n)) b (sym e))

pub given_is : (nodes : List Node) (levels : ℕ) (T : Transcript) (k a : ℕ)
    → given nodes k a ≡ length (flat_map (handed_by nodes levels T a) (below (suc (root nodes) - k)))
unfolding given handed_by
given_is nodes levels T k a =
    sym (length-flat_map (handed_by nodes levels T a) (below (suc (root nodes) - k))
    ∙ sum_by_agree _ _ (below (suc (root nodes) - k)) (λ j c.
    length-claims_from nodes levels T (root nodes - j) (node_at nodes (root nodes - j)) (claims_on nodes levels T (root nodes - j)) a
    (claims nodes (root nodes - j)) (length-claims_on nodes levels T (root nodes - j))))

pub place_law : PlaceLaw
unfolding handed_by
place_law nodes levels T p a c l lp h =
    let n = root nodes - p in
    let back : root nodes - n ≡ p = omega arith in
    let e : suc (root nodes) - suc p ≡ n = omega arith in
    let g = given_is nodes levels T (suc p) a ∙ ap (λ z. length (blocks (handed_by nodes levels T a) z)) e in
    let same : handed_by nodes levels T a n ≡ claims_from nodes levels T p (node_at nodes p) (claims_on nodes levels T p) a =
    ap (λ q. claims_from nodes levels T q (node_at nodes q) (claims_on nodes levels T q) a) back in
    ap₂ (λ xs z. get_or xs (z + c) no_claim) (claims_is nodes levels T a (omega arith)) g
    ∙ (entry (handed_by nodes levels T a) no_claim (root nodes - a) n c (omega arith) (subst (λ z. c < length z) (sym same) h)
    ∙ ap (λ z. get_or z c no_claim) same)

-- all claims on a node come from larger nodes
pub given_all : (nodes : List Node) (a : ℕ) → a < root nodes → given nodes (suc a) a ≡ claims nodes a
given_all nodes a l =
    given_is nodes 0 none (suc a) a
    ∙ (ap (λ z. length (blocks (handed_by nodes 0 none a) z)) e ∙ (sym (ap length (claims_is nodes 0 none a l)) ∙ length-claims_on nodes 0 none a))
  where
    none : Transcript
    none = record { answer = true; draw = λ k i. 0; polys = λ k i. []; values = λ k. (0, 0) }

    e : suc (root nodes) - suc a ≡ root nodes - a
    e = omega arith

-- one node more
pub given_more : (nodes : List Node) (k a : ℕ) → k ≤ root nodes
    → given nodes k a ≡ given nodes (suc k) a + handed_down (node_at nodes k) (claims nodes k) a
unfolding given below
given_more nodes k a l =
    let n = root nodes - k in
    let f : ℕ → ℕ = λ n. handed_down (node_at nodes (root nodes - n)) (claims nodes (root nodes - n)) a in
    let e : suc (root nodes) - k ≡ suc n = omega arith in
    let e' : n ≡ suc (root nodes) - suc k = omega arith in
    let back : root nodes - n ≡ k = omega arith in
    ap (λ z. sum_by f (below z)) e
    ∙ (sum_by_push f (below n) n
    ∙ ap₂ (λ u w. sum_by f (below u) + handed_down (node_at nodes w) (claims nodes w) a) e' back)

-- fewer nodes make fewer claims
pub given_falls : (nodes : List Node) (a n : ℕ) (k : ℕ) → k + n ≤ suc (root nodes) → given nodes (k + n) a ≤ given nodes k a
given_falls nodes a zero k l =
    let e : k + 0 ≡ k = omega arith in
    let u : given nodes (k + 0) a ≡ given nodes k a = ap (λ z. given nodes z a) e in
    omega arith
given_falls nodes a (suc n) k l =
    let e : k + suc n ≡ suc (k + n) = omega arith in
    let u : given nodes (k + suc n) a ≡ given nodes (suc (k + n)) a = ap (λ z. given nodes z a) e in
    omega (arith, given_more nodes (k + n) a (omega arith), given_falls nodes a n k (omega arith))

-- the claims that are handed to a node are within their number
pub few_given : (nodes : List Node) (k a c : ℕ) → k ≤ root nodes → a < k → c < cond (eqb a (root nodes)) 1 (given nodes (suc k) a)
    → c < claims nodes a
few_given nodes k a c lk l h =
    let q : c < given nodes (suc k) a = subst (λ b. c < cond b 1 (given nodes (suc k) a)) (ne_eqb a (root nodes) (λ e. omega arith)) h in
    let e : suc a + (k - a) ≡ suc k = omega arith in
    let u : given nodes (suc a + (k - a)) a ≡ given nodes (suc k) a = ap (λ z. given nodes z a) e in
    omega (arith, given_all nodes a (omega arith), given_falls nodes a (k - a) (suc a) (omega arith))
