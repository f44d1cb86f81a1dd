-- The conditions that the first n replies show are fixed by those replies and the draws among them.
use Rattle.std.proofs.Common.{arith, ℕ, ◌≡◌, ◌+◌, ◌<◌, ◌≤◌, refl, sym, ◌∙◌, ap, inl, inr, List, [], ◌∷◌, ◌++◌, length, get_or, drop, Bool, true, false, cond, ltb}
use Rattle.std.proofs.lemmas.Bool.{cases_eq, ltb-true, eq-eqb, ne_eqb, cond-true, cond-false}
use Rattle.std.proofs.lemmas.List.Elements.{filter-append, Contains-append_right, All-contains}
use Rattle.std.proofs.lemmas.List.Sorted.{IsPermutation-reverse, All-permutation}
use Rattle.std.specs.Prelude.{map, flat_map, filter, reverse, Contains}
use mathlib.Core.Path.{ap₂}
use Rattle.blic_field.specs.Field.{or, mul}
use Rattle.blic_field.specs.Quadratic.{at}
use Rattle.blic_poly2.specs.Poly.{reduced_at}
use Rattle.blic_model.specs.Circuit.{node_at, below, free, root}
use Rattle.blic_model.specs.Counts.{is_binary}
use Rattle.blic_model.specs.Value.{bit}
use Rattle.blic_model.specs.declared.node.Node.{Node}
use Rattle.blic_model.specs.declared.node.Node.TheVariants.{Const, Var, Not, Fix, And, Or}
use Rattle.blic_claims.proofs.Agreement.{claims_agree, node_point_agree}
use Rattle.blic_claims.proofs.ClaimCounts.{length-claims_on}
use Rattle.blic_claims.proofs.Lists.{Contains-head, All-below-lt}
use Rattle.blic_claims.proofs.Turns.{values_first, binary_inside}
use Rattle.blic_claims.specs.Claims.{Transcript, Claim, claims_on, no_claim}
use Rattle.blic_claims.specs.Turns.{sum_above, polys_number, values_number}
use Rattle.blic_verifier.specs.Acceptance.{Check, no_poly, sent, value_at, poly_check, ends_check, leaf_check, combine_check, binary_checks, node_checks, checks}
use Rattle.blic_verifier.specs.Verdict.{checks_upto}
use Rattle.blic_verifier.specs.declared.place.Part.TheVariants.{Poly, Ends, Combine}

-- Two transcripts agree on the first n replies, Answer among them, and on the draws that come before the last of these.
pub record Agree (nodes : List Node) (levels : ℕ) (T : Transcript) (S : Transcript) (n : ℕ) : Type 0 where
  pub answers : T.answer ≡ S.answer
  pub values : (k : ℕ) → is_binary (node_at nodes k) ≡ true → values_number nodes levels k + 1 < n → T.values k ≡ S.values k
  pub polys : (k i : ℕ) → is_binary (node_at nodes k) ≡ true → i < length (free nodes levels k) → polys_number nodes levels k i + 1 < n
      → T.polys k i ≡ S.polys k i
  pub draws : (k i : ℕ) → is_binary (node_at nodes k) ≡ true → i < length (free nodes levels k) → polys_number nodes levels k i + 2 < n
      → T.draw k i ≡ S.draw k i

pub pick : {Y : Type 0} (b c : Bool) (u v : Y) (xs ys : List Y) → b ≡ c → (b ≡ true → u ≡ v) → xs ≡ ys → cond b (u ∷ xs) xs ≡ cond c (v ∷ ys) ys
pick true true u v xs ys e h q = ap₂ (λ a b. a ∷ b) (h refl) q
pick false false u v xs ys e h q = q
pick true false u v xs ys e h q = absurd (cc e)
pick false true u v xs ys e h q = absurd (cc e)

pub filter_map_agree : {Y : Type 0} (test : Y → Bool) (f g : ℕ → Y) (xs : List ℕ) → ((x : ℕ) → test (f x) ≡ test (g x))
    → ((x : ℕ) → test (f x) ≡ true → f x ≡ g x) → filter test (map f xs) ≡ filter test (map g xs)
filter_map_agree test f g [] e h = refl
filter_map_agree test f g (x ∷ xs) e h = pick (test (f x)) (test (g x)) (f x) (g x) _ _ (e x) (h x) (filter_map_agree test f g xs e h)

pub filter_flat_map_agree : {Y : Type 0} (test : Y → Bool) (f g : ℕ → List Y) (xs : List ℕ)
    → ((x : ℕ) → Contains xs x → filter test (f x) ≡ filter test (g x)) → filter test (flat_map f xs) ≡ filter test (flat_map g xs)
filter_flat_map_agree test f g [] h = refl
filter_flat_map_agree test f g (x ∷ xs) h =
    filter-append test (f x) (flat_map f xs) ∙ (ap₂ (λ a b. a ++ b) (h x (Contains-head x xs)) (filter_flat_map_agree test f g xs (λ y c. h y (Contains-append_right (x ∷ []) xs y c))) ∙ sym (filter-append test (g x) (flat_map g xs)))

pub claims_upto : (nodes : List Node) (levels : ℕ) (T S : Transcript) (n : ℕ) → Agree nodes levels T S n → (k : ℕ) → k ≤ root nodes
    → sum_above nodes (λ j. length (free nodes levels j) + 1) k < n
    → claims_on nodes levels T k ≡ claims_on nodes levels S k
claims_upto nodes levels T S n a k l h =
    claims_agree nodes levels T S a.answers k (λ j q b.
    let v = values_first nodes levels k j q (binary_inside nodes j b) b in
    (a.values j b (omega arith), node_point_agree nodes levels T S j (λ i li. a.draws j i b li (omega arith)))) l

length_same : (nodes : List Node) (levels : ℕ) (T S : Transcript) (k : ℕ) → length (claims_on nodes levels T k) ≡ length (claims_on nodes levels S k)
length_same nodes levels T S k = length-claims_on nodes levels T k ∙ sym (length-claims_on nodes levels S k)

pub value_at_same : (nodes : List Node) (levels : ℕ) (T S : Transcript) (n : ℕ) → Agree nodes levels T S n → (k j i : ℕ) (c d : Claim) → c ≡ d
    → is_binary (node_at nodes k) ≡ true → i ≤ length (free nodes levels k)
    → (i < length (free nodes levels k) → polys_number nodes levels k i + 2 < n) → value_at nodes levels T k j c i ≡ value_at nodes levels S k j d i
value_at_same nodes levels T S n a k j i c d e b l h = elim (cases_eq i (length (free nodes levels k))) [
  | inl q ↦ cond-true _ c.value (at (sent T k i j) (T.draw k i)) (eq-eqb _ _ q) ∙ (ap (λ x. x.value) e ∙ sym (cond-true _ d.value (at (sent S k i j) (S.draw k i)) (eq-eqb _ _ q)))
  | inr ne ↦
      let li : i < length (free nodes levels k) = omega arith in
      let w = h li in
      cond-false _ c.value (at (sent T k i j) (T.draw k i)) (ne_eqb _ _ ne)
      ∙ (ap₂ (λ ps r. at (get_or ps j no_poly) r) (a.polys k i b li (omega arith)) (a.draws k i b li w) ∙ sym (cond-false _ d.value (at (sent S k i j) (S.draw k i)) (ne_eqb _ _ ne)))
]

abbrev pub is_shown : ℕ → Check → Bool
is_shown n c = ltb c.reply n

pub shown_lt : (n r : ℕ) → ltb r n ≡ true → r < n
shown_lt n r h = ltb-true r n h

pub poly_same : (nodes : List Node) (levels : ℕ) (T S : Transcript) (n : ℕ) → Agree nodes levels T S n → (k : ℕ) → k ≤ root nodes
    → is_binary (node_at nodes k) ≡ true → (i j : ℕ) → i < length (free nodes levels k)
    → is_shown n (poly_check nodes levels T k (claims_on nodes levels T k) i j) ≡ true
    → poly_check nodes levels T k (claims_on nodes levels T k) i j ≡ poly_check nodes levels S k (claims_on nodes levels S k) i j
poly_same nodes levels T S n a k l b i j li h =
    let w : polys_number nodes levels k i + 1 < n = shown_lt n (polys_number nodes levels k i + 1) h in
    let cs : claims_on nodes levels T k ≡ claims_on nodes levels S k = claims_upto nodes levels T S n a k l (omega arith) in
    let c : get_or (claims_on nodes levels T k) j no_claim ≡ get_or (claims_on nodes levels S k) j no_claim = ap (λ z. get_or z j no_claim) cs in
    let u = ap₂ (λ ps d. reduced_at (get_or ps j no_poly) (d.point (get_or (free nodes levels k) i 0))) (a.polys k i b li w) c in
    let v = value_at_same nodes levels T S n a k j (i + 1) _ _ c b (omega arith) (λ q. omega arith) in
    λ z. record { node = k; part = Poly i; claim = j; reply = polys_number nodes levels k i + 1; left = u z; right = v z }

ends_same : (nodes : List Node) (levels : ℕ) (T S : Transcript) (n : ℕ) → Agree nodes levels T S n → (k : ℕ) → k ≤ root nodes
    → is_binary (node_at nodes k) ≡ true → (j : ℕ)
    → is_shown n (ends_check nodes levels T k (claims_on nodes levels T k) j) ≡ true
    → ends_check nodes levels T k (claims_on nodes levels T k) j ≡ ends_check nodes levels S k (claims_on nodes levels S k) j
ends_same nodes levels T S n a k l b j h =
    let w : values_number nodes levels k + 1 < n = shown_lt n (values_number nodes levels k + 1) h in
    let cs : claims_on nodes levels T k ≡ claims_on nodes levels S k = claims_upto nodes levels T S n a k l (omega arith) in
    let u = value_at_same nodes levels T S n a k j 0 _ _ (ap (λ z. get_or z j no_claim) cs) b (omega arith) (λ q. omega arith) in
    let v = value_at_same nodes levels T S n a k 0 0 _ _ (ap (λ z. get_or z 0 no_claim) cs) b (omega arith) (λ q. omega arith) in
    λ z. record { node = k; part = Ends; claim = j; reply = values_number nodes levels k + 1; left = u z; right = v z }

binary_same : (nodes : List Node) (levels : ℕ) (T S : Transcript) (n : ℕ) → Agree nodes levels T S n → (k : ℕ) → k ≤ root nodes
    → is_binary (node_at nodes k) ≡ true → (join : ℕ × ℕ → ℕ)
    → filter (is_shown n) (binary_checks nodes levels T k (claims_on nodes levels T k) (join (T.values k))) ≡ filter (is_shown n) (binary_checks nodes levels S k (claims_on nodes levels S k) (join (S.values k)))
binary_same nodes levels T S n a k l b join =
    let m : below (length (claims_on nodes levels T k)) ≡ below (length (claims_on nodes levels S k)) = ap below (length_same nodes levels T S k) in
    filter-append (is_shown n) _ _ ∙ (ap₂ (λ x y. x ++ y)
    (filter-append (is_shown n) _ _ ∙ (ap₂ (λ x y. x ++ y)
    (filter_flat_map_agree (is_shown n) _ _ (reverse (below (length (free nodes levels k)))) (λ i c.
    filter_map_agree (is_shown n) (poly_check nodes levels T k (claims_on nodes levels T k) i) (poly_check nodes levels S k (claims_on nodes levels S k) i) (below (length (claims_on nodes levels T k))) (λ j. refl)
    (λ j h. poly_same nodes levels T S n a k l b i j (in_reverse (length (free nodes levels k)) i c) h)
    ∙ ap (λ xs. filter (is_shown n) (map (poly_check nodes levels S k (claims_on nodes levels S k) i) xs)) m))
    (filter_map_agree (is_shown n) (ends_check nodes levels T k (claims_on nodes levels T k)) (ends_check nodes levels S k (claims_on nodes levels S k)) (drop 1 (below (length (claims_on nodes levels T k)))) (λ j. refl)
    (λ j h. ends_same nodes levels T S n a k l b j h)
    ∙ ap (λ xs. filter (is_shown n) (map (ends_check nodes levels S k (claims_on nodes levels S k)) (drop 1 xs))) m)
    ∙ sym (filter-append (is_shown n) _ _)))
    (pick _ _ _ _ [] [] refl (λ h. last h) refl)
    ∙ sym (filter-append (is_shown n) _ _))
  where
    in_reverse : (n i : ℕ) → Contains (reverse (below n)) i → i < n
    in_reverse n i c = All-contains (λ i. i < n) (reverse (below n)) i (All-permutation (λ i. i < n) (below n) (reverse (below n)) (IsPermutation-reverse (below n)) (All-below-lt n)) c

    last : ltb (values_number nodes levels k + 1) n ≡ true
        → combine_check nodes levels T k (claims_on nodes levels T k) (join (T.values k)) ≡ combine_check nodes levels S k (claims_on nodes levels S k) (join (S.values k))
    last h =
        let w : values_number nodes levels k + 1 < n = shown_lt n (values_number nodes levels k + 1) h in
        let cs : claims_on nodes levels T k ≡ claims_on nodes levels S k = claims_upto nodes levels T S n a k l (omega arith) in
        let u = value_at_same nodes levels T S n a k 0 0 _ _ (ap (λ z. get_or z 0 no_claim) cs) b (omega arith) (λ q. omega arith) in
        let v = ap join (a.values k b w) in
        λ z. record { node = k; part = Combine; claim = 0; reply = values_number nodes levels k + 1; left = u z; right = v z }

node_same : (nodes : List Node) (levels : ℕ) (T S : Transcript) (n : ℕ) → Agree nodes levels T S n → (k : ℕ) → k ≤ root nodes → (m : Node) → node_at nodes k ≡ m
    → filter (is_shown n) (node_checks nodes levels T k m (claims_on nodes levels T k)) ≡ filter (is_shown n) (node_checks nodes levels S k m (claims_on nodes levels S k))
node_same nodes levels T S n a k l (Const b) e =
    filter_map_agree (is_shown n) _ (λ j. leaf_check nodes levels k j (get_or (claims_on nodes levels S k) j no_claim).value (bit b)) (below (length (claims_on nodes levels T k))) (λ j. refl)
    (λ j h. ap (λ cs. leaf_check nodes levels k j (get_or cs j no_claim).value (bit b)) (claims_upto nodes levels T S n a k l (shown_lt n _ h)))
    ∙ ap (λ z. filter (is_shown n) (map (λ j. leaf_check nodes levels k j (get_or (claims_on nodes levels S k) j no_claim).value (bit b)) (below z))) (length_same nodes levels T S k)
node_same nodes levels T S n a k l (Var x) e =
    filter_map_agree (is_shown n) _ (λ j. leaf_check nodes levels k j (get_or (claims_on nodes levels S k) j no_claim).value ((get_or (claims_on nodes levels S k) j no_claim).point x)) (below (length (claims_on nodes levels T k))) (λ j. refl)
    (λ j h. ap (λ cs. leaf_check nodes levels k j (get_or cs j no_claim).value ((get_or cs j no_claim).point x)) (claims_upto nodes levels T S n a k l (shown_lt n _ h)))
    ∙ ap (λ z. filter (is_shown n) (map (λ j. leaf_check nodes levels k j (get_or (claims_on nodes levels S k) j no_claim).value ((get_or (claims_on nodes levels S k) j no_claim).point x)) (below z))) (length_same nodes levels T S k)
node_same nodes levels T S n a k l (Not c) e = refl
node_same nodes levels T S n a k l (Fix x b c) e = refl
node_same nodes levels T S n a k l (And c d) e = binary_same nodes levels T S n a k l (ap is_binary e) (λ p. mul p.0 p.1)
node_same nodes levels T S n a k l (Or c d) e = binary_same nodes levels T S n a k l (ap is_binary e) (λ p. or p.0 p.1)

-- The conditions shown so far stay as they are, whatever follows.
pub checks_kept : (nodes : List Node) (levels : ℕ) (T S : Transcript) (n : ℕ) → Agree nodes levels T S n
    → checks_upto nodes levels T n ≡ checks_upto nodes levels S n
unfolding checks
checks_kept nodes levels T S n a =
    filter_flat_map_agree (is_shown n) _ _ (reverse (below (length nodes))) (λ k c.
    let lk : k < length nodes = All-contains (λ k. k < length nodes) (reverse (below (length nodes))) k (All-permutation (λ k. k < length nodes) (below (length nodes)) (reverse (below (length nodes))) (IsPermutation-reverse (below (length nodes))) (All-below-lt (length nodes))) c in
    node_same nodes levels T S n a k (omega arith) (node_at nodes k) refl)
