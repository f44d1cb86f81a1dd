-- Which replies show the conditions of a node.
use Rattle.std.proofs.Common.{arith, ℕ, ◌≡◌, ◌+◌, ◌<◌, ◌≤◌, refl, sym, ◌∙◌, ap, List, [], ◌∷◌, ◌++◌, length, drop, Bool, true, false, cond, ltb}
use Rattle.std.proofs.lemmas.Bool.{lt-ltb, le-ltb}
use Rattle.std.proofs.lemmas.List.{append-nil}
use Rattle.std.proofs.lemmas.List.Elements.{filter-append}
use Rattle.std.specs.Prelude.{map, flat_map, filter, find, reverse, None}
use mathlib.Core.Path.{ap₂}
use Rattle.blic_field.specs.Field.{or, mul}
use Rattle.blic_model.specs.Circuit.{node_at, below, free}
use Rattle.blic_model.specs.Counts.{is_binary}
use Rattle.blic_model.specs.declared.node.Node.{Node}
use Rattle.blic_model.specs.declared.node.Node.TheVariants.{Const, Var, Not, Fix, And, Or}
use Rattle.blic_claims.proofs.Turns.{above_step, sum_above_is, values_first}
use Rattle.blic_claims.specs.Claims.{Transcript, Claim, claims_on}
use Rattle.blic_claims.specs.Turns.{replies_above, polys_number, values_number}
use Rattle.blic_verifier.proofs.Finding.{find_part, none_part, filter_all, filter_nothing, none_left}
use Rattle.blic_verifier.proofs.ShownKept.{is_shown}
use Rattle.blic_verifier.specs.Acceptance.{Check, fails, poly_check, ends_check, combine_check, binary_checks, node_checks, checks}
use Rattle.blic_verifier.specs.Verdict.{fault_upto}

pub replies_above_falls : (nodes : List Node) (levels k j : ℕ) → k < j → j < length nodes → replies_above nodes levels j ≤ replies_above nodes levels k
replies_above_falls nodes levels k j h l =
    omega (
      arith,
      sum_above_is nodes (λ n. length (free nodes levels n) + 1) k,
      sum_above_is nodes (λ n. length (free nodes levels n) + 1) j,
      above_step (λ n. cond (is_binary (node_at nodes n)) (length (free nodes levels n) + 1) 0) (length nodes) k j h l,
    )

filter_parts_all : {X : Type 0} (p : X → Bool) (g : ℕ → List X) (xs : List ℕ) → ((i : ℕ) → filter p (g i) ≡ g i) → filter p (flat_map g xs) ≡ flat_map g xs
filter_parts_all p g [] h = refl
filter_parts_all p g (x ∷ xs) h = filter-append p (g x) (flat_map g xs) ∙ ap₂ (λ a b. a ++ b) (h x) (filter_parts_all p g xs h)

filter_parts_nothing : {X : Type 0} (p : X → Bool) (g : ℕ → List X) (xs : List ℕ) → ((i : ℕ) → filter p (g i) ≡ []) → filter p (flat_map g xs) ≡ []
filter_parts_nothing p g [] h = refl
filter_parts_nothing p g (x ∷ xs) h = filter-append p (g x) (flat_map g xs) ∙ ap₂ (λ a b. a ++ b) (h x) (filter_parts_nothing p g xs h)

abbrev pub polys_part : List Node → ℕ → Transcript → ℕ → List Claim → List Check
polys_part nodes levels T k cs = flat_map (λ i. map (poly_check nodes levels T k cs i) (below (length cs))) (reverse (below (length (free nodes levels k))))

abbrev pub ends_part : List Node → ℕ → Transcript → ℕ → List Claim → List Check
ends_part nodes levels T k cs = map (ends_check nodes levels T k cs) (drop 1 (below (length cs)))

pub shown_binary : (nodes : List Node) (levels : ℕ) (T : Transcript) (k n : ℕ) (cs : List Claim) (both : ℕ) → values_number nodes levels k + 1 < n
    → filter (is_shown n) (binary_checks nodes levels T k cs both) ≡ binary_checks nodes levels T k cs both
shown_binary nodes levels T k n cs both h =
    let last : ltb (values_number nodes levels k + 1) n ≡ true = lt-ltb _ n h in
    filter-append (is_shown n) (polys_part nodes levels T k cs ++ ends_part nodes levels T k cs) _ ∙ ap₂ (λ a b. a ++ b)
    (filter-append (is_shown n) (polys_part nodes levels T k cs) (ends_part nodes levels T k cs) ∙ ap₂ (λ a b. a ++ b)
    (filter_parts_all (is_shown n) _ (reverse (below (length (free nodes levels k)))) (λ i. filter_all (is_shown n) (poly_check nodes levels T k cs i) _ (λ c. lt-ltb (polys_number nodes levels k i + 1) n (omega arith))))
    (filter_all (is_shown n) (ends_check nodes levels T k cs) _ (λ c. last)))
    (ap (λ b. cond b (combine_check nodes levels T k cs both ∷ []) []) last)

pub shown_no_binary : (nodes : List Node) (levels : ℕ) (T : Transcript) (k n : ℕ) (cs : List Claim) (both : ℕ) → n ≤ replies_above nodes levels k + 1
    → filter (is_shown n) (binary_checks nodes levels T k cs both) ≡ []
shown_no_binary nodes levels T k n cs both h =
    let last : ltb (values_number nodes levels k + 1) n ≡ false = le-ltb _ n (omega arith) in
    filter-append (is_shown n) (polys_part nodes levels T k cs ++ ends_part nodes levels T k cs) _ ∙ ap₂ (λ a b. a ++ b)
    (filter-append (is_shown n) (polys_part nodes levels T k cs) (ends_part nodes levels T k cs) ∙ ap₂ (λ a b. a ++ b)
    (filter_parts_nothing (is_shown n) _ (reverse (below (length (free nodes levels k)))) (λ i. filter_nothing (is_shown n) (poly_check nodes levels T k cs i) _ (λ c. le-ltb (polys_number nodes levels k i + 1) n (omega arith))))
    (filter_nothing (is_shown n) (ends_check nodes levels T k cs) _ (λ c. last)))
    (ap (λ b. cond b (combine_check nodes levels T k cs both ∷ []) []) last)

-- all of a node's conditions are shown by the first n replies
pub shown_all : (nodes : List Node) (levels : ℕ) (T : Transcript) (k n : ℕ) (m : Node) (cs : List Claim)
    → (is_binary m ≡ true → values_number nodes levels k + 1 < n) → replies_above nodes levels k < n
    → filter (is_shown n) (node_checks nodes levels T k m cs) ≡ node_checks nodes levels T k m cs
shown_all nodes levels T k n (Const b) cs h s = filter_all (is_shown n) _ _ (λ c. lt-ltb _ n s)
shown_all nodes levels T k n (Var x) cs h s = filter_all (is_shown n) _ _ (λ c. lt-ltb _ n s)
shown_all nodes levels T k n (Not a) cs h s = refl
shown_all nodes levels T k n (Fix x b a) cs h s = refl
shown_all nodes levels T k n (And a b) cs h s = shown_binary nodes levels T k n cs _ (h refl)
shown_all nodes levels T k n (Or a b) cs h s = shown_binary nodes levels T k n cs _ (h refl)

-- none of a node's conditions is shown by the first n replies
pub shown_nothing : (nodes : List Node) (levels : ℕ) (T : Transcript) (k n : ℕ) (m : Node) (cs : List Claim) → n ≤ replies_above nodes levels k
    → filter (is_shown n) (node_checks nodes levels T k m cs) ≡ []
shown_nothing nodes levels T k n (Const b) cs s = filter_nothing (is_shown n) _ _ (λ c. le-ltb _ n s)
shown_nothing nodes levels T k n (Var x) cs s = filter_nothing (is_shown n) _ _ (λ c. le-ltb _ n s)
shown_nothing nodes levels T k n (Not a) cs s = refl
shown_nothing nodes levels T k n (Fix x b a) cs s = refl
shown_nothing nodes levels T k n (And a b) cs s = shown_no_binary nodes levels T k n cs _ (omega arith)
shown_nothing nodes levels T k n (Or a b) cs s = shown_no_binary nodes levels T k n cs _ (omega arith)

-- the conditions of a binary node
pub binary_is : (nodes : List Node) (levels : ℕ) (T : Transcript) (k : ℕ) (m : Node) (cs : List Claim) → is_binary m ≡ true
    → (both : ℕ) × (node_checks nodes levels T k m cs ≡ binary_checks nodes levels T k cs both)
binary_is nodes levels T k (Const b) cs e = absurd (cc e)
binary_is nodes levels T k (Var x) cs e = absurd (cc e)
binary_is nodes levels T k (Not a) cs e = absurd (cc e)
binary_is nodes levels T k (Fix x b a) cs e = absurd (cc e)
binary_is nodes levels T k (And a b) cs e = (mul (T.values k).0 (T.values k).1, refl)
binary_is nodes levels T k (Or a b) cs e = (or (T.values k).0 (T.values k).1, refl)

-- within a node: the first fault shown by the polynomials for level i, where nothing before it fails
level_verdict : (nodes : List Node) (levels : ℕ) (T : Transcript) (k i : ℕ) (cs : List Claim) (both : ℕ) → i < length (free nodes levels k)
    → find fails (filter (is_shown (polys_number nodes levels k i + 1)) (binary_checks nodes levels T k cs both)) ≡ None
    → find fails (filter (is_shown (polys_number nodes levels k i + 2)) (binary_checks nodes levels T k cs both)) ≡ find fails (map (poly_check nodes levels T k cs i) (below (length cs)))
level_verdict nodes levels T k i cs both l e =
    let n = polys_number nodes levels k i + 1 in
    let w = polys_number nodes levels k i + 2 in
    let g : ℕ → List Check = λ i. map (poly_check nodes levels T k cs i) (below (length cs)) in
    let P = polys_part nodes levels T k cs in
    let E = ends_part nodes levels T k cs in
    let C = combine_check nodes levels T k cs both ∷ [] in
    let late : ltb (values_number nodes levels k + 1) w ≡ false = le-ltb _ w (omega arith) in
    let no_ends : filter (is_shown w) E ≡ [] = filter_nothing (is_shown w) (ends_check nodes levels T k cs) _ (λ c. late) in
    let no_combine : filter (is_shown w) C ≡ [] = ap (λ b. cond b C []) late in
    let before : find fails (filter (is_shown n) P) ≡ None =
    none_left fails (filter (is_shown n) P) (filter (is_shown n) E)
    (ap (find fails) (sym (filter-append (is_shown n) P E)) ∙ none_left fails (filter (is_shown n) (P ++ E)) (filter (is_shown n) C) (ap (find fails) (sym (filter-append (is_shown n) (P ++ E) C)) ∙ e)) in
    ap (find fails) (filter-append (is_shown w) (P ++ E) C ∙ ap₂ (λ a b. a ++ b) (filter-append (is_shown w) P E ∙ ap (λ z. filter (is_shown w) P ++ z) no_ends) no_combine)
    ∙ (ap (find fails) (append-nil (filter (is_shown w) P ++ []) ∙ append-nil (filter (is_shown w) P))
    ∙ (find_part fails (is_shown w) g (length (free nodes levels k)) i l
    (λ j h m.
    let q : polys_number nodes levels k j + 1 < n = omega arith in
    ap (find fails) (filter_all (is_shown w) (poly_check nodes levels T k cs j) _ (λ c. lt-ltb _ w (omega arith)) ∙ sym (filter_all (is_shown n) (poly_check nodes levels T k cs j) _ (λ c. lt-ltb _ n q)))
    ∙ none_part fails (is_shown n) g (length (free nodes levels k)) j m before)
    (λ j h. ap (find fails) (filter_nothing (is_shown w) (poly_check nodes levels T k cs j) _ (λ c. le-ltb (polys_number nodes levels k j + 1) w (omega arith))))
    ∙ ap (find fails) (filter_all (is_shown w) (poly_check nodes levels T k cs i) _ (λ c. lt-ltb _ w (omega arith)))))

-- The first fault shown by the polynomials for level i of node k, where nothing before it fails, is the first among the claims.
pub polys_verdict : (nodes : List Node) (levels : ℕ) (T : Transcript) (k i : ℕ) → k < length nodes → is_binary (node_at nodes k) ≡ true
    → i < length (free nodes levels k)
    → fault_upto nodes levels T (polys_number nodes levels k i + 1) ≡ None
    → fault_upto nodes levels T (polys_number nodes levels k i + 2) ≡ find fails (map (poly_check nodes levels T k (claims_on nodes levels T k) i) (below (length (claims_on nodes levels T k))))
unfolding checks
polys_verdict nodes levels T k i lk b l e =
    let n = polys_number nodes levels k i + 1 in
    let w = polys_number nodes levels k i + 2 in
    let g : ℕ → List Check = λ j. node_checks nodes levels T j (node_at nodes j) (claims_on nodes levels T j) in
    let is = binary_is nodes levels T k (node_at nodes k) (claims_on nodes levels T k) b in
    find_part fails (is_shown w) g (length nodes) k lk
    (λ j h m.
    let s = replies_above_falls nodes levels k j h m in
    let r : is_binary (node_at nodes j) ≡ true → values_number nodes levels j + 1 < n = λ c. (let v = values_first nodes levels k j h m c in omega arith) in
    ap (find fails) (shown_all nodes levels T j w (node_at nodes j) (claims_on nodes levels T j) (λ c. (let u = r c in omega arith)) (omega arith) ∙ sym (shown_all nodes levels T j n (node_at nodes j) (claims_on nodes levels T j) r (omega arith)))
    ∙ none_part fails (is_shown n) g (length nodes) j m e)
    (λ j h.
    let v = values_first nodes levels j k h lk b in
    ap (find fails) (shown_nothing nodes levels T j w (node_at nodes j) (claims_on nodes levels T j) (omega arith)))
    ∙ (ap (λ z. find fails (filter (is_shown w) z)) is.1
    ∙ level_verdict nodes levels T k i (claims_on nodes levels T k) is.0 l (ap (λ z. find fails (filter (is_shown n) z)) (sym is.1) ∙ none_part fails (is_shown n) g (length nodes) k lk e))
