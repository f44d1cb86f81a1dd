-- Chains are formulas within the limits.
use Rattle.std.proofs.Common.{arith, ℕ, zero, suc, ◌≡◌, ◌+◌, ◌*◌, ◌<◌, ◌≤◌, refl, sym, ◌∙◌, ap, add-one, subst, ◌⊎◌, inl, inr, List, [], ◌∷◌, ◌++◌, length, Bool, true, false, cond, not, ◌&&◌, ◌||◌, eqb, ltb, leb}
use Rattle.std.specs.Prelude.{flat_map, sum_by}
use Rattle.std.specs.List.{list_all}
use Rattle.std.proofs.lemmas.Bool.{cases_eq, cases_lt, cond-false, eq-eqb, ne_eqb, eqb-true, lt-ltb, le-leb, and_from, or_parts}
use Rattle.std.proofs.lemmas.List.{append-nil, length-append}
use Rattle.std.proofs.lemmas.List.Folds.{list_any-append, list_all-append}
use Rattle.std.proofs.lemmas.List.Sums.{sum_by-append}
use Rattle.std.proofs.lemmas.Grind.{flat_map-append}
use Rattle.blic_model.specs.declared.prefix.Bound.{Bound}
use Rattle.blic_model.specs.declared.formula.Lit.{Lit}
use Rattle.blic_model.specs.Formula.{PrenexFormula}
use Rattle.blic_model.specs.Circuit.{below}
use Rattle.blic_model.specs.Limits.{is_bound, are_in_range, are_distinct, IsFormula}
use Rattle.blic_gen.specs.Chain.{universal, existential, xor, link, prefix_of, clauses_of, chain}

pub none_below : {X : Type 0} (f : ℕ → List X) → flat_map f (below 0) ≡ []
unfolding below
none_below f = refl

pub more_below : {X : Type 0} (f : ℕ → List X) (m : ℕ) → flat_map f (below (suc m)) ≡ flat_map f (below m) ++ f m
unfolding below
more_below f m = flat_map-append f (below m) (m ∷ []) ∙ ap (λ ys. flat_map f (below m) ++ ys) (append-nil (f m))

pub more_at : {X : Type 0} (f : ℕ → List X) (m : ℕ) → flat_map f (below (m + 1)) ≡ flat_map f (below m) ++ f m
more_at f m = ap (λ n. flat_map f (below n)) (add-one m) ∙ more_below f m

-- the two entries of a pair, in one order or the other
abbrev pair : Bool → ℕ → List Bound
pair b k = cond b (universal (2 * k + 1) ∷ existential (2 * k + 2) ∷ []) (existential (2 * k + 2) ∷ universal (2 * k + 1) ∷ [])

abbrev pairs : (ℕ → Bool) → ℕ → List Bound
pairs b m = flat_map (λ k. pair (b k) k) (below m)

both_in : (p q r s : Bool) → p ≡ true → q ≡ true → r ≡ true → s ≡ true → ((p && q) && ((r && s) && true)) ≡ true
both_in p q r s a b c d = grind arith

pair_in_range : (vars k : ℕ) (b : Bool) → 2 * k + 2 ≤ vars → are_in_range vars (pair b k) ≡ true
pair_in_range vars k true l =
    both_in _ _ _ _ (lt-ltb 0 (2 * k + 1) (omega arith)) (le-leb (2 * k + 1) vars (omega arith)) (lt-ltb 0 (2 * k + 2) (omega arith)) (le-leb (2 * k + 2) vars l)
pair_in_range vars k false l =
    both_in _ _ _ _ (lt-ltb 0 (2 * k + 2) (omega arith)) (le-leb (2 * k + 2) vars l) (lt-ltb 0 (2 * k + 1) (omega arith)) (le-leb (2 * k + 1) vars (omega arith))

pairs_in_range : (vars : ℕ) (b : ℕ → Bool) (m : ℕ) → 2 * m ≤ vars → are_in_range vars (pairs b m) ≡ true
pairs_in_range vars b zero l = ap (are_in_range vars) (none_below (λ k. pair (b k) k))
pairs_in_range vars b (suc m) l =
    ap (are_in_range vars) (more_below (λ k. pair (b k) k) m)
    ∙ (list_all-append (λ (e : Bound). ltb 0 e.var && leb e.var vars) (pairs b m) (pair (b m) m)
    ∙ and_from _ _ (pairs_in_range vars b m (omega arith)) (pair_in_range vars m (b m) (omega arith)))

either_way : (p q : Bool) → (p || (q || false)) ≡ (q || p)
either_way p q = grind arith

either_way_same : (p q : Bool) → (p || (q || false)) ≡ (p || q)
either_way_same p q = grind arith

pair_binds : (b : Bool) (k v : ℕ) → is_bound (pair b k) v ≡ (eqb (2 * k + 1) v || eqb (2 * k + 2) v)
pair_binds true k v = either_way_same (eqb (2 * k + 1) v) (eqb (2 * k + 2) v)
pair_binds false k v = either_way (eqb (2 * k + 2) v) (eqb (2 * k + 1) v)

binds_more : (b : ℕ → Bool) (m v : ℕ) → is_bound (pairs b (suc m)) v ≡ (is_bound (pairs b m) v || (eqb (2 * m + 1) v || eqb (2 * m + 2) v))
binds_more b m v =
    ap (λ xs. is_bound xs v) (more_below (λ k. pair (b k) k) m)
    ∙ (list_any-append (λ (e : Bound). eqb e.var v) (pairs b m) (pair (b m) m) ∙ ap (λ z. is_bound (pairs b m) v || z) (pair_binds (b m) m v))

first_true : (p q r : Bool) → p ≡ true → (p || (q || r)) ≡ true
first_true p q r h = grind arith

second_true : (p q r : Bool) → q ≡ true → (p || (q || r)) ≡ true
second_true p q r h = grind arith

third_true : (p q r : Bool) → r ≡ true → (p || (q || r)) ≡ true
third_true p q r h = grind arith

all_false : (p q r : Bool) → p ≡ false → q ≡ false → r ≡ false → (p || (q || r)) ≡ false
all_false p q r a b c = grind arith

-- the pairs bind each variable up to theirs, and no other
pairs_bind : (b : ℕ → Bool) (m v : ℕ) → 0 < v → v ≤ 2 * m → is_bound (pairs b m) v ≡ true
pairs_bind b zero v l h = absurd (omega arith)
pairs_bind b (suc m) v l h = binds_more b m v ∙ elim (cases_lt (2 * m) v) [
  | inr low ↦ first_true (is_bound (pairs b m) v) (eqb (2 * m + 1) v) (eqb (2 * m + 2) v) (pairs_bind b m v l low)
  | inl high ↦ elim (cases_eq (2 * m + 1) v) [
    | inl e ↦ second_true (is_bound (pairs b m) v) (eqb (2 * m + 1) v) (eqb (2 * m + 2) v) (eq-eqb (2 * m + 1) v e)
    | inr ne ↦ third_true (is_bound (pairs b m) v) (eqb (2 * m + 1) v) (eqb (2 * m + 2) v) (eq-eqb (2 * m + 2) v (omega arith))
  ]
]

pairs_free : (b : ℕ → Bool) (m v : ℕ) → 2 * m < v → is_bound (pairs b m) v ≡ false
pairs_free b zero v l = ap (λ xs. is_bound xs v) (none_below (λ k. pair (b k) k))
pairs_free b (suc m) v l =
    binds_more b m v
    ∙ all_false (is_bound (pairs b m) v) (eqb (2 * m + 1) v) (eqb (2 * m + 2) v) (pairs_free b m v (omega arith)) (ne_eqb (2 * m + 1) v (λ e. omega arith))
    (ne_eqb (2 * m + 2) v (λ e. omega arith))

fresh_first : (p q r s : Bool) → p ≡ false → q ≡ false → r ≡ true → s ≡ (p || q) → (not s && r) ≡ true
fresh_first p q r s a b c e = grind arith

head_parts : (p q : Bool) → (not p && q) ≡ true → (p ≡ false) × (q ≡ true)
head_parts true q h = absurd (cc)
head_parts false q h = (refl, h)

-- two lists that bind no variable both
distinct_append : (xs ys : List Bound) → are_distinct xs ≡ true → are_distinct ys ≡ true → ((v : ℕ) → is_bound ys v ≡ true → is_bound xs v ≡ false)
    → are_distinct (xs ++ ys) ≡ true
distinct_append [] ys h k apart = k
distinct_append (x ∷ xs) ys h k apart =
    let w = head_parts (is_bound xs x.var) (are_distinct xs) h in
    let rest : are_distinct (xs ++ ys) ≡ true = distinct_append xs ys w.1 k (λ v e. (or_parts (eqb x.var v) (is_bound xs v) (apart v e)).1) in
    fresh_first (is_bound xs x.var) (is_bound ys x.var) (are_distinct (xs ++ ys)) (is_bound (xs ++ ys) x.var) w.0 (other (is_bound ys x.var) refl) rest
    (list_any-append (λ (e : Bound). eqb e.var x.var) xs ys)
  where
    other : (c : Bool) → is_bound ys x.var ≡ c → is_bound ys x.var ≡ false
    other false e = e
    other true e =
        let u : eqb x.var x.var ≡ false = (or_parts (eqb x.var x.var) (is_bound xs x.var) (apart x.var e)).0 in
        let t : eqb x.var x.var ≡ true = eq-eqb x.var x.var refl in
        cc

one_apart : (p : Bool) → p ≡ false → (not (p || false) && (not false && true)) ≡ true
one_apart p h = grind arith

pair_distinct : (b : Bool) (k : ℕ) → are_distinct (pair b k) ≡ true
pair_distinct true k = one_apart _ (ne_eqb (2 * k + 2) (2 * k + 1) (λ e. omega arith))
pair_distinct false k = one_apart _ (ne_eqb (2 * k + 1) (2 * k + 2) (λ e. omega arith))

one_of : (p q : Bool) → (p || q) ≡ true → (p ≡ true) ⊎ (q ≡ true)
one_of true q h = inl refl
one_of false q h = inr h

pair_above : (b : Bool) (m v : ℕ) → is_bound (pair b m) v ≡ true → 2 * m < v
pair_above b m v h = elim (one_of (eqb (2 * m + 1) v) (eqb (2 * m + 2) v) (sym (pair_binds b m v) ∙ h)) [
  | inl e ↦ (let u : 2 * m + 1 ≡ v = eqb-true (2 * m + 1) v e in omega arith)
  | inr e ↦ (let u : 2 * m + 2 ≡ v = eqb-true (2 * m + 2) v e in omega arith)
]

pairs_distinct : (b : ℕ → Bool) (m : ℕ) → are_distinct (pairs b m) ≡ true
pairs_distinct b zero = ap are_distinct (none_below (λ k. pair (b k) k))
pairs_distinct b (suc m) =
    ap are_distinct (more_below (λ k. pair (b k) k) m)
    ∙ distinct_append (pairs b m) (pair (b m) m) (pairs_distinct b m) (pair_distinct (b m) m) (λ v e. pairs_free b m v (pair_above (b m) m v e))

-- the clauses
abbrev Passes : (ℕ → Bool) → List (List Lit) → Type 0
Passes test clauses = list_all (list_all (λ l. test l.var)) clauses ≡ true

xor_passes : (test : ℕ → Bool) (d u e : ℕ) → test d ≡ true → test u ≡ true → test e ≡ true → Passes test (xor d u e)
xor_passes test d u e p q r = rw (p, q, r) refl

later : (k : ℕ) → 0 < k → link k ≡ xor (2 * k) (2 * k + 1) (2 * k + 2)
later k l = cond-false (eqb k 0) _ (xor (2 * k) (2 * k + 1) (2 * k + 2)) (ne_eqb k 0 (λ e. omega arith))

link_passes : (test : ℕ → Bool) (n k : ℕ) → ((v : ℕ) → 0 < v → v ≤ 2 * n → test v ≡ true) → k < n → Passes test (link k)
link_passes test n zero h l = rw (h 1 (omega arith) (omega arith), h 2 (omega arith) (omega arith)) refl
link_passes test n (suc k) h l =
    subst (λ c. Passes test c) (sym (later (suc k) (omega arith)))
    (xor_passes test (2 * suc k) (2 * suc k + 1) (2 * suc k + 2) (h (2 * suc k) (omega arith) (omega arith)) (h (2 * suc k + 1) (omega arith) (omega arith)) (h (2 * suc k + 2) (omega arith) (omega arith)))

links_pass : (test : ℕ → Bool) (n m : ℕ) → ((v : ℕ) → 0 < v → v ≤ 2 * n → test v ≡ true) → m ≤ n → Passes test (clauses_of m)
links_pass test n zero h l = ap (list_all (list_all (λ (l : Lit). test l.var))) (none_below link)
links_pass test n (suc m) h l =
    ap (list_all (list_all (λ (l : Lit). test l.var))) (more_below link m)
    ∙ (list_all-append (list_all (λ (l : Lit). test l.var)) (clauses_of m) (link m)
    ∙ and_from _ _ (links_pass test n m h (omega arith)) (link_passes test n m h (omega arith)))

link_size : (k : ℕ) → (length (link k) ≤ 4) × (sum_by length (link k) ≤ 12)
link_size zero = (omega arith, omega arith)
link_size (suc k) =
    let e = later (suc k) (omega arith) in
    let a : length (link (suc k)) ≡ 4 = ap length e in
    let b : sum_by length (link (suc k)) ≡ 12 = ap (sum_by length) e in
    (omega arith, omega arith)

links_size : (m : ℕ) → (length (clauses_of m) ≤ 4 * m) × (sum_by length (clauses_of m) ≤ 12 * m)
links_size zero =
    let a : length (clauses_of 0) ≡ 0 = ap length (none_below link) in
    let b : sum_by length (clauses_of 0) ≡ 0 = ap (sum_by length) (none_below link) in
    (omega arith, omega arith)
links_size (suc m) =
    let w = links_size m in
    let u = link_size m in
    let a : length (clauses_of (suc m)) ≡ length (clauses_of m) + length (link m) = ap length (more_below link m) ∙ length-append (clauses_of m) (link m) in
    let b : sum_by length (clauses_of (suc m)) ≡ sum_by length (clauses_of m) + sum_by length (link m) =
    ap (sum_by length) (more_below link m) ∙ sum_by-append length (clauses_of m) (link m) in
    (omega arith, omega arith)

all_six : (a b c d e f : Bool) → a ≡ true → b ≡ true → c ≡ true → d ≡ true → e ≡ true → f ≡ true → ((((a && b) && c) && d) && e && f) ≡ true
all_six a b c d e f p1 p2 p3 p4 p5 p6 = grind arith

pub chain_is_formula : (n : ℕ) (truth : Bool) → 1 ≤ n → n ≤ 500 → IsFormula (chain n truth)
unfolding chain
chain_is_formula n truth l h =
    let order = λ (k : ℕ). truth || ltb (k + 1) n in
    let size = links_size n in
    all_six _ _ _ _ _ _ (le-leb (2 * n) 65535 (omega arith)) (le-leb (length (clauses_of n)) 1048576 (omega arith))
    (le-leb (sum_by length (clauses_of n)) 1048576 (omega arith)) (pairs_in_range (2 * n) order n (omega arith)) (pairs_distinct order n)
    (links_pass (is_bound (prefix_of n truth)) n n (pairs_bind order n) (omega arith))

-- a formula of these parts is the chain
pub chain_from : (n : ℕ) (truth : Bool) (f : PrenexFormula) → f.vars ≡ 2 * n → f.prefix ≡ prefix_of n truth → f.clauses ≡ clauses_of n → f ≡ chain n truth
unfolding chain
chain_from n truth f e g h = λ i. record { vars = e i; prefix = g i; clauses = h i }
