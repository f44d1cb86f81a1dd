-- What is read is a formula within the limits.
use Rattle.std.proofs.Common.{◌≡◌, ℕ, zero, suc, ◌<◌, ◌≤◌, Bool, true, false, cond, not, ◌&&◌, ◌||◌, ◌==◌, List, [], ◌∷◌, ◌++◌, length, refl, ap, sym, ◌∙◌, arith, nat_le, sum_by, map, append_assoc, ◌⊎◌, inl, inr}
use Rattle.std.specs.Prelude.{nat_lt, filter}
use Rattle.std.specs.List.{list_all, list_any}
use Rattle.std.proofs.lemmas.Bool.{le-leb, lt-ltb, leb-true, ltb-true, and_parts, and_from, not-true, not_from_false, ne_eqb, eq-eqb, cases_Bool, cases_lt, both_ways}
use Rattle.std.proofs.lemmas.List.{map-append}
use Rattle.std.proofs.lemmas.List.Folds.{list_any-append}
use Rattle.std.proofs.lemmas.List.Elements.{filter-append}
use Rattle.blic_model.specs.declared.prefix.Quant.TheVariants.{Exists}
use Rattle.blic_model.specs.declared.prefix.Bound.{Bound}
use Rattle.blic_model.specs.declared.formula.Lit.{Lit}
use Rattle.blic_model.specs.Limits.{IsFormula, is_small, is_bound, are_in_range, are_distinct, is_closed}
use Rattle.blic_qdimacs.specs.Header.{Header}
use Rattle.blic_qdimacs.specs.Items.{Items}
use Rattle.blic_qdimacs.specs.Meaning.{up_to, is_free, free_bounds, formula_of}
use Rattle.blic_qdimacs.specs.Sound.{literals_in_range, SoundItems}

free_bound : ℕ → Bound
free_bound v = record { quant = Exists; var = v }

abbrev bounds_where : (ℕ → Bool) → List ℕ → List Bound
bounds_where p vs = map (λ v. record { quant = Exists; var = v }) (filter p vs)

abbrev last_bound : (ℕ → Bool) → ℕ → List Bound
last_bound p v = map (λ v. record { quant = Exists; var = v }) (cond (p v) (v ∷ []) [])

-- one variable more
bounds_next : (p : ℕ → Bool) (n : ℕ) (ys : List Bound) → bounds_where p (up_to (suc n)) ++ ys ≡ bounds_where p (up_to n) ++ (last_bound p (suc n) ++ ys)
bounds_next p n ys =
    let mk : ℕ → Bound = λ v. record { quant = Exists; var = v } in
    ap (λ vs. map mk vs ++ ys) (filter-append p (up_to n) (suc n ∷ []))
    ∙ ap (λ bs. bs ++ ys) (map-append mk (filter p (up_to n)) (cond (p (suc n)) (suc n ∷ []) []))
    ∙ append_assoc (bounds_where p (up_to n)) (last_bound p (suc n)) ys

-- in range
range_last : (c : Bool) (m v : ℕ) (ys : List Bound) → 0 < v → v ≤ m → are_in_range m ys ≡ true → are_in_range m (map (λ v. record { quant = Exists; var = v }) (cond c (v ∷ []) []) ++ ys) ≡ true
range_last true m v ys some few all = and_from (nat_lt 0 v && nat_le v m) (are_in_range m ys) (and_from (nat_lt 0 v) (nat_le v m) (lt-ltb 0 v some) (le-leb v m few)) all
range_last false m v ys some few all = all

range_free : (p : ℕ → Bool) (n m : ℕ) (ys : List Bound) → n ≤ m → are_in_range m ys ≡ true → are_in_range m (bounds_where p (up_to n) ++ ys) ≡ true
range_free p zero m ys few all = all
range_free p (suc n) m ys few all =
    ap (are_in_range m) (bounds_next p n ys)
    ∙ range_free p n m (last_bound p (suc n) ++ ys) (omega arith) (range_last (p (suc n)) m (suc n) ys (omega arith) few all)

-- distinct
abbrev Fresh : (ℕ → Bool) → ℕ → List Bound → Type 0
Fresh p n ys = (v : ℕ) → v ≤ n → p v ≡ true → is_bound ys v ≡ false

distinct_last : (p : ℕ → Bool) (c : Bool) (v : ℕ) (ys : List Bound) → p v ≡ c → are_distinct ys ≡ true → Fresh p v ys → are_distinct (map (λ v. record { quant = Exists; var = v }) (cond c (v ∷ []) []) ++ ys) ≡ true
distinct_last p true v ys is all fresh = and_from (not (is_bound ys v)) (are_distinct ys) (not_from_false (is_bound ys v) (fresh v (omega arith) is)) all
distinct_last p false v ys is all fresh = all

fresh_last : (p : ℕ → Bool) (c : Bool) (n : ℕ) (ys : List Bound) → Fresh p (suc n) ys → Fresh p n (map (λ v. record { quant = Exists; var = v }) (cond c (suc n ∷ []) []) ++ ys)
fresh_last p true n ys fresh = λ v few is.
    let other : suc n ≡ v → ⊥ = λ e. omega (arith, e) in
    ap (λ t. t || is_bound ys v) (ne_eqb (suc n) v other) ∙ fresh v (omega arith) is
fresh_last p false n ys fresh = λ v few is. fresh v (omega arith) is

distinct_free : (p : ℕ → Bool) (n : ℕ) (ys : List Bound) → are_distinct ys ≡ true → Fresh p n ys → are_distinct (bounds_where p (up_to n) ++ ys) ≡ true
distinct_free p zero ys all fresh = all
distinct_free p (suc n) ys all fresh =
    ap are_distinct (bounds_next p n ys)
    ∙ distinct_free p n (last_bound p (suc n) ++ ys) (distinct_last p (p (suc n)) (suc n) ys refl all fresh) (fresh_last p (p (suc n)) n ys fresh)

-- bound
or_right : (a b : Bool) → b ≡ true → (a || b) ≡ true
or_right true b h = refl
or_right false b h = h

or_left : (a b : Bool) → a ≡ true → (a || b) ≡ true
or_left a b h = ap (λ t. t || b) h

bound_right : (xs ys : List Bound) (v : ℕ) → is_bound ys v ≡ true → is_bound (xs ++ ys) v ≡ true
bound_right xs ys v h = list_any-append (λ (b : Bound). b.var == v) xs ys ∙ or_right (is_bound xs v) (is_bound ys v) h

bound_last : (c : Bool) (v : ℕ) (ys : List Bound) → c ≡ true → is_bound (map (λ v. record { quant = Exists; var = v }) (cond c (v ∷ []) []) ++ ys) v ≡ true
bound_last true v ys is = ap (λ t. t || is_bound ys v) (eq-eqb v v refl)
bound_last false v ys is = absurd (both_ways true (sym is) refl)

last_or_before : (v n : ℕ) → v ≤ suc n → (v ≡ suc n) ⊎ (v ≤ n)
last_or_before v n h =
    elim (cases_lt v (suc n)) [
      | inl less ↦ inr (omega (arith, less))
      | inr not_less ↦ inl (omega (arith, h, not_less))
    ]

bound_free : (p : ℕ → Bool) (n v : ℕ) (ys : List Bound) → 0 < v → v ≤ n → p v ≡ true → is_bound (bounds_where p (up_to n) ++ ys) v ≡ true
bound_free p zero v ys some few is = absurd (omega arith)
bound_free p (suc n) v ys some few is =
    ap (λ bs. is_bound bs v) (bounds_next p n ys)
    ∙ elim (last_or_before v n few) [
      | inl here ↦
          ap (λ u. is_bound (bounds_where p (up_to n) ++ (last_bound p u ++ ys)) v) (sym here)
          ∙ bound_right (bounds_where p (up_to n)) (last_bound p v ++ ys) v (bound_last (p v) v ys is)
      | inr before ↦ bound_free p n v (last_bound p (suc n) ++ ys) some before is
    ]

-- each literal's variable is bound
abbrev stands_in : List (List Lit) → ℕ → Bool
stands_in clauses v = list_any (λ c. list_any (λ l. l.var == v) c) clauses

bound_var : (vars : ℕ) (sets : List Bound) (clauses : List (List Lit)) (v : ℕ) → 0 < v → v ≤ vars → stands_in clauses v ≡ true → is_bound (free_bounds vars sets clauses ++ sets) v ≡ true
bound_var vars sets clauses v some few stands =
    elim (cases_Bool (is_bound sets v)) [
      | inl yes' ↦ bound_right (free_bounds vars sets clauses) sets v yes'
      | inr no' ↦ bound_free (is_free sets clauses) vars v sets some few (and_from (stands_in clauses v) (not (is_bound sets v)) stands (not_from_false (is_bound sets v) no'))
    ]

closed_clause : (vars : ℕ) (sets : List Bound) (clauses : List (List Lit)) (c : List Lit) → ((v : ℕ) → list_any (λ l. l.var == v) c ≡ true → stands_in clauses v ≡ true) → literals_in_range vars c ≡ true
    → list_all (λ l. is_bound (free_bounds vars sets clauses ++ sets) l.var) c ≡ true
closed_clause vars sets clauses [] stands range = refl
closed_clause vars sets clauses (l ∷ c) stands range =
    let r = and_parts (nat_lt 0 l.var && nat_le l.var vars) (literals_in_range vars c) range in
    let here = and_parts (nat_lt 0 l.var) (nat_le l.var vars) r.0 in
    and_from (is_bound (free_bounds vars sets clauses ++ sets) l.var) _
    (bound_var vars sets clauses l.var (ltb-true 0 l.var here.0) (leb-true l.var vars here.1) (stands l.var (or_left (l.var == l.var) (list_any (λ m. m.var == l.var) c) (eq-eqb l.var l.var refl))))
    (closed_clause vars sets clauses c (λ v h. stands v (or_right (l.var == v) (list_any (λ m. m.var == v) c) h)) r.1)

closed_from : (vars : ℕ) (sets : List Bound) (clauses cs : List (List Lit)) → ((v : ℕ) → stands_in cs v ≡ true → stands_in clauses v ≡ true) → list_all (literals_in_range vars) cs ≡ true
    → is_closed (free_bounds vars sets clauses ++ sets) cs ≡ true
closed_from vars sets clauses [] stands range = refl
closed_from vars sets clauses (c ∷ cs) stands range =
    let r = and_parts (literals_in_range vars c) (list_all (literals_in_range vars) cs) range in
    and_from (list_all (λ l. is_bound (free_bounds vars sets clauses ++ sets) l.var) c) _
    (closed_clause vars sets clauses c (λ v h. stands v (or_left (list_any (λ l. l.var == v) c) (stands_in cs v) h)) r.0)
    (closed_from vars sets clauses cs (λ v h. stands v (or_right (list_any (λ l. l.var == v) c) (stands_in cs v) h)) r.1)

small_from : (h : Header) (s : Items) → SoundItems h s → is_small (formula_of h s) ≡ true
small_from h s sound =
    let few_clauses : length s.clauses ≤ 1048576 = omega (arith, sound.count, sound.most) in
    let few_literals : sum_by length s.clauses ≤ 1048576 = omega (arith, sound.literals) in
    and_from (nat_le h.vars 65535 && nat_le (length s.clauses) 1048576) (nat_le (sum_by length s.clauses) 1048576)
    (and_from (nat_le h.vars 65535) (nat_le (length s.clauses) 1048576) (le-leb h.vars 65535 sound.vars) (le-leb (length s.clauses) 1048576 few_clauses))
    (le-leb (sum_by length s.clauses) 1048576 few_literals)

pub formula_fits : (h : Header) (s : Items) → SoundItems h s → IsFormula (formula_of h s)
formula_fits h s sound =
    let prefix = free_bounds h.vars s.sets s.clauses ++ s.sets in
    let p = is_free s.sets s.clauses in
    let range : are_in_range h.vars prefix ≡ true = range_free p h.vars h.vars s.sets (omega arith) sound.sets in
    let fresh : Fresh p h.vars s.sets = λ v few is. not-true (is_bound s.sets v) ((and_parts (list_any (λ c. list_any (λ l. l.var == v) c) s.clauses) (not (is_bound s.sets v)) is).1) in
    let distinct : are_distinct prefix ≡ true = distinct_free p h.vars s.sets sound.distinct fresh in
    let closed : is_closed prefix s.clauses ≡ true = closed_from h.vars s.sets s.clauses s.clauses (λ v h. h) sound.clauses in
    and_from (is_small (formula_of h s) && are_in_range h.vars prefix && are_distinct prefix) (is_closed prefix s.clauses)
    (and_from (is_small (formula_of h s) && are_in_range h.vars prefix) (are_distinct prefix) (and_from (is_small (formula_of h s)) (are_in_range h.vars prefix) (small_from h s sound) range) distinct)
    closed
