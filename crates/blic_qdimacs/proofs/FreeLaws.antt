-- The variables that are free.
use Rattle.std.proofs.Common.{◌≡◌, ℕ, zero, suc, ◌+◌, ◌<◌, ◌≤◌, Bool, true, false, not, ◌&&◌, ◌||◌, List, [], ◌∷◌, ◌++◌, ◌==◌, length, take, drop, refl, ap, sym, ◌∙◌, Some, arith, map, append-nil}
use Rattle.std.specs.Prelude.{slice_get, replicate, filter, cond}
use Rattle.std.specs.List.{list_any}
use Rattle.std.proofs.lemmas.Option.{slice_get-get_or, get_or_from_slice_get}
use Rattle.std.proofs.lemmas.List.Elements.{filter-append}
use Rattle.std.proofs.lemmas.List.{take_all, drop_all, get_or-replicate, length-replicate}
use Rattle.blic_model.specs.declared.prefix.Quant.TheVariants.{Exists}
use Rattle.blic_model.specs.declared.prefix.Bound.{Bound}
use Rattle.blic_model.specs.declared.formula.Lit.{Lit}
use Rattle.blic_qdimacs.specs.Meaning.{up_to, is_free, stands_in, free_where, free_bounds}
use Rattle.blic_qdimacs.specs.Tables.{is_marked, Marks}
use Rattle.blic_model.specs.Limits.{is_bound}

pub none_set : (n v : ℕ) → v < n → slice_get (replicate n false) v ≡ Some false
none_set n v inside =
    let within : v < length (replicate n false) = omega (arith, length-replicate n false) in
    slice_get-get_or (replicate n false) v false within ∙ ap Some (get_or-replicate n v false false inside)

pub list_any_map : {X Y : Type 0} (p : Y → Bool) (f : X → Y) (xs : List X) → list_any p (map f xs) ≡ list_any (λ x. p (f x)) xs
list_any_map p f [] = refl
list_any_map p f (x ∷ xs) = ap (λ b. p (f x) || b) (list_any_map p f xs)

up_to_next : (n : ℕ) → up_to (n + 1) ≡ up_to n ++ (n + 1) ∷ []
up_to_next n = let e : n + 1 ≡ suc n = omega arith in ap up_to e ∙ ap (λ k. up_to n ++ k ∷ []) (sym e)

filter_last : (p : ℕ → Bool) (xs : List ℕ) (x : ℕ) → filter p (xs ++ x ∷ []) ≡ filter p xs ++ cond (p x) (x ∷ []) []
filter_last p xs x = filter-append p xs (x ∷ [])

map_last : {X Y : Type 0} (f : X → Y) (xs ys : List X) → map f (xs ++ ys) ≡ map f xs ++ map f ys
map_last f [] ys = refl
map_last f (x ∷ xs) ys = ap (λ zs. f x ∷ zs) (map_last f xs ys)

free_bound : ℕ → Bound
free_bound v = record { quant = Exists; var = v }

pub free_where_yes : (test : ℕ → Bool) (n : ℕ) → test (n + 1) ≡ true → free_where test (n + 1) ≡ free_where test n ++ record { quant = Exists; var = n + 1 } ∷ []
free_where_yes test n yes' =
    let mk : ℕ → Bound = λ v. record { quant = Exists; var = v } in
    ap (λ vs. map mk (filter test vs)) (up_to_next n)
    ∙ ap (map mk) (filter_last test (up_to n) (n + 1) ∙ ap (λ t. filter test (up_to n) ++ cond t ((n + 1) ∷ []) []) yes')
    ∙ map_last mk (filter test (up_to n)) ((n + 1) ∷ [])

pub free_where_no : (test : ℕ → Bool) (n : ℕ) → test (n + 1) ≡ false → free_where test (n + 1) ≡ free_where test n
free_where_no test n no' =
    let mk : ℕ → Bound = λ v. record { quant = Exists; var = v } in
    ap (λ vs. map mk (filter test vs)) (up_to_next n)
    ∙ ap (map mk) (filter_last test (up_to n) (n + 1) ∙ ap (λ t. filter test (up_to n) ++ cond t ((n + 1) ∷ []) []) no' ∙ append-nil (filter test (up_to n)))

-- tests that agree up to n keep the same variables
pub filter_same : (p q : ℕ → Bool) (n : ℕ) → ((v : ℕ) → v ≤ n → p v ≡ q v) → filter p (up_to n) ≡ filter q (up_to n)
filter_same p q zero same = refl
filter_same p q (suc n) same =
    filter-append p (up_to n) (suc n ∷ []) ∙ ap (λ vs. vs ++ cond (p (suc n)) (suc n ∷ []) []) (filter_same p q n (λ v few. same v (omega arith)))
    ∙ ap (λ t. filter q (up_to n) ++ cond t (suc n ∷ []) []) (same (suc n) (omega arith)) ∙ sym (filter-append q (up_to n) (suc n ∷ []))

-- the variables by tables are those of the sets and clauses
pub free_by_marks : (vars : ℕ) (bound standing : List Bool) (sets : List Bound) (clauses : List (List Lit)) → vars < length bound → vars < length standing
    → Marks bound (is_bound sets) → Marks standing (stands_in clauses)
    → free_where (λ v. is_marked standing v && not (is_marked bound v)) vars ≡ free_bounds vars sets clauses
free_by_marks vars bound standing sets clauses room room' bounds stands =
    let mk : ℕ → Bound = λ v. record { quant = Exists; var = v } in
    ap (map mk) (filter_same (λ v. is_marked standing v && not (is_marked bound v)) (is_free sets clauses) vars (λ v few.
    let in_bound : v < length bound = omega (arith, room) in
    let in_standing : v < length standing = omega (arith, room') in
    ap (λ t. t && not (is_marked bound v)) (stands v in_standing) ∙ ap (λ t. stands_in clauses v && not t) (bounds v in_bound)))

-- tables that had no mark before the clauses were marked
pub standing_from : {V : Type 0} (items : V → List Lit) (old new : List Bool) (clauses : List V) → length new ≡ length old → ((v : ℕ) → v < length old → slice_get old v ≡ Some false)
    → ((v : ℕ) → v < length old → is_marked new v ≡ (is_marked old v || list_any (λ c. list_any (λ l. l.var == v) (items c)) clauses))
    → Marks new (stands_in (map items clauses))
standing_from items old new clauses size none marked v inside =
    let within : v < length old = omega (arith, inside, size) in
    marked v within ∙ ap (λ t. t || list_any (λ c. list_any (λ l. l.var == v) (items c)) clauses) (get_or_from_slice_get old v false false (none v within))
    ∙ sym (list_any_map (λ c. list_any (λ l. l.var == v) c) items clauses)

-- a slice that was lent is the whole table
pub written_back : (len : ℕ) (new old : List Bool) → length new ≡ length old → len ≡ length old → take len (new ++ drop (length new) old) ≡ new
written_back len new old size whole =
    let most : length old ≤ length new = omega (arith, size) in
    let all : length new ≤ len = omega (arith, size, whole) in
    ap (λ ys. take len (new ++ ys)) (drop_all (length new) old most) ∙ ap (take len) (append-nil new) ∙ take_all len new all
