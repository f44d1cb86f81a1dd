-- From the end of a prefix to the whole of it, and from its marks to what it binds.
use Rattle.std.proofs.Common.{◌≡◌, ℕ, zero, suc, ◌+◌, ◌<◌, ◌≤◌, List, [], ◌∷◌, length, drop, get_or, map, refl, ap, sym, ◌∙◌, arith, Bool, true, false, not, ◌&&◌, nat_le, nat_lt}
use Rattle.std.proofs.Math.Seq.{drop-cons}
use Rattle.std.specs.List.{list_all}
use mathlib.Core.Path.{fun_ext}
use Rattle.blic_model.specs.declared.prefix.Bound.{Bound}
use Rattle.blic_model.specs.declared.formula.Lit.{Lit}
use Rattle.blic_model.specs.Limits.{is_bound, are_in_range, are_distinct, is_closed}
use Rattle.blic_model.specs.Marks.{is_marked, Marks}
use Rattle.blic_model.proofs.Mapped.{list_all_map}

tail_binds : (p q r s : Bool) → ((p && q) && (r && s)) ≡ true → (q && s) ≡ true
tail_binds p q r s h = grind arith

head_fails : (low high fresh range distinct : Bool) → (low && high && fresh) ≡ false → ((low && high) && range && (fresh && distinct)) ≡ false
head_fails low high fresh range distinct h = grind arith

-- what binds each variable once does so from any entry on
binds_from : (vars i : ℕ) (xs : List Bound) → (are_in_range vars xs && are_distinct xs) ≡ true → (are_in_range vars (drop i xs) && are_distinct (drop i xs)) ≡ true
binds_from vars zero xs h = h
binds_from vars (suc i) [] h = h
binds_from vars (suc i) (x ∷ xs) h =
    binds_from vars i xs (tail_binds (nat_lt 0 x.var && nat_le x.var vars) (are_in_range vars xs) (not (is_bound xs x.var)) (are_distinct xs) h)

-- an entry that is out of range, or bound again behind it, is one that no prefix has
refused_at : (vars i : ℕ) (xs : List Bound) (d : Bound) → i < length xs
    → (nat_lt 0 (get_or xs i d).var && nat_le (get_or xs i d).var vars && not (is_bound (drop (i + 1) xs) (get_or xs i d).var)) ≡ false
    → false ≡ (are_in_range vars xs && are_distinct xs)
refused_at vars i xs d inside fails =
    let x = get_or xs i d in
    let next : suc i ≡ i + 1 = omega arith in
    let rest : drop i xs ≡ x ∷ drop (i + 1) xs = drop-cons xs i d inside ∙ ap (λ j. x ∷ drop j xs) next in
    let here : (are_in_range vars (drop i xs) && are_distinct (drop i xs)) ≡ false =
    ap (λ ys. are_in_range vars ys && are_distinct ys) rest
    ∙ head_fails (nat_lt 0 x.var) (nat_le x.var vars) (not (is_bound (drop (i + 1) xs) x.var)) (are_in_range vars (drop (i + 1) xs)) (are_distinct (drop (i + 1) xs)) fails in
    from_here (are_in_range vars xs && are_distinct xs) (binds_from vars i xs) here
  where
    from_here : (b : Bool) → (b ≡ true → (are_in_range vars (drop i xs) && are_distinct (drop i xs)) ≡ true)
        → (are_in_range vars (drop i xs) && are_distinct (drop i xs)) ≡ false → false ≡ b
    from_here true f no' = sym no' ∙ f refl
    from_here false f no' = refl

-- the same where a table has the marks of what stands behind the entry
pub refused_mark : (vars i j : ℕ) (xs : List Bound) (d : Bound) (marks : List Bool) (may : Bool) → i + 1 ≡ j → j ≤ length xs → Marks marks (drop j xs)
    → may ≡ (nat_lt 0 (get_or xs i d).var && nat_le (get_or xs i d).var vars && not (is_marked marks (get_or xs i d).var)) → may ≡ false
    → false ≡ (are_in_range vars xs && are_distinct xs)
refused_mark vars i j xs d marks may next inside same tested fails =
    let x = get_or xs i d in
    let behind : is_marked marks x.var ≡ is_bound (drop (i + 1) xs) x.var = same x.var ∙ ap (λ k. is_bound (drop k xs) x.var) (sym next) in
    refused_at vars i xs d (omega arith) (ap (λ m. nat_lt 0 x.var && nat_le x.var vars && not m) (sym behind) ∙ sym tested ∙ fails)

-- marks that are those of the prefix test the clauses as the prefix does
pub closed_by_marks : (marks : List Bool) (bounds : List Bound) {V : Type 0} (f : V → List Lit) (clauses : List V) → Marks marks bounds
    → list_all (λ c. list_all (λ l. is_marked marks l.var) (f c)) clauses ≡ is_closed bounds (map f clauses)
closed_by_marks marks bounds f clauses same =
    ap (λ (m : ℕ → Bool). list_all (λ c. list_all (λ l. m l.var) (f c)) clauses) (fun_ext same)
    ∙ sym (list_all_map (list_all (λ l. is_bound bounds l.var)) f clauses)

-- the whole test, once the prefix has passed
pub binds_all_of : (vars : ℕ) (bounds : List Bound) (marks : List Bool) {V : Type 0} (f : V → List Lit) (clauses : List V) (once closed : Bool) → once ≡ true
    → once ≡ (are_in_range vars bounds && are_distinct bounds) → Marks marks bounds
    → closed ≡ list_all (λ c. list_all (λ l. is_marked marks l.var) (f c)) clauses
    → closed ≡ (are_in_range vars bounds && are_distinct bounds && is_closed bounds (map f clauses))
binds_all_of vars bounds marks f clauses once closed yes' tested same by_marks =
    by_marks ∙ closed_by_marks marks bounds f clauses same ∙ ap (λ b. b && is_closed bounds (map f clauses)) (sym yes' ∙ tested)
