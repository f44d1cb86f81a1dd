-- The matrix, in the halves that add it, and how many nodes it adds.
use Rattle.std.proofs.Common.{◌≡◌, ◌≢◌, ℕ, zero, suc, ◌+◌, ◌*◌, ◌-◌, ◌<◌, ◌≤◌, List, [], ◌∷◌, length, take, drop, Some, refl, ap, sym, ◌∙◌, arith, true}
use Rattle.std.specs.Prelude.{◌/◌, slice_get}
use Rattle.std.proofs.lemmas.List.{take-take, drop-take, drop-drop, take-append-drop, length-take, length-drop}
use Rattle.std.proofs.lemmas.List.Sums.{sum_by-append}
use Rattle.blic_model.specs.declared.node.Node.{Node}
use Rattle.blic_model.specs.declared.node.Node.TheVariants.{Const, And}
use Rattle.blic_model.specs.declared.prefix.Bound.{Bound}
use Rattle.blic_model.specs.declared.formula.Lit.{Lit}
use Rattle.blic_model.specs.Building.{Added, add_node, add_clause, add_matrix}
use Rattle.blic_circuit.specs.Steps.{most_nodes}
use Rattle.blic_circuit.proofs.Literals.{added}

abbrev both_joined : Added → Added → Added
both_joined left right = add_node (And left.number right.number) right.nodes

-- any bound on the number of clauses serves
matrix_fuel : (prefix : List Bound) (m j : ℕ) (nodes : List Node) (cs : List (List Lit)) → length cs ≤ m → length cs ≤ j → add_matrix prefix m nodes cs ≡ add_matrix prefix j nodes cs
unfolding add_matrix
matrix_fuel prefix zero zero nodes cs h g = refl
matrix_fuel prefix zero (suc j) nodes [] h g = refl
matrix_fuel prefix zero (suc j) nodes (c ∷ cs) h g = absurd (omega arith)
matrix_fuel prefix (suc m) zero nodes [] h g = refl
matrix_fuel prefix (suc m) zero nodes (c ∷ cs) h g = absurd (omega arith)
matrix_fuel prefix (suc m) (suc j) nodes [] h g = refl
matrix_fuel prefix (suc m) (suc j) nodes (c ∷ []) h g = refl
matrix_fuel prefix (suc m) (suc j) nodes (c ∷ d ∷ cs) h g =
    let all = c ∷ d ∷ cs in
    let half = (length (c ∷ d ∷ cs) + 1) / 2 in
    let left = add_matrix prefix j nodes (take half all) in
    let l : add_matrix prefix m nodes (take half all) ≡ left =
    matrix_fuel prefix m j nodes (take half all) (omega (arith, length-take half all)) (omega (arith, length-take half all)) in
    let r : add_matrix prefix m left.nodes (drop half all) ≡ add_matrix prefix j left.nodes (drop half all) =
    matrix_fuel prefix m j left.nodes (drop half all) (omega (arith, length-drop half all)) (omega (arith, length-drop half all)) in
    ap (λ (w : Added). both_joined w (add_matrix prefix m w.nodes (drop half all))) l ∙ ap (both_joined left) r

matrix_halves : (prefix : List Bound) (nodes : List Node) (n half : ℕ) (cs : List (List Lit)) → length cs ≡ n → 1 < n → half ≡ (n + 1) / 2
    → (let left = add_matrix prefix half nodes (take half cs) in both_joined left (add_matrix prefix (n - half) left.nodes (drop half cs))) ≡ add_matrix prefix n nodes cs
unfolding add_matrix
matrix_halves prefix nodes n half [] count two h = absurd (omega arith)
matrix_halves prefix nodes n half (c ∷ []) count two h = absurd (omega arith)
matrix_halves prefix nodes zero half (c ∷ d ∷ cs) count two h = absurd (omega arith)
matrix_halves prefix nodes (suc m) half (c ∷ d ∷ cs) count two h =
    let all = c ∷ d ∷ cs in
    let same : half ≡ (length (c ∷ d ∷ cs) + 1) / 2 = h ∙ ap (λ k. (k + 1) / 2) (sym count) in
    let left = add_matrix prefix m nodes (take half all) in
    let l : add_matrix prefix half nodes (take half all) ≡ left =
    matrix_fuel prefix half m nodes (take half all) (omega (arith, length-take half all)) (omega (arith, length-take half all)) in
    let r : add_matrix prefix (suc m - half) left.nodes (drop half all) ≡ add_matrix prefix m left.nodes (drop half all) =
    matrix_fuel prefix (suc m - half) m left.nodes (drop half all) (omega (arith, length-drop half all)) (omega (arith, length-drop half all)) in
    ap (λ (w : Added). both_joined w (add_matrix prefix (suc m - half) w.nodes (drop half all))) l
    ∙ (ap (both_joined left) r
    ∙ ap (λ k. let left = add_matrix prefix m nodes (take k all) in both_joined left (add_matrix prefix m left.nodes (drop k all))) same)

-- the clauses from one number to before another
abbrev pub between : {X : Type 0} → ℕ → ℕ → List X → List X
between from to xs = take (to - from) (drop from xs)

pub length-between : {X : Type 0} (from to : ℕ) (xs : List X) → from ≤ to → to ≤ length xs → length (between from to xs) ≡ to - from
length-between from to xs h g = omega (arith, length-take (to - from) (drop from xs), length-drop from xs)

left_half : {X : Type 0} (from middle to : ℕ) (xs : List X) → from ≤ middle → middle ≤ to → take (middle - from) (between from to xs) ≡ between from middle xs
left_half from middle to xs h g = take-take (middle - from) (to - from) (drop from xs) (omega arith)

right_half : {X : Type 0} (from middle to : ℕ) (xs : List X) → from ≤ middle → middle ≤ to → drop (middle - from) (between from to xs) ≡ between middle to xs
right_half from middle to xs h g =
    let count : to - from ≡ (middle - from) + (to - middle) = omega arith in
    let at : from + (middle - from) ≡ middle = omega arith in
    ap (λ k. drop (middle - from) (take k (drop from xs))) count
    ∙ (drop-take (middle - from) (to - middle) (drop from xs)
    ∙ (ap (take (to - middle)) (drop-drop (middle - from) from xs) ∙ ap (λ k. take (to - middle) (drop k xs)) at))

-- the halves add what the whole does
pub clauses_joined : (prefix : List Bound) (xs : List (List Lit)) (from middle to : ℕ) (nodes ns ms : List Node) (l r : ℕ) (b : Added) → from < to → to ≤ length xs
    → to - from ≢ 1 → middle ≡ to - (to - from) / 2
    → added ns l ≡ add_matrix prefix (middle - from) nodes (between from middle xs) → added ms r ≡ add_matrix prefix (to - middle) ns (between middle to xs)
    → b ≡ add_node (And l r) ms → b ≡ add_matrix prefix (to - from) nodes (between from to xs)
clauses_joined prefix xs from middle to nodes ns ms l r b order inside more at left right joined =
    let cs = between from to xs in
    let half = middle - from in
    let lower : from ≤ middle = omega arith in
    let upper : middle ≤ to = omega arith in
    let rest : (to - from) - half ≡ to - middle = omega arith in
    let whole = matrix_halves prefix nodes (to - from) half cs (length-between from to xs (omega arith) inside) (omega arith) (omega arith) in
    let first : added ns l ≡ add_matrix prefix half nodes (take half cs) = left ∙ ap (add_matrix prefix half nodes) (sym (left_half from middle to xs lower upper)) in
    let second : added ms r ≡ add_matrix prefix ((to - from) - half) ns (drop half cs) =
    right ∙ (ap (λ k. add_matrix prefix k ns (between middle to xs)) (sym rest) ∙ ap (add_matrix prefix ((to - from) - half) ns) (sym (right_half from middle to xs lower upper))) in
    joined
    ∙ (ap (both_joined (added ns l)) second
    ∙ (ap (λ (w : Added). both_joined w (add_matrix prefix ((to - from) - half) w.nodes (drop half cs))) first ∙ whole))

pub between_one : {X : Type 0} (xs : List X) (i n : ℕ) (x : X) → slice_get xs i ≡ Some x → n ≡ 1 → take n (drop i xs) ≡ x ∷ []
between_one xs i n x found one = ap (λ k. take k (drop i xs)) one ∙ at xs i found
  where
    at : (ys : List _) (j : ℕ) → slice_get ys j ≡ Some x → take 1 (drop j ys) ≡ x ∷ []
    at [] j e = absurd (cc)
    at (y ∷ ys) zero e = let p : y ≡ x = cc in ap (λ z. z ∷ []) p
    at (y ∷ ys) (suc j) e = at ys j e

matrix_of_one : (prefix : List Bound) (nodes : List Node) (c : List Lit) → add_clause prefix nodes c ≡ add_matrix prefix 1 nodes (c ∷ [])
unfolding add_matrix
matrix_of_one prefix nodes c = refl

pub clause_alone : (prefix : List Bound) (xs : List (List Lit)) (from to : ℕ) (nodes : List Node) (c : List Lit) (b : Added) → slice_get xs from ≡ Some c → to - from ≡ 1
    → b ≡ add_clause prefix nodes c → b ≡ add_matrix prefix (to - from) nodes (between from to xs)
clause_alone prefix xs from to nodes c b found one a =
    a ∙ (matrix_of_one prefix nodes c ∙ (ap (λ k. add_matrix prefix k nodes (c ∷ [])) (sym one) ∙ ap (add_matrix prefix (to - from) nodes) (sym (between_one xs from (to - from) c found one))))

pub matrix_empty : (prefix : List Bound) (nodes : List Node) (cs : List (List Lit)) (b : Added) → length cs ≡ 0 → b ≡ add_node (Const true) nodes → b ≡ add_matrix prefix (length cs) nodes cs
unfolding add_matrix
matrix_empty prefix nodes [] b none a = a
matrix_empty prefix nodes (c ∷ cs) b none a = absurd (omega arith)

-- how many nodes one clause adds at most, and how many both halves
pub most_of_one : (xs : List (List Lit)) (from to : ℕ) (c : List Lit) → slice_get xs from ≡ Some c → to - from ≡ 1 → most_nodes (between from to xs) ≡ 3 * length c + 2
most_of_one xs from to c found one = ap most_nodes (between_one xs from (to - from) c found one) ∙ omega arith

pub most_of_halves : (xs : List (List Lit)) (from middle to : ℕ) → from ≤ middle → middle ≤ to → most_nodes (between from to xs) ≡ most_nodes (between from middle xs) + most_nodes (between middle to xs)
most_of_halves xs from middle to h g =
    ap most_nodes (sym (take-append-drop (middle - from) (between from to xs)))
    ∙ (sum_by-append (λ c. 3 * length c + 2) (take (middle - from) (between from to xs)) (drop (middle - from) (between from to xs))
    ∙ (ap (λ ys. most_nodes ys + most_nodes (drop (middle - from) (between from to xs))) (left_half from middle to xs h g)
    ∙ ap (λ ys. most_nodes (between from middle xs) + most_nodes ys) (right_half from middle to xs h g)))
