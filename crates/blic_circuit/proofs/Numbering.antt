-- A node's number in a list is where it was found, and a node that is appended gets the list's length.
use Rattle.std.proofs.Common.{◌≡◌, ℕ, zero, suc, ◌+◌, ◌<◌, ◌≤◌, List, [], ◌∷◌, ◌++◌, length, map, refl, ap, sym, ◌∙◌, inl, inr, arith, Bool, true, false, not, ◌&&◌, ◌||◌, cond, eqb, ltb, Option, Some, None}
use Rattle.std.specs.List.{position_or_len, list_any}
use Rattle.std.proofs.lemmas.Bool.{cases_lt, cases_Bool, eq-eqb, lt-ltb, le-ltb, and_parts, false≢true}
use Rattle.std.proofs.lemmas.List.{length-take, map-append}
use Rattle.std.proofs.lemmas.List.Sums.{position_or_len_is}
use Rattle.std.proofs.lemmas.List.Folds.{list_any_at, length-prefix_len, list_any-append}
use mathlib.Core.Path.{ap₂}
use Rattle.blic_model.specs.declared.node.Node.{Node}
use Rattle.blic_model.specs.declared.node.Node.TheVariants.{Const, Var, Not, Fix, And, Or}
use Rattle.blic_model.specs.Circuit.{node_at}
use Rattle.blic_model.specs.Building.{Added, same_bit, same_node, add_node}
use Rattle.blic_model.specs.Shape.{all_differ}
use Rattle.blic_model.proofs.Adding.{same_node_true}
use Rattle.blic_circuit.specs.Numbers.{hash_of, number_of}

three : (a b c : Bool) → a ≡ true → b ≡ true → c ≡ true → (a && (b && c)) ≡ true
three a b c p q r = grind arith

same_bit_itself : (b : Bool) → same_bit b b ≡ true
same_bit_itself true = refl
same_bit_itself false = refl

pub same_node_itself : (n : Node) → same_node n n ≡ true
same_node_itself (Const b) = same_bit_itself b
same_node_itself (Var x) = eq-eqb x x refl
same_node_itself (Not a) = eq-eqb a a refl
same_node_itself (Fix x b a) = three (eqb x x) (same_bit b b) (eqb a a) (eq-eqb x x refl) (same_bit_itself b) (eq-eqb a a refl)
same_node_itself (And a b) = three true (eqb a a) (eqb b b) refl (eq-eqb a a refl) (eq-eqb b b refl)
same_node_itself (Or a b) = three true (eqb a a) (eqb b b) refl (eq-eqb a a refl) (eq-eqb b b refl)

same_node_swapped : (m n : Node) → same_node m n ≡ false → same_node n m ≡ false
same_node_swapped m n h = elim (cases_Bool (same_node n m)) [
  | inl t ↦ absurd (false≢true (sym h ∙ (ap (same_node m) (same_node_true n m t) ∙ same_node_itself m)))
  | inr f ↦ f
]

position_le : {X : Type 0} (p : X → Bool) (xs : List X) → position_or_len p xs ≤ length xs
position_le p xs = omega (arith, length-prefix_len (λ x. not (p x)) xs, length-take (position_or_len p xs) xs)

-- the number at a place that may be the list's end
abbrev numbered : ℕ → ℕ → Option ℕ
numbered k most = cond (ltb k most) (Some k) None

numbered_below : (k most : ℕ) → k < most → numbered k most ≡ Some k
numbered_below k most l = ap (λ b. cond b (Some k) None) (lt-ltb k most l)

numbered_past : (k most : ℕ) → most ≤ k → numbered k most ≡ None
numbered_past k most l = ap (λ b. cond b (Some k) None) (le-ltb k most l)

numbered_some : (k most j : ℕ) → numbered k most ≡ Some j → (k < most) × (k ≡ j)
numbered_some k most j e = elim (cases_lt k most) [
  | inl l ↦ let q = sym (numbered_below k most l) ∙ e in (l, cc)
  | inr l ↦ let q = sym (numbered_past k most l) ∙ e in absurd (cc)
]

numbered_none : (k most : ℕ) → k ≤ most → numbered k most ≡ None → k ≡ most
numbered_none k most h e = elim (cases_lt k most) [
  | inl l ↦ let q = sym (numbered_below k most l) ∙ e in absurd (cc)
  | inr l ↦ omega arith
]

-- a node that has a number is in the list already
pub add_node_found : (nodes : List Node) (n : Node) (k : ℕ) → number_of nodes n ≡ Some k → (let r : Added = record { nodes = nodes; number = k } in r) ≡ add_node n nodes
unfolding add_node
add_node_found nodes n k e =
    let w = numbered_some (position_or_len (same_node n) nodes) (length nodes) k e in
    let b : ltb (position_or_len (same_node n) nodes) (length nodes) ≡ true = lt-ltb _ _ w.0 in
    λ i. record { nodes = cond (sym b i) nodes (nodes ++ n ∷ []); number = sym w.1 i }

-- one that has none is appended
pub add_node_new : (nodes : List Node) (n : Node) → number_of nodes n ≡ None → (let r : Added = record { nodes = nodes ++ n ∷ []; number = length nodes } in r) ≡ add_node n nodes
unfolding add_node
add_node_new nodes n e =
    let w : position_or_len (same_node n) nodes ≡ length nodes = numbered_none _ _ (position_le (same_node n) nodes) e in
    let b : ltb (position_or_len (same_node n) nodes) (length nodes) ≡ false = le-ltb _ _ (omega arith) in
    λ i. record { nodes = cond (sym b i) nodes (nodes ++ n ∷ []); number = sym w i }

-- the same of a list that was lengthened in steps
pub add_node_appended : (nodes old longer : List Node) (n : Node) (k : ℕ) → nodes ≡ old → longer ≡ nodes ++ n ∷ [] → k ≡ length nodes → number_of nodes n ≡ None
    → (let r : Added = record { nodes = longer; number = k } in r) ≡ add_node n old
add_node_appended nodes old longer n k same more count e =
    let e' : number_of old n ≡ None = ap (λ ns. number_of ns n) (sym same) ∙ e in
    let m : longer ≡ old ++ n ∷ [] = more ∙ ap (λ ns. ns ++ n ∷ []) same in
    let l : k ≡ length old = count ∙ ap length same in
    let path : (let r : Added = record { nodes = longer; number = k } in r) ≡ record { nodes = old ++ n ∷ []; number = length old } = λ i. record { nodes = m i; number = l i } in
    path ∙ add_node_new old n e'

-- where a node is found nowhere, no node of the list is equal to it
nowhere : (n x : Node) (nodes : List Node) → position_or_len (same_node n) (x ∷ nodes) ≡ length (x ∷ nodes)
    → (same_node n x ≡ false) × (position_or_len (same_node n) nodes ≡ length nodes)
nowhere n x nodes e = elim (cases_Bool (same_node n x)) [
  | inl t ↦ let z : position_or_len (same_node n) (x ∷ nodes) ≡ 0 = ap (λ b. cond (not b) (1 + position_or_len (same_node n) nodes) 0) t in absurd (omega arith)
  | inr f ↦
      let z : position_or_len (same_node n) (x ∷ nodes) ≡ 1 + position_or_len (same_node n) nodes =
      ap (λ b. cond (not b) (1 + position_or_len (same_node n) nodes) 0) f in
      (f, omega arith)
]

still : (a b d : Bool) → (not a && d) ≡ true → b ≡ false → (not (a || (b || false))) ≡ true
still a b d h g = grind arith

differ_pushed : (nodes : List Node) (n : Node) → all_differ nodes ≡ true → position_or_len (same_node n) nodes ≡ length nodes → all_differ (nodes ++ n ∷ []) ≡ true
differ_pushed [] n d e = refl
differ_pushed (x ∷ nodes) n d e =
    let w = nowhere n x nodes e in
    let h = and_parts (not (list_any (same_node x) nodes)) (all_differ nodes) d in
    let apart : not (list_any (same_node x) (nodes ++ n ∷ [])) ≡ true =
    ap not (list_any-append (same_node x) nodes (n ∷ [])) ∙ still (list_any (same_node x) nodes) (same_node x n) (all_differ nodes) d (same_node_swapped n x w.0) in
    let rest : all_differ (nodes ++ n ∷ []) ≡ true = differ_pushed nodes n h.1 w.1 in
    ap₂ (λ p q. p && q) apart rest

-- a list to which a node that it has not is appended still has no two equal entries
pub differ_appended : (nodes longer : List Node) (n : Node) → all_differ nodes ≡ true → longer ≡ nodes ++ n ∷ [] → number_of nodes n ≡ None → all_differ longer ≡ true
differ_appended nodes longer n d more e =
    ap all_differ more ∙ differ_pushed nodes n d (numbered_none _ _ (position_le (same_node n) nodes) e)

-- no two places of the list have equal nodes
places_differ : (nodes : List Node) → all_differ nodes ≡ true → (i j : ℕ) → i < j → j < length nodes → same_node (node_at nodes i) (node_at nodes j) ≡ true → ⊥
places_differ [] d i j l m e = omega arith
places_differ (x ∷ nodes) d i zero l m e = omega arith
places_differ (x ∷ nodes) d zero (suc j) l m e =
    let h = and_parts (not (list_any (same_node x) nodes)) (all_differ nodes) d in
    let some = list_any_at (same_node x) nodes j (Const false) (omega arith) e in
    false≢true (sym (ap not some) ∙ h.0)
places_differ (x ∷ nodes) d (suc i) (suc j) l m e =
    places_differ nodes (and_parts (not (list_any (same_node x) nodes)) (all_differ nodes) d).1 i j (omega arith) (omega arith) e

-- a node that stands at a place has its number
pub number_found : (nodes : List Node) (n : Node) (k : ℕ) → all_differ nodes ≡ true → k < length nodes → same_node n (node_at nodes k) ≡ true → Some k ≡ number_of nodes n
number_found nodes n k d l e =
    let same = same_node_true n (node_at nodes k) e in
    let place : position_or_len (same_node n) nodes ≡ k =
    position_or_len_is (same_node n) nodes k (Const false) (omega arith) (λ j m. elim (cases_Bool (same_node n (node_at nodes j))) [
      | inl t ↦ absurd (places_differ nodes d j k m l (ap (λ a. same_node a (node_at nodes k)) (sym (same_node_true n (node_at nodes j) t)) ∙ e))
      | inr f ↦ f
    ]) (λ _. e) in
    sym (numbered_below _ _ (omega arith) ∙ ap Some place)

-- a node that stands nowhere has none
pub number_missing : (nodes : List Node) (n : Node) → ((j : ℕ) → j < length nodes → same_node n (node_at nodes j) ≡ false) → None ≡ number_of nodes n
number_missing nodes n h =
    let place : position_or_len (same_node n) nodes ≡ length nodes =
    position_or_len_is (same_node n) nodes (length nodes) (Const false) (omega arith) h (λ l. absurd (omega arith)) in
    sym (numbered_past _ _ (omega arith))

-- and a node that is appended is entered with its hash
pub entered_more : (nodes longer : List Node) (n : Node) (hashes more : List ℕ) (hash : ℕ) → hashes ≡ map hash_of nodes → longer ≡ nodes ++ n ∷ [] → hash ≡ hash_of n
    → more ≡ hashes ++ hash ∷ [] → more ≡ map hash_of longer
entered_more nodes longer n hashes more hash e f g h =
    h ∙ (ap₂ (λ xs x. xs ++ x ∷ []) e g ∙ (sym (map-append hash_of nodes (n ∷ [])) ∙ ap (map hash_of) (sym f)))
