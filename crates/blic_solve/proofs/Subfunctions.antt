-- The subfunctions of a circuit's nodes, as tables of parts of their functions.
use Rattle.std.proofs.Common.{arith, ℕ, zero, suc, ◌+◌, ◌-◌, ◌<◌, ◌≤◌, ◌≡◌, ◌≢◌, sym, ◌∙◌, ap, subst, inl, inr, List, [], ◌∷◌, ◌++◌, length, get_or, take, drop, map, Bool, true, false, not}
use Rattle.std.specs.List.{flat_map, filter}
use Rattle.std.proofs.lemmas.Bool.{cases_lt, cases_eq}
use Rattle.std.proofs.lemmas.List.{get_or_append_left, get_or_past, get_or_default, get_or-drop, get_or-take}
use Rattle.std.proofs.Math.Seq.{get_or-append_right}
use mathlib.Core.Path.{fun_ext}
use Rattle.blic_model.specs.declared.node.Node.{Node}
use Rattle.blic_model.specs.Circuit.{below}
use Rattle.blic_model.specs.Value.{holds}
use Rattle.blic_model.specs.Subfunctions.{words, prefixes, subfunction, is_constant, subfunctions}
use Rattle.blic_store.specs.Function.{Function, Same, after}
use Rattle.blic_solve.proofs.Members.{IsIn, in_left, in_right, in_either, in_map, from_map, in_flat_map, from_flat_map, in_filter, from_filter}
use Rattle.blic_solve.proofs.Tables.{point, table, LooksBelow, in_words, table_same}

-- f with its topmost levels fixed to the bits
abbrev pub under : Function → List Bool → Function
under f bits p = f (after bits p)

pub in_below : (n k : ℕ) → k < n → IsIn (below n) k
unfolding below
in_below zero k l = absurd (omega arith)
in_below (suc n) k l = elim (cases_eq k n) [
  | inl e ↦ in_right (below n) (n ∷ []) k (inl (sym e))
  | inr ne ↦ in_left (below n) (n ∷ []) k (in_below n k (let m : k ≢ n = ne in omega arith))
]

pub from_below : (n k : ℕ) → IsIn (below n) k → k < n
unfolding below
from_below zero k h = absurd h
from_below (suc n) k h = elim (in_either (below n) (n ∷ []) k h) [
  | inl l ↦ (let w = from_below n k l in omega arith)
  | inr r ↦ elim r [ inl e ↦ (let w : n ≡ k = e in omega arith) | inr none ↦ absurd none ]
]

pub in_prefixes : (n : ℕ) (bits : List Bool) → length bits ≤ n → IsIn (prefixes n) bits
unfolding prefixes
in_prefixes n bits l = in_flat_map words (below (suc n)) (length bits) bits (in_below (suc n) (length bits) (omega arith)) (in_words bits)

after_word : (u w : List Bool) (x : ℕ) → get_or (u ++ drop (length u) w) x false ≡ after u (point w) x
after_word u w x = elim (cases_lt x (length u)) [
  | inl l ↦ get_or_append_left u (drop (length u) w) false x l ∙ get_or_default u x false (get_or w x false) l
  | inr l ↦ get_or-append_right u (drop (length u) w) x false l
      ∙ (get_or-drop (length u) w (x - length u) false
      ∙ (ap (λ z. get_or w z false) (let e : length u + (x - length u) ≡ x = omega arith in e)
      ∙ sym (get_or_past u x (get_or w x false) l)))
]

-- a subfunction is the table of a part
pub subfunction_is : (nodes : List Node) (levels k : ℕ) (bits : List Bool) → subfunction nodes levels k bits ≡ table levels (under (holds nodes k) bits)
unfolding subfunction table
subfunction_is nodes levels k bits = ap (λ f. map f (words levels)) (fun_ext (λ w. ap (holds nodes k) (fun_ext (after_word bits w))))

pub looks_under : (levels : ℕ) (f : Function) (bits : List Bool) → LooksBelow levels f → LooksBelow levels (under f bits)
looks_under levels f bits l p q e = l (after bits p) (after bits q) (λ x h. ap (get_or bits x) (e x h))

-- bits past the levels don't count
pub under_cut : (levels : ℕ) (f : Function) (bits : List Bool) → LooksBelow levels f → Same (under f bits) (under f (take levels bits))
under_cut levels f bits l p = l (after bits p) (after (take levels bits) p) (λ x h. sym (get_or-take levels bits x (p x) h))

length_cut : (levels : ℕ) (bits : List Bool) → length (take levels bits) ≤ levels
length_cut zero bits = omega arith
length_cut (suc n) [] = omega arith
length_cut (suc n) (b ∷ bits) = let w = length_cut n bits in omega arith

-- the table of a part is a subfunction, by bits that are no more than the levels
pub cut_table : (nodes : List Node) (levels k : ℕ) (bits : List Bool) → LooksBelow levels (holds nodes k) → (f : Function) → Same f (under (holds nodes k) bits)
    → subfunction nodes levels k (take levels bits) ≡ table levels f
cut_table nodes levels k bits l f e =
    subfunction_is nodes levels k (take levels bits)
    ∙ sym (table_same levels f (under (holds nodes k) (take levels bits)) (λ p. e p ∙ under_cut levels (holds nodes k) bits l p))

pub cut_in_prefixes : (levels : ℕ) (bits : List Bool) → IsIn (prefixes levels) (take levels bits)
cut_in_prefixes levels bits = in_prefixes levels (take levels bits) (length_cut levels bits)

-- the test that keeps the functions that aren't constant
abbrev pub is_varying : List Bool → Bool
is_varying f = not (is_constant f)

-- a subfunction of one of the first nodes
pub record IsSubfunction (nodes : List Node) (levels n : ℕ) (q : List Bool) : Type 0 where
  pub node : ℕ
  pub below : node < n
  pub bits : List Bool
  pub value : table levels (under (holds nodes node) bits) ≡ q
  pub varying : is_varying q ≡ true

pub in_subfunctions : (nodes : List Node) (levels k j : ℕ) → j < suc k → (bits : List Bool) → LooksBelow levels (holds nodes j) → (f : Function) → Same f (under (holds nodes j) bits)
    → is_varying (table levels f) ≡ true → IsIn (filter is_varying (subfunctions nodes levels k)) (table levels f)
unfolding subfunctions
in_subfunctions nodes levels k j h bits l f e v =
    in_filter is_varying (flat_map (λ j. map (subfunction nodes levels j) (prefixes levels)) (below (suc k))) (table levels f)
    (in_flat_map (λ j. map (subfunction nodes levels j) (prefixes levels)) (below (suc k)) j (table levels f) (in_below (suc k) j h)
    (subst (IsIn (map (subfunction nodes levels j) (prefixes levels))) (cut_table nodes levels j bits l f e)
    (in_map (subfunction nodes levels j) (prefixes levels) (take levels bits) (cut_in_prefixes levels bits)))) v

pub from_subfunctions : (nodes : List Node) (levels k : ℕ) (q : List Bool) → IsIn (filter is_varying (subfunctions nodes levels k)) q → IsSubfunction nodes levels (suc k) q
unfolding subfunctions
from_subfunctions nodes levels k q h =
    let kept = from_filter is_varying (flat_map (λ j. map (subfunction nodes levels j) (prefixes levels)) (below (suc k))) q h in
    let of = from_flat_map (λ j. map (subfunction nodes levels j) (prefixes levels)) (below (suc k)) q kept.held in
    let word = from_map (subfunction nodes levels of.from) (prefixes levels) q of.inside in
    record {
      node = of.from;
      below = from_below (suc k) of.from of.held;
      bits = word.from;
      value = sym (subfunction_is nodes levels of.from word.from) ∙ word.value;
      varying = kept.passed;
    }
