-- Decisions with their levels in words.
use Rattle.std.proofs.Common.{arith, ℕ, ◌+◌, ◌-◌, ◌*◌, ◌%◌, ◌^◌, ◌<◌, ◌≤◌, ◌≡◌, refl, sym, ◌∙◌, ap, subst, List, length, map, get_or}
use Rattle.std.specs.List.Sorted.{IsPermutation, IsNonDecreasingBy}
use Rattle.std.proofs.lemmas.Grind.{same_number_lists}
use Rattle.std.proofs.lemmas.List.{get_or-map, length-map}
use Rattle.std.proofs.lemmas.List.Sorted.{IsPermutation-map}
use Rattle.blic_store.specs.declared.decision.Decision.{Decision}
use Rattle.blic_store.specs.Canonical.{IsCanonical}
use Rattle.blic_store.specs.Diagram.{decision_at}
use Rattle.blic_eval.specs.Packed.{number_in, word_of}
use Rattle.blic_eval.specs.Reached.{HasFallingLevels}
use Rattle.blic_eval.proofs.Sorting.{each_sorted}

pub word_of-def : (nodes : List Decision) (k : ℕ) → word_of nodes k ≡ (4294967295 - (decision_at nodes k).level) * 4294967296 + k
unfolding word_of
word_of-def nodes k = refl

pub number_in-def : (word : ℕ) → number_in word ≡ word % 4294967296
unfolding number_in
number_in-def word = refl

-- A word's number is the one that was packed.
pub number_in-word_of : (nodes : List Decision) (k : ℕ) → k < 4294967296 → number_in (word_of nodes k) ≡ k
number_in-word_of nodes k l = let d = word_of-def nodes k in let e = number_in-def (word_of nodes k) in omega arith

-- Of two words, the greater one doesn't have the greater level.
word_falls : (nodes : List Decision) (j k : ℕ) → j < 4294967296 → k < 4294967296 → (decision_at nodes k).level < 2 ^ 32 → word_of nodes j ≤ word_of nodes k
    → (decision_at nodes k).level ≤ (decision_at nodes j).level
word_falls nodes j k lj lk small up = let d = word_of-def nodes j in let e = word_of-def nodes k in omega arith

pub unpacked : (nodes : List Decision) (numbers : List ℕ) → ((i : ℕ) → i < length numbers → get_or numbers i 0 < 4294967296) → map number_in (map (word_of nodes) numbers) ≡ numbers
unpacked nodes numbers small =
    let long = length-map numbers (word_of nodes) in
    let whole = length-map (map (word_of nodes) numbers) number_in in
    same_number_lists (map number_in (map (word_of nodes) numbers)) numbers (omega arith) (λ i l.
    get_or-map number_in (map (word_of nodes) numbers) i 0 0 (omega arith)
    ∙ (ap number_in (get_or-map (word_of nodes) numbers i 0 0 (omega arith)) ∙ number_in-word_of nodes (get_or numbers i 0) (small i (omega arith))))

-- Sorted words are of the same numbers.
pub same_numbers : (nodes : List Decision) (numbers words : List ℕ) → ((i : ℕ) → i < length numbers → get_or numbers i 0 < 4294967296) → IsPermutation (map (word_of nodes) numbers) words
    → IsPermutation numbers (map number_in words)
same_numbers nodes numbers words small p =
    subst (λ z. IsPermutation z (map number_in words)) (unpacked nodes numbers small) (IsPermutation-map number_in (map (word_of nodes) numbers) words p)

-- a word is that of its number, which a store of so many decisions has
abbrev IsWord : List Decision → ℕ → Type 0
IsWord nodes w = (word_of nodes (number_in w) ≡ w) × (number_in w < length nodes)

-- Words that rise have levels that fall.
pub falling_sorted : (nodes : List Decision) → IsCanonical nodes → length nodes ≤ 4294967296 → (numbers words : List ℕ) → ((i : ℕ) → i < length numbers → get_or numbers i 0 < length nodes)
    → IsPermutation (map (word_of nodes) numbers) words → IsNonDecreasingBy (λ w. w) words → HasFallingLevels nodes (map number_in words)
falling_sorted nodes canonical few numbers words held p up i j l h =
    let long = length-map numbers (word_of nodes) in
    let whole = length-map words number_in in
    let packed : (k : ℕ) → k < length (map (word_of nodes) numbers) → IsWord nodes (get_or (map (word_of nodes) numbers) k 0) =
    λ k m.
    let below = held k (omega arith) in
    subst (IsWord nodes) (sym (get_or-map (word_of nodes) numbers k 0 0 (omega arith)))
    (let e = number_in-word_of nodes (get_or numbers k 0) (omega arith) in (ap (word_of nodes) e, omega arith)) in
    let first = each_sorted (map (word_of nodes) numbers) words p (IsWord nodes) packed i (omega arith) in
    let second = each_sorted (map (word_of nodes) numbers) words p (IsWord nodes) packed j (omega arith) in
    let rises = up i j 0 (omega arith) (omega arith) in
    let a = first.0 in
    let b = second.0 in
    let m = first.1 in
    let n = second.1 in
    let at_i = get_or-map number_in words i 0 0 (omega arith) in
    let at_j = get_or-map number_in words j 0 0 (omega arith) in
    let small = (canonical.placed (number_in (get_or words j 0)) n).in_range in
    let falls = word_falls nodes (number_in (get_or words i 0)) (number_in (get_or words j 0)) (omega arith) (omega arith) small (omega arith) in
    let here = ap (λ z. (decision_at nodes z).level) at_i in
    let there = ap (λ z. (decision_at nodes z).level) at_j in
    omega arith

-- What was packed, sorted and unpacked is of the same numbers.
pub repacked : (nodes : List Decision) (old shown words sorted seen new : List ℕ) → ((i : ℕ) → i < length old → get_or old i 0 < 4294967296) → shown ≡ old
    → words ≡ map (word_of nodes) shown → IsPermutation words sorted → seen ≡ sorted → new ≡ map number_in seen → IsPermutation old new
repacked nodes old shown words sorted seen new small a b p d e =
    subst (IsPermutation old) (sym (e ∙ ap (map number_in) d))
    (same_numbers nodes old sorted small (subst (λ z. IsPermutation z sorted) (b ∙ ap (map (word_of nodes)) a) p))
