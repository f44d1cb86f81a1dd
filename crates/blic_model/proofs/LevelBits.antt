-- Sets of levels as the bits of numbers.
use Rattle.std.proofs.Common.{arith, ℕ, zero, suc, ◌≡◌, ◌+◌, ◌-◌, ◌*◌, ◌^◌, ◌%◌, ◌<◌, ◌≤◌, refl, sym, ◌∙◌, ap, List, [], ◌∷◌, ◌++◌, length, Bool, true, false, cond, not, ◌&&◌, ◌||◌, ◌==◌, map}
use Rattle.std.specs.Prelude.{filter, count_ones}
use Rattle.std.specs.Int.RustNames.{bit_and, bit_or}
use Rattle.std.specs.Simd.Lanes.{mask_l}
use mathlib.Core.Path.{ap₂}
use Rattle.std.proofs.Math.Nat.{pow-succ'}
use Rattle.std.proofs.lemmas.Bool.{eq-eqb, ne_eqb}
use Rattle.std.proofs.lemmas.Nat.{and_block, or_block, one_shl}
use Rattle.std.proofs.lemmas.List.{length-append}
use Rattle.std.proofs.lemmas.List.Sums.{length-filter}
use Rattle.std.proofs.lemmas.List.Elements.{filter-append}
use Rattle.std.proofs.lemmas.Simd.{ones-mask_l}
use Rattle.blic_model.specs.declared.level_set.LevelSet.{LevelSet}
use Rattle.blic_model.specs.LevelSets.{levels_from, word, set_where}

or_bits : (b c : Bool) (m n : ℕ) → bit_or (cond b 1 0 + 2 * m) (cond c 1 0 + 2 * n) ≡ cond (b || c) 1 0 + 2 * bit_or m n
or_bits true true m n =
    ap₂ bit_or (let e : 1 + 2 * m ≡ m * 2 ^ 1 + 1 = omega arith in e) (let e : 1 + 2 * n ≡ n * 2 ^ 1 + 1 = omega arith in e)
    ∙ (or_block 1 m n 1 1 (omega arith) (omega arith) ∙ (let e : bit_or m n * 2 ^ 1 + 1 ≡ 1 + 2 * bit_or m n = omega arith in e))
or_bits true false m n =
    ap₂ bit_or (let e : 1 + 2 * m ≡ m * 2 ^ 1 + 1 = omega arith in e) (let e : 0 + 2 * n ≡ n * 2 ^ 1 + 0 = omega arith in e)
    ∙ (or_block 1 m n 1 0 (omega arith) (omega arith) ∙ (let e : bit_or m n * 2 ^ 1 + 1 ≡ 1 + 2 * bit_or m n = omega arith in e))
or_bits false true m n =
    ap₂ bit_or (let e : 0 + 2 * m ≡ m * 2 ^ 1 + 0 = omega arith in e) (let e : 1 + 2 * n ≡ n * 2 ^ 1 + 1 = omega arith in e)
    ∙ (or_block 1 m n 0 1 (omega arith) (omega arith) ∙ (let e : bit_or m n * 2 ^ 1 + 1 ≡ 1 + 2 * bit_or m n = omega arith in e))
or_bits false false m n =
    ap₂ bit_or (let e : 0 + 2 * m ≡ m * 2 ^ 1 + 0 = omega arith in e) (let e : 0 + 2 * n ≡ n * 2 ^ 1 + 0 = omega arith in e)
    ∙ (or_block 1 m n 0 0 (omega arith) (omega arith) ∙ (let e : bit_or m n * 2 ^ 1 + 0 ≡ 0 + 2 * bit_or m n = omega arith in e))

and_bits : (b c : Bool) (m n : ℕ) → bit_and (cond b 1 0 + 2 * m) (cond c 1 0 + 2 * n) ≡ cond (b && c) 1 0 + 2 * bit_and m n
and_bits true true m n =
    ap₂ bit_and (let e : 1 + 2 * m ≡ m * 2 ^ 1 + 1 = omega arith in e) (let e : 1 + 2 * n ≡ n * 2 ^ 1 + 1 = omega arith in e)
    ∙ (and_block 1 m n 1 1 (omega arith) (omega arith) ∙ (let e : bit_and m n * 2 ^ 1 + 1 ≡ 1 + 2 * bit_and m n = omega arith in e))
and_bits true false m n =
    ap₂ bit_and (let e : 1 + 2 * m ≡ m * 2 ^ 1 + 1 = omega arith in e) (let e : 0 + 2 * n ≡ n * 2 ^ 1 + 0 = omega arith in e)
    ∙ (and_block 1 m n 1 0 (omega arith) (omega arith) ∙ (let e : bit_and m n * 2 ^ 1 + 0 ≡ 0 + 2 * bit_and m n = omega arith in e))
and_bits false true m n =
    ap₂ bit_and (let e : 0 + 2 * m ≡ m * 2 ^ 1 + 0 = omega arith in e) (let e : 1 + 2 * n ≡ n * 2 ^ 1 + 1 = omega arith in e)
    ∙ (and_block 1 m n 0 1 (omega arith) (omega arith) ∙ (let e : bit_and m n * 2 ^ 1 + 0 ≡ 0 + 2 * bit_and m n = omega arith in e))
and_bits false false m n =
    ap₂ bit_and (let e : 0 + 2 * m ≡ m * 2 ^ 1 + 0 = omega arith in e) (let e : 0 + 2 * n ≡ n * 2 ^ 1 + 0 = omega arith in e)
    ∙ (and_block 1 m n 0 0 (omega arith) (omega arith) ∙ (let e : bit_and m n * 2 ^ 1 + 0 ≡ 0 + 2 * bit_and m n = omega arith in e))

or_masks : (p q : ℕ → Bool) (xs : List ℕ) → bit_or (mask_l (map p xs)) (mask_l (map q xs)) ≡ mask_l (map (λ x. p x || q x) xs)
or_masks p q [] = refl
or_masks p q (x ∷ xs) = or_bits (p x) (q x) (mask_l (map p xs)) (mask_l (map q xs)) ∙ ap (λ m. cond (p x || q x) 1 0 + 2 * m) (or_masks p q xs)

and_masks : (p q : ℕ → Bool) (xs : List ℕ) → bit_and (mask_l (map p xs)) (mask_l (map q xs)) ≡ mask_l (map (λ x. p x && q x) xs)
and_masks p q [] = refl
and_masks p q (x ∷ xs) = and_bits (p x) (q x) (mask_l (map p xs)) (mask_l (map q xs)) ∙ ap (λ m. cond (p x && q x) 1 0 + 2 * m) (and_masks p q xs)

other_bit : (b : Bool) → cond b 1 0 + cond (not b) 1 0 ≡ 1
other_bit true = refl
other_bit false = refl

-- a mask and the mask of the other bits are all bits
other_mask : (q : ℕ → Bool) (xs : List ℕ) → mask_l (map q xs) + mask_l (map (λ x. not (q x)) xs) + 1 ≡ 2 ^ length xs
other_mask q [] = refl
other_mask q (x ∷ xs) = omega (arith, other_mask q xs, other_bit (q x), pow-succ' 2 (length xs))

pub length_of_levels : (first n : ℕ) → length (levels_from first n) ≡ n
unfolding levels_from
length_of_levels first zero = refl
length_of_levels first (suc n) = ap suc (length_of_levels (suc first) n)

pub levels_join : (first m n : ℕ) → levels_from first (m + n) ≡ levels_from first m ++ levels_from (first + m) n
unfolding levels_from
levels_join first zero n = ap₂ levels_from (let e : first ≡ first + 0 = omega arith in e) (let e : 0 + n ≡ n = omega arith in e)
levels_join first (suc m) n =
    (let e : suc m + n ≡ suc (m + n) = omega arith in ap (levels_from first) e)
    ∙ (ap (λ ls. first ∷ ls) (levels_join (suc first) m n) ∙ (let e : suc first + m ≡ first + suc m = omega arith in ap (λ f. first ∷ levels_from (suc first) m ++ levels_from f n) e))

-- a level that isn't among them has no bit
no_bit : (first n y : ℕ) → (y < first → ⊥) → first + n ≤ y → mask_l (map (λ x. x == y) (levels_from first n)) ≡ 0
unfolding levels_from
no_bit first zero y o l = refl
no_bit first (suc n) y o l =
    ap₂ (λ b m. cond b 1 0 + 2 * m) (ne_eqb first y (λ e. omega arith)) (no_bit (suc first) n y (λ u. omega arith) (omega arith))

no_bit_before : (first n y : ℕ) → y < first → mask_l (map (λ x. x == y) (levels_from first n)) ≡ 0
unfolding levels_from
no_bit_before first zero y l = refl
no_bit_before first (suc n) y l =
    ap₂ (λ b m. cond b 1 0 + 2 * m) (ne_eqb first y (λ e. omega arith)) (no_bit_before (suc first) n y (omega arith))

one_bit : (first n y k : ℕ) → y ≡ first + k → k < n → mask_l (map (λ x. x == y) (levels_from first n)) ≡ 2 ^ k
unfolding levels_from
one_bit first zero y k e l = absurd (omega arith)
one_bit first (suc n) y zero e l =
    ap₂ (λ b m. cond b 1 0 + 2 * m) (eq-eqb first y (omega arith)) (no_bit_before (suc first) n y (omega arith))
one_bit first (suc n) y (suc k) e l =
    ap₂ (λ b m. cond b 1 0 + 2 * m) (ne_eqb first y (λ q. omega arith)) (one_bit (suc first) n y k (omega arith) (omega arith))
    ∙ (let e : 0 + 2 * 2 ^ k ≡ 2 ^ suc k = omega (arith, pow-succ' 2 k) in e)

pub word_of_none : (first : ℕ) → word (λ x. false) first ≡ 0
unfolding word
word_of_none first = go (levels_from first 128)
  where
    go : (xs : List ℕ) → mask_l (map (λ x. false) xs) ≡ 0
    go [] = refl
    go (x ∷ xs) = ap (λ m. 0 + 2 * m) (go xs)

pub word_before : (first y : ℕ) → y < first → 0 ≡ word (λ x. x == y) first
unfolding word
word_before first y l = sym (no_bit_before first 128 y l)

pub word_behind : (first y : ℕ) → first + 128 ≤ y → 0 ≡ word (λ x. x == y) first
unfolding word
word_behind first y l = sym (no_bit first 128 y (λ u. omega arith) l)

pub word_of_one : (first y k : ℕ) → y ≡ first + k → k < 128 → 2 ^ k ≡ word (λ x. x == y) first
unfolding word
word_of_one first y k e l = sym (one_bit first 128 y k e l)

pub word_of_both : (p q : ℕ → Bool) (first a b : ℕ) → a ≡ word p first → b ≡ word q first → bit_or a b ≡ word (λ x. p x || q x) first
unfolding word
word_of_both p q first a b e f = ap₂ bit_or e f ∙ or_masks p q (levels_from first 128)

pub word_without : (p q : ℕ → Bool) (first a b : ℕ) → a ≡ word p first → b ≡ word q first
    → bit_and a (340282366920938463463374607431768211455 - b) ≡ word (λ x. p x && not (q x)) first
unfolding word
word_without p q first a b e f =
    ap₂ bit_and e rest ∙ and_masks p (λ x. not (q x)) (levels_from first 128)
  where
    all : 2 ^ length (levels_from first 128) ≡ 340282366920938463463374607431768211456
    all = ap (λ n. 2 ^ n) (length_of_levels first 128)

    rest : 340282366920938463463374607431768211455 - b ≡ mask_l (map (λ x. not (q x)) (levels_from first 128))
    rest = omega (arith, f, all, other_mask q (levels_from first 128))

pub word_count : (p : ℕ → Bool) (first a : ℕ) → a ≡ word p first → count_ones a ≡ length (filter p (levels_from first 128))
unfolding word
word_count p first a e = ap count_ones e ∙ (ones-mask_l p (levels_from first 128) ∙ sym (length-filter p (levels_from first 128)))

pub set_none : (first : ℕ) → ◌≡◌ {A = LevelSet} (record { low = 0; high = 0 }) (set_where (λ x. false) first)
unfolding set_where
set_none first = λ i. record { low = sym (word_of_none first) i; high = sym (word_of_none (first + 128)) i }

pub set_of : (p : ℕ → Bool) (first l h : ℕ) → l ≡ word p first → h ≡ word p (first + 128) → ◌≡◌ {A = LevelSet} (record { low = l; high = h }) (set_where p first)
unfolding set_where
set_of p first l h e f = λ i. record { low = e i; high = f i }

pub set_low : (p : ℕ → Bool) (first : ℕ) (s : LevelSet) → s ≡ set_where p first → s.low ≡ word p first
unfolding set_where
set_low p first s e = ap (λ t. t.low) e

pub set_high : (p : ℕ → Bool) (first : ℕ) (s : LevelSet) → s ≡ set_where p first → s.high ≡ word p (first + 128)
unfolding set_where
set_high p first s e = ap (λ t. t.high) e

pub set_count : (p : ℕ → Bool) (first : ℕ) (s : LevelSet) → s ≡ set_where p first → count_ones s.low + count_ones s.high ≡ length (filter p (levels_from first 256))
set_count p first s e =
    ap₂ (λ m n. m + n) (word_count p first s.low (set_low p first s e)) (word_count p (first + 128) s.high (set_high p first s e))
    ∙ (sym (length-append (filter p (levels_from first 128)) (filter p (levels_from (first + 128) 128)))
    ∙ ap length (sym (filter-append p (levels_from first 128) (levels_from (first + 128) 128)) ∙ ap (filter p) (sym (levels_join first 128 128))))

pub small_power : (k : ℕ) → k < 128 → 1 * 2 ^ k % 340282366920938463463374607431768211456 ≡ 2 ^ k
small_power k l = one_shl k 128 l
