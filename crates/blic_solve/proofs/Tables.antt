-- A function as the list of its values at all assignments of the levels.
use Rattle.std.proofs.Common.{arith, ℕ, zero, suc, ◌<◌, ◌≡◌, refl, sym, ◌∙◌, ap, subst, inl, inr, List, [], ◌∷◌, length, get_or, map, Bool, true, false, not, ◌&&◌, ◌||◌}
use Rattle.std.specs.List.{list_any}
use Rattle.std.specs.Cmp.{IsEquivalence}
use Rattle.std.proofs.lemmas.Bool.{cases_Bool}
use mathlib.Core.Path.{fun_ext}
use Rattle.blic_model.specs.Subfunctions.{words, is_constant, same_function, same_pair}
use Rattle.blic_store.specs.Function.{Function, Same}
use Rattle.blic_solve.proofs.Members.{IsIn, in_left, in_right, in_map, agree_in}

-- the point with these topmost bits, and no other bit set
abbrev pub point : List Bool → ℕ → Bool
point w x = get_or w x false

unfoldable pub table : ℕ → Function → List Bool
table levels f = map (λ w. f (point w)) (words levels)

-- a function that looks at the first levels alone
abbrev pub LooksBelow : ℕ → Function → Type 0
LooksBelow levels f = (p q : ℕ → Bool) → ((x : ℕ) → x < levels → p x ≡ q x) → f p ≡ f q

same_self : (f : List Bool) → same_function f f ≡ true
same_self [] = refl
same_self (true ∷ bs) = same_self bs
same_self (false ∷ bs) = same_self bs

same_swap : (f g : List Bool) → same_function f g ≡ same_function g f
same_swap [] [] = refl
same_swap [] (c ∷ cs) = refl
same_swap (b ∷ bs) [] = refl
same_swap (true ∷ bs) (true ∷ cs) = same_swap bs cs
same_swap (true ∷ bs) (false ∷ cs) = refl
same_swap (false ∷ bs) (true ∷ cs) = refl
same_swap (false ∷ bs) (false ∷ cs) = same_swap bs cs

pub wrong : false ≡ true → ⊥
wrong q = cc

pub same_true : (f g : List Bool) → same_function f g ≡ true → f ≡ g
same_true [] [] h = refl
same_true [] (c ∷ cs) h = absurd (wrong h)
same_true (b ∷ bs) [] h = absurd (wrong h)
same_true (true ∷ bs) (true ∷ cs) h = ap (λ z. true ∷ z) (same_true bs cs h)
same_true (true ∷ bs) (false ∷ cs) h = absurd (wrong h)
same_true (false ∷ bs) (true ∷ cs) h = absurd (wrong h)
same_true (false ∷ bs) (false ∷ cs) h = ap (λ z. false ∷ z) (same_true bs cs h)

pub function_laws : IsEquivalence same_function
function_laws = record { refl = same_self; symm = same_swap; congr = λ x y z h. ap (λ w. same_function w z) (same_true x y h) }

both : (a b : Bool) → (a && b) ≡ true → (a ≡ true) × (b ≡ true)
both true true h = (refl, refl)
both true false h = absurd (wrong h)
both false b h = absurd (wrong h)

pub same_pair_true : (p q : List Bool × List Bool) → same_pair p q ≡ true → (p.0 ≡ q.0) × (p.1 ≡ q.1)
same_pair_true p q h = let w = both (same_function p.0 q.0) (same_function p.1 q.1) h in (same_true p.0 q.0 w.0, same_true p.1 q.1 w.1)

pub pair_laws : IsEquivalence same_pair
pair_laws = record {
  refl = λ p. rw (same_self p.0, same_self p.1) refl;
  symm = λ p q. rw (same_swap p.0 q.0, same_swap p.1 q.1) refl;
  congr = λ x y z h. (let w = same_pair_true x y h in ap (λ k. same_function k z.0 && same_function x.1 z.1) w.0 ∙ ap (λ k. same_function y.0 z.0 && same_function k z.1) w.1);
}

-- The first n bits of a point.
pub word_of : (ℕ → Bool) → ℕ → List Bool
word_of p zero = []
word_of p (suc n) = p 0 ∷ word_of (λ x. p (suc x)) n

point_of_word : (p : ℕ → Bool) (n x : ℕ) → x < n → point (word_of p n) x ≡ p x
unfolding word_of
point_of_word p zero x h = absurd (omega arith)
point_of_word p (suc n) zero h = refl
point_of_word p (suc n) (suc x) h = point_of_word (λ y. p (suc y)) n x (omega arith)

-- each list of bits is among the words of its length
pub in_words : (w : List Bool) → IsIn (words (length w)) w
unfolding words
in_words [] = inl refl
in_words (false ∷ w) = in_left (map (λ w. false ∷ w) (words (length w))) (map (λ w. true ∷ w) (words (length w))) (false ∷ w) (in_map (λ w. false ∷ w) (words (length w)) w (in_words w))
in_words (true ∷ w) = in_right (map (λ w. false ∷ w) (words (length w))) (map (λ w. true ∷ w) (words (length w))) (true ∷ w) (in_map (λ w. true ∷ w) (words (length w)) w (in_words w))

length-word_of : (p : ℕ → Bool) (n : ℕ) → length (word_of p n) ≡ n
unfolding word_of
length-word_of p zero = refl
length-word_of p (suc n) = ap suc (length-word_of (λ x. p (suc x)) n)

word_in_words : (p : ℕ → Bool) (n : ℕ) → IsIn (words n) (word_of p n)
word_in_words p n = subst (λ m. IsIn (words m) (word_of p n)) (length-word_of p n) (in_words (word_of p n))

-- what a function is at a point, it is at a word
at_word : (levels : ℕ) (f : Function) → LooksBelow levels f → (p : ℕ → Bool) → f (point (word_of p levels)) ≡ f p
at_word levels f l p = l (point (word_of p levels)) p (λ x h. point_of_word p levels x h)

-- functions with one table are the same
pub same_from_table : (levels : ℕ) (f g : Function) → LooksBelow levels f → LooksBelow levels g → table levels f ≡ table levels g → Same f g
unfolding table
same_from_table levels f g l m e p =
    sym (at_word levels f l p) ∙ (agree_in (λ w. f (point w)) (λ w. g (point w)) (words levels) e (word_of p levels) (word_in_words p levels) ∙ at_word levels g m p)

pub table_same : (levels : ℕ) (f g : Function) → Same f g → table levels f ≡ table levels g
table_same levels f g e = ap (table levels) (fun_ext e)

none_passes : {X : Type 0} (test : X → Bool) (xs : List X) → list_any test xs ≡ false → (x : X) → IsIn xs x → test x ≡ false
none_passes test [] h x i = absurd i
none_passes test (y ∷ xs) h x (inl e) = sym (ap test e) ∙ (first (test y) (list_any test xs) h)
  where
    first : (a b : Bool) → (a || b) ≡ false → a ≡ false
    first a b h = grind arith
none_passes test (y ∷ xs) h x (inr i) = none_passes test xs (second (test y) (list_any test xs) h) x i
  where
    second : (a b : Bool) → (a || b) ≡ false → b ≡ false
    second a b h = grind arith

none_of_map : {X : Type 0} (test : Bool → Bool) (b : Bool) → test b ≡ false → (xs : List X) → list_any test (map (λ w. b) xs) ≡ false
none_of_map test b e [] = refl
none_of_map test b e (x ∷ xs) = neither (test b) (list_any test (map (λ w. b) xs)) e (none_of_map test b e xs)
  where
    neither : (a c : Bool) → a ≡ false → c ≡ false → (a || c) ≡ false
    neither a c h k = grind arith

constant_table : (levels : ℕ) (b : Bool) → is_constant (table levels (λ p. b)) ≡ true
unfolding table
constant_table levels false = last (list_any (λ b. b) (map (λ w. false) (words levels))) (list_any not (map (λ w. false) (words levels))) (none_of_map (λ b. b) false refl (words levels))
  where
    last : (a c : Bool) → a ≡ false → not (a && c) ≡ true
    last a c h = grind arith
constant_table levels true = last (list_any (λ b. b) (map (λ w. true) (words levels))) (list_any not (map (λ w. true) (words levels))) (none_of_map not true refl (words levels))
  where
    last : (a c : Bool) → c ≡ false → not (a && c) ≡ true
    last a c h = grind arith

-- a function that is one value everywhere
pub record IsConstant (f : Function) : Type 0 where
  pub bit : Bool
  pub value : Same f (λ p. bit)

-- a constant function has a constant table
pub table_of_constant : (levels : ℕ) (f : Function) → IsConstant f → is_constant (table levels f) ≡ true
table_of_constant levels f c = ap is_constant (table_same levels f (λ p. c.bit) c.value) ∙ constant_table levels c.bit

-- and only a constant one has
pub constant_from_table : (levels : ℕ) (f : Function) → LooksBelow levels f → is_constant (table levels f) ≡ true → IsConstant f
unfolding table
constant_from_table levels f l h = elim (cases_Bool (list_any (λ b. b) (map (λ w. f (point w)) (words levels)))) [
  | inl e ↦ record {
    bit = true;
    value = λ p. sym (at_word levels f l p) ∙ is_true (f (point (word_of p levels))) (at not (second _ _ e h) p);
  }
  | inr e ↦ record { bit = false; value = λ p. sym (at_word levels f l p) ∙ at (λ b. b) e p }
]
  where
    second : (a b : Bool) → a ≡ true → not (a && b) ≡ true → b ≡ false
    second a b h k = grind arith

    is_true : (b : Bool) → not b ≡ false → b ≡ true
    is_true true h = refl
    is_true false h = sym h

    at : (test : Bool → Bool) → list_any test (map (λ w. f (point w)) (words levels)) ≡ false → (p : ℕ → Bool) → test (f (point (word_of p levels))) ≡ false
    at test e p = none_passes test (map (λ w. f (point w)) (words levels)) e (f (point (word_of p levels)))
        (in_map (λ w. f (point w)) (words levels) (word_of p levels) (word_in_words p levels))
