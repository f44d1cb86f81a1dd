-- What was seen of the problem line's words is what they say.
use Rattle.std.proofs.Common.{◌≡◌, ℕ, ◌+◌, ◌*◌, ◌-◌, ◌<◌, Bool, true, false, cond, ◌&&◌, ◌||◌, ◌==◌, List, [], ◌∷◌, refl, ap, sym, ◌∙◌, arith, min, map, Option, Some, None, Result, Ok, Err, ◌⊎◌, inl, inr}
use Rattle.std.specs.Prelude.{nat_lt, option_map}
use Rattle.std.specs.Str.{all_ascii_digits}
use Rattle.std.specs.Char.{is_ascii_digit}
use Rattle.std.proofs.lemmas.Bool.{eqb-true}
use Rattle.std.proofs.lemmas.Bool.Decides.{nat_tests, leb_tells}
use Rattle.blic_model.specs.declared.prefix.Quant.TheVariants.{Exists, Forall}
use Rattle.blic_qdimacs.specs.declared.error.ReadError.{ReadError}
use Rattle.blic_qdimacs.specs.declared.error.ReadError.TheVariants as errors
use Rattle.blic_qdimacs.specs.declared.seen.Seen.{Seen}
use Rattle.blic_qdimacs.specs.declared.seen.Seen.TheVariants as seen
use Rattle.blic_qdimacs.specs.declared.seen.HeaderSeen.{HeaderSeen}
use Rattle.blic_qdimacs.specs.declared.seen.HeaderSeen.TheVariants as headers
use Rattle.blic_qdimacs.specs.Header.{Header, is_p, is_cnf, within_limits, header_numbers, header_after_p, header_from}
use Rattle.blic_qdimacs.specs.Lines.{Word, is_some_text}
use Rattle.blic_qdimacs.specs.Machine.{first_seen, seen_with, is_nothing, is_p_seen, is_cnf_seen, plain_seen, vars_seen, both_seen, header_with, header_seen_end, some_header}
use Rattle.blic_qdimacs.specs.Words.{plain_number, value_on}
use Rattle.blic_qdimacs.proofs.Lexing.{seen_of, some_seen}
use Rattle.blic_qdimacs.proofs.KindLaws.{digits_seen, digit_value}

-- what is seen first, by the tests
abbrev first_by : Bool → Bool → Bool → Bool → Bool → Bool → ℕ → Seen
first_by e a p c m d v =
    cond e (seen.Letter Exists) (cond a (seen.Letter Forall) (cond p seen.P (cond c seen.C (cond m seen.Minus (cond d (seen.Digits false v) seen.Other)))))

-- `p`
p_either : (c : Bool) (x y : Seen) → is_p_seen x ≡ false → is_p_seen y ≡ false → is_p_seen (cond c x y) ≡ false
p_either true x y h k = h
p_either false x y h k = k

no_p : (s : Seen) (b : ℕ) → is_nothing s ≡ false → is_p_seen (seen_with s b) ≡ false
no_p seen.Nothing b some = absurd (let e : true ≡ false = some in cc)
no_p seen.C b some = p_either (b == 110) _ _ refl refl
no_p seen.Cn b some = p_either (b == 102) _ _ refl refl
no_p seen.Minus b some = p_either (is_ascii_digit b) _ _ refl refl
no_p (seen.Digits negative v) b some = p_either (is_ascii_digit b) _ _ refl refl
no_p (seen.Letter q) b some = refl
no_p seen.P b some = refl
no_p seen.Cnf b some = refl
no_p seen.Other b some = refl

no_p_of : (s : Seen) (b : ℕ) (p : List ℕ) → is_nothing s ≡ false → is_p_seen (seen_of s (b ∷ p)) ≡ false
no_p_of s b [] some = no_p s b some
no_p_of s b (c ∷ p) some = no_p_of (seen_with s b) c p (some_seen s b)

p_by : (e a p c m d : Bool) (v : ℕ) → (e ≡ true → p ≡ false) → (a ≡ true → p ≡ false) → is_p_seen (first_by e a p c m d v) ≡ p
p_by true a p c m d v he ha = sym (he refl)
p_by false true p c m d v he ha = sym (ha refl)
p_by false false true c m d v he ha = refl
p_by false false false true m d v he ha = refl
p_by false false false false true d v he ha = refl
p_by false false false false false true v he ha = refl
p_by false false false false false false v he ha = refl

-- another byte
unlike : (a b c : ℕ) → (b == c) ≡ false → (a == b) ≡ true → (a == c) ≡ false
unlike a b c other same = ap (λ n. n == c) (eqb-true a b same) ∙ other

p_first : (b : ℕ) → is_p_seen (first_seen b) ≡ (b == 112)
p_first b = p_by (b == 101) (b == 97) (b == 112) (b == 99) (b == 45) (is_ascii_digit b) (b - 48) (unlike b 101 112 refl) (unlike b 97 112 refl)

pub p_seen : (text : List ℕ) → is_some_text text ≡ true → is_p_seen (seen_of seen.Nothing text) ≡ is_p text
p_seen [] some = absurd (let e : false ≡ true = some in cc)
p_seen (b ∷ []) some = p_first b
p_seen (b ∷ c ∷ p) some = no_p_of (first_seen b) c p (some_seen seen.Nothing b)

-- `cnf`: these can't become it
abbrev is_dead : Seen → Bool
is_dead seen.Nothing = false
is_dead seen.C = false
is_dead seen.Cn = false
is_dead seen.Cnf = false
is_dead (seen.Letter q) = true
is_dead seen.P = true
is_dead seen.Minus = true
is_dead (seen.Digits negative v) = true
is_dead seen.Other = true

dead_either : (c : Bool) (x y : Seen) → is_dead x ≡ true → is_dead y ≡ true → is_dead (cond c x y) ≡ true
dead_either true x y h k = h
dead_either false x y h k = k

dead_with : (s : Seen) (b : ℕ) → is_dead s ≡ true → is_dead (seen_with s b) ≡ true
dead_with seen.Nothing b dead = absurd (let e : false ≡ true = dead in cc)
dead_with seen.C b dead = absurd (let e : false ≡ true = dead in cc)
dead_with seen.Cn b dead = absurd (let e : false ≡ true = dead in cc)
dead_with seen.Cnf b dead = refl
dead_with seen.Minus b dead = dead_either (is_ascii_digit b) _ _ refl refl
dead_with (seen.Digits negative v) b dead = dead_either (is_ascii_digit b) _ _ refl refl
dead_with (seen.Letter q) b dead = refl
dead_with seen.P b dead = refl
dead_with seen.Other b dead = refl

dead_cnf : (s : Seen) → is_dead s ≡ true → is_cnf_seen s ≡ false
dead_cnf seen.Nothing dead = refl
dead_cnf seen.C dead = refl
dead_cnf seen.Cn dead = refl
dead_cnf seen.Cnf dead = absurd (let e : false ≡ true = dead in cc)
dead_cnf seen.Minus dead = refl
dead_cnf (seen.Digits negative v) dead = refl
dead_cnf (seen.Letter q) dead = refl
dead_cnf seen.P dead = refl
dead_cnf seen.Other dead = refl

dead_of : (s : Seen) (p : List ℕ) → is_dead s ≡ true → is_cnf_seen (seen_of s p) ≡ false
dead_of s [] dead = dead_cnf s dead
dead_of s (b ∷ p) dead = dead_of (seen_with s b) p (dead_with s b dead)

-- the first byte matters if it is `c`
c_dead : (c : Bool) (s : Seen) (q : List ℕ) → is_dead s ≡ true → c ≡ false → is_cnf_seen (seen_of s q) ≡ is_cnf_seen (seen_of (cond c seen.C seen.Other) q)
c_dead c s q dead other = dead_of s q dead ∙ sym (ap (λ t. is_cnf_seen (seen_of (cond t seen.C seen.Other) q)) other ∙ dead_of seen.Other q refl)

c_by : (e a p c m d : Bool) (v : ℕ) (q : List ℕ) → (e ≡ true → c ≡ false) → (a ≡ true → c ≡ false) → (p ≡ true → c ≡ false)
    → is_cnf_seen (seen_of (first_by e a p c m d v) q) ≡ is_cnf_seen (seen_of (cond c seen.C seen.Other) q)
c_by true a p c m d v q he ha hp = c_dead c (seen.Letter Exists) q refl (he refl)
c_by false true p c m d v q he ha hp = c_dead c (seen.Letter Forall) q refl (ha refl)
c_by false false true c m d v q he ha hp = c_dead c seen.P q refl (hp refl)
c_by false false false true m d v q he ha hp = refl
c_by false false false false true d v q he ha hp = c_dead false seen.Minus q refl refl
c_by false false false false false true v q he ha hp = c_dead false (seen.Digits false v) q refl refl
c_by false false false false false false v q he ha hp = refl

c_first : (b : ℕ) (q : List ℕ) → is_cnf_seen (seen_of (first_seen b) q) ≡ is_cnf_seen (seen_of (cond (b == 99) seen.C seen.Other) q)
c_first b q =
    c_by (b == 101) (b == 97) (b == 112) (b == 99) (b == 45) (is_ascii_digit b) (b - 48) q (unlike b 101 99 refl) (unlike b 97 99 refl) (unlike b 112 99 refl)

one_byte : (t : Bool) → is_cnf_seen (cond t seen.C seen.Other) ≡ false
one_byte true = refl
one_byte false = refl

second : (t : Bool) (b : ℕ) (q : List ℕ) → is_cnf_seen (seen_of (cond t seen.C seen.Other) (b ∷ q)) ≡ is_cnf_seen (seen_of (cond (t && b == 110) seen.Cn seen.Other) q)
second true b q = refl
second false b q = refl

third : (t : Bool) (b : ℕ) (q : List ℕ) → is_cnf_seen (seen_of (cond t seen.Cn seen.Other) (b ∷ q)) ≡ is_cnf_seen (seen_of (cond (t && b == 102) seen.Cnf seen.Other) q)
third true b q = refl
third false b q = refl

two_done : (t : Bool) → is_cnf_seen (cond t seen.Cn seen.Other) ≡ false
two_done true = refl
two_done false = refl

three_done : (t : Bool) → is_cnf_seen (cond t seen.Cnf seen.Other) ≡ t
three_done true = refl
three_done false = refl

more_done : (t : Bool) (b : ℕ) (q : List ℕ) → is_cnf_seen (seen_of (cond t seen.Cnf seen.Other) (b ∷ q)) ≡ false
more_done true b q = dead_of seen.Other q refl
more_done false b q = dead_of seen.Other q refl

pub cnf_seen : (text : List ℕ) → is_some_text text ≡ true → is_cnf_seen (seen_of seen.Nothing text) ≡ is_cnf text
cnf_seen [] some = absurd (let e : false ≡ true = some in cc)
cnf_seen (a ∷ []) some = c_first a [] ∙ one_byte (a == 99)
cnf_seen (a ∷ b ∷ []) some = c_first a (b ∷ []) ∙ second (a == 99) b [] ∙ two_done (a == 99 && b == 110)
cnf_seen (a ∷ b ∷ c ∷ []) some =
    c_first a (b ∷ c ∷ []) ∙ second (a == 99) b (c ∷ []) ∙ third (a == 99 && b == 110) c [] ∙ three_done (a == 99 && b == 110 && c == 102)
cnf_seen (a ∷ b ∷ c ∷ d ∷ ds) some =
    c_first a (b ∷ c ∷ d ∷ ds) ∙ second (a == 99) b (c ∷ d ∷ ds) ∙ third (a == 99 && b == 110) c (d ∷ ds) ∙ more_done (a == 99 && b == 110 && c == 102) d ds

-- plain numbers: these can't become one
abbrev is_unplain : Seen → Bool
is_unplain seen.Nothing = false
is_unplain (seen.Digits negative v) = negative
is_unplain seen.C = true
is_unplain seen.Cn = true
is_unplain seen.Cnf = true
is_unplain (seen.Letter q) = true
is_unplain seen.P = true
is_unplain seen.Minus = true
is_unplain seen.Other = true

unplain_either : (c : Bool) (x y : Seen) → is_unplain x ≡ true → is_unplain y ≡ true → is_unplain (cond c x y) ≡ true
unplain_either true x y h k = h
unplain_either false x y h k = k

unplain_with : (s : Seen) (b : ℕ) → is_unplain s ≡ true → is_unplain (seen_with s b) ≡ true
unplain_with seen.Nothing b u = absurd (let e : false ≡ true = u in cc)
unplain_with seen.C b u = unplain_either (b == 110) _ _ refl refl
unplain_with seen.Cn b u = unplain_either (b == 102) _ _ refl refl
unplain_with seen.Cnf b u = refl
unplain_with seen.Minus b u = unplain_either (is_ascii_digit b) _ _ refl refl
unplain_with (seen.Digits negative v) b u = unplain_either (is_ascii_digit b) _ _ u refl
unplain_with (seen.Letter q) b u = refl
unplain_with seen.P b u = refl
unplain_with seen.Other b u = refl

no_value : (negative : Bool) (v : ℕ) → negative ≡ true → plain_seen (seen.Digits negative v) ≡ None
no_value true v u = refl
no_value false v u = absurd (let e : false ≡ true = u in cc)

unplain_none : (s : Seen) → is_unplain s ≡ true → plain_seen s ≡ None
unplain_none seen.Nothing u = refl
unplain_none seen.C u = refl
unplain_none seen.Cn u = refl
unplain_none seen.Cnf u = refl
unplain_none seen.Minus u = refl
unplain_none (seen.Digits negative v) u = no_value negative v u
unplain_none (seen.Letter q) u = refl
unplain_none seen.P u = refl
unplain_none seen.Other u = refl

unplain_of : (s : Seen) (p : List ℕ) → is_unplain s ≡ true → plain_seen (seen_of s p) ≡ None
unplain_of s [] u = unplain_none s u
unplain_of s (b ∷ p) u = unplain_of (seen_with s b) p (unplain_with s b u)

abbrev pub capped : ℕ → ℕ
capped v = min v 2147483648

abbrev plain_by_test : Bool → ℕ → List ℕ → Option ℕ
plain_by_test d b q = cond (d && all_ascii_digits q) (Some (value_on (10 * 0 + (b - 48)) q)) None

unplain_case : (d : Bool) (s : Seen) (b : ℕ) (q : List ℕ) → is_unplain s ≡ true → d ≡ false → plain_seen (seen_of s q) ≡ option_map capped (plain_by_test d b q)
unplain_case d s b q u other = unplain_of s q u ∙ sym (ap (λ t. option_map capped (plain_by_test t b q)) other)

value_either : (t : Bool) (v : ℕ) → plain_seen (cond t (seen.Digits false (min v 2147483648)) seen.Other) ≡ option_map capped (cond t (Some v) None)
value_either true v = refl
value_either false v = refl

plain_by : (e a p c m d : Bool) (b : ℕ) (q : List ℕ) → (e ≡ true → d ≡ false) → (a ≡ true → d ≡ false) → (p ≡ true → d ≡ false) → (c ≡ true → d ≡ false) → (m ≡ true → d ≡ false)
    → (d ≡ true → b - 48 ≡ min (10 * 0 + (b - 48)) 2147483648)
    → plain_seen (seen_of (first_by e a p c m d (b - 48)) q) ≡ option_map capped (plain_by_test d b q)
plain_by true a p c m d b q he ha hp hc hm hd = unplain_case d (seen.Letter Exists) b q refl (he refl)
plain_by false true p c m d b q he ha hp hc hm hd = unplain_case d (seen.Letter Forall) b q refl (ha refl)
plain_by false false true c m d b q he ha hp hc hm hd = unplain_case d seen.P b q refl (hp refl)
plain_by false false false true m d b q he ha hp hc hm hd = unplain_case d seen.C b q refl (hc refl)
plain_by false false false false true d b q he ha hp hc hm hd = unplain_case d seen.Minus b q refl (hm refl)
plain_by false false false false false true b q he ha hp hc hm hd =
    ap plain_seen (digits_seen q false (b - 48) (10 * 0 + (b - 48)) (hd refl)) ∙ value_either (all_ascii_digits q) (value_on (10 * 0 + (b - 48)) q)
plain_by false false false false false false b q he ha hp hc hm hd = unplain_of seen.Other q refl

no_digit : (a b : ℕ) → is_ascii_digit b ≡ false → (a == b) ≡ true → is_ascii_digit a ≡ false
no_digit a b other same = ap is_ascii_digit (eqb-true a b same) ∙ other

pub plain_seen_of : (text : List ℕ) → is_some_text text ≡ true → plain_seen (seen_of seen.Nothing text) ≡ option_map capped (plain_number text)
plain_seen_of [] some = absurd (let e : false ≡ true = some in cc)
plain_seen_of (b ∷ q) some =
    plain_by (b == 101) (b == 97) (b == 112) (b == 99) (b == 45) (is_ascii_digit b) b q (no_digit b 101 refl) (no_digit b 97 refl) (no_digit b 112 refl) (no_digit b 99 refl) (no_digit b 45 refl)
    (digit_value b)

-- a number above the greatest is too large, however large it is
few_or_many : (v : ℕ) → (min v 2147483648 ≡ v) ⊎ ((nat_lt 2147483647 (min v 2147483648) ≡ true) × (nat_lt 2147483647 v ≡ true))
few_or_many v =
    elim (leb_tells v 2147483647) [
      | inl small ↦ inl (omega (arith, small.1))
      | inr large ↦
          let e : 2147483648 ≡ min v 2147483648 = omega (arith, large.1) in
          inr (ap (λ n. nat_lt 2147483647 n) (sym e), lt_ltb 2147483647 v large.1)
    ]
  where
    lt_ltb : (a b : ℕ) → a < b → nat_lt a b ≡ true
    lt_ltb a b h = grind (arith, nat_tests)

or_true : (t : Bool) → (t || true) ≡ true
or_true true = refl
or_true false = refl

abbrev limits_by : Bool → ℕ → ℕ → ℕ → Result Header ReadError
limits_by t line v c =
    cond t (Err (errors.NumberTooLarge line)) (cond (nat_lt 65535 v) (Err (errors.TooManyVariables line))
    (cond (nat_lt 1048576 c) (Err (errors.ClauseLimit line)) (Ok (record { vars = v; clauses = c }))))

limits_large : (line v c v' c' : ℕ) (t t' : Bool) → t ≡ true → t' ≡ true → limits_by t line v c ≡ limits_by t' line v' c'
limits_large line v c v' c' t t' h h' = ap (λ x. limits_by x line v c) h ∙ sym (ap (λ x. limits_by x line v' c') h')

limits_capped : (line v c : ℕ) → within_limits line (capped v) (capped c) ≡ within_limits line v c
limits_capped line v c = by (few_or_many v) (few_or_many c)
  where
    Few : ℕ → Type 0
    Few n = (min n 2147483648 ≡ n) ⊎ ((nat_lt 2147483647 (min n 2147483648) ≡ true) × (nat_lt 2147483647 n ≡ true))

    by : Few v → Few c → within_limits line (capped v) (capped c) ≡ within_limits line v c
    by (inl few) (inl few') = ap (λ n. within_limits line n (capped c)) few ∙ ap (λ n. within_limits line v n) few'
    by (inr many) other =
        limits_large line (capped v) (capped c) v c (nat_lt 2147483647 (capped v) || nat_lt 2147483647 (capped c)) (nat_lt 2147483647 v || nat_lt 2147483647 c)
        (ap (λ t. t || nat_lt 2147483647 (capped c)) many.0) (ap (λ t. t || nat_lt 2147483647 c) many.1)
    by (inl few) (inr many) =
        limits_large line (capped v) (capped c) v c (nat_lt 2147483647 (capped v) || nat_lt 2147483647 (capped c)) (nat_lt 2147483647 v || nat_lt 2147483647 c)
        (ap (λ t. nat_lt 2147483647 (capped v) || t) many.0 ∙ or_true (nat_lt 2147483647 (capped v))) (ap (λ t. nat_lt 2147483647 v || t) many.1 ∙ or_true (nat_lt 2147483647 v))

-- the words of a line, one after another
abbrev pub headers_after : HeaderSeen → List Word → HeaderSeen
headers_after hs [] = hs
headers_after hs (w ∷ ws) = headers_after (header_with hs (seen_of seen.Nothing w.text)) ws

abbrev pub AllText : List Word → Type 0
AllText [] = Unit {0}
AllText (w ∷ ws) = (is_some_text w.text ≡ true) × AllText ws

bad_stays : (ws : List Word) → headers_after headers.Bad ws ≡ headers.Bad
bad_stays [] = refl
bad_stays (w ∷ ws) = bad_stays ws

no_problem_stays : (ws : List Word) → headers_after headers.NotProblem ws ≡ headers.NotProblem
no_problem_stays [] = refl
no_problem_stays (w ∷ ws) = no_problem_stays ws

cnf_end : (line : ℕ) (t : Bool) → header_seen_end line (cond t headers.Cnf headers.Bad) ≡ Err (errors.BadProblemLine line)
cnf_end line true = refl
cnf_end line false = refl

vars_end : (line : ℕ) (o : Option ℕ) → header_seen_end line (vars_seen o) ≡ Err (errors.BadProblemLine line)
vars_end line None = refl
vars_end line (Some v) = refl

two_end : (line : ℕ) (t : Bool) (s : Seen) → header_seen_end line (header_with (cond t headers.Cnf headers.Bad) s) ≡ Err (errors.BadProblemLine line)
two_end line true s = vars_end line (plain_seen s)
two_end line false s = refl

both_end : (line : ℕ) (o p : Option ℕ) (s : Seen) → plain_seen s ≡ option_map capped p → header_seen_end line (header_with (vars_seen (option_map capped o)) s) ≡ some_header (header_numbers line o p)
both_end line None None s is = refl
both_end line None (Some c) s is = refl
both_end line (Some v) None s is = ap (λ o. header_seen_end line (both_seen (capped v) o)) is
both_end line (Some v) (Some c) s is = ap (λ o. header_seen_end line (both_seen (capped v) o)) is ∙ ap some_header (limits_capped line v c)

three_end : (line : ℕ) (t : Bool) (vars clauses : List ℕ) → is_some_text vars ≡ true → is_some_text clauses ≡ true
    → header_seen_end line (header_with (header_with (cond t headers.Cnf headers.Bad) (seen_of seen.Nothing vars)) (seen_of seen.Nothing clauses))
    ≡ some_header (cond t (header_numbers line (plain_number vars) (plain_number clauses)) (Err (errors.BadProblemLine line)))
three_end line false vars clauses some some' = refl
three_end line true vars clauses some some' =
    ap (λ o. header_seen_end line (header_with (vars_seen o) (seen_of seen.Nothing clauses))) (plain_seen_of vars some)
    ∙ both_end line (plain_number vars) (plain_number clauses) (seen_of seen.Nothing clauses) (plain_seen_of clauses some')

-- after three words more, one more is too many
vars_then : (o : Option ℕ) (s s' : Seen) (ws : List Word) → headers_after (header_with (header_with (vars_seen o) s) s') ws ≡ headers.Bad
vars_then None s s' ws = bad_stays ws
vars_then (Some v) s s' ws = both_then (plain_seen s)
  where
    both_then : (p : Option ℕ) → headers_after (header_with (both_seen v p) s') ws ≡ headers.Bad
    both_then None = bad_stays ws
    both_then (Some c) = bad_stays ws

four_end : (t : Bool) (s s' s'' : Seen) (ws : List Word) → headers_after (header_with (header_with (header_with (cond t headers.Cnf headers.Bad) s) s') s'') ws ≡ headers.Bad
four_end true s s' s'' ws = vars_then (plain_seen s) s' s'' ws
four_end false s s' s'' ws = bad_stays ws

abbrev texts : List Word → List (List ℕ)
texts ws = map (λ w. w.text) ws

after_p_seen : (line : ℕ) (ws : List Word) → AllText ws → header_seen_end line (headers_after headers.P ws) ≡ some_header (header_after_p line (texts ws))
after_p_seen line [] all = refl
after_p_seen line (a ∷ []) all = cnf_end line (is_cnf_seen (seen_of seen.Nothing a.text))
after_p_seen line (a ∷ b ∷ []) all = two_end line (is_cnf_seen (seen_of seen.Nothing a.text)) (seen_of seen.Nothing b.text)
after_p_seen line (a ∷ b ∷ c ∷ []) all =
    ap (λ t. header_seen_end line (header_with (header_with (cond t headers.Cnf headers.Bad) (seen_of seen.Nothing b.text)) (seen_of seen.Nothing c.text))) (cnf_seen a.text all.0)
    ∙ three_end line (is_cnf a.text) b.text c.text all.1.0 all.1.1.0
after_p_seen line (a ∷ b ∷ c ∷ d ∷ ds) all =
    ap (header_seen_end line) (four_end (is_cnf_seen (seen_of seen.Nothing a.text)) (seen_of seen.Nothing b.text) (seen_of seen.Nothing c.text) (seen_of seen.Nothing d.text) ds)

first_seen_end : (line : ℕ) (t : Bool) (ws : List Word) → AllText ws
    → header_seen_end line (headers_after (cond t headers.P headers.NotProblem) ws) ≡ some_header (cond t (header_after_p line (texts ws)) (Err (errors.NoProblemLine line)))
first_seen_end line true ws all = after_p_seen line ws all
first_seen_end line false ws all = ap (header_seen_end line) (no_problem_stays ws)

-- the words of the first line with words, judged at its end
pub header_seen : (line : ℕ) (w : Word) (ws : List Word) → AllText (w ∷ ws)
    → header_seen_end line (headers_after headers.Empty (w ∷ ws)) ≡ some_header (header_from line (map (λ v. v.text) (w ∷ ws)))
header_seen line w ws all =
    ap (λ t. header_seen_end line (headers_after (cond t headers.P headers.NotProblem) ws)) (p_seen w.text all.0)
    ∙ first_seen_end line (is_p w.text) ws all.1
