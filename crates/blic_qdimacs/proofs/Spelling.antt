-- The canonical text of a formula, as the reader takes it.
use Rattle.std.proofs.Common.{◌≡◌, ℕ, ◌^◌, ◌+◌, ◌<◌, ◌≤◌, Bool, true, false, cond, not, ◌&&◌, ◌||◌, ◌==◌, List, [], ◌∷◌, ◌++◌, length, Option, Some, None, Result, Ok, Err, inl, inr, refl, ap, sym, ◌∙◌, rules, arith, append_assoc, append-nil, nat_le, sum_by, length-append, flat_map}
use Rattle.std.specs.Prelude.{nat_lt, decimal, codes, option_map}
use Rattle.std.specs.Char.{is_ascii_digit}
use Rattle.std.specs.Str.{all_ascii_digits}
use Rattle.std.specs.List.{list_all}
use Rattle.std.proofs.lemmas.Str.Parse.{IsNumeralModel, numerals_by_fold}
use Rattle.std.proofs.lemmas.Fmt.{digits_decimal, digits_value-decimal, decimal_nonempty}
use Rattle.std.proofs.lemmas.Bool.{le-ltb, lt-leb, leb-true, ltb-true, and_parts, and_from, not-true, ne_eqb, eq-eqb, eqb-true, cases_Bool, both_ways}
use Rattle.std.proofs.lemmas.List.Sums.{sum_by-cons, sum_by-append}
use Rattle.blic_model.specs.declared.prefix.Quant.{Quant}
use Rattle.blic_model.specs.declared.prefix.Quant.TheVariants.{Exists, Forall}
use Rattle.blic_model.specs.declared.prefix.Bound.{Bound}
use Rattle.blic_model.specs.declared.formula.Lit.{Lit}
use Rattle.blic_model.specs.Formula.{PrenexFormula}
use Rattle.blic_model.specs.Limits.{is_bound, are_in_range, are_distinct}
use Rattle.blic_qdimacs.specs.declared.error.ReadError.{ReadError}
use Rattle.blic_qdimacs.specs.declared.error.ReadError.TheVariants as errors
use Rattle.blic_qdimacs.specs.declared.byte_reader.Mode.{Mode}
use Rattle.blic_qdimacs.specs.declared.byte_reader.Mode.TheVariants.{Start, Comment, Text}
use Rattle.blic_qdimacs.specs.declared.items.Place.{Place}
use Rattle.blic_qdimacs.specs.declared.items.Place.TheVariants.{Between, InSet, InClause}
use Rattle.blic_qdimacs.specs.declared.seen.Seen.{Seen}
use Rattle.blic_qdimacs.specs.declared.seen.Seen.TheVariants as seen
use Rattle.blic_qdimacs.specs.declared.seen.HeaderSeen.{HeaderSeen}
use Rattle.blic_qdimacs.specs.declared.seen.HeaderSeen.TheVariants as headers
use Rattle.blic_qdimacs.specs.Binding.{◌>>=◌}
use Rattle.blic_qdimacs.specs.Header.{Header, within_limits}
use Rattle.blic_qdimacs.specs.Items.{Items, literals, after_number, after_word, in_set, in_clause}
use Rattle.blic_qdimacs.specs.Lines.{is_blank, is_line_end}
use Rattle.blic_qdimacs.specs.Machine.{Machine, start, header_with, vars_seen, both_seen, plain_seen, seen_with, is_nothing, kind_seen, with_items, word_taken, word_ended, some_header, with_problem, header_ended, line_judged, next_line, inside, after_byte, after_bytes}
use Rattle.blic_qdimacs.specs.Text.{quant_text, var_text, literal_text, clause_text, header_text}
use Rattle.blic_qdimacs.specs.Words.{Number, Other, kind_of, plain_number, value_on, with_sign, without_sign}
use Rattle.blic_qdimacs.specs.Writing.{start_text, prefix_left}
use Rattle.blic_qdimacs.proofs.HeaderLaws.{capped, plain_seen_of}
use Rattle.blic_qdimacs.proofs.KindLaws.{number_of_kind, seen_alike}
use Rattle.blic_qdimacs.proofs.Lexing.{seen_of, some_seen, some_text_seen}
use Rattle.blic_qdimacs.proofs.Running.{dressed}

-- the reader after the problem line, between two words
abbrev pub reading : Header → HeaderSeen → ℕ → Mode → Items → Machine
reading h hs line mode s = record { line = line; mode = mode; word = seen.Nothing; header = hs; problem = Some h; items = s }

abbrev Opens : Mode → Type 0
Opens Start = Unit {0}
Opens Text = Unit {0}
Opens Comment = ⊥

-- a byte that ends no word
abbrev is_inner : ℕ → Bool
is_inner b = not (is_line_end b) && not (is_blank b)

abbrev are_inner : List ℕ → Bool
are_inner p = list_all is_inner p

-- a word that is no comment's first
abbrev IsWord : List ℕ → Type 0
IsWord [] = ⊥
IsWord (b ∷ p) = (is_inner b ≡ true) × ((b == 99) ≡ false) × (are_inner p ≡ true)

byte_inside : (b : ℕ) (m : Machine) → is_inner b ≡ true → after_byte b m ≡ Ok (inside m.mode b m)
byte_inside b m inner =
    let i = and_parts (not (is_line_end b)) (not (is_blank b)) inner in
    ap (λ t. cond t (line_judged m >>= (λ n. Ok (next_line n))) (cond (is_blank b) (word_ended m) (Ok (inside m.mode b m)))) (not-true (is_line_end b) i.0)
    ∙ ap (λ t. cond t (word_ended m) (Ok (inside m.mode b m))) (not-true (is_blank b) i.1)

inside_run : (p : List ℕ) (w : Seen) (n : Machine) (rest : List ℕ) → are_inner p ≡ true → after_bytes (dressed Text w n) (p ++ rest) ≡ after_bytes (dressed Text (seen_of w p) n) rest
inside_run [] w n rest inner = refl
inside_run (b ∷ p) w n rest inner =
    let i = and_parts (is_inner b) (are_inner p) inner in
    ap (λ r. r >>= (λ m. after_bytes m (p ++ rest))) (byte_inside b (dressed Text w n) i.0) ∙ inside_run p (seen_with w b) n rest i.1

first_inside : (mode : Mode) (b : ℕ) (n : Machine) → Opens mode → (b == 99) ≡ false → inside mode b (dressed mode seen.Nothing n) ≡ dressed Text (seen_with seen.Nothing b) n
first_inside Start b n opens other = ap (λ t. cond t (dressed Comment seen.Nothing n) (dressed Text (seen_with seen.Nothing b) n)) other
first_inside Text b n opens other = refl
first_inside Comment b n opens other = absurd opens

-- the bytes of a word
word_in : (w : List ℕ) (mode : Mode) (n : Machine) (rest : List ℕ) → Opens mode → IsWord w → after_bytes (dressed mode seen.Nothing n) (w ++ rest) ≡ after_bytes (dressed Text (seen_of seen.Nothing w) n) rest
word_in [] mode n rest opens is = absurd is
word_in (b ∷ p) mode n rest opens is =
    ap (λ r. r >>= (λ m. after_bytes m (p ++ rest))) (byte_inside b (dressed mode seen.Nothing n) is.0)
    ∙ ap (λ m. after_bytes m (p ++ rest)) (first_inside mode b n opens is.1)
    ∙ inside_run p (seen_with seen.Nothing b) n rest is.2

some_word : (w : List ℕ) → IsWord w → is_nothing (seen_of seen.Nothing w) ≡ false
some_word [] is = absurd is
some_word (b ∷ p) is = some_text_seen (seen_with seen.Nothing b) p (some_seen seen.Nothing b)

kind_taken : (w : List ℕ) (h : Header) (line : ℕ) (s : Items) → IsWord w → after_word h line (kind_seen (seen_of seen.Nothing w)) s ≡ after_word h line (kind_of w) s
kind_taken [] h line s is = absurd is
kind_taken (b ∷ p) h line s is = seen_alike b p h line s

taken : (h : Header) (hs : HeaderSeen) (line : ℕ) (w : List ℕ) (s t : Items) → IsWord w → after_word h line (kind_of w) s ≡ Ok t
    → word_ended (dressed Text (seen_of seen.Nothing w) (reading h hs line Text s)) ≡ Ok (reading h hs line Text t)
taken h hs line w s t is takes =
    ap (λ c. cond c (Ok (dressed Text (seen_of seen.Nothing w) (reading h hs line Text s))) (word_taken (Some h) (seen_of seen.Nothing w) (reading h hs line Text s))) (some_word w is)
    ∙ ap (with_items (reading h hs line Text s)) (kind_taken w h line s is ∙ takes)

-- a word and a space
word_space : (h : Header) (hs : HeaderSeen) (line : ℕ) (mode : Mode) (w : List ℕ) (s t : Items) (rest : List ℕ) → Opens mode → IsWord w → after_word h line (kind_of w) s ≡ Ok t
    → after_bytes (reading h hs line mode s) (w ++ 32 ∷ rest) ≡ after_bytes (reading h hs line Text t) rest
word_space h hs line mode w s t rest opens is takes =
    word_in w mode (reading h hs line mode s) (32 ∷ rest) opens is ∙ ap (λ r. r >>= (λ m. after_bytes m rest)) (taken h hs line w s t is takes)

-- a word and a line end
word_line : (h : Header) (hs : HeaderSeen) (line : ℕ) (mode : Mode) (w : List ℕ) (s t : Items) (rest : List ℕ) → Opens mode → IsWord w → after_word h line (kind_of w) s ≡ Ok t
    → after_bytes (reading h hs line mode s) (w ++ 10 ∷ rest) ≡ after_bytes (reading h hs (line + 1) Start t) rest
word_line h hs line mode w s t rest opens is takes =
    word_in w mode (reading h hs line mode s) (10 ∷ rest) opens is
    ∙ ap (λ r. ((r >>= (λ n. header_ended n.problem n)) >>= (λ n. Ok (next_line n))) >>= (λ m. after_bytes m rest)) (taken h hs line w s t is takes)

-- digits
own : IsNumeralModel (λ ds. all_ascii_digits ds ≡ true) (value_on 0)
own = numerals_by_fold _ (search rules) value_on (search rules)

wide : (n : ℕ) → n ≤ 2147483647 → n < 2 ^ 64
wide n h = omega arith

no_digit : (c k : ℕ) → is_ascii_digit k ≡ false → is_ascii_digit c ≡ true → (c == k) ≡ false
no_digit c k other digit =
    elim (cases_Bool (c == k)) [
      | inl same ↦ absurd (both_ways (is_ascii_digit c) (ap is_ascii_digit (eqb-true c k same) ∙ other) digit)
      | inr differs ↦ differs
    ]

digit_inner : (c : ℕ) → is_ascii_digit c ≡ true → is_inner c ≡ true
digit_inner c digit =
    ap (λ t. not t && not (is_blank c)) (no_digit c 10 refl digit) ∙ ap (λ t. not (t || c == 9 || c == 13)) (no_digit c 32 refl digit)
    ∙ ap (λ t. not (t || c == 13)) (no_digit c 9 refl digit) ∙ ap not (no_digit c 13 refl digit)

digits_inner : (ds : List ℕ) → all_ascii_digits ds ≡ true → are_inner ds ≡ true
digits_inner [] digits = refl
digits_inner (c ∷ cs) digits =
    let d = and_parts (is_ascii_digit c) (all_ascii_digits cs) digits in
    and_from (is_inner c) (are_inner cs) (digit_inner c d.0) (digits_inner cs d.1)

digits_word : (ds : List ℕ) → 0 < length ds → all_ascii_digits ds ≡ true → IsWord ds
digits_word [] some digits = absurd (omega arith)
digits_word (c ∷ cs) some digits =
    let d = and_parts (is_ascii_digit c) (all_ascii_digits cs) digits in
    (digit_inner c d.0, no_digit c 99 refl d.0, digits_inner cs d.1)

digits_plain : (ds : List ℕ) → 0 < length ds → all_ascii_digits ds ≡ true → plain_number ds ≡ Some (value_on 0 ds)
digits_plain [] some digits = absurd (omega arith)
digits_plain (c ∷ cs) some digits = ap (λ t. cond t (Some (value_on 0 (c ∷ cs))) None) digits

digits_kind : (ds : List ℕ) → 0 < length ds → all_ascii_digits ds ≡ true → kind_of ds ≡ without_sign (plain_number ds)
digits_kind [] some digits = absurd (omega arith)
digits_kind (c ∷ cs) some digits =
    let d = and_parts (is_ascii_digit c) (all_ascii_digits cs) digits in
    sym (number_of_kind c cs (no_digit c 101 refl d.0) (no_digit c 97 refl d.0) (no_digit c 45 refl d.0))

decimal_word : (n : ℕ) → n ≤ 2147483647 → IsWord (decimal n)
decimal_word n small = digits_word (decimal n) (decimal_nonempty n (wide n small)) (digits_decimal own n (wide n small))

plain_decimal : (n : ℕ) → n ≤ 2147483647 → plain_number (decimal n) ≡ Some n
plain_decimal n small =
    digits_plain (decimal n) (decimal_nonempty n (wide n small)) (digits_decimal own n (wide n small)) ∙ ap Some (digits_value-decimal own n (wide n small))

decimal_kind : (n : ℕ) → n ≤ 2147483647 → kind_of (decimal n) ≡ Number false n
decimal_kind n small =
    digits_kind (decimal n) (decimal_nonempty n (wide n small)) (digits_decimal own n (wide n small)) ∙ ap without_sign (plain_decimal n small)

kind_minus : (ds : List ℕ) → kind_of (45 ∷ ds) ≡ with_sign (plain_number ds)
kind_minus [] = refl
kind_minus (d ∷ ds) = refl

not_zero : (v : ℕ) → 0 < v → (v == 0) ≡ false
not_zero v some = ne_eqb v 0 (λ e. omega (arith, e))

-- the word of a literal
abbrev literal_word : Bool → ℕ → List ℕ
literal_word negative v = cond negative (codes "-") [] ++ decimal v

literal_kind : (negative : Bool) (v : ℕ) → 0 < v → v ≤ 2147483647 → kind_of (literal_word negative v) ≡ Number negative v
literal_kind true v some small = kind_minus (decimal v) ∙ ap with_sign (plain_decimal v small) ∙ ap (λ t. cond t Other (Number true v)) (not_zero v some)
literal_kind false v some small = decimal_kind v small

literal_is_word : (negative : Bool) (v : ℕ) → v ≤ 2147483647 → IsWord (literal_word negative v)
literal_is_word true v small = (refl, refl, digits_inner (decimal v) (digits_decimal own v (wide v small)))
literal_is_word false v small = decimal_word v small

-- a clause is open if it has a literal
abbrev place_for : List Lit → Place
place_for [] = Between
place_for (l ∷ ls) = InClause

abbrev pub open_items : List Bound → List (List Lit) → List Lit → ℕ → Items
open_items p cs c line = record { place = place_for c; sets = p; clauses = cs; clause = c; line = line }

place_more : (c : List Lit) (l : Lit) → place_for (c ++ l ∷ []) ≡ InClause
place_more [] l = refl
place_more (x ∷ c) l = refl

clause_place : (h : Header) (negative : Bool) (v line : ℕ) (c : List Lit) (s : Items) → length s.clauses < h.clauses → after_number h negative v line (place_for c) s ≡ in_clause h negative v line s
clause_place h negative v line [] s room = ap (λ t. cond t (Err (errors.TooManyClauses line)) (in_clause h negative v line s)) (lt-leb h.clauses (length s.clauses) room)
clause_place h negative v line (x ∷ c) s room = refl

literal_taken : (h : Header) (p : List Bound) (cs : List (List Lit)) (c : List Lit) (j : ℕ) (negative : Bool) (v line : ℕ) → h.vars ≤ 65535 → 0 < v → v ≤ h.vars → length cs < h.clauses
    → sum_by length cs + length c < 1048576
    → after_word h line (Number negative v) (open_items p cs c j) ≡ Ok (open_items p cs (c ++ record { var = v; negative = negative } ∷ []) line)
literal_taken h p cs c j negative v line few some below room fewer =
    let s = open_items p cs c j in
    let l : Lit = record { var = v; negative = negative } in
    let joined : Items = record s { place = InClause; clause = c ++ l ∷ []; line = line } in
    let small : v ≤ 2147483647 = omega arith in
    let refused : Result Items ReadError = Err (errors.TooManyLiterals line) in
    ap (λ t. cond t (Err (errors.NumberTooLarge line)) (after_number h negative v line (place_for c) s)) (le-ltb 2147483647 v small)
    ∙ clause_place h negative v line c s room
    ∙ ap (λ t. cond t (Ok (record s { place = Between; clauses = cs ++ c ∷ []; clause = []; line = line })) (cond (nat_lt h.vars v) (Err (errors.VariableTooLarge line)) (cond (nat_le 1048576 (literals s)) refused (Ok joined)))) (not_zero v some)
    ∙ ap (λ t. cond t (Err (errors.VariableTooLarge line)) (cond (nat_le 1048576 (literals s)) refused (Ok joined))) (le-ltb h.vars v below)
    ∙ ap (λ t. cond t refused (Ok joined)) (lt-leb 1048576 (sum_by length cs + length c) fewer)
    ∙ ap (λ (place : Place). let t : Items = record s { place = place; clause = c ++ l ∷ []; line = line } in let r : Result Items ReadError = Ok t in r) (sym (place_more c l))

end_taken : (h : Header) (p : List Bound) (cs : List (List Lit)) (c : List Lit) (j line : ℕ) → length cs < h.clauses
    → after_word h line (kind_of (48 ∷ [])) (open_items p cs c j) ≡ Ok (open_items p (cs ++ c ∷ []) [] line)
end_taken h p cs c j line room = clause_place h false 0 line c (open_items p cs c j) room

-- each literal's variable is from 1 to n
abbrev pub Below : ℕ → List Lit → Type 0
Below n [] = Unit {0}
Below n (l ∷ ls) = (0 < l.var) × (l.var ≤ n) × Below n ls

literal_run : (h : Header) (hs : HeaderSeen) (line : ℕ) (mode : Mode) (p : List Bound) (cs : List (List Lit)) (c : List Lit) (j : ℕ) (l : Lit) (rest : List ℕ) → Opens mode → h.vars ≤ 65535 → 0 < l.var → l.var ≤ h.vars
    → length cs < h.clauses → sum_by length cs + length c < 1048576
    → after_bytes (reading h hs line mode (open_items p cs c j)) (literal_text l ++ rest) ≡ after_bytes (reading h hs line Text (open_items p cs (c ++ l ∷ []) line)) rest
literal_run h hs line mode p cs c j l rest opens few some below room fewer =
    let small : l.var ≤ 2147483647 = omega arith in
    ap (after_bytes (reading h hs line mode (open_items p cs c j))) (append_assoc (literal_word l.negative l.var) (32 ∷ []) rest)
    ∙ word_space h hs line mode (literal_word l.negative l.var) (open_items p cs c j) (open_items p cs (c ++ l ∷ []) line) rest opens (literal_is_word l.negative l.var small)
    (ap (λ k. after_word h line k (open_items p cs c j)) (literal_kind l.negative l.var some small) ∙ literal_taken h p cs c j l.negative l.var line few some below room fewer)

-- the literals of a clause, and its end
literals_run : (h : Header) (hs : HeaderSeen) (line : ℕ) (p : List Bound) (cs : List (List Lit)) (rest : List ℕ) → h.vars ≤ 65535 → length cs < h.clauses
    → (ls c : List Lit) (j : ℕ) (mode : Mode) → Opens mode → Below h.vars ls → sum_by length cs + length c + length ls ≤ 1048576
    → after_bytes (reading h hs line mode (open_items p cs c j)) (flat_map literal_text ls ++ (48 ∷ 10 ∷ rest)) ≡ after_bytes (reading h hs (line + 1) Start (open_items p (cs ++ (c ++ ls) ∷ []) [] line)) rest
literals_run h hs line p cs rest few room [] c j mode opens below most =
    word_line h hs line mode (48 ∷ []) (open_items p cs c j) (open_items p (cs ++ c ∷ []) [] line) rest opens (refl, refl, refl) (end_taken h p cs c j line room)
    ∙ ap (λ d. after_bytes (reading h hs (line + 1) Start (open_items p (cs ++ d ∷ []) [] line)) rest) (sym (append-nil c))
literals_run h hs line p cs rest few room (l ∷ ls) c j mode opens below most =
    let fewer : sum_by length cs + length c < 1048576 = omega arith in
    let most' : sum_by length cs + length (c ++ l ∷ []) + length ls ≤ 1048576 = omega (arith, most, length-append c (l ∷ [])) in
    ap (after_bytes (reading h hs line mode (open_items p cs c j))) (append_assoc (literal_text l) (flat_map literal_text ls) (48 ∷ 10 ∷ rest))
    ∙ literal_run h hs line mode p cs c j l (flat_map literal_text ls ++ (48 ∷ 10 ∷ rest)) opens few below.0 below.1 room fewer
    ∙ literals_run h hs line p cs rest few room ls (c ++ l ∷ []) line Text tt below.2 most'
    ∙ ap (λ d. after_bytes (reading h hs (line + 1) Start (open_items p (cs ++ d ∷ []) [] line)) rest) (append_assoc c (l ∷ []) ls)

abbrev pub AllBelow : ℕ → List (List Lit) → Type 0
AllBelow n [] = Unit {0}
AllBelow n (c ∷ cs) = Below n c × AllBelow n cs

-- the line of a clause
clause_run : (h : Header) (hs : HeaderSeen) (line : ℕ) (p : List Bound) (cs : List (List Lit)) (c : List Lit) (j : ℕ) (rest : List ℕ) → h.vars ≤ 65535 → length cs < h.clauses → Below h.vars c → sum_by length cs + 0 + length c ≤ 1048576
    → after_bytes (reading h hs line Start (open_items p cs [] j)) (clause_text c ++ rest) ≡ after_bytes (reading h hs (line + 1) Start (open_items p (cs ++ c ∷ []) [] line)) rest
clause_run h hs line p cs c j rest few room below most =
    ap (after_bytes (reading h hs line Start (open_items p cs [] j)))
    (append_assoc (flat_map literal_text c ++ 48 ∷ []) (10 ∷ []) rest ∙ append_assoc (flat_map literal_text c) (48 ∷ []) (10 ∷ rest))
    ∙ literals_run h hs line p cs rest few room c [] j Start tt below most

-- the clauses
pub clauses_run : (h : Header) (hs : HeaderSeen) (p : List Bound) → h.vars ≤ 65535 → (more cs : List (List Lit)) (line j : ℕ) → AllBelow h.vars more → length cs + length more ≤ h.clauses
    → sum_by length cs + sum_by length more ≤ 1048576
    → (line' : ℕ) × (j' : ℕ) × (after_bytes (reading h hs line Start (open_items p cs [] j)) (flat_map clause_text more) ≡ Ok (reading h hs line' Start (open_items p (cs ++ more) [] j')))
clauses_run h hs p few [] cs line j below count most =
    (line, j, ap (λ ds. let r : Result Machine ReadError = Ok (reading h hs line Start (open_items p ds [] j)) in r) (sym (append-nil cs)))
clauses_run h hs p few (c ∷ more) cs line j below count most =
    let rest = flat_map clause_text more in
    let room : length cs < h.clauses = omega arith in
    let first : sum_by length cs + 0 + length c ≤ 1048576 = omega (arith, most, sum_by-cons length c more) in
    let count' : length (cs ++ c ∷ []) + length more ≤ h.clauses = omega (arith, count, length-append cs (c ∷ [])) in
    let most' : sum_by length (cs ++ c ∷ []) + sum_by length more ≤ 1048576 = omega (arith, most, sum_by-cons length c more, sum_by-append length cs (c ∷ [])) in
    let r = clauses_run h hs p few more (cs ++ c ∷ []) (line + 1) line below.1 count' most' in (
      r.0,
      r.1,
      clause_run h hs line p cs c j rest few room below.0 first
          ∙ r.2
          ∙ ap (λ ds. let r : Result Machine ReadError = Ok (reading h hs r.0 Start (open_items p ds [] r.1)) in r) (append_assoc cs (c ∷ []) more),
    )

-- sets
abbrev place_in : Option Quant → Place
place_in None = Between
place_in (Some q) = InSet q

abbrev mode_in : Option Quant → Mode
mode_in None = Start
mode_in (Some q) = Text

abbrev pub set_items : Option Quant → List Bound → ℕ → Items
set_items current p line = record { place = place_in current; sets = p; clauses = []; clause = []; line = line }

bound_taken : (h : Header) (q : Quant) (p : List Bound) (j v line : ℕ) → h.vars ≤ 65535 → 0 < v → v ≤ h.vars → is_bound p v ≡ false
    → after_word h line (Number false v) (set_items (Some q) p j) ≡ Ok (set_items (Some q) (p ++ record { quant = q; var = v } ∷ []) line)
bound_taken h q p j v line few some below fresh =
    let s = set_items (Some q) p j in
    let small : v ≤ 2147483647 = omega arith in
    let joined : Items = set_items (Some q) (p ++ record { quant = q; var = v } ∷ []) line in
    ap (λ t. cond t (Err (errors.NumberTooLarge line)) (in_set h q false v line s)) (le-ltb 2147483647 v small)
    ∙ ap (λ t. cond t (Ok (record s { place = Between; line = line })) (cond (nat_lt h.vars v) (Err (errors.VariableTooLarge line)) (cond (is_bound p v) (Err (errors.BoundTwice line)) (Ok joined)))) (not_zero v some)
    ∙ ap (λ t. cond t (Err (errors.VariableTooLarge line)) (cond (is_bound p v) (Err (errors.BoundTwice line)) (Ok joined))) (le-ltb h.vars v below)
    ∙ ap (λ t. cond t (Err (errors.BoundTwice line)) (Ok joined)) fresh

begin_run : (h : Header) (hs : HeaderSeen) (line : ℕ) (q : Quant) (p : List Bound) (j : ℕ) (rest : List ℕ)
    → after_bytes (reading h hs line Start (set_items None p j)) (quant_text q ++ rest) ≡ after_bytes (reading h hs line Text (set_items (Some q) p line)) rest
begin_run h hs line Exists p j rest = word_space h hs line Start (101 ∷ []) (set_items None p j) (set_items (Some Exists) p line) rest tt (refl, refl, refl) refl
begin_run h hs line Forall p j rest = word_space h hs line Start (97 ∷ []) (set_items None p j) (set_items (Some Forall) p line) rest tt (refl, refl, refl) refl

set_ended : (h : Header) (hs : HeaderSeen) (line : ℕ) (q : Quant) (p : List Bound) (j : ℕ) (rest : List ℕ)
    → after_bytes (reading h hs line Text (set_items (Some q) p j)) (48 ∷ 10 ∷ rest) ≡ after_bytes (reading h hs (line + 1) Start (set_items None p line)) rest
set_ended h hs line q p j rest = word_line h hs line Text (48 ∷ []) (set_items (Some q) p j) (set_items None p line) rest tt (refl, refl, refl) refl

start_run : (h : Header) (hs : HeaderSeen) (current : Option Quant) (q : Quant) (line : ℕ) (p : List Bound) (j : ℕ) (rest : List ℕ)
    → (line' : ℕ) × (j' : ℕ) × (after_bytes (reading h hs line (mode_in current) (set_items current p j)) (start_text current q ++ rest) ≡ after_bytes (reading h hs line' Text (set_items (Some q) p j')) rest)
start_run h hs None q line p j rest = (line, line, begin_run h hs line q p j rest)
start_run h hs (Some Exists) Exists line p j rest = (line, j, refl)
start_run h hs (Some Forall) Forall line p j rest = (line, j, refl)
start_run h hs (Some Exists) Forall line p j rest = (line + 1, line + 1, set_ended h hs line Exists p j (quant_text Forall ++ rest) ∙ begin_run h hs (line + 1) Forall p line rest)
start_run h hs (Some Forall) Exists line p j rest = (line + 1, line + 1, set_ended h hs line Forall p j (quant_text Exists ++ rest) ∙ begin_run h hs (line + 1) Exists p line rest)

-- the variable of an entry is bound by none before
fresh_at : (p : List Bound) (b : Bound) (more : List Bound) → are_distinct (p ++ b ∷ more) ≡ true → is_bound p b.var ≡ false
fresh_at [] b more distinct = refl
fresh_at (x ∷ p) b more distinct =
    let d = and_parts (not (is_bound (p ++ b ∷ more) x.var)) (are_distinct (p ++ b ∷ more)) distinct in
    let apart : (x.var == b.var) ≡ false = here x.var p b more (not-true (is_bound (p ++ b ∷ more) x.var) d.0) in
    ap (λ t. t || is_bound p b.var) apart ∙ fresh_at p b more d.1
  where
    or_parts : (a c : Bool) → (a || c) ≡ false → (a ≡ false) × (c ≡ false)
    or_parts true c h = absurd (both_ways true h refl)
    or_parts false c h = (refl, h)

    here : (v : ℕ) (p : List Bound) (b : Bound) (more : List Bound) → is_bound (p ++ b ∷ more) v ≡ false → (v == b.var) ≡ false
    here v [] b more h =
        elim (cases_Bool (v == b.var)) [
          | inl same ↦ absurd (both_ways (b.var == v) ((or_parts (b.var == v) (is_bound more v) h).0) (ap (λ u. b.var == u) (eqb-true v b.var same) ∙ eq-eqb b.var b.var refl))
          | inr other ↦ other
        ]
    here v (y ∷ p) b more h = here v p b more ((or_parts (y.var == v) (is_bound (p ++ b ∷ more) v) h).1)

-- the prefix
pub prefix_run : (h : Header) (hs : HeaderSeen) → h.vars ≤ 65535 → (bounds : List Bound) (current : Option Quant) (p : List Bound) (line j : ℕ) (rest : List ℕ) → are_in_range h.vars bounds ≡ true → are_distinct (p ++ bounds) ≡ true
    → (line' : ℕ) × (j' : ℕ) × (after_bytes (reading h hs line (mode_in current) (set_items current p j)) (prefix_left current bounds ++ rest) ≡ after_bytes (reading h hs line' Start (set_items None (p ++ bounds) j')) rest)
prefix_run h hs few [] None p line j rest range distinct = (line, j, ap (λ d. after_bytes (reading h hs line Start (set_items None d j)) rest) (sym (append-nil p)))
prefix_run h hs few [] (Some q) p line j rest range distinct =
    (line + 1, line, set_ended h hs line q p j rest ∙ ap (λ d. after_bytes (reading h hs (line + 1) Start (set_items None d line)) rest) (sym (append-nil p)))
prefix_run h hs few (b ∷ bounds) current p line j rest range distinct =
    let r = and_parts (nat_lt 0 b.var && nat_le b.var h.vars) (are_in_range h.vars bounds) range in
    let here = and_parts (nat_lt 0 b.var) (nat_le b.var h.vars) r.0 in
    let some : 0 < b.var = ltb-true 0 b.var here.0 in
    let below : b.var ≤ h.vars = leb-true b.var h.vars here.1 in
    let small : b.var ≤ 2147483647 = omega arith in
    let left = prefix_left (Some b.quant) bounds in
    let s = start_run h hs current b.quant line p j (var_text b.var ++ (left ++ rest)) in
    let n = prefix_run h hs few bounds (Some b.quant) (p ++ b ∷ []) s.0 s.0 rest r.1 (ap are_distinct (append_assoc p (b ∷ []) bounds) ∙ distinct) in (
      n.0,
      n.1,
      ap (after_bytes (reading h hs line (mode_in current) (set_items current p j)))
          (append_assoc (start_text current b.quant ++ var_text b.var) left rest ∙ append_assoc (start_text current b.quant) (var_text b.var) (left ++ rest))
          ∙ s.2
          ∙ ap (after_bytes (reading h hs s.0 Text (set_items (Some b.quant) p s.1))) (append_assoc (decimal b.var) (32 ∷ []) (left ++ rest))
          ∙ word_space h hs s.0 Text (decimal b.var) (set_items (Some b.quant) p s.1) (set_items (Some b.quant) (p ++ b ∷ []) s.0) (left ++ rest) tt (decimal_word b.var small)
          (ap (λ k. after_word h s.0 k (set_items (Some b.quant) p s.1)) (decimal_kind b.var small) ∙ bound_taken h b.quant p s.1 b.var s.0 few some below (fresh_at p b bounds distinct))
          ∙ n.2
          ∙ ap (λ d. after_bytes (reading h hs n.0 Start (set_items None d n.1)) rest) (append_assoc p (b ∷ []) bounds),
    )

-- the problem line so far
abbrev front : HeaderSeen → Machine
front hs = record start { mode = Text; header = hs }

front_taken : (hs : HeaderSeen) (w : List ℕ) → IsWord w → word_ended (dressed Text (seen_of seen.Nothing w) (front hs)) ≡ Ok (front (header_with hs (seen_of seen.Nothing w)))
front_taken hs w is =
    ap (λ c. cond c (Ok (dressed Text (seen_of seen.Nothing w) (front hs))) (word_taken None (seen_of seen.Nothing w) (front hs))) (some_word w is)

seen_decimal : (n : ℕ) → n ≤ 2147483647 → (w : List ℕ) → w ≡ decimal n → plain_seen (seen_of seen.Nothing w) ≡ Some n
seen_decimal n small [] is = absurd (let some : 0 < length (decimal n) = decimal_nonempty n (wide n small) in omega (arith, some, ap length is))
seen_decimal n small (b ∷ w) is =
    let e : capped n ≡ n = omega arith in
    plain_seen_of (b ∷ w) refl ∙ ap (λ ds. option_map capped (plain_number ds)) is ∙ ap (option_map capped) (plain_decimal n small) ∙ ap Some e

limits_fine : (v c : ℕ) → v ≤ 65535 → c ≤ 1048576 → within_limits 1 v c ≡ Ok (record { vars = v; clauses = c })
limits_fine v c few few_clauses =
    let small : v ≤ 2147483647 = omega arith in
    let small_count : c ≤ 2147483647 = omega arith in
    let fine : Result Header ReadError = Ok (record { vars = v; clauses = c }) in
    let rest : Result Header ReadError = cond (nat_lt 65535 v) (Err (errors.TooManyVariables 1)) (cond (nat_lt 1048576 c) (Err (errors.ClauseLimit 1)) fine) in
    ap (λ t. cond (t || nat_lt 2147483647 c) (Err (errors.NumberTooLarge 1)) rest) (le-ltb 2147483647 v small)
    ∙ ap (λ t. cond t (Err (errors.NumberTooLarge 1)) rest) (le-ltb 2147483647 c small_count)
    ∙ ap (λ t. cond t (Err (errors.TooManyVariables 1)) (cond (nat_lt 1048576 c) (Err (errors.ClauseLimit 1)) fine)) (le-ltb 65535 v few)
    ∙ ap (λ t. cond t (Err (errors.ClauseLimit 1)) fine) (le-ltb 1048576 c few_clauses)

abbrev pub header_for : PrenexFormula → Header
header_for f = record { vars = f.vars; clauses = length f.clauses }

pub header_run : (f : PrenexFormula) (rest : List ℕ) → f.vars ≤ 65535 → length f.clauses ≤ 1048576
    → after_bytes start (header_text f ++ rest) ≡ after_bytes (reading (header_for f) (headers.Both f.vars (length f.clauses)) 2 Start (set_items None [] 1)) rest
header_run f rest few few_clauses =
    let vars = decimal f.vars in
    let count = decimal (length f.clauses) in
    let small : f.vars ≤ 2147483647 = omega arith in
    let small_count : length f.clauses ≤ 2147483647 = omega arith in
    let both = headers.Both f.vars (length f.clauses) in
    ap (after_bytes start)
    (append_assoc (codes "p cnf " ++ vars ++ 32 ∷ [] ++ count) (10 ∷ []) rest ∙ append_assoc (codes "p cnf " ++ vars ++ 32 ∷ []) count (10 ∷ rest)
    ∙ append_assoc (codes "p cnf " ++ vars) (32 ∷ []) (count ++ (10 ∷ rest)) ∙ append_assoc (codes "p cnf ") vars (32 ∷ (count ++ (10 ∷ rest))))
    ∙ word_in vars Text (front headers.Cnf) (32 ∷ (count ++ (10 ∷ rest))) tt (decimal_word f.vars small)
    ∙ ap (λ r. r >>= (λ m. after_bytes m (count ++ (10 ∷ rest)))) (front_taken headers.Cnf vars (decimal_word f.vars small))
    ∙ ap (λ o. after_bytes (front (vars_seen o)) (count ++ (10 ∷ rest))) (seen_decimal f.vars small vars refl)
    ∙ word_in count Text (front (headers.Vars f.vars)) (10 ∷ rest) tt (decimal_word (length f.clauses) small_count)
    ∙ ap (λ r. ((r >>= (λ n. header_ended n.problem n)) >>= (λ n. Ok (next_line n))) >>= (λ m. after_bytes m rest)) (front_taken (headers.Vars f.vars) count (decimal_word (length f.clauses) small_count))
    ∙ ap (λ o. ((header_ended None (front (both_seen f.vars o))) >>= (λ n. Ok (next_line n))) >>= (λ m. after_bytes m rest)) (seen_decimal (length f.clauses) small_count count refl)
    ∙ ap (λ r. ((with_problem (front both) (some_header r)) >>= (λ n. Ok (next_line n))) >>= (λ m. after_bytes m rest)) (limits_fine f.vars (length f.clauses) few few_clauses)
