-- The numbers of a request are in the ranges of its command.
use Rattle.std.proofs.Common.{arith, ◌≡◌, ◌≤◌, ℕ, List, [], ◌∷◌, Bool, true, false, Option, None, Some, refl, codes, sym, subst, if◌then◌else◌}
use Rattle.std.specs.Prelude.{IfSome, bytes_eq, option_and_then, option_map}
use Rattle.std.specs.Option.{option_zip}
use Rattle.clap.specs.Words.{App, Row, Text, fault_of, first_of, matches_of}
use Rattle.blic_words.specs.declared.options.Options.{Options}
use Rattle.blic_words.specs.declared.request.Request.{Request as RequestValue}
use Rattle.blic_words.specs.Commands.{Form, app_of_form, given_of, certify, exercise, is_free_of_faults, solve, texts_of, verify}
use Rattle.blic_words.specs.Options.{all_of, is_set, number_in, number_or, options_of, seed_or}
use Rattle.blic_words.specs.Requests.{HasLimits, HasRepeat, IsInRange, Exercise, Request, asked, certify_asked, exercise_asked, request_by, request_of, solve_asked, verify_asked}
use Rattle.blic_words.proofs.Numbers.{number_range}

-- an option's number, too
or_range : (default low high : ℕ) (text : Option Text) (n : ℕ) → low ≤ default → default ≤ high → number_or default low high text ≡ Some n → (low ≤ n) × (n ≤ high)
or_range default low high None n least most is = let same : default ≡ n = cc in (omega arith, omega arith)
or_range default low high (Some text) n least most is = number_range low high text n is

numbers_of : (n p : Option ℕ) (s : Option (Option (List ℕ))) (k : Option ℕ) (t : Bool) (o : Options) → all_of n p s k t ≡ Some o
    → (n ≡ Some o.nodes) × (p ≡ Some o.pairs) × (k ≡ Some o.repeat)
numbers_of None p s k t o is = absurd cc
numbers_of (Some n) None s k t o is = absurd cc
numbers_of (Some n) (Some p) None k t o is = absurd cc
numbers_of (Some n) (Some p) (Some s) None t o is = absurd cc
numbers_of (Some n) (Some p) (Some s) (Some k) t o is = (cc, cc, cc)

rows_range : (rows : List Row) (o : Options) → options_of rows ≡ Some o → HasLimits o × HasRepeat o
rows_range rows o is =
    let nodes = first_of (codes "nodes") rows in
    let pairs = first_of (codes "pairs") rows in
    let repeats = first_of (codes "repeat") rows in
    let w =
    numbers_of (number_or 4194304 1 16777216 nodes) (number_or 16777216 1 33554432 pairs) (seed_or None (first_of (codes "seed") rows)) (number_or 1 1 1000 repeats) (is_set false (first_of (codes "talk") rows)) o is in
    let a = or_range 4194304 1 16777216 nodes o.nodes (omega arith) (omega arith) w.0 in
    let b = or_range 16777216 1 33554432 pairs o.pairs (omega arith) (omega arith) w.1 in
    ((a.0, a.1, b.0, b.1), or_range 1 1 1000 repeats o.repeat (omega arith) (omega arith) w.2)

zipped : (free : Bool) (x : Option (List Text)) (options : Option Options) (g : List Text × Options) → (if free then option_zip x options else None) ≡ Some g → options ≡ Some g.1
zipped false x options g is = absurd cc
zipped true None options g is = absurd cc
zipped true (Some x) None g is = absurd cc
zipped true (Some x) (Some o) g is = cc

abbrev HasRanges : Option (List Text × Options) → Type 0
HasRanges given = (g : List Text × Options) → given ≡ Some g → HasLimits g.1 × HasRepeat g.1

given_range : (app : App) (operands : List Text) (words : List Text) → HasRanges (given_of app operands words)
unfolding given_of
given_range app operands words g is =
    let rows = matches_of app words in
    rows_range rows g.1
    (zipped (is_free_of_faults (fault_of app words)) (texts_of operands rows) (options_of rows) g is)

-- what a command makes of options in their ranges is in the ranges
abbrev KeepsRanges : (List Text → Options → Option Request) → Type 0
KeepsRanges ask = (texts : List Text) (o : Options) → HasLimits o × HasRepeat o → IfSome (ask texts o) IsInRange

solve_keeps : KeepsRanges solve_asked
solve_keeps [] o h = tt
solve_keeps (file ∷ []) o h = h.0
solve_keeps (file ∷ t ∷ ts) o h = tt

certify_keeps : KeepsRanges certify_asked
certify_keeps [] o h = tt
certify_keeps (file ∷ []) o h = h
certify_keeps (file ∷ t ∷ ts) o h = tt

verify_keeps : KeepsRanges verify_asked
verify_keeps [] o h = tt
verify_keeps (file ∷ []) o h = tt
verify_keeps (file ∷ address ∷ []) o h = h.1
verify_keeps (file ∷ address ∷ t ∷ ts) o h = tt

exercise_keeps : KeepsRanges exercise_asked
exercise_keeps [] o h = tt
exercise_keeps (text ∷ []) o h = found (number_in 1 500 text) refl
  where
    found : (n : Option ℕ) → number_in 1 500 text ≡ n → IfSome (option_map (λ k. Exercise k o) (number_in 1 500 text)) IsInRange
    found None is = subst (λ n. IfSome (option_map (λ k. Exercise k o) n) IsInRange) (sym is) tt
    found (Some n) is = subst (λ n. IfSome (option_map (λ k. Exercise k o) n) IsInRange) (sym is) (number_range 1 500 text n is)
exercise_keeps (text ∷ t ∷ ts) o h = tt

asked_range : (form : Form) (ask : List Text → Options → Option Request) (words : List Text) (r : Request) → KeepsRanges ask → asked form ask words ≡ Some r → IsInRange r
asked_range form ask words r keeps is = with (given_of (app_of_form form) form.operands words) (given_range (app_of_form form) form.operands words) is
  where
    with : (given : Option (List Text × Options)) → HasRanges given → option_and_then (λ g. ask g.0 g.1) given ≡ Some r → IsInRange r
    with None h is = absurd cc
    with (Some g) h is = subst (λ o. IfSome o IsInRange) is (keeps g.0 g.1 (h g refl))

abbrev IsKept : Option Request → Request → Type 0
IsKept o r = o ≡ Some r → IsInRange r

chosen : (a b c d : Bool) (s t u v : Option Request) (r : Request) → IsKept s r → IsKept t r → IsKept u r → IsKept v r
    → IsKept (if a then s else if b then t else if c then u else if d then v else None) r
chosen true b c d s t u v r hs ht hu hv is = hs is
chosen false true c d s t u v r hs ht hu hv is = ht is
chosen false false true d s t u v r hs ht hu hv is = hu is
chosen false false false true s t u v r hs ht hu hv is = hv is
chosen false false false false s t u v r hs ht hu hv is = absurd cc

request_range : (words : List Text) (r : Request) → IsKept (request_of words) r
request_range [] r is = absurd cc
request_range (name ∷ rest) r is =
    let words = name ∷ rest in
    chosen (bytes_eq name (codes "solve")) (bytes_eq name (codes "certify")) (bytes_eq name (codes "verify")) (bytes_eq name (codes "exercise"))
    (asked solve solve_asked words) (asked certify certify_asked words) (asked verify verify_asked words) (asked exercise exercise_asked words) r
    (asked_range solve solve_asked words r solve_keeps)
    (asked_range certify certify_asked words r certify_keeps)
    (asked_range verify verify_asked words r verify_keeps)
    (asked_range exercise exercise_asked words r exercise_keeps) is

pub value_range : (asked : Option RequestValue) (words : List Text) → option_map request_by asked ≡ request_of words → IfSome asked (λ r. IsInRange (request_by r))
value_range None words is = tt
value_range (Some r) words is = request_range words (request_by r) (sym is)
