-- From what `clap` says of a parse to what the words ask for.
use Rattle.std.proofs.Common.{◌≡◌, ap, ap₂, None, Some, if◌then◌else◌, List, [], ◌∷◌, ◌++◌, ◌+◌, ◌<◌, ◌≤◌, ℕ, drop, get_or, length, map, sym, Option, refl, ◌∙◌, Bool, true, false, ◌&&◌, inl, inr}
use Rattle.std.specs.Prelude.{Vec, option_map, option_and_then}
use Rattle.std.specs.Global.{Global}
use Rattle.std.specs.Option.{option_zip}
use Rattle.std.proofs.lemmas.List.{append-nil, append_assoc, drop_all, drop_more, map-append}
use Rattle.std.specs.Borrow.{Bor}
use Rattle.clap.specs.Words.{App, Row, Text, Kinds, HasKind, fault_of, first_of, matches_of, rows_of, found_of, is_simple_and_free, is_simple, HasMatchesOf, kind_of}
use Rattle.clap.specs.declared.parser.matches.ArgMatches.{ArgMatches}
use Rattle.clap.specs.declared.error.Error.{Error}
use Rattle.clap.specs.declared.error.ErrorKind.{ErrorKind}
use Rattle.clap.specs.declared.error.ErrorKind.TheVariants.{OutOfMemory}
use Rattle.blic_words.specs.declared.options.Options.{Options}
use Rattle.blic_words.specs.Options.{options_of}
use Rattle.blic_words.specs.Commands.{Form, app_of_form, given_of, is_free_of_faults, text_before, texts_of}
use Rattle.blic_words.specs.Requests.{Request, asked}

both_left : (a b : Bool) → (a && b) ≡ true → a ≡ true
both_left true b both = refl
both_left false b both = both

-- a parse that succeeds has the rows of the words
pub taken_rows : (app : App) (words : List Text) (m : ArgMatches) → is_simple_and_free app ≡ true → HasMatchesOf app words m → rows_of (found_of m) ≡ matches_of app words
taken_rows app words m free has = (has (both_left (is_simple app) _ free)).0

-- a parse that fails for another cause than memory has a fault
pub not_taken : (kinds : Kinds) (e : Error) (kind : ErrorKind) → kind ≡ kind_of e → (kind ≡ OutOfMemory → ⊥) → HasKind kinds e → false ≡ is_free_of_faults kinds
not_taken [] e kind same other has = elim has [ inl memory ↦ absurd (other (same ∙ memory)) | inr among ↦ absurd among ]
not_taken (k ∷ ks) e kind same other has = refl

-- the texts that are given, by those so far and those of the operands that are left
abbrev pub joined : List Text → Option (List Text) → Option (List Text)
joined texts left = option_map (λ rest. texts ++ rest) left

joined_more : (texts : List Text) (text : Text) (left : Option (List Text)) → joined texts (text_before (Some text) left) ≡ joined (texts ++ text ∷ []) left
joined_more texts text None = refl
joined_more texts text (Some rest) = ap Some (sym (append_assoc texts (text ∷ []) rest))

pub joined_none : (left : Option (List Text)) → left ≡ joined [] left
joined_none None = refl
joined_none (Some rest) = refl

abbrev pub texts_now : List (Bor Text) → List Text
texts_now texts = map (λ t. t.now) texts

-- one more operand is given
pub texts_more : (rows : List Row) (operands : List (Bor Text)) (i : ℕ) (d text : Bor Text) (texts next : List (Bor Text)) → i < length operands
    → texts_of (texts_now operands) rows ≡ joined (texts_now texts) (texts_of (texts_now (drop i operands)) rows)
    → Some text.now ≡ first_of (get_or operands i d).now rows → next ≡ texts ++ text ∷ []
    → texts_of (texts_now operands) rows ≡ joined (texts_now next) (texts_of (texts_now (drop (i + 1) operands)) rows)
texts_more rows operands i d text texts next l so_far first is =
    let left = texts_of (texts_now (drop (i + 1) operands)) rows in
    so_far
    ∙ ap (λ o. joined (texts_now texts) (texts_of (texts_now o) rows)) (drop_more operands i d l)
    ∙ ap (λ t. joined (texts_now texts) (text_before t left)) (sym first)
    ∙ joined_more (texts_now texts) text.now left
    ∙ ap (λ t. joined t left) (sym (map-append (λ t. t.now) texts (text ∷ [])))
    ∙ ap (λ t. joined (texts_now t) left) (sym is)

-- all operands are given
pub texts_all : (rows : List Row) (operands : List (Bor Text)) (i : ℕ) (texts : List (Bor Text)) → length operands ≤ i
    → texts_of (texts_now operands) rows ≡ joined (texts_now texts) (texts_of (texts_now (drop i operands)) rows) → Some (texts_now texts) ≡ texts_of (texts_now operands) rows
texts_all rows operands i texts l so_far =
    sym
    (so_far
    ∙ ap (λ o. joined (texts_now texts) (texts_of (texts_now o) rows)) (drop_all i operands l)
    ∙ ap Some (append-nil (texts_now texts)))

-- an operand isn't given
pub texts_none : (rows : List Row) (operands : List (Bor Text)) (i : ℕ) (d : Bor Text) (texts : List (Bor Text)) → i < length operands
    → texts_of (texts_now operands) rows ≡ joined (texts_now texts) (texts_of (texts_now (drop i operands)) rows)
    → None ≡ first_of (get_or operands i d).now rows → None ≡ texts_of (texts_now operands) rows
texts_none rows operands i d texts l so_far none =
    let left = texts_of (texts_now (drop (i + 1) operands)) rows in
    sym
    (so_far
    ∙ ap (λ o. joined (texts_now texts) (texts_of (texts_now o) rows)) (drop_more operands i d l)
    ∙ ap (λ t. joined (texts_now texts) (text_before t left)) (sym none))

-- the operands' texts and the options, by the values that a parse has of them
pub given_is : (app : App) (operands : List Text) (words : List Text) (m : ArgMatches) (texts : Option (Vec (Bor Text) Global)) (options : Option Options) (given : Option (Vec (Bor Text) Global × Options))
    → given ≡ option_zip texts options → option_map (λ t. texts_now t.items) texts ≡ texts_of operands (rows_of (found_of m)) → options ≡ options_of (rows_of (found_of m))
    → rows_of (found_of m) ≡ matches_of app words → true ≡ is_free_of_faults (fault_of app words)
    → option_map (λ g. (texts_now g.0.items, g.1)) given ≡ given_of app operands words
unfolding given_of
given_is app operands words m texts options given is is_texts is_options rows free =
    ap (option_map (λ g. (texts_now g.0.items, g.1))) is
    ∙ zip_now texts options
    ∙ ap₂ option_zip is_texts is_options
    ∙ ap (λ r. option_zip (texts_of operands r) (options_of r)) rows
    ∙ ap (λ b. if b then option_zip (texts_of operands (matches_of app words)) (options_of (matches_of app words)) else None) free
  where
    zip_now : (texts : Option (Vec (Bor Text) Global)) (options : Option Options) → option_map (λ g. (texts_now g.0.items, g.1)) (option_zip texts options) ≡ option_zip (option_map (λ t. texts_now t.items) texts) options
    zip_now None options = refl
    zip_now (Some x) None = refl
    zip_now (Some x) (Some o) = refl

-- none, where the command doesn't take the words
pub given_none : (app : App) (operands : List Text) (words : List Text) → false ≡ is_free_of_faults (fault_of app words) → None ≡ given_of app operands words
unfolding given_of
given_none app operands words faulty = ap (λ b. if b then option_zip (texts_of operands (matches_of app words)) (options_of (matches_of app words)) else None) faulty

-- what a command's words ask for
pub asked_is : (form : Form) (ask : List Text → Options → Option Request) (app : App) (words : List Text) (given : Option (Vec (Bor Text) Global × Options)) (taken : Option (Vec (Bor Text) Global × Options))
    → app ≡ app_of_form form → option_map (λ g. (texts_now g.0.items, g.1)) given ≡ given_of app form.operands words → given ≡ taken
    → option_and_then (λ g. ask (texts_now g.0.items) g.1) taken ≡ asked form ask words
asked_is form ask app words given taken is is_given same =
    ap (option_and_then (λ g. ask (texts_now g.0.items) g.1)) (sym same)
    ∙ map_now given
    ∙ ap (option_and_then (λ g. ask g.0 g.1)) (is_given ∙ ap (λ a. given_of a form.operands words) is)
  where
    map_now : (given : Option (Vec (Bor Text) Global × Options)) → option_and_then (λ g. ask (texts_now g.0.items) g.1) given ≡ option_and_then {T = List Text × Options} (λ g. ask g.0 g.1) (option_map (λ g. (texts_now g.0.items, g.1)) given)
    map_now None = refl
    map_now (Some g) = refl
