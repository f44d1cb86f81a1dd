-- The commands, and which arguments (words) they take.
use Rattle.std.specs.Prelude.{Bool, true, false, if◌then◌else◌, List, [], ◌∷◌, fold, codes, map, Option, Some, None}
use Rattle.std.specs.Option.{option_zip}
use Rattle.clap.specs.Words.{App, Row, Rule, Text, Kinds, new_app, new_rule, with_rule, fault_of, first_of, matches_of}
use Rattle.clap.specs.declared.builder.ArgAction.TheVariants.{Set, SetTrue}
use Rattle.blic_words.specs.declared.options.Options.{Options}
use Rattle.blic_words.specs.Options.{options_of}

-- a command: its name, the names of its operands in their order, its options with one value each, and its flags
pub record Form : Type 0 where
  pub name : Text
  pub operands : List Text
  pub options : List Text
  pub flags : List Text

-- solve FILE --nodes N --pairs P
abbrev pub solve : Form
solve = record { name = codes "solve"; operands = codes "FILE" ∷ []; options = codes "nodes" ∷ codes "pairs" ∷ []; flags = [] }

-- certify FILE --nodes N --pairs P --seed HEX --repeat K --talk
abbrev pub certify : Form
certify = record { name = codes "certify"; operands = codes "FILE" ∷ []; options = codes "nodes" ∷ codes "pairs" ∷ codes "seed" ∷ codes "repeat" ∷ []; flags = codes "talk" ∷ [] }

-- verify FILE ADDR --seed HEX --repeat K --talk
abbrev pub verify : Form
verify = record { name = codes "verify"; operands = codes "FILE" ∷ codes "ADDR" ∷ []; options = codes "seed" ∷ codes "repeat" ∷ []; flags = codes "talk" ∷ [] }

-- exercise N --seed HEX
abbrev pub exercise : Form
exercise = record { name = codes "exercise"; operands = codes "N" ∷ []; options = codes "seed" ∷ []; flags = [] }

-- an operand, an argument that has to be given
abbrev pub required_word : Text → Rule
required_word id = record (new_rule id) { required = true; action = Some Set }

-- an option by its long name, with one value
abbrev pub option_word : Text → Rule
option_word id = record (new_rule id) { long = Some id; action = Some Set }

-- a flag by its long name
abbrev pub flag_word : Text → Rule
flag_word id = record (new_rule id) { long = Some id; action = Some SetTrue }

-- the command as `clap` is told
abbrev pub app_of_form : Form → App
app_of_form form =
    fold with_rule (fold with_rule (fold with_rule (new_app form.name) (map required_word form.operands)) (map option_word form.options)) (map flag_word form.flags)

abbrev pub is_free_of_faults : Kinds → Bool
is_free_of_faults [] = true
is_free_of_faults (kind ∷ kinds) = false

abbrev pub text_before : Option Text → Option (List Text) → Option (List Text)
text_before (Some text) (Some texts) = Some (text ∷ texts)
text_before _ _ = None

-- the texts that were given under the operands' names, in their order, if all were
abbrev pub texts_of : List Text → List Row → Option (List Text)
texts_of [] given = Some []
texts_of (operand ∷ operands) given = text_before (first_of operand given) (texts_of operands given)

-- the operands' texts and the options, if the command takes the arguments and the options' values are in their ranges
unfoldable pub given_of : App → List Text → List Text → Option (List Text × Options)
given_of app operands words =
    let rows = matches_of app words in
    if is_free_of_faults (fault_of app words) then option_zip (texts_of operands rows) (options_of rows) else None
