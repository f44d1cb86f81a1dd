-- What the arguments (words) of the command line ask for.
use Rattle.std.specs.Prelude.{ℕ, ◌≤◌, ◌==◌, Bool, false, if◌then◌else◌, List, [], ◌∷◌, codes, bytes_eq, Option, Some, None, option_map, option_and_then}
use Rattle.clap.specs.Words.{Text}
use Rattle.blic_words.specs.declared.options.Options.{Options}
use Rattle.blic_words.specs.declared.request.Request.{Request as RequestValue}
use Rattle.blic_words.specs.declared.request.Request.TheVariants.{Solve as SolveValue, Certify as CertifyValue, Verify as VerifyValue, Exercise as ExerciseValue}
use Rattle.blic_words.specs.Options.{number_in}
use Rattle.blic_words.specs.Commands.{Form, solve, certify, verify, exercise, app_of_form, given_of}

-- a file to solve, a file to certify, a file that a prover at an address is to certify, or a number of pairs of variables whose formulas are certified, and the options
pub data Request : Type 0 where
  Solve : Text → Options → Request
  Certify : Text → Options → Request
  Verify : Text → Text → Options → Request
  Exercise : ℕ → Options → Request

-- the request that a value stands for
abbrev pub request_by : RequestValue → Request
request_by (SolveValue file options) = Solve file.now options
request_by (CertifyValue file options) = Certify file.now options
request_by (VerifyValue file address options) = Verify file.now address.now options
request_by (ExerciseValue pairs options) = Exercise pairs options

abbrev pub solve_asked : List Text → Options → Option Request
solve_asked (file ∷ []) options = Some (Solve file options)
solve_asked _ options = None

abbrev pub certify_asked : List Text → Options → Option Request
certify_asked (file ∷ []) options = Some (Certify file options)
certify_asked _ options = None

abbrev pub verify_asked : List Text → Options → Option Request
verify_asked (file ∷ address ∷ []) options = Some (Verify file address options)
verify_asked _ options = None

-- N is from 1 to 500
abbrev pub exercise_asked : List Text → Options → Option Request
exercise_asked (number ∷ []) options = option_map (λ n. Exercise n options) (number_in 1 500 number)
exercise_asked _ options = None

-- what the arguments of a command ask for, by the operands' texts and the options
abbrev pub asked : Form → (List Text → Options → Option Request) → List Text → Option Request
asked form ask words = option_and_then (λ given. ask given.0 given.1) (given_of (app_of_form form) form.operands words)

-- the first argument names the command; no other arguments fit
abbrev pub request_of : List Text → Option Request
request_of [] = None
request_of (name ∷ words) =
    if bytes_eq name (codes "solve") then asked solve solve_asked (name ∷ words)
    else if bytes_eq name (codes "certify") then asked certify certify_asked (name ∷ words)
    else if bytes_eq name (codes "verify") then asked verify verify_asked (name ∷ words)
    else if bytes_eq name (codes "exercise") then asked exercise exercise_asked (name ∷ words)
    else None

abbrev pub begins_with_hyphen : Text → Bool
begins_with_hyphen [] = false
begins_with_hyphen (byte ∷ bytes) = byte == 45

abbrev pub HasLimits : Options → Type 0
HasLimits options = (1 ≤ options.nodes) × (options.nodes ≤ 16777216) × (1 ≤ options.pairs) × (options.pairs ≤ 33554432)

abbrev pub HasRepeat : Options → Type 0
HasRepeat options = (1 ≤ options.repeat) × (options.repeat ≤ 1000)

-- the numbers are in their ranges
abbrev pub IsInRange : Request → Type 0
IsInRange (Solve file options) = HasLimits options
IsInRange (Certify file options) = HasLimits options × HasRepeat options
IsInRange (Verify file address options) = HasRepeat options
IsInRange (Exercise pairs options) = (1 ≤ pairs) × (pairs ≤ 500)
