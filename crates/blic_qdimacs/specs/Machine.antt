-- The reader's machine, which takes byte after byte: only private contracts and proofs cite this.
use Rattle.std.specs.Prelude.{◌≡◌, ◌≢◌, ℕ, ◌+◌, ◌*◌, ◌-◌, ◌==◌, Bool, true, false, ◌&&◌, min, nat_le, if◌then◌else◌, List, [], ◌∷◌, length, take, Option, Some, None, Result, Ok, Err}
use Rattle.std.specs.Char.{is_ascii_digit}
use Rattle.blic_model.specs.declared.prefix.Quant.TheVariants.{Exists, Forall}
use Rattle.blic_qdimacs.specs.declared.error.ReadError.{ReadError}
use Rattle.blic_qdimacs.specs.declared.error.ReadError.TheVariants as errors
use Rattle.blic_qdimacs.specs.declared.seen.Seen.{Seen}
use Rattle.blic_qdimacs.specs.declared.seen.Seen.TheVariants as seen
use Rattle.blic_qdimacs.specs.declared.seen.HeaderSeen.{HeaderSeen}
use Rattle.blic_qdimacs.specs.declared.seen.HeaderSeen.TheVariants as headers
use Rattle.blic_qdimacs.specs.declared.items.Problem.{Problem}
use Rattle.blic_qdimacs.specs.declared.byte_reader.Mode.{Mode}
use Rattle.blic_qdimacs.specs.declared.byte_reader.Mode.TheVariants.{Start, Comment, Text}
use Rattle.blic_qdimacs.specs.declared.items.Place.TheVariants.{Between}
use Rattle.blic_model.specs.Formula.{PrenexFormula}
use Rattle.blic_qdimacs.specs.Binding.{◌>>=◌}
use Rattle.blic_qdimacs.specs.Header.{Header, within_limits}
use Rattle.blic_qdimacs.specs.Items.{Items, after_word}
use Rattle.blic_qdimacs.specs.Lines.{is_blank, is_line_end}
use Rattle.blic_qdimacs.specs.Meaning.{Read, at_end}
use Rattle.blic_qdimacs.specs.Words.{Kind, Letter, Number, Other}

-- the first byte of a word
abbrev pub first_seen : ℕ → Seen
first_seen b =
    if b == 101 then seen.Letter Exists else if b == 97 then seen.Letter Forall else if b == 112 then seen.P else if b == 99 then seen.C
    else if b == 45 then seen.Minus else if is_ascii_digit b then seen.Digits false (b - 48) else seen.Other

-- what is seen with one byte more; a value above the greatest stands as one above it
abbrev pub seen_with : Seen → ℕ → Seen
seen_with seen.Nothing b = first_seen b
seen_with seen.C b = if b == 110 then seen.Cn else seen.Other
seen_with seen.Cn b = if b == 102 then seen.Cnf else seen.Other
seen_with seen.Minus b = if is_ascii_digit b then seen.Digits true (b - 48) else seen.Other
seen_with (seen.Digits negative v) b = if is_ascii_digit b then seen.Digits negative (min (10 * v + (b - 48)) 2147483648) else seen.Other
seen_with (seen.Letter q) b = seen.Other
seen_with seen.P b = seen.Other
seen_with seen.Cnf b = seen.Other
seen_with seen.Other b = seen.Other

-- what was seen, as a word's kind
abbrev pub kind_seen : Seen → Kind
kind_seen (seen.Letter q) = Letter q
kind_seen (seen.Digits negative v) = if negative && v == 0 then Other else Number negative v
kind_seen seen.Nothing = Other
kind_seen seen.P = Other
kind_seen seen.C = Other
kind_seen seen.Cn = Other
kind_seen seen.Cnf = Other
kind_seen seen.Minus = Other
kind_seen seen.Other = Other

-- what was seen, as a plain number
abbrev pub plain_seen : Seen → Option ℕ
plain_seen (seen.Digits negative v) = if negative then None else Some v
plain_seen (seen.Letter q) = None
plain_seen seen.Nothing = None
plain_seen seen.P = None
plain_seen seen.C = None
plain_seen seen.Cn = None
plain_seen seen.Cnf = None
plain_seen seen.Minus = None
plain_seen seen.Other = None

abbrev pub is_p_seen : Seen → Bool
is_p_seen seen.P = true
is_p_seen _ = false

abbrev pub is_cnf_seen : Seen → Bool
is_cnf_seen seen.Cnf = true
is_cnf_seen _ = false

abbrev pub vars_seen : Option ℕ → HeaderSeen
vars_seen (Some v) = headers.Vars v
vars_seen None = headers.Bad

abbrev pub both_seen : ℕ → Option ℕ → HeaderSeen
both_seen vars (Some v) = headers.Both vars v
both_seen vars None = headers.Bad

-- the problem line with one word more
abbrev pub header_with : HeaderSeen → Seen → HeaderSeen
header_with headers.Empty w = if is_p_seen w then headers.P else headers.NotProblem
header_with headers.P w = if is_cnf_seen w then headers.Cnf else headers.Bad
header_with headers.Cnf w = vars_seen (plain_seen w)
header_with (headers.Vars vars) w = both_seen vars (plain_seen w)
header_with (headers.Both vars clauses) w = headers.Bad
header_with headers.NotProblem w = headers.NotProblem
header_with headers.Bad w = headers.Bad

abbrev pub header_of : Problem → Header
header_of p = record { vars = p.vars; clauses = p.clauses }

-- A step of the code is the step that is meant, unless memory runs out.
abbrev pub Steps : {A : Type 0} → Result (Unit {0}) ReadError → A → Result A ReadError → Type 0
Steps (Ok _) new step = step ≡ Ok new
Steps (Err e) new step = (e ≢ errors.Fault) × (e ≢ errors.NoMem → step ≡ Err e)

-- what the reader knows between two bytes
pub record Machine : Type 0 where
  pub line : ℕ
  pub mode : Mode
  pub word : Seen
  pub header : HeaderSeen
  pub problem : Option Header
  pub items : Items

abbrev pub is_nothing : Seen → Bool
is_nothing seen.Nothing = true
is_nothing _ = false

-- the machine, whose items took a word
abbrev pub with_items : Machine → Result Items ReadError → Result Machine ReadError
with_items m (Ok s) = Ok (record m { items = s })
with_items m (Err e) = Err e

-- before the problem line has ended a word is one of its words
abbrev pub word_taken : Option Header → Seen → Machine → Result Machine ReadError
word_taken None w m = Ok (record m { header = header_with m.header w })
word_taken (Some h) w m = with_items m (after_word h m.line (kind_seen w) m.items)

-- the word that is open ends, if there is one
abbrev pub word_ended : Machine → Result Machine ReadError
word_ended m = if is_nothing m.word then Ok m else word_taken m.problem m.word (record m { word = seen.Nothing })

abbrev pub some_header : Result Header ReadError → Result (Option Header) ReadError
some_header (Ok h) = Ok (Some h)
some_header (Err e) = Err e

-- the line's end judges the words of a problem line
abbrev pub header_seen_end : ℕ → HeaderSeen → Result (Option Header) ReadError
header_seen_end line headers.Empty = Ok None
header_seen_end line headers.NotProblem = Err (errors.NoProblemLine line)
header_seen_end line (headers.Both vars clauses) = some_header (within_limits line vars clauses)
header_seen_end line headers.P = Err (errors.BadProblemLine line)
header_seen_end line headers.Cnf = Err (errors.BadProblemLine line)
header_seen_end line (headers.Vars vars) = Err (errors.BadProblemLine line)
header_seen_end line headers.Bad = Err (errors.BadProblemLine line)

-- a problem line that was judged is kept
abbrev pub with_problem : Machine → Result (Option Header) ReadError → Result Machine ReadError
with_problem m (Ok None) = Ok m
with_problem m (Ok (Some h)) = Ok (record m { problem = Some h; items = record m.items { line = m.line } })
with_problem m (Err e) = Err e

-- only the first line with words is a problem line
abbrev pub header_ended : Option Header → Machine → Result Machine ReadError
header_ended (Some h) m = Ok m
header_ended None m = with_problem m (header_seen_end m.line m.header)

-- what stands before the line's end is judged
abbrev pub line_judged : Machine → Result Machine ReadError
line_judged m = word_ended m >>= λ n. header_ended n.problem n

-- the start of the next line
abbrev pub next_line : Machine → Machine
next_line m = record m { line = m.line + 1; mode = Start }

-- a byte that is no blank and no line end
abbrev pub inside : Mode → ℕ → Machine → Machine
inside Comment b m = m
inside Text b m = record m { word = seen_with m.word b }
inside Start b m = if b == 99 then record m { mode = Comment } else record m { mode = Text; word = seen_with m.word b }

-- a line end, a blank, or any other byte
abbrev pub after_byte : ℕ → Machine → Result Machine ReadError
after_byte b m =
    if is_line_end b then (line_judged m >>= λ n. Ok (next_line n)) else if is_blank b then word_ended m else Ok (inside m.mode b m)

-- the bytes, one after another
abbrev pub after_bytes : Machine → List ℕ → Result Machine ReadError
after_bytes m [] = Ok m
after_bytes m (b ∷ bs) = after_byte b m >>= λ n. after_bytes n bs

-- before the first byte
abbrev pub start : Machine
start = record {
  line = 1;
  mode = Start;
  word = seen.Nothing;
  header = headers.Empty;
  problem = None;
  items = record { place = Between; sets = []; clauses = []; clause = []; line = 0 };
}

abbrev pub read_with : Option Header → Items → Option Read
read_with None s = None
read_with (Some h) s = Some (record { header = h; items = s })

-- what the machine has read
abbrev pub read_of : Machine → Option Read
read_of m = read_with m.problem m.items

-- the source ends
abbrev pub finished : Machine → Result PrenexFormula ReadError
finished m = line_judged m >>= λ n. at_end (read_of n)

-- all bytes and the end
abbrev pub whole_by_bytes : List ℕ → Result PrenexFormula ReadError
whole_by_bytes bytes = after_bytes start bytes >>= finished

-- the first bytes, and one too many
abbrev pub cut_by_bytes : List ℕ → Result PrenexFormula ReadError
cut_by_bytes first = after_bytes start first >>= λ m. Err (errors.TooLong m.line)

abbrev pub within_by_bytes : ℕ → List ℕ → Result PrenexFormula ReadError
within_by_bytes most bytes = if nat_le (length bytes) most then whole_by_bytes bytes else cut_by_bytes (take most bytes)

-- The code's answer is the one that is meant, unless memory runs out.
abbrev pub Ends : Result PrenexFormula ReadError → Result PrenexFormula ReadError → Type 0
Ends (Ok f) meant = meant ≡ Ok f
Ends (Err e) meant = (e ≢ errors.Fault) × (e ≢ errors.NoMem → meant ≡ Err e)
