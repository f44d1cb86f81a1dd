-- The reader, byte by byte, does what the ends of words and lines ask for.
use Rattle.std.proofs.Common.{◌≡◌, ℕ, ◌+◌, Bool, true, false, cond, ◌==◌, List, [], ◌∷◌, length, refl, ap, sym, ◌∙◌, arith, Option, Some, None, Result, Ok, Err, nat_le}
use Rattle.std.specs.Prelude.{filter}
use Rattle.std.proofs.lemmas.Bool.{le-leb, lt-leb}
use Rattle.blic_qdimacs.specs.declared.error.ReadError.{ReadError}
use Rattle.blic_qdimacs.specs.declared.seen.Seen.{Seen}
use Rattle.blic_qdimacs.specs.declared.seen.Seen.TheVariants as seen
use Rattle.blic_qdimacs.specs.declared.byte_reader.Mode.{Mode}
use Rattle.blic_qdimacs.specs.declared.byte_reader.Mode.TheVariants.{Start, Comment, Text}
use Rattle.blic_qdimacs.specs.Binding.{◌>>=◌}
use Rattle.blic_qdimacs.specs.Header.{Header}
use Rattle.blic_qdimacs.specs.Items.{Items, after_word}
use Rattle.blic_qdimacs.specs.Lines.{is_line_end, is_blank}
use Rattle.blic_qdimacs.specs.Machine.{Machine, seen_with, is_nothing, kind_seen, with_items, word_taken, word_ended, header_seen_end, with_problem, header_ended, line_judged, next_line, inside, after_bytes}
use Rattle.blic_qdimacs.proofs.Lexing.{Event, WordEnd, LineEnd, emitted, next_mode, next_word, events}

abbrev pub at_of : Event → ℕ
at_of (WordEnd w at) = at
at_of (LineEnd at) = at

-- without the line's mode and the word that is open
abbrev pub calm : Machine → Machine
calm m = record m { mode = Start; word = seen.Nothing }

abbrev pub dressed : Mode → Seen → Machine → Machine
dressed mode w m = record m { mode = mode; word = w }

abbrev pub calmed : Machine → Result Machine ReadError
calmed m = Ok (calm m)

abbrev pub ended_word : Seen → Machine → Result Machine ReadError
ended_word s m = cond (is_nothing s) (Ok m) (word_taken m.problem s m)

abbrev pub ended_line : Machine → Result Machine ReadError
ended_line m = header_ended m.problem m >>= (λ n. Ok (next_line n))

abbrev pub run_event : Event → Machine → Result Machine ReadError
run_event (WordEnd s at) m = (word_taken m.problem s m)
run_event (LineEnd at) m = (ended_line m)

abbrev pub run_events : List Event → Machine → Result Machine ReadError
run_events [] m = Ok m
run_events (e ∷ es) m = run_event e m >>= run_events es

abbrev pub is_within : ℕ → Event → Bool
is_within last e = nat_le (at_of e) last

items_dressed : (m : Machine) (r : Result Items ReadError) → with_items (record m { word = seen.Nothing }) r ≡ with_items (calm m) r >>= (λ n. Ok (dressed m.mode seen.Nothing n))
items_dressed m (Ok s) = refl
items_dressed m (Err e) = refl

taken_dressed : (p : Option Header) (s : Seen) (m : Machine) → word_taken p s (record m { word = seen.Nothing }) ≡ word_taken p s (calm m) >>= (λ n. Ok (dressed m.mode seen.Nothing n))
taken_dressed None s m = refl
taken_dressed (Some h) s m = items_dressed m (after_word h m.line (kind_seen s) m.items)

word_dressed : (s : Seen) (m : Machine)
    → cond (is_nothing s) (Ok (record m { word = s })) (word_taken m.problem s (record m { word = seen.Nothing })) ≡ ended_word s (calm m) >>= (λ n. Ok (dressed m.mode seen.Nothing n))
word_dressed seen.Nothing m = refl
word_dressed (seen.Letter q) m = taken_dressed m.problem (seen.Letter q) m
word_dressed seen.P m = taken_dressed m.problem seen.P m
word_dressed seen.C m = taken_dressed m.problem seen.C m
word_dressed seen.Cn m = taken_dressed m.problem seen.Cn m
word_dressed seen.Cnf m = taken_dressed m.problem seen.Cnf m
word_dressed seen.Minus m = taken_dressed m.problem seen.Minus m
word_dressed (seen.Digits negative v) m = taken_dressed m.problem (seen.Digits negative v) m
word_dressed seen.Other m = taken_dressed m.problem seen.Other m

items_calm : (m : Machine) (r : Result Items ReadError) → with_items (calm m) r >>= calmed ≡ with_items (calm m) r
items_calm m (Ok s) = refl
items_calm m (Err e) = refl

taken_calm : (p : Option Header) (s : Seen) (m : Machine) → word_taken p s (calm m) >>= calmed ≡ word_taken p s (calm m)
taken_calm None s m = refl
taken_calm (Some h) s m = items_calm m (after_word h m.line (kind_seen s) m.items)

word_calm : (c : Bool) (s : Seen) (m : Machine) → cond c (Ok (calm m)) (word_taken m.problem s (calm m)) >>= calmed ≡ cond c (Ok (calm m)) (word_taken m.problem s (calm m))
word_calm true s m = refl
word_calm false s m = taken_calm m.problem s m

problem_dressed : (m : Machine) (r : Result (Option Header) ReadError) → with_problem m r ≡ with_problem (calm m) r >>= (λ n. Ok (dressed m.mode m.word n))
problem_dressed m (Ok None) = refl
problem_dressed m (Ok (Some h)) = refl
problem_dressed m (Err e) = refl

header_dressed : (p : Option Header) (m : Machine) → header_ended p m ≡ header_ended p (calm m) >>= (λ n. Ok (dressed m.mode m.word n))
header_dressed (Some h) m = refl
header_dressed None m = problem_dressed m (header_seen_end m.line m.header)

problem_calm : (m : Machine) (r : Result (Option Header) ReadError) → with_problem (calm m) r >>= calmed ≡ with_problem (calm m) r
problem_calm m (Ok None) = refl
problem_calm m (Ok (Some h)) = refl
problem_calm m (Err e) = refl

header_calm : (p : Option Header) (m : Machine) → header_ended p (calm m) >>= calmed ≡ header_ended p (calm m)
header_calm (Some h) m = refl
header_calm None m = problem_calm m (header_seen_end m.line m.header)

same_machine : (n : Machine) → calmed n ≡ Ok n → calm n ≡ n
same_machine n h = cc

-- the end of a line is judged without the mode
next_dressed : (mode : Mode) (h : Result Machine ReadError) → (h >>= (λ n. Ok (dressed mode seen.Nothing n))) >>= (λ n. Ok (next_line n)) ≡ (h >>= (λ n. Ok (next_line n))) >>= (λ n. Ok (dressed Start seen.Nothing n))
next_dressed mode (Ok n) = refl
next_dressed mode (Err e) = refl

line_dressed : (mode : Mode) (x : Result Machine ReadError) → x >>= calmed ≡ x
    → ((x >>= (λ n. Ok (dressed mode seen.Nothing n))) >>= (λ n. header_ended n.problem n)) >>= (λ n. Ok (next_line n)) ≡ (x >>= ended_line) >>= (λ n. Ok (dressed Start seen.Nothing n))
line_dressed mode (Err e) is_calm = refl
line_dressed mode (Ok n) is_calm =
    ap (λ h. h >>= (λ q. Ok (next_line q))) (header_dressed n.problem (dressed mode seen.Nothing n))
    ∙ next_dressed mode (header_ended n.problem (calm n))
    ∙ ap (λ q. (header_ended n.problem q >>= (λ p. Ok (next_line p))) >>= (λ p. Ok (dressed Start seen.Nothing p))) (same_machine n is_calm)

next_calm : (h : Result Machine ReadError) → h >>= calmed ≡ h → (h >>= (λ n. Ok (next_line n))) >>= calmed ≡ h >>= (λ n. Ok (next_line n))
next_calm (Err e) is_calm = refl
next_calm (Ok n) is_calm = ap (λ (q : Machine). let r : Result Machine ReadError = Ok (next_line q) in r) (same_machine n is_calm)

line_calm : (x : Result Machine ReadError) → x >>= calmed ≡ x → (x >>= ended_line) >>= calmed ≡ x >>= ended_line
line_calm (Err e) is_calm = refl
line_calm (Ok n) is_calm =
    let same = same_machine n is_calm in
    next_calm (header_ended n.problem n) (ap (λ q. header_ended n.problem q >>= calmed) (sym same) ∙ header_calm n.problem n ∙ ap (header_ended n.problem) same)

inside_dressed : (mode : Mode) (b : ℕ) (m : Machine) → inside mode b (dressed mode m.word m) ≡ dressed (next_mode mode b) (next_word mode m.word b) m
inside_dressed Comment b m = refl
inside_dressed Text b m = refl
inside_dressed Start b m = first (b == 99)
  where
    first : (c : Bool) → cond c (record (dressed Start m.word m) { mode = Comment }) (record (dressed Start m.word m) { mode = Text; word = seen_with m.word b })
        ≡ dressed (cond c Comment Text) (cond c m.word (seen_with m.word b)) m
    first true = refl
    first false = refl

-- a word that was open ends within the bytes
emit_run : (last at : ℕ) (s : Seen) (es : List Event) (m : Machine) (c : Bool) → nat_le at last ≡ true
    → run_events (filter (is_within last) (cond c es (WordEnd s at ∷ es))) m ≡ (cond c (Ok m) (word_taken m.problem s m)) >>= run_events (filter (is_within last) es)
emit_run last at s es m true within = refl
emit_run last at s es m false within =
    ap (λ t. run_events (cond t (WordEnd s at ∷ filter (is_within last) es) (filter (is_within last) es)) m) within

line_run : (last at : ℕ) (es : List Event) (x : Result Machine ReadError) → nat_le at last ≡ true
    → x >>= run_events (filter (is_within last) (LineEnd at ∷ es)) ≡ (x >>= ended_line) >>= run_events (filter (is_within last) es)
line_run last at es (Err e) within = refl
line_run last at es (Ok n) within =
    ap (λ t. run_events (cond t (LineEnd at ∷ filter (is_within last) es) (filter (is_within last) es)) n) within

none_run : (last at : ℕ) (s : Seen) (m : Machine) (c : Bool) → nat_le at last ≡ false
    → run_events (filter (is_within last) (cond c (LineEnd at ∷ []) (WordEnd s at ∷ LineEnd at ∷ []))) m ≡ Ok m
none_run last at s m true beyond = ap (λ t. run_events (cond t (LineEnd at ∷ []) []) m) beyond
none_run last at s m false beyond =
    ap (λ t. run_events (cond t (WordEnd s at ∷ cond t (LineEnd at ∷ []) []) (cond t (LineEnd at ∷ []) [])) m) beyond

abbrev pub calm_end : Result Machine ReadError → Result Machine ReadError
calm_end r = r >>= (λ n. Ok (calm n))

-- what the following bytes do, from each state
abbrev Runs : ℕ → ℕ → List ℕ → Type 0
Runs last k bs = (m : Machine) → calm_end (after_bytes m bs) ≡ run_events (filter (is_within last) (events m.mode m.word k bs)) (calm m)

continued : (last k : ℕ) (bs : List ℕ) (mode : Mode) (w : Seen) (x : Result Machine ReadError) → Runs last k bs → x >>= calmed ≡ x
    → calm_end ((x >>= (λ n. Ok (dressed mode w n))) >>= (λ n. after_bytes n bs)) ≡ x >>= run_events (filter (is_within last) (events mode w k bs))
continued last k bs mode w (Err e) runs is_calm = refl
continued last k bs mode w (Ok n) runs is_calm = runs (dressed mode w n) ∙ ap (run_events (filter (is_within last) (events mode w k bs))) (same_machine n is_calm)

byte_step : (last k b : ℕ) (bs : List ℕ) (m : Machine) (c d : Bool) → nat_le (k + 1) last ≡ true → Runs last (k + 1) bs
    → calm_end ((cond c (line_judged m >>= (λ n. Ok (next_line n))) (cond d (word_ended m) (Ok (inside m.mode b m)))) >>= (λ n. after_bytes n bs))
    ≡ run_events (filter (is_within last) (cond c (emitted m.word (k + 1) (LineEnd (k + 1) ∷ events Start seen.Nothing (k + 1) bs))
    (cond d (emitted m.word (k + 1) (events m.mode seen.Nothing (k + 1) bs)) (events (next_mode m.mode b) (next_word m.mode m.word b) (k + 1) bs)))) (calm m)
byte_step last k b bs m true d within runs =
    let x = ended_word m.word (calm m) in
    let is_calm = word_calm (is_nothing m.word) m.word m in
    ap (λ r. calm_end (((r >>= (λ n. header_ended n.problem n)) >>= (λ n. Ok (next_line n))) >>= (λ n. after_bytes n bs))) (word_dressed m.word m)
    ∙ ap (λ r. calm_end (r >>= (λ n. after_bytes n bs))) (line_dressed m.mode x is_calm)
    ∙ continued last (k + 1) bs Start seen.Nothing (x >>= ended_line) runs (line_calm x is_calm)
    ∙ sym (line_run last (k + 1) (events Start seen.Nothing (k + 1) bs) x within)
    ∙ sym (emit_run last (k + 1) m.word (LineEnd (k + 1) ∷ events Start seen.Nothing (k + 1) bs) (calm m) (is_nothing m.word) within)
byte_step last k b bs m false true within runs =
    let x = ended_word m.word (calm m) in
    ap (λ r. calm_end (r >>= (λ n. after_bytes n bs))) (word_dressed m.word m)
    ∙ continued last (k + 1) bs m.mode seen.Nothing x runs (word_calm (is_nothing m.word) m.word m)
    ∙ sym (emit_run last (k + 1) m.word (events m.mode seen.Nothing (k + 1) bs) (calm m) (is_nothing m.word) within)
byte_step last k b bs m false false within runs =
    ap (λ n. calm_end (after_bytes n bs)) (inside_dressed m.mode b m) ∙ runs (dressed (next_mode m.mode b) (next_word m.mode m.word b) m)

-- The bytes do what their events do, as far as these are seen.
pub bytes_run : (bs : List ℕ) (last k : ℕ) → last ≡ k + length bs → Runs last k bs
bytes_run [] last k is = λ m.
    let beyond : nat_le (k + 1) last ≡ false = lt-leb (k + 1) last (omega (arith, is)) in
    sym (none_run last (k + 1) m.word (calm m) (is_nothing m.word) beyond)
bytes_run (b ∷ bs) last k is = λ m.
    let within : nat_le (k + 1) last ≡ true = le-leb (k + 1) last (omega (arith, is)) in
    let is' : last ≡ k + 1 + length bs = omega (arith, is) in
    byte_step last k b bs m (is_line_end b) (is_blank b) within (bytes_run bs last (k + 1) is')
