-- The lines and words of bytes, as the reader meets them.
use Rattle.std.proofs.Common.{◌≡◌, ℕ, ◌+◌, Bool, true, false, ◌==◌, cond, List, [], ◌∷◌, ◌++◌, length, refl, ap, sym, ◌∙◌, arith, append_assoc}
use Rattle.std.specs.Prelude.{filter, flat_map, map}
use Rattle.std.specs.Char.{is_ascii_digit}
use Rattle.blic_qdimacs.specs.declared.seen.Seen.{Seen}
use Rattle.blic_qdimacs.specs.declared.seen.Seen.TheVariants as seen
use Rattle.blic_qdimacs.specs.declared.byte_reader.Mode.{Mode}
use Rattle.blic_qdimacs.specs.declared.byte_reader.Mode.TheVariants.{Start, Comment, Text}
use Rattle.blic_qdimacs.specs.Lines.{Word, Line, onto_first, parts_of, is_line_end, is_blank, placed_words, words_of, is_some_text, is_comment, placed_lines}
use Rattle.blic_qdimacs.specs.Machine.{seen_with, is_nothing}

-- a word has ended, or a line
pub data Event : Type 0 where
  WordEnd : Seen → ℕ → Event
  LineEnd : ℕ → Event

abbrev pub emitted : Seen → ℕ → List Event → List Event
emitted w at es = cond (is_nothing w) es (WordEnd w at ∷ es)

abbrev pub next_mode : Mode → ℕ → Mode
next_mode Comment b = Comment
next_mode Text b = Text
next_mode Start b = cond (b == 99) Comment Text

abbrev pub next_word : Mode → Seen → ℕ → Seen
next_word Comment w b = w
next_word Text w b = seen_with w b
next_word Start w b = cond (b == 99) w (seen_with w b)

-- what bytes give, their end counted as a line's end
abbrev pub events : Mode → Seen → ℕ → List ℕ → List Event
events mode w k [] = emitted w (k + 1) (LineEnd (k + 1) ∷ [])
events mode w k (b ∷ bs) =
    cond (is_line_end b) (emitted w (k + 1) (LineEnd (k + 1) ∷ events Start seen.Nothing (k + 1) bs))
    (cond (is_blank b) (emitted w (k + 1) (events mode seen.Nothing (k + 1) bs)) (events (next_mode mode b) (next_word mode w b) (k + 1) bs))

-- what is seen of a text
abbrev pub seen_of : Seen → List ℕ → Seen
seen_of w [] = w
seen_of w (b ∷ bs) = seen_of (seen_with w b) bs

abbrev pub word_event : Word → Event
word_event w = WordEnd (seen_of seen.Nothing w.text) w.after

abbrev pub line_events : Line → List Event
line_events l = map word_event l.words ++ LineEnd l.after ∷ []

-- the events of the parts of a line, if a word that was seen so far is open
abbrev pub part_events : Seen → ℕ → List (List ℕ) → List Event → List Event
part_events w k [] es = es
part_events w k (p ∷ ps) es = emitted (seen_of w p) (k + length p + 1) (part_events seen.Nothing (k + length p + 1) ps es)

-- the events of the rest of a line
abbrev pub rest_events : Mode → Seen → ℕ → List ℕ → List Event → List Event
rest_events Comment w k t es = es
rest_events Text w k t es = part_events w k (parts_of is_blank t) es
rest_events Start w k t es = cond (is_comment t) es (part_events w k (parts_of is_blank t) es)

abbrev pub lines_events : ℕ → ℕ → List (List ℕ) → List Event
lines_events number k ls = flat_map line_events (placed_lines number k ls)

abbrev pub behind : ℕ → ℕ → List (List ℕ) → List Event
behind number j ts = LineEnd j ∷ lines_events (number + 1) j ts

abbrev pub parts_events : Mode → Seen → ℕ → ℕ → List (List ℕ) → List Event
parts_events mode w number k [] = []
parts_events mode w number k (t ∷ ts) = rest_events mode w k t (behind number (k + length t + 1) ts)

-- only a line of text has an open word
abbrev pub Fits : Mode → Seen → Type 0
Fits Text w = Unit {0}
Fits Comment w = w ≡ seen.Nothing
Fits Start w = w ≡ seen.Nothing

pub parts_some : (p : ℕ → Bool) (bs : List ℕ) → (t : List ℕ) × (ts : List (List ℕ)) × (parts_of p bs ≡ t ∷ ts)
parts_some p [] = ([], [], refl)
parts_some p (b ∷ bs) = let r = parts_some p bs in step (p b) r.0 r.1 (parts_of p bs) r.2
  where
    step : (c : Bool) (t : List ℕ) (ts parts : List (List ℕ)) → parts ≡ t ∷ ts
        → (u : List ℕ) × (us : List (List ℕ)) × (cond c ([] ∷ parts) (onto_first b parts) ≡ u ∷ us)
    step true t ts parts is = ([], parts, refl)
    step false t ts parts is = (b ∷ t, ts, ap (onto_first b) is)

shift : (k : ℕ) (t : List ℕ) (b : ℕ) → k + 1 + length t + 1 ≡ k + length (b ∷ t) + 1
shift k t b = omega arith

no_shift : (k : ℕ) → k + 1 ≡ k + length {A = ℕ} [] + 1
no_shift k = omega arith

-- a byte of the word that is open
part_more : (w : Seen) (k b : ℕ) (t : List ℕ) (parts : List (List ℕ)) (ts : List (List ℕ)) (es : List Event) → parts ≡ t ∷ ts
    → part_events (seen_with w b) (k + 1) parts es ≡ part_events w k (onto_first b parts) es
part_more w k b t parts ts es is =
    ap (λ ps. part_events (seen_with w b) (k + 1) ps es) is
    ∙ ap (λ j. emitted (seen_of (seen_with w b) t) j (part_events seen.Nothing j ts es)) (shift k t b)
    ∙ ap (λ ps. part_events w k (onto_first b ps) es) (sym is)

-- the next byte of a line of text
text_byte : (w : Seen) (k b : ℕ) (t : List ℕ) (es : List Event) (c : Bool) → is_blank b ≡ c
    → cond c (emitted w (k + 1) (part_events seen.Nothing (k + 1) (parts_of is_blank t) es)) (part_events (seen_with w b) (k + 1) (parts_of is_blank t) es)
    ≡ part_events w k (parts_of is_blank (b ∷ t)) es
text_byte w k b t es true blank =
    ap (λ j. emitted w j (part_events seen.Nothing j (parts_of is_blank t) es)) (no_shift k)
    ∙ ap (λ c. part_events w k (cond c ([] ∷ parts_of is_blank t) (onto_first b (parts_of is_blank t))) es) (sym blank)
text_byte w k b t es false other =
    let r = parts_some is_blank t in
    part_more w k b r.0 (parts_of is_blank t) r.1 es r.2
    ∙ ap (λ c. part_events w k (cond c ([] ∷ parts_of is_blank t) (onto_first b (parts_of is_blank t))) es) (sym other)

some_either : (c : Bool) (x y : Seen) → is_nothing x ≡ false → is_nothing y ≡ false → is_nothing (cond c x y) ≡ false
some_either true x y h k = h
some_either false x y h k = k

-- a byte more is something
pub some_seen : (s : Seen) (b : ℕ) → is_nothing (seen_with s b) ≡ false
some_seen seen.Nothing b =
    some_either (b == 101) _ _ refl (some_either (b == 97) _ _ refl (some_either (b == 112) _ _ refl (some_either (b == 99) _ _ refl
    (some_either (b == 45) _ _ refl (some_either (is_ascii_digit b) _ _ refl refl)))))
some_seen seen.C b = some_either (b == 110) _ _ refl refl
some_seen seen.Cn b = some_either (b == 102) _ _ refl refl
some_seen seen.Minus b = some_either (is_ascii_digit b) _ _ refl refl
some_seen (seen.Digits negative v) b = some_either (is_ascii_digit b) _ _ refl refl
some_seen (seen.Letter q) b = refl
some_seen seen.P b = refl
some_seen seen.Cnf b = refl
some_seen seen.Other b = refl

pub some_text_seen : (s : Seen) (p : List ℕ) → is_nothing s ≡ false → is_nothing (seen_of s p) ≡ false
some_text_seen s [] h = h
some_text_seen s (b ∷ p) h = some_text_seen (seen_with s b) p (some_seen s b)

-- the words of a line are its parts that have a byte
part_words : (line k : ℕ) (parts : List (List ℕ)) (es : List Event)
    → part_events seen.Nothing k parts es ≡ map word_event (filter (λ w. is_some_text w.text) (placed_words line k parts)) ++ es
part_words line k [] es = refl
part_words line k ([] ∷ ps) es = part_words line (k + 0 + 1) ps es
part_words line k ((b ∷ p) ∷ ps) es =
    ap (λ c. cond c (part_events seen.Nothing (k + length (b ∷ p) + 1) ps es) (WordEnd (seen_of seen.Nothing (b ∷ p)) (k + length (b ∷ p) + 1) ∷ part_events seen.Nothing (k + length (b ∷ p) + 1) ps es))
    (some_text_seen (seen_with seen.Nothing b) p (some_seen seen.Nothing b))
    ∙ ap (λ r. WordEnd (seen_of seen.Nothing (b ∷ p)) (k + length (b ∷ p) + 1) ∷ r) (part_words line (k + length (b ∷ p) + 1) ps es)

start_words : (number k : ℕ) (t : List ℕ) (es : List Event) (at : ℕ) (c : Bool)
    → cond c (LineEnd at ∷ es) (part_events seen.Nothing k (parts_of is_blank t) (LineEnd at ∷ es)) ≡ (map word_event (cond c [] (words_of number k t)) ++ LineEnd at ∷ []) ++ es
start_words number k t es at true = refl
start_words number k t es at false =
    part_words number k (parts_of is_blank t) (LineEnd at ∷ es) ∙ sym (append_assoc (map word_event (words_of number k t)) (LineEnd at ∷ []) es)

-- a line from its start
pub start_line : (number k : ℕ) (t : List ℕ) (ts : List (List ℕ)) → parts_events Start seen.Nothing number k (t ∷ ts) ≡ lines_events number k (t ∷ ts)
start_line number k t ts = start_words number k t (lines_events (number + 1) (k + length t + 1) ts) (k + length t + 1) (is_comment t)

start_lines : (number k : ℕ) (parts : List (List ℕ)) (t : List ℕ) (ts : List (List ℕ)) → parts ≡ t ∷ ts → parts_events Start seen.Nothing number k parts ≡ lines_events number k parts
start_lines number k parts t ts is = ap (parts_events Start seen.Nothing number k) is ∙ start_line number k t ts ∙ ap (lines_events number k) (sym is)

-- the end of a line
line_ends : (mode : Mode) (w : Seen) (number k : ℕ) (ps : List (List ℕ)) → Fits mode w
    → emitted w (k + 1) (behind number (k + 1) ps) ≡ parts_events mode w number k ([] ∷ ps)
line_ends Text w number k ps fits = ap (λ j. emitted w j (behind number j ps)) (no_shift k)
line_ends Comment w number k ps fits = ap (λ v. emitted v (k + 1) (behind number (k + 1) ps)) fits ∙ ap (λ j. behind number j ps) (no_shift k)
line_ends Start w number k ps fits =
    ap (λ j. emitted w j (behind number j ps)) (no_shift k)

same_either : (c : Bool) (es : List Event) → cond c es es ≡ es
same_either true es = refl
same_either false es = refl

start_blank : (number k b : ℕ) (t : List ℕ) (ts : List (List ℕ)) (q : Bool) → is_blank b ≡ true
    → cond q (behind number (k + 1 + length t + 1) ts) (part_events seen.Nothing (k + 1) (parts_of is_blank t) (behind number (k + 1 + length t + 1) ts))
    ≡ cond q (behind number (k + length (b ∷ t) + 1) ts) (part_events seen.Nothing k (parts_of is_blank (b ∷ t)) (behind number (k + length (b ∷ t) + 1) ts))
start_blank number k b t ts true blank = ap (λ j. behind number j ts) (shift k t b)
start_blank number k b t ts false blank =
    text_byte seen.Nothing k b t (behind number (k + 1 + length t + 1) ts) true blank
    ∙ ap (λ j. part_events seen.Nothing k (parts_of is_blank (b ∷ t)) (behind number j ts)) (shift k t b)

start_other : (number k b : ℕ) (t : List ℕ) (ts : List (List ℕ)) (q : Bool) → is_blank b ≡ false
    → parts_events (cond q Comment Text) (cond q seen.Nothing (seen_with seen.Nothing b)) number (k + 1) (t ∷ ts)
    ≡ cond q (behind number (k + length (b ∷ t) + 1) ts) (part_events seen.Nothing k (parts_of is_blank (b ∷ t)) (behind number (k + length (b ∷ t) + 1) ts))
start_other number k b t ts true other = ap (λ j. behind number j ts) (shift k t b)
start_other number k b t ts false other =
    text_byte seen.Nothing k b t (behind number (k + 1 + length t + 1) ts) false other
    ∙ ap (λ j. part_events seen.Nothing k (parts_of is_blank (b ∷ t)) (behind number j ts)) (shift k t b)

-- the first bytes of a line
start_byte : (number k b : ℕ) (t : List ℕ) (ts : List (List ℕ)) (c : Bool) → is_blank b ≡ c
    → cond c (parts_events Start seen.Nothing number (k + 1) (t ∷ ts)) (parts_events (cond (b == 99) Comment Text) (cond (b == 99) seen.Nothing (seen_with seen.Nothing b)) number (k + 1) (t ∷ ts))
    ≡ parts_events Start seen.Nothing number k ((b ∷ t) ∷ ts)
start_byte number k b t ts true blank =
    start_blank number k b t ts (is_comment t) blank
    ∙ ap (λ c. cond (cond c (is_comment t) (b == 99)) (behind number (k + length (b ∷ t) + 1) ts) (part_events seen.Nothing k (parts_of is_blank (b ∷ t)) (behind number (k + length (b ∷ t) + 1) ts))) (sym blank)
start_byte number k b t ts false other =
    start_other number k b t ts (b == 99) other
    ∙ ap (λ c. cond (cond c (is_comment t) (b == 99)) (behind number (k + length (b ∷ t) + 1) ts) (part_events seen.Nothing k (parts_of is_blank (b ∷ t)) (behind number (k + length (b ∷ t) + 1) ts))) (sym other)

-- the bytes of a line
inner_byte : (mode : Mode) (w : Seen) (number k b : ℕ) (t : List ℕ) (ts : List (List ℕ)) (c : Bool) → Fits mode w → is_blank b ≡ c
    → cond c (emitted w (k + 1) (parts_events mode seen.Nothing number (k + 1) (t ∷ ts))) (parts_events (next_mode mode b) (next_word mode w b) number (k + 1) (t ∷ ts))
    ≡ parts_events mode w number k ((b ∷ t) ∷ ts)
inner_byte Text w number k b t ts c fits blank =
    text_byte w k b t (behind number (k + 1 + length t + 1) ts) c blank
    ∙ ap (λ j. part_events w k (parts_of is_blank (b ∷ t)) (behind number j ts)) (shift k t b)
inner_byte Comment w number k b t ts c fits blank =
    ap (λ v. cond c (emitted v (k + 1) (behind number (k + 1 + length t + 1) ts)) (behind number (k + 1 + length t + 1) ts)) fits
    ∙ same_either c (behind number (k + 1 + length t + 1) ts) ∙ ap (λ j. behind number j ts) (shift k t b)
inner_byte Start w number k b t ts c fits blank =
    ap (λ v. cond c (emitted v (k + 1) (parts_events Start seen.Nothing number (k + 1) (t ∷ ts))) (parts_events (cond (b == 99) Comment Text) (cond (b == 99) v (seen_with v b)) number (k + 1) (t ∷ ts))) fits
    ∙ start_byte number k b t ts c blank ∙ ap (λ v. parts_events Start v number k ((b ∷ t) ∷ ts)) (sym fits)

fits_nothing : (mode : Mode) → Fits mode seen.Nothing
fits_nothing Text = tt
fits_nothing Comment = refl
fits_nothing Start = refl

fits_next : (mode : Mode) (w : Seen) (b : ℕ) → Fits mode w → Fits (next_mode mode b) (next_word mode w b)
fits_next Text w b fits = tt
fits_next Comment w b fits = fits
fits_next Start w b fits = first (b == 99)
  where
    first : (c : Bool) → Fits (cond c Comment Text) (cond c w (seen_with w b))
    first true = fits
    first false = tt

events_step : (b : ℕ) (bs : List ℕ) (mode : Mode) (w : Seen) (number k : ℕ) (t : List ℕ) (ts : List (List ℕ)) (c d : Bool) → Fits mode w → is_blank b ≡ d
    → parts_of is_line_end bs ≡ t ∷ ts
    → events Start seen.Nothing (k + 1) bs ≡ parts_events Start seen.Nothing (number + 1) (k + 1) (parts_of is_line_end bs)
    → events mode seen.Nothing (k + 1) bs ≡ parts_events mode seen.Nothing number (k + 1) (parts_of is_line_end bs)
    → events (next_mode mode b) (next_word mode w b) (k + 1) bs ≡ parts_events (next_mode mode b) (next_word mode w b) number (k + 1) (parts_of is_line_end bs)
    → cond c (emitted w (k + 1) (LineEnd (k + 1) ∷ events Start seen.Nothing (k + 1) bs))
    (cond d (emitted w (k + 1) (events mode seen.Nothing (k + 1) bs)) (events (next_mode mode b) (next_word mode w b) (k + 1) bs))
    ≡ parts_events mode w number k (cond c ([] ∷ parts_of is_line_end bs) (onto_first b (parts_of is_line_end bs)))
events_step b bs mode w number k t ts true d fits blank is start' same next =
    ap (λ es. emitted w (k + 1) (LineEnd (k + 1) ∷ es)) (start' ∙ start_lines (number + 1) (k + 1) (parts_of is_line_end bs) t ts is)
    ∙ line_ends mode w number k (parts_of is_line_end bs) fits
events_step b bs mode w number k t ts false true fits blank is start' same next =
    ap (emitted w (k + 1)) (same ∙ ap (parts_events mode seen.Nothing number (k + 1)) is)
    ∙ inner_byte mode w number k b t ts true fits blank ∙ ap (λ ps. parts_events mode w number k (onto_first b ps)) (sym is)
events_step b bs mode w number k t ts false false fits blank is start' same next =
    next ∙ ap (parts_events (next_mode mode b) (next_word mode w b) number (k + 1)) is
    ∙ inner_byte mode w number k b t ts false fits blank ∙ ap (λ ps. parts_events mode w number k (onto_first b ps)) (sym is)

-- the events of bytes are those of their lines
pub events_of_lines : (bs : List ℕ) (mode : Mode) (w : Seen) (number k : ℕ) → Fits mode w → events mode w k bs ≡ parts_events mode w number k (parts_of is_line_end bs)
events_of_lines [] mode w number k fits = line_ends mode w number k [] fits
events_of_lines (b ∷ bs) mode w number k fits =
    let r = parts_some is_line_end bs in
    events_step b bs mode w number k r.0 r.1 (is_line_end b) (is_blank b) fits refl r.2
    (events_of_lines bs Start seen.Nothing (number + 1) (k + 1) refl)
    (events_of_lines bs mode seen.Nothing number (k + 1) (fits_nothing mode))
    (events_of_lines bs (next_mode mode b) (next_word mode w b) number (k + 1) (fits_next mode w b fits))

-- the events of all bytes are those of all lines
pub all_events : (bs : List ℕ) → events Start seen.Nothing 0 bs ≡ lines_events 1 0 (parts_of is_line_end bs)
all_events bs =
    let r = parts_some is_line_end bs in
    events_of_lines bs Start seen.Nothing 1 0 refl ∙ start_lines 1 0 (parts_of is_line_end bs) r.0 r.1 r.2
