-- The ends of words and lines, judged as the lines of a text are.
use Rattle.std.proofs.Common.{◌≡◌, ℕ, ◌+◌, ◌<◌, ◌≤◌, Bool, true, false, cond, List, [], ◌∷◌, ◌++◌, length, refl, ap, sym, ◌∙◌, arith, Option, Some, Result, Ok, Err, nat_le, append_assoc, append-nil, subst}
use Rattle.std.specs.Prelude.{filter, flat_map, map}
use Rattle.std.proofs.lemmas.Bool.{lt-leb}
use Rattle.std.proofs.lemmas.Bool.{leb-false}
use Rattle.std.proofs.lemmas.List.Elements.{filter-append}
use Rattle.blic_qdimacs.specs.declared.error.ReadError.{ReadError}
use Rattle.blic_qdimacs.specs.declared.seen.Seen.TheVariants as seen
use Rattle.blic_qdimacs.specs.Binding.{◌>>=◌}
use Rattle.blic_qdimacs.specs.Header.{Header}
use Rattle.blic_qdimacs.specs.Items.{Items, after_word}
use Rattle.blic_qdimacs.specs.Lines.{Word, Line, is_some_text, placed_words, words_of, placed_lines, is_comment, parts_of, is_blank}
use Rattle.blic_qdimacs.specs.Words.{kind_of}
use Rattle.blic_qdimacs.specs.Meaning.{Read, after_words}
use Rattle.blic_qdimacs.specs.Machine.{Machine, kind_seen, with_items, word_taken, header_ended, next_line, read_of, read_with}
use Rattle.blic_qdimacs.proofs.Lexing.{Event, LineEnd, seen_of, word_event, lines_events}
use Rattle.blic_qdimacs.proofs.Binds.{bind_same, bind_assoc}
use Rattle.blic_qdimacs.proofs.KindLaws.{seen_alike}
use Rattle.blic_qdimacs.proofs.Running.{is_within, run_event, run_events}

pub kind_same : (h : Header) (line : ℕ) (s : Items) (b : ℕ) (p : List ℕ)
    → after_word h line (kind_seen (seen_of seen.Nothing (b ∷ p))) s ≡ after_word h line (kind_of (b ∷ p)) s
kind_same h line s b p = seen_alike b p h line s

-- each word has a byte, and stands on this line
abbrev pub OnLine : ℕ → List Word → Type 0
OnLine line [] = Unit {0}
OnLine line (w ∷ ws) = (w.line ≡ line) × (is_some_text w.text ≡ true) × OnLine line ws

abbrev pub with_all : Machine → Result Items ReadError → Result Machine ReadError
with_all m (Ok s) = Ok (record m { items = s })
with_all m (Err e) = Err e

text_same : (h : Header) (line : ℕ) (s : Items) (text : List ℕ) → is_some_text text ≡ true
    → after_word h line (kind_seen (seen_of seen.Nothing text)) s ≡ after_word h line (kind_of text) s
text_same h line s [] some = absurd (cc)
text_same h line s (b ∷ p) some = kind_same h line s b p

-- a word, and those after it
word_then : (h : Header) (at : ℕ) (ws : List Word) (es : List Event) (m : Machine) (r : Result Items ReadError)
    → ((s : Items) → run_events es (record m { items = s }) ≡ with_all m (after_words h ws s))
    → (with_items m r) >>= run_events es ≡ with_all m (r >>= after_words h ws)
word_then h at ws es m (Ok s) ih = ih s
word_then h at ws es m (Err e) ih = refl

words_step : (last : ℕ) (h : Header) (w : Word) (ws : List Word) (m : Machine) (c : Bool) → m.problem ≡ Some h → w.line ≡ m.line → is_some_text w.text ≡ true
    → ((s : Items) → run_events (filter (is_within last) (map word_event ws)) (record m { items = s }) ≡ with_all m (after_words h (filter (λ v. nat_le v.after last) ws) s))
    → run_events (cond c (word_event w ∷ filter (is_within last) (map word_event ws)) (filter (is_within last) (map word_event ws))) m
    ≡ with_all m (after_words h (cond c (w ∷ filter (λ v. nat_le v.after last) ws) (filter (λ v. nat_le v.after last) ws)) m.items)
words_step last h w ws m true problem line some ih =
    ap (λ p. (word_taken p (seen_of seen.Nothing w.text) m) >>= run_events (filter (is_within last) (map word_event ws))) problem
    ∙ ap (λ r. (with_items m r) >>= run_events (filter (is_within last) (map word_event ws)))
    (text_same h m.line m.items w.text some ∙ ap (λ l. after_word h l (kind_of w.text) m.items) (sym line))
    ∙ word_then h w.after (filter (λ v. nat_le v.after last) ws) (filter (is_within last) (map word_event ws)) m (after_word h w.line (kind_of w.text) m.items) ih
words_step last h w ws m false problem line some ih = ih m.items

-- the words of a line after the problem line
pub words_run : (last : ℕ) (h : Header) (ws : List Word) (m : Machine) → m.problem ≡ Some h → OnLine m.line ws
    → run_events (filter (is_within last) (map word_event ws)) m ≡ with_all m (after_words h (filter (λ w. nat_le w.after last) ws) m.items)
words_run last h [] m problem on = refl
words_run last h (w ∷ ws) m problem on =
    words_step last h w ws m (nat_le w.after last) problem on.0 on.1 (λ s. words_run last h ws (record m { items = s }) problem on.2)

-- each word ends after the first k bytes
abbrev pub AllBehind : ℕ → List Word → Type 0
AllBehind k [] = Unit {0}
AllBehind k (w ∷ ws) = (k < w.after) × AllBehind k ws

abbrev pub within_words : ℕ → List Word → List Word
within_words last ws = filter (λ w. nat_le w.after last) ws

behind_less : (j k : ℕ) (ws : List Word) → j ≤ k → AllBehind k ws → AllBehind j ws
behind_less j k [] le h = tt
behind_less j k (w ∷ ws) le h = (omega (arith, h.0), behind_less j k ws le h.1)

pub placed_behind : (line k : ℕ) (parts : List (List ℕ)) → AllBehind k (filter (λ w. is_some_text w.text) (placed_words line k parts))
placed_behind line k [] = tt
placed_behind line k ([] ∷ ps) = behind_less k (k + 0 + 1) _ (omega arith) (placed_behind line (k + 0 + 1) ps)
placed_behind line k ((b ∷ p) ∷ ps) = (omega arith, behind_less k (k + length (b ∷ p) + 1) _ (omega arith) (placed_behind line (k + length (b ∷ p) + 1) ps))

none_step : (last : ℕ) (w : Word) (ws : List Word) → nat_le w.after last ≡ false → within_words last ws ≡ [] → within_words last (w ∷ ws) ≡ []
none_step last w ws beyond rest = ap (λ c. cond c (w ∷ within_words last ws) (within_words last ws)) beyond ∙ rest

pub none_within : (last k : ℕ) (ws : List Word) → last ≤ k → AllBehind k ws → within_words last ws ≡ []
none_within last k [] le h = refl
none_within last k (w ∷ ws) le h =
    let beyond : last < w.after = omega (arith, h.0) in
    none_step last w ws (lt-leb w.after last beyond) (none_within last k ws le h.1)

-- the events of words within, are those of the words within
events_step : (last : ℕ) (w : Word) (ws : List Word) (c : Bool) → filter (is_within last) (map word_event ws) ≡ map word_event (within_words last ws)
    → cond c (word_event w ∷ filter (is_within last) (map word_event ws)) (filter (is_within last) (map word_event ws)) ≡ map word_event (cond c (w ∷ within_words last ws) (within_words last ws))
events_step last w ws true ih = ap (λ es. word_event w ∷ es) ih
events_step last w ws false ih = ih

pub events_within : (last : ℕ) (ws : List Word) → filter (is_within last) (map word_event ws) ≡ map word_event (within_words last ws)
events_within last [] = refl
events_within last (w ∷ ws) = events_step last w ws (nat_le w.after last) (events_within last ws)

pub run_events-append : (a b : List Event) (m : Machine) → run_events (a ++ b) m ≡ run_events a m >>= run_events b
run_events-append [] b m = refl
run_events-append (e ∷ a) b m = bind_same (run_event e m) (run_events (a ++ b)) (λ n. run_events a n >>= run_events b) (λ n. run_events-append a b n) ∙ sym (bind_assoc (run_event e m) (run_events a) (run_events b))

pub after_words-append : (h : Header) (a b : List Word) (s : Items) → after_words h (a ++ b) s ≡ after_words h a s >>= after_words h b
after_words-append h [] b s = refl
after_words-append h (w ∷ a) b s =
    bind_same ((after_word h w.line (kind_of w.text) s)) (after_words h (a ++ b)) (λ t. after_words h a t >>= after_words h b) (λ t. after_words-append h a b t)
    ∙ sym (bind_assoc ((after_word h w.line (kind_of w.text) s)) (after_words h a) (after_words h b))

behind-append : (k : ℕ) (a b : List Word) → AllBehind k a → AllBehind k b → AllBehind k (a ++ b)
behind-append k [] b h g = g
behind-append k (w ∷ a) b h g = (h.0, behind-append k a b h.1 g)

abbrev pub line_words : Bool → ℕ → ℕ → List ℕ → List Word
line_words c number k t = cond c [] (words_of number k t)

pub line_behind : (c : Bool) (number k : ℕ) (t : List ℕ) → AllBehind k (line_words c number k t)
line_behind true number k t = tt
line_behind false number k t = placed_behind number k (parts_of is_blank t)

abbrev pub all_words : List Line → List Word
all_words ls = flat_map (λ l. l.words) ls

lines_behind : (parts : List (List ℕ)) (number k : ℕ) → AllBehind k (all_words (placed_lines number k parts))
lines_behind [] number k = tt
lines_behind (t ∷ ts) number k =
    behind-append k (line_words (is_comment t) number k t) (all_words (placed_lines (number + 1) (k + length t + 1) ts)) (line_behind (is_comment t) number k t)
    (behind_less k (k + length t + 1) _ (omega arith) (lines_behind ts (number + 1) (k + length t + 1)))

placed_on_line : (line k : ℕ) (parts : List (List ℕ)) → OnLine line (filter (λ w. is_some_text w.text) (placed_words line k parts))
placed_on_line line k [] = tt
placed_on_line line k ([] ∷ ps) = placed_on_line line (k + 0 + 1) ps
placed_on_line line k ((b ∷ p) ∷ ps) = (refl, refl, placed_on_line line (k + length (b ∷ p) + 1) ps)

pub line_on_line : (c : Bool) (number k : ℕ) (t : List ℕ) → OnLine number (line_words c number k t)
line_on_line true number k t = tt
line_on_line false number k t = placed_on_line number k (parts_of is_blank t)

-- the events of a line and of those after it, as far as they are seen
pub line_split : (last at : ℕ) (ws : List Word) (es : List Event) (c : Bool) → nat_le at last ≡ c
    → filter (is_within last) ((map word_event ws ++ LineEnd at ∷ []) ++ es) ≡ (filter (is_within last) (map word_event ws) ++ cond c (LineEnd at ∷ []) []) ++ filter (is_within last) es
line_split last at ws es c is =
    filter-append (is_within last) (map word_event ws ++ LineEnd at ∷ []) es
    ∙ ap (λ f. f ++ filter (is_within last) es) (filter-append (is_within last) (map word_event ws) (LineEnd at ∷ [])
    ∙ ap (λ t. filter (is_within last) (map word_event ws) ++ cond t (LineEnd at ∷ []) []) is)

pub lines_beyond : (parts : List (List ℕ)) (last number k : ℕ) → last ≤ k → filter (is_within last) (lines_events number k parts) ≡ []
lines_beyond [] last number k le = refl
lines_beyond (t ∷ ts) last number k le =
    let at = k + length t + 1 in
    let far : last < at = omega arith in
    let le' : last ≤ at = omega arith in
    let ws = line_words (is_comment t) number k t in
    line_split last at ws (lines_events (number + 1) at ts) false (lt-leb at last far)
    ∙ ap (λ f. (f ++ []) ++ filter (is_within last) (lines_events (number + 1) at ts)) (events_within last ws ∙ ap (map word_event) (none_within last k ws le (line_behind (is_comment t) number k t)))
    ∙ lines_beyond ts last (number + 1) at le'

abbrev pub parser : Machine → Result (Option Read) ReadError
parser m = Ok (read_of m)

abbrev pub done : Header → Items → Result (Option Read) ReadError
done h s = Ok (Some (record { header = h; items = s }))

-- a line after the problem line ends
line_then : (h : Header) (at : ℕ) (f : List Event) (ws : List Word) (m : Machine) (r : Result Items ReadError) → m.problem ≡ Some h
    → ((s : Items) → run_events f (next_line (record m { items = s })) >>= parser ≡ after_words h ws s >>= done h)
    → (with_all m r >>= run_events (LineEnd at ∷ f)) >>= parser ≡ (r >>= after_words h ws) >>= done h
line_then h at f ws m (Err e) problem ih = refl
line_then h at f ws m (Ok s) problem ih =
    ap (λ p. ((header_ended p (record m { items = s }) >>= (λ n. Ok (next_line n))) >>= run_events f) >>= parser) problem ∙ ih s

line_last : (h : Header) (m : Machine) (r : Result Items ReadError) → m.problem ≡ Some h → with_all m r >>= parser ≡ r >>= done h
line_last h m (Err e) problem = refl
line_last h m (Ok s) problem = ap (λ p. Ok (read_with p s)) problem

lines_step : (last number k : ℕ) (h : Header) (t : List ℕ) (ts : List (List ℕ)) (m : Machine) (c : Bool) → nat_le (k + length t + 1) last ≡ c → m.problem ≡ Some h → m.line ≡ number
    → ((s : Items) → run_events (filter (is_within last) (lines_events (number + 1) (k + length t + 1) ts)) (next_line (record m { items = s })) >>= parser
    ≡ after_words h (within_words last (all_words (placed_lines (number + 1) (k + length t + 1) ts))) s >>= done h)
    → run_events (filter (is_within last) (lines_events number k (t ∷ ts))) m >>= parser ≡ after_words h (within_words last (all_words (placed_lines number k (t ∷ ts)))) m.items >>= done h
lines_step last number k h t ts m true within problem line ih =
    let at = k + length t + 1 in
    let ws = line_words (is_comment t) number k t in
    let es = lines_events (number + 1) at ts in
    let vs = all_words (placed_lines (number + 1) at ts) in
    let f = filter (is_within last) es in
    let x = filter (is_within last) (map word_event ws) in
    let on : OnLine m.line ws = subst (λ n. OnLine n ws) (sym line) (line_on_line (is_comment t) number k t) in
    ap (λ l. run_events l m >>= parser) (line_split last at ws es true within ∙ append_assoc x (LineEnd at ∷ []) f)
    ∙ ap (λ r. r >>= parser) (run_events-append x (LineEnd at ∷ f) m ∙ ap (λ r. r >>= run_events (LineEnd at ∷ f)) (words_run last h ws m problem on))
    ∙ line_then h at f (within_words last vs) m (after_words h (within_words last ws) m.items) problem ih
    ∙ sym (ap (λ r. r >>= done h) (ap (λ l. after_words h l m.items) (filter-append (λ w. nat_le w.after last) ws vs) ∙ after_words-append h (within_words last ws) (within_words last vs) m.items))
lines_step last number k h t ts m false beyond problem line ih =
    let at = k + length t + 1 in
    let ws = line_words (is_comment t) number k t in
    let es = lines_events (number + 1) at ts in
    let vs = all_words (placed_lines (number + 1) at ts) in
    let x = filter (is_within last) (map word_event ws) in
    let far : last < at = leb-false at last beyond in
    let le : last ≤ at = omega (arith, far) in
    let on : OnLine m.line ws = subst (λ n. OnLine n ws) (sym line) (line_on_line (is_comment t) number k t) in
    ap (λ l. run_events l m >>= parser) (line_split last at ws es false beyond ∙ ap (λ f. (x ++ []) ++ f) (lines_beyond ts last (number + 1) at le) ∙ append-nil (x ++ []) ∙ append-nil x)
    ∙ ap (λ r. r >>= parser) (words_run last h ws m problem on)
    ∙ line_last h m (after_words h (within_words last ws) m.items) problem
    ∙ sym (ap (λ l. after_words h l m.items >>= done h)
    (filter-append (λ w. nat_le w.after last) ws vs ∙ ap (λ l. within_words last ws ++ l) (none_within last at vs le (lines_behind ts (number + 1) at)) ∙ append-nil (within_words last ws)))

-- the lines after the problem line
pub lines_run : (parts : List (List ℕ)) (last number k : ℕ) (h : Header) (m : Machine) → m.problem ≡ Some h → m.line ≡ number
    → run_events (filter (is_within last) (lines_events number k parts)) m >>= parser ≡ after_words h (within_words last (all_words (placed_lines number k parts))) m.items >>= done h
lines_run [] last number k h m problem line = ap (λ p. Ok (read_with p m.items)) problem
lines_run (t ∷ ts) last number k h m problem line =
    lines_step last number k h t ts m (nat_le (k + length t + 1) last) refl problem line
    (λ s. lines_run ts last (number + 1) (k + length t + 1) h (next_line (record m { items = s })) problem (ap (λ n. n + 1) line))
