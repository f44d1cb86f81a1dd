-- The walk over lines to the first one with words, and over those after it.
use Rattle.std.proofs.Common.{◌≡◌, ℕ, ◌+◌, ◌<◌, ◌≤◌, Bool, true, false, cond, List, [], ◌∷◌, ◌++◌, length, refl, ap, sym, ◌∙◌, arith, Some, None, Result, Ok, Err, nat_le, map, append_assoc, append-nil}
use Rattle.std.specs.Prelude.{filter, flat_map}
use Rattle.std.proofs.lemmas.Bool.{lt-leb, leb-true, leb-false, le-leb}
use Rattle.blic_qdimacs.specs.declared.error.ReadError.{ReadError}
use Rattle.blic_qdimacs.specs.declared.seen.HeaderSeen.{HeaderSeen}
use Rattle.blic_qdimacs.specs.declared.seen.HeaderSeen.TheVariants as headers
use Rattle.blic_qdimacs.specs.Binding.{◌>>=◌}
use Rattle.blic_qdimacs.specs.Header.{Header, header_on, header_from}
use Rattle.blic_qdimacs.specs.Items.{no_items}
use Rattle.blic_qdimacs.specs.Lines.{Word, Line, has_words, is_some_text, placed_words, placed_lines, line_of, is_comment, parts_of, is_blank, onto_first}
use Rattle.blic_qdimacs.specs.Meaning.{after_words, read_until}
use Rattle.blic_qdimacs.specs.Machine.{Machine, start, with_problem, some_header, header_seen_end, next_line}
use Rattle.blic_qdimacs.proofs.HeaderLaws.{headers_after, AllText, header_seen}
use Rattle.blic_qdimacs.proofs.Judging.{OnLine, within_words, events_within, run_events-append, all_words, line_words, line_on_line, line_split, lines_beyond, lines_run, parser, done}
use Rattle.blic_qdimacs.proofs.Lexing.{Event, LineEnd, word_event, lines_events, parts_some}
use Rattle.blic_qdimacs.proofs.Running.{is_within, run_event, run_events}

-- the reader at the start of a line, if no line before had words
abbrev pub at_line : ℕ → Machine
at_line number = record start { line = number }

-- words before the problem line's end only change what was seen of it
words_seen : (ws : List Word) (number : ℕ) (hs : HeaderSeen)
    → run_events (map word_event ws) (record (at_line number) { header = hs }) ≡ Ok (record (at_line number) { header = headers_after hs ws })
words_seen [] number hs = refl
words_seen (w ∷ ws) number hs = words_seen ws number _

all_text : (line : ℕ) (ws : List Word) → OnLine line ws → AllText ws
all_text line [] on = tt
all_text line (w ∷ ws) on = (on.1, all_text line ws on.2)

-- each word ends at the end of its line, or before
abbrev AllUpTo : ℕ → List Word → Type 0
AllUpTo k [] = Unit {0}
AllUpTo k (w ∷ ws) = (w.after ≤ k) × AllUpTo k ws

-- the bytes of parts, with one after each
abbrev span : List (List ℕ) → ℕ
span [] = 0
span (p ∷ ps) = length p + 1 + span ps

span_onto : (b : ℕ) (t : List ℕ) (ts parts : List (List ℕ)) → parts ≡ t ∷ ts → span (onto_first b parts) ≡ span parts + 1
span_onto b t ts parts is =
    let e : span (onto_first b (t ∷ ts)) ≡ span (t ∷ ts) + 1 = omega arith in
    ap (λ ps. span (onto_first b ps)) is ∙ e ∙ ap (λ ps. span ps + 1) (sym is)

span_step : (b : ℕ) (bs t : List ℕ) (ts parts : List (List ℕ)) (c : Bool) → parts ≡ t ∷ ts → span parts ≡ length bs + 1 → span (cond c ([] ∷ parts) (onto_first b parts)) ≡ length (b ∷ bs) + 1
span_step b bs t ts parts true is ih = omega (arith, ih)
span_step b bs t ts parts false is ih = omega (arith, ih, span_onto b t ts parts is)

span_parts : (p : ℕ → Bool) (bs : List ℕ) → span (parts_of p bs) ≡ length bs + 1
span_parts p [] = refl
span_parts p (b ∷ bs) = let r = parts_some p bs in span_step b bs r.0 r.1 (parts_of p bs) (p b) r.2 (span_parts p bs)

more_up_to : (j k : ℕ) (ws : List Word) → j ≤ k → AllUpTo j ws → AllUpTo k ws
more_up_to j k [] le h = tt
more_up_to j k (w ∷ ws) le h = (omega (arith, h.0), more_up_to j k ws le h.1)

placed_up_to : (line k : ℕ) (parts : List (List ℕ)) → AllUpTo (k + span parts) (filter (λ w. is_some_text w.text) (placed_words line k parts))
placed_up_to line k [] = tt
placed_up_to line k ([] ∷ ps) = more_up_to (k + 0 + 1 + span ps) (k + span ([] ∷ ps)) _ (omega arith) (placed_up_to line (k + 0 + 1) ps)
placed_up_to line k ((b ∷ p) ∷ ps) =
    (omega arith, more_up_to (k + length (b ∷ p) + 1 + span ps) (k + span ((b ∷ p) ∷ ps)) _ (omega arith) (placed_up_to line (k + length (b ∷ p) + 1) ps))

line_up_to : (c : Bool) (number k : ℕ) (t : List ℕ) → AllUpTo (k + length t + 1) (line_words c number k t)
line_up_to true number k t = tt
line_up_to false number k t =
    more_up_to (k + span (parts_of is_blank t)) (k + length t + 1) _ (omega (arith, span_parts is_blank t)) (placed_up_to number k (parts_of is_blank t))

keep_step : (last : ℕ) (w : Word) (ws : List Word) → nat_le w.after last ≡ true → within_words last ws ≡ ws → within_words last (w ∷ ws) ≡ w ∷ ws
keep_step last w ws within rest = ap (λ c. cond c (w ∷ within_words last ws) (within_words last ws)) within ∙ ap (λ vs. w ∷ vs) rest

all_within : (last k : ℕ) (ws : List Word) → k ≤ last → AllUpTo k ws → within_words last ws ≡ ws
all_within last k [] le h = refl
all_within last k (w ∷ ws) le h =
    let few : w.after ≤ last = omega (arith, h.0) in
    keep_step last w ws (le-leb w.after last few) (all_within last k ws le h.1)

-- lines without words add none
abbrev line_with : ℕ → ℕ → List Word → Line
line_with number after ws = record { number = number; words = ws; after = after }

kept_step : (number after : ℕ) (ws : List Word) (ls : List Line)
    → all_words (cond (has_words (line_with number after ws)) (line_with number after ws ∷ filter has_words ls) (filter has_words ls)) ≡ ws ++ all_words (filter has_words ls)
kept_step number after [] ls = refl
kept_step number after (w ∷ ws) ls = refl

pub words_kept : (ls : List Line) → all_words (filter has_words ls) ≡ all_words ls
words_kept [] = refl
words_kept (l ∷ ls) = kept_step l.number l.after l.words ls ∙ ap (λ ws. l.words ++ ws) (words_kept ls)

-- no line after the last byte is judged
until_step : (last : ℕ) (l : Line) (c : Bool) (ls : List Line) → nat_le l.after last ≡ false → read_until last ls ≡ Ok None → read_until last (cond c (l ∷ ls) ls) ≡ Ok None
until_step last l true ls beyond rest =
    ap (λ t. cond t (header_on l >>= (λ h. after_words h (filter (λ w. nat_le w.after last) (flat_map (λ l. l.words) ls)) (no_items l.number) >>= done h)) (Ok None)) beyond
until_step last l false ls beyond rest = rest

pub until_beyond : (parts : List (List ℕ)) (last number k : ℕ) → last ≤ k → read_until last (filter has_words (placed_lines number k parts)) ≡ Ok None
until_beyond [] last number k le = refl
until_beyond (t ∷ ts) last number k le =
    let at = k + length t + 1 in
    let far : last < at = omega arith in
    let le' : last ≤ at = omega arith in
    until_step last (line_of number k t) (has_words (line_of number k t)) (filter has_words (placed_lines (number + 1) at ts)) (lt-leb at last far) (until_beyond ts last (number + 1) at le')

-- the problem line has ended
header_then : (number last at : ℕ) (f : List Event) (ls : List Line) (hs : HeaderSeen) (r : Result Header ReadError) → header_seen_end number hs ≡ some_header r
    → ((h : Header) → run_events f (next_line (record (at_line number) { header = hs; problem = Some h; items = no_items number })) >>= parser
    ≡ after_words h (within_words last (all_words ls)) (no_items number) >>= done h)
    → (run_event (LineEnd at) (record (at_line number) { header = hs }) >>= run_events f) >>= parser
    ≡ r >>= (λ h. after_words h (within_words last (all_words ls)) (no_items number) >>= done h)
header_then number last at f ls hs (Err e) is ih =
    ap (λ x. ((with_problem (record (at_line number) { header = hs }) x >>= (λ n. Ok (next_line n))) >>= run_events f) >>= parser) is
header_then number last at f ls hs (Ok h) is ih =
    ap (λ x. ((with_problem (record (at_line number) { header = hs }) x >>= (λ n. Ok (next_line n))) >>= run_events f) >>= parser) is ∙ ih h

-- a line, and those after it
abbrev behind_line : ℕ → ℕ → ℕ → List (List ℕ) → List Event
behind_line last number at ts = filter (is_within last) (lines_events number at ts)

abbrev lines_from : ℕ → ℕ → List (List ℕ) → List Line
lines_from number at ts = filter has_words (placed_lines number at ts)

front_step : (last number at : ℕ) (ts : List (List ℕ)) (ws : List Word) (c : Bool) → nat_le at last ≡ c → OnLine number ws → (at ≤ last → within_words last ws ≡ ws)
    → run_events (behind_line last (number + 1) at ts) (at_line (number + 1)) >>= parser ≡ read_until last (lines_from (number + 1) at ts)
    → run_events ((filter (is_within last) (map word_event ws) ++ cond c (LineEnd at ∷ []) []) ++ behind_line last (number + 1) at ts) (at_line number) >>= parser
    ≡ read_until last (cond (has_words (line_with number at ws)) (line_with number at ws ∷ lines_from (number + 1) at ts) (lines_from (number + 1) at ts))
front_step last number at ts [] true within on all ih = ih
front_step last number at ts [] false beyond on all ih =
    let far : last < at = leb-false at last beyond in
    let le : last ≤ at = omega (arith, far) in
    ap (λ f. run_events f (at_line number) >>= parser) (lines_beyond ts last (number + 1) at le) ∙ sym (until_beyond ts last (number + 1) at le)
front_step last number at ts (w ∷ ws) true within on all ih =
    let f = behind_line last (number + 1) at ts in
    let ls = placed_lines (number + 1) at ts in
    let vs : List Word = w ∷ ws in
    let le : at ≤ last = leb-true at last within in
    let hs = headers_after headers.Empty vs in
    ap (λ es. run_events ((es ++ LineEnd at ∷ []) ++ f) (at_line number) >>= parser) (events_within last vs ∙ ap (map word_event) (all le))
    ∙ ap (λ es. run_events es (at_line number) >>= parser) (append_assoc (map word_event vs) (LineEnd at ∷ []) f)
    ∙ ap (λ r. r >>= parser) (run_events-append (map word_event vs) (LineEnd at ∷ f) (at_line number) ∙ ap (λ r. r >>= run_events (LineEnd at ∷ f)) (words_seen vs number headers.Empty))
    ∙ header_then number last at f (lines_from (number + 1) at ts) hs (header_from number (map (λ v. v.text) vs)) (header_seen number w ws (all_text number vs on))
    (λ h. lines_run ts last (number + 1) at h (next_line (record (at_line number) { header = hs; problem = Some h; items = no_items number })) refl refl
    ∙ ap (λ us. after_words h (within_words last us) (no_items number) >>= done h) (sym (words_kept ls)))
    ∙ sym (ap (λ t. cond t (header_from number (map (λ v. v.text) vs) >>= (λ h. after_words h (within_words last (all_words (lines_from (number + 1) at ts))) (no_items number) >>= done h)) (Ok None)) within)
front_step last number at ts (w ∷ ws) false beyond on all ih =
    let f = behind_line last (number + 1) at ts in
    let vs : List Word = w ∷ ws in
    let far : last < at = leb-false at last beyond in
    let le : last ≤ at = omega (arith, far) in
    ap (λ es. run_events ((es ++ []) ++ f) (at_line number) >>= parser) (events_within last vs)
    ∙ ap (λ es. run_events es (at_line number) >>= parser)
    (ap (λ g. (map word_event (within_words last vs) ++ []) ++ g) (lines_beyond ts last (number + 1) at le) ∙ append-nil (map word_event (within_words last vs) ++ []) ∙ append-nil (map word_event (within_words last vs)))
    ∙ ap (λ r. r >>= parser) (words_seen (within_words last vs) number headers.Empty)
    ∙ sym (ap (λ t. cond t (header_from number (map (λ v. v.text) vs) >>= (λ h. after_words h (within_words last (all_words (lines_from (number + 1) at ts))) (no_items number) >>= done h)) (Ok None)) beyond)

-- all lines, from one on
pub lines_front : (parts : List (List ℕ)) (last number k : ℕ)
    → run_events (filter (is_within last) (lines_events number k parts)) (at_line number) >>= parser ≡ read_until last (filter has_words (placed_lines number k parts))
lines_front [] last number k = refl
lines_front (t ∷ ts) last number k =
    let at = k + length t + 1 in
    let ws = line_words (is_comment t) number k t in
    ap (λ es. run_events es (at_line number) >>= parser) (line_split last at ws (lines_events (number + 1) at ts) (nat_le at last) refl)
    ∙ front_step last number at ts ws (nat_le at last) refl (line_on_line (is_comment t) number k t) (λ le. all_within last at ws le (line_up_to (is_comment t) number k t))
    (lines_front ts last (number + 1) at)
