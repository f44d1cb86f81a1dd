-- The reader's line is one more than the number of line ends so far.
use Rattle.std.proofs.Common.{◌≡◌, ℕ, ◌+◌, Bool, true, false, cond, ◌==◌, List, [], ◌∷◌, refl, ap, ◌∙◌, arith, Option, Some, None, Result, Ok, Err}
use Rattle.std.specs.Prelude.{count_by}
use Rattle.std.proofs.lemmas.List.Sums.{sum_by-cons}
use Rattle.blic_qdimacs.specs.declared.error.ReadError.{ReadError}
use Rattle.blic_qdimacs.specs.declared.byte_reader.Mode.{Mode}
use Rattle.blic_qdimacs.specs.declared.byte_reader.Mode.TheVariants.{Start, Comment, Text}
use Rattle.blic_qdimacs.specs.declared.seen.Seen.{Seen}
use Rattle.blic_qdimacs.specs.declared.seen.Seen.TheVariants as seen
use Rattle.blic_qdimacs.specs.Binding.{◌>>=◌}
use Rattle.blic_qdimacs.specs.Header.{Header}
use Rattle.blic_qdimacs.specs.Items.{Items, after_word}
use Rattle.blic_qdimacs.specs.Lines.{is_line_end, is_blank}
use Rattle.blic_qdimacs.specs.Machine.{Machine, seen_with, is_nothing, kind_seen, with_items, word_taken, word_ended, header_seen_end, with_problem, header_ended, line_judged, next_line, inside, after_byte, after_bytes}
use Rattle.blic_qdimacs.proofs.Binds.{bind_split}

abbrev ok : Machine → Result Machine ReadError
ok m = Ok m

same_line : (m n : Machine) → ok m ≡ Ok n → n.line ≡ m.line
same_line m n e = let same : n ≡ m = cc in ap (λ x. x.line) same

items_line : (m n : Machine) (r : Result Items ReadError) → with_items m r ≡ Ok n → n.line ≡ m.line
items_line m n (Ok s) e = same_line (record m { items = s }) n e
items_line m n (Err x) e = let g : Err x ≡ Ok n = e in absurd (cc)

taken_line : (p : Option Header) (w : Seen) (m n : Machine) → word_taken p w m ≡ Ok n → n.line ≡ m.line
taken_line None w m n e = same_line _ n e
taken_line (Some h) w m n e = items_line m n (after_word h m.line (kind_seen w) m.items) e

word_line : (c : Bool) (m n : Machine) → cond c (Ok m) (word_taken m.problem m.word (record m { word = seen.Nothing })) ≡ Ok n → n.line ≡ m.line
word_line true m n e = same_line m n e
word_line false m n e = taken_line m.problem m.word (record m { word = seen.Nothing }) n e

problem_line : (m n : Machine) (r : Result (Option Header) ReadError) → with_problem m r ≡ Ok n → n.line ≡ m.line
problem_line m n (Ok None) e = same_line m n e
problem_line m n (Ok (Some h)) e = same_line _ n e
problem_line m n (Err x) e = let g : Err x ≡ Ok n = e in absurd (cc)

header_line : (p : Option Header) (m n : Machine) → header_ended p m ≡ Ok n → n.line ≡ m.line
header_line (Some h) m n e = same_line m n e
header_line None m n e = problem_line m n (header_seen_end m.line m.header) e

judged_line : (m n : Machine) → line_judged m ≡ Ok n → n.line ≡ m.line
judged_line m n e =
    let s = bind_split (word_ended m) (λ n. header_ended n.problem n) n e in
    header_line s.0.problem s.0 n s.2 ∙ word_line (is_nothing m.word) m s.0 s.1

inside_line : (mode : Mode) (b : ℕ) (m : Machine) → (inside mode b m).line ≡ m.line
inside_line Comment b m = refl
inside_line Text b m = refl
inside_line Start b m = first (b == 99)
  where
    first : (c : Bool) → (cond c (record m { mode = Comment }) (record m { mode = Text; word = seen_with m.word b })).line ≡ m.line
    first true = refl
    first false = refl

byte_line : (c d : Bool) (b : ℕ) (m n : Machine) → cond c (line_judged m >>= (λ n. Ok (next_line n))) (cond d (word_ended m) (Ok (inside m.mode b m))) ≡ Ok n → n.line ≡ m.line + cond c 1 0
byte_line true d b m n e =
    let s = bind_split (line_judged m) (λ n. Ok (next_line n)) n e in
    same_line (next_line s.0) n s.2 ∙ ap (λ l. l + 1) (judged_line m s.0 s.1)
byte_line false true b m n e = let h : n.line ≡ m.line = word_line (is_nothing m.word) m n e in omega (arith, h)
byte_line false false b m n e = let h : n.line ≡ m.line = same_line (inside m.mode b m) n e ∙ inside_line m.mode b m in omega (arith, h)

pub lines_counted : (bs : List ℕ) (m n : Machine) → after_bytes m bs ≡ Ok n → n.line ≡ m.line + count_by is_line_end bs
lines_counted [] m n e = let h : n.line ≡ m.line = same_line m n e in omega (arith, h)
lines_counted (b ∷ bs) m n e =
    let s = bind_split (after_byte b m) (λ n. after_bytes n bs) n e in
    let first : s.0.line ≡ m.line + cond (is_line_end b) 1 0 = byte_line (is_line_end b) (is_blank b) b m s.0 s.1 in
    let rest : n.line ≡ s.0.line + count_by is_line_end bs = lines_counted bs s.0 n s.2 in
    let cons : count_by is_line_end (b ∷ bs) ≡ cond (is_line_end b) 1 0 + count_by is_line_end bs = sum_by-cons (λ x. cond (is_line_end x) 1 0) b bs in
    omega (arith, first, rest, cons)
