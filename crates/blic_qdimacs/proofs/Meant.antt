-- What the bytes do is what they mean.
use Rattle.std.proofs.Common.{◌≡◌, ℕ, ◌+◌, Bool, true, false, cond, List, [], ◌∷◌, ◌++◌, length, refl, ap, sym, ◌∙◌, arith, Option, Some, None, subst, Result, Ok, Err, nat_le, take, length-append}
use Rattle.std.specs.Prelude.{IfSome, filter, count_by}
use Rattle.blic_model.specs.Formula.{PrenexFormula}
use Rattle.blic_qdimacs.specs.declared.error.ReadError.{ReadError}
use Rattle.blic_qdimacs.specs.declared.error.ReadError.TheVariants as errors
use Rattle.blic_qdimacs.specs.Binding.{◌>>=◌}
use Rattle.blic_qdimacs.specs.Lines.{has_words, lines_of, placed_lines, line_of, parts_of, onto_first, is_line_end}
use Rattle.blic_qdimacs.specs.Machine.{Machine, start, after_bytes, line_judged, next_line, read_of, finished, whole_by_bytes, cut_by_bytes, within_by_bytes}
use Rattle.blic_qdimacs.specs.Meaning.{read_until, at_end, whole_meaning, cut_meaning, meaning_within, meaning}
use Rattle.blic_qdimacs.specs.Reading.{Reads}
use Rattle.blic_qdimacs.proofs.Binds.{bind_same, bind_assoc}
use Rattle.blic_qdimacs.proofs.Bytes.{after_bytes-append}
use Rattle.blic_qdimacs.proofs.Counting.{lines_counted}
use Rattle.blic_qdimacs.proofs.Judging.{parser}
use Rattle.blic_qdimacs.proofs.Lexing.{all_events, parts_some}
use Rattle.blic_qdimacs.proofs.Running.{is_within, run_events, calm_end, bytes_run}
use Rattle.blic_qdimacs.proofs.Walking.{lines_front}

parser_calm : (r : Result Machine ReadError) → calm_end r >>= parser ≡ r >>= parser
parser_calm (Ok m) = refl
parser_calm (Err e) = refl

-- what is read of the bytes so far
front : (bytes : List ℕ) → after_bytes start bytes >>= parser ≡ read_until (length bytes) (lines_of bytes)
front bytes =
    let all : length bytes ≡ 0 + length bytes = omega arith in
    sym (parser_calm (after_bytes start bytes))
    ∙ ap (λ r. r >>= parser) (bytes_run bytes (length bytes) 0 all start)
    ∙ ap (λ es. run_events (filter (is_within (length bytes)) es) start >>= parser) (all_events bytes)
    ∙ lines_front (parts_of is_line_end bytes) (length bytes) 1 0

onto_last : (b : ℕ) (t : List ℕ) (ts parts more : List (List ℕ)) → parts ≡ t ∷ ts → onto_first b (parts ++ more) ≡ onto_first b parts ++ more
onto_last b t ts parts more is = ap (λ ps. onto_first b (ps ++ more)) is ∙ sym (ap (λ ps. onto_first b ps ++ more) is)

last_step : (b : ℕ) (t : List ℕ) (ts parts more : List (List ℕ)) (c : Bool) → parts ≡ t ∷ ts
    → cond c ([] ∷ (parts ++ more)) (onto_first b (parts ++ more)) ≡ cond c ([] ∷ parts) (onto_first b parts) ++ more
last_step b t ts parts more true is = refl
last_step b t ts parts more false is = onto_last b t ts parts more is

-- a line end more begins a line without bytes
last_part : (bytes : List ℕ) → parts_of is_line_end (bytes ++ 10 ∷ []) ≡ parts_of is_line_end bytes ++ [] ∷ []
last_part [] = refl
last_part (b ∷ bs) =
    let r = parts_some is_line_end bs in
    ap (λ ps. cond (is_line_end b) ([] ∷ ps) (onto_first b ps)) (last_part bs)
    ∙ last_step b r.0 r.1 (parts_of is_line_end bs) ([] ∷ []) (is_line_end b) r.2

no_line : (parts : List (List ℕ)) (number k : ℕ) → filter has_words (placed_lines number k (parts ++ [] ∷ [])) ≡ filter has_words (placed_lines number k parts)
no_line [] number k = refl
no_line (t ∷ ts) number k =
    ap (λ ls. cond (has_words (line_of number k t)) (line_of number k t ∷ ls) ls) (no_line ts (number + 1) (k + length t + 1))

lines_end : (bytes : List ℕ) → lines_of (bytes ++ 10 ∷ []) ≡ lines_of bytes
lines_end bytes = ap (λ ps. filter has_words (placed_lines 1 0 ps)) (last_part bytes) ∙ no_line (parts_of is_line_end bytes) 1 0

end_judged : (r : Result Machine ReadError) → ((r >>= (λ n. Ok (next_line n))) >>= (λ n. Ok n) >>= parser) >>= at_end ≡ r >>= (λ n. at_end (read_of n))
end_judged (Ok n) = refl
end_judged (Err e) = refl

-- the end is one more line end
pub whole : (bytes : List ℕ) → whole_by_bytes bytes ≡ whole_meaning bytes
whole bytes =
    let line_end : List ℕ = 10 ∷ [] in
    bind_same (after_bytes start bytes) finished (λ m. (after_bytes m line_end >>= parser) >>= at_end) (λ m. sym (end_judged (line_judged m)))
    ∙ sym (bind_assoc (after_bytes start bytes) (λ m. after_bytes m line_end >>= parser) at_end)
    ∙ ap (λ r. r >>= at_end)
    (sym (bind_assoc (after_bytes start bytes) (λ m. after_bytes m line_end) parser) ∙ ap (λ r. r >>= parser) (sym (after_bytes-append bytes line_end start))
    ∙ front (bytes ++ line_end) ∙ ap (λ n. read_until n (lines_of (bytes ++ line_end))) (length-append bytes line_end) ∙ ap (read_until (length bytes + 1)) (lines_end bytes))

abbrev pub too_long : {A : Type 0} → ℕ → A → Result PrenexFormula ReadError
too_long line x = Err (errors.TooLong line)

cut_by : (r : Result Machine ReadError) (line : ℕ) → ((m : Machine) → r ≡ Ok m → m.line ≡ line) → r >>= (λ m. too_long m.line m) ≡ (r >>= parser) >>= too_long line
cut_by (Ok m) line h = ap (λ l. too_long l m) (h m refl)
cut_by (Err e) line h = refl

-- the line of the first byte that is too many
cut : (first : List ℕ) → cut_by_bytes first ≡ cut_meaning first
cut first =
    cut_by (after_bytes start first) (count_by is_line_end first + 1) (λ m reached. let h = lines_counted first start m reached in omega (arith, h))
    ∙ ap (λ r. r >>= too_long (count_by is_line_end first + 1)) (front first)

pub by_bytes : (most : ℕ) (bytes : List ℕ) → within_by_bytes most bytes ≡ meaning_within most bytes
by_bytes most bytes =
    let few = nat_le (length bytes) most in
    ap (λ r. cond few r (cut_by_bytes (take most bytes))) (whole bytes) ∙ ap (λ r. cond few (whole_meaning bytes) r) (cut (take most bytes))

-- what is said of the machine is said of the meaning
pub reads_meant : (old : Option (List ℕ)) (r : Result PrenexFormula ReadError) → IfSome old (λ bytes. Reads r (within_by_bytes 67108864 bytes)) → IfSome old (λ bytes. Reads r (meaning bytes))
reads_meant None r reads = tt
reads_meant (Some bytes) r reads = subst (Reads r) (by_bytes 67108864 bytes) reads
