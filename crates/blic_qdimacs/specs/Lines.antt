-- The lines of a text, and the words (tokens) on them.
use Rattle.std.specs.Prelude.{ℕ, ◌+◌, ◌==◌, Bool, true, false, ◌||◌, cond, List, [], ◌∷◌, length, filter}

-- the first part, with a byte before it
abbrev pub onto_first : ℕ → List (List ℕ) → List (List ℕ)
onto_first b [] = (b ∷ []) ∷ []
onto_first b (part ∷ parts) = (b ∷ part) ∷ parts

-- a separator ends a part, any other byte stands in one
abbrev pub split_step : (ℕ → Bool) → ℕ → List (List ℕ) → List (List ℕ)
split_step is_separator b parts = cond (is_separator b) ([] ∷ parts) (onto_first b parts)

-- the parts between the separators, the empty ones too
abbrev pub parts_of : (ℕ → Bool) → List ℕ → List (List ℕ)
parts_of is_separator [] = [] ∷ []
parts_of is_separator (b ∷ bs) = split_step is_separator b (parts_of is_separator bs)

-- a line feed
abbrev pub is_line_end : ℕ → Bool
is_line_end b = b == 10

-- a space, a tab or a carriage return
abbrev pub is_blank : ℕ → Bool
is_blank b = b == 32 || b == 9 || b == 13

-- a word, its line, and the number of the byte after it
pub record Word : Type 0 where
  pub line : ℕ
  pub text : List ℕ
  pub after : ℕ

-- the parts of a line as words, if n bytes stand before the first part: each ends before a blank or the line's end
abbrev pub placed_words : ℕ → ℕ → List (List ℕ) → List Word
placed_words line n [] = []
placed_words line n (part ∷ parts) =
    record { line = line; text = part; after = n + length part + 1 } ∷ placed_words line (n + length part + 1) parts

-- it has a byte
abbrev pub is_some_text : List ℕ → Bool
is_some_text [] = false
is_some_text (b ∷ bs) = true

-- the longest runs of bytes other than blanks
abbrev pub words_of : ℕ → ℕ → List ℕ → List Word
words_of line n bytes = filter (λ w. is_some_text w.text) (placed_words line n (parts_of is_blank bytes))

-- the first byte other than a blank is `c`
abbrev pub is_comment : List ℕ → Bool
is_comment [] = false
is_comment (b ∷ bs) = cond (is_blank b) (is_comment bs) (b == 99)

-- a line, and the number of the byte that ends it
pub record Line : Type 0 where
  pub number : ℕ
  pub words : List Word
  pub after : ℕ

-- a line whose first byte is the one after the first n: a comment has no words
abbrev pub line_of : ℕ → ℕ → List ℕ → Line
line_of number n bytes =
    record { number = number; words = cond (is_comment bytes) [] (words_of number n bytes); after = n + length bytes + 1 }

-- the parts of a text as lines, if n bytes stand before the first one
abbrev pub placed_lines : ℕ → ℕ → List (List ℕ) → List Line
placed_lines number n [] = []
placed_lines number n (bytes ∷ more) = line_of number n bytes ∷ placed_lines (number + 1) (n + length bytes + 1) more

-- there is a word on it
abbrev pub has_words : Line → Bool
has_words l = has_some l.words
  where
    has_some : List Word → Bool
    has_some [] = false
    has_some (w ∷ ws) = true

-- the lines that have words; all lines are counted, from 1
abbrev pub lines_of : List ℕ → List Line
lines_of bytes = filter has_words (placed_lines 1 0 (parts_of is_line_end bytes))
