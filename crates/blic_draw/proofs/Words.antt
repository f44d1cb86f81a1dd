-- The words of a draw.
use Rattle.std.proofs.Common.{arith, ◌≡◌, ◌≤◌, ◌+◌, ◌^◌, ℕ, ◌*◌, ◌%◌, ap, ◌∙◌, List}
use mathlib.Core.Path.{ap₂}
use Rattle.rand_chacha.specs.ChaCha.{ChaCha, key_of, word_at}
use Rattle.blic_draw.specs.Draws.{draw_at, element_of, word_of}

-- two words in a row
pub draw_of_words : (seed : List ℕ) (place low high : ℕ) → low ≡ word_of seed (2 * place) → high ≡ word_of seed (2 * place + 1)
    → element_of ((low + 4294967296 * high) % 2305843009213693952) ≡ draw_at seed place
unfolding draw_at
draw_of_words seed place low high l h = ap₂ (λ a b. element_of ((a + 4294967296 * b) % 2305843009213693952)) l h

-- the place of the second word
pub place_after : (place : ℕ) → place ≤ 2 ^ 62 → (2 * place + 1) % 2 ^ 68 ≡ 2 * place + 1
place_after place l = omega arith

-- the word after that of a draw's start
pub second_word : (g : ChaCha) (seed : List ℕ) (place : ℕ) → g ≡ record { key = key_of seed; stream = 0; word_pos = 2 * place } → place ≤ 2 ^ 62
    → word_at 10 g.key g.stream ((g.word_pos + 1) % 2 ^ 68) ≡ word_of seed (2 * place + 1)
second_word g seed place e l = ap (λ h. word_at 10 h.key h.stream ((h.word_pos + 1) % 2 ^ 68)) e ∙ ap (word_of seed) (place_after place l)
