-- The draws of a seed: numbers of the key stream of ChaCha with 20 rounds (RFC 8439, with a 64-bit counter), read as elements.
use Rattle.std.specs.Prelude.{ℕ, ◌+◌, ◌*◌, ◌%◌, ◌^◌, ◌==◌, cond, List}
use Rattle.rand_chacha.specs.ChaCha.{word_at, key_of}
use Rattle.blic_field.specs.Field.{modulus}

-- word n of the key stream of a seed of 32 bytes: ten double rounds, stream 0
abbrev pub word_of : List ℕ → ℕ → ℕ
word_of seed n = word_at 10 (key_of seed) 0 n

-- 61 bits as an element; all ones are 0 too
abbrev pub element_of : ℕ → ℕ
element_of w = cond (w == modulus) 0 w

-- draw t: the lowest 61 bits of the number whose low half is word 2t and whose high half is word 2t+1
unfoldable pub draw_at : List ℕ → ℕ → ℕ
draw_at seed t = element_of ((word_of seed (2 * t) + 2 ^ 32 * word_of seed (2 * t + 1)) % 2 ^ 61)

-- the draws of a seed from a place on
pub record DrawsFrom : Type 0 where
  pub seed : List ℕ
  pub place : ℕ
