-- A hello's body in its parts.
use Rattle.std.proofs.Common.{arith, ℕ, ◌≡◌, ◌+◌, ◌-◌, ◌<◌, ◌≤◌, sym, ◌∙◌, ap, List, ◌++◌, length, get_or, take, drop, length-drop}
use Rattle.std.proofs.lemmas.List.{take_rest, take_all, drop-drop, get_or-drop}
use Rattle.std.proofs.lemmas.List.Elements.{All-from_get_or}
use Rattle.byteorder.specs.Endian.{big_bytes, big_number}
use Rattle.byteorder.specs.Numbers.{big_from-lt}
use Rattle.blic_messages.specs.Reading.{IsHello}
use Rattle.blic_messages.specs.Frames.{hello_body}
use Rattle.blic_messages.proofs.Numbers.{bytes-number}
use Rattle.blic_messages.proofs.Parts.{two_parts}

abbrev Bytes : List ℕ → Type 0
Bytes xs = (k : ℕ) → get_or xs k 0 < 256

bytes_behind : (n : ℕ) (xs : List ℕ) → Bytes xs → Bytes (drop n xs)
bytes_behind n xs bytes k = omega (arith, get_or-drop n xs k 0, bytes (n + k))

-- the number of two bytes that is read at place i
two_at : (xs : List ℕ) (i a : ℕ) → Bytes xs → i + 2 ≤ length xs → a ≡ big_number 2 (take (length xs - i) (drop i xs))
    → (a < 65536) × (take 2 (drop i xs) ≡ big_bytes 2 a)
two_at xs i a bytes room is =
    let e : a ≡ big_number 2 (drop i xs) = is ∙ ap (big_number 2) (take_rest xs i) in (
      let small : big_number 2 (drop i xs) < 65536 = big_from-lt 0 2 (drop i xs) (bytes_behind i xs bytes) in omega arith,
      sym (ap (big_bytes 2) e ∙ bytes-number 2 (drop i xs) (omega (arith, length-drop i xs)) (bytes_behind i xs bytes)),
    )

pub hello_read : (xs digest : List ℕ) (a b c : ℕ) → length xs ≡ 38 → Bytes xs → a ≡ big_number 2 xs
    → b ≡ big_number 2 (take (length xs - 2) (drop 2 xs)) → c ≡ big_number 2 (take (length xs - 4) (drop 4 xs))
    → digest ≡ take (length xs - 6) (drop 6 xs)
    → IsHello (record { wire = a; circuit = b; order = c; digest = digest }) × (xs ≡ hello_body (record { wire = a; circuit = b; order = c; digest = digest }))
hello_read xs digest a b c long bytes p q r e =
    let first = two_at xs 0 a bytes (omega arith) (p ∙ ap (big_number 2) (sym (take_rest xs 0))) in
    let second = two_at xs 2 b bytes (omega arith) q in
    let third = two_at xs 4 c bytes (omega arith) r in
    let last : digest ≡ drop 6 xs = e ∙ take_rest xs 6 in
    let end : take 32 (drop 6 xs) ≡ digest = take_all 32 (drop 6 xs) (omega (arith, length-drop 6 xs)) ∙ sym last in
    let from_four : take 34 (drop 4 xs) ≡ big_bytes 2 c ++ digest =
    two_parts 2 32 (drop 4 xs) (big_bytes 2 c) digest third.1 (ap (take 32) (drop-drop 2 4 xs) ∙ end) in
    let from_two : take 36 (drop 2 xs) ≡ big_bytes 2 b ++ (big_bytes 2 c ++ digest) =
    two_parts 2 34 (drop 2 xs) (big_bytes 2 b) (big_bytes 2 c ++ digest) second.1 (ap (take 34) (drop-drop 2 2 xs) ∙ from_four) in
    let all : take 38 xs ≡ big_bytes 2 a ++ (big_bytes 2 b ++ (big_bytes 2 c ++ digest)) =
    two_parts 2 36 xs (big_bytes 2 a) (big_bytes 2 b ++ (big_bytes 2 c ++ digest)) first.1 from_two in
    let long_digest : length digest ≡ 32 = ap length last ∙ omega (arith, length-drop 6 xs) in (
      record {
        wire = first.0;
        circuit = second.0;
        order = third.0;
        digest = (long_digest, All-from_get_or (λ d. d < 256) digest 0 (λ i l. omega (arith, ap (λ ys. get_or ys i 0) last, bytes_behind 6 xs bytes i)));
      },
      sym (take_all 38 xs (omega arith)) ∙ all,
    )
