-- Numbers out of bytes, both ways.
use Rattle.std.proofs.Common.{arith, ℕ, zero, suc, ◌≡◌, ◌+◌, ◌*◌, ◌^◌, ◌/◌, ◌%◌, ◌<◌, ◌≤◌, refl, sym, ◌∙◌, ap, List, [], ◌∷◌, ◌++◌, length, get_or, take, drop}
use Rattle.std.proofs.Math.Nat.{div-one, one-le-pow, mul-add-div_right, mul-add-mod_self_right, div-eq_of_lt, mul_assoc, pow-succ'}
use Rattle.std.proofs.lemmas.List.{take-append-drop}
use Rattle.std.specs.Int.{byte_at, bytes_high_first}
use Rattle.byteorder.specs.Endian.{big_from}
use Rattle.byteorder.specs.Numbers.{big_from-cons, big_from-lt, big_number-reads_back}

above_zero : (n : ℕ) → 0 < 256 ^ n
above_zero n = let h = one-le-pow n 256 (omega arith) in omega arith

byte_by_power : (k x : ℕ) → byte_at k x ≡ x / 256 ^ k % 256
byte_by_power zero x = ap (λ (y : ℕ). y % 256) (sym (div-one x))
byte_by_power (suc k) x = refl

-- the low bytes see nothing of what stands above them
low_bytes : (n a r : ℕ) → bytes_high_first n (a * 256 ^ n + r) ≡ bytes_high_first n r
low_bytes zero a r = refl
low_bytes (suc n) a r =
    let up : a * 256 ^ suc n ≡ a * 256 * 256 ^ n = ap (λ (p : ℕ). a * p) (pow-succ' 256 n) ∙ sym (mul_assoc a 256 (256 ^ n)) in
    let byte : byte_at n (a * 256 * 256 ^ n + r) ≡ byte_at n r =
    byte_by_power n (a * 256 * 256 ^ n + r)
    ∙ (ap (λ (y : ℕ). y % 256) (mul-add-div_right (above_zero n) (a * 256) r)
    ∙ (mul-add-mod_self_right a 256 (r / 256 ^ n) ∙ sym (byte_by_power n r))) in
    let rest = low_bytes n (a * 256) r in
    rw (up, byte, rest) refl

-- the bytes of the number in the first n bytes are these
pub bytes-number : (n : ℕ) (xs : List ℕ) → n ≤ length xs → ((k : ℕ) → get_or xs k 0 < 256) → bytes_high_first n (big_from 0 n xs) ≡ take n xs
bytes-number zero xs l h = refl
bytes-number (suc n) [] l h = absurd (omega arith)
bytes-number (suc n) (x ∷ xs) l h =
    let below : (k : ℕ) → get_or xs k 0 < 256 = λ k. h (suc k) in
    let byte : x < 256 = h 0 in
    let fits : big_from 0 n xs < 256 ^ n = big_from-lt 0 n xs below in
    let top : byte_at n (x * 256 ^ n + big_from 0 n xs) ≡ x =
    byte_by_power n (x * 256 ^ n + big_from 0 n xs)
    ∙ (ap (λ (y : ℕ). y % 256) (mul-add-div_right (above_zero n) x (big_from 0 n xs))
    ∙ (ap (λ (y : ℕ). (x + y) % 256) (div-eq_of_lt fits) ∙ omega arith)) in
    let low = low_bytes n x (big_from 0 n xs) in
    let rest = bytes-number n xs (omega arith) below in
    rw (big_from-cons 0 n x xs, top, low, rest) refl

-- the number in front of which its bytes stand
pub number-bytes : (n x : ℕ) (xs : List ℕ) → x < 256 ^ n → take n xs ≡ bytes_high_first n x → big_from 0 n xs ≡ x
number-bytes n x xs l e =
    ap (big_from 0 n) (sym (take-append-drop n xs) ∙ ap (λ ys. ys ++ drop n xs) e) ∙ big_number-reads_back n x (drop n xs) l
