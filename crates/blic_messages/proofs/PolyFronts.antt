-- What the bytes of polynomials begin with, byte by byte.
use Rattle.std.proofs.Common.{arith, ℕ, zero, suc, ◌≡◌, ◌≢◌, ◌+◌, ◌-◌, ◌*◌, ◌/◌, ◌%◌, ◌<◌, ◌≤◌, Bool, true, false, nat_lt, refl, ap, sym, ◌∙◌, List, [], ◌∷◌, ◌++◌, length, get_or, take, drop, length-append, length-drop}
use mathlib.Core.Path.{ap₂}
use Rattle.std.proofs.lemmas.List.{append-nil, take_all, take_more, take-append-le, drop-append-le, drop-drop, drop_all}
use Rattle.std.proofs.lemmas.List.Elements.{All-head}
use Rattle.byteorder.specs.Endian.{big_number}
use Rattle.byteorder.specs.Numbers.{big_from-take}
use Rattle.blic_field.specs.Field.{modulus}
use Rattle.blic_field.specs.Quadratic.{HasElements}
use Rattle.blic_messages.specs.Frames.{poly_body}
use Rattle.blic_messages.specs.Grammar.{Part, Element, is_part, Judged, Good, Bad, Short, judged, Partial, front_of_judged}
use Rattle.blic_messages.specs.Fronts.{reply_grammar, reply_in, polys_in}
use Rattle.blic_messages.proofs.Judging.{is_below, at_least, total_gt, behind, judged_short, judged_part}
use Rattle.blic_messages.proofs.Headers.{Bytes, body_front}
use Rattle.blic_messages.proofs.PolyParts.{NoPoly}
use Rattle.blic_messages.proofs.ReplyBodies.{many, is_length, polys_from, polys_parts, polys_spelled}

-- before the first element is whole
pub polys_start : (len : ℕ) (body : List ℕ) → is_length len ≡ true → length body < 8 → body_front reply_grammar 130 len body ≡ Partial
polys_start len body test few =
    let h = polys_from 130 len test in
    let n = len / 24 in
    let m = 3 * n - 1 in
    let some : 3 * n ≡ suc m = let l = h.2 in omega arith in
    ap (λ l. body_front reply_grammar 130 l body) h.1
    ∙ (ap (λ o. Rattle.blic_messages.specs.Grammar.front_of_body reply_grammar 130 (24 * n) o body) (polys_parts n h.2 h.3)
    ∙ ap (front_of_judged (reply_in 130 (take (24 * n) body)) (5 + 24 * n)) (ap (λ k. judged (many k) body) some ∙ judged_short Element (many m) body few))

-- an element that is there, in front of a part to come
passed : (m : ℕ) (old : List ℕ) → judged (many (suc m)) old ≡ Short → 8 ≤ length old
    → (is_part Element (take 8 old) ≡ true) × (judged (many m) (drop 8 old) ≡ Short)
passed m old short room = by_test (is_part Element (take 8 old)) (sym (judged_part Element (many m) old room) ∙ short)
  where
    by_test : (t : Bool) → behind t (judged (many m) (drop 8 old)) ≡ Short → (t ≡ true) × (judged (many m) (drop 8 old) ≡ Short)
    by_test true e = (refl, e)
    by_test false e = cc

-- what is told with the byte is told behind that element
behind_passed : (m : ℕ) (old : List ℕ) (b : ℕ) → judged (many (suc m)) old ≡ Short → 8 ≤ length old
    → judged (many (suc m)) (old ++ b ∷ []) ≡ judged (many m) (drop 8 old ++ b ∷ [])
behind_passed m old b short room =
    let h = passed m old short room in
    judged_part Element (many m) (old ++ b ∷ []) (omega (arith, length-append old (b ∷ [])))
    ∙ (ap (λ xs. behind (is_part Element xs) (judged (many m) (drop 8 (old ++ b ∷ [])))) (take-append-le 8 old (b ∷ []) room)
    ∙ (ap (λ t. behind t (judged (many m) (drop 8 (old ++ b ∷ [])))) h.0 ∙ ap (judged (many m)) (drop-append-le 8 old (b ∷ []) room)))

-- a byte that ends no element
pub inside_element : (m : ℕ) (old : List ℕ) (b : ℕ) → judged (many m) old ≡ Short → (length old + 1) % 8 ≢ 0 → judged (many m) (old ++ b ∷ []) ≡ Short
inside_element zero old b short within = cc
inside_element (suc m) old b short within = by_test (nat_lt (length old) 8) refl (inside_element m (drop 8 old) b)
  where
    by_test : (t : Bool) → nat_lt (length old) 8 ≡ t → (judged (many m) (drop 8 old) ≡ Short → (length (drop 8 old) + 1) % 8 ≢ 0 → judged (many m) (drop 8 old ++ b ∷ []) ≡ Short)
        → judged (many (suc m)) (old ++ b ∷ []) ≡ Short
    by_test true e later =
        let few = is_below (length old) 8 e in
        judged_short Element (many m) (old ++ b ∷ []) (omega (arith, length-append old (b ∷ [])))
    by_test false e later =
        let room = at_least (length old) 8 e in
        behind_passed m old b short room ∙ later (passed m old short room).1 (omega (arith, length-drop 8 old))

-- a byte that ends element j
pub end_element : (m : ℕ) (old : List ℕ) (b j : ℕ) → judged (many m) old ≡ Short → length old + 1 ≡ 8 * j + 8
    → judged (many m) (old ++ b ∷ []) ≡ behind (nat_lt (big_number 8 (drop (8 * j) (old ++ b ∷ []))) modulus) (judged (many (m - (j + 1))) [])
end_element zero old b j short long = cc
end_element (suc m) old b zero short long =
    let xs = old ++ b ∷ [] in
    let size : length xs ≡ 8 = omega (arith, length-append old (b ∷ [])) in
    judged_part Element (many m) xs (omega arith)
    ∙ (ap (λ n. behind (nat_lt n modulus) (judged (many m) (drop 8 xs))) (big_from-take 0 8 8 xs (omega arith))
    ∙ (ap (λ ys. behind (nat_lt (big_number 8 xs) modulus) (judged (many m) ys)) (drop_all 8 xs (omega arith))
    ∙ ap (λ k. behind (nat_lt (big_number 8 xs) modulus) (judged (many k) [])) (let e : m ≡ suc m - (0 + 1) = omega arith in e)))
end_element (suc m) old b (suc j) short long =
    let room : 8 ≤ length old = omega arith in
    let later = end_element m (drop 8 old) b j (passed m old short room).1 (omega (arith, length-drop 8 old)) in
    let same : drop (8 * j) (drop 8 old ++ b ∷ []) ≡ drop (8 * suc j) (old ++ b ∷ []) =
    ap (drop (8 * j)) (sym (drop-append-le 8 old (b ∷ []) room)) ∙ (drop-drop (8 * j) 8 (old ++ b ∷ []) ∙ ap (λ k. drop k (old ++ b ∷ [])) (let e : 8 + 8 * j ≡ 8 * suc j = omega arith in e)) in
    behind_passed m old b short room
    ∙ (later
    ∙ ap₂ (λ ys k. behind (nat_lt (big_number 8 ys) modulus) (judged (many k) [])) same (let e : m - (j + 1) ≡ suc m - (suc j + 1) = omega arith in e))

pub some_to_come : (k : ℕ) → 1 ≤ k → judged (many k) [] ≡ Short
some_to_come zero l = absurd (omega arith)
some_to_come (suc k) l = judged_short Element (many k) [] (omega arith)

-- the last byte and those before it
pub last_byte : (part : List ℕ) → 1 ≤ length part → part ≡ take (length part - 1) part ++ get_or part (length part - 1) 0 ∷ []
last_byte part some =
    sym (take_all (length part - 1 + 1) part (omega arith)) ∙ take_more part (length part - 1) 0 (omega arith)

-- 24 bytes that are no polynomial's
pub bad_poly : (part : List ℕ) → length part ≡ 24 → Bytes part → NoPoly part → judged (many 3) part ≡ Bad
bad_poly part long bytes never = by_judged (judged (many 3) part) refl
  where
    by_judged : (j : Judged) → judged (many 3) part ≡ j → j ≡ Bad
    by_judged Good e =
        let h = polys_spelled 1 part long bytes e in
        let p = get_or (polys_in 1 part) 0 (record { c0 = 0; c1 = 0; c2 = 0 }) in
        absurd (never p (All-head HasElements p [] h.0) (take_all 24 part (omega arith) ∙ (h.1 ∙ append-nil (poly_body p))))
    by_judged Bad e = refl
    by_judged Short e = let few = total_gt (many 3) part e in absurd (omega arith)
