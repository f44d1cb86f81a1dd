-- The bodies of replies, both ways.
use Rattle.std.proofs.Common.{arith, ℕ, zero, suc, ◌≡◌, ◌+◌, ◌*◌, ◌/◌, ◌%◌, ◌<◌, ◌≤◌, ◌⊎◌, inl, inr, Bool, true, false, ◌&&◌, ◌||◌, ◌==◌, nat_le, cond, refl, ap, sym, ◌∙◌, subst, List, [], ◌∷◌, ◌++◌, length, take, drop, replicate, Option, Some, None}
use mathlib.Core.Path.{ap₂}
use Rattle.std.specs.Prelude.{flat_map, All}
use Rattle.std.proofs.lemmas.List.{append-nil, take_all, take-append-drop, length-drop, drop-drop}
use Rattle.std.proofs.lemmas.List.Elements.{All-cons, All-nil, All-head, All-tail}
use Rattle.byteorder.specs.Endian.{big_bytes, big_number}
use Rattle.byteorder.specs.Numbers.{big_number-reads_back}
use Rattle.blic_field.specs.Field.{modulus}
use Rattle.blic_field.specs.Quadratic.{Quadratic, HasElements}
use Rattle.blic_messages.specs.declared.reply.Refusal.{Refusal}
use Rattle.blic_messages.specs.declared.reply.Refusal.TheVariants as refusals
use Rattle.blic_messages.specs.Replies.{Said, Answer, Polys, Values, Refused}
use Rattle.blic_messages.specs.Frames.{framed, reply_spelling, poly_body, hello_body}
use Rattle.blic_messages.specs.Reading.{IsReply}
use Rattle.blic_messages.specs.Grammar.{Part, Element, OneOf, Free, judged, Good}
use Rattle.blic_messages.specs.Fronts.{reply_grammar, reply_parts, reply_in, polys_in, element_at}
use Rattle.blic_messages.proofs.Bodies.{length-poly_bodies}
use Rattle.blic_messages.proofs.Numbers.{bytes-number}
use Rattle.blic_messages.proofs.Parts.{two_parts}
use Rattle.blic_messages.proofs.Cases.{row, at_row, both, either, equal_from, le_from, le_at}
use Rattle.blic_messages.proofs.Judging.{total, judged_part, judged_good, judged_element, element_good}
use Rattle.blic_messages.proofs.Headers.{Bytes, bytes_drop, HasSizes, IsBodyOf, BodyIsSpelled}
use Rattle.blic_messages.proofs.HelloBack.{length-hello, hello_back, hello_spelled}

abbrev pub many : ℕ → List Part
many n = replicate n Element

abbrev pub is_polys : ℕ → ℕ → Bool
is_polys kind len = kind == 130 && len % 24 == 0 && nat_le 24 len && nat_le len 1572864

pub polys_from : (kind len : ℕ) → is_polys kind len ≡ true → (kind ≡ 130) × (len ≡ 24 * (len / 24)) × (1 ≤ len / 24) × (len / 24 ≤ 65536)
polys_from kind len e =
    let h = both (kind == 130 && len % 24 == 0 && nat_le 24 len) (nat_le len 1572864) e in
    let g = both (kind == 130 && len % 24 == 0) (nat_le 24 len) h.0 in
    let f = both (kind == 130) (len % 24 == 0) g.0 in
    let whole = equal_from (len % 24) 0 f.1 in
    let some = le_from 24 len g.1 in
    let few = le_from len 1572864 h.1 in
    (equal_from kind 130 f.0, omega arith, omega arith, omega arith)

-- the rows of the table
pub reply_rows : (P : ℕ → ℕ → List Part → Type 0) → P 129 1 (OneOf (0 ∷ 1 ∷ []) ∷ [])
    → ((n : ℕ) → 1 ≤ n → n ≤ 65536 → P 130 (24 * n) (many (3 * n))) → P 131 16 (Element ∷ Element ∷ [])
    → P 132 1 (OneOf (1 ∷ 2 ∷ 4 ∷ []) ∷ []) → P 132 39 (OneOf (3 ∷ []) ∷ Free 38 ∷ [])
    → (kind len : ℕ) (ps : List Part) → reply_parts kind len ≡ Some ps → P kind len ps
reply_rows P answer polys values refused not_served kind len ps e =
    elim (row (kind == 129 && len == 1) (OneOf (0 ∷ 1 ∷ []) ∷ []) ps _ e) [
      | inl h ↦ at_row P kind len 129 1 (OneOf (0 ∷ 1 ∷ []) ∷ []) ps answer h.0 h.1
      | inr e ↦ elim (row (is_polys kind len) (many (len / 8)) ps _ e) [
        | inl h ↦ at_polys (polys_from kind len h.0) h.1
        | inr e ↦ elim (row (kind == 131 && len == 16) (Element ∷ Element ∷ []) ps _ e) [
          | inl h ↦ at_row P kind len 131 16 (Element ∷ Element ∷ []) ps values h.0 h.1
          | inr e ↦ elim (row (kind == 132 && len == 1) (OneOf (1 ∷ 2 ∷ 4 ∷ []) ∷ []) ps _ e) [
            | inl h ↦ at_row P kind len 132 1 (OneOf (1 ∷ 2 ∷ 4 ∷ []) ∷ []) ps refused h.0 h.1
            | inr e ↦ elim (row (kind == 132 && len == 39) (OneOf (3 ∷ []) ∷ Free 38 ∷ []) ps None e) [
              | inl h ↦ at_row P kind len 132 39 (OneOf (3 ∷ []) ∷ Free 38 ∷ []) ps not_served h.0 h.1
              | inr e ↦ cc
            ]
          ]
        ]
      ]
    ]
  where
    at_polys : (kind ≡ 130) × (len ≡ 24 * (len / 24)) × (1 ≤ len / 24) × (len / 24 ≤ 65536) → many (len / 8) ≡ ps → P kind len ps
    at_polys h same =
        let n = len / 24 in
        let e = h.1 in
        let thirds : 3 * n ≡ len / 8 = omega arith in
        subst (P kind len) same
        (subst (λ k. P kind len (many k)) thirds
        (subst (λ l. P kind l (many (3 * n))) (sym e) (subst (λ k. P k (24 * n) (many (3 * n))) (sym h.0) (polys n h.2 h.3))))

-- none of the rows
pub no_reply : (kind len : ℕ) → (kind ≡ 129 → len ≡ 1 → ⊥) → (kind ≡ 130 → (n : ℕ) → 1 ≤ n → n ≤ 65536 → len ≡ 24 * n → ⊥) → (kind ≡ 131 → len ≡ 16 → ⊥)
    → (kind ≡ 132 → len ≡ 1 → ⊥) → (kind ≡ 132 → len ≡ 39 → ⊥) → reply_parts kind len ≡ None
no_reply kind len answer polys values refused not_served = by_parts (reply_parts kind len) refl
  where
    by_parts : (o : Option (List Part)) → reply_parts kind len ≡ o → o ≡ None
    by_parts None e = refl
    by_parts (Some ps) e =
        absurd (reply_rows (λ k l ps. kind ≡ k → len ≡ l → ⊥) answer (λ n some few k l. polys k n some few l) values refused not_served kind len ps e refl refl)

pub total_many : (n : ℕ) → total (many n) ≡ 8 * n
total_many zero = refl
total_many (suc n) = omega (arith, total_many n)

pub reply_sizes : HasSizes reply_grammar
reply_sizes = reply_rows (λ kind len ps. total ps ≡ len) refl (λ n some few. omega (arith, total_many (3 * n))) refl refl refl

abbrev Spelled : ℕ → ℕ → List Part → Type 0
Spelled kind len ps =
    (b : List ℕ) → length b ≡ len → Bytes b → judged ps b ≡ Good → IsReply (reply_in kind b) × (framed kind b ≡ reply_spelling (reply_in kind b))

-- what is said by a body of one byte
abbrev OneByte : ℕ → ℕ → Type 0
OneByte kind x = IsReply (reply_in kind (x ∷ [])) × (framed kind (x ∷ []) ≡ reply_spelling (reply_in kind (x ∷ [])))

code_of_two : (a b x : ℕ) → (a == x || (b == x || false)) ≡ true → (x ≡ a) ⊎ (x ≡ b)
code_of_two a b x e =
    elim (either (a == x) (b == x || false) e) [
      | inl h ↦ inl (sym (equal_from a x h))
      | inr h ↦ elim (either (b == x) false h) [
        | inl g ↦ inr (sym (equal_from b x g))
        | inr g ↦ cc
      ]
    ]

answer_spelled : Spelled 129 1 (OneOf (0 ∷ 1 ∷ []) ∷ [])
answer_spelled [] long bytes good = absurd (omega arith)
answer_spelled (x ∷ y ∷ ys) long bytes good = absurd (omega arith)
answer_spelled (x ∷ []) long bytes good =
    let h = judged_good (OneOf (0 ∷ 1 ∷ [])) [] (x ∷ []) good in
    elim (code_of_two 0 1 x h.1) [
      | inl e ↦ subst (OneByte 129) (sym e) (tt, refl)
      | inr e ↦ subst (OneByte 129) (sym e) (tt, refl)
    ]

refused_spelled : Spelled 132 1 (OneOf (1 ∷ 2 ∷ 4 ∷ []) ∷ [])
refused_spelled [] long bytes good = absurd (omega arith)
refused_spelled (x ∷ y ∷ ys) long bytes good = absurd (omega arith)
refused_spelled (x ∷ []) long bytes good =
    let h = judged_good (OneOf (1 ∷ 2 ∷ 4 ∷ [])) [] (x ∷ []) good in
    elim (either (1 == x) (2 == x || (4 == x || false)) h.1) [
      | inl e ↦ subst (OneByte 132) (equal_from 1 x e) (tt, refl)
      | inr e ↦ elim (code_of_two 2 4 x e) [
        | inl e ↦ subst (OneByte 132) (sym e) (tt, refl)
        | inr e ↦ subst (OneByte 132) (sym e) (tt, refl)
      ]
    ]

abbrev NotServedSpelled : List ℕ → ℕ → Type 0
NotServedSpelled served x = IsReply (reply_in 132 (x ∷ served)) × (framed 132 (x ∷ served) ≡ reply_spelling (reply_in 132 (x ∷ served)))

not_served_spelled : Spelled 132 39 (OneOf (3 ∷ []) ∷ Free 38 ∷ [])
not_served_spelled [] long bytes good = absurd (omega arith)
not_served_spelled (x ∷ served) long bytes good =
    let h = judged_good (OneOf (3 ∷ [])) (Free 38 ∷ []) (x ∷ served) good in
    let s = hello_spelled served (omega arith) (λ k. bytes (suc k)) in
    elim (either (3 == x) false h.1) [
      | inl e ↦ subst (NotServedSpelled served) (equal_from 3 x e) (s.0, ap (λ b. framed 132 (3 ∷ b)) s.1)
      | inr e ↦ cc
    ]

-- the number of an element in front, and its bytes
element_spelled : (b : List ℕ) → 8 ≤ length b → Bytes b → take 8 b ≡ big_bytes 8 (big_number 8 b)
element_spelled b room bytes = sym (bytes-number 8 b room bytes)

values_spelled : Spelled 131 16 (Element ∷ Element ∷ [])
values_spelled b long bytes good =
    let first = element_good (Element ∷ []) b good in
    let second = element_good [] (drop 8 b) first.2 in
    let u = big_number 8 b in
    let w = big_number 8 (drop 8 b) in (
      (first.1, second.1),
      ap (framed 131) (sym (take_all 16 b (omega arith))
          ∙ two_parts 8 8 b (big_bytes 8 u) (big_bytes 8 w) (element_spelled b first.0 bytes) (element_spelled (drop 8 b) second.0 (bytes_drop 8 b bytes))),
    )

pub polys_spelled : (n : ℕ) (b : List ℕ) → length b ≡ 24 * n → Bytes b → judged (many (3 * n)) b ≡ Good
    → All HasElements (polys_in n b) × (b ≡ flat_map poly_body (polys_in n b))
polys_spelled zero [] long bytes good = (All-nil HasElements, refl)
polys_spelled zero (x ∷ b) long bytes good = absurd (omega arith)
polys_spelled (suc n) b long bytes good =
    let three : 3 * suc n ≡ suc (suc (suc (3 * n))) = omega arith in
    let first = element_good (many (suc (suc (3 * n)))) b (ap (λ k. judged (many k) b) (sym three) ∙ good) in
    let second = element_good (many (suc (3 * n))) (drop 8 b) first.2 in
    let third = element_good (many (3 * n)) (drop 8 (drop 8 b)) second.2 in
    let at16 : drop 8 (drop 8 b) ≡ drop 16 b = drop-drop 8 8 b in
    let at24 : drop 8 (drop 8 (drop 8 b)) ≡ drop 24 b = ap (drop 8) at16 ∙ drop-drop 8 16 b in
    let p : Quadratic = record { c0 = element_at 0 b; c1 = element_at 1 b; c2 = element_at 2 b } in
    let rest = polys_spelled n (drop 24 b) (omega (arith, length-drop 24 b)) (bytes_drop 24 b bytes) (ap (judged (many (3 * n))) (sym at24) ∙ third.2) in
    let small : big_number 8 (drop 16 b) < modulus = subst (λ xs. big_number 8 xs < modulus) at16 third.1 in
    let tail : take 16 (drop 8 b) ≡ big_bytes 8 p.c1 ++ big_bytes 8 p.c2 =
    two_parts 8 8 (drop 8 b) (big_bytes 8 p.c1) (big_bytes 8 p.c2) (element_spelled (drop 8 b) second.0 (bytes_drop 8 b bytes))
    (ap (take 8) at16 ∙ element_spelled (drop 16 b) (omega (arith, length-drop 16 b)) (bytes_drop 16 b bytes)) in
    let piece : take 24 b ≡ poly_body p = two_parts 8 16 b (big_bytes 8 p.c0) (big_bytes 8 p.c1 ++ big_bytes 8 p.c2) (element_spelled b first.0 bytes) tail in (
      All-cons HasElements p (polys_in n (drop 24 b)) (first.1, second.1, small) rest.0,
      sym (take-append-drop 24 b) ∙ ap₂ (λ xs ys. xs ++ ys) piece rest.1,
    )

abbrev PolysRead : List ℕ → ℕ → Type 0
PolysRead b n = IsReply (Polys (polys_in n b)) × (framed 130 b ≡ reply_spelling (Polys (polys_in n b)))

all_spelled : (n : ℕ) → 1 ≤ n → n ≤ 65536 → Spelled 130 (24 * n) (many (3 * n))
all_spelled n some few b long bytes good =
    let h = polys_spelled n b long bytes good in
    let count : length b / 24 ≡ n = omega arith in
    let long' : 24 * n ≡ 24 * length (polys_in n b) = sym long ∙ (ap length h.1 ∙ length-poly_bodies (polys_in n b)) in
    subst (PolysRead b) (sym count) ((omega arith, omega arith, h.0), ap (framed 130) h.1)

pub reply_body_spelled : BodyIsSpelled reply_grammar IsReply reply_spelling
reply_body_spelled kind ps b bytes has good =
    reply_rows Spelled answer_spelled all_spelled values_spelled refused_spelled not_served_spelled kind (length b) ps has b refl bytes good

-- polynomials in front
pub judged_polys : (ps : List Quadratic) (n : ℕ) (b : List ℕ) → All HasElements ps → judged (many (3 * length ps + n)) (flat_map poly_body ps ++ b) ≡ judged (many n) b
judged_polys [] n b ok = ap (λ k. judged (many k) b) (let e : 3 * 0 + n ≡ n = omega arith in e)
judged_polys (p ∷ ps) n b ok =
    let here = All-head HasElements p ps ok in
    let rest = flat_map poly_body ps ++ b in
    let m = 3 * length ps + n in
    let three : 3 * suc (length ps) + n ≡ suc (suc (suc m)) = omega arith in
    ap (λ k. judged (many k) (flat_map poly_body (p ∷ ps) ++ b)) three
    ∙ (judged_element (many (suc (suc m))) p.c0 (big_bytes 8 p.c1 ++ (big_bytes 8 p.c2 ++ rest)) here.0
    ∙ (judged_element (many (suc m)) p.c1 (big_bytes 8 p.c2 ++ rest) here.1
    ∙ (judged_element (many m) p.c2 rest here.2 ∙ judged_polys ps n b (All-tail HasElements p ps ok))))

pub polys_back : (ps : List Quadratic) → All HasElements ps → polys_in (length ps) (flat_map poly_body ps) ≡ ps
polys_back [] ok = refl
polys_back (p ∷ ps) ok =
    let here = All-head HasElements p ps ok in
    let rest = flat_map poly_body ps in
    let first : big_number 8 (flat_map poly_body (p ∷ ps)) ≡ p.c0 = big_number-reads_back 8 p.c0 (big_bytes 8 p.c1 ++ (big_bytes 8 p.c2 ++ rest)) (let l = here.0 in omega arith) in
    let second : big_number 8 (drop 8 (flat_map poly_body (p ∷ ps))) ≡ p.c1 = big_number-reads_back 8 p.c1 (big_bytes 8 p.c2 ++ rest) (let l = here.1 in omega arith) in
    let third : big_number 8 (drop 16 (flat_map poly_body (p ∷ ps))) ≡ p.c2 = big_number-reads_back 8 p.c2 rest (let l = here.2 in omega arith) in
    ap₂ (λ q qs. q ∷ qs) (λ i. record { c0 = first i; c1 = second i; c2 = third i }) (polys_back ps (All-tail HasElements p ps ok))

abbrev pub is_length : ℕ → Bool
is_length len = len % 24 == 0 && nat_le 24 len && nat_le len 1572864

pub length_is : (n : ℕ) → 1 ≤ n → n ≤ 65536 → is_length (24 * n) ≡ true
length_is n some few =
    let m = 24 * n in
    let whole : m % 24 == 0 ≡ true = ap (λ k. k == 0) (let e : m % 24 ≡ 0 = omega arith in e) in
    ap (λ t. t && nat_le 24 m && nat_le m 1572864) whole
    ∙ (ap (λ t. t && nat_le m 1572864) (le_at 24 m (omega arith)) ∙ le_at m 1572864 (omega arith))

pub polys_parts : (n : ℕ) → 1 ≤ n → n ≤ 65536 → reply_parts 130 (24 * n) ≡ Some (many (3 * n))
polys_parts n some few =
    let row : Option (List Part) = None in
    ap (λ t. cond t (Some (many (24 * n / 8))) row) (length_is n some few) ∙ ap (λ k. Some (many k)) (let e : 24 * n / 8 ≡ 3 * n = omega arith in e)

pub polys_body : (ps : List Quadratic) → IsReply (Polys ps) → IsBodyOf reply_grammar (reply_spelling (Polys ps)) (Polys ps)
polys_body ps ok =
    let long = length-poly_bodies ps in
    let some = ok.0 in
    let few = ok.1 in
    let whole : judged (many (3 * length ps + 0)) (flat_map poly_body ps ++ []) ≡ Good = judged_polys ps 0 [] ok.2 in
    record {
      kind = 130;
      body = flat_map poly_body ps;
      parts = many (3 * length ps);
      is = refl;
      short = omega arith;
      has = ap (reply_parts 130) long ∙ polys_parts (length ps) some few;
      good = ap₂ (λ k b. judged (many k) b) (let e : 3 * length ps ≡ 3 * length ps + 0 = omega arith in e) (sym (append-nil (flat_map poly_body ps))) ∙ whole;
      frame = ap Polys (ap (λ n. polys_in n (flat_map poly_body ps)) (let e : length (flat_map poly_body ps) / 24 ≡ length ps = omega arith in e) ∙ polys_back ps ok.2);
    }

refusal_body_of : (r : Refusal) → IsReply (Refused r) → IsBodyOf reply_grammar (reply_spelling (Refused r)) (Refused r)
refusal_body_of refusals.OutOfTurn ok =
    record { kind = 132; body = 1 ∷ []; parts = OneOf (1 ∷ 2 ∷ 4 ∷ []) ∷ []; is = refl; short = omega arith; has = refl; good = refl; frame = refl }
refusal_body_of refusals.NothingLeft ok =
    record { kind = 132; body = 2 ∷ []; parts = OneOf (1 ∷ 2 ∷ 4 ∷ []) ∷ []; is = refl; short = omega arith; has = refl; good = refl; frame = refl }
refusal_body_of (refusals.NotServed h) ok =
    let long = length-hello h ok in
    record {
      kind = 132;
      body = 3 ∷ hello_body h;
      parts = OneOf (3 ∷ []) ∷ Free 38 ∷ [];
      is = refl;
      short = omega arith;
      has = ap (reply_parts 132) (let e : length (3 ∷ hello_body h) ≡ 39 = omega arith in e);
      good = judged_part (OneOf (3 ∷ [])) (Free 38 ∷ []) (3 ∷ hello_body h) (omega arith) ∙ judged_part (Free 38) [] (hello_body h) (omega arith);
      frame = ap (λ g. Refused (refusals.NotServed g)) (hello_back h ok);
    }
refusal_body_of refusals.Broken ok =
    record { kind = 132; body = 4 ∷ []; parts = OneOf (1 ∷ 2 ∷ 4 ∷ []) ∷ []; is = refl; short = omega arith; has = refl; good = refl; frame = refl }

pub reply_body : (s : Said) → IsReply s → IsBodyOf reply_grammar (reply_spelling s) s
reply_body (Answer true) ok = record { kind = 129; body = 1 ∷ []; parts = OneOf (0 ∷ 1 ∷ []) ∷ []; is = refl; short = omega arith; has = refl; good = refl; frame = refl }
reply_body (Answer false) ok = record { kind = 129; body = 0 ∷ []; parts = OneOf (0 ∷ 1 ∷ []) ∷ []; is = refl; short = omega arith; has = refl; good = refl; frame = refl }
reply_body (Polys ps) ok = polys_body ps ok
reply_body (Values u w) ok =
    record {
      kind = 131;
      body = big_bytes 8 u ++ big_bytes 8 w;
      parts = Element ∷ Element ∷ [];
      is = refl;
      short = omega arith;
      has = refl;
      good = judged_element (Element ∷ []) u (big_bytes 8 w) ok.0 ∙ judged_element [] w [] ok.1;
      frame = ap₂ Values (big_number-reads_back 8 u (big_bytes 8 w) (let l = ok.0 in omega arith)) (big_number-reads_back 8 w [] (let l = ok.1 in omega arith));
    }
reply_body (Refused r) ok = refusal_body_of r ok
