-- The bodies of asks, both ways.
use Rattle.std.proofs.Common.{arith, ℕ, Bool, true, false, nat_lt, drop, length-drop, ◌≡◌, ◌<◌, ◌≤◌, inl, inr, ◌&&◌, ◌==◌, refl, ap, sym, ◌∙◌, List, [], ◌∷◌, length, Option, Some, None}
use Rattle.std.proofs.lemmas.List.{take_all}
use Rattle.byteorder.specs.Endian.{big_bytes}
use Rattle.byteorder.specs.Numbers.{big_number-reads_back}
use Rattle.blic_messages.specs.declared.ask.Ask.{Ask}
use Rattle.blic_messages.specs.declared.ask.Ask.TheVariants as asks
use Rattle.blic_messages.specs.Frames.{framed, ask_spelling, hello_body}
use Rattle.blic_messages.specs.Reading.{IsAsk}
use Rattle.blic_messages.specs.Grammar.{Part, Element, Free, judged, Good, Partial, front, kind_at, length_at}
use Rattle.blic_messages.specs.Fronts.{ask_grammar, ask_parts, ask_in}
use Rattle.blic_messages.proofs.Numbers.{bytes-number}
use Rattle.blic_messages.proofs.Cases.{row, at_row}
use Rattle.blic_messages.proofs.Judging.{total, total_gt, is_below, at_least, judged_part, judged_element, element_good}
use Rattle.blic_messages.proofs.Headers.{Bytes, HasSizes, IsBodyOf, BodyIsSpelled, partial_parts}
use Rattle.blic_messages.proofs.HelloBack.{length-hello, hello_back, hello_spelled}

-- the rows of the table
pub ask_rows : (P : ℕ → ℕ → List Part → Type 0) → P 1 38 (Free 38 ∷ []) → P 2 0 [] → P 3 8 (Element ∷ []) → P 5 0 []
    → (kind len : ℕ) (ps : List Part) → ask_parts kind len ≡ Some ps → P kind len ps
ask_rows P hello go draw bye kind len ps e =
    elim (row (kind == 1 && len == 38) (Free 38 ∷ []) ps _ e) [
      | inl h ↦ at_row P kind len 1 38 (Free 38 ∷ []) ps hello h.0 h.1
      | inr e ↦ elim (row (kind == 2 && len == 0) [] ps _ e) [
        | inl h ↦ at_row P kind len 2 0 [] ps go h.0 h.1
        | inr e ↦ elim (row (kind == 3 && len == 8) (Element ∷ []) ps _ e) [
          | inl h ↦ at_row P kind len 3 8 (Element ∷ []) ps draw h.0 h.1
          | inr e ↦ elim (row (kind == 5 && len == 0) [] ps None e) [
            | inl h ↦ at_row P kind len 5 0 [] ps bye h.0 h.1
            | inr e ↦ cc
          ]
        ]
      ]
    ]

-- none of the rows
pub no_ask : (kind len : ℕ) → (kind ≡ 1 → len ≡ 38 → ⊥) → (kind ≡ 2 → len ≡ 0 → ⊥) → (kind ≡ 3 → len ≡ 8 → ⊥) → (kind ≡ 5 → len ≡ 0 → ⊥) → ask_parts kind len ≡ None
no_ask kind len hello go draw bye = by_parts (ask_parts kind len) refl
  where
    by_parts : (o : Option (List Part)) → ask_parts kind len ≡ o → o ≡ None
    by_parts None e = refl
    by_parts (Some ps) e =
        absurd (ask_rows (λ k l ps. kind ≡ k → len ≡ l → ⊥) hello go draw bye kind len ps e refl refl)

pub ask_sizes : HasSizes ask_grammar
ask_sizes = ask_rows (λ kind len ps. total ps ≡ len) refl refl refl refl

no_bytes : (b : List ℕ) → length b ≡ 0 → b ≡ []
no_bytes [] e = refl
no_bytes (x ∷ xs) e = absurd (omega arith)

abbrev Spelled : ℕ → ℕ → List Part → Type 0
Spelled kind len ps =
    (b : List ℕ) → length b ≡ len → Bytes b → judged ps b ≡ Good → IsAsk (ask_in kind b) × (framed kind b ≡ ask_spelling (ask_in kind b))

draw_spelled : Spelled 3 8 (Element ∷ [])
draw_spelled b long bytes good =
    let h = element_good [] b good in
    (h.1, ap (framed 3) (sym (bytes-number 8 b h.0 bytes ∙ take_all 8 b (omega arith))))

pub ask_body_spelled : BodyIsSpelled ask_grammar IsAsk ask_spelling
ask_body_spelled kind ps b bytes has good =
    ask_rows Spelled
    (λ b long bytes good. let h = hello_spelled b long bytes in (h.0, ap (framed 1) h.1))
    (λ b long bytes good. (tt, ap (framed 2) (no_bytes b long)))
    draw_spelled
    (λ b long bytes good. (tt, ap (framed 5) (no_bytes b long)))
    kind (length b) ps has b refl bytes good

pub ask_body : (a : Ask) → IsAsk a → IsBodyOf ask_grammar (ask_spelling a) a
ask_body (asks.Hello h) ok =
    let long = length-hello h ok in
    record {
      kind = 1;
      body = hello_body h;
      parts = Free 38 ∷ [];
      is = refl;
      short = omega arith;
      has = ap (ask_parts 1) long;
      good = judged_part (Free 38) [] (hello_body h) (omega arith);
      frame = ap asks.Hello (hello_back h ok);
    }
ask_body asks.Go ok = record { kind = 2; body = []; parts = []; is = refl; short = omega arith; has = refl; good = refl; frame = refl }
ask_body (asks.Draw e) ok =
    record {
      kind = 3;
      body = big_bytes 8 e;
      parts = Element ∷ [];
      is = refl;
      short = omega arith;
      has = refl;
      good = judged_element [] e [] ok;
      frame = ap asks.Draw (big_number-reads_back 8 e [] (omega arith));
    }
ask_body asks.Bye ok = record { kind = 5; body = []; parts = []; is = refl; short = omega arith; has = refl; good = refl; frame = refl }

-- of 43 bytes an ask is told
pub asks_short : (bytes : List ℕ) → front ask_grammar bytes ≡ Partial → length bytes < 43
asks_short bytes is = by_test (nat_lt (length bytes) 5) refl
  where
    by_test : (t : Bool) → nat_lt (length bytes) 5 ≡ t → length bytes < 43
    by_test true e = let l = is_below (length bytes) 5 e in omega arith
    by_test false e =
        let room = at_least (length bytes) 5 e in
        let h = partial_parts ask_grammar bytes room is in
        let few : total h.0 ≤ 38 = ask_rows (λ kind len ps. total ps ≤ 38) (omega arith) (omega arith) (omega arith) (omega arith) (kind_at bytes) (length_at bytes) h.0 h.1 in
        let short = total_gt h.0 (drop 5 bytes) h.2 in omega (arith, length-drop 5 bytes)
