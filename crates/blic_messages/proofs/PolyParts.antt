-- The parts of polynomials' bodies.
use Rattle.std.proofs.Common.{arith, ℕ, zero, suc, ◌≡◌, ◌+◌, ◌-◌, ◌*◌, ◌<◌, refl, sym, ◌∙◌, ap, List, [], ◌∷◌, ◌++◌, length, get_or, take, drop}
use Rattle.std.specs.Prelude.{flat_map}
use Rattle.std.proofs.lemmas.List.{drop-drop, take_rest}
use Rattle.byteorder.specs.Endian.{big_bytes}
use Rattle.blic_field.specs.Quadratic.{Quadratic, HasElements}
use Rattle.blic_messages.specs.Frames.{poly_body}
use Rattle.blic_messages.specs.Parts.{IsElement}
use Rattle.blic_messages.proofs.Parts.{first_part, second_part}

pub poly_parts : (xs : List ℕ) (p : Quadratic) → take 24 xs ≡ poly_body p
    → (take 8 xs ≡ big_bytes 8 p.c0) × (take 8 (drop 8 xs) ≡ big_bytes 8 p.c1) × (take 8 (drop 16 xs) ≡ big_bytes 8 p.c2)
poly_parts xs p e =
    let r : take 16 (drop 8 xs) ≡ big_bytes 8 p.c1 ++ big_bytes 8 p.c2 = second_part 8 16 xs (big_bytes 8 p.c0) (big_bytes 8 p.c1 ++ big_bytes 8 p.c2) refl e in (
      first_part 8 16 xs (big_bytes 8 p.c0) (big_bytes 8 p.c1 ++ big_bytes 8 p.c2) refl e,
      first_part 8 8 (drop 8 xs) (big_bytes 8 p.c1) (big_bytes 8 p.c2) refl r,
      ap (take 8) (sym (drop-drop 8 8 xs)) ∙ second_part 8 8 (drop 8 xs) (big_bytes 8 p.c1) (big_bytes 8 p.c2) refl r,
    )

-- the spelling of no element stands at that place
abbrev pub NoElement : List ℕ → Type 0
NoElement xs = (e : ℕ) → IsElement e → take 8 xs ≡ big_bytes 8 e → ⊥

abbrev pub NoPoly : List ℕ → Type 0
NoPoly xs = (p : Quadratic) → HasElements p → take 24 xs ≡ poly_body p → ⊥

pub no_first : (xs : List ℕ) → NoElement xs → NoPoly xs
no_first xs never p ok e = never p.c0 ok.0 (poly_parts xs p e).0

pub no_second : (xs : List ℕ) → NoElement (take (length xs - 8) (drop 8 xs)) → NoPoly xs
no_second xs never p ok e = never p.c1 ok.1 (ap (take 8) (take_rest xs 8) ∙ (poly_parts xs p e).1)

pub no_third : (xs : List ℕ) → NoElement (take (length xs - 16) (drop 16 xs)) → NoPoly xs
no_third xs never p ok e = never p.c2 ok.2 (ap (take 8) (take_rest xs 16) ∙ (poly_parts xs p e).2)

-- the i-th polynomial stands behind those before it
pub piece_at : (ps : List Quadratic) (i : ℕ) (d : Quadratic) → i < length ps → take 24 (drop (24 * i) (flat_map poly_body ps)) ≡ poly_body (get_or ps i d)
piece_at [] i d l = absurd (omega arith)
piece_at (p ∷ ps) zero d l = refl
piece_at (p ∷ ps) (suc i) d l =
    let on : 24 * suc i ≡ 24 + 24 * i = omega arith in
    ap (λ k. take 24 (drop k (flat_map poly_body (p ∷ ps)))) on
    ∙ (ap (take 24) (sym (drop-drop (24 * i) 24 (flat_map poly_body (p ∷ ps)))) ∙ piece_at ps i d (omega arith))
