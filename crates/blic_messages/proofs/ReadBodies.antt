-- Polynomials read one after another.
use Rattle.std.proofs.Common.{arith, ℕ, ◌≡◌, ◌+◌, ◌-◌, ◌*◌, ◌<◌, ◌≤◌, refl, sym, ◌∙◌, ap, subst, List, [], ◌∷◌, ◌++◌, length, get_or, take, drop, set}
use mathlib.Core.Path.{ap₂}
use Rattle.std.specs.Prelude.{flat_map, All}
use Rattle.std.proofs.Math.Seq.{take-add}
use Rattle.std.proofs.lemmas.List.{append-nil, length-take-le, take_rest, take_all}
use Rattle.std.proofs.lemmas.List.Elements.{All-append, All-cons, All-get_or, All-nil}
use Rattle.std.proofs.lemmas.Grind.{flat_map-append, take-set_at}
use Rattle.blic_field.specs.Quadratic.{Quadratic, HasElements}
use Rattle.blic_messages.specs.Replies.{Said, Polys}
use Rattle.blic_messages.specs.Reading.{IsReply}
use Rattle.blic_messages.specs.Frames.{framed, poly_body, reply_spelling}
use Rattle.blic_messages.proofs.Bodies.{length-poly_bodies}
use Rattle.blic_messages.proofs.PolyParts.{NoPoly, piece_at}
use Rattle.blic_messages.proofs.Spelled.{no_polys}

abbrev pub ReadSoFar : List ℕ → List Quadratic → ℕ → Type 0
ReadSoFar body ps i = (take (24 * i) body ≡ flat_map poly_body (take i ps)) × All HasElements (take i ps)

pub one_more_read : (body : List ℕ) (ps : List Quadratic) (i : ℕ) (p : Quadratic) → i < length ps → HasElements p
    → take 24 (take (length body - 24 * i) (drop (24 * i) body)) ≡ poly_body p → ReadSoFar body ps i → ReadSoFar body (set ps i p) (i + 1)
one_more_read body ps i p l ok e before =
    let more : take (i + 1) (set ps i p) ≡ take i ps ++ p ∷ [] = take-set_at ps i (i + 1) p refl l in
    let longer : 24 * (i + 1) ≡ 24 * i + 24 = omega arith in
    let piece : take 24 (drop (24 * i) body) ≡ poly_body p = ap (take 24) (sym (take_rest body (24 * i))) ∙ e in
    let spelled : flat_map poly_body (take i ps ++ p ∷ []) ≡ flat_map poly_body (take i ps) ++ poly_body p =
    flat_map-append poly_body (take i ps) (p ∷ []) ∙ ap (λ ys. flat_map poly_body (take i ps) ++ ys) (append-nil (poly_body p)) in (
      ap (λ n. take n body) longer ∙ (take-add (24 * i) 24 body ∙ (ap₂ (λ ys zs. ys ++ zs) before.0 piece ∙ (sym spelled ∙ ap (flat_map poly_body) (sym more)))),
      subst (All HasElements) (sym more) (All-append HasElements (take i ps) (p ∷ []) before.1 (All-cons HasElements p [] ok (All-nil HasElements))),
    )

pub all_read : (body : List ℕ) (ps : List Quadratic) (i n : ℕ) → n ≤ i → i ≤ n → 1 ≤ n → n ≤ 65536 → 24 * n ≡ length body → n ≤ length ps
    → ReadSoFar body ps i → IsReply (Polys (take n ps)) × (framed 130 body ≡ reply_spelling (Polys (take n ps)))
all_read body ps i n l m some few e room before =
    let same : i ≡ n = omega arith in
    let whole : ReadSoFar body ps n = subst (ReadSoFar body ps) same before in
    let long : length (take n ps) ≡ n = length-take-le n ps room in
    ((omega arith, omega arith, whole.1), ap (framed 130) (sym (take_all (24 * n) body (omega arith)) ∙ whole.0))

-- a body of no such length is that of no polynomials
pub no_count : (body : List ℕ) → ((n : ℕ) → 1 ≤ n → n ≤ 65536 → length body ≡ 24 * n → ⊥)
    → (s : Said) → IsReply s → framed 130 body ≡ reply_spelling s → ⊥
no_count body never = no_polys body (λ ps some few ok e. never (length ps) some few (ap length e ∙ length-poly_bodies ps))

-- a body with a piece that is of no polynomial is that of none
pub no_piece : (body : List ℕ) (i n : ℕ) → i < n → 24 * n ≡ length body → NoPoly (take (length body - 24 * i) (drop (24 * i) body))
    → (s : Said) → IsReply s → framed 130 body ≡ reply_spelling s → ⊥
no_piece body i n l e never =
    no_polys body (λ ps some few ok is.
    let long : length body ≡ 24 * length ps = ap length is ∙ length-poly_bodies ps in
    let within : i < length ps = omega arith in
    let zero_poly : Quadratic = record { c0 = 0; c1 = 0; c2 = 0 } in
    never (get_or ps i zero_poly) (All-get_or HasElements ps i zero_poly within ok)
    (ap (take 24) (take_rest body (24 * i)) ∙ (ap (λ ys. take 24 (drop (24 * i) ys)) is ∙ piece_at ps i zero_poly within)))
