-- The bodies of polynomials, one after another.
use Rattle.std.proofs.Common.{arith, ℕ, ◌≡◌, ◌+◌, ◌-◌, ◌*◌, ◌<◌, ◌≤◌, refl, sym, ◌∙◌, ap, List, [], ◌∷◌, ◌++◌, length, get_or}
use Rattle.std.specs.Prelude.{flat_map, take, drop}
use mathlib.Core.Path.{ap₂}
use borrow.Rule.Slice.PartMut.{put_mid}
use Rattle.std.proofs.lemmas.List.{length-append, length-take-le, length-drop, append_assoc, append-nil, drop-drop, take_all, take_more, take-append-drop, drop_all}
use Rattle.std.proofs.Math.Seq.{drop-append_seam, take-append_seam}
use Rattle.std.proofs.lemmas.Grind.{flat_map-append}
use Rattle.std.proofs.lemmas.Slice.{take-put_mid, drop-put_mid}
use Rattle.blic_field.specs.Quadratic.{Quadratic}
use Rattle.blic_messages.specs.Frames.{poly_body}

pub length-poly_bodies : (ps : List Quadratic) → length (flat_map poly_body ps) ≡ 24 * length ps
length-poly_bodies [] = refl
length-poly_bodies (p ∷ ps) = length-append (poly_body p) (flat_map poly_body ps) ∙ omega (arith, length-poly_bodies ps)

-- the bodies of the first i polynomials
abbrev bodies : List Quadratic → ℕ → List ℕ
bodies ps i = flat_map poly_body (take i ps)

length-bodies : (ps : List Quadratic) (i : ℕ) → i ≤ length ps → length (bodies ps i) ≡ 24 * i
length-bodies ps i l = length-poly_bodies (take i ps) ∙ ap (λ n. 24 * n) (length-take-le i ps l)

bodies_more : (ps : List Quadratic) (i : ℕ) (d : Quadratic) → i < length ps → bodies ps (i + 1) ≡ bodies ps i ++ poly_body (get_or ps i d)
bodies_more ps i d l =
    ap (flat_map poly_body) (take_more ps i d l)
    ∙ (flat_map-append poly_body (take i ps) (get_or ps i d ∷ []) ∙ ap (λ ys. flat_map poly_body (take i ps) ++ ys) (append-nil (poly_body (get_or ps i d))))

-- one more polynomial is written behind them
pub one_more_body : (ps : List Quadratic) (i : ℕ) (p : Quadratic) (out old w : List ℕ) → i < length ps → p ≡ get_or ps i p → 24 * length ps ≤ length old → length out ≡ length old
    → out ≡ flat_map poly_body (take i ps) ++ drop (24 * i) old → w ≡ poly_body p ++ drop 24 (take (length out - 24 * i) (drop (24 * i) out))
    → put_mid (24 * i) (length out - 24 * i) out w ≡ flat_map poly_body (take (i + 1) ps) ++ drop (24 * (i + 1)) old
one_more_body ps i p out old w l e room n q h =
    let long : length (bodies ps i) ≡ 24 * i = length-bodies ps i (omega arith) in
    let rest : drop (24 * i) out ≡ drop (24 * i) old = ap (drop (24 * i)) q ∙ (ap (λ k. drop k (bodies ps i ++ drop (24 * i) old)) (sym long) ∙ drop-append_seam (bodies ps i) (drop (24 * i) old)) in
    let front : take (24 * i) out ≡ bodies ps i = ap (take (24 * i)) q ∙ (ap (λ k. take k (bodies ps i ++ drop (24 * i) old)) (sym long) ∙ take-append_seam (bodies ps i) (drop (24 * i) old)) in
    let tail : take (length out - 24 * i) (drop (24 * i) out) ≡ drop (24 * i) old = take_all (length out - 24 * i) (drop (24 * i) out) (omega (arith, length-drop (24 * i) out)) ∙ rest in
    let written : w ≡ poly_body p ++ drop (24 * (i + 1)) old = h ∙ ap (λ ys. poly_body p ++ ys) (ap (drop 24) tail ∙ (drop-drop 24 (24 * i) old ∙ ap (λ k. drop k old) (omega arith))) in
    let long_w : length w ≡ length out - 24 * i = ap length written ∙ (length-append (poly_body p) (drop (24 * (i + 1)) old) ∙ omega (arith, length-drop (24 * (i + 1)) old)) in
    let made = put_mid (24 * i) (length out - 24 * i) out w in
    let end : drop (length out) made ≡ [] = drop-put_mid (24 * i) (length out - 24 * i) out w (length out) (omega arith) (omega arith) long_w ∙ drop_all (length out) out (omega arith) in
    sym (take-append-drop (length out) made) ∙ (ap (λ ys. take (length out) made ++ ys) end ∙ (append-nil (take (length out) made)
    ∙ (take-put_mid (24 * i) (length out - 24 * i) out w (length out) (omega arith) (omega arith)
    ∙ (ap₂ (λ xs ys. xs ++ ys) front written
    ∙ (sym (append_assoc (bodies ps i) (poly_body p) (drop (24 * (i + 1)) old))
    ∙ ap (λ ys. ys ++ drop (24 * (i + 1)) old) (ap (λ x. bodies ps i ++ poly_body x) e ∙ sym (bodies_more ps i p l)))))))
