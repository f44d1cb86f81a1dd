-- Pieces by their marks, and one piece more.
use Rattle.std.proofs.Common.{◌≡◌, ℕ, zero, suc, ◌+◌, ◌-◌, ◌≤◌, List, [], ◌∷◌, ◌++◌, length, take, drop, refl, ap, ◌∙◌, arith}
use Rattle.std.specs.Prelude.{All}
use Rattle.std.proofs.lemmas.List.{map-append, drop-append-le, take-append-le, length-drop, take_all}
use Rattle.std.proofs.Math.Seq.{drop-append_seam}
use Rattle.blic_link.specs.Passing.{piece_of}
use Rattle.blic_link.specs.Marks.{piece_at, pieces_at, IsWithin}
use Rattle.blic_link.specs.declared.pieces.Mark.{Mark}

-- a piece stays where bytes are appended
pub piece_at-append : (bytes more : List ℕ) (m : Mark) → IsWithin (length bytes) m → piece_at (bytes ++ more) m ≡ piece_at bytes m
piece_at-append bytes more m within =
    let dropped : drop m.start (bytes ++ more) ≡ drop m.start bytes ++ more = drop-append-le m.start bytes more (omega (arith, within.0, within.1)) in
    let taken : take (m.end - m.start) (drop m.start bytes ++ more) ≡ take (m.end - m.start) (drop m.start bytes)
    = take-append-le (m.end - m.start) (drop m.start bytes) more (omega (arith, within.0, within.1, length-drop m.start bytes)) in
    ap (piece_of m.sent) (ap (take (m.end - m.start)) dropped ∙ taken)

-- so do all
pub pieces_at-append : (bytes more : List ℕ) (marks : List Mark) → All (IsWithin (length bytes)) marks → pieces_at (bytes ++ more) marks ≡ pieces_at bytes marks
pieces_at-append bytes more [] within = refl
pieces_at-append bytes more (m ∷ marks) within =
    let first : piece_at (bytes ++ more) m ≡ piece_at bytes m = piece_at-append bytes more m (within 0 m (omega arith)) in
    let rest : pieces_at (bytes ++ more) marks ≡ pieces_at bytes marks = pieces_at-append bytes more marks (λ k d h. within (suc k) d (omega arith)) in
    ap (λ p. p ∷ pieces_at (bytes ++ more) marks) first ∙ ap (λ ps. piece_at bytes m ∷ ps) rest

-- marks within the bytes, and one within more
pub within_more : (count new : ℕ) (marks : List Mark) (m : Mark) → count ≤ new → All (IsWithin count) marks → IsWithin new m → All (IsWithin new) (marks ++ m ∷ [])
within_more count new [] m longer within last zero d inside = last
within_more count new [] m longer within last (suc k) d inside = omega (arith, inside)
within_more count new (x ∷ marks) m longer within last zero d inside = let first = within 0 d (omega arith) in (first.0, omega (arith, first.1, longer))
within_more count new (x ∷ marks) m longer within last (suc k) d inside =
    within_more count new marks m longer (λ j e g. within (suc j) e (omega arith)) last k d (omega arith)

-- the piece of a mark that stands at the end
pub piece_at_end : (bytes more : List ℕ) (m : Mark) → m.start ≡ length bytes → m.end ≡ length bytes + length more → piece_at (bytes ++ more) m ≡ piece_of m.sent more
piece_at_end bytes more m starts ends =
    let dropped : drop m.start (bytes ++ more) ≡ more = ap (λ n. drop n (bytes ++ more)) starts ∙ drop-append_seam bytes more in
    ap (piece_of m.sent) (ap (take (m.end - m.start)) dropped ∙ take_all (m.end - m.start) more (omega (arith, starts, ends)))

-- one piece more
pub pieces_at_more : (bytes more : List ℕ) (marks : List Mark) (m : Mark) → All (IsWithin (length bytes)) marks → m.start ≡ length bytes → m.end ≡ length bytes + length more
    → pieces_at (bytes ++ more) (marks ++ m ∷ []) ≡ pieces_at bytes marks ++ piece_of m.sent more ∷ []
pieces_at_more bytes more marks m within starts ends =
    map-append (piece_at (bytes ++ more)) marks (m ∷ [])
    ∙ ap (λ ps. ps ++ piece_at (bytes ++ more) m ∷ []) (pieces_at-append bytes more marks within)
    ∙ ap (λ p. pieces_at bytes marks ++ p ∷ []) (piece_at_end bytes more m starts ends)
