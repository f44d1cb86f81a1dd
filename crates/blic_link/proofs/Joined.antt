-- Pieces, one after another.
use Rattle.std.proofs.Common.{◌≡◌, ℕ, ◌+◌, ◌-◌, List, [], ◌∷◌, ◌++◌, length, take, drop, refl, ap, sym, ◌∙◌, append_assoc, append-nil, Option, Some, None, length-drop, arith}
use Rattle.std.specs.Prelude.{IsTrue}
use Rattle.std.proofs.Math.Seq.{take-add}
use Rattle.std.proofs.lemmas.List.{take_all}
use Rattle.blic_link.specs.Passing.{Piece, Came, Went, got, sent_bytes, with_pieces}
use Rattle.blic_link.specs.Sending.{SendsFront, all_sent}

pub with_pieces-append : (told : Option (List Piece)) (a b : List Piece) → with_pieces (with_pieces told a) b ≡ with_pieces told (a ++ b)
with_pieces-append None a b = refl
with_pieces-append (Some pieces) a b = ap Some (append_assoc pieces a b)

pub with_none : (told : Option (List Piece)) → with_pieces told [] ≡ told
with_none None = refl
with_none (Some pieces) = ap Some (append-nil pieces)

pub got-append : (a b : List Piece) → got (a ++ b) ≡ got a ++ got b
got-append [] b = refl
got-append (Came bytes ∷ a) b = ap (λ rest. bytes ++ rest) (got-append a b) ∙ sym (append_assoc bytes (got a) (got b))
got-append (Went bytes ∷ a) b = got-append a b

pub sent_bytes-append : (a b : List Piece) → sent_bytes (a ++ b) ≡ sent_bytes a ++ sent_bytes b
sent_bytes-append [] b = refl
sent_bytes-append (Came bytes ∷ a) b = sent_bytes-append a b
sent_bytes-append (Went bytes ∷ a) b = ap (λ rest. bytes ++ rest) (sent_bytes-append a b) ∙ sym (append_assoc bytes (sent_bytes a) (sent_bytes b))

pub all_sent-append : (a b : List Piece) → IsTrue (all_sent a) → IsTrue (all_sent b) → IsTrue (all_sent (a ++ b))
all_sent-append [] b first second = second
all_sent-append (Came bytes ∷ a) b first second = first
all_sent-append (Went bytes ∷ a) b first second = all_sent-append a b first second

-- nothing came in pieces that were sent
pub got-all_sent : (pieces : List Piece) → IsTrue (all_sent pieces) → got pieces ≡ []
got-all_sent [] all = refl
got-all_sent (Came bytes ∷ pieces) all = cc
got-all_sent (Went bytes ∷ pieces) all = got-all_sent pieces all

-- the next n bytes after the first i were sent too
pub sends_more : (pieces : List Piece) (bytes : List ℕ) (i n : ℕ) → SendsFront pieces bytes i
    → SendsFront (pieces ++ Went (take n (take (length bytes - i) (drop i bytes))) ∷ []) bytes (i + n)
sends_more pieces bytes i n so_far =
    let piece : take n (take (length bytes - i) (drop i bytes)) ≡ take n (drop i bytes)
    = ap (take n) (take_all (length bytes - i) (drop i bytes) (omega (arith, length-drop i bytes))) in
    let went : List Piece = Went (take n (take (length bytes - i) (drop i bytes))) ∷ [] in
    let joined : sent_bytes (pieces ++ went) ≡ take i bytes ++ take n (drop i bytes)
    = sent_bytes-append pieces went ∙ ap (λ front. front ++ sent_bytes went) so_far.1
    ∙ ap (λ tail. take i bytes ++ tail) (append-nil (take n (take (length bytes - i) (drop i bytes))) ∙ piece) in
    (all_sent-append pieces went so_far.0 refl, joined ∙ sym (take-add i n bytes))

-- the pieces that are told, after one piece and some more
pub told_after : (old before mid new : Option (List Piece)) (pieces more : List Piece) (piece : Piece) → before ≡ with_pieces old pieces → mid ≡ with_pieces before (piece ∷ [])
    → new ≡ with_pieces mid more → new ≡ with_pieces old ((pieces ++ piece ∷ []) ++ more)
told_after old before mid new pieces more piece first second third =
    third ∙ ap (λ told. with_pieces told more) (second ∙ ap (λ told. with_pieces told (piece ∷ [])) first ∙ with_pieces-append old pieces (piece ∷ []))
    ∙ with_pieces-append old (pieces ++ piece ∷ []) more
