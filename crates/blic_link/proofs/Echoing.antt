-- An end that sends back what comes, which tests use.
use Rattle.std.proofs.Common.{◌≡◌, ℕ, List, [], ◌∷◌, ◌++◌, length, take, drop, refl, ap, sym, ◌∙◌, append_assoc, append-nil, arith}
use Rattle.std.proofs.lemmas.List.{take-append-drop, take_all}
use Rattle.std.specs.Prelude.{IsTrue}
use Rattle.blic_link.specs.Passing.{Piece, Came, got, sent_bytes}
use Rattle.blic_link.specs.Sending.{all_sent}
use Rattle.blic_link.specs.Pace.{KeepsPace}
use Rattle.blic_link.proofs.Joined.{got-append, sent_bytes-append, got-all_sent}
use Rattle.blic_link.proofs.Paces.{receiving, sending_all}

-- a piece came, and a prefix of it was sent back
pub echoes : (pieces more : List Piece) (bytes : List ℕ) (n : ℕ) → KeepsPace (λ came. came) pieces → sent_bytes pieces ≡ got pieces → IsTrue (all_sent more)
    → sent_bytes more ≡ take n bytes → KeepsPace (λ came. came) ((pieces ++ Came bytes ∷ []) ++ more)
echoes pieces more bytes n pace even all part =
    let taken : KeepsPace (λ came. came) (pieces ++ Came bytes ∷ []) = receiving (λ came. came) pieces bytes (λ came later. (later, refl)) pace even in
    let came : got (pieces ++ Came bytes ∷ []) ≡ got pieces ++ bytes = got-append pieces (Came bytes ∷ []) ∙ ap (λ tail. got pieces ++ tail) (append-nil bytes) in
    let sent : sent_bytes (pieces ++ Came bytes ∷ []) ≡ got pieces = sent_bytes-append pieces (Came bytes ∷ []) ∙ append-nil (sent_bytes pieces) ∙ even in
    let joined : got pieces ++ bytes ≡ (sent_bytes (pieces ++ Came bytes ∷ []) ++ sent_bytes more) ++ drop n bytes
    = ap (λ tail. got pieces ++ tail) (sym (take-append-drop n bytes)) ∙ sym (append_assoc (got pieces) (take n bytes) (drop n bytes))
    ∙ ap (λ front. (front ++ take n bytes) ++ drop n bytes) (sym sent) ∙ ap (λ tail. (sent_bytes (pieces ++ Came bytes ∷ []) ++ tail) ++ drop n bytes) (sym part) in
    sending_all (λ came. came) (pieces ++ Came bytes ∷ []) more taken all (drop n bytes, came ∙ joined)

-- all of it was
pub echoes_all : (pieces more : List Piece) (bytes : List ℕ) → sent_bytes pieces ≡ got pieces → IsTrue (all_sent more)
    → sent_bytes more ≡ bytes → sent_bytes ((pieces ++ Came bytes ∷ []) ++ more) ≡ got ((pieces ++ Came bytes ∷ []) ++ more)
echoes_all pieces more bytes even all whole =
    let came : got (pieces ++ Came bytes ∷ []) ≡ got pieces ++ bytes = got-append pieces (Came bytes ∷ []) ∙ ap (λ tail. got pieces ++ tail) (append-nil bytes) in
    let sent : sent_bytes (pieces ++ Came bytes ∷ []) ≡ got pieces = sent_bytes-append pieces (Came bytes ∷ []) ∙ append-nil (sent_bytes pieces) ∙ even in
    sent_bytes-append (pieces ++ Came bytes ∷ []) more ∙ ap (λ front. front ++ sent_bytes more) sent ∙ ap (λ tail. got pieces ++ tail) whole
    ∙ sym (got-append (pieces ++ Came bytes ∷ []) more ∙ ap (λ tail. got (pieces ++ Came bytes ∷ []) ++ tail) (got-all_sent more all) ∙ append-nil (got (pieces ++ Came bytes ∷ [])) ∙ came)

pub echoes_whole : (pieces more : List Piece) (bytes : List ℕ) → KeepsPace (λ came. came) pieces → sent_bytes pieces ≡ got pieces → IsTrue (all_sent more)
    → sent_bytes more ≡ bytes → KeepsPace (λ came. came) ((pieces ++ Came bytes ∷ []) ++ more)
echoes_whole pieces more bytes pace even all whole = echoes pieces more bytes (length bytes) pace even all (whole ∙ sym (take_all (length bytes) bytes (omega arith)))
