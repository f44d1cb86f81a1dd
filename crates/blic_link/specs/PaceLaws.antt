-- An end that keeps pace still does after the next piece.
use Rattle.std.specs.Prelude.{◌≡◌, ℕ, IsTrue, List, [], ◌∷◌, ◌++◌}
use Rattle.blic_link.specs.Passing.{Piece, Came, Went, got, sent_bytes}
use Rattle.blic_link.specs.Sending.{all_sent}
use Rattle.blic_link.specs.Pace.{Begins, KeepsPace, Grows}

-- it may take more once it has sent all that is wanted
abbrev pub KeepsPaceReceiving : Type 0
KeepsPaceReceiving = (wanted : List ℕ → List ℕ) (pieces : List Piece) (bytes : List ℕ) → Grows wanted → KeepsPace wanted pieces
    → sent_bytes pieces ≡ wanted (got pieces) → KeepsPace wanted (pieces ++ Came bytes ∷ [])

-- it may send what is wanted next
abbrev pub KeepsPaceSending : Type 0
KeepsPaceSending = (wanted : List ℕ → List ℕ) (pieces : List Piece) (bytes : List ℕ) → KeepsPace wanted pieces
    → Begins (sent_bytes pieces ++ bytes) (wanted (got pieces)) → KeepsPace wanted (pieces ++ Went bytes ∷ [])

-- it may send that in several pieces
abbrev pub KeepsPaceSendingAll : Type 0
KeepsPaceSendingAll = (wanted : List ℕ → List ℕ) (pieces more : List Piece) → KeepsPace wanted pieces → IsTrue (all_sent more)
    → Begins (sent_bytes pieces ++ sent_bytes more) (wanted (got pieces)) → KeepsPace wanted (pieces ++ more)
