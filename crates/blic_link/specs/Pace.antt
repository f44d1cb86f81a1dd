-- An end of a link that keeps pace: it has sent no more than what came asks for, and all of that before it takes more.
use Rattle.std.specs.Prelude.{◌≡◌, ℕ, List, [], ◌∷◌, ◌++◌}
use Rattle.blic_link.specs.Passing.{Piece, Came, Went}

-- `front` is a prefix of the bytes
abbrev pub Begins : List ℕ → List ℕ → Type 0
Begins front bytes = (rest : List ℕ) × (bytes ≡ front ++ rest)

-- it keeps pace from then on, once `came` has come and `went` was sent. `wanted` says what is to be sent in all once some bytes have come
abbrev pub KeepsPaceFrom : (List ℕ → List ℕ) → List ℕ → List ℕ → List Piece → Type 0
KeepsPaceFrom wanted came went [] = Begins went (wanted came)
KeepsPaceFrom wanted came went (Came bytes ∷ pieces) = (went ≡ wanted came) × KeepsPaceFrom wanted (came ++ bytes) went pieces
KeepsPaceFrom wanted came went (Went bytes ∷ pieces) = Begins went (wanted came) × KeepsPaceFrom wanted came (went ++ bytes) pieces

-- it keeps pace from the beginning
abbrev pub KeepsPace : (List ℕ → List ℕ) → List Piece → Type 0
KeepsPace wanted pieces = KeepsPaceFrom wanted [] [] pieces

-- what is wanted grows with what comes
abbrev pub Grows : (List ℕ → List ℕ) → Type 0
Grows wanted = (came more : List ℕ) → Begins (wanted came) (wanted (came ++ more))
