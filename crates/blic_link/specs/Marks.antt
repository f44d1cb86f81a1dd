-- Private: pieces whose bytes stand in one list, one after another, and the marks that tell where.
use Rattle.std.specs.Prelude.{ℕ, ◌-◌, ◌≤◌, List, map, take, drop}
use Rattle.blic_link.specs.Passing.{Piece, piece_of}
use Rattle.blic_link.specs.declared.pieces.Mark.{Mark}

-- pieces, and how many bytes more there is room for
pub record MemoryPieces : Type 0 where
  pub pieces : List Piece
  pub room : ℕ

-- the piece that a mark tells
abbrev pub piece_at : List ℕ → Mark → Piece
piece_at bytes m = piece_of m.sent (take (m.end - m.start) (drop m.start bytes))

-- the pieces of marks
abbrev pub pieces_at : List ℕ → List Mark → List Piece
pieces_at bytes marks = map (piece_at bytes) marks

-- the mark doesn't end before it begins, nor after so many bytes
abbrev pub IsWithin : ℕ → Mark → Type 0
IsWithin count m = (m.start ≤ m.end) × (m.end ≤ count)
