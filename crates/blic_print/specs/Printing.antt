-- Texts that are printed piece by piece, and the lines of frames.
use Rattle.std.specs.Prelude.{◌≡◌, ℕ, cond, List, [], ◌∷◌, ◌++◌, take, codes, decimal, flat_map, Option, Result, Ok, Err}
use Rattle.std.specs.Io.KnownBytes.{append_known}
use Rattle.hex.specs.Hex.{encode_lower}
use Rattle.blic_basic.specs.Outside.{Rose}
use Rattle.blic_basic.specs.Watching.{is_reply}
use Rattle.blic_print.specs.declared.pieces.Piece.{Piece}
use Rattle.blic_print.specs.declared.pieces.Piece.TheVariants.{Bytes, Hex, Number}
use Rattle.blic_print.specs.declared.write_fault.WriteFault.{WriteFault}

-- bytes as they are, a number in decimal, and bytes in hexadecimal, in lower case
abbrev pub piece_text : Piece → List ℕ
piece_text (Bytes bytes) = bytes.now
piece_text (Number n) = decimal n
piece_text (Hex bytes) = encode_lower bytes.now

abbrev pub text_of_pieces : List Piece → List ℕ
text_of_pieces pieces = flat_map piece_text pieces

-- the whole text is appended; or a prefix of it, if a call failed
abbrev pub Prints : Option (List ℕ) → Option (List ℕ) → Result Unit WriteFault → List ℕ → Type 0
Prints old new (Ok u) text = new ≡ append_known old text
Prints old new (Err e) text = (n : ℕ) × (new ≡ append_known old (take n text))

-- only a fault raises the count
abbrev pub PrintCounts : ℕ → ℕ → Result Unit WriteFault → Type 0
PrintCounts before now (Ok u) = now ≡ before
PrintCounts before now (Err e) = Rose before now

-- a frame's line: a mark for an ask or a reply, and its bytes in hexadecimal, in lower case
abbrev pub frame_line : List ℕ → List ℕ
frame_line frame = cond (is_reply frame) (codes "< ") (codes "> ") ++ encode_lower frame ++ 10 ∷ []

-- a line for each frame
abbrev pub talk_text : List (List ℕ) → List ℕ
talk_text frames = flat_map frame_line frames
