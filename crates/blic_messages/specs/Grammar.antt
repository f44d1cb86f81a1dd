-- Grammars of frames, and what the bytes of a stream begin with.
use Rattle.std.specs.Prelude.{ℕ, ◌+◌, ◌==◌, Bool, true, nat_lt, if◌then◌else◌, List, [], ◌∷◌, length, take, drop, slice_index_or, Option, Some, None}
use Rattle.std.specs.List.{list_any}
use Rattle.byteorder.specs.Endian.{big_number}
use Rattle.blic_field.specs.Field.{modulus}

-- a part of a body, which is judged when its last byte was taken
pub data Part : Type 0 where
  -- eight bytes, the number of an element
  Element : Part
  -- one byte, one of these
  OneOf : List ℕ → Part
  -- so many bytes, whatever they are
  Free : ℕ → Part

abbrev pub size_of : Part → ℕ
size_of Element = 8
size_of (OneOf codes) = 1
size_of (Free n) = n

abbrev pub first_byte : List ℕ → ℕ
first_byte bytes = slice_index_or bytes 0 0

abbrev pub is_part : Part → List ℕ → Bool
is_part Element bytes = nat_lt (big_number 8 bytes) modulus
is_part (OneOf codes) bytes = list_any (λ c. c == first_byte bytes) codes
is_part (Free n) bytes = true

-- the parts of a body of this kind and length, if there is such a body, and the frame that a body of the kind spells
pub record Grammar (F : Type 0) : Type 0 where
  pub parts : ℕ → ℕ → Option (List Part)
  pub frame : ℕ → List ℕ → F

-- the first n bytes are a frame; or a part that was judged is none of the grammar; or neither
pub data Front (F : Type 0) : Type 0 where
  Whole : F → ℕ → Front F
  Broken : Front F
  Partial : Front F

pub data Judged : Type 0 where
  Good : Judged
  Bad : Judged
  Short : Judged

-- the parts in the order of the bytes
abbrev pub judged : List Part → List ℕ → Judged
judged [] bytes = Good
judged (p ∷ ps) bytes =
    if nat_lt (length bytes) (size_of p) then Short else if is_part p (take (size_of p) bytes) then judged ps (drop (size_of p) bytes) else Bad

abbrev pub front_of_judged : {F : Type 0} → F → ℕ → Judged → Front F
front_of_judged frame n Good = Whole frame n
front_of_judged frame n Bad = Broken
front_of_judged frame n Short = Partial

abbrev pub front_of_body : {F : Type 0} → Grammar F → ℕ → ℕ → Option (List Part) → List ℕ → Front F
front_of_body g kind len None body = Broken
front_of_body g kind len (Some parts) body = front_of_judged (g.frame kind (take len body)) (5 + len) (judged parts body)

-- the body's length is the number of the first four bytes, and the kind is the fifth
abbrev pub length_at : List ℕ → ℕ
length_at bytes = big_number 4 bytes

abbrev pub kind_at : List ℕ → ℕ
kind_at bytes = slice_index_or bytes 4 0

-- the header is judged at its fifth byte, and then the body's parts
unfoldable pub front : {F : Type 0} → Grammar F → List ℕ → Front F
front g bytes =
    if nat_lt (length bytes) 5 then Partial
    else front_of_body g (kind_at bytes) (length_at bytes) (g.parts (kind_at bytes) (length_at bytes)) (drop 5 bytes)
