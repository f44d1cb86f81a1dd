-- What a watch does to the frames that it sees.
use Rattle.std.specs.Prelude.{◌≡◌, ℕ, Bool, cond, ◌==◌, nat_lt, ◌&&◌, not, List, [], ◌∷◌, ◌++◌, Option, Some, None, IfSome, IsSomeAnd, length, fold, slice_index_or, slice_set}
use Rattle.blic_basic.specs.declared.bend_watch.Bend.{Bend}

-- if the list is told afterwards, it was told before, and is the old one with the frame at its end
abbrev pub Adds : Option (List (List ℕ)) → Option (List (List ℕ)) → List ℕ → Type 0
Adds old new frame = IfSome new (λ now. IsSomeAnd old (λ before. now ≡ before ++ frame ∷ []))

-- whether a frame is a reply, by its kind
abbrev pub is_reply : List ℕ → Bool
is_reply frame = not (nat_lt (slice_index_or frame 4 0) 129)

-- one byte set, if the bend is of this reply and its place is in the frame's body
abbrev pub bent_once : ℕ → List ℕ → Bend → List ℕ
bent_once reply frame b = cond ((b.reply == reply) && not (nat_lt b.place 5) && nat_lt b.place (length frame)) (slice_set frame b.place b.byte) frame

-- reply number `reply`, with the bytes of all its bends set, in their order
unfoldable pub bent : List Bend → ℕ → List ℕ → List ℕ
bent bends reply frame = fold (bent_once reply) frame bends

-- what a watch in memory keeps: the frames, and whether they are all that it saw
pub record MemoryWatch : Type 0 where
  pub frames : List (List ℕ)
  pub whole : Bool

-- the list is told while it is whole
abbrev pub told_frames : MemoryWatch → Option (List (List ℕ))
told_frames w = cond w.whole (Some w.frames) None

-- a watch in memory that sets bytes of replies, and how many replies it saw
pub record BendingWatch : Type 0 where
  pub bends : List Bend
  pub replies : ℕ
  pub kept : MemoryWatch
