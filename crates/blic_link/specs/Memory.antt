-- What links, dialers and acceptors in memory hold.
use Rattle.std.specs.Prelude.{ℕ, ◌^◌, ◌==◌, ◌&&◌, nat_lt, Bool, true, false, List, [], ◌∷◌, length, map}
use Rattle.blic_link.specs.Passing.{Piece}
use Rattle.blic_link.specs.Dialing.{Entry}

-- a link: whether it can be used, the pieces that passed, the bytes that are still coming, how many
-- bytes a call passes at most, the numbers of the calls that are to fail, counted from 0, how many
-- bytes more there is room for, how many calls there were and how many of them failed
pub record MemoryLink : Type 0 where
  pub is_usable : Bool
  pub pieces : List Piece
  pub coming : List ℕ
  pub most : ℕ
  pub failing : List ℕ
  pub room : ℕ
  pub calls : ℕ
  pub faults : ℕ

-- a link that was not called yet
abbrev pub new_link : List ℕ → ℕ → List ℕ → ℕ → MemoryLink
new_link coming most failing room = record { is_usable = true; pieces = []; coming = coming; most = most; failing = failing; room = room; calls = 0; faults = 0 }

-- the link of a client who was not accepted
abbrev pub no_link : MemoryLink
no_link = record { is_usable = false; pieces = []; coming = []; most = 1; failing = []; room = 0; calls = 0; faults = 0 }

-- whether the link can be used, nothing passed over it, and no call failed
abbrev pub is_fresh : MemoryLink → Bool
is_fresh link = link.is_usable && (length link.pieces == 0) && (link.faults == 0)

-- whether that holds of each of the links
abbrev pub all_fresh : List MemoryLink → Bool
all_fresh [] = true
all_fresh (link ∷ links) = is_fresh link && all_fresh links

-- whether a dialer can be made of the links
abbrev pub fit_dialer : List MemoryLink → Bool
fit_dialer links = nat_lt (length links) (2 ^ 32) && all_fresh links

-- what is told of a link that is hung up
abbrev pub entry_of : MemoryLink → Entry
entry_of link = record { pieces = link.pieces; coming = link.coming; faults = link.faults }

-- a dialer: the links that were not dialed yet, those that were hung up, whether one is lent, the
-- numbers of the dials that are to fail, counted from 0, how many dials there were, how many calls
-- failed, those of the links that were hung up included, and how many dials failed
pub record MemoryDialer : Type 0 where
  pub links : List MemoryLink
  pub ended : List MemoryLink
  pub is_lent : Bool
  pub failing : List ℕ
  pub calls : ℕ
  pub faults : ℕ
  pub missed : ℕ

-- a dialer that was not called yet
abbrev pub new_dialer : List MemoryLink → List ℕ → MemoryDialer
new_dialer links failing = record { links = links; ended = []; is_lent = false; failing = failing; calls = 0; faults = 0; missed = 0 }

-- the entries of a dialer
abbrev pub entries_of : MemoryDialer → List Entry
entries_of dialer = map entry_of dialer.ended

-- an acceptor: the links that were not accepted yet, the numbers of the calls that are to fail,
-- counted from 0, how many calls there were and how many of them failed
pub record MemoryAcceptor : Type 0 where
  pub links : List MemoryLink
  pub failing : List ℕ
  pub calls : ℕ
  pub faults : ℕ

-- an acceptor that was not called yet
abbrev pub new_acceptor : List MemoryLink → List ℕ → MemoryAcceptor
new_acceptor links failing = record { links = links; failing = failing; calls = 0; faults = 0 }
