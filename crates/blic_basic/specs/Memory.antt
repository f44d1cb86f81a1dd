-- What sources, sinks, files and seeds in memory hold.
use Rattle.std.specs.Prelude.{ℕ, List, []}
use Rattle.blic_basic.specs.Named.{NamedBytes}

-- a source: the bytes that are left, how many a call gives at most, the numbers of the calls that
-- are to fail, counted from 0, how many calls there were and how many of them failed
pub record MemorySource : Type 0 where
  pub left : List ℕ
  pub most : ℕ
  pub failing : List ℕ
  pub calls : ℕ
  pub faults : ℕ

-- a source that was not called yet
abbrev pub new_source : List ℕ → ℕ → List ℕ → MemorySource
new_source bytes most failing = record { left = bytes; most = most; failing = failing; calls = 0; faults = 0 }

-- a sink: the bytes that were given, how many a call takes at most, the numbers of the calls that
-- are to fail, how many bytes there is room for in all, the calls and the faults
pub record MemorySink : Type 0 where
  pub held : List ℕ
  pub most : ℕ
  pub failing : List ℕ
  pub room : ℕ
  pub calls : ℕ
  pub faults : ℕ

-- a sink that was not called yet
abbrev pub new_sink : ℕ → List ℕ → ℕ → MemorySink
new_sink most failing room = record { held = []; most = most; failing = failing; room = room; calls = 0; faults = 0 }

-- files: the files, how many bytes a call of an opened source gives at most, the numbers of the
-- openings that are to fail, those of the takes of each source that are to fail, how many sources
-- can still be opened, the openings so far and the faults
pub record MemoryFiles : Type 0 where
  pub files : List NamedBytes
  pub most : ℕ
  pub failing : List ℕ
  pub takes_failing : List ℕ
  pub room : ℕ
  pub calls : ℕ
  pub faults : ℕ

-- files that were not called yet
abbrev pub new_files : List NamedBytes → ℕ → List ℕ → List ℕ → ℕ → MemoryFiles
new_files files most failing takes_failing room = record { files = files; most = most; failing = failing; takes_failing = takes_failing; room = room; calls = 0; faults = 0 }

-- seeds: those that are left, the numbers of the calls that are to fail, the calls and the faults
pub record MemorySeeds : Type 0 where
  pub left : List (List ℕ)
  pub failing : List ℕ
  pub calls : ℕ
  pub faults : ℕ

-- seeds that were not asked for yet
abbrev pub new_seeds : List (List ℕ) → List ℕ → MemorySeeds
new_seeds seeds failing = record { left = seeds; failing = failing; calls = 0; faults = 0 }
