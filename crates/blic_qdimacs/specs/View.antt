-- What the reader's records stand for: only private contracts and proofs cite this.
use Rattle.std.specs.Prelude.{map}
use Rattle.std.specs.Option.{option_map}
use Rattle.blic_qdimacs.specs.declared.items.ItemReader.{ItemReader}
use Rattle.blic_qdimacs.specs.declared.byte_reader.ByteReader.{ByteReader}
use Rattle.blic_qdimacs.specs.Items.{Items}
use Rattle.blic_qdimacs.specs.Machine.{Machine, header_of}

abbrev pub items_of : ItemReader → Items
items_of r = record { place = r.place; sets = r.sets.items; clauses = map (λ c. c.items) r.clauses.items; clause = r.clause.items; line = r.line }

abbrev pub machine_of : ByteReader → Machine
machine_of r = record { line = r.line; mode = r.mode; word = r.word; header = r.header; problem = option_map header_of r.problem; items = items_of r.items }
