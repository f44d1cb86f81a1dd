use Rattle.std.proofs.Common.{subst}
use Rattle.std.specs.Option.{option_map}
use Rattle.blic_qdimacs.specs.Machine.{header_of}
use Rattle.blic_qdimacs.specs.Sound.{SoundWith}
use Rattle.blic_qdimacs.specs.View.{machine_of, items_of}
use Rattle.blic_qdimacs.proofs.Sounding.{sound_judged}
use Rattle.blic_qdimacs.proofs.byte_reader.ByteReader.finish.Goals as goal

pub finish-requires : goal.finish-requires
finish-requires c =
    subst (λ p. SoundWith (option_map header_of p) (items_of c.line_judge.new.self.items)) c.in-Some.is
    (sound_judged (machine_of c.args.self) (machine_of c.line_judge.new.self) c.in_ok-line_judge.ensures.steps c.requires)
