use Rattle.blic_input.proofs.Reading.{reads_by}
use Rattle.blic_input.proofs.file.read_file.Goals as goal

pub returns-in-Source-clause-says : goal.returns-in-Source-clause-says
returns-in-Source-clause-says g c =
    reads_by g.F.S.Source.left g.F.S.Source.faults (g.F.Files.files c.args.files.now) c.args.name.now c.in-Source.source c.read-formula.result c.in-Source.ensures.bytes
    c.read-formula.ensures.formula c.read-formula.ensures.exact
