use Rattle.std.proofs.Common.{refl}
use Rattle.blic_client.proofs.Parting.{no_fault, nothing_sent}
use Rattle.blic_client.proofs.machine.part.Goals as goal

pub returns-in_default : goal.returns-in_default
returns-in_default g c = record {
  usable = c.requires.usable;
  parted = nothing_sent c.args.ending c.args.talk _ _ _ c.in_default.not-Certified;
  link_cause = no_fault c.args.ending _ c.in_default.not-Certified;
  write_cause = refl;
}
