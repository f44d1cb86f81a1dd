use Rattle.std.proofs.Common.{◌≡◌, drop}
use Rattle.blic_link.specs.Memory.{all_fresh}
use Rattle.blic_link.proofs.mem_link.are_fresh.Given as goal

-- the links so far are fresh
abbrev pub invariant-loop-link : goal.invariant-loop-link
invariant-loop-link l = all_fresh (drop l.link-index l.links) ≡ all_fresh l.links
