use Rattle.std.proofs.Common.{arith, ◌+◌, ◌-◌, ◌<◌, length, ap}
use Rattle.std.proofs.lemmas.List.{get_or_read}
use Rattle.blic_store.proofs.Levels.{level_of-node}
use Rattle.blic_store.proofs.store.Store.level.Goals as goal

pub returns : goal.returns
returns c =
    let v = ap (λ d. d.nodes) c.self.view_is in
    let items = c.self.inside.nodes.items in
    let held : c.args.r < length c.args.self.now.nodes + 2 = c.requires.held in
    let l : c.number.result - 2 < length items = omega (arith, ap length v, held) in
    let read = get_or_read items (c.number.result - 2) c.index.result.now l c.index.ensures (record { level = 0; low = 0; high = 0 }) in
    let w = level_of-node c.args.self.now.nodes c.args.r c.requires.inner in
    cc
