use Rattle.std.proofs.Common.{arith, ◌≡◌, length, ap}
use Rattle.std.proofs.lemmas.List.{length-map}
use Rattle.blic_graph.specs.Listing.{Found}
use Rattle.blic_graph.specs.Packing.{side_from, unpacked}
use Rattle.blic_graph.proofs.Listings.{adds_pair}
use Rattle.blic_graph.proofs.pair_list.PairList.add.Goals as goal

pub returns-clause-pairs : goal.returns-clause-pairs
returns-clause-pairs c =
    let l = c.args.self.now in
    let n : c.len-n.result ≡ length l.pairs = omega (arith, length-map c.self.inside.pairs.items unpacked, ap (λ (l : Found). length l.pairs) c.self.view_is) in
    let most : c.self.inside.most ≡ l.most = ap (λ (l : Found). l.most) c.self.view_is in
    adds_pair c.args.store.now.nodes l c.ask.new.self c.ask-2.new.self c.push.new.self c.len-n.result c.args.first c.args.second (side_from c.in_ok-low.low) (side_from c.in_ok-high.high)
    n c.requires.missing (omega arith) c.in_ok-low.ensures.asked c.in_ok-low.ensures.same c.in_ok-high.ensures.asked c.in_ok-high.ensures.same c.in_ok-push.ensures.ok
