use Rattle.std.proofs.Common.{arith, ◌≡◌, ◌<◌, ap, ◌∙◌}
use Rattle.blic_store.specs.Diagram.{cofactor, level_of}
use Rattle.blic_graph.specs.Listing.{Found}
use Rattle.blic_graph.specs.Pairs.{level_of_pair}
use Rattle.blic_graph.proofs.Closed.{child_below}
use Rattle.blic_graph.proofs.pair_list.PairList.ask.Goals as goal

pub ask-requires : goal.ask-requires
ask-requires c =
    let nodes = c.args.store.now.nodes in
    let level = c.args.self.now.queue.level in
    let come : c.level.result ≡ level = c.level.ensures ∙ ap (λ (l : Found). l.queue.level) c.self.view_is in
    let come2 : c.level-2.result ≡ level = c.level-2.ensures ∙ ap (λ (l : Found). l.queue.level) c.self.view_is in
    let first : c.cofactor-first.result ≡ cofactor nodes c.args.first level c.args.bit = c.cofactor-first.ensures ∙ ap (λ z. cofactor nodes c.args.first z c.args.bit) come in
    let second : c.cofactor-second.result ≡ cofactor nodes c.args.second level c.args.bit = c.cofactor-second.ensures ∙ ap (λ z. cofactor nodes c.args.second z c.args.bit) come2 in
    let deep : level < level_of_pair nodes (cofactor nodes c.args.first level c.args.bit) (cofactor nodes c.args.second level c.args.bit) =
    child_below nodes c.canonical_law.ensures.canonical c.args.first c.args.second level c.args.bit c.requires.first_inner c.requires.second_inner c.requires.level in
    omega (arith, deep, ap (level_of nodes) first, ap (level_of nodes) second, c.level-3.ensures, c.level-4.ensures, c.min-level.ensures, ap (λ (l : Found). l.queue.level) c.self.view_is)
