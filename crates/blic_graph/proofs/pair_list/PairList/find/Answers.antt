use Rattle.std.proofs.Common.{arith, ◌≡◌, ◌+◌, ap, sym, ◌∙◌, subst, drop, length, map}
use Rattle.std.specs.Prelude.{Some}
use Rattle.std.proofs.lemmas.List.{get_or-map, get_or_read, length-drop, length-map}
use Rattle.blic_graph.specs.declared.pair.Pair.{Pair}
use Rattle.blic_graph.specs.declared.pair.Side.TheVariants as Side
use Rattle.blic_graph.specs.Pairs.{StandsAt, pair_at}
use Rattle.blic_graph.specs.Listing.{Found, hash_of, hash_of_pair}
use Rattle.blic_graph.specs.Packing.{packed_at, unpacked}
use Rattle.blic_store.proofs.Candidates.{candidate_newest, candidate_older}
use Rattle.blic_graph.proofs.Finding.{IsAt, IsCandidateOf, hash_at_place, hash_here, missing_at_end, pair-drop, pairs_hashed, unequal_numbers}
use Rattle.blic_graph.proofs.pair_list.PairList.find.Goals.{else-eq-via-then-eq+else-eq-2, else-eq-via-else-eq}
use Rattle.blic_graph.proofs.pair_list.PairList.find.Goals as goal

pub loop-candidate-init : goal.loop-candidate-init
loop-candidate-init c =
    let pairs = drop c.args.self.now.start c.args.self.now.pairs in
    let r = c.args.first in
    let s = c.args.second in
    candidate_newest (length pairs) (hash_at_place pairs) (IsAt pairs r s) (hash_of r s) c.self.inside.table c.hash.result c.newest-candidate.result
    (pairs_hashed pairs c.self.inside.table (c.self.invariant.entered ∙ ap (λ (z : Found). map hash_of_pair (drop z.start z.pairs)) c.self.view_is))
    (hash_here pairs r s) c.hash.ensures c.newest-candidate.ensures.some c.newest-candidate.ensures.none

pub loop-candidate-preserved : goal.loop-candidate-preserved
loop-candidate-preserved c =
    let items = c.self.inside.pairs.items in
    let inside = map unpacked items in
    let start = c.self.inside.start in
    let r = c.args.first in
    let s = c.args.second in
    let pairs = drop c.args.self.now.start c.args.self.now.pairs in
    let seen : drop start inside ≡ pairs = ap (λ (z : Found). drop z.start z.pairs) c.self.view_is in
    let now : IsCandidateOf pairs r s (Some c.in-Some.k) = subst (IsCandidateOf pairs r s) c.in-Some.is c.loop-candidate.invariant in
    let here : IsCandidateOf (drop start inside) r s (Some c.in-Some.k) = subst (λ z. IsCandidateOf z r s (Some c.in-Some.k)) (sym seen) now in
    let l = here.in_range in
    let len = length-drop start inside in
    let same_len = length-map items unpacked in
    let read : c.index-pair.result.now ≡ packed_at items (start + c.in-Some.k) = get_or_read items (start + c.in-Some.k) c.index-pair.result.now (omega arith) c.index-pair.ensures (record { level = 0; first = 0; second = 0; low = 0; high = 0 }) in
    let whole : pair_at inside (start + c.in-Some.k) ≡ unpacked (packed_at items (start + c.in-Some.k)) = get_or-map unpacked items (start + c.in-Some.k) (record { level = 0; first = 0; second = 0; low = 0; high = 0 }) (record { level = 0; first = 0; second = 0; low = Side.Done 0 0; high = Side.Done 0 0 }) (omega arith) in
    let dropped : pair_at (drop start inside) c.in-Some.k ≡ pair_at inside (start + c.in-Some.k) = pair-drop inside start c.in-Some.k in
    let same : unpacked c.index-pair.result.now ≡ pair_at (drop start inside) c.in-Some.k = ap unpacked read ∙ (sym whole ∙ sym dropped) in
    let other : StandsAt (drop start inside) c.in-Some.k r s → ⊥ = λ x. elim c.else-eq.branch [
      | else-eq-via-then-eq+else-eq-2 w ↦ unequal_numbers c.index-pair.result.now.second s (sym w.eq-then-eq.ensures ∙ w.if-eq-2.false) (ap (λ (z : Pair). z.second) same ∙ x.second)
      | else-eq-via-else-eq w ↦ unequal_numbers c.index-pair.result.now.first r (sym c.eq.ensures ∙ w.if-eq.false) (ap (λ (z : Pair). z.first) same ∙ x.first)
    ] in
    candidate_older (length pairs) (hash_at_place pairs) (IsAt pairs r s) (hash_of r s) c.self.inside.table c.in-Some.k c.older-candidate.result
    (pairs_hashed pairs c.self.inside.table (c.self.invariant.entered ∙ ap (map hash_of_pair) seen))
    (hash_here pairs r s) now (λ x. other (subst (λ z. IsAt z r s c.in-Some.k) (sym seen) x))
    c.older-candidate.ensures.some c.older-candidate.ensures.none

pub returns-clause-none : goal.returns-clause-none
returns-clause-none c k l x =
    missing_at_end c.args.self.now.pairs c.args.self.now.start c.args.first c.args.second c.loop-candidate.candidate c.in_default.is c.loop-candidate.invariant k l x
