-- The honest replies of a conversation need no draws but those made before them.
use Rattle.std.proofs.Common.{arith, ℕ, zero, suc, ◌≡◌, ◌+◌, ◌-◌, ◌<◌, ◌≤◌, refl, sym, ◌∙◌, ap, subst, inl, inr, List, [], ◌∷◌, ◌++◌, length, get_or, Bool}
use Rattle.blic_model.specs.declared.node.Node.{Node}
use Rattle.blic_model.specs.Circuit.{table, free}
use Rattle.blic_claims.specs.Turns.{ForValues, Reply, turns, transcript, draws_above}
use Rattle.blic_claims.specs.Honest.{honest_answer, honest_at, honest_replies}
use Rattle.blic_claims.proofs.Settling.{replies_more, polys_settled, values_settled}
use Rattle.blic_verifier.proofs.FaultKept.{draws_before, draws_before_node}
use Rattle.blic_verifier.proofs.TurnPlaces.{turn_place, polys_turn_is, values_turn_is}

turn_settled : (nodes : List Node) (levels : ℕ) (b : Bool) (draws more : List ℕ) (replies : List Reply) (t : ℕ)
    → t < length (turns nodes levels) → draws_before nodes levels t ≤ length draws
    → honest_at nodes levels (transcript nodes levels b (draws ++ more) replies) (get_or (turns nodes levels) t (ForValues 0))
    ≡ honest_at nodes levels (transcript nodes levels b draws replies) (get_or (turns nodes levels) t (ForValues 0))
turn_settled nodes levels b draws more replies t l few = elim (turn_place nodes levels t l) [
  | inl p ↦
      let left = p.left in
      let n = length (free nodes levels p.node) - 1 - p.level in
      let count : draws_before nodes levels t ≡ draws_above nodes levels p.node + n =
      ap (draws_before nodes levels) p.number ∙ draws_before_node nodes levels p.node n p.inside p.binary (omega arith) in
      subst (λ u. honest_at nodes levels (transcript nodes levels b (draws ++ more) replies) u ≡ honest_at nodes levels (transcript nodes levels b draws replies) u)
      (sym (polys_turn_is nodes levels t p))
      (polys_settled nodes levels b draws more replies p.node p.level p.inside p.left (omega arith))
  | inr p ↦
      let n = length (free nodes levels p.node) in
      let count : draws_before nodes levels t ≡ draws_above nodes levels p.node + n =
      ap (draws_before nodes levels) p.number ∙ draws_before_node nodes levels p.node n p.inside p.binary (omega arith) in
      subst (λ u. honest_at nodes levels (transcript nodes levels b (draws ++ more) replies) u ≡ honest_at nodes levels (transcript nodes levels b draws replies) u)
      (sym (values_turn_is nodes levels t p))
      (values_settled nodes levels b draws more replies p.node (omega arith))
]

no_replies : (nodes : List Node) (levels : ℕ) (draws others : List ℕ) → honest_replies nodes levels draws 0 ≡ honest_replies nodes levels others 0
unfolding honest_replies table
no_replies nodes levels draws others = refl

-- the first t honest replies, where the draws before each of them are made
pub settled : (nodes : List Node) (levels : ℕ) (draws more : List ℕ) (t : ℕ) → t ≤ length (turns nodes levels)
    → ((s : ℕ) → s < t → draws_before nodes levels s ≤ length draws)
    → honest_replies nodes levels (draws ++ more) t ≡ honest_replies nodes levels draws t
settled nodes levels draws more zero l few = no_replies nodes levels (draws ++ more) draws
settled nodes levels draws more (suc t) l few =
    let b = honest_answer nodes levels in
    let rs = honest_replies nodes levels draws t in
    let turn = get_or (turns nodes levels) t (ForValues 0) in
    let before = settled nodes levels draws more t (omega arith) (λ s h. few s (omega arith)) in
    replies_more nodes levels (draws ++ more) t
    ∙ (ap (λ known. known ++ honest_at nodes levels (transcript nodes levels b (draws ++ more) known) turn ∷ []) before
    ∙ (ap (λ z. rs ++ z ∷ []) (turn_settled nodes levels b draws more rs t (omega arith) (few t (omega arith)))
    ∙ sym (replies_more nodes levels draws t)))
