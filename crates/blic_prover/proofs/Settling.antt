-- Sessions whose replies need no draws but those made before them.
use Rattle.std.proofs.Common.{arith, ℕ, suc, ◌≡◌, sym, ◌∙◌, ap, List, [], ◌∷◌, ◌++◌, length, get_or, append_assoc}
use mathlib.Core.Path.{ap₂}
use Rattle.blic_model.specs.Circuit.{OrderedCircuit}
use Rattle.blic_claims.specs.Turns.{Turn, ForValues, Reply, turns, transcript, no_reply}
use Rattle.blic_claims.specs.Honest.{honest_answer, honest_at, honest_replies}
use Rattle.blic_claims.proofs.Settling.{replies_more, entry_is}
use Rattle.blic_prover.specs.Standing.{honest_talk, IsSettled}

-- the last of the honest replies
pub reply_is : (c : OrderedCircuit) (draws : List ℕ) (t : ℕ) (turn : Turn) → get_or (turns c.nodes (length c.order)) t (ForValues 0) ≡ turn
    → get_or (honest_replies c.nodes (length c.order) draws (suc t)) t no_reply ≡ honest_at c.nodes (length c.order) (honest_talk c draws t) turn
reply_is c draws t turn e =
    entry_is c.nodes (length c.order) draws (suc t) t (omega arith) ∙ ap (honest_at c.nodes (length c.order) (honest_talk c draws t)) e

-- a draw more
pub settled_draw : (c : OrderedCircuit) (draws : List ℕ) (r t : ℕ) → IsSettled c draws t → IsSettled c (draws ++ r ∷ []) t
settled_draw c draws r t h more =
    ap (λ ds. honest_replies c.nodes (length c.order) ds t) (append_assoc draws (r ∷ []) more) ∙ (h (r ∷ more) ∙ sym (h (r ∷ [])))

-- a reply more, if it needs no more draws either
pub settled_reply : (c : OrderedCircuit) (draws : List ℕ) (t : ℕ) (turn : Turn) → IsSettled c draws t
    → get_or (turns c.nodes (length c.order)) t (ForValues 0) ≡ turn
    → ((more : List ℕ) → honest_at c.nodes (length c.order) (transcript c.nodes (length c.order) (honest_answer c.nodes (length c.order)) (draws ++ more) (honest_replies c.nodes (length c.order) draws t)) turn
    ≡ honest_at c.nodes (length c.order) (honest_talk c draws t) turn)
    → IsSettled c draws (suc t)
settled_reply c draws t turn h e step more =
    let nodes = c.nodes in
    let levels = length c.order in
    let rs = honest_replies nodes levels draws t in
    let at_turn : List ℕ → List Reply → Turn → List Reply = λ ds known tn. known ++ honest_at nodes levels (transcript nodes levels (honest_answer nodes levels) ds known) tn ∷ [] in
    replies_more nodes levels (draws ++ more) t ∙ (ap₂ (at_turn (draws ++ more)) (h more) e
    ∙ (ap (λ z. rs ++ z ∷ []) (step more) ∙ (sym (ap (at_turn draws rs) e) ∙ sym (replies_more nodes levels draws t))))
