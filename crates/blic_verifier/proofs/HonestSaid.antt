-- The honest replies of a circuit within its limits have frames.
use Rattle.std.proofs.Common.{arith, ℕ, suc, ◌≡◌, ◌<◌, refl, sym, subst, List, [], ◌∷◌, length, get_or}
use Rattle.std.specs.Prelude.{All, Some, map, true}
use Rattle.std.proofs.lemmas.List.Elements.{All-nil, All-cons}
use Rattle.blic_field.specs.Field.{modulus}
use Rattle.blic_model.specs.declared.node.Node.{Node}
use Rattle.blic_model.specs.Circuit.{node_at, free}
use Rattle.blic_model.specs.CircuitLimits.{IsWithinLimits}
use Rattle.blic_model.specs.Counts.{is_binary}
use Rattle.blic_model.specs.Shape.{IsShaped}
use Rattle.blic_messages.specs.Replies.{Said}
use Rattle.blic_messages.specs.Replies as said
use Rattle.blic_messages.specs.Reading.{IsReply}
use Rattle.blic_messages.specs.declared.ask.Ask.{Ask}
use Rattle.blic_claims.specs.Turns.{Turn, ForPolys, ForValues, Reply, Polys, Values, Fits, turns, no_reply, reply_by}
use Rattle.blic_claims.specs.Honest.{honest_replies}
use Rattle.blic_claims.proofs.SomeClaim.{some_claim_law}
use Rattle.blic_verifier.specs.SoundnessLaws.{ReplyHasElements}
use Rattle.blic_verifier.specs.Verdict.{Talk, Silent, Talked}
use Rattle.blic_verifier.specs.Conversation.{Instance, Position, Awaits, Ended, AreHonest, honest_reply, read_on}
use Rattle.blic_verifier.proofs.HonestEntries.{honest_reply_fits}
use Rattle.blic_verifier.proofs.HonestWay.{IsHonestPosition, step}
use Rattle.blic_verifier.proofs.TurnPlaces.{turns_are_of_nodes}

-- a turn for polynomials is that of a binary node
abbrev IsOfNode : List Node → ℕ → Turn → Type 0
IsOfNode nodes levels u = (k i : ℕ) → u ≡ ForPolys k i → (k < length nodes) × (is_binary (node_at nodes k) ≡ true) × (i < length (free nodes levels k))

-- a reply that fits its turn has a frame
fitting_reply : (nodes : List Node) (levels : ℕ) → IsShaped nodes levels → IsWithinLimits nodes levels → (u : Turn) → IsOfNode nodes levels u
    → (r : Reply) → Fits nodes u r → ReplyHasElements r → IsReply (reply_by said.Polys said.Values r)
fitting_reply nodes levels shaped limits (ForPolys k i) of_node (Polys ps) fits elements =
    let place = of_node k i refl in
    let some = some_claim_law nodes levels shaped k place.0 in
    let few = limits.0 k (omega arith) place.0 place.1 in (omega (arith, some, fits), omega (arith, few, fits), elements)
fitting_reply nodes levels shaped limits (ForPolys k i) of_node (Values u w) fits elements = absurd fits
fitting_reply nodes levels shaped limits (ForValues k) of_node (Polys ps) fits elements = absurd fits
fitting_reply nodes levels shaped limits (ForValues k) of_node (Values u w) fits elements = elements

honest_said : (x : Instance) → IsShaped x.circuit.nodes (length x.circuit.order) → IsWithinLimits x.circuit.nodes (length x.circuit.order)
    → (m : ℕ) (ask : Ask) (talk : Talk) (n : ℕ) → IsHonestPosition x.circuit m (Awaits ask talk n) → IsReply (honest_reply x talk)
honest_said x shaped limits m ask Silent n h = tt
honest_said x shaped limits m ask (Talked a draws replies) n h =
    let nodes = x.circuit.nodes in
    let levels = length x.circuit.order in
    let fits = honest_reply_fits nodes levels shaped draws h.1.elements (length replies) h.1.left in
    fitting_reply nodes levels shaped limits (get_or (turns nodes levels) (length replies) (ForValues 0))
    (λ k i e. (turns_are_of_nodes nodes levels shaped).0 (length replies) k i h.1.left e)
    (get_or (honest_replies nodes levels draws (suc (length replies))) (length replies) no_reply) fits.0 fits.1

pub all_honest_said : (x : Instance) → IsShaped x.circuit.nodes (length x.circuit.order) → IsWithinLimits x.circuit.nodes (length x.circuit.order)
    → (draw : ℕ → ℕ) → ((n : ℕ) → draw n < modulus) → (replies : List Said) (m : ℕ) (p : Position)
    → IsHonestPosition x.circuit m p → AreHonest x draw p (map Some replies) → All IsReply replies
all_honest_said x shaped limits draw below [] m p h honest = All-nil IsReply
all_honest_said x shaped limits draw below (s ∷ rs) m (Ended e t) h honest = absurd honest
all_honest_said x shaped limits draw below (s ∷ rs) m (Awaits ask talk n) h honest =
    let is : s ≡ honest_reply x talk = some_is s (honest_reply x talk) honest.0 in
    All-cons IsReply s rs (subst IsReply (sym is) (honest_said x shaped limits m ask talk n h))
    (all_honest_said x shaped limits draw below rs (suc m) (read_on x draw (Awaits ask talk n) (Some s))
    (subst (λ z. IsHonestPosition x.circuit (suc m) (read_on x draw (Awaits ask talk n) z)) (sym honest.0) (step x shaped draw below m ask talk n h)) honest.1)
  where
    some_is : (s t : Said) → Some s ≡ Some t → s ≡ t
    some_is s t e = cc
