-- What taking values says, and what the verifier then stands for.
use Rattle.std.proofs.Common.{arith, ℕ, ◌≡◌, ◌+◌, ◌<◌, refl, sym, ◌∙◌, ap, subst, List, [], ◌∷◌, ◌++◌, length, get_or, Bool, true, false, eqb}
use Rattle.std.specs.Prelude.{min, not, Some, None}
use Rattle.std.proofs.lemmas.Bool.{eq-eqb, eqb-true}
use Rattle.std.proofs.lemmas.List.{length_push}
use Rattle.blic_model.specs.Circuit.{node_at}
use Rattle.blic_model.specs.Shape.{IsShaped}
use Rattle.blic_claims.specs.Places.{layout_of}
use Rattle.blic_claims.specs.Points.{coordinate}
use Rattle.blic_claims.specs.Claims.{claims_on}
use Rattle.blic_claims.specs.Turns.{Reply, transcript}
use Rattle.blic_claims.specs.Turns.{Values as ValuesReply}
use Rattle.blic_claims.specs.declared.layout.Row.{Row}
use Rattle.blic_claims.proofs.Turns.{values_below}
use Rattle.blic_claims.proofs.SomeClaim.{some_claim_law}
use Rattle.blic_messages.specs.Replies.{Values}
use Rattle.blic_verifier.specs.Acceptance.{ends_check, combine_check}
use Rattle.blic_verifier.specs.Verdict.{Talk, Silent, Talked, next_of, judged, next_after, with_reply, IsAcceptedAs}
use Rattle.blic_verifier.specs.Standing.{Verifying, held_value, HoldsFor, StandsAt}
use Rattle.blic_verifier.specs.Holding.{IsFirstDifference, joined, HasMet, WalksTo}
use Rattle.blic_verifier.specs.Fitted.{HasFewTurns, IsOnWalk}
use Rattle.blic_verifier.specs.declared.place.Part.TheVariants.{Ends, Combine}
use Rattle.blic_verifier.specs.declared.next.Next.{Next}
use Rattle.blic_verifier.specs.declared.next.Next.TheVariants.{Done, Rejected}
use Rattle.blic_verifier.specs.declared.stage.Stage.TheVariants.{Ready}
use Rattle.blic_claims.proofs.Rows.{IsRow}
use Rattle.blic_verifier.proofs.Judging.{judged_fault}
use Rattle.blic_verifier.proofs.ValuesFault.{values_next, ends_fault, combine_fault}
use Rattle.blic_verifier.proofs.TakenPolys.{ready_for, not_silent, held_at}

-- what the code compares with is the value of claim 0
value_is : (s : Verifying) (k value : ℕ) (row : Row) → s.points.rows ≡ (layout_of s.circuit).rows → IsRow s.circuit k row → k < length s.circuit.nodes
    → value ≡ get_or s.values row.first 0 → value ≡ held_value s k 0
value_is s k value row ep own lk e = e ∙ (ap (λ z. get_or s.values z 0) (let q : row.first ≡ row.first + 0 = omega arith in q) ∙ held_at s k 0 row ep own lk)

pub ends_said : (s : Verifying) (k d u w value : ℕ) (row : Row) → s.stage ≡ Ready k 0 → s.points.rows ≡ (layout_of s.circuit).rows
    → IsRow s.circuit k row → value ≡ get_or s.values row.first 0
    → IsFirstDifference row.claims (λ c. get_or s.values (row.first + c) 0) (λ c. value) (Some d)
    → (t : Talk) → HoldsFor s t → Rejected (record { node = k; part = Ends; claim = d }) ≡ next_of (next_after s.circuit.nodes (length s.circuit.order) t (Values u w))
ends_said s k d u w value row es ep own ev h Silent st = absurd (not_silent s k 0 es st)
ends_said s k d u w value row es ep own ev (ld, before, bad) (Talked answer draws replies) st =
    let nodes = s.circuit.nodes in
    let levels = length s.circuit.order in
    let r = ready_for s k 0 answer draws replies es st in
    let lk = r.ready.inside in
    let m = own.count in
    let zero = value_is s k value row ep own lk ev in
    let S = transcript nodes levels answer draws (replies ++ ValuesReply u w ∷ []) in
    sym (ap next_of (values_next nodes levels answer draws replies k u w (coordinate s.points) (held_value s) r.ready
    ∙ judged_fault nodes levels answer draws (replies ++ ValuesReply u w ∷ []) (ends_check nodes levels S k (claims_on nodes levels S k) d)
    (ends_fault nodes levels answer draws replies k u w d (coordinate s.points) (held_value s) r.ready (omega arith)
    (λ e l. sym (held_at s k e row ep own lk) ∙ (before e l ∙ zero))
    (λ q. bad (held_at s k d row ep own lk ∙ (q ∙ sym zero))))))

pub combine_said : (s : Verifying) (k u w value : ℕ) (row : Row) → s.stage ≡ Ready k 0 → s.points.rows ≡ (layout_of s.circuit).rows
    → IsRow s.circuit k row → value ≡ get_or s.values row.first 0
    → IsShaped s.circuit.nodes (length s.circuit.order)
    → IsFirstDifference row.claims (λ c. get_or s.values (row.first + c) 0) (λ c. value) None → (joined (node_at s.circuit.nodes k) u w ≡ value → ⊥)
    → (t : Talk) → HoldsFor s t
    → Rejected (record { node = k; part = Combine; claim = 0 }) ≡ next_of (next_after s.circuit.nodes (length s.circuit.order) t (Values u w))
combine_said s k u w value row es ep own ev shaped h bad Silent st = absurd (not_silent s k 0 es st)
combine_said s k u w value row es ep own ev shaped h bad (Talked answer draws replies) st =
    let nodes = s.circuit.nodes in
    let levels = length s.circuit.order in
    let r = ready_for s k 0 answer draws replies es st in
    let lk = r.ready.inside in
    let m = own.count in
    let zero = value_is s k value row ep own lk ev in
    let S = transcript nodes levels answer draws (replies ++ ValuesReply u w ∷ []) in
    sym (ap next_of (values_next nodes levels answer draws replies k u w (coordinate s.points) (held_value s) r.ready
    ∙ judged_fault nodes levels answer draws (replies ++ ValuesReply u w ∷ []) (combine_check nodes levels S k (claims_on nodes levels S k) (joined (node_at nodes k) u w))
    (combine_fault nodes levels answer draws replies k u w (coordinate s.points) (held_value s) r.ready (some_claim_law nodes levels shaped k lk)
    (λ c l. sym (held_at s k c row ep own lk) ∙ (h c (omega arith) ∙ zero))
    (λ q. bad (sym q ∙ sym zero)))))

-- where all ends meet and the values combine, the walk goes on
pub on_walk : (s n : Verifying) (k u w value : ℕ) (row : Row) → s.stage ≡ Ready k 0 → s.points.rows ≡ (layout_of s.circuit).rows
    → IsRow s.circuit k row → value ≡ get_or s.values row.first 0
    → IsFirstDifference row.claims (λ c. get_or s.values (row.first + c) 0) (λ c. value) None → joined (node_at s.circuit.nodes k) u w ≡ value
    → n.circuit ≡ s.circuit → n.answer ≡ s.answer → n.turn ≡ min (s.turn + 1) 18446744073709551615 → HasFewTurns s.circuit
    → ((answer : Bool) (draws : List ℕ) (replies : List Reply) → HasMet s.circuit answer draws replies k s.points s.values u w → WalksTo s.circuit answer draws (replies ++ ValuesReply u w ∷ []) k n.points n.values)
    → (answer : Bool) (draws : List ℕ) (replies : List Reply) → HoldsFor s (Talked answer draws replies)
    → IsOnWalk n answer draws (replies ++ ValuesReply u w ∷ []) k
on_walk s n k u w value row es ep own ev h comb ec ea et few walk answer draws replies st =
    let nodes = s.circuit.nodes in
    let levels = length s.circuit.order in
    let r = ready_for s k 0 answer draws replies es st in
    let lk = r.ready.inside in
    let rc = r.ready.reply_count in
    let m = own.count in
    let t = r.same_turn in
    let zero = value_is s k value row ep own lk ev in
    let b = values_below nodes levels k lk r.ready.binary in
    let met : HasMet s.circuit answer draws replies k s.points s.values u w = record {
      ready = r.ready;
      ends = λ c l. sym (held_at s k c row ep own lk) ∙ (h c (omega arith) ∙ zero);
      combine = sym zero ∙ sym comb;
    } in
    record {
      same_answer = ea ∙ r.same_answer;
      same_turn = omega (arith, length_push replies (ValuesReply u w));
      walks = subst (λ z. WalksTo z answer draws (replies ++ ValuesReply u w ∷ []) k n.points n.values) (sym ec) (walk answer draws replies met);
    }

-- what is said and stood for after the walk is so for the talk with the values
pub walk_said : (s n : Verifying) (k u w : ℕ) (next : Next) → s.stage ≡ Ready k 0 → n.circuit ≡ s.circuit
    → ((answer : Bool) (draws : List ℕ) (replies : List Reply) → HoldsFor s (Talked answer draws replies) → IsOnWalk n answer draws (replies ++ ValuesReply u w ∷ []) k)
    → ((answer : Bool) (draws : List ℕ) (replies : List Reply) → IsOnWalk n answer draws replies k → next ≡ next_of (judged n.circuit.nodes (length n.circuit.order) answer draws replies))
    → (t : Talk) → HoldsFor s t → next ≡ next_of (next_after s.circuit.nodes (length s.circuit.order) t (Values u w))
walk_said s n k u w next es ec on says Silent st = absurd (not_silent s k 0 es st)
walk_said s n k u w next es ec on says (Talked answer draws replies) st =
    says answer draws (replies ++ ValuesReply u w ∷ []) (on answer draws replies st)
    ∙ (ap (λ z. next_of (judged z.nodes (length z.order) answer draws (replies ++ ValuesReply u w ∷ []))) ec
    ∙ sym (ap next_of (values_next s.circuit.nodes (length s.circuit.order) answer draws replies k u w (coordinate s.points) (held_value s) (ready_for s k 0 answer draws replies es st).ready)))

pub walk_stands : (s n after : Verifying) (k u w : ℕ) → s.stage ≡ Ready k 0
    → ((answer : Bool) (draws : List ℕ) (replies : List Reply) → HoldsFor s (Talked answer draws replies) → IsOnWalk n answer draws (replies ++ ValuesReply u w ∷ []) k)
    → ((answer : Bool) (draws : List ℕ) (replies : List Reply) → IsOnWalk n answer draws replies k → StandsAt after after.stage answer draws replies)
    → (t : Talk) → HoldsFor s t → HoldsFor after (with_reply t (Values u w))
walk_stands s n after k u w es on stands Silent st = absurd (not_silent s k 0 es st)
walk_stands s n after k u w es on stands (Talked answer draws replies) st = stands answer draws (replies ++ ValuesReply u w ∷ []) (on answer draws replies st)

pub walk_accepted : (s n : Verifying) (k u w : ℕ) (next : Next) → s.stage ≡ Ready k 0 → n.circuit ≡ s.circuit
    → ((answer : Bool) (draws : List ℕ) (replies : List Reply) → HoldsFor s (Talked answer draws replies) → IsOnWalk n answer draws (replies ++ ValuesReply u w ∷ []) k)
    → ((answer : Bool) (draws : List ℕ) (replies : List Reply) → IsOnWalk n answer draws replies k → (b : Bool) → next ≡ Done b → IsAcceptedAs n.circuit b (Talked answer draws replies))
    → (t : Talk) → HoldsFor s t → (b : Bool) → next ≡ Done b → IsAcceptedAs s.circuit b (with_reply t (Values u w))
walk_accepted s n k u w next es ec on accepted Silent st b e = absurd (not_silent s k 0 es st)
walk_accepted s n k u w next es ec on accepted (Talked answer draws replies) st b e =
    subst (λ z. IsAcceptedAs z b (Talked answer draws (replies ++ ValuesReply u w ∷ []))) ec (accepted answer draws (replies ++ ValuesReply u w ∷ []) (on answer draws replies st) b e)

-- what a test of elements says
pub differ : (a b : ℕ) → true ≡ not (eqb a b) → a ≡ b → ⊥
differ a b t e = apart (t ∙ ap not (eq-eqb a b e))
  where
    apart : true ≡ false → ⊥
    apart e = cc

pub agree : (a b : ℕ) → false ≡ not (eqb a b) → a ≡ b
agree a b t = eqb-true a b (back (eqb a b) t)
  where
    back : (c : Bool) → false ≡ not c → c ≡ true
    back true e = refl
    back false e = absurd (cc e)
