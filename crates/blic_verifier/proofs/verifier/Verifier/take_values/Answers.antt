use Rattle.std.proofs.Common.{arith, ℕ, ◌≡◌, ◌∙◌, ◌<◌, ◌++◌, ◌∷◌, [], refl, ap, subst, sym, Bool, List, length, get_or}
use Rattle.std.proofs.lemmas.List.{get_or_default}
use Rattle.blic_model.specs.Circuit.{node_at}
use Rattle.blic_claims.specs.Turns.{Reply as ReplyOf}
use Rattle.blic_claims.specs.Turns.{Values as ValuesReply}
use Rattle.blic_claims.proofs.SomeClaim.{some_claim_law}
use Rattle.blic_messages.specs.Replies.{Values}
use Rattle.blic_verifier.specs.Verdict.{Talk, Talked, next_after, next_of, with_reply, IsAcceptedAs}
use Rattle.blic_verifier.specs.Standing.{Verifying, HoldsFor}
use Rattle.blic_verifier.specs.Holding.{joined}
use Rattle.blic_verifier.specs.Fitted.{StageFits, IsOnWalk}
use Rattle.blic_verifier.specs.declared.place.Part.TheVariants.{Ends, Combine}
use Rattle.blic_verifier.specs.declared.next.Next.TheVariants.{Done, Rejected}
use Rattle.blic_verifier.specs.declared.stage.Stage.TheVariants.{Ready}
use Rattle.blic_claims.proofs.Places.{rows_of_layout, row_of_layout, row_within}
use Rattle.blic_verifier.proofs.TakenValues.{ends_said, combine_said, on_walk, walk_said, walk_stands, walk_accepted, differ, agree}
use Rattle.blic_verifier.proofs.verifier.Verifier.take_values.Goals as goal

pub row-row-requires : goal.row-row-requires
row-row-requires g c =
    let at_work : StageFits c.self.inside.circuit.now (Ready c.args.node 0) = subst (StageFits c.self.inside.circuit.now) (ap (λ z. z.stage) c.self.view_is ∙ c.requires) c.self.invariant.at_work in
    omega (arith, rows_of_layout c.self.inside.circuit.now c.self.inside.layout.now c.self.invariant.laid_out, at_work.0)

pub index-requires : goal.index-requires
index-requires g c =
    let circuit = c.self.inside.circuit.now in
    let at_work : StageFits circuit (Ready c.args.node 0) = subst (StageFits circuit) (ap (λ z. z.stage) c.self.view_is ∙ c.requires) c.self.invariant.at_work in
    let own = row_of_layout circuit c.self.inside.layout.now c.args.node c.row-row.result c.self.invariant.laid_out at_work.0 c.row-row.ensures in
    omega (
      arith,
      own.count,
      some_claim_law circuit.nodes (length circuit.order) c.is_within_limits.ensures.shaped c.args.node at_work.0,
      row_within circuit c.args.node (length c.self.inside.held.values.items) c.row-row.result own at_work.0 c.self.invariant.room.enough,
      c.self.inside.held.values.ok,
    )

pub first_other-requires : goal.first_other-requires
first_other-requires g c =
    let circuit = c.self.inside.circuit.now in
    let at_work : StageFits circuit (Ready c.args.node 0) = subst (StageFits circuit) (ap (λ z. z.stage) c.self.view_is ∙ c.requires) c.self.invariant.at_work in
    let own = row_of_layout circuit c.self.inside.layout.now c.args.node c.row-row.result c.self.invariant.laid_out at_work.0 c.row-row.ensures in
    row_within circuit c.args.node (length c.self.inside.held.values.items) c.row-row.result own at_work.0 c.self.invariant.room.enough

pub returns-in-Some-clause-says : goal.returns-in-Some-clause-says
returns-in-Some-clause-says g c =
    let inside = c.self.inside in
    let circuit = inside.circuit.now in
    let ready = ap (λ z. z.stage) c.self.view_is ∙ c.requires in
    let at_work : StageFits circuit (Ready c.args.node 0) = subst (StageFits circuit) ready c.self.invariant.at_work in
    let own = row_of_layout circuit inside.layout.now c.args.node c.row-row.result c.self.invariant.laid_out at_work.0 c.row-row.ensures in
    let lower : c.row-row.result.first < length inside.held.values.items = omega (
      arith,
      own.count,
      some_claim_law circuit.nodes (length circuit.order) c.is_within_limits.ensures.shaped c.args.node at_work.0,
      row_within circuit c.args.node (length inside.held.values.items) c.row-row.result own at_work.0 c.self.invariant.room.enough,
    ) in
    let value : c.index.result.now ≡ get_or inside.held.values.items c.row-row.result.first 0 = c.index.ensures ∙ get_or_default inside.held.values.items c.row-row.result.first c.index.result.now 0 lower in
    let s : Verifying = record { circuit = circuit; points = inside.held.points; values = inside.held.values.items; polys = inside.polys.items; stage = inside.stage; answer = inside.answer; turn = inside.turn } in
    rw c.reject.ensures.says (subst (λ z. (t : Talk) → HoldsFor z t → Rejected (record { node = c.args.node; part = Ends; claim = c.in-Some.claim }) ≡ next_of (next_after z.circuit.nodes (length z.circuit.order) t (Values c.args.u c.args.w))) c.self.view_is
    (ends_said s c.args.node c.in-Some.claim c.args.u c.args.w c.index.result.now c.row-row.result ready c.self.invariant.room.same_rows own value c.in-Some.ensures))

pub returns-then-ne-clause-says : goal.returns-then-ne-clause-says
returns-then-ne-clause-says g c =
    let inside = c.self.inside in
    let circuit = inside.circuit.now in
    let ready = ap (λ z. z.stage) c.self.view_is ∙ c.requires in
    let at_work : StageFits circuit (Ready c.args.node 0) = subst (StageFits circuit) ready c.self.invariant.at_work in
    let own = row_of_layout circuit inside.layout.now c.args.node c.row-row.result c.self.invariant.laid_out at_work.0 c.row-row.ensures in
    let lower : c.row-row.result.first < length inside.held.values.items = omega (
      arith,
      own.count,
      some_claim_law circuit.nodes (length circuit.order) c.is_within_limits.ensures.shaped c.args.node at_work.0,
      row_within circuit c.args.node (length inside.held.values.items) c.row-row.result own at_work.0 c.self.invariant.room.enough,
    ) in
    let value : c.index.result.now ≡ get_or inside.held.values.items c.row-row.result.first 0 = c.index.ensures ∙ get_or_default inside.held.values.items c.row-row.result.first c.index.result.now 0 lower in
    let joins : c.combined.result ≡ joined (node_at circuit.nodes c.args.node) c.args.u c.args.w = c.combined.ensures.value ∙ ap (λ m. joined m c.args.u c.args.w) c.node.ensures in
    let s : Verifying = record { circuit = circuit; points = inside.held.points; values = inside.held.values.items; polys = inside.polys.items; stage = inside.stage; answer = inside.answer; turn = inside.turn } in
    rw c.reject-then-ne.ensures.says (subst (λ z. (t : Talk) → HoldsFor z t → Rejected (record { node = c.args.node; part = Combine; claim = 0 }) ≡ next_of (next_after z.circuit.nodes (length z.circuit.order) t (Values c.args.u c.args.w))) c.self.view_is
    (combine_said s c.args.node c.args.u c.args.w c.index.result.now c.row-row.result ready c.self.invariant.room.same_rows own value c.is_within_limits.ensures.shaped c.in_default.ensures (λ e. differ c.combined.result c.index.result.now c.if-ne.ensures (joins ∙ e))))

pub returns-clause-says : goal.returns-clause-says
returns-clause-says g c =
    let inside = c.self.inside in
    let circuit = inside.circuit.now in
    let ready = ap (λ z. z.stage) c.self.view_is ∙ c.requires in
    let at_work : StageFits circuit (Ready c.args.node 0) = subst (StageFits circuit) ready c.self.invariant.at_work in
    let own = row_of_layout circuit inside.layout.now c.args.node c.row-row.result c.self.invariant.laid_out at_work.0 c.row-row.ensures in
    let lower : c.row-row.result.first < length inside.held.values.items = omega (
      arith,
      own.count,
      some_claim_law circuit.nodes (length circuit.order) c.is_within_limits.ensures.shaped c.args.node at_work.0,
      row_within circuit c.args.node (length inside.held.values.items) c.row-row.result own at_work.0 c.self.invariant.room.enough,
    ) in
    let value : c.index.result.now ≡ get_or inside.held.values.items c.row-row.result.first 0 = c.index.ensures ∙ get_or_default inside.held.values.items c.row-row.result.first c.index.result.now 0 lower in
    let joins : c.combined.result ≡ joined (node_at circuit.nodes c.args.node) c.args.u c.args.w = c.combined.ensures.value ∙ ap (λ m. joined m c.args.u c.args.w) c.node.ensures in
    let s : Verifying = record { circuit = circuit; points = inside.held.points; values = inside.held.values.items; polys = inside.polys.items; stage = inside.stage; answer = inside.answer; turn = inside.turn } in
    let n : Verifying = record { circuit = circuit; points = c.hand_down.new.self.points; values = c.hand_down.new.self.values.items; polys = inside.polys.items; stage = inside.stage; answer = inside.answer; turn = c.saturating_add-self-inside.result } in
    let on : (answer : Bool) (draws : List ℕ) (replies : List ReplyOf) → HoldsFor s (Talked answer draws replies) → IsOnWalk n answer draws (replies ++ ValuesReply c.args.u c.args.w ∷ []) c.args.node =
    on_walk s n c.args.node c.args.u c.args.w c.index.result.now c.row-row.result ready c.self.invariant.room.same_rows own value c.in_default.ensures (sym joins ∙ agree c.combined.result c.index.result.now c.if-ne.ensures)
    refl refl c.saturating_add-self-inside.ensures c.self.invariant.few_turns c.hand_down.ensures.taken in
    subst (λ z. (t : Talk) → HoldsFor z t → c.go_on.result ≡ next_of (next_after z.circuit.nodes (length z.circuit.order) t (Values c.args.u c.args.w))) c.self.view_is
    (walk_said s n c.args.node c.args.u c.args.w c.go_on.result ready refl on c.go_on.ensures.says)

pub returns-clause-taken : goal.returns-clause-taken
returns-clause-taken g c =
    let inside = c.self.inside in
    let circuit = inside.circuit.now in
    let ready = ap (λ z. z.stage) c.self.view_is ∙ c.requires in
    let at_work : StageFits circuit (Ready c.args.node 0) = subst (StageFits circuit) ready c.self.invariant.at_work in
    let own = row_of_layout circuit inside.layout.now c.args.node c.row-row.result c.self.invariant.laid_out at_work.0 c.row-row.ensures in
    let lower : c.row-row.result.first < length inside.held.values.items = omega (
      arith,
      own.count,
      some_claim_law circuit.nodes (length circuit.order) c.is_within_limits.ensures.shaped c.args.node at_work.0,
      row_within circuit c.args.node (length inside.held.values.items) c.row-row.result own at_work.0 c.self.invariant.room.enough,
    ) in
    let value : c.index.result.now ≡ get_or inside.held.values.items c.row-row.result.first 0 = c.index.ensures ∙ get_or_default inside.held.values.items c.row-row.result.first c.index.result.now 0 lower in
    let joins : c.combined.result ≡ joined (node_at circuit.nodes c.args.node) c.args.u c.args.w = c.combined.ensures.value ∙ ap (λ m. joined m c.args.u c.args.w) c.node.ensures in
    let s : Verifying = record { circuit = circuit; points = inside.held.points; values = inside.held.values.items; polys = inside.polys.items; stage = inside.stage; answer = inside.answer; turn = inside.turn } in
    let n : Verifying = record { circuit = circuit; points = c.hand_down.new.self.points; values = c.hand_down.new.self.values.items; polys = inside.polys.items; stage = inside.stage; answer = inside.answer; turn = c.saturating_add-self-inside.result } in
    let on : (answer : Bool) (draws : List ℕ) (replies : List ReplyOf) → HoldsFor s (Talked answer draws replies) → IsOnWalk n answer draws (replies ++ ValuesReply c.args.u c.args.w ∷ []) c.args.node =
    on_walk s n c.args.node c.args.u c.args.w c.index.result.now c.row-row.result ready c.self.invariant.room.same_rows own value c.in_default.ensures (sym joins ∙ agree c.combined.result c.index.result.now c.if-ne.ensures)
    refl refl c.saturating_add-self-inside.ensures c.self.invariant.few_turns c.hand_down.ensures.taken in
    subst (λ z. (t : Talk) → HoldsFor z t → HoldsFor c.go_on.new.self (with_reply t (Values c.args.u c.args.w))) c.self.view_is
    (walk_stands s n c.go_on.new.self c.args.node c.args.u c.args.w ready on c.go_on.ensures.stands)

pub returns-clause-accepted : goal.returns-clause-accepted
returns-clause-accepted g c =
    let inside = c.self.inside in
    let circuit = inside.circuit.now in
    let ready = ap (λ z. z.stage) c.self.view_is ∙ c.requires in
    let at_work : StageFits circuit (Ready c.args.node 0) = subst (StageFits circuit) ready c.self.invariant.at_work in
    let own = row_of_layout circuit inside.layout.now c.args.node c.row-row.result c.self.invariant.laid_out at_work.0 c.row-row.ensures in
    let lower : c.row-row.result.first < length inside.held.values.items = omega (
      arith,
      own.count,
      some_claim_law circuit.nodes (length circuit.order) c.is_within_limits.ensures.shaped c.args.node at_work.0,
      row_within circuit c.args.node (length inside.held.values.items) c.row-row.result own at_work.0 c.self.invariant.room.enough,
    ) in
    let value : c.index.result.now ≡ get_or inside.held.values.items c.row-row.result.first 0 = c.index.ensures ∙ get_or_default inside.held.values.items c.row-row.result.first c.index.result.now 0 lower in
    let joins : c.combined.result ≡ joined (node_at circuit.nodes c.args.node) c.args.u c.args.w = c.combined.ensures.value ∙ ap (λ m. joined m c.args.u c.args.w) c.node.ensures in
    let s : Verifying = record { circuit = circuit; points = inside.held.points; values = inside.held.values.items; polys = inside.polys.items; stage = inside.stage; answer = inside.answer; turn = inside.turn } in
    let n : Verifying = record { circuit = circuit; points = c.hand_down.new.self.points; values = c.hand_down.new.self.values.items; polys = inside.polys.items; stage = inside.stage; answer = inside.answer; turn = c.saturating_add-self-inside.result } in
    let on : (answer : Bool) (draws : List ℕ) (replies : List ReplyOf) → HoldsFor s (Talked answer draws replies) → IsOnWalk n answer draws (replies ++ ValuesReply c.args.u c.args.w ∷ []) c.args.node =
    on_walk s n c.args.node c.args.u c.args.w c.index.result.now c.row-row.result ready c.self.invariant.room.same_rows own value c.in_default.ensures (sym joins ∙ agree c.combined.result c.index.result.now c.if-ne.ensures)
    refl refl c.saturating_add-self-inside.ensures c.self.invariant.few_turns c.hand_down.ensures.taken in
    subst (λ z. (t : Talk) → HoldsFor z t → (b : Bool) → c.go_on.result ≡ Done b → IsAcceptedAs z.circuit b (with_reply t (Values c.args.u c.args.w))) c.self.view_is
    (walk_accepted s n c.args.node c.args.u c.args.w c.go_on.result ready refl on c.go_on.ensures.accepted)
