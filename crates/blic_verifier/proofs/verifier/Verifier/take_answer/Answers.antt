use Rattle.std.proofs.Common.{arith, ◌≡◌, ◌∙◌, ◌+◌, refl, ap, subst, [], Bool, length, set}
use mathlib.Core.Path.{ap₂}
use Rattle.std.specs.Prelude.{sum_by}
use Rattle.blic_model.specs.Circuit.{root, below}
use Rattle.blic_model.specs.Counts.{claims}
use Rattle.blic_model.proofs.Shaped.{size_of}
use Rattle.blic_verifier.specs.declared.next.Next.TheVariants.{Done}
use Rattle.blic_verifier.specs.Verdict.{Talked, judged, next_of, IsAcceptedAs}
use Rattle.blic_verifier.specs.Standing.{Verifying}
use Rattle.blic_verifier.specs.Holding.{WalksTo}
use Rattle.blic_verifier.specs.Fitted.{IsOnWalk}
use Rattle.blic_claims.proofs.Places.{rows_of_layout, row_of_layout}
use Rattle.blic_verifier.proofs.TakenAnswer.{root_place, answer_walk}
use Rattle.blic_verifier.proofs.verifier.Verifier.take_answer.Goals as goal

pub row-place-requires : goal.row-place-requires
row-place-requires c =
    let circuit = c.self.inside.circuit.now in
    let is_root : c.root-root.result ≡ root circuit.nodes = c.root-root.ensures in
    let size = size_of circuit.nodes (length circuit.order) c.is_within_limits.ensures.shaped in
    omega (arith, is_root, size.0, rows_of_layout circuit c.self.inside.layout.now c.self.invariant.laid_out)

pub index_mut-requires : goal.index_mut-requires
index_mut-requires c =
    let circuit = c.self.inside.circuit.now in
    let is_root : c.root-root.result ≡ root circuit.nodes = c.root-root.ensures in
    let size = size_of circuit.nodes (length circuit.order) c.is_within_limits.ensures.shaped in
    let own = row_of_layout circuit c.self.inside.layout.now c.root-root.result c.row-place.result c.self.invariant.laid_out (omega (arith, is_root, size.0)) c.row-place.ensures in
    let first : c.row-place.result.first ≡ sum_by (claims circuit.nodes) (below (root circuit.nodes)) = own.first ∙ ap (λ z. sum_by (claims circuit.nodes) (below z)) is_root in
    omega (arith, first, root_place circuit c.is_within_limits.ensures.shaped, c.self.invariant.room.enough, c.self.inside.held.values.ok)

pub overflow_add-root : goal.overflow_add-root
overflow_add-root c =
    let circuit = c.self.inside.circuit.now in
    let is_root : c.root-root.result ≡ root circuit.nodes = c.root-root.ensures in
    let size = size_of circuit.nodes (length circuit.order) c.is_within_limits.ensures.shaped in
    omega (arith, is_root, size.0, size.1)

pub go_on-requires : goal.go_on-requires
go_on-requires c =
    let circuit = c.self.inside.circuit.now in
    let is_root : c.root-root.result ≡ root circuit.nodes = c.root-root.ensures in
    let size = size_of circuit.nodes (length circuit.order) c.is_within_limits.ensures.shaped in
    omega (arith, is_root, size.0)

pub returns-clause-says : goal.returns-clause-says
returns-clause-says c =
    let inside = c.self.inside in
    let circuit = inside.circuit.now in
    let is_root : c.root-root.result ≡ root circuit.nodes = c.root-root.ensures in
    let size = size_of circuit.nodes (length circuit.order) c.is_within_limits.ensures.shaped in
    let own = row_of_layout circuit inside.layout.now c.root-root.result c.row-place.result c.self.invariant.laid_out (omega (arith, is_root, size.0)) c.row-place.ensures in
    let first : c.row-place.result.first ≡ sum_by (claims circuit.nodes) (below (root circuit.nodes)) = own.first ∙ ap (λ z. sum_by (claims circuit.nodes) (below z)) is_root in
    let e : length circuit.nodes ≡ c.root-root.result + 1 = omega (arith, is_root, size.0) in
    let values = set inside.held.values.items c.row-place.result.first c.from_bit.result in
    let v : Verifying = record { circuit = circuit; points = inside.held.points; values = values; polys = inside.polys.items; stage = inside.stage; answer = c.args.answer; turn = 1 } in
    let walk : WalksTo circuit c.args.answer [] [] (c.root-root.result + 1) inside.held.points values = subst (λ z. WalksTo circuit c.args.answer [] [] z inside.held.points values) e
    (answer_walk circuit c.args.answer inside.held.points inside.held.values.items values c.is_within_limits.ensures.shaped c.self.invariant.room.same_rows c.self.invariant.room.enough (ap₂ (set inside.held.values.items) first c.from_bit.ensures)) in
    let on : IsOnWalk v c.args.answer [] [] (c.root-root.result + 1) = record { same_answer = refl; same_turn = refl; walks = walk } in
    subst (λ z. c.go_on.result ≡ next_of (judged z.circuit.nodes (length z.circuit.order) c.args.answer [] [])) c.self.view_is (c.go_on.ensures.says c.args.answer [] [] on)

pub returns-clause-stands : goal.returns-clause-stands
returns-clause-stands c =
    let inside = c.self.inside in
    let circuit = inside.circuit.now in
    let is_root : c.root-root.result ≡ root circuit.nodes = c.root-root.ensures in
    let size = size_of circuit.nodes (length circuit.order) c.is_within_limits.ensures.shaped in
    let own = row_of_layout circuit inside.layout.now c.root-root.result c.row-place.result c.self.invariant.laid_out (omega (arith, is_root, size.0)) c.row-place.ensures in
    let first : c.row-place.result.first ≡ sum_by (claims circuit.nodes) (below (root circuit.nodes)) = own.first ∙ ap (λ z. sum_by (claims circuit.nodes) (below z)) is_root in
    let e : length circuit.nodes ≡ c.root-root.result + 1 = omega (arith, is_root, size.0) in
    let values = set inside.held.values.items c.row-place.result.first c.from_bit.result in
    let v : Verifying = record { circuit = circuit; points = inside.held.points; values = values; polys = inside.polys.items; stage = inside.stage; answer = c.args.answer; turn = 1 } in
    let walk : WalksTo circuit c.args.answer [] [] (c.root-root.result + 1) inside.held.points values = subst (λ z. WalksTo circuit c.args.answer [] [] z inside.held.points values) e
    (answer_walk circuit c.args.answer inside.held.points inside.held.values.items values c.is_within_limits.ensures.shaped c.self.invariant.room.same_rows c.self.invariant.room.enough (ap₂ (set inside.held.values.items) first c.from_bit.ensures)) in
    let on : IsOnWalk v c.args.answer [] [] (c.root-root.result + 1) = record { same_answer = refl; same_turn = refl; walks = walk } in
    c.go_on.ensures.stands c.args.answer [] [] on

pub returns-clause-accepted : goal.returns-clause-accepted
returns-clause-accepted c =
    let inside = c.self.inside in
    let circuit = inside.circuit.now in
    let is_root : c.root-root.result ≡ root circuit.nodes = c.root-root.ensures in
    let size = size_of circuit.nodes (length circuit.order) c.is_within_limits.ensures.shaped in
    let own = row_of_layout circuit inside.layout.now c.root-root.result c.row-place.result c.self.invariant.laid_out (omega (arith, is_root, size.0)) c.row-place.ensures in
    let first : c.row-place.result.first ≡ sum_by (claims circuit.nodes) (below (root circuit.nodes)) = own.first ∙ ap (λ z. sum_by (claims circuit.nodes) (below z)) is_root in
    let e : length circuit.nodes ≡ c.root-root.result + 1 = omega (arith, is_root, size.0) in
    let values = set inside.held.values.items c.row-place.result.first c.from_bit.result in
    let v : Verifying = record { circuit = circuit; points = inside.held.points; values = values; polys = inside.polys.items; stage = inside.stage; answer = c.args.answer; turn = 1 } in
    let walk : WalksTo circuit c.args.answer [] [] (c.root-root.result + 1) inside.held.points values = subst (λ z. WalksTo circuit c.args.answer [] [] z inside.held.points values) e
    (answer_walk circuit c.args.answer inside.held.points inside.held.values.items values c.is_within_limits.ensures.shaped c.self.invariant.room.same_rows c.self.invariant.room.enough (ap₂ (set inside.held.values.items) first c.from_bit.ensures)) in
    let on : IsOnWalk v c.args.answer [] [] (c.root-root.result + 1) = record { same_answer = refl; same_turn = refl; walks = walk } in
    subst (λ z. (b : Bool) → c.go_on.result ≡ Done b → IsAcceptedAs z.circuit b (Talked c.args.answer [] [])) c.self.view_is (c.go_on.ensures.accepted c.args.answer [] [] on)
