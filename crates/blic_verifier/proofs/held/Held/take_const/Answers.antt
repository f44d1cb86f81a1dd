use Rattle.std.proofs.Common.{arith, ◌+◌, subst, sym, length, get_or}
use Rattle.std.specs.Prelude.{sum_by}
use Rattle.blic_model.specs.Circuit.{below}
use Rattle.blic_model.specs.Counts.{claims}
use Rattle.blic_model.specs.Value.{bit}
use Rattle.blic_verifier.specs.Holding.{IsFirstDifference, IsTakenAs}
use Rattle.blic_claims.proofs.Places.{rows_of_layout, row_of_layout, row_within}
use Rattle.blic_verifier.proofs.LeafWalks.{const_walk}
use Rattle.blic_verifier.proofs.held.Held.take_const.Goals as goal

pub row-requires : goal.row-requires
row-requires c = omega (arith, rows_of_layout c.args.circuit.now c.args.layout.now c.requires.layout)

pub first_other-requires : goal.first_other-requires
first_other-requires c =
    let circuit = c.args.circuit.now in
    row_within circuit c.args.node (length c.args.self.now.values.items) c.row.result (row_of_layout circuit c.args.layout.now c.args.node c.row.result c.requires.layout c.requires.node c.row.ensures) c.requires.node c.requires.room.enough

pub returns-clause-taken : goal.returns-clause-taken
returns-clause-taken c = λ answer draws replies w.
    let circuit = c.args.circuit.now in
    let values = c.args.self.now.values.items in
    let own = row_of_layout circuit c.args.layout.now c.args.node c.row.result c.requires.layout c.requires.node c.row.ensures in
    let found : IsFirstDifference c.row.result.claims (λ d. get_or values (c.row.result.first + d) 0) (λ d. c.from_bit.result) c.first_other.result = c.first_other.ensures in
    let valued : IsFirstDifference c.row.result.claims (λ d. get_or values (c.row.result.first + d) 0) (λ d. bit c.args.bit) c.first_other.result = subst (λ z. IsFirstDifference c.row.result.claims (λ d. get_or values (c.row.result.first + d) 0) (λ d. z) c.first_other.result) c.from_bit.ensures found in
    let placed : IsFirstDifference c.row.result.claims (λ d. get_or values (sum_by (claims circuit.nodes) (below c.args.node) + d) 0) (λ d. bit c.args.bit) c.first_other.result = subst (λ z. IsFirstDifference c.row.result.claims (λ d. get_or values (z + d) 0) (λ d. bit c.args.bit) c.first_other.result) own.first valued in
    let counted : IsFirstDifference (claims circuit.nodes c.args.node) (λ d. get_or values (sum_by (claims circuit.nodes) (below c.args.node) + d) 0) (λ d. bit c.args.bit) c.first_other.result = subst (λ z. IsFirstDifference z (λ d. get_or values (sum_by (claims circuit.nodes) (below c.args.node) + d) 0) (λ d. bit c.args.bit) c.first_other.result) own.count placed in
    subst (IsTakenAs circuit answer draws replies c.args.node c.args.self.now.points values) (sym c.leaf.ensures)
    (const_walk circuit answer draws replies c.args.node c.args.bit c.args.self.now.points values c.first_other.result c.requires.node c.requires.kind c.requires.room.same_rows counted w)
