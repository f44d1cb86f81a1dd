use Rattle.std.proofs.Common.{arith, rules, ◌≡◌, ◌<◌, ◌∙◌, sym, ap, length}
use mathlib.Core.Path.{ap₂}
use Rattle.blic_field.specs.Field.{sub, blend}
use Rattle.blic_model.specs.declared.node.Node.TheVariants.{Const, Var, Not, Fix, And, Or}
use Rattle.blic_model.specs.Circuit.{node_at, free}
use Rattle.blic_model.specs.Value.{value, put}
use Rattle.blic_model.specs.Reduction.{part}
use Rattle.blic_model.proofs.Reduced.{part_none}
use Rattle.blic_plain.specs.Chains.{point_of_chain}
use Rattle.blic_plain.specs.Products.{part_products, combined_products}
use Rattle.blic_plain.proofs.NodeValues.{children, value_at, whole_part, products_at, whole_products, part_before, combined_or, binary_of}
use Rattle.blic_plain.proofs.value.+value.Goals as goal

pub combined-value-u-requires : goal.combined-value-u-requires
combined-value-u-requires g t c κs within =
    let circuit = c.args.circuit.now in
    let e : And c.in-And.left c.in-And.right ≡ node_at circuit.nodes c.args.node = cc in
    let l : c.in-And.left < c.args.node = (children circuit.nodes (length circuit.order) c.args.node (And c.in-And.left c.in-And.right) c.is_within_limits.ensures.shaped e).0 in
    search rules

pub combined-value-requires : goal.combined-value-requires
combined-value-requires g t c κs within =
    let circuit = c.args.circuit.now in
    let e : And c.in-And.left c.in-And.right ≡ node_at circuit.nodes c.args.node = cc in
    let l : c.in-And.right < c.args.node = (children circuit.nodes (length circuit.order) c.args.node (And c.in-And.left c.in-And.right) c.is_within_limits.ensures.shaped e).1 in
    search rules

pub combined-value-u-requires-in-Or : goal.combined-value-u-requires-in-Or
combined-value-u-requires-in-Or g t c κs within =
    let circuit = c.args.circuit.now in
    let e : Or c.in-Or.left c.in-Or.right ≡ node_at circuit.nodes c.args.node = cc in
    let l : c.in-Or.left < c.args.node = (children circuit.nodes (length circuit.order) c.args.node (Or c.in-Or.left c.in-Or.right) c.is_within_limits.ensures.shaped e).0 in
    search rules

pub combined-value-w-requires : goal.combined-value-w-requires
combined-value-w-requires g t c κs within =
    let circuit = c.args.circuit.now in
    let e : Or c.in-Or.left c.in-Or.right ≡ node_at circuit.nodes c.args.node = cc in
    let l : c.in-Or.right < c.args.node = (children circuit.nodes (length circuit.order) c.args.node (Or c.in-Or.left c.in-Or.right) c.is_within_limits.ensures.shaped e).1 in
    search rules

pub combined-returns-in-Or-clause-value : goal.combined-returns-in-Or-clause-value
combined-returns-in-Or-clause-value g t c =
    let circuit = c.args.circuit.now in
    let e : Or c.in-Or.left c.in-Or.right ≡ node_at circuit.nodes c.args.node = cc in
    combined_or circuit.nodes (length circuit.order) c.args.node c.in-Or.left c.in-Or.right (point_of_chain circuit c.args.point.now) c.value-u-in-Or.result
    c.value-w.result c.sub.result e c.value-u-in-Or.ensures.value c.value-w.ensures.value (c.sub.ensures ∙ ap₂ sub c.add.ensures c.mul-in-Or.ensures.product)

pub part-returns-then-i-eq0-clause-value : goal.part-returns-then-i-eq0-clause-value
part-returns-then-i-eq0-clause-value g t c =
    let circuit = c.args.circuit.now in
    let s = point_of_chain circuit c.args.point.now in
    c.combined.ensures.value
    ∙ (sym (part_none circuit.nodes (length circuit.order) c.args.node s)
    ∙ ap (λ i. part circuit.nodes (length circuit.order) c.args.node i s) (sym c.if-i-eq0.true))

pub part-returns-clause-value : goal.part-returns-clause-value
part-returns-clause-value g t c =
    let circuit = c.args.circuit.now in
    let s = point_of_chain circuit c.args.point.now in
    c.blend.ensures.value
    ∙ (ap (λ z. blend z c.part-low.result c.part-high.result) c.element_at-element.ensures
    ∙ part_before circuit.nodes (length circuit.order) c.args.node c.args.i c.free_at-level.result s c.part-low.result c.part-high.result (omega arith)
    c.requires.levels c.free_at-level.ensures c.part-low.ensures.value c.part-high.ensures.value)

pub value-value-requires : goal.value-value-requires
value-value-requires g t c κs within =
    let circuit = c.args.circuit.now in
    let e : Not c.in-Not.child ≡ node_at circuit.nodes c.args.node = cc in
    let l : c.in-Not.child < c.args.node = children circuit.nodes (length circuit.order) c.args.node (Not c.in-Not.child) c.is_within_limits.ensures.shaped e in
    search rules

pub value-value-requires-in-Fix : goal.value-value-requires-in-Fix
value-value-requires-in-Fix g t c κs within =
    let circuit = c.args.circuit.now in
    let e : Fix c.in-Fix.level c.in-Fix.bit c.in-Fix.child ≡ node_at circuit.nodes c.args.node = cc in
    let l : c.in-Fix.child < c.args.node = children circuit.nodes (length circuit.order) c.args.node (Fix c.in-Fix.level c.in-Fix.bit c.in-Fix.child) c.is_within_limits.ensures.shaped e in
    search rules

pub value-returns-in-Const-clause-value : goal.value-returns-in-Const-clause-value
value-returns-in-Const-clause-value g t c =
    let circuit = c.args.circuit.now in
    let s = point_of_chain circuit c.args.point.now in
    let e : Const c.in-Const.bit ≡ node_at circuit.nodes c.args.node = cc in
    c.from_bit.ensures
    ∙ value_at circuit.nodes (length circuit.order) c.args.node (Const c.in-Const.bit) s c.is_within_limits.ensures.shaped e

pub value-returns-in-Var-clause-value : goal.value-returns-in-Var-clause-value
value-returns-in-Var-clause-value g t c =
    let circuit = c.args.circuit.now in
    let s = point_of_chain circuit c.args.point.now in
    let e : Var c.in-Var.level ≡ node_at circuit.nodes c.args.node = cc in
    c.element_at.ensures
    ∙ value_at circuit.nodes (length circuit.order) c.args.node (Var c.in-Var.level) s c.is_within_limits.ensures.shaped e

pub value-returns-in-Not-clause-value : goal.value-returns-in-Not-clause-value
value-returns-in-Not-clause-value g t c =
    let circuit = c.args.circuit.now in
    let s = point_of_chain circuit c.args.point.now in
    let e : Not c.in-Not.child ≡ node_at circuit.nodes c.args.node = cc in
    c.sub.ensures ∙ ap (λ z. sub 1 z) c.value.ensures.value
    ∙ value_at circuit.nodes (length circuit.order) c.args.node (Not c.in-Not.child) s c.is_within_limits.ensures.shaped e

pub value-returns-in-Fix-clause-value : goal.value-returns-in-Fix-clause-value
value-returns-in-Fix-clause-value g t c =
    let circuit = c.args.circuit.now in
    let s = point_of_chain circuit c.args.point.now in
    let e : Fix c.in-Fix.level c.in-Fix.bit c.in-Fix.child ≡ node_at circuit.nodes c.args.node = cc in
    c.value-in-Fix.ensures.value ∙ ap (λ z. value circuit.nodes (length circuit.order) c.in-Fix.child (put s c.in-Fix.level z)) c.from_bit-in-Fix.ensures
    ∙ value_at circuit.nodes (length circuit.order) c.args.node (Fix c.in-Fix.level c.in-Fix.bit c.in-Fix.child) s c.is_within_limits.ensures.shaped e

pub value-returns-in-Not-clause-at_most : goal.value-returns-in-Not-clause-at_most
value-returns-in-Not-clause-at_most g t c =
    let circuit = c.args.circuit.now in
    let e : Not c.in-Not.child ≡ node_at circuit.nodes c.args.node = cc in
    let n = products_at circuit.nodes (length circuit.order) c.args.node (Not c.in-Not.child) c.is_within_limits.ensures.shaped e in
    omega arith

pub value-returns-in-Fix-clause-at_most : goal.value-returns-in-Fix-clause-at_most
value-returns-in-Fix-clause-at_most g t c =
    let circuit = c.args.circuit.now in
    let e : Fix c.in-Fix.level c.in-Fix.bit c.in-Fix.child ≡ node_at circuit.nodes c.args.node = cc in
    let n = products_at circuit.nodes (length circuit.order) c.args.node (Fix c.in-Fix.level c.in-Fix.bit c.in-Fix.child) c.is_within_limits.ensures.shaped e in
    omega arith

pub value-returns-in-And-clause-value : goal.value-returns-in-And-clause-value
value-returns-in-And-clause-value g t c =
    let circuit = c.args.circuit.now in
    let s = point_of_chain circuit c.args.point.now in
    c.part.ensures.value
    ∙ (ap (λ i. part circuit.nodes (length circuit.order) c.args.node i s) c.free_count.ensures
    ∙ whole_part circuit.nodes (length circuit.order) c.args.node c.node.result s c.is_within_limits.ensures.shaped c.node.ensures (binary_of c.node.result c.in-And.is))

pub value-returns-in-And-clause-at_most : goal.value-returns-in-And-clause-at_most
value-returns-in-And-clause-at_most g t c =
    let circuit = c.args.circuit.now in
    let count = combined_products circuit.nodes (length circuit.order) c.args.node in
    let i : part_products count c.free_count.result ≡ part_products count (length (free circuit.nodes (length circuit.order) c.args.node)) = ap (part_products count) c.free_count.ensures in
    let n = whole_products circuit.nodes (length circuit.order) c.args.node c.node.result c.is_within_limits.ensures.shaped c.node.ensures (binary_of c.node.result c.in-And.is) in
    omega arith
