-- Each kind of node makes its own function of those of its children.
use Rattle.std.proofs.Common.{arith, ◌≡◌, ◌<◌, ◌∙◌, ℕ, refl, sym, ap, subst, List, None, length, slice_index_or, nat_lt, IfOk, IsSomeAnd}
use Rattle.std.proofs.lemmas.Bool.{ltb-true, and_parts}
use Rattle.std.proofs.lemmas.List.{get_or_default}
use Rattle.blic_model.specs.declared.node.Node.TheVariants.{Const, Var, Not, Fix}
use Rattle.blic_model.specs.Shape.{children_below}
use Rattle.blic_store.specs.Diagram.{function}
use Rattle.blic_store.specs.Growth.{Answers, PassesLimit}
use Rattle.blic_graph.specs.Pairs.{IsGraph}
use Rattle.blic_apply.specs.declared.operation.Op.TheVariants as Op
use Rattle.blic_apply.specs.Operations.{combined, negated, fixed}
use Rattle.blic_solve.specs.Step.{function_of, IsStep, IsStepOf, PassesNodes, PassesNodesOf}
use Rattle.blic_solve.proofs.NodeSteps.{constant_answer, single_step, single_full, at_two}
use Rattle.blic_solve.proofs.step.solve_node.Goals as goal

-- a read of a child's ref
read : (roots : List ℕ) (k x : ℕ) → k < length roots → x ≡ slice_index_or roots k x → x ≡ slice_index_or roots k 0
read roots k x l e = e ∙ get_or_default roots k x 0 l

pub returns-in-Const-clause-ok : goal.returns-in-Const-clause-ok
returns-in-Const-clause-ok c =
    subst (λ m. IsStep c.args.roots.now.items m c.args.most c.args.store.now c.args.store.now c.constant.result.root c.constant.result.graph) (sym c.in-Const.is)
    (subst (λ s. IsStep c.args.roots.now.items (Const c.in-Const.bit) c.args.most c.args.store.now c.args.store.now s.root s.graph) (sym c.constant.ensures)
    (record { answers = constant_answer c.args.store.now c.canonical_law.ensures.canonical c.in-Const.bit; pairs = record { graph_is = refl; few = omega arith } }))

pub returns-in-Var-clause-ok : goal.returns-in-Var-clause-ok
returns-in-Var-clause-ok c =
    subst (λ m. IfOk c.single.result (λ s. IsStep c.args.roots.now.items m c.args.most c.args.store.now c.variable.new.store s.root s.graph)) (sym c.in-Var.is)
    (single_step (λ s. s.root) (λ s. s.graph) (function_of c.args.store.now.nodes c.args.roots.now.items (Var c.in-Var.level)) (λ g. g ≡ None) c.args.most c.args.store.now c.variable.new.store c.variable.result c.single.result c.single.ensures.ok refl
    c.variable.ensures.ok)

pub returns-in-Var-clause-nodes : goal.returns-in-Var-clause-nodes
returns-in-Var-clause-nodes c e =
    subst (λ m. PassesNodes c.args.roots.now.items m c.args.most c.args.store.now) (sym c.in-Var.is)
    (single_full (function_of c.args.store.now.nodes c.args.roots.now.items (Var c.in-Var.level)) (λ g. g ≡ None) c.args.most c.args.store.now refl
    (c.variable.ensures.full (c.single.ensures.nodes e)))

pub returns-in-Not-clause-ok : goal.returns-in-Not-clause-ok
returns-in-Not-clause-ok c =
    let inside : c.in-Not.child < length c.args.roots.now.items = ltb-true c.in-Not.child (length c.args.roots.now.items) (ap (children_below (length c.args.roots.now.items)) (sym c.in-Not.is) ∙ c.requires.children) in
    subst (λ m. IfOk c.single-in-Not.result (λ s. IsStep c.args.roots.now.items m c.args.most c.args.store.now c.negate.new.store s.root s.graph)) (sym c.in-Not.is)
    (single_step (λ s. s.root) (λ s. s.graph) (function_of c.args.store.now.nodes c.args.roots.now.items (Not c.in-Not.child)) (λ g. g ≡ None) c.args.most c.args.store.now c.negate.new.store c.negate.result c.single-in-Not.result c.single-in-Not.ensures.ok refl
    (subst (λ x. IfOk c.negate.result (λ r. Answers (negated (function c.args.store.now.nodes x)) c.args.store.now c.negate.new.store r)) (read c.args.roots.now.items c.in-Not.child c.index.result.now inside c.index.ensures) c.negate.ensures.ok))

pub returns-in-Not-clause-nodes : goal.returns-in-Not-clause-nodes
returns-in-Not-clause-nodes c e =
    let inside : c.in-Not.child < length c.args.roots.now.items = ltb-true c.in-Not.child (length c.args.roots.now.items) (ap (children_below (length c.args.roots.now.items)) (sym c.in-Not.is) ∙ c.requires.children) in
    subst (λ m. PassesNodes c.args.roots.now.items m c.args.most c.args.store.now) (sym c.in-Not.is)
    (single_full (function_of c.args.store.now.nodes c.args.roots.now.items (Not c.in-Not.child)) (λ g. g ≡ None) c.args.most c.args.store.now refl
    (subst (λ x. PassesLimit (negated (function c.args.store.now.nodes x)) c.args.store.now) (read c.args.roots.now.items c.in-Not.child c.index.result.now inside c.index.ensures) (c.negate.ensures.full (c.single-in-Not.ensures.nodes e))))

pub returns-in-Fix-clause-ok : goal.returns-in-Fix-clause-ok
returns-in-Fix-clause-ok c =
    let inside : c.in-Fix.child < length c.args.roots.now.items = ltb-true c.in-Fix.child (length c.args.roots.now.items) (ap (children_below (length c.args.roots.now.items)) (sym c.in-Fix.is) ∙ c.requires.children) in
    subst (λ m. IfOk c.single-in-Fix.result (λ s. IsStep c.args.roots.now.items m c.args.most c.args.store.now c.fix.new.store s.root s.graph)) (sym c.in-Fix.is)
    (single_step (λ s. s.root) (λ s. s.graph) (function_of c.args.store.now.nodes c.args.roots.now.items (Fix c.in-Fix.level c.in-Fix.bit c.in-Fix.child)) (λ g. g ≡ None) c.args.most c.args.store.now c.fix.new.store c.fix.result c.single-in-Fix.result c.single-in-Fix.ensures.ok refl
    (subst (λ x. IfOk c.fix.result (λ r. Answers (fixed c.in-Fix.level c.in-Fix.bit (function c.args.store.now.nodes x)) c.args.store.now c.fix.new.store r)) (read c.args.roots.now.items c.in-Fix.child c.index-in-Fix.result.now inside c.index-in-Fix.ensures) c.fix.ensures.ok))

pub returns-in-Fix-clause-nodes : goal.returns-in-Fix-clause-nodes
returns-in-Fix-clause-nodes c e =
    let inside : c.in-Fix.child < length c.args.roots.now.items = ltb-true c.in-Fix.child (length c.args.roots.now.items) (ap (children_below (length c.args.roots.now.items)) (sym c.in-Fix.is) ∙ c.requires.children) in
    subst (λ m. PassesNodes c.args.roots.now.items m c.args.most c.args.store.now) (sym c.in-Fix.is)
    (single_full (function_of c.args.store.now.nodes c.args.roots.now.items (Fix c.in-Fix.level c.in-Fix.bit c.in-Fix.child)) (λ g. g ≡ None) c.args.most c.args.store.now refl
    (subst (λ x. PassesLimit (fixed c.in-Fix.level c.in-Fix.bit (function c.args.store.now.nodes x)) c.args.store.now) (read c.args.roots.now.items c.in-Fix.child c.index-in-Fix.result.now inside c.index-in-Fix.ensures) (c.fix.ensures.full (c.single-in-Fix.ensures.nodes e))))

pub returns-in-And-clause-ok : goal.returns-in-And-clause-ok
returns-in-And-clause-ok c =
    let below = and_parts (nat_lt c.in-And.a (length c.args.roots.now.items)) (nat_lt c.in-And.b (length c.args.roots.now.items)) (ap (children_below (length c.args.roots.now.items)) (sym c.in-And.is) ∙ c.requires.children) in
    let first = read c.args.roots.now.items c.in-And.a c.index-in-And.result.now (ltb-true _ _ below.0) c.index-in-And.ensures in
    let second = read c.args.roots.now.items c.in-And.b c.index-in-And-2.result.now (ltb-true _ _ below.1) c.index-in-And-2.ensures in
    subst (λ m. IfOk c.binary.result (λ s. IsStep c.args.roots.now.items m c.args.most c.args.store.now c.binary.new.store s.root s.graph)) (sym c.in-And.is)
    (at_two (λ x y. IfOk c.binary.result (λ s. IsStepOf (combined Op.And (function c.args.store.now.nodes x) (function c.args.store.now.nodes y)) (λ g. IsSomeAnd g (IsGraph c.args.store.now.nodes x y)) c.args.most c.args.store.now c.binary.new.store s.root s.graph))
    c.index-in-And.result.now c.index-in-And-2.result.now (slice_index_or c.args.roots.now.items c.in-And.a 0) (slice_index_or c.args.roots.now.items c.in-And.b 0) first second c.binary.ensures.ok)

pub returns-in-And-clause-nodes : goal.returns-in-And-clause-nodes
returns-in-And-clause-nodes c e =
    let below = and_parts (nat_lt c.in-And.a (length c.args.roots.now.items)) (nat_lt c.in-And.b (length c.args.roots.now.items)) (ap (children_below (length c.args.roots.now.items)) (sym c.in-And.is) ∙ c.requires.children) in
    let first = read c.args.roots.now.items c.in-And.a c.index-in-And.result.now (ltb-true _ _ below.0) c.index-in-And.ensures in
    let second = read c.args.roots.now.items c.in-And.b c.index-in-And-2.result.now (ltb-true _ _ below.1) c.index-in-And-2.ensures in
    subst (λ m. PassesNodes c.args.roots.now.items m c.args.most c.args.store.now) (sym c.in-And.is)
    (at_two (λ x y. PassesNodesOf (combined Op.And (function c.args.store.now.nodes x) (function c.args.store.now.nodes y)) (λ g. IsSomeAnd g (IsGraph c.args.store.now.nodes x y)) c.args.most c.args.store.now)
    c.index-in-And.result.now c.index-in-And-2.result.now (slice_index_or c.args.roots.now.items c.in-And.a 0) (slice_index_or c.args.roots.now.items c.in-And.b 0) first second (c.binary.ensures.nodes e))

pub returns-in-Or-clause-ok : goal.returns-in-Or-clause-ok
returns-in-Or-clause-ok c =
    let below = and_parts (nat_lt c.in-Or.a (length c.args.roots.now.items)) (nat_lt c.in-Or.b (length c.args.roots.now.items)) (ap (children_below (length c.args.roots.now.items)) (sym c.in-Or.is) ∙ c.requires.children) in
    let first = read c.args.roots.now.items c.in-Or.a c.index-in-Or.result.now (ltb-true _ _ below.0) c.index-in-Or.ensures in
    let second = read c.args.roots.now.items c.in-Or.b c.index-in-Or-2.result.now (ltb-true _ _ below.1) c.index-in-Or-2.ensures in
    subst (λ m. IfOk c.binary-in-Or.result (λ s. IsStep c.args.roots.now.items m c.args.most c.args.store.now c.binary-in-Or.new.store s.root s.graph)) (sym c.in-Or.is)
    (at_two (λ x y. IfOk c.binary-in-Or.result (λ s. IsStepOf (combined Op.Or (function c.args.store.now.nodes x) (function c.args.store.now.nodes y)) (λ g. IsSomeAnd g (IsGraph c.args.store.now.nodes x y)) c.args.most c.args.store.now c.binary-in-Or.new.store s.root s.graph))
    c.index-in-Or.result.now c.index-in-Or-2.result.now (slice_index_or c.args.roots.now.items c.in-Or.a 0) (slice_index_or c.args.roots.now.items c.in-Or.b 0) first second c.binary-in-Or.ensures.ok)

pub returns-in-Or-clause-nodes : goal.returns-in-Or-clause-nodes
returns-in-Or-clause-nodes c e =
    let below = and_parts (nat_lt c.in-Or.a (length c.args.roots.now.items)) (nat_lt c.in-Or.b (length c.args.roots.now.items)) (ap (children_below (length c.args.roots.now.items)) (sym c.in-Or.is) ∙ c.requires.children) in
    let first = read c.args.roots.now.items c.in-Or.a c.index-in-Or.result.now (ltb-true _ _ below.0) c.index-in-Or.ensures in
    let second = read c.args.roots.now.items c.in-Or.b c.index-in-Or-2.result.now (ltb-true _ _ below.1) c.index-in-Or-2.ensures in
    subst (λ m. PassesNodes c.args.roots.now.items m c.args.most c.args.store.now) (sym c.in-Or.is)
    (at_two (λ x y. PassesNodesOf (combined Op.Or (function c.args.store.now.nodes x) (function c.args.store.now.nodes y)) (λ g. IsSomeAnd g (IsGraph c.args.store.now.nodes x y)) c.args.most c.args.store.now)
    c.index-in-Or.result.now c.index-in-Or-2.result.now (slice_index_or c.args.roots.now.items c.in-Or.a 0) (slice_index_or c.args.roots.now.items c.in-Or.b 0) first second (c.binary-in-Or.ensures.nodes e))
