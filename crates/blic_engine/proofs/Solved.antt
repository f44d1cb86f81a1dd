-- What a plan says of a binary node.
use Rattle.std.proofs.Common.{arith, ℕ, ◌≡◌, ◌<◌, sym, ◌∙◌, ap, subst, inl, inr, List, length, get_or}
use mathlib.Core.Path.{ap₂}
use Rattle.blic_model.specs.declared.node.Node.{Node}
use Rattle.blic_model.specs.Circuit.{OrderedCircuit, free, node_at, root}
use Rattle.blic_model.specs.Degree.{IsPoint}
use Rattle.blic_model.specs.Reduction.{poly}
use Rattle.blic_model.specs.Shape.{IsShaped}
use Rattle.blic_model.specs.Subfunctions.{size}
use Rattle.blic_model.specs.Value.{Point, holds, value}
use Rattle.blic_model.proofs.Shaped.{size_of}
use Rattle.blic_claims.specs.Honest.{operands}
use Rattle.blic_claims.proofs.Pairs.{IsPair, pair_below}
use Rattle.blic_store.specs.declared.decision.Decision.{Decision}
use Rattle.blic_store.specs.Diagram.{decision_at, function}
use Rattle.blic_apply.specs.declared.operation.Op.{Op}
use Rattle.blic_apply.specs.declared.operation.Op.TheVariants.{And, Or}
use Rattle.blic_eval.specs.Extension.{extension, joined_poly}
use Rattle.blic_eval.specs.Lines.{point_of}
use Rattle.blic_eval.specs.Reached.{IsReached}
use Rattle.blic_eval.proofs.CircuitValues.{conjunction, disjunction, same_joined, value_extension}
use Rattle.blic_eval.proofs.Extensions.{extension_same}
use Rattle.blic_solve.specs.Plan.{IsPlan, Solved, root_of}
use Rattle.blic_engine.specs.Joins.{node_of}
use Rattle.blic_engine.specs.Rooms.{AgreesAt, AreElements, IsAbout}
use Rattle.blic_engine.proofs.Answering.{operands_agree}

pub is_pair : (m : Node) (op : Op) (a b : ℕ) → m ≡ node_of op a b → IsPair m a b
is_pair m And a b e = inl e
is_pair m Or a b e = inr e

-- a binary node of a plan, and its operands
module _ (c : OrderedCircuit) (plan : Solved) (shaped : IsShaped c.nodes (length c.order)) (is : IsPlan c.nodes (length c.order) plan)
    (k : ℕ) (l : k < length c.nodes) (op : Op) (a b : ℕ) (e : node_at c.nodes k ≡ node_of op a b) where
  abbrev count : ℕ
  count = length c.order

  operands_below : (a < k) × (b < k)
  operands_below = pair_below c.nodes count k a b shaped (is_pair (node_at c.nodes k) op a b e)

  pub operands_in : (a < length plan.roots) × (b < length plan.roots)
  operands_in = let w = operands_below in let u = w.0 in let v = w.1 in let n = is.roots in (omega arith, omega arith)

  pub values_are : (s : Point) → IsPoint s
      → (extension (function plan.store.nodes (root_of plan a)) count s ≡ value c.nodes count a s)
      × (extension (function plan.store.nodes (root_of plan b)) count s ≡ value c.nodes count b s)
  values_are s p =
      let w = operands_below in
      let u = w.0 in
      let v = w.1 in (
        extension_same (function plan.store.nodes (root_of plan a)) (holds c.nodes a) (is.solved a (omega arith)).value count s ∙ sym (value_extension c.nodes count shaped a s p),
        extension_same (function plan.store.nodes (root_of plan b)) (holds c.nodes b) (is.solved b (omega arith)).value count s ∙ sym (value_extension c.nodes count shaped b s p),
      )

poly_of_node : (c : OrderedCircuit) → IsShaped c.nodes (length c.order) → (op : Op) (k a b j : ℕ) → node_at c.nodes k ≡ node_of op a b → j < length (free c.nodes (length c.order) k)
    → (s : Point) → IsPoint s
    → poly c.nodes (length c.order) k j s ≡ joined_poly op (holds c.nodes a) (holds c.nodes b) (length c.order) (get_or (free c.nodes (length c.order) k) j 0) s
poly_of_node c h And k a b j e l s p = conjunction c.nodes (length c.order) h k a b j e l s p
poly_of_node c h Or k a b j e l s p = disjunction c.nodes (length c.order) h k a b j e l s p

-- the polynomial of the operands' functions is the node's
pub poly_is : (c : OrderedCircuit) (plan : Solved) → IsShaped c.nodes (length c.order) → IsPlan c.nodes (length c.order) plan → (k : ℕ) → k < length c.nodes
    → (op : Op) (a b : ℕ) → node_at c.nodes k ≡ node_of op a b → (j : ℕ) → j < length (free c.nodes (length c.order) k) → (s : Point) → IsPoint s
    → joined_poly op (function plan.store.nodes (root_of plan a)) (function plan.store.nodes (root_of plan b)) (length c.order) (get_or (free c.nodes (length c.order) k) j 0) s
    ≡ poly c.nodes (length c.order) k j s
poly_is c plan shaped is k l op a b e j m s p =
    let w = pair_below c.nodes (length c.order) k a b shaped (is_pair (node_at c.nodes k) op a b e) in
    let u = w.0 in
    let v = w.1 in
    same_joined op (function plan.store.nodes (root_of plan a)) (function plan.store.nodes (root_of plan b)) (holds c.nodes a) (holds c.nodes b)
    (is.solved a (omega arith)).value (is.solved b (omega arith)).value (length c.order) (get_or (free c.nodes (length c.order) k) j 0) s
    ∙ sym (poly_of_node c shaped op k a b j e m s p)

-- how many decisions there are
pub decisions_are : (c : OrderedCircuit) (plan : Solved) → IsShaped c.nodes (length c.order) → IsPlan c.nodes (length c.order) plan
    → length plan.store.nodes ≡ size c.nodes (length c.order) (root c.nodes)
decisions_are c plan shaped is = let w = (size_of c.nodes (length c.order) shaped).0 in is.exact (root c.nodes) (omega arith)

-- what was computed of the operands' functions
pub poly_from : (c : OrderedCircuit) (plan : Solved) → IsShaped c.nodes (length c.order) → IsPlan c.nodes (length c.order) plan → (k : ℕ) → k < length c.nodes
    → (op : Op) (a b : ℕ) → node_at c.nodes k ≡ node_of op a b → (j : ℕ) → j < length (free c.nodes (length c.order) k) → (point : List ℕ) → AreElements point
    → (decisions : List Decision) (first second levels level : ℕ) → decisions ≡ plan.store.nodes → first ≡ root_of plan a → second ≡ root_of plan b
    → levels ≡ length c.order → level ≡ get_or (free c.nodes (length c.order) k) j 0
    → joined_poly op (function decisions first) (function decisions second) levels level (point_of point) ≡ poly c.nodes (length c.order) k j (point_of point)
poly_from c plan shaped is k l op a b e j m point p decisions first second levels level ed ef es en el =
    ap₂ (λ f g. joined_poly op f g levels level (point_of point)) (ap₂ function ed ef) (ap₂ function ed es)
    ∙ (ap₂ (λ n x. joined_poly op (function plan.store.nodes (root_of plan a)) (function plan.store.nodes (root_of plan b)) n x (point_of point)) en el
    ∙ poly_is c plan shaped is k l op a b e j m (point_of point) p)

operands_are : (m : Node) (op : Op) (a b : ℕ) → m ≡ node_of op a b → (a ≡ (operands m).0) × (b ≡ (operands m).1)
operands_are m And a b e = (ap (λ z. (operands z).0) (sym e), ap (λ z. (operands z).1) (sym e))
operands_are m Or a b e = (ap (λ z. (operands z).0) (sym e), ap (λ z. (operands z).1) (sym e))

-- A list of what a node's operands lead to, where all is known by other names.
pub reached_from : (c : OrderedCircuit) (plan : Solved) (k : ℕ) (op : Op) (a b : ℕ) → node_at c.nodes k ≡ node_of op a b → (decisions : List Decision) (first second : ℕ) (reached : List ℕ)
    → decisions ≡ plan.store.nodes → first ≡ root_of plan a → second ≡ root_of plan b → IsAbout c.nodes plan k reached → IsReached decisions first second reached
reached_from c plan k op a b e decisions first second reached ed ef es h =
    let which = operands_are (node_at c.nodes k) op a b e in
    subst (λ d. IsReached d first second reached) (sym ed)
    (subst (λ f. IsReached plan.store.nodes f second reached) (sym (ef ∙ ap (root_of plan) which.0))
    (subst (λ s. IsReached plan.store.nodes (root_of plan (operands (node_at c.nodes k)).0) s reached) (sym (es ∙ ap (root_of plan) which.1)) h))

pub values_from : (c : OrderedCircuit) (plan : Solved) → IsShaped c.nodes (length c.order) → IsPlan c.nodes (length c.order) plan → (k : ℕ) → k < length c.nodes
    → (op : Op) (a b : ℕ) → node_at c.nodes k ≡ node_of op a b → (point : List ℕ) → AreElements point → (s : Point) → AgreesAt c.nodes k (point_of point) s
    → (decisions : List Decision) (first second levels : ℕ) → decisions ≡ plan.store.nodes → first ≡ root_of plan a → second ≡ root_of plan b → levels ≡ length c.order
    → (extension (function decisions first) levels (point_of point) ≡ value c.nodes (length c.order) (operands (node_at c.nodes k)).0 s)
    × (extension (function decisions second) levels (point_of point) ≡ value c.nodes (length c.order) (operands (node_at c.nodes k)).1 s)
values_from c plan shaped is k l op a b e point p s h decisions first second levels ed ef es en =
    let at = values_are c plan shaped is k l op a b e (point_of point) p in
    let agree = operands_agree c.nodes (length c.order) shaped k a b (is_pair (node_at c.nodes k) op a b e) (point_of point) s h in
    let which = operands_are (node_at c.nodes k) op a b e in (
      ap₂ (λ f n. extension f n (point_of point)) (ap₂ function ed ef) en ∙ (at.0 ∙ (agree.0 ∙ ap (λ z. value c.nodes (length c.order) z s) which.0)),
      ap₂ (λ f n. extension f n (point_of point)) (ap₂ function ed es) en ∙ (at.1 ∙ (agree.1 ∙ ap (λ z. value c.nodes (length c.order) z s) which.1)),
    )

-- the levels of a plan's decisions, where both are known by other names
pub levels_below : (nodes decisions : List Decision) (levels more : ℕ) → decisions ≡ nodes → more ≡ levels
    → ((k : ℕ) → k < length nodes → (decision_at nodes k).level < levels) → (k : ℕ) → k < length decisions → (decision_at decisions k).level < more
levels_below nodes decisions levels more e n h =
    subst (λ d. (k : ℕ) → k < length d → (decision_at d k).level < more) (sym e)
    (subst (λ m. (k : ℕ) → k < length nodes → (decision_at nodes k).level < m) (sym n) h)
