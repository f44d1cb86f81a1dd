-- The values of nodes, and how many products they take, by the nodes' cases.
use Rattle.std.proofs.Common.{arith, ℕ, zero, suc, ◌≡◌, ◌+◌, ◌*◌, ◌-◌, ◌<◌, ◌≤◌, refl, sym, ◌∙◌, ap, subst, ◌⊎◌, inl, inr, List, length, get_or, true}
use mathlib.Core.Path.{ap₂}
use Rattle.std.proofs.lemmas.Bool.{cases_eq}
use Rattle.blic_model.specs.declared.node.Node.{Node}
use Rattle.blic_model.specs.declared.node.Node.TheVariants.{Const, Var, Not, Fix, And, Or}
use Rattle.blic_model.specs.Circuit.{node_at, at_node, free}
use Rattle.blic_model.specs.Counts.{is_binary}
use Rattle.blic_model.specs.Shape.{IsShaped}
use Rattle.blic_model.specs.Value.{Point, value_step, value, linearize, put}
use Rattle.blic_model.specs.Reduction.{part, combined}
use Rattle.blic_field.specs.Field.{add, mul, sub, or, blend}
use Rattle.blic_model.proofs.Ordered.{ChildrenBelow, AllOrdered, ordered_all}
use Rattle.blic_model.proofs.Entries.{entries, get-entries, value-step}
use Rattle.blic_model.proofs.Degrees.{linearize-def}
use Rattle.blic_model.proofs.Reduced.{part_more, part_all}
use Rattle.blic_model.proofs.Shaped.{ordered_of}
use Rattle.blic_claims.proofs.Pairs.{IsPair, pair_below}
use Rattle.blic_plain.specs.Products.{part_products, combined_step, value_products_step, value_products, combined_products, products}

all_ordered : (nodes : List Node) (levels : ℕ) → IsShaped nodes levels → AllOrdered nodes
all_ordered nodes levels h = ordered_all nodes (ordered_of nodes levels h)

-- the children of a node are smaller
pub children : (nodes : List Node) (levels k : ℕ) (n : Node) → IsShaped nodes levels → n ≡ node_at nodes k → ChildrenBelow k n
children nodes levels k n h e = subst (λ m. ChildrenBelow k m) (sym e) (all_ordered nodes levels h k)

-- the value of a node of this form
pub value_at : (nodes : List Node) (levels k : ℕ) (n : Node) (s : Point) → IsShaped nodes levels → n ≡ node_at nodes k
    → value_step nodes levels k n (value nodes levels) s ≡ value nodes levels k s
value_at nodes levels k n s h e =
    ap (λ m. value_step nodes levels k m (value nodes levels) s) e ∙ sym (value-step nodes levels k (all_ordered nodes levels h k) s)

pub whole_part : (nodes : List Node) (levels k : ℕ) (n : Node) (s : Point) → IsShaped nodes levels → n ≡ node_at nodes k → is_binary n ≡ true
    → part nodes levels k (length (free nodes levels k)) s ≡ value nodes levels k s
whole_part nodes levels k n s h e b = part_all nodes levels (all_ordered nodes levels h) k (ap is_binary (sym e) ∙ b) s

products_step : (nodes : List Node) (levels k : ℕ) → ChildrenBelow k (node_at nodes k)
    → value_products nodes levels k ≡ value_products_step nodes levels k (node_at nodes k) (value_products nodes levels)
unfolding value_products at_node
products_step nodes levels k h = go (node_at nodes k) h
  where
    child : (j : ℕ) → j < k → get_or (entries 0 (value_products_step nodes levels) nodes k) j 0 ≡ value_products nodes levels j
    child j l = get-entries 0 (value_products_step nodes levels) nodes k j l

    both : (a b : ℕ) → a < k → b < k
        → get_or (entries 0 (value_products_step nodes levels) nodes k) a 0 + get_or (entries 0 (value_products_step nodes levels) nodes k) b 0 + 1
        ≡ value_products nodes levels a + value_products nodes levels b + 1
    both a b la lb = ap₂ (λ u w. u + w + 1) (child a la) (child b lb)

    go : (n : Node) → ChildrenBelow k n
        → value_products_step nodes levels k n (λ j. get_or (entries 0 (value_products_step nodes levels) nodes k) j 0) ≡ value_products_step nodes levels k n (value_products nodes levels)
    go (Const b) h = refl
    go (Var y) h = refl
    go (Not a) h = child a h
    go (Fix y b a) h = child a h
    go (And a b) h = ap (λ z. part_products z (length (free nodes levels k))) (both a b h.0 h.1)
    go (Or a b) h = ap (λ z. part_products z (length (free nodes levels k))) (both a b h.0 h.1)

-- the products for the value of a node of this form
pub products_at : (nodes : List Node) (levels k : ℕ) (n : Node) → IsShaped nodes levels → n ≡ node_at nodes k
    → value_products_step nodes levels k n (value_products nodes levels) ≡ value_products nodes levels k
products_at nodes levels k n h e =
    ap (λ m. value_products_step nodes levels k m (value_products nodes levels)) e ∙ sym (products_step nodes levels k (all_ordered nodes levels h k))

-- those of a binary node are those of its part with each level made linear
pub whole_products : (nodes : List Node) (levels k : ℕ) (n : Node) → IsShaped nodes levels → n ≡ node_at nodes k → is_binary n ≡ true
    → part_products (combined_products nodes levels k) (length (free nodes levels k)) ≡ value_products nodes levels k
whole_products nodes levels k (Const b) h e q = absurd (cc)
whole_products nodes levels k (Var x) h e q = absurd (cc)
whole_products nodes levels k (Not a) h e q = absurd (cc)
whole_products nodes levels k (Fix x b a) h e q = absurd (cc)
whole_products nodes levels k (And a b) h e q =
    ap (λ m. part_products (combined_step m (value_products nodes levels)) (length (free nodes levels k))) (sym e) ∙ products_at nodes levels k (And a b) h e
whole_products nodes levels k (Or a b) h e q =
    ap (λ m. part_products (combined_step m (value_products nodes levels)) (length (free nodes levels k))) (sym e) ∙ products_at nodes levels k (Or a b) h e

-- more levels take no fewer
pub part_products_rise : (c i j : ℕ) → i ≤ j → part_products c i ≤ part_products c j
part_products_rise c i zero l =
    let e : i ≡ 0 = omega arith in
    let u : part_products c i ≡ part_products c 0 = ap (part_products c) e in
    omega arith
part_products_rise c i (suc j) l = elim (cases_eq i (suc j)) [
  | inl e ↦ (let u : part_products c i ≡ part_products c (suc j) = ap (part_products c) e in omega arith)
  | inr ne ↦ (let u = part_products_rise c i j (omega arith) in omega arith)
]

-- the part with i levels made linear, from that with one less
pub part_before : (nodes : List Node) (levels k i x : ℕ) (s : Point) (u w : ℕ) → 0 < i → i ≤ length (free nodes levels k)
    → x ≡ get_or (free nodes levels k) (i - 1) 0 → u ≡ part nodes levels k (i - 1) (put s x 0) → w ≡ part nodes levels k (i - 1) (put s x 1)
    → blend (s x) u w ≡ part nodes levels k i s
part_before nodes levels k i x s u w p l ex eu ew =
    let j = i - 1 in
    ap₂ (blend (s x)) eu ew
    ∙ sym (linearize-def (part nodes levels k j) x s)
    ∙ ap (λ y. linearize (part nodes levels k j) y s) ex
    ∙ sym (part_more nodes levels k j (omega arith) s)
    ∙ ap (λ m. part nodes levels k m s) back
  where
    back : i - 1 + 1 ≡ i
    back = omega arith

-- the or of the operands
pub combined_or : (nodes : List Node) (levels k a b : ℕ) (s : Point) (u w z : ℕ) → Or a b ≡ node_at nodes k → u ≡ value nodes levels a s
    → w ≡ value nodes levels b s → z ≡ sub (add u w) (mul u w) → z ≡ combined (node_at nodes k) (value nodes levels) s
unfolding or
combined_or nodes levels k a b s u w z e eu ew ez =
    ez ∙ (ap₂ (λ u w. sub (add u w) (mul u w)) eu ew ∙ ap (λ n. combined n (value nodes levels) s) e)

pub binary_of : (n : Node) → ((a : ℕ) × (b : ℕ) × (n ≡ And a b)) ⊎ ((a : ℕ) × (b : ℕ) × (n ≡ Or a b)) → is_binary n ≡ true
binary_of n (inl (a, b, e)) = ap is_binary e
binary_of n (inr (a, b, e)) = ap is_binary e

-- those of the operands' values, and of a part with some levels made linear, are fewer than those for a claim

pub operands_below : (nodes : List Node) (levels k : ℕ) (n : Node) (a b : ℕ) → IsShaped nodes levels → n ≡ node_at nodes k → IsPair n a b → (a < k) × (b < k)
operands_below nodes levels k n a b h e pair = pair_below nodes levels k a b h (subst (λ m. IsPair m a b) e pair)

products-def : (nodes : List Node) (levels k : ℕ) → products nodes levels k ≡ 3 * value_products nodes levels k + 2
unfolding products
products-def nodes levels k = refl

pub operand_products : (nodes : List Node) (levels k : ℕ) (n : Node) (a b : ℕ) → IsShaped nodes levels → n ≡ node_at nodes k → IsPair n a b
    → value_products nodes levels a + value_products nodes levels b ≤ products nodes levels k
operand_products nodes levels k n a b h e (inl q) =
    let c = value_products nodes levels a + value_products nodes levels b + 1 in
    let u : part_products c (length (free nodes levels k)) ≡ value_products nodes levels k = products_at nodes levels k (And a b) h (sym q ∙ e) in
    omega (arith, products-def nodes levels k, u, part_products_rise c 0 (length (free nodes levels k)) (omega arith))
operand_products nodes levels k n a b h e (inr q) =
    let c = value_products nodes levels a + value_products nodes levels b + 1 in
    let u : part_products c (length (free nodes levels k)) ≡ value_products nodes levels k = products_at nodes levels k (Or a b) h (sym q ∙ e) in
    omega (arith, products-def nodes levels k, u, part_products_rise c 0 (length (free nodes levels k)) (omega arith))

pub poly_products : (nodes : List Node) (levels k j : ℕ) → IsShaped nodes levels → is_binary (node_at nodes k) ≡ true → j < length (free nodes levels k)
    → 3 * part_products (combined_products nodes levels k) j + 2 ≤ products nodes levels k
poly_products nodes levels k j h b l =
    omega (arith, products-def nodes levels k, whole_products nodes levels k (node_at nodes k) h refl b, part_products_rise (combined_products nodes levels k) j (length (free nodes levels k)) (omega arith))
