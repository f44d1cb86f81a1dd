-- The two children of a binary node, and the places of the claims that they get.
use Rattle.std.proofs.Common.{arith, ℕ, suc, ◌≡◌, ◌+◌, ◌<◌, ◌≤◌, refl, ◌∙◌, ap, subst, ◌⊎◌, inl, inr, List, Bool, true, false, cond, eqb, ◌&&◌, ◌||◌}
use Rattle.std.proofs.lemmas.Bool.{eq-eqb, cond-true}
use Rattle.blic_model.specs.declared.node.Node.{Node}
use Rattle.blic_model.specs.declared.node.Node.TheVariants.{Const, Var, Not, Fix, And, Or}
use Rattle.blic_model.specs.Circuit.{node_at, root, is_free}
use Rattle.blic_model.specs.Counts.{is_binary, handed_down, claims}
use Rattle.blic_model.specs.Value.{Point}
use Rattle.blic_model.specs.Shape.{IsShaped}
use Rattle.blic_model.proofs.Ordered.{ChildrenBelow, ordered_all}
use Rattle.blic_model.proofs.Shaped.{ordered_of}
use Rattle.blic_claims.specs.Honest.{operands}
use Rattle.blic_claims.specs.Places.{given}
use Rattle.blic_claims.proofs.Rows.{handed_within}
use Rattle.blic_claims.proofs.KeptPoints.{and_free, or_free}

-- the node is binary, with these children
abbrev pub IsPair : Node → ℕ → ℕ → Type 0
IsPair m a b = (m ≡ And a b) ⊎ (m ≡ Or a b)

pub binary_pair : (m : Node) → is_binary m ≡ true → IsPair m (operands m).0 (operands m).1
binary_pair (Const b) e = absurd (cc e)
binary_pair (Var x) e = absurd (cc e)
binary_pair (Not a) e = absurd (cc e)
binary_pair (Fix x b a) e = absurd (cc e)
binary_pair (And a b) e = inl refl
binary_pair (Or a b) e = inr refl

-- what both kinds of binary node have
pub pair_ap : {X : Type 0} (F : Node → X) (z : X) (m : Node) (a b : ℕ) → F (And a b) ≡ z → F (Or a b) ≡ z → IsPair m a b → F m ≡ z
pair_ap F z m a b p q (inl e) = ap F e ∙ p
pair_ap F z m a b p q (inr e) = ap F e ∙ q

pub pair_below : (nodes : List Node) (levels k a b : ℕ) → IsShaped nodes levels → IsPair (node_at nodes k) a b → (a < k) × (b < k)
pair_below nodes levels k a b s (inl e) = subst (λ m. ChildrenBelow k m) e (ordered_all nodes (ordered_of nodes levels s) k)
pair_below nodes levels k a b s (inr e) = subst (λ m. ChildrenBelow k m) e (ordered_all nodes (ordered_of nodes levels s) k)

pub pair_free : (nodes : List Node) (levels k a b y : ℕ) → IsShaped nodes levels → IsPair (node_at nodes k) a b
    → (is_free nodes a y ≡ true) ⊎ (is_free nodes b y ≡ true) → is_free nodes k y ≡ true
pair_free nodes levels k a b y s (inl e) h = and_free nodes k a b y (ordered_all nodes (ordered_of nodes levels s) k) e h
pair_free nodes levels k a b y s (inr e) h = or_free nodes k a b y (ordered_all nodes (ordered_of nodes levels s) k) e h

-- the two places are among the children's claims
pub pair_room : (nodes : List Node) (k a b : ℕ) → IsPair (node_at nodes k) a b → a < k → b < k → k ≤ root nodes
    → (given nodes (suc k) a < claims nodes a) × (given nodes (suc k) b + cond (eqb a b) 1 0 < claims nodes b)
pair_room nodes k a b h la lb lk =
    let down : (j : ℕ) → handed_down (node_at nodes k) (claims nodes k) j ≡ cond (eqb a j) 1 0 + cond (eqb b j) 1 0 = λ j. pair_ap (λ m. handed_down m (claims nodes k) j) _ (node_at nodes k) a b refl refl h in
    let n : ℕ = 1 in
    let one : cond (eqb a a) n 0 ≡ n = cond-true (eqb a a) n 0 (eq-eqb a a refl) in
    let other : cond (eqb b b) n 0 ≡ n = cond-true (eqb b b) n 0 (eq-eqb b b refl) in
    (omega (arith, handed_within nodes k a la lk, down a, one), omega (arith, handed_within nodes k b lb lk, down b, other))

-- where both operands are one node, the second claim stands behind the first
pub behind : (nodes : List Node) (k a b : ℕ) → a ≡ b → given nodes (suc k) a ≡ given nodes (suc k) b + cond (eqb a b) 1 0 → ⊥
behind nodes k a b e z =
    let n : ℕ = 1 in
    let one : cond (eqb a b) n 0 ≡ n = cond-true (eqb a b) n 0 (eq-eqb a b e) in
    let s : given nodes (suc k) a ≡ given nodes (suc k) b = ap (given nodes (suc k)) e in
    omega (arith, one)

-- the point that a binary node hands down to two places: there, and elsewhere
pub pair_there : (p q : Bool) (point old : Point) (y : ℕ) → (p ≡ true) ⊎ (q ≡ true) → cond (p || q) point old y ≡ point y
pair_there true q point old y h = refl
pair_there false true point old y h = refl
pair_there false false point old y (inl e) = absurd (cc e)
pair_there false false point old y (inr e) = absurd (cc e)

pub pair_elsewhere : (p q : Bool) (point old : Point) (y : ℕ) → p ≡ false → q ≡ false → cond (p || q) point old y ≡ old y
pair_elsewhere true q point old y e f = absurd (cc e)
pair_elsewhere false true point old y e f = absurd (cc f)
pair_elsewhere false false point old y e f = refl

pub not_both : (p q : Bool) → (p ≡ true → q ≡ false) → (p && q) ≡ false
not_both true q h = h refl
not_both false q h = refl
