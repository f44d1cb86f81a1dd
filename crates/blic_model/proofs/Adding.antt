-- What a list of nodes means once a node is added: the old nodes mean what they did, and the new one what its children give.
use Rattle.std.proofs.Common.{arith, ℕ, ◌≡◌, ◌<◌, ◌≤◌, refl, sym, ◌∙◌, ap, subst, inl, inr, List, [], ◌∷◌, ◌++◌, length, Bool, true, false, cond, eqb, ltb, not, ◌&&◌, ◌||◌, append_assoc}
use Rattle.std.specs.List.{position_or_len}
use mathlib.Core.Path.{ap₂}
use Rattle.std.proofs.lemmas.Bool.{cases_eq, cases_lt, eqb-true, lt-ltb, le-ltb, and_parts, false≢true}
use Rattle.std.proofs.lemmas.List.{get_or_append_left, get_or_push, length-append, append-nil, length_push, length-take}
use Rattle.std.proofs.lemmas.List.Sums.{passes_at_first}
use Rattle.std.proofs.lemmas.List.Folds.{length-prefix_len}
use Rattle.blic_model.specs.declared.node.Node.{Node}
use Rattle.blic_model.specs.declared.node.Node.TheVariants.{Const, Var, Not, Fix, And, Or}
use Rattle.blic_model.specs.Circuit.{node_at}
use Rattle.blic_model.specs.Value.{put, holds_step, holds}
use Rattle.blic_model.specs.Building.{Added, same_bit, same_node, add_node}
use Rattle.blic_model.proofs.Ordered.{ChildrenBelow, AreOrdered, all_ordered, strong}
use Rattle.blic_model.proofs.Entries.{holds-step}

pub same_bit_true : (b c : Bool) → same_bit b c ≡ true → b ≡ c
same_bit_true true c h = sym h
same_bit_true false true h = absurd (false≢true h)
same_bit_true false false h = refl

pub same_node_true : (m n : Node) → same_node m n ≡ true → m ≡ n
same_node_true (Const b) (Const c) h = ap Const (same_bit_true b c h)
same_node_true (Var x) (Var y) h = ap Var (eqb-true x y h)
same_node_true (Not a) (Not b) h = ap Not (eqb-true a b h)
same_node_true (Fix x b a) (Fix y c d) h =
    let w = and_parts (eqb x y) (same_bit b c && eqb a d) h in
    let v = and_parts (same_bit b c) (eqb a d) w.1 in
    let p = eqb-true x y w.0 in
    let q = same_bit_true b c v.0 in
    let r = eqb-true a d v.1 in
    λ i. Fix (p i) (q i) (r i)
same_node_true (And a b) (And c d) h = let w = and_parts (eqb a c) (eqb b d) h in ap₂ And (eqb-true a c w.0) (eqb-true b d w.1)
same_node_true (Or a b) (Or c d) h = let w = and_parts (eqb a c) (eqb b d) h in ap₂ Or (eqb-true a c w.0) (eqb-true b d w.1)
same_node_true _ _ h = absurd (false≢true h)

step_agree : (k : ℕ) (m : Node) → (F G : ℕ → (ℕ → Bool) → Bool) → ChildrenBelow k m → ((j : ℕ) → j < k → (a : ℕ → Bool) → F j a ≡ G j a)
    → (a : ℕ → Bool) → holds_step k m F a ≡ holds_step k m G a
step_agree k (Const b) F G h e a = refl
step_agree k (Var x) F G h e a = refl
step_agree k (Not c) F G h e a = ap not (e c h a)
step_agree k (Fix x b c) F G h e a = e c h (put a x b)
step_agree k (And c d) F G h e a = ap₂ (λ x y. x && y) (e c h.0 a) (e d h.1 a)
step_agree k (Or c d) F G h e a = ap₂ (λ x y. x || y) (e c h.0 a) (e d h.1 a)

-- a node keeps its meaning where nodes are appended
pub holds_more : (nodes more : List Node) → AreOrdered nodes → AreOrdered (nodes ++ more) → (k : ℕ) → k < length nodes → (a : ℕ → Bool)
    → holds (nodes ++ more) k a ≡ holds nodes k a
holds_more nodes more o p =
    strong (λ k. k < length nodes → (a : ℕ → Bool) → holds (nodes ++ more) k a ≡ holds nodes k a)
    (λ k ih l a.
    let e : node_at (nodes ++ more) k ≡ node_at nodes k = get_or_append_left nodes more (Const false) k l in
    holds-step (nodes ++ more) k (all_ordered (nodes ++ more) p k) a
    ∙ (ap (λ m. holds_step k m (holds (nodes ++ more)) a) e
    ∙ (step_agree k (node_at nodes k) (holds (nodes ++ more)) (holds nodes) (o k l) (λ j h b. ih j h (omega arith) b) a
    ∙ sym (holds-step nodes k (o k l) a))))

-- node k of the list means f
abbrev pub Means : List Node → ℕ → ((ℕ → Bool) → Bool) → Type 0
Means nodes k f = (k < length nodes) × ((a : ℕ → Bool) → holds nodes k a ≡ f a)

pub means_more : (nodes more : List Node) → AreOrdered nodes → AreOrdered (nodes ++ more) → (k : ℕ) (f : (ℕ → Bool) → Bool) → Means nodes k f
    → Means (nodes ++ more) k f
means_more nodes more o p k f m = (omega (arith, m.0, length-append nodes more), λ a. holds_more nodes more o p k m.0 a ∙ m.1 a)

-- what was built extends the list, and its number means f
pub record Gives (nodes : List Node) (b : Added) (f : (ℕ → Bool) → Bool) : Type 0 where
  pub more : List Node
  pub extends : b.nodes ≡ nodes ++ more
  pub ordered : AreOrdered b.nodes
  pub means : Means b.nodes b.number f

pub longer : (nodes : List Node) (b : Added) (f : (ℕ → Bool) → Bool) → Gives nodes b f → length nodes ≤ length b.nodes
longer nodes b f h = omega (arith, ap length h.extends, length-append nodes h.more)

-- what was known of the list is known of what was built
pub kept : (nodes : List Node) (b : Added) (f : (ℕ → Bool) → Bool) → AreOrdered nodes → Gives nodes b f → (k : ℕ) (g : (ℕ → Bool) → Bool)
    → Means nodes k g → Means b.nodes k g
kept nodes b f o h k g m =
    subst (λ ns. Means ns k g) (sym h.extends) (means_more nodes h.more o (subst AreOrdered h.extends h.ordered) k g m)

pub after : (nodes : List Node) (b c : Added) (f g : (ℕ → Bool) → Bool) → Gives nodes b f → Gives b.nodes c g → Gives nodes c g
after nodes b c f g h k = record {
  more = h.more ++ k.more;
  extends = k.extends ∙ (ap (λ ns. ns ++ k.more) h.extends ∙ append_assoc nodes h.more k.more);
  ordered = k.ordered;
  means = k.means;
}

pub reads : (nodes : List Node) (b : Added) (f g : (ℕ → Bool) → Bool) → ((a : ℕ → Bool) → f a ≡ g a) → Gives nodes b f → Gives nodes b g
reads nodes b f g e h = record { more = h.more; extends = h.extends; ordered = h.ordered; means = (h.means.0, λ a. h.means.1 a ∙ e a) }

pub position_le : {X : Type 0} (p : X → Bool) (xs : List X) → position_or_len p xs ≤ length xs
position_le p xs = omega (arith, length-prefix_len (λ x. not (p x)) xs, length-take (position_or_len p xs) xs)

-- the list and its node, found or added

pub found_same : (n : Node) (nodes : List Node) → position_or_len (same_node n) nodes < length nodes → (add_node n nodes).nodes ≡ nodes
unfolding add_node
found_same n nodes l = ap (λ b. cond b nodes (nodes ++ n ∷ [])) (lt-ltb _ _ l)

pub found_node : (n : Node) (nodes : List Node) → position_or_len (same_node n) nodes < length nodes
    → n ≡ node_at nodes (position_or_len (same_node n) nodes)
found_node n nodes l = same_node_true n _ (passes_at_first (same_node n) nodes (Const false) l)

pub new_nodes : (n : Node) (nodes : List Node) → length nodes ≤ position_or_len (same_node n) nodes → (add_node n nodes).nodes ≡ nodes ++ n ∷ []
unfolding add_node
new_nodes n nodes l = ap (λ b. cond b nodes (nodes ++ n ∷ [])) (le-ltb _ _ l)

pub number_is : (n : Node) (nodes : List Node) → (add_node n nodes).number ≡ position_or_len (same_node n) nodes
unfolding add_node
number_is n nodes = refl

pub added_node : (n : Node) (nodes : List Node) → node_at (add_node n nodes).nodes (add_node n nodes).number ≡ n
added_node n nodes = elim (cases_lt (position_or_len (same_node n) nodes) (length nodes)) [
  | inl l ↦ ap (λ ns. node_at ns (add_node n nodes).number) (found_same n nodes l) ∙ (ap (node_at nodes) (number_is n nodes) ∙ sym (found_node n nodes l))
  | inr l ↦
      let q : position_or_len (same_node n) nodes ≤ length nodes = position_le (same_node n) nodes in
      let e : (add_node n nodes).number ≡ length nodes = omega (arith, number_is n nodes) in
      ap (λ ns. node_at ns (add_node n nodes).number) (new_nodes n nodes l) ∙ (ap (node_at (nodes ++ n ∷ [])) e ∙ get_or_push nodes n (Const false) (length nodes) refl)
]

found_gives : (n : Node) (nodes : List Node) (k : ℕ) → AreOrdered nodes → k < length nodes → node_at nodes k ≡ n
    → Gives nodes (record { nodes = cond (ltb k (length nodes)) nodes (nodes ++ n ∷ []); number = k }) (λ a. holds_step 0 n (holds nodes) a)
found_gives n nodes k o l e =
    subst (λ b. Gives nodes (record { nodes = cond b nodes (nodes ++ n ∷ []); number = k }) (λ a. holds_step 0 n (holds nodes) a)) (sym (lt-ltb k (length nodes) l))
    (record { more = []; extends = sym (append-nil nodes); ordered = o; means = (l, λ a. holds-step nodes k (o k l) a ∙ (ap (λ m. holds_step k m (holds nodes) a) e ∙ any n a)) })
  where
    any : (m : Node) (a : ℕ → Bool) → holds_step k m (holds nodes) a ≡ holds_step 0 m (holds nodes) a
    any (Const b) a = refl
    any (Var x) a = refl
    any (Not c) a = refl
    any (Fix x b c) a = refl
    any (And c d) a = refl
    any (Or c d) a = refl

new_ordered : (n : Node) (nodes : List Node) → AreOrdered nodes → ChildrenBelow (length nodes) n → AreOrdered (nodes ++ n ∷ [])
new_ordered n nodes o h k l =
    elim (cases_eq k (length nodes)) [
      | inl e ↦ subst (λ j. ChildrenBelow j (node_at (nodes ++ n ∷ []) j)) (sym e) (subst (λ m. ChildrenBelow (length nodes) m) (sym (get_or_push nodes n (Const false) (length nodes) refl)) h)
      | inr ne ↦
          let q : k < length nodes = omega (arith, length_push nodes n) in
          subst (λ m. ChildrenBelow k m) (sym (get_or_append_left nodes (n ∷ []) (Const false) k q)) (o k q)
    ]

new_gives : (n : Node) (nodes : List Node) (k : ℕ) → AreOrdered nodes → ChildrenBelow (length nodes) n → k ≡ length nodes
    → Gives nodes (record { nodes = cond (ltb k (length nodes)) nodes (nodes ++ n ∷ []); number = k }) (λ a. holds_step 0 n (holds nodes) a)
new_gives n nodes k o h e =
    subst (λ b. Gives nodes (record { nodes = cond b nodes (nodes ++ n ∷ []); number = k }) (λ a. holds_step 0 n (holds nodes) a)) (sym (le-ltb k (length nodes) (omega arith)))
    (subst (λ j. Gives nodes (record { nodes = nodes ++ n ∷ []; number = j }) (λ a. holds_step 0 n (holds nodes) a)) (sym e)
    (record {
      more = n ∷ [];
      extends = refl;
      ordered = p;
      means = (
        omega (arith, length_push nodes n),
        λ a.
            holds-step (nodes ++ n ∷ []) (length nodes) (p (length nodes) (omega (arith, length_push nodes n))) a
            ∙ (ap (λ m. holds_step (length nodes) m (holds (nodes ++ n ∷ [])) a) (get_or_push nodes n (Const false) (length nodes) refl)
            ∙ (step_agree (length nodes) n (holds (nodes ++ n ∷ [])) (holds nodes) h (λ j l b. holds_more nodes (n ∷ []) o p j l b) a
            ∙ any n a)),
      );
    }))
  where
    p : AreOrdered (nodes ++ n ∷ [])
    p = new_ordered n nodes o h

    any : (m : Node) (a : ℕ → Bool) → holds_step (length nodes) m (holds nodes) a ≡ holds_step 0 m (holds nodes) a
    any (Const b) a = refl
    any (Var x) a = refl
    any (Not c) a = refl
    any (Fix x b c) a = refl
    any (And c d) a = refl
    any (Or c d) a = refl

-- a node that is added means what its children give
pub add_gives : (n : Node) (nodes : List Node) → AreOrdered nodes → ChildrenBelow (length nodes) n
    → Gives nodes (add_node n nodes) (λ a. holds_step 0 n (holds nodes) a)
unfolding add_node
add_gives n nodes o h = elim (cases_lt (position_or_len (same_node n) nodes) (length nodes)) [
  | inl l ↦ found_gives n nodes (position_or_len (same_node n) nodes) o l (sym (same_node_true n _ (passes_at_first (same_node n) nodes (Const false) l)))
  | inr l ↦ new_gives n nodes (position_or_len (same_node n) nodes) o h (let q : position_or_len (same_node n) nodes ≤ length nodes = position_le (same_node n) nodes in omega arith)
]

-- the kinds of node, with the meanings of their operands
pub add_not : (nodes : List Node) (k : ℕ) (f : (ℕ → Bool) → Bool) → AreOrdered nodes → Means nodes k f
    → Gives nodes (add_node (Not k) nodes) (λ a. not (f a))
add_not nodes k f o m = reads nodes _ _ _ (λ a. ap not (m.1 a)) (add_gives (Not k) nodes o m.0)

pub add_fix : (nodes : List Node) (x : ℕ) (b : Bool) (k : ℕ) (f : (ℕ → Bool) → Bool) → AreOrdered nodes → Means nodes k f
    → Gives nodes (add_node (Fix x b k) nodes) (λ a. f (put a x b))
add_fix nodes x b k f o m = reads nodes _ _ _ (λ a. m.1 (put a x b)) (add_gives (Fix x b k) nodes o m.0)

pub add_and : (nodes : List Node) (j k : ℕ) (f g : (ℕ → Bool) → Bool) → AreOrdered nodes → Means nodes j f → Means nodes k g
    → Gives nodes (add_node (And j k) nodes) (λ a. f a && g a)
add_and nodes j k f g o m n = reads nodes _ _ _ (λ a. ap₂ (λ x y. x && y) (m.1 a) (n.1 a)) (add_gives (And j k) nodes o (m.0, n.0))

pub add_or : (nodes : List Node) (j k : ℕ) (f g : (ℕ → Bool) → Bool) → AreOrdered nodes → Means nodes j f → Means nodes k g
    → Gives nodes (add_node (Or j k) nodes) (λ a. f a || g a)
add_or nodes j k f g o m n = reads nodes _ _ _ (λ a. ap₂ (λ x y. x || y) (m.1 a) (n.1 a)) (add_gives (Or j k) nodes o (m.0, n.0))
