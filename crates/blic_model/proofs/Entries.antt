-- A node's entry comes from the entries of its children: its free levels, its value and its Boolean value.
use Rattle.std.proofs.Common.{arith, ℕ, zero, suc, ◌≡◌, ◌+◌, ◌<◌, refl, sym, ◌∙◌, ap, subst, inl, inr, List, [], ◌∷◌, ◌++◌, length, get_or, Bool, false, not, ◌&&◌, ◌||◌, eqb}
use Rattle.std.specs.Prelude.{fold}
use mathlib.Core.Path.{ap₂}
use Rattle.std.proofs.lemmas.Bool.{cases_eq}
use Rattle.std.proofs.lemmas.List.{length_push, get_or_push, get_or_append_left}
use Rattle.blic_field.specs.Field.{mul, sub, or}
use Rattle.blic_model.specs.declared.node.Node.{Node}
use Rattle.blic_model.specs.declared.node.Node.TheVariants.{Const, Var, Not, Fix, And, Or}
use Rattle.blic_model.specs.Circuit.{node_at, table, by_children, at_node, free_step, is_free, free}
use Rattle.blic_model.specs.Value.{Point, put, bit, linearize, value_step, value, holds_step, holds}
use Rattle.blic_model.proofs.Ordered.{ChildrenBelow}

pub length-table : {A : Type 0} (entry : ℕ → List A → A) (n : ℕ) → length (table entry n) ≡ n
unfolding table
length-table entry zero = refl
length-table entry (suc n) = length_push _ _ ∙ (ap (λ z. z + 1) (length-table entry n) ∙ omega arith)

-- entry j of a table
pub get-table : {A : Type 0} (entry : ℕ → List A → A) (none : A) (n j : ℕ) → j < n → get_or (table entry n) j none ≡ entry j (table entry j)
unfolding table
get-table entry none zero j h = absurd (omega arith)
get-table entry none (suc n) j h =
    elim (cases_eq j n) [
      | inl e ↦ subst (λ m. get_or (table entry n ++ entry n (table entry n) ∷ []) m none ≡ entry m (table entry m)) (sym e)
          (get_or_push (table entry n) _ none n (length-table entry n))
      | inr ne ↦
          let l : j < length (table entry n) = omega (arith, length-table entry n) in
          get_or_append_left (table entry n) _ none j l ∙ get-table entry none n j (omega arith)
    ]

abbrev pub entries : {A : Type 0} → A → (ℕ → Node → (ℕ → A) → A) → List Node → ℕ → List A
entries none step nodes n = table (by_children none step nodes) n

pub get-entries : {A : Type 0} (none : A) (step : ℕ → Node → (ℕ → A) → A) (nodes : List Node) (n j : ℕ) → j < n
    → get_or (entries none step nodes n) j none ≡ at_node none step nodes j
unfolding at_node
get-entries none step nodes n j h = get-table (by_children none step nodes) none n j h

-- each entry comes from the entries of the children
pub is_free-step : (nodes : List Node) (k : ℕ) → ChildrenBelow k (node_at nodes k) → (x : ℕ)
    → is_free nodes k x ≡ free_step k (node_at nodes k) (is_free nodes) x
unfolding is_free at_node
is_free-step nodes k h x = go (node_at nodes k) h
  where
    child : (j : ℕ) → j < k → get_or (entries (λ x. false) free_step nodes k) j (λ x. false) ≡ is_free nodes j
    child j l = get-entries (λ x. false) free_step nodes k j l

    go : (n : Node) → ChildrenBelow k n
        → free_step k n (λ j. get_or (entries (λ x. false) free_step nodes k) j (λ x. false)) x ≡ free_step k n (is_free nodes) x
    go (Const b) h = refl
    go (Var y) h = refl
    go (Not a) h = ap (λ f. f x) (child a h)
    go (Fix y b a) h = ap (λ f. f x && not (eqb x y)) (child a h)
    go (And a b) h = ap₂ (λ f g. f x || g x) (child a h.0) (child b h.1)
    go (Or a b) h = ap₂ (λ f g. f x || g x) (child a h.0) (child b h.1)

pub value-step : (nodes : List Node) (levels k : ℕ) → ChildrenBelow k (node_at nodes k) → (s : Point)
    → value nodes levels k s ≡ value_step nodes levels k (node_at nodes k) (value nodes levels) s
unfolding value at_node
value-step nodes levels k h s = go (node_at nodes k) h
  where
    child : (j : ℕ) → j < k → get_or (entries (λ s. 0) (value_step nodes levels) nodes k) j (λ s. 0) ≡ value nodes levels j
    child j l = get-entries (λ s. 0) (value_step nodes levels) nodes k j l

    go : (n : Node) → ChildrenBelow k n
        → value_step nodes levels k n (λ j. get_or (entries (λ s. 0) (value_step nodes levels) nodes k) j (λ s. 0)) s ≡ value_step nodes levels k n (value nodes levels) s
    go (Const b) h = refl
    go (Var y) h = refl
    go (Not a) h = ap (λ f. sub 1 (f s)) (child a h)
    go (Fix y b a) h = ap (λ f. f (put s y (bit b))) (child a h)
    go (And a b) h = ap₂ (λ f g. fold linearize (λ r. mul (f r) (g r)) (free nodes levels k) s) (child a h.0) (child b h.1)
    go (Or a b) h = ap₂ (λ f g. fold linearize (λ r. or (f r) (g r)) (free nodes levels k) s) (child a h.0) (child b h.1)

pub holds-step : (nodes : List Node) (k : ℕ) → ChildrenBelow k (node_at nodes k) → (a : ℕ → Bool)
    → holds nodes k a ≡ holds_step k (node_at nodes k) (holds nodes) a
unfolding holds at_node
holds-step nodes k h s = go (node_at nodes k) h
  where
    child : (j : ℕ) → j < k → get_or (entries (λ s. false) holds_step nodes k) j (λ s. false) ≡ holds nodes j
    child j l = get-entries (λ s. false) holds_step nodes k j l

    go : (n : Node) → ChildrenBelow k n
        → holds_step k n (λ j. get_or (entries (λ s. false) holds_step nodes k) j (λ s. false)) s ≡ holds_step k n (holds nodes) s
    go (Const b) h = refl
    go (Var y) h = refl
    go (Not a) h = ap (λ f. not (f s)) (child a h)
    go (Fix y b a) h = ap (λ f. f (put s y b)) (child a h)
    go (And a b) h = ap₂ (λ f g. f s && g s) (child a h.0) (child b h.1)
    go (Or a b) h = ap₂ (λ f g. f s || g s) (child a h.0) (child b h.1)
