-- The free levels of a circuit's nodes are among its levels.
use Rattle.std.proofs.Common.{ℕ, ◌≡◌, ◌<◌, refl, sym, ◌∙◌, ap, subst, inl, inr, List, length, true, false, not, eqb}
use Rattle.std.proofs.lemmas.Bool.{cases_lt, eqb-true, ltb-true, and_parts, or_cases, false≢true}
use Rattle.std.proofs.lemmas.List.{get_or_past}
use Rattle.blic_model.specs.declared.node.Node.{Node}
use Rattle.blic_model.specs.declared.node.Node.TheVariants.{Const, Var, Not, Fix, And, Or}
use Rattle.blic_model.specs.Circuit.{node_at, free_step, is_free}
use Rattle.blic_model.specs.Shape.{levels_below, IsShaped}
use Rattle.blic_model.proofs.Ordered.{ChildrenBelow, ordered_all, strong}
use Rattle.blic_model.proofs.Entries.{is_free-step}
use Rattle.blic_model.proofs.Shaped.{in_range_of, ordered_of}

-- The level of a variable is in range.
variable_below : (nodes : List Node) (levels : ℕ) → IsShaped nodes levels → (k x : ℕ) → node_at nodes k ≡ Var x → x < levels
variable_below nodes levels h k x e = elim (cases_lt k (length nodes)) [
  | inl l ↦ ltb-true x levels (sym (ap (levels_below levels) e) ∙ in_range_of nodes levels h k l)
  | inr l ↦ absurd (apart (sym (get_or_past nodes k (Const false) l) ∙ e))
]
  where
    apart : Const false ≡ Var x → ⊥
    apart q = cc

free_below_step : (nodes : List Node) (levels k x : ℕ) → ((j : ℕ) → j < k → is_free nodes j x ≡ true → x < levels)
    → (m : Node) → ((y : ℕ) → m ≡ Var y → y < levels) → ChildrenBelow k m → free_step k m (is_free nodes) x ≡ true → x < levels
free_below_step nodes levels k x ih (Const b) v h f = absurd (false≢true f)
free_below_step nodes levels k x ih (Var y) v h f = subst (λ z. z < levels) (sym (eqb-true x y f)) (v y refl)
free_below_step nodes levels k x ih (Not a) v h f = ih a h f
free_below_step nodes levels k x ih (Fix y b a) v h f = ih a h (and_parts (is_free nodes a x) (not (eqb x y)) f).0
free_below_step nodes levels k x ih (And a b) v h f = elim (or_cases (is_free nodes a x) (is_free nodes b x) f) [ inl e ↦ ih a h.0 e | inr e ↦ ih b h.1 e ]
free_below_step nodes levels k x ih (Or a b) v h f = elim (or_cases (is_free nodes a x) (is_free nodes b x) f) [ inl e ↦ ih a h.0 e | inr e ↦ ih b h.1 e ]

-- And so is each free level.
pub free_below_levels : (nodes : List Node) (levels : ℕ) → IsShaped nodes levels → (x k : ℕ) → is_free nodes k x ≡ true → x < levels
free_below_levels nodes levels h x =
    let o = ordered_all nodes (ordered_of nodes levels h) in
    strong (λ k. is_free nodes k x ≡ true → x < levels)
    (λ k ih e. free_below_step nodes levels k x ih (node_at nodes k) (variable_below nodes levels h k) (o k) (sym (is_free-step nodes k (o k) x) ∙ e))
