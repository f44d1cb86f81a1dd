-- The circuit of a formula means the formula.
use Rattle.std.proofs.Common.{arith, ℕ, ◌≡◌, sym, ◌∙◌, ap, [], length, true, false}
use Rattle.std.proofs.lemmas.Bool.{false≢true}
use Rattle.blic_model.specs.Formula.{PrenexFormula}
use Rattle.blic_model.specs.Value.{Point, bit, holds, value}
use Rattle.blic_model.specs.Building.{add_matrix, nodes_of}
use Rattle.blic_model.specs.Truth.{truth_under, truth}
use Rattle.blic_model.proofs.Adding.{Gives}
use Rattle.blic_model.proofs.Matrix.{by_level, matrix_gives}
use Rattle.blic_model.proofs.Quantified.{levels_give}
use Rattle.blic_model.specs.Limits.{is_closed}
use Rattle.blic_model.proofs.Ordered.{all_ordered}
use Rattle.blic_model.proofs.BitPoints.{value_holds}
use Rattle.blic_model.proofs.Depends.{value_depends}
use Rattle.blic_model.proofs.LevelOf.{VarsDiffer, has_levels}
use Rattle.blic_model.proofs.FreeRoot.{nothing_free}

-- its root means the formula, where each variable has the value of its level
pub nodes_give : (f : PrenexFormula) → VarsDiffer f.prefix → Gives [] (nodes_of f) (λ a. truth_under f.prefix f.clauses (by_level f.prefix a))
unfolding nodes_of
nodes_give f d =
    levels_give f.prefix f.clauses 0 f.prefix (has_levels f.prefix d (length f.prefix) 0 (omega arith)) [] (add_matrix f.prefix (length f.clauses) [] f.clauses)
    (matrix_gives f.prefix (length f.clauses) [] f.clauses (omega arith) (λ k l. absurd (omega arith)))

pub nodes_truth : (f : PrenexFormula) → VarsDiffer f.prefix → holds (nodes_of f).nodes (nodes_of f).number (λ x. false) ≡ truth f
nodes_truth f d = (nodes_give f d).means.1 (λ x. false)

-- the root's value is the truth, at any point, since no level is free in the root
pub root_value : (f : PrenexFormula) → VarsDiffer f.prefix → is_closed f.prefix f.clauses ≡ true → (levels : ℕ) (s : Point)
    → value (nodes_of f).nodes levels (nodes_of f).number s ≡ bit (truth f)
root_value f d c levels s =
    let o = all_ordered (nodes_of f).nodes (nodes_give f d).ordered in
    value_depends (nodes_of f).nodes levels o (nodes_of f).number s (λ x. bit false) (λ x e. absurd (false≢true (sym (nothing_free f d c x) ∙ e)))
    ∙ value_holds (nodes_of f).nodes levels o (nodes_of f).number (λ x. false)
    ∙ ap bit (nodes_truth f d)
