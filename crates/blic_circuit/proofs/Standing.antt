-- Marks of the variables that stand in a clause, in the steps that set them.
use Rattle.std.proofs.Common.{◌≡◌, ℕ, ◌+◌, ◌<◌, List, [], length, take, get_or, ap, sym, ◌∙◌, Bool, ◌||◌, Some}
use Rattle.std.specs.Prelude.{◌==◌, slice_get}
use Rattle.std.specs.List.{list_any}
use Rattle.std.specs.Option.{unwrap_or}
use Rattle.std.proofs.lemmas.Option.{unwrap_or-slice_get}
use Rattle.std.proofs.lemmas.List.Folds.{list_any_more}
use Rattle.blic_model.specs.declared.formula.Lit.{Lit}
use Rattle.blic_model.specs.Building.{stands_in}

-- one more clause is marked
pub standing_more : (v i : ℕ) (clauses : List (List Lit)) (clause : List Lit) (old new : Bool) → i < length clauses → slice_get clauses i ≡ Some clause
    → old ≡ stands_in v (take i clauses) → new ≡ (old || list_any (λ l. l.var == v) clause) → new ≡ stands_in v (take (i + 1) clauses)
standing_more v i clauses clause old new inside found before marked =
    let here : get_or clauses i [] ≡ clause = sym (unwrap_or-slice_get clauses i []) ∙ ap (λ o. unwrap_or o []) found in
    marked
    ∙ (ap (λ b. b || list_any (λ l. l.var == v) clause) before
    ∙ (ap (λ (c : List Lit). stands_in v (take i clauses) || list_any (λ l. l.var == v) c) (sym here)
    ∙ sym (list_any_more (list_any (λ l. l.var == v)) clauses i [] inside)))
