-- The writer's text of a prefix is that of its runs.
use Rattle.std.proofs.Common.{◌≡◌, ℕ, cond, List, [], ◌∷◌, ◌++◌, refl, ap, sym, ◌∙◌, append_assoc, append-nil, Some, None, flat_map}
use Rattle.std.specs.Prelude.{codes}
use Rattle.blic_model.specs.declared.prefix.Quant.{Quant}
use Rattle.blic_model.specs.declared.prefix.Quant.TheVariants.{Exists, Forall}
use Rattle.blic_model.specs.declared.prefix.Bound.{Bound}
use Rattle.blic_qdimacs.specs.Text.{Run, same_quant, quant_text, var_text, run_text, runs_of, with_bound, line_end}
use Rattle.blic_qdimacs.specs.Writing.{start_text, prefix_left}

-- the text of runs, if a run of that quantifier is open
abbrev after : Quant → List Run → List ℕ
after q [] = codes "0" ++ line_end
after q (r ∷ runs) =
    cond (same_quant q r.quant) (flat_map var_text r.vars ++ codes "0" ++ line_end ++ flat_map run_text runs)
    (codes "0" ++ line_end ++ (run_text r ++ flat_map run_text runs))

-- the first run, if its quantifier is named
begun_run : (q r : Quant) (v : ℕ) (vs : List ℕ) (runs : List Run)
    → flat_map run_text (with_bound (record { quant = q; var = v }) (record { quant = r; vars = vs } ∷ runs))
    ≡ quant_text q ++ var_text v ++ after q (record { quant = r; vars = vs } ∷ runs)
begun_run Exists Exists v vs runs = simp append_assoc
begun_run Exists Forall v vs runs = simp (append_assoc, append-nil)
begun_run Forall Exists v vs runs = simp (append_assoc, append-nil)
begun_run Forall Forall v vs runs = simp append_assoc

begun : (q : Quant) (v : ℕ) (runs : List Run)
    → flat_map run_text (with_bound (record { quant = q; var = v }) runs) ≡ quant_text q ++ var_text v ++ after q runs
begun q v [] = simp (append_assoc, append-nil)
begun q v (r ∷ runs) = begun_run q r.quant v r.vars runs

gone_on_run : (c q r : Quant) (v : ℕ) (vs : List ℕ) (runs : List Run)
    → start_text (Some c) q ++ var_text v ++ after q (record { quant = r; vars = vs } ∷ runs)
    ≡ after c (with_bound (record { quant = q; var = v }) (record { quant = r; vars = vs } ∷ runs))
gone_on_run Exists Exists Exists v vs runs = simp append_assoc
gone_on_run Exists Exists Forall v vs runs = simp (append_assoc, append-nil)
gone_on_run Exists Forall Exists v vs runs = simp (append_assoc, append-nil)
gone_on_run Exists Forall Forall v vs runs = simp append_assoc
gone_on_run Forall Exists Exists v vs runs = simp append_assoc
gone_on_run Forall Exists Forall v vs runs = simp (append_assoc, append-nil)
gone_on_run Forall Forall Exists v vs runs = simp (append_assoc, append-nil)
gone_on_run Forall Forall Forall v vs runs = simp append_assoc

gone_on : (c q : Quant) (v : ℕ) (runs : List Run)
    → start_text (Some c) q ++ var_text v ++ after q runs ≡ after c (with_bound (record { quant = q; var = v }) runs)
gone_on Exists Exists v [] = simp (append_assoc, append-nil)
gone_on Exists Forall v [] = simp (append_assoc, append-nil)
gone_on Forall Exists v [] = simp (append_assoc, append-nil)
gone_on Forall Forall v [] = simp (append_assoc, append-nil)
gone_on c q v (r ∷ runs) = gone_on_run c q r.quant v r.vars runs

left_after : (c : Quant) (bounds : List Bound) → prefix_left (Some c) bounds ≡ after c (runs_of bounds)
left_after c [] = refl
left_after c (b ∷ bounds) =
    ap (λ rest. start_text (Some c) b.quant ++ var_text b.var ++ rest) (left_after b.quant bounds) ∙ gone_on c b.quant b.var (runs_of bounds)

-- the whole prefix
pub prefix_by_runs : (bounds : List Bound) → prefix_left None bounds ≡ flat_map run_text (runs_of bounds)
prefix_by_runs [] = refl
prefix_by_runs (b ∷ bounds) =
    ap (λ rest. quant_text b.quant ++ var_text b.var ++ rest) (left_after b.quant bounds) ∙ sym (begun b.quant b.var (runs_of bounds))
