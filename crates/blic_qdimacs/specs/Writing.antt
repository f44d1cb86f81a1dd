-- How the writer comes to the text of a prefix: only private contracts and proofs cite this.
use Rattle.std.specs.Prelude.{cond, List, [], ◌∷◌, ◌++◌, codes, Option, Some, None, ℕ}
use Rattle.blic_model.specs.declared.prefix.Quant.{Quant}
use Rattle.blic_model.specs.declared.prefix.Bound.{Bound}
use Rattle.blic_qdimacs.specs.Text.{same_quant, quant_text, var_text, line_end}

-- what ends the run that is open
abbrev pub end_text : Option Quant → List ℕ
end_text None = []
end_text (Some quant) = codes "0" ++ line_end

-- what stands before a variable of that quantifier, if such a run is open
abbrev pub start_text : Option Quant → Quant → List ℕ
start_text None quant = quant_text quant
start_text (Some current) quant = cond (same_quant current quant) [] (codes "0" ++ line_end ++ quant_text quant)

-- the rest of the prefix, if such a run is open
abbrev pub prefix_left : Option Quant → List Bound → List ℕ
prefix_left current [] = end_text current
prefix_left current (b ∷ bounds) = start_text current b.quant ++ var_text b.var ++ prefix_left (Some b.quant) bounds
