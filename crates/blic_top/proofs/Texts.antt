-- The texts of pieces, as the outcomes' texts are written.
use Rattle.std.proofs.Common.{◌≡◌, ℕ, List, ◌++◌, append_assoc, ap, ◌∙◌, subst, codes, Option}
use Rattle.std.specs.Prelude.{Result}
use Rattle.blic_print.specs.Printing.{Prints}
use Rattle.blic_input.specs.StopTexts.{line_end}
use Rattle.blic_print.specs.declared.write_fault.WriteFault.{WriteFault}

-- what is printed is also an equal text
pub prints_same : (old new : Option (List ℕ)) (r : Result Unit WriteFault) (text text' : List ℕ) → text ≡ text' → Prints old new r text → Prints old new r text'
prints_same old new r text text' same prints = subst (λ t. Prints old new r t) same prints

regrouped : (a b c d e f g : List ℕ) → a ++ (b ++ (c ++ (d ++ (e ++ (f ++ g))))) ≡ a ++ b ++ (c ++ d ++ e ++ f) ++ g
regrouped a b c d e f g = simp append_assoc

pub poly_text : (node level claim : List ℕ)
    → codes "c rejected node " ++ (node ++ (codes " poly " ++ (level ++ (codes " claim " ++ (claim ++ line_end)))))
    ≡ codes "c rejected node " ++ node ++ (codes " poly " ++ level ++ codes " claim " ++ claim) ++ line_end
poly_text node level claim = regrouped (codes "c rejected node ") node (codes " poly ") level (codes " claim ") claim line_end

pub ends_text : (node claim : List ℕ)
    → codes "c rejected node " ++ (node ++ (codes " ends claim " ++ (claim ++ line_end)))
    ≡ codes "c rejected node " ++ node ++ (codes " ends claim " ++ claim) ++ line_end
ends_text node claim = simp append_assoc

pub combine_text : (node : List ℕ) → codes "c rejected node " ++ (node ++ codes " combine\n") ≡ codes "c rejected node " ++ node ++ codes " combine" ++ line_end
combine_text node = simp append_assoc

pub leaf_text : (node claim : List ℕ)
    → codes "c rejected node " ++ (node ++ (codes " leaf claim " ++ (claim ++ line_end)))
    ≡ codes "c rejected node " ++ node ++ (codes " leaf claim " ++ claim) ++ line_end
leaf_text node claim = simp append_assoc

pub certified_text : (mark answer vars clauses runs draws bad : List ℕ) → mark ≡ answer
    → mark ++ (vars ++ (codes " " ++ (clauses ++ (codes "\nruns " ++ (runs ++ (codes "\ndraws " ++ (draws ++ (codes "\nbad " ++ (bad ++ line_end)))))))))
    ≡ (answer ++ vars ++ codes " " ++ clauses ++ line_end) ++ (codes "runs " ++ runs ++ line_end ++ codes "draws " ++ draws ++ line_end ++ codes "bad " ++ bad ++ line_end)
certified_text mark answer vars clauses runs draws bad same = rw same (simp append_assoc)

hello_parts : (a b c d rest : List ℕ) → a ++ (codes " " ++ (b ++ (codes " " ++ (c ++ (codes " " ++ (d ++ rest)))))) ≡ (a ++ codes " " ++ b ++ codes " " ++ c ++ codes " " ++ d) ++ rest
hello_parts a b c d rest = simp append_assoc

pub not_served_text : (a b c d e f g h : List ℕ)
    → codes "c server refused NotServed ours " ++ (a ++ (codes " " ++ (b ++ (codes " " ++ (c ++ (codes " " ++ (d ++ (codes " theirs " ++ (e ++ (codes " " ++ (f ++ (codes " " ++ (g ++ (codes " " ++ (h ++ line_end)))))))))))))))
    ≡ codes "c server refused " ++ (codes "NotServed ours " ++ (a ++ codes " " ++ b ++ codes " " ++ c ++ codes " " ++ d) ++ codes " theirs " ++ (e ++ codes " " ++ f ++ codes " " ++ g ++ codes " " ++ h)) ++ line_end
not_served_text a b c d e f g h =
    ap (λ t. codes "c server refused NotServed ours " ++ t) (hello_parts a b c d _ ∙ ap (λ t. (a ++ codes " " ++ b ++ codes " " ++ c ++ codes " " ++ d) ++ (codes " theirs " ++ t)) (hello_parts e f g h line_end))
    ∙ spread (codes "NotServed ours ") (a ++ codes " " ++ b ++ codes " " ++ c ++ codes " " ++ d) (codes " theirs ") (e ++ codes " " ++ f ++ codes " " ++ g ++ codes " " ++ h)
  where
    spread : (u v w x : List ℕ) → codes "c server refused " ++ (u ++ (v ++ (w ++ (x ++ line_end)))) ≡ codes "c server refused " ++ (u ++ v ++ w ++ x) ++ line_end
    spread u v w x = simp append_assoc
