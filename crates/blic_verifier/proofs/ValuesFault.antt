-- What is said of a reply of values.
use Rattle.std.proofs.Common.{arith, ℕ, suc, ◌≡◌, ◌+◌, ◌<◌, refl, sym, ◌∙◌, ap, subst, List, [], ◌∷◌, ◌++◌, length, get_or, drop, Bool, true, false, cond}
use Rattle.std.specs.Prelude.{map, find, Some, None, not}
use Rattle.std.proofs.lemmas.Bool.{eq-eqb, ne_eqb}
use Rattle.std.proofs.lemmas.List.{length_push}
use Rattle.std.proofs.lemmas.List.Elements.{All-drop}
use Rattle.std.proofs.Math.Seq.{drop-cons}
use Rattle.blic_model.specs.declared.node.Node.{Node}
use Rattle.blic_model.specs.Circuit.{node_at, below}
use Rattle.blic_model.specs.Counts.{claims}
use Rattle.blic_model.proofs.ChildEntries.{length_of_below, entry_of_below}
use Rattle.blic_claims.specs.Claims.{claims_on}
use Rattle.blic_claims.specs.Turns.{Reply, Values, ForValues, turns, transcript, values_number}
use Rattle.blic_claims.proofs.Pairs.{binary_pair}
use Rattle.blic_claims.proofs.ClaimCounts.{length-claims_on}
use Rattle.blic_claims.proofs.Lists.{All-below-lt}
use Rattle.blic_claims.proofs.Turns.{values_turn}
use Rattle.blic_verifier.specs.Acceptance.{Check, fails, ends_check, combine_check, binary_checks}
use Rattle.blic_verifier.specs.Standing.{IsReady}
use Rattle.blic_verifier.specs.Verdict.{fault_upto, judged, judged_at, verdict}
use Rattle.blic_verifier.specs.Walking.{conditions}
use Rattle.blic_verifier.specs.Holding.{joined}
use Rattle.blic_verifier.proofs.Finding.{find_mapped, find_skip, found}
use Rattle.blic_verifier.proofs.Shown.{ends_part}
use Rattle.blic_verifier.proofs.AddedReply.{agree_reply, sound_kept}
use Rattle.blic_verifier.proofs.Clear.{fault_here, values_verdict}
use Rattle.blic_verifier.proofs.ValuesReply.{none_map, end_is}
use Rattle.blic_verifier.proofs.BinaryWalk.{pair_checks, told_values}

-- values stand next at a node whose levels are all drawn
pub values_next : (nodes : List Node) (levels : ℕ) (answer : Bool) (draws : List ℕ) (replies : List Reply) (k u w : ℕ) (x : ℕ → ℕ → ℕ → ℕ) (v : ℕ → ℕ → ℕ)
    → IsReady nodes levels answer draws replies k 0 x v
    → verdict nodes levels answer draws replies (Values u w) ≡ judged nodes levels answer draws (replies ++ Values u w ∷ [])
unfolding verdict
values_next nodes levels answer draws replies k u w x v R =
    let rc = R.reply_count in
    let n : length replies ≡ values_number nodes levels k = omega arith in
    ap (λ t. judged_at nodes (suc (length replies)) t (Values u w) (judged nodes levels answer draws (replies ++ Values u w ∷ [])))
    (ap (λ z. get_or (turns nodes levels) z (ForValues 0)) n ∙ values_turn nodes levels k R.inside R.binary)

-- the conditions of the node, with the values told
pub told_checks : (nodes : List Node) (levels : ℕ) (answer : Bool) (draws : List ℕ) (replies : List Reply) (k u w : ℕ) (x : ℕ → ℕ → ℕ → ℕ) (v : ℕ → ℕ → ℕ)
    → IsReady nodes levels answer draws replies k 0 x v
    → conditions nodes levels (transcript nodes levels answer draws (replies ++ Values u w ∷ [])) k
    ≡ binary_checks nodes levels (transcript nodes levels answer draws (replies ++ Values u w ∷ [])) k (claims_on nodes levels (transcript nodes levels answer draws (replies ++ Values u w ∷ [])) k) (joined (node_at nodes k) u w)
told_checks nodes levels answer draws replies k u w x v R =
    let rc = R.reply_count in
    let S = transcript nodes levels answer draws (replies ++ Values u w ∷ []) in
    pair_checks nodes levels S k _ _ (binary_pair (node_at nodes k) R.binary)
    ∙ ap (λ z. binary_checks nodes levels S k (claims_on nodes levels S k) (joined (node_at nodes k) z.0 z.1)) (told_values nodes levels answer draws replies k u w (omega arith))

-- what the values show is what their node's ends and combination show
shown_here : (nodes : List Node) (levels : ℕ) (answer : Bool) (draws : List ℕ) (replies : List Reply) (k u w : ℕ) (x : ℕ → ℕ → ℕ → ℕ) (v : ℕ → ℕ → ℕ) (c : Check)
    → IsReady nodes levels answer draws replies k 0 x v
    → find fails (ends_part nodes levels (transcript nodes levels answer draws (replies ++ Values u w ∷ [])) k (claims_on nodes levels (transcript nodes levels answer draws (replies ++ Values u w ∷ [])) k)
    ++ combine_check nodes levels (transcript nodes levels answer draws (replies ++ Values u w ∷ [])) k (claims_on nodes levels (transcript nodes levels answer draws (replies ++ Values u w ∷ [])) k) (joined (node_at nodes k) u w) ∷ []) ≡ Some c
    → fault_upto nodes levels (transcript nodes levels answer draws (replies ++ Values u w ∷ [])) (suc (length (replies ++ Values u w ∷ []))) ≡ Some c
shown_here nodes levels answer draws replies k u w x v c R e =
    let T = transcript nodes levels answer draws replies in
    let S = transcript nodes levels answer draws (replies ++ Values u w ∷ []) in
    let rc = R.reply_count in
    let lp = length_push replies (Values u w) in
    let n1 : suc (length replies) ≡ values_number nodes levels k + 1 = omega arith in
    let n2 : suc (length (replies ++ Values u w ∷ [])) ≡ values_number nodes levels k + 2 = omega arith in
    let before : fault_upto nodes levels S (values_number nodes levels k + 1) ≡ None =
    ap (fault_upto nodes levels S) (sym n1) ∙ sound_kept nodes levels T S (suc (length replies)) (agree_reply nodes levels answer draws replies (Values u w)) R.sound in
    let V = values_verdict nodes levels S k (joined (node_at nodes k) u w) R.inside R.binary (told_checks nodes levels answer draws replies k u w x v R) before in
    ap (fault_upto nodes levels S) n2 ∙ fault_here nodes levels S (values_number nodes levels k + 2) k c R.inside V.0 (V.1 ∙ e)

-- the numbers from 1 on
from_one : (n : ℕ) → 0 < n → below n ≡ 0 ∷ drop 1 (below n)
from_one n l = drop-cons (below n) 0 0 (subst (λ z. 0 < z) (sym (length_of_below n)) l) ∙ ap (λ z. z ∷ drop 1 (below n)) (entry_of_below n 0 0 l)

-- the first of a list from 1 on, where 0 has none
find_from_one : (g : ℕ → Check) (n d : ℕ) → d < n → fails (g 0) ≡ false → ((e : ℕ) → e < d → fails (g e) ≡ false) → fails (g d) ≡ true
    → find fails (map g (drop 1 (below n))) ≡ Some (g d)
find_from_one g n d l none before here =
    sym (ap (λ b. cond b (Some (g 0)) (find fails (map g (drop 1 (below n))))) none)
    ∙ (ap (λ z. find fails (map g z)) (sym (from_one n (omega arith))) ∙ find_mapped fails g n d l before here)

-- the first claim that doesn't end with the value of claim 0
pub ends_fault : (nodes : List Node) (levels : ℕ) (answer : Bool) (draws : List ℕ) (replies : List Reply) (k u w d : ℕ) (x : ℕ → ℕ → ℕ → ℕ) (v : ℕ → ℕ → ℕ)
    → IsReady nodes levels answer draws replies k 0 x v
    → d < claims nodes k → ((e : ℕ) → e < d → v k e ≡ v k 0) → (v k d ≡ v k 0 → ⊥)
    → fault_upto nodes levels (transcript nodes levels answer draws (replies ++ Values u w ∷ [])) (suc (length (replies ++ Values u w ∷ [])))
    ≡ Some (ends_check nodes levels (transcript nodes levels answer draws (replies ++ Values u w ∷ [])) k (claims_on nodes levels (transcript nodes levels answer draws (replies ++ Values u w ∷ [])) k) d)
ends_fault nodes levels answer draws replies k u w d x v R ld before bad =
    let S = transcript nodes levels answer draws (replies ++ Values u w ∷ []) in
    let cs = claims_on nodes levels S k in
    let g : ℕ → Check = ends_check nodes levels S k cs in
    let end : (c : ℕ) → c < claims nodes k → (g c).left ≡ v k c = λ c l. end_is nodes levels answer draws replies (Values u w) k c x v R l in
    shown_here nodes levels answer draws replies k u w x v (g d) R
    (found fails (ends_part nodes levels S k cs) _ (g d)
    (find_from_one g (length cs) d (subst (λ z. d < z) (sym (length-claims_on nodes levels S k)) ld) (ap not (eq-eqb _ _ refl))
    (λ e l. ap not (eq-eqb _ _ (end e (omega arith) ∙ (before e l ∙ sym (end 0 (omega arith))))))
    (ap not (ne_eqb _ _ (λ q. bad (sym (end d ld) ∙ (q ∙ end 0 (omega arith))))))))

-- the values don't combine to the one value that the claims end with
pub combine_fault : (nodes : List Node) (levels : ℕ) (answer : Bool) (draws : List ℕ) (replies : List Reply) (k u w : ℕ) (x : ℕ → ℕ → ℕ → ℕ) (v : ℕ → ℕ → ℕ)
    → IsReady nodes levels answer draws replies k 0 x v
    → 0 < claims nodes k → ((c : ℕ) → c < claims nodes k → v k c ≡ v k 0) → (v k 0 ≡ joined (node_at nodes k) u w → ⊥)
    → fault_upto nodes levels (transcript nodes levels answer draws (replies ++ Values u w ∷ [])) (suc (length (replies ++ Values u w ∷ [])))
    ≡ Some (combine_check nodes levels (transcript nodes levels answer draws (replies ++ Values u w ∷ [])) k (claims_on nodes levels (transcript nodes levels answer draws (replies ++ Values u w ∷ [])) k) (joined (node_at nodes k) u w))
combine_fault nodes levels answer draws replies k u w x v R some ends bad =
    let S = transcript nodes levels answer draws (replies ++ Values u w ∷ []) in
    let cs = claims_on nodes levels S k in
    let g : ℕ → Check = ends_check nodes levels S k cs in
    let last : Check = combine_check nodes levels S k cs (joined (node_at nodes k) u w) in
    let end : (c : ℕ) → c < claims nodes k → (g c).left ≡ v k c = λ c l. end_is nodes levels answer draws replies (Values u w) k c x v R l in
    let n = length-claims_on nodes levels S k in
    let no_ends : find fails (ends_part nodes levels S k cs) ≡ None =
    none_map fails g (length cs) (drop 1 (below (length cs))) (All-drop (λ j. j < length cs) 1 (below (length cs)) (All-below-lt (length cs)))
    (λ j l. ap not (eq-eqb _ _ (end j (omega arith) ∙ (ends j (omega arith) ∙ sym (end 0 some))))) in
    shown_here nodes levels answer draws replies k u w x v last R
    (find_skip fails (ends_part nodes levels S k cs) (last ∷ []) no_ends
    ∙ ap (λ b. cond b (Some last) None) (ap not (ne_eqb _ _ (λ q. bad (sym (end 0 some) ∙ q)))))
