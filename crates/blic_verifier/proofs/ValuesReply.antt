-- A reply of values.
use Rattle.std.proofs.Common.{arith, ℕ, suc, ◌≡◌, ◌+◌, ◌<◌, ◌≤◌, refl, sym, ◌∙◌, ap, subst, inl, inr, List, [], ◌∷◌, ◌++◌, length, get_or, drop, Bool, true, false, cond, eqb}
use Rattle.std.proofs.lemmas.Bool.{cases_lt, eq-eqb, cond-true}
use Rattle.std.proofs.lemmas.List.{get_or_append_left, length_push}
use Rattle.std.proofs.lemmas.List.Elements.{All-head, All-tail, All-drop}
use Rattle.std.specs.Prelude.{map, find, filter, All, Some, None, not}
use Rattle.blic_field.specs.Quadratic.{at}
use Rattle.blic_model.specs.Circuit.{node_at, below, free, root}
use Rattle.blic_model.specs.Counts.{is_binary, claims}
use Rattle.blic_model.specs.declared.node.Node.{Node}
use Rattle.blic_claims.proofs.Agreement.{claims_agree}
use Rattle.blic_claims.proofs.ClaimCounts.{length-claims_on}
use Rattle.blic_claims.proofs.Turns.{values_below, values_turn}
use Rattle.blic_claims.proofs.Lists.{All-below-lt}
use Rattle.blic_claims.specs.Claims.{Claim, claims_on, no_claim}
use Rattle.blic_claims.specs.Turns.{sum_above, draw_number, polys_number, values_number, Reply, Values, ForValues, turns, transcript, polys_of, no_reply, replies_above}
use Rattle.blic_claims.proofs.Added.{agree_above}
use Rattle.blic_verifier.proofs.AddedReply.{agree_reply, sound_kept}
use Rattle.blic_claims.proofs.Starting.{start_next}
use Rattle.blic_verifier.proofs.Fitting.{fits_more}
use Rattle.blic_verifier.proofs.Finding.{find_skip}
use Rattle.blic_verifier.proofs.Shown.{ends_part}
use Rattle.blic_verifier.proofs.ShownKept.{is_shown}
use Rattle.blic_verifier.proofs.Clear.{clear_more, values_verdict}
use Rattle.blic_verifier.specs.Acceptance.{Check, no_poly, sent, value_at, ends_check, combine_check, binary_checks, fails}
use Rattle.blic_claims.specs.Held.{AreHeld}
use Rattle.blic_verifier.specs.Standing.{IsReady}
use Rattle.blic_verifier.specs.Verdict.{fault_upto}
use Rattle.blic_verifier.specs.Walking.{conditions, IsClear, IsWalking}

pub none_map : (f : Check → Bool) (g : ℕ → Check) (n : ℕ) (xs : List ℕ) → All (λ j. j < n) xs → ((j : ℕ) → j < n → f (g j) ≡ false) → find f (map g xs) ≡ None
none_map f g n [] a h = refl
none_map f g n (x ∷ xs) a h = ap (λ b. cond b (Some (g x)) (find f (map g xs))) (h x (All-head (λ j. j < n) x xs a)) ∙ none_map f g n xs (All-tail (λ j. j < n) x xs a) h

value_at_reply : (nodes : List Node) (levels : ℕ) (answer : Bool) (draws : List ℕ) (replies : List Reply) (r : Reply) (k c i : ℕ) (cl : Claim)
    → i ≤ length (free nodes levels k) → (i < length (free nodes levels k) → polys_number nodes levels k i < length replies)
    → value_at nodes levels (transcript nodes levels answer draws replies) k c cl i ≡ value_at nodes levels (transcript nodes levels answer draws (replies ++ r ∷ [])) k c cl i
unfolding transcript
value_at_reply nodes levels answer draws replies r k c i cl li h = elim (cases_lt i (length (free nodes levels k))) [
  | inl q ↦ ap (λ z. cond (eqb i (length (free nodes levels k))) cl.value (at (get_or (polys_of z) c no_poly) (get_or draws (draw_number nodes levels k i) 0)))
      (sym (get_or_append_left replies (r ∷ []) no_reply (polys_number nodes levels k i) (h q)))
  | inr q ↦
      let e : i ≡ length (free nodes levels k) = omega arith in
      let b = eq-eqb i (length (free nodes levels k)) e in
      cond-true _ cl.value (at (sent (transcript nodes levels answer draws replies) k i c) (get_or draws (draw_number nodes levels k i) 0)) b
      ∙ sym (cond-true _ cl.value (at (sent (transcript nodes levels answer draws (replies ++ r ∷ [])) k i c) (get_or draws (draw_number nodes levels k i) 0)) b)
]

claims_reply : (nodes : List Node) (levels : ℕ) (answer : Bool) (draws : List ℕ) (replies : List Reply) (r : Reply) (k : ℕ) → k ≤ root nodes
    → replies_above nodes levels k ≤ length replies
    → claims_on nodes levels (transcript nodes levels answer draws replies) k ≡ claims_on nodes levels (transcript nodes levels answer draws (replies ++ r ∷ [])) k
unfolding transcript
claims_reply nodes levels answer draws replies r k l s =
    claims_agree nodes levels (transcript nodes levels answer draws replies) (transcript nodes levels answer draws (replies ++ r ∷ [])) refl k (agree_above nodes levels answer draws replies r k s) l

-- the value that a claim ends with, as it is stored
pub end_is : (nodes : List Node) (levels : ℕ) (answer : Bool) (draws : List ℕ) (replies : List Reply) (r : Reply) (k c : ℕ) (x : ℕ → ℕ → ℕ → ℕ) (v : ℕ → ℕ → ℕ)
    → IsReady nodes levels answer draws replies k 0 x v → c < claims nodes k
    → value_at nodes levels (transcript nodes levels answer draws (replies ++ r ∷ [])) k c (get_or (claims_on nodes levels (transcript nodes levels answer draws (replies ++ r ∷ [])) k) c no_claim) 0 ≡ v k c
end_is nodes levels answer draws replies r k c x v R lc =
    let T = transcript nodes levels answer draws replies in
    let S = transcript nodes levels answer draws (replies ++ r ∷ []) in
    let lk = R.inside in
    let rc = R.reply_count in
    ap (λ cs. value_at nodes levels S k c (get_or cs c no_claim) 0) (sym (claims_reply nodes levels answer draws replies r k (omega arith) (omega arith)))
    ∙ (sym (value_at_reply nodes levels answer draws replies r k c 0 (get_or (claims_on nodes levels T k) c no_claim) (omega arith) (λ q. omega arith)) ∙ sym (R.values c lc))

-- Where all ends meet and the values combine, the node is taken.
pub values_fine : (nodes : List Node) (levels : ℕ) (answer : Bool) (draws : List ℕ) (replies : List Reply) (p q k both : ℕ) (x y : ℕ → ℕ → ℕ → ℕ) (v u : ℕ → ℕ → ℕ)
    → IsReady nodes levels answer draws replies k 0 x v → 0 < k → 0 < claims nodes k
    → conditions nodes levels (transcript nodes levels answer draws (replies ++ Values p q ∷ [])) k ≡ binary_checks nodes levels (transcript nodes levels answer draws (replies ++ Values p q ∷ [])) k (claims_on nodes levels (transcript nodes levels answer draws (replies ++ Values p q ∷ [])) k) both
    → ((c : ℕ) → c < claims nodes k → v k c ≡ v k 0) → v k 0 ≡ both
    → AreHeld nodes levels (transcript nodes levels answer draws (replies ++ Values p q ∷ [])) k k y u
    → IsWalking nodes levels answer draws (replies ++ Values p q ∷ []) k y u
values_fine nodes levels answer draws replies p q k both x y v u R pk pm is ends comb F =
    let T = transcript nodes levels answer draws replies in
    let S = transcript nodes levels answer draws (replies ++ Values p q ∷ []) in
    let lk = R.inside in
    let rc = R.reply_count in
    let dc = R.draws_made in
    let lp = length_push replies (Values p q) in
    let m = claims nodes k in
    let n0 : length replies ≡ values_number nodes levels k = omega arith in
    let n1 : suc (length replies) ≡ values_number nodes levels k + 1 = omega arith in
    let n2 : suc (length (replies ++ Values p q ∷ [])) ≡ values_number nodes levels k + 2 = omega arith in
    let before : fault_upto nodes levels S (values_number nodes levels k + 1) ≡ None =
    ap (fault_upto nodes levels S) (sym n1) ∙ sound_kept nodes levels T S (suc (length replies)) (agree_reply nodes levels answer draws replies (Values p q)) R.sound in
    let V = values_verdict nodes levels S k both lk R.binary is before in
    let lm = length-claims_on nodes levels S k in
    let end : (c : ℕ) → c < m → value_at nodes levels S k c (get_or (claims_on nodes levels S k) c no_claim) 0 ≡ v k c = λ c lc. end_is nodes levels answer draws replies (Values p q) k c x v R lc in
    let no_ends : find fails (ends_part nodes levels S k (claims_on nodes levels S k)) ≡ None =
    none_map fails (ends_check nodes levels S k (claims_on nodes levels S k)) (length (claims_on nodes levels S k)) (drop 1 (below (length (claims_on nodes levels S k))))
    (All-drop (λ j. j < length (claims_on nodes levels S k)) 1 (below (length (claims_on nodes levels S k))) (All-below-lt (length (claims_on nodes levels S k))))
    (λ j l. ap not (eq-eqb _ _ (end j (omega arith) ∙ (ends j (omega arith) ∙ sym (end 0 pm))))) in
    let no_combine : find fails (combine_check nodes levels S k (claims_on nodes levels S k) both ∷ []) ≡ None =
    ap (λ b. cond b (Some (combine_check nodes levels S k (claims_on nodes levels S k) both)) None) (ap not (eq-eqb _ _ (end 0 pm ∙ comb))) in
    let here : find fails (filter (is_shown (values_number nodes levels k + 2)) (conditions nodes levels S k)) ≡ None = V.1 ∙ (find_skip fails (ends_part nodes levels S k (claims_on nodes levels S k)) _ no_ends ∙ no_combine) in
    let clear : IsClear nodes levels S (suc (length (replies ++ Values p q ∷ []))) k = subst (λ z. IsClear nodes levels S z k) (sym n2) (clear_more nodes levels S (values_number nodes levels k + 2) k V.0 here) in
    record {
      inside = omega arith;
      below = F;
      clear = clear;
      reply_count = λ j e. (let b : is_binary (node_at nodes (suc j)) ≡ true = subst (λ z. is_binary (node_at nodes z) ≡ true) (sym e) R.binary in
          let a = start_next nodes (λ n. length (free nodes levels n) + 1) j (omega arith) b in
          let s : sum_above nodes (λ n. length (free nodes levels n) + 1) (suc j) ≡ replies_above nodes levels k = ap (λ z. replies_above nodes levels z) e in
          let w : length (free nodes levels (suc j)) ≡ length (free nodes levels k) = ap (λ z. length (free nodes levels z)) e in omega arith);
      draws_made = λ j e. (let b : is_binary (node_at nodes (suc j)) ≡ true = subst (λ z. is_binary (node_at nodes z) ≡ true) (sym e) R.binary in
          let a = start_next nodes (λ n. length (free nodes levels n)) j (omega arith) b in
          let s : sum_above nodes (λ n. length (free nodes levels n)) (suc j) ≡ sum_above nodes (λ n. length (free nodes levels n)) k = ap (λ z. sum_above nodes (λ n. length (free nodes levels n)) z) e in
          let w : length (free nodes levels (suc j)) ≡ length (free nodes levels k) = ap (λ z. length (free nodes levels z)) e in omega arith);
      complete = λ e. absurd (omega arith);
      fitting = fits_more nodes levels replies (ForValues k) (Values p q) R.fitting (omega (arith, values_below nodes levels k lk R.binary))
          (ap (λ z. get_or (turns nodes levels) z (ForValues 0)) n0 ∙ values_turn nodes levels k lk R.binary) tt;
    }
