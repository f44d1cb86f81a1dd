-- Where all replies are there, each condition is shown, and acceptance is said.
use Rattle.std.proofs.Common.{arith, ℕ, zero, suc, ◌≡◌, ◌+◌, ◌-◌, ◌<◌, ◌≤◌, refl, sym, ◌∙◌, ap, subst, inl, inr, List, [], ◌∷◌, length, take, Bool, true, false, cond, eqb}
use Rattle.std.specs.Prelude.{filter, find, All, Option, Some, None, not}
use Rattle.std.specs.List.{AllZip}
use Rattle.std.proofs.lemmas.Bool.{cases_eq, eq-eqb, ne_eqb, eqb-true, cond-true, cond-false}
use Rattle.std.proofs.lemmas.List.{take_all}
use Rattle.std.proofs.lemmas.List.Elements.{All-nil, All-cons, All-head, All-tail}
use Rattle.std.proofs.lemmas.Slice.Zip.{AllZip-long}
use Rattle.blic_model.specs.declared.node.Node.{Node}
use Rattle.blic_model.specs.Circuit.{node_at, free}
use Rattle.blic_model.specs.Counts.{is_binary, draws as draw_count}
use Rattle.blic_claims.specs.Claims.{Transcript, claims_on}
use Rattle.blic_claims.specs.Turns.{Reply, Fits, turns, transcript, replies_above, values_number, is_polys, wants_draw_after}
use Rattle.blic_claims.proofs.Turns.{above, above-own, above_step, sum_above_is, values_turn, values_below}
use Rattle.blic_verifier.specs.Acceptance.{Check, checks, fails, Passes}
use Rattle.blic_verifier.specs.Verdict.{Draw, Go, Done, Rejected, fault_upto, judged, place_of}
use Rattle.blic_verifier.specs.VerdictLaws.{DoneIsAcceptance}
use Rattle.blic_verifier.specs.Walking.{conditions, IsWalking}
use Rattle.blic_verifier.proofs.Finding.{filter_parts_upto}
use Rattle.blic_verifier.proofs.ShownKept.{is_shown}
use Rattle.blic_verifier.proofs.Shown.{shown_all}
use Rattle.blic_verifier.proofs.Clear.{clear_all}
use Rattle.blic_claims.proofs.Starting.{start_same, start_next}
use Rattle.blic_verifier.proofs.Stopping.{walk_stop}
use Rattle.blic_verifier.proofs.Judging.{judged_fine}
use Rattle.blic_claims.proofs.AllTurns.{all_turns}

-- a condition that doesn't fail holds
holds_from : (c : Check) → fails c ≡ false → c.left ≡ c.right
holds_from c e = eqb-true c.left c.right (back (eqb c.left c.right) e)
  where
    back : (b : Bool) → not b ≡ false → b ≡ true
    back true e = refl
    back false e = absurd (cc e)

-- none fails exactly where all hold
pub all_hold : (cs : List Check) → find fails cs ≡ None → All (λ c. c.left ≡ c.right) cs
all_hold [] e = All-nil (λ c. c.left ≡ c.right)
all_hold (c ∷ cs) e = go (fails c) refl e (all_hold cs)
  where
    go : (b : Bool) → fails c ≡ b → cond b (Some c) (find fails cs) ≡ None → (find fails cs ≡ None → All (λ c. c.left ≡ c.right) cs)
        → All (λ c. c.left ≡ c.right) (c ∷ cs)
    go true q e h = absurd (cc e)
    go false q e h = All-cons (λ c. c.left ≡ c.right) c cs (holds_from c q) (h e)

pub none_fails : (cs : List Check) → All (λ c. c.left ≡ c.right) cs → find fails cs ≡ None
none_fails [] h = refl
none_fails (c ∷ cs) h =
    ap (λ b. cond b (Some c) (find fails cs)) (ap not (eq-eqb c.left c.right (All-head (λ c. c.left ≡ c.right) c cs h)))
    ∙ none_fails cs (All-tail (λ c. c.left ≡ c.right) c cs h)

-- the replies above a node are some of all
pub replies_above_most : (nodes : List Node) (levels k : ℕ) → k < length nodes → replies_above nodes levels k ≤ length (turns nodes levels)
replies_above_most nodes levels k l =
    let g : ℕ → ℕ = λ j. cond (is_binary (node_at nodes j)) (length (free nodes levels j) + 1) 0 in
    let all = all_turns nodes levels (omega arith) in
    let own = sum_above_is nodes (λ j. length (free nodes levels j) + 1) k in
    elim (cases_eq k 0) [
      | inl e ↦ (let z : above g (length nodes) k ≡ above g (length nodes) 0 = ap (above g (length nodes)) e in omega arith)
      | inr ne ↦ (let s = above_step g (length nodes) 0 k (omega arith) l in omega arith)
    ]

-- each condition is shown by the replies of all turns
pub all_shown : (nodes : List Node) (levels : ℕ) (T : Transcript) (n : ℕ) → length (turns nodes levels) < n
    → filter (is_shown n) (checks nodes levels T) ≡ checks nodes levels T
unfolding checks
all_shown nodes levels T n l =
    filter_parts_upto (is_shown n) (conditions nodes levels T) (length nodes) (λ k lk.
    shown_all nodes levels T k n (node_at nodes k) (claims_on nodes levels T k)
    (λ b. omega (arith, values_below nodes levels k lk b)) (omega (arith, replies_above_most nodes levels k lk)))

-- with all replies and draws, and no fault, the conversation passes
pub passes_from : (nodes : List Node) (levels : ℕ) (answer : Bool) (draws : List ℕ) (replies : List Reply) → length draws ≡ draw_count nodes levels
    → AllZip (Fits nodes) (turns nodes levels) replies
    → fault_upto nodes levels (transcript nodes levels answer draws replies) (suc (length replies)) ≡ None → Passes nodes levels answer draws replies
passes_from nodes levels answer draws replies d f e =
    let n : length replies ≡ length (turns nodes levels) = AllZip-long (Fits nodes) (turns nodes levels) replies f in
    (d, f, all_hold (checks nodes levels (transcript nodes levels answer draws replies)) (ap (find fails) (sym (all_shown nodes levels (transcript nodes levels answer draws replies) (suc (length replies)) (omega arith))) ∙ e))

pub done_is_acceptance : DoneIsAcceptance
done_is_acceptance nodes levels answer draws replies d f =
    let T = transcript nodes levels answer draws replies in
    let n : length replies ≡ length (turns nodes levels) = AllZip-long (Fits nodes) (turns nodes levels) replies f in (
      λ e. passes_from nodes levels answer draws replies d f (none (fault_upto nodes levels T (suc (length replies))) e),
      λ p. judged_fine nodes levels answer draws replies (ap (find fails) (all_shown nodes levels T (suc (length replies)) (omega arith)) ∙ none_fails (checks nodes levels T) p.2)
          ∙ cond-true (eqb (length replies) (length (turns nodes levels))) (Done answer) (cond (wants_draw_after (turns nodes levels) (length replies)) Draw Go) (eq-eqb _ _ n),
    )
  where
    none : (o : Option Check)
        → elim o [ Some c ↦ Rejected (place_of c) | None ↦ cond (eqb (length replies) (length (turns nodes levels))) (Done answer) (cond (wants_draw_after (turns nodes levels) (length replies)) Draw Go) ] ≡ Done answer
        → o ≡ None
    none None e = refl
    none (Some c) e = absurd (cc e)

-- the walk below node 0 ends with acceptance
pub end_said : (nodes : List Node) (levels : ℕ) (answer : Bool) (draws : List ℕ) (replies : List Reply) (x : ℕ → ℕ → ℕ → ℕ) (v : ℕ → ℕ → ℕ)
    → IsWalking nodes levels answer draws replies 0 x v
    → (judged nodes levels answer draws replies ≡ Done answer) × Passes nodes levels answer draws replies
end_said nodes levels answer draws replies x v w =
    let T = transcript nodes levels answer draws replies in
    let all = w.complete refl in
    let none : fault_upto nodes levels T (suc (length replies)) ≡ None = clear_all nodes levels T (suc (length replies)) w.clear in
    let fits : AllZip (Fits nodes) (turns nodes levels) replies = subst (λ z. AllZip (Fits nodes) z replies) (ap (λ z. take z (turns nodes levels)) all.0 ∙ take_all (length (turns nodes levels)) (turns nodes levels) (omega arith)) w.fitting in (
      judged_fine nodes levels answer draws replies none ∙ cond-true (eqb (length replies) (length (turns nodes levels))) (Done answer) (cond (wants_draw_after (turns nodes levels) (length replies)) Draw Go) (eq-eqb _ _ all.0),
      passes_from nodes levels answer draws replies all.1 fits none,
    )

-- before the replies of a node there was a reply of values, or none
before_node : (nodes : List Node) (levels n k : ℕ) → length nodes ≡ suc k + n → wants_draw_after (turns nodes levels) (replies_above nodes levels k) ≡ false
before_node nodes levels zero k e =
    ap (wants_draw_after (turns nodes levels)) (sum_above_is nodes (λ j. length (free nodes levels j) + 1) k ∙ above-own (λ j. cond (is_binary (node_at nodes j)) (length (free nodes levels j) + 1) 0) (length nodes) k (omega arith))
before_node nodes levels (suc n) k e = go (is_binary (node_at nodes (suc k))) refl (before_node nodes levels n (suc k) (omega arith))
  where
    go : (b : Bool) → is_binary (node_at nodes (suc k)) ≡ b → wants_draw_after (turns nodes levels) (replies_above nodes levels (suc k)) ≡ false
        → wants_draw_after (turns nodes levels) (replies_above nodes levels k) ≡ false
    go false b h = ap (wants_draw_after (turns nodes levels)) (start_same nodes (λ j. length (free nodes levels j) + 1) k (omega arith) b) ∙ h
    go true b h =
        let s : replies_above nodes levels k ≡ suc (values_number nodes levels (suc k)) = (let u = start_next nodes (λ j. length (free nodes levels j) + 1) k (omega arith) b in omega arith) in
        ap (wants_draw_after (turns nodes levels)) s ∙ ap is_polys (values_turn nodes levels (suc k) (omega arith) b)

-- at a binary node the next reply is asked for
pub stop_said : (nodes : List Node) (levels : ℕ) (answer : Bool) (draws : List ℕ) (replies : List Reply) (k : ℕ) (x : ℕ → ℕ → ℕ → ℕ) (v : ℕ → ℕ → ℕ)
    → is_binary (node_at nodes k) ≡ true
    → IsWalking nodes levels answer draws replies (suc k) x v → judged nodes levels answer draws replies ≡ Go
stop_said nodes levels answer draws replies k x v b w =
    let r = walk_stop nodes levels answer draws replies k x v b w in
    let lk = r.inside in
    let n = w.reply_count k refl in
    judged_fine nodes levels answer draws replies r.sound
    ∙ (cond-false (eqb (length replies) (length (turns nodes levels))) (Done answer) (cond (wants_draw_after (turns nodes levels) (length replies)) Draw Go) (ne_eqb _ _ (λ e. omega (arith, values_below nodes levels k lk b)))
    ∙ cond-false (wants_draw_after (turns nodes levels) (length replies)) Draw Go (ap (wants_draw_after (turns nodes levels)) n ∙ before_node nodes levels (length nodes - suc k) k (omega arith)))
