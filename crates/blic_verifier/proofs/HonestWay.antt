-- A conversation in which each reply is the honest one.
use Rattle.std.proofs.Common.{arith, ℕ, zero, suc, ◌≡◌, ◌+◌, ◌<◌, ◌≤◌, refl, sym, ◌∙◌, ap, subst, inl, inr, List, [], ◌∷◌, ◌++◌, length, get_or, Bool, true, false, cond, zero-add}
use Rattle.std.specs.Prelude.{All, Option, Some, None, filter, find, take, not}
use Rattle.std.proofs.lemmas.Bool.{cases_eq, cases_Bool, eq-eqb, ne_eqb, cond-true, cond-false}
use Rattle.std.proofs.lemmas.List.{length_push}
use Rattle.std.proofs.lemmas.List.Elements.{All-nil, All-head, All-tail}
use Rattle.blic_field.specs.Field.{modulus}
use Rattle.blic_model.specs.declared.node.Node.{Node}
use Rattle.blic_model.specs.Circuit.{OrderedCircuit, table}
use Rattle.blic_model.specs.Shape.{IsShaped}
use Rattle.blic_model.specs.Counts.{claims}
use Rattle.blic_model.proofs.Entries.{get-table}
use Rattle.blic_model.proofs.Ordered.{ordered_all}
use Rattle.blic_model.proofs.Shaped.{ordered_of}
use Rattle.blic_messages.specs.Replies.{Said, Polys as SaidPolys, Values as SaidValues}
use Rattle.blic_messages.specs.declared.ask.Ask.{Ask}
use Rattle.blic_claims.specs.Turns.{Turn, ForPolys, ForValues, Reply, Polys, Values, Fits, turns, transcript, no_reply, reply_by, polys_of, values_of, polys_number, values_number, is_polys}
use Rattle.blic_claims.specs.Honest.{honest_answer, honest_replies}
use Rattle.blic_claims.proofs.Drawn.{levelled_from_shape}
use Rattle.blic_claims.proofs.HonestReplies.{honest_entry, honest_upto}
use Rattle.blic_claims.proofs.Settling.{entry_is, length-replies, replies_more, reply_at_turn}
use Rattle.blic_claims.proofs.SomeClaim.{some_claim_law}
use Rattle.blic_claims.proofs.Turns.{binary_inside, polys_below, values_below}
use Rattle.blic_verifier.specs.Acceptance.{Check, checks, fails}
use Rattle.blic_verifier.specs.Verdict.{Verdict, Draw, Go, Talk, Silent, Talked, fault_upto, judged, judged_at, verdict}
use Rattle.blic_verifier.specs.Conversation.{Instance, Position, Awaits, Ended, go_on, read_on, position_after, beginning, honest_reply, AreHonest, GoesOnOrAccepts}
use Rattle.blic_verifier.specs.declared.ending.Ending.TheVariants.{Certified}
use Rattle.blic_verifier.specs.HonestLaws.{HonestConversationAccepts}
use Rattle.blic_verifier.proofs.FaultKept.{draws_before, draws_before_rise}
use Rattle.blic_verifier.proofs.HonestEntries.{honest_reply_fits}
use Rattle.blic_verifier.proofs.HonestPasses.{honest_passes}
use Rattle.blic_verifier.proofs.Judging.{what_stands, judged_fine}
use Rattle.blic_verifier.proofs.OfElements.{draw_element}
use Rattle.blic_verifier.proofs.Settling.{settled}
use Rattle.blic_verifier.proofs.ShownKept.{Agree, checks_kept, is_shown}
use Rattle.blic_verifier.proofs.TalkElements.{draw_more}

-- of conditions that hold none fails
none_fails : (cs : List Check) (n : ℕ) → All (λ c. c.left ≡ c.right) cs → find fails (filter (is_shown n) cs) ≡ None
none_fails [] n h = refl
none_fails (c ∷ cs) n h = go (is_shown n c) (none_fails cs n (All-tail (λ c. c.left ≡ c.right) c cs h))
  where
    go : (b : Bool) → find fails (filter (is_shown n) cs) ≡ None → find fails (cond b (c ∷ filter (is_shown n) cs) (filter (is_shown n) cs)) ≡ None
    go false e = e
    go true e =
        ap (λ z. cond (not z) (Some c) (find fails (filter (is_shown n) cs))) (eq-eqb c.left c.right (All-head (λ c. c.left ≡ c.right) c cs h)) ∙ e

-- the first m honest replies are those of the whole conversation
agree_whole : (nodes : List Node) (levels : ℕ) (draws : List ℕ) (m : ℕ)
    → Agree nodes levels (honest_upto nodes levels draws m) (honest_upto nodes levels draws (length (turns nodes levels))) (suc m)
unfolding transcript
agree_whole nodes levels draws m = record {
  answers = refl;
  values = λ k b h. ap values_of (same (values_number nodes levels k) (omega arith) (values_below nodes levels k (binary_inside nodes k b) b));
  polys = λ k i b l h. ap polys_of (same (polys_number nodes levels k i) (omega arith) (polys_below nodes levels k i (binary_inside nodes k b) b l));
  draws = λ k i b l h. refl;
}
  where
    same : (t : ℕ) → t < m → t < length (turns nodes levels)
        → get_or (table (honest_entry nodes levels draws) m) t no_reply ≡ get_or (table (honest_entry nodes levels draws) (length (turns nodes levels))) t no_reply
    same t l h = get-table (honest_entry nodes levels draws) no_reply m t l ∙ sym (get-table (honest_entry nodes levels draws) no_reply (length (turns nodes levels)) t h)

no_fault : (nodes : List Node) (levels : ℕ) → IsShaped nodes levels → (draws : List ℕ) → All (λ r. r < modulus) draws → (m : ℕ)
    → fault_upto nodes levels (transcript nodes levels (honest_answer nodes levels) draws (honest_replies nodes levels draws m)) (suc m) ≡ None
unfolding honest_replies
no_fault nodes levels shaped draws d m =
    ap (find fails) (checks_kept nodes levels (honest_upto nodes levels draws m) (honest_upto nodes levels draws (length (turns nodes levels))) (suc m) (agree_whole nodes levels draws m))
    ∙ none_fails (checks nodes levels (honest_upto nodes levels draws (length (turns nodes levels)))) (suc m)
    (honest_passes nodes levels (ordered_all nodes (ordered_of nodes levels shaped)) (levelled_from_shape nodes levels shaped) draws (draw_element draws d) (some_claim_law nodes levels shaped))

-- what is said of the first m honest replies
judged_honest : (nodes : List Node) (levels : ℕ) → IsShaped nodes levels → (draws : List ℕ) → All (λ r. r < modulus) draws → (m : ℕ)
    → judged nodes levels (honest_answer nodes levels) draws (honest_replies nodes levels draws m) ≡ what_stands nodes levels (honest_answer nodes levels) m
judged_honest nodes levels shaped draws d m =
    let long = length-replies nodes levels draws m in
    judged_fine nodes levels (honest_answer nodes levels) draws (honest_replies nodes levels draws m)
    (ap (λ n. fault_upto nodes levels (transcript nodes levels (honest_answer nodes levels) draws (honest_replies nodes levels draws m)) (suc n)) long
    ∙ no_fault nodes levels shaped draws d m)
    ∙ ap (what_stands nodes levels (honest_answer nodes levels)) long

fits_judged : (nodes : List Node) (t : ℕ) (u : Turn) (r : Reply) (next : Verdict) → Fits nodes u r → judged_at nodes t u r next ≡ next
fits_judged nodes t (ForPolys k i) (Polys ps) next h = cond-true _ next _ (eq-eqb (length ps) (claims nodes k) h)
fits_judged nodes t (ForPolys k i) (Values u w) next h = absurd h
fits_judged nodes t (ForValues k) (Polys ps) next h = absurd h
fits_judged nodes t (ForValues k) (Values u w) next h = refl

-- a talk whose replies are honest, and which isn't at its end
pub record IsHonestTalk (nodes : List Node) (levels : ℕ) (answer : Bool) (draws : List ℕ) (replies : List Reply) : Type 0 where
  pub right : answer ≡ honest_answer nodes levels
  pub said : replies ≡ honest_replies nodes levels draws (length replies)
  pub elements : All (λ r. r < modulus) draws
  pub left : length replies < length (turns nodes levels)
  pub drawn : draws_before nodes levels (length replies) ≤ length draws

-- so many replies have come
abbrev pub IsHonestPosition : OrderedCircuit → ℕ → Position → Type 0
IsHonestPosition c m (Awaits ask Silent n) = m ≡ 0
IsHonestPosition c m (Awaits ask (Talked a draws replies) n) = (m ≡ suc (length replies)) × IsHonestTalk c.nodes (length c.order) a draws replies
IsHonestPosition c m (Ended e t) = (e ≡ Certified (honest_answer c.nodes (length c.order))) × (m ≡ 1 + length (turns c.nodes (length c.order)))

-- a draw more at most
draws_step : (ts : List Turn) (t : ℕ)
    → length (filter is_polys (take (suc t) ts)) ≤ length (filter is_polys (take t ts)) + cond (is_polys (get_or ts t (ForValues 0))) 1 0
draws_step [] zero = omega arith
draws_step [] (suc t) = omega arith
draws_step (u ∷ ts) zero = go (is_polys u)
  where
    go : (b : Bool) → length (cond b (u ∷ []) []) ≤ 0 + cond b 1 0
    go true = omega arith
    go false = omega arith
draws_step (u ∷ ts) (suc t) = go (is_polys u) (draws_step ts t)
  where
    go : (b : Bool) → length (filter is_polys (take (suc t) ts)) ≤ length (filter is_polys (take t ts)) + cond (is_polys (get_or ts t (ForValues 0))) 1 0
        → length (cond b (u ∷ filter is_polys (take (suc t) ts)) (filter is_polys (take (suc t) ts)))
        ≤ length (cond b (u ∷ filter is_polys (take t ts)) (filter is_polys (take t ts))) + cond (is_polys (get_or ts t (ForValues 0))) 1 0
    go true h = omega arith
    go false h = h

more_draws : (nodes : List Node) (levels t : ℕ) (b : Bool) → is_polys (get_or (turns nodes levels) t (ForValues 0)) ≡ b
    → draws_before nodes levels (suc t) ≤ draws_before nodes levels t + cond b 1 0
more_draws nodes levels t b e = subst (λ z. draws_before nodes levels (suc t) ≤ draws_before nodes levels t + cond z 1 0) e (draws_step (turns nodes levels) t)

-- the position after t + 1 honest replies, of which the last was right in its turn
go_on_more : (c : OrderedCircuit) (draw : ℕ → ℕ) → ((n : ℕ) → draw n < modulus) → (draws : List ℕ) (replies : List Reply) (n t : ℕ)
    → t < length (turns c.nodes (length c.order)) → replies ≡ honest_replies c.nodes (length c.order) draws (suc t) → All (λ r. r < modulus) draws
    → draws_before c.nodes (length c.order) t ≤ length draws
    → IsHonestPosition c (suc (suc t)) (go_on draw (Talked (honest_answer c.nodes (length c.order)) draws replies) n (what_stands c.nodes (length c.order) (honest_answer c.nodes (length c.order)) (suc t)))
go_on_more c draw below draws replies n t l said elements drawn = elim (cases_eq (suc t) (length (turns c.nodes (length c.order)))) [
  | inl e ↦ subst there (sym (cond-true _ _ _ (eq-eqb (suc t) (length (turns c.nodes (length c.order))) e))) (refl, omega arith)
  | inr ne ↦ subst there (sym (cond-false _ _ _ (ne_eqb (suc t) (length (turns c.nodes (length c.order))) ne))) (elim (cases_Bool (is_polys (get_or (turns c.nodes (length c.order)) t (ForValues 0)))) [
    | inl b ↦ subst (λ z. there (cond z Draw Go)) (sym b) (
      ap suc (sym long),
      record {
        right = refl;
        said = said ∙ (sym (settled c.nodes (length c.order) draws (draw n ∷ []) (suc t) l earlier) ∙ ap (honest_replies c.nodes (length c.order) (draws ++ draw n ∷ [])) (sym long));
        elements = draw_more draws (draw n) (below n) elements;
        left = omega (arith, long);
        drawn = (let count = more_draws c.nodes (length c.order) t true b in omega (arith, ap (draws_before c.nodes (length c.order)) long, length_push draws (draw n)));
      },
    )
    | inr b ↦ subst (λ z. there (cond z Draw Go)) (sym b) (
      ap suc (sym long),
      record {
        right = refl;
        said = said ∙ ap (honest_replies c.nodes (length c.order) draws) (sym long);
        elements = elements;
        left = omega (arith, long);
        drawn = (let count = more_draws c.nodes (length c.order) t false b in omega (arith, ap (draws_before c.nodes (length c.order)) long));
      },
    )
  ])
]
  where
    there : Verdict → Type 0
    there next = IsHonestPosition c (suc (suc t)) (go_on draw (Talked (honest_answer c.nodes (length c.order)) draws replies) n next)

    long : length replies ≡ suc t
    long = ap length said ∙ length-replies c.nodes (length c.order) draws (suc t)

    earlier : (s : ℕ) → s < suc t → draws_before c.nodes (length c.order) s ≤ length draws
    earlier s h = let rise = draws_before_rise c.nodes (length c.order) s t (omega arith) in omega arith

none_said : (nodes : List Node) (levels : ℕ) (draws : List ℕ) → honest_replies nodes levels draws 0 ≡ []
unfolding honest_replies table
none_said nodes levels draws = refl

-- the position after the answer
first_step : (c : OrderedCircuit) → IsShaped c.nodes (length c.order) → (draw : ℕ → ℕ) (n : ℕ)
    → IsHonestPosition c 1 (go_on draw (Talked (honest_answer c.nodes (length c.order)) [] []) n (judged c.nodes (length c.order) (honest_answer c.nodes (length c.order)) [] []))
first_step c shaped draw n =
    let nodes = c.nodes in
    let levels = length c.order in
    let stands : judged nodes levels (honest_answer nodes levels) [] [] ≡ what_stands nodes levels (honest_answer nodes levels) 0 =
    ap (judged nodes levels (honest_answer nodes levels) []) (sym (none_said nodes levels [])) ∙ judged_honest nodes levels shaped [] (All-nil (λ r. r < modulus)) 0 in
    subst there (sym stands) (elim (cases_eq 0 (length (turns nodes levels))) [
      | inl e ↦ subst there (sym (cond-true _ _ _ (eq-eqb 0 (length (turns nodes levels)) e))) (refl, omega arith)
      | inr ne ↦ subst there (sym (cond-false _ _ _ (ne_eqb 0 (length (turns nodes levels)) ne))) (
        refl,
        record {
          right = refl;
          said = sym (none_said nodes levels []);
          elements = All-nil (λ r. r < modulus);
          left = omega arith;
          drawn = omega arith;
        },
      )
    ])
  where
    there : Verdict → Type 0
    there next = IsHonestPosition c 1 (go_on draw (Talked (honest_answer c.nodes (length c.order)) [] []) n next)

read_reply : (x : Instance) (draw : ℕ → ℕ) (ask : Ask) (a : Bool) (draws : List ℕ) (replies : List Reply) (n : ℕ) (r : Reply)
    → read_on x draw (Awaits ask (Talked a draws replies) n) (Some (reply_by SaidPolys SaidValues r))
    ≡ go_on draw (Talked a draws (replies ++ r ∷ [])) n (verdict x.circuit.nodes (length x.circuit.order) a draws replies r)
read_reply x draw ask a draws replies n (Polys ps) = refl
read_reply x draw ask a draws replies n (Values u w) = refl

-- the verdict on the next honest reply
next_verdict : (nodes : List Node) (levels : ℕ) → IsShaped nodes levels → (draws : List ℕ) (replies : List Reply) (r : Reply)
    → IsHonestTalk nodes levels (honest_answer nodes levels) draws replies
    → r ≡ get_or (honest_replies nodes levels draws (suc (length replies))) (length replies) no_reply
    → replies ++ r ∷ [] ≡ honest_replies nodes levels draws (suc (length replies))
    → verdict nodes levels (honest_answer nodes levels) draws replies r ≡ what_stands nodes levels (honest_answer nodes levels) (suc (length replies))
unfolding verdict
next_verdict nodes levels shaped draws replies r h is more =
    let t = length replies in
    let fits = subst (Fits nodes (get_or (turns nodes levels) t (ForValues 0))) (sym is) (honest_reply_fits nodes levels shaped draws h.elements t h.left).0 in
    fits_judged nodes (suc t) (get_or (turns nodes levels) t (ForValues 0)) r _ fits
    ∙ (ap (judged nodes levels (honest_answer nodes levels) draws) more ∙ judged_honest nodes levels shaped draws h.elements (suc t))

talk_step : (x : Instance) → IsShaped x.circuit.nodes (length x.circuit.order) → (draw : ℕ → ℕ) → ((n : ℕ) → draw n < modulus) → (ask : Ask) (draws : List ℕ) (replies : List Reply) (n : ℕ)
    → IsHonestTalk x.circuit.nodes (length x.circuit.order) (honest_answer x.circuit.nodes (length x.circuit.order)) draws replies
    → IsHonestPosition x.circuit (suc (suc (length replies))) (read_on x draw (Awaits ask (Talked (honest_answer x.circuit.nodes (length x.circuit.order)) draws replies) n)
    (Some (honest_reply x (Talked (honest_answer x.circuit.nodes (length x.circuit.order)) draws replies))))
talk_step x shaped draw below ask draws replies n h =
    let c = x.circuit in
    let nodes = c.nodes in
    let levels = length c.order in
    let b = honest_answer nodes levels in
    let t = length replies in
    let r = get_or (honest_replies nodes levels draws (suc t)) t no_reply in
    let more : replies ++ r ∷ [] ≡ honest_replies nodes levels draws (suc t) =
    ap (λ z. replies ++ z ∷ []) (entry_is nodes levels draws (suc t) t (omega arith))
    ∙ (ap (λ z. z ++ reply_at_turn nodes levels draws t ∷ []) h.said ∙ sym (replies_more nodes levels draws t)) in
    subst (IsHonestPosition c (suc (suc t))) (sym (read_reply x draw ask b draws replies n r))
    (subst (λ z. IsHonestPosition c (suc (suc t)) (go_on draw (Talked b draws (replies ++ r ∷ [])) n z)) (sym (next_verdict nodes levels shaped draws replies r h refl more))
    (go_on_more c draw below draws (replies ++ r ∷ []) n t h.left more h.elements h.drawn))

pub step : (x : Instance) → IsShaped x.circuit.nodes (length x.circuit.order) → (draw : ℕ → ℕ) → ((n : ℕ) → draw n < modulus) → (m : ℕ) (ask : Ask) (talk : Talk) (n : ℕ)
    → IsHonestPosition x.circuit m (Awaits ask talk n) → IsHonestPosition x.circuit (suc m) (read_on x draw (Awaits ask talk n) (Some (honest_reply x talk)))
step x shaped draw below m ask Silent n h =
    subst (λ z. IsHonestPosition x.circuit (suc z) (read_on x draw (Awaits ask Silent n) (Some (honest_reply x Silent)))) (sym h) (first_step x.circuit shaped draw n)
step x shaped draw below m ask (Talked a draws replies) n h =
    subst (λ z. IsHonestPosition x.circuit (suc z) (read_on x draw (Awaits ask (Talked a draws replies) n) (Some (honest_reply x (Talked a draws replies))))) (sym h.0)
    (subst (λ z. IsHonestTalk x.circuit.nodes (length x.circuit.order) z draws replies
    → IsHonestPosition x.circuit (suc (suc (length replies))) (read_on x draw (Awaits ask (Talked z draws replies) n) (Some (honest_reply x (Talked z draws replies)))))
    (sym h.1.right) (talk_step x shaped draw below ask draws replies n) h.1)

at_end : (x : Instance) (m : ℕ) (p : Position) → IsHonestPosition x.circuit m p → GoesOnOrAccepts x (honest_answer x.circuit.nodes (length x.circuit.order)) m p
at_end x m (Awaits ask Silent n) h = omega arith
at_end x m (Awaits ask (Talked a draws replies) n) h = let left = h.1.left in omega arith
at_end x m (Ended e t) h = h

keeps : (x : Instance) → IsShaped x.circuit.nodes (length x.circuit.order) → (draw : ℕ → ℕ) → ((n : ℕ) → draw n < modulus) → (readings : List (Option Said)) (m : ℕ) (p : Position)
    → IsHonestPosition x.circuit m p → AreHonest x draw p readings → GoesOnOrAccepts x (honest_answer x.circuit.nodes (length x.circuit.order)) (m + length readings) (position_after x draw p readings)
keeps x shaped draw below [] m p h honest =
    subst (λ n. GoesOnOrAccepts x (honest_answer x.circuit.nodes (length x.circuit.order)) n p) (sym (none m)) (at_end x m p h)
  where
    none : (m : ℕ) → m + 0 ≡ m
    none m = omega arith
keeps x shaped draw below (r ∷ rs) m (Ended e t) h honest = absurd honest
keeps x shaped draw below (r ∷ rs) m (Awaits ask talk n) h honest =
    subst (λ z. GoesOnOrAccepts x (honest_answer x.circuit.nodes (length x.circuit.order)) z (position_after x draw (read_on x draw (Awaits ask talk n) r) rs)) (one m (length rs))
    (keeps x shaped draw below rs (suc m) (read_on x draw (Awaits ask talk n) r)
    (subst (λ z. IsHonestPosition x.circuit (suc m) (read_on x draw (Awaits ask talk n) z)) (sym honest.0) (step x shaped draw below m ask talk n h)) honest.1)
  where
    one : (m k : ℕ) → suc m + k ≡ m + suc k
    one m k = omega arith

pub honest_way : HonestConversationAccepts
honest_way x shaped draw below readings honest =
    subst (λ n. GoesOnOrAccepts x (honest_answer x.circuit.nodes (length x.circuit.order)) n (position_after x draw (beginning x) readings)) (zero-add (length readings))
    (keeps x shaped draw below readings 0 (beginning x) refl honest)
