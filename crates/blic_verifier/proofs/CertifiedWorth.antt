-- A conversation that leads to acceptance: its talk is accepted, and shows what the answer is worth.
use Rattle.std.proofs.Common.{arith, ℕ, zero, suc, ◌≡◌, ◌+◌, ◌<◌, ◌≤◌, refl, sym, ◌∙◌, ap, subst, ◌⊎◌, inl, inr, List, [], ◌∷◌, ◌++◌, length, get_or, take, Bool, true, false, cond}
use Rattle.std.specs.Prelude.{IfSome, Option, Some, None, filter, flat_map, reverse, sum_by}
use Rattle.std.specs.List.{AllZip}
use Rattle.std.proofs.lemmas.Bool.{cases_eq, cases_Bool, eq-eqb, ne_eqb, cond-true, cond-false}
use Rattle.std.proofs.lemmas.List.{length_push, length-append, take_all}
use Rattle.std.proofs.lemmas.List.Elements.{All-head, All-tail, filter-append}
use mathlib.Core.Path.{fun_ext}
use Rattle.blic_field.specs.Field.{modulus}
use Rattle.blic_model.specs.declared.node.Node.{Node}
use Rattle.blic_model.specs.Circuit.{OrderedCircuit, below}
use Rattle.blic_model.specs.Counts.{claims, draws as draw_count}
use Rattle.blic_messages.specs.Replies.{Said, Answer, Polys, Values, Refused}
use Rattle.blic_messages.specs.Reading.{IsReply}
use Rattle.blic_claims.specs.Turns.{Turn, ForPolys, ForValues, Reply, Fits, AllFit, turns, node_turns, transcript, is_polys, wants_draw_after}
use Rattle.blic_claims.specs.Turns.{Polys as PolysReply, Values as ValuesReply}
use Rattle.blic_claims.proofs.Rows.{sum_more}
use Rattle.blic_claims.proofs.Turns.{reverse_below}
use Rattle.blic_verifier.specs.Acceptance.{Check}
use Rattle.blic_verifier.specs.Certified.{AreReplies, CertifiedIsWorth}
use Rattle.blic_verifier.specs.SoundnessLaws.{ReplyHasElements, AreElements, TalkHasElements}
use Rattle.blic_verifier.specs.Verdict.{Verdict, Draw, Go, Done, Rejected, WrongKind, WrongCount, Talk, Silent, Talked, fault_upto, judged, judged_at, verdict, next_after, with_reply, with_draw, place_of, told_count, IsAcceptedAs}
use Rattle.blic_verifier.specs.Conversation.{Instance, Position, Awaits, Ended, go_on, read_on, position_after, beginning}
use Rattle.blic_verifier.specs.declared.ending.Ending.TheVariants.{Certified, ServerRefused, NotFrame}
use Rattle.blic_verifier.specs.declared.ending.Ending.TheVariants.{Rejected as RejectedEnd, WrongKind as WrongKindEnd, WrongCount as WrongCountEnd}
use Rattle.blic_verifier.specs.declared.place.Place.{Place}
use Rattle.blic_verifier.proofs.Accepting.{passes_from}
use Rattle.blic_verifier.proofs.FaultKept.{draws_before, draws_of_node}
use Rattle.blic_verifier.proofs.Fitting.{fits_more}
use Rattle.blic_verifier.proofs.Judging.{what_stands, judged_fine, judged_fault}
use Rattle.blic_verifier.proofs.TalkElements.{no_elements, draw_more, reply_more}
use Rattle.blic_verifier.proofs.TurnPlaces.{more_turns}
use Rattle.blic_verifier.proofs.Worth.{worth}

-- ---- counts of draws

-- one turn more
pub draws_exact : (ts : List Turn) (t : ℕ) → t < length ts
    → length (filter is_polys (take (suc t) ts)) ≡ length (filter is_polys (take t ts)) + cond (is_polys (get_or ts t (ForValues 0))) 1 0
draws_exact [] t l = absurd (omega arith)
draws_exact (u ∷ ts) zero l = go (is_polys u)
  where
    go : (b : Bool) → length (cond b (u ∷ []) []) ≡ 0 + cond b 1 0
    go true = omega arith
    go false = omega arith
draws_exact (u ∷ ts) (suc t) l = go (is_polys u) (draws_exact ts t (omega arith))
  where
    go : (b : Bool) → length (filter is_polys (take (suc t) ts)) ≡ length (filter is_polys (take t ts)) + cond (is_polys (get_or ts t (ForValues 0))) 1 0
        → length (cond b (u ∷ filter is_polys (take (suc t) ts)) (filter is_polys (take (suc t) ts)))
        ≡ length (cond b (u ∷ filter is_polys (take t ts)) (filter is_polys (take t ts))) + cond (is_polys (get_or ts t (ForValues 0))) 1 0
    go true h = omega arith
    go false h = h

count_all : (f : ℕ → List Turn) (n : ℕ) → length (filter is_polys (flat_map f (reverse (below n)))) ≡ sum_by (λ j. length (filter is_polys (f j))) (below n)
unfolding below
count_all f zero = refl
count_all f (suc n) =
    ap (λ z. length (filter is_polys (flat_map f z))) (reverse_below n)
    ∙ (ap length (filter-append is_polys (f n) (flat_map f (reverse (below n))))
    ∙ (length-append (filter is_polys (f n)) (filter is_polys (flat_map f (reverse (below n))))
    ∙ omega (arith, count_all f n, sum_more (λ j. length (filter is_polys (f j))) n)))

-- all draws come before the end of all turns
pub all_drawn : (nodes : List Node) (levels : ℕ) → draws_before nodes levels (length (turns nodes levels)) ≡ draw_count nodes levels
unfolding turns draw_count
all_drawn nodes levels =
    ap (λ ts. length (filter is_polys ts)) (take_all (length (turns nodes levels)) (turns nodes levels) (omega arith))
    ∙ (count_all (node_turns nodes levels) (length nodes)
    ∙ ap (λ f. sum_by f (below (length nodes))) (fun_ext (draws_of_node nodes levels)))

-- ---- talks on the way

-- the replies fit their turns and are of elements, as are the draws, of which so many are still to be made; a turn is left
pub record IsFit (c : OrderedCircuit) (more : ℕ) (draws : List ℕ) (replies : List Reply) : Type 0 where
  pub fitting : AllFit c.nodes (length c.order) replies
  pub left : length replies < length (turns c.nodes (length c.order))
  pub drawn : length draws + more ≡ draws_before c.nodes (length c.order) (length replies)
  pub elements : AreElements draws replies

abbrev pub IsFitTalk : OrderedCircuit → ℕ → Talk → Type 0
IsFitTalk c more Silent = Unit {0}
IsFitTalk c more (Talked answer draws replies) = IsFit c more draws replies

-- what holds of a talk to which a reply was added, by what is said of it
abbrev Holds : OrderedCircuit → Talk → Verdict → Type 0
Holds c t Draw = IsFitTalk c 1 t
Holds c t Go = IsFitTalk c 0 t
Holds c t (Done b) = IsAcceptedAs c b t × TalkHasElements t
Holds c t (Rejected place) = Unit {0}
Holds c t (WrongKind turn) = Unit {0}
Holds c t (WrongCount turn want got) = Unit {0}

judged_cases : (c : OrderedCircuit) (answer : Bool) (draws : List ℕ) (replies : List Reply)
    → ((fault_upto c.nodes (length c.order) (transcript c.nodes (length c.order) answer draws replies) (suc (length replies)) ≡ None)
    × (judged c.nodes (length c.order) answer draws replies ≡ what_stands c.nodes (length c.order) answer (length replies)))
    ⊎ ((place : Place) × (judged c.nodes (length c.order) answer draws replies ≡ Rejected place))
judged_cases c answer draws replies = go (fault_upto c.nodes (length c.order) (transcript c.nodes (length c.order) answer draws replies) (suc (length replies))) refl
  where
    go : (o : Option Check) → fault_upto c.nodes (length c.order) (transcript c.nodes (length c.order) answer draws replies) (suc (length replies)) ≡ o
        → ((fault_upto c.nodes (length c.order) (transcript c.nodes (length c.order) answer draws replies) (suc (length replies)) ≡ None)
        × (judged c.nodes (length c.order) answer draws replies ≡ what_stands c.nodes (length c.order) answer (length replies)))
        ⊎ ((place : Place) × (judged c.nodes (length c.order) answer draws replies ≡ Rejected place))
    go None e = inl (e, judged_fine c.nodes (length c.order) answer draws replies e)
    go (Some check) e = inr (place_of check, judged_fault c.nodes (length c.order) answer draws replies check e)

-- the last turn is for values
last_is_values : (nodes : List Node) (levels t : ℕ) → suc t ≡ length (turns nodes levels) → is_polys (get_or (turns nodes levels) t (ForValues 0)) ≡ false
last_is_values nodes levels t e = elim (cases_Bool (is_polys (get_or (turns nodes levels) t (ForValues 0)))) [
  | inl p ↦ (let l = more_turns nodes levels t (omega arith) p in absurd (omega arith))
  | inr p ↦ p
]

-- replies that fit, without a fault, with all draws before the last of them
settle : (c : OrderedCircuit) (answer : Bool) (draws : List ℕ) (replies : List Reply) (t : ℕ) → length replies ≡ suc t → suc t ≤ length (turns c.nodes (length c.order))
    → AllFit c.nodes (length c.order) replies → length draws ≡ draws_before c.nodes (length c.order) t → AreElements draws replies
    → fault_upto c.nodes (length c.order) (transcript c.nodes (length c.order) answer draws replies) (suc (length replies)) ≡ None
    → Holds c (Talked answer draws replies) (what_stands c.nodes (length c.order) answer (length replies))
settle c answer draws replies t n l fits drawn elements sound = elim (cases_eq (length replies) (length (turns c.nodes (length c.order)))) [
  | inl e ↦ subst there (sym (cond-true _ _ _ (eq-eqb (length replies) (length (turns c.nodes (length c.order))) e))) (
    (refl, passes_from c.nodes (length c.order) answer draws replies (all e) (whole e) sound),
    elements,
  )
  | inr ne ↦ subst there (sym (cond-false _ _ _ (ne_eqb (length replies) (length (turns c.nodes (length c.order))) ne))) (elim (cases_Bool (is_polys (get_or (turns c.nodes (length c.order)) t (ForValues 0)))) [
    | inl b ↦ subst there (sym (cond-true _ Draw Go (wants b))) (record {
      fitting = fits;
      left = omega arith;
      drawn = (let s = step b in omega arith);
      elements = elements;
    })
    | inr b ↦ subst there (sym (cond-false _ Draw Go (wants b))) (record {
      fitting = fits;
      left = omega arith;
      drawn = (let s = step b in omega arith);
      elements = elements;
    })
  ])
]
  where
    there : Verdict → Type 0
    there next = Holds c (Talked answer draws replies) next

    step : {b : Bool} → is_polys (get_or (turns c.nodes (length c.order)) t (ForValues 0)) ≡ b
        → draws_before c.nodes (length c.order) (length replies) ≡ draws_before c.nodes (length c.order) t + cond b 1 0
    step p = ap (draws_before c.nodes (length c.order)) n ∙ (draws_exact (turns c.nodes (length c.order)) t (omega arith)
        ∙ ap (λ z. draws_before c.nodes (length c.order) t + cond z 1 0) p)

    wants : {b : Bool} → is_polys (get_or (turns c.nodes (length c.order)) t (ForValues 0)) ≡ b
        → wants_draw_after (turns c.nodes (length c.order)) (length replies) ≡ b
    wants p = ap (wants_draw_after (turns c.nodes (length c.order))) n ∙ p

    all : length replies ≡ length (turns c.nodes (length c.order)) → length draws ≡ draw_count c.nodes (length c.order)
    all e =
        let s = step (last_is_values c.nodes (length c.order) t (sym n ∙ e)) in
        let m = ap (draws_before c.nodes (length c.order)) e in
        omega (arith, all_drawn c.nodes (length c.order))

    whole : length replies ≡ length (turns c.nodes (length c.order)) → AllZip (Fits c.nodes) (turns c.nodes (length c.order)) replies
    whole e = subst (λ z. AllZip (Fits c.nodes) z replies)
        (ap (λ z. take z (turns c.nodes (length c.order))) e ∙ take_all (length (turns c.nodes (length c.order))) (turns c.nodes (length c.order)) (omega arith)) fits

judged_holds : (c : OrderedCircuit) (answer : Bool) (draws : List ℕ) (replies : List Reply) (t : ℕ) → length replies ≡ suc t → suc t ≤ length (turns c.nodes (length c.order))
    → AllFit c.nodes (length c.order) replies → length draws ≡ draws_before c.nodes (length c.order) t → AreElements draws replies
    → Holds c (Talked answer draws replies) (judged c.nodes (length c.order) answer draws replies)
judged_holds c answer draws replies t n l fits drawn elements = elim (judged_cases c answer draws replies) [
  | inl s ↦ subst (Holds c (Talked answer draws replies)) (sym s.1) (settle c answer draws replies t n l fits drawn elements s.0)
  | inr s ↦ subst (Holds c (Talked answer draws replies)) (sym s.1) tt
]

-- after the answer alone
answer_holds : (c : OrderedCircuit) (answer : Bool) → Holds c (Talked answer [] []) (judged c.nodes (length c.order) answer [] [])
answer_holds c answer = elim (judged_cases c answer [] []) [
  | inl s ↦ subst (Holds c (Talked answer [] [])) (sym s.1) (elim (cases_eq 0 (length (turns c.nodes (length c.order)))) [
    | inl e ↦ subst there (sym (cond-true _ _ _ (eq-eqb 0 (length (turns c.nodes (length c.order))) e))) (
      (
        refl,
        passes_from c.nodes (length c.order) answer [] [] (all e) (subst (λ z. AllZip (Fits c.nodes) z []) (none (turns c.nodes (length c.order)) e) tt) s.0,
      ),
      no_elements,
    )
    | inr ne ↦ subst there (sym (cond-false _ _ _ (ne_eqb 0 (length (turns c.nodes (length c.order))) ne))) (record {
      fitting = tt;
      left = omega arith;
      drawn = omega arith;
      elements = no_elements;
    })
  ])
  | inr s ↦ subst (Holds c (Talked answer [] [])) (sym s.1) tt
]
  where
    there : Verdict → Type 0
    there next = Holds c (Talked answer [] []) next

    none : (ts : List Turn) → 0 ≡ length ts → [] ≡ ts
    none [] e = refl
    none (t ∷ ts) e = absurd (omega arith)

    all : 0 ≡ length (turns c.nodes (length c.order)) → 0 ≡ draw_count c.nodes (length c.order)
    all e =
        let m = ap (draws_before c.nodes (length c.order)) e in
        omega (arith, all_drawn c.nodes (length c.order))

-- a reply at its turn
at_turn : (c : OrderedCircuit) (t : Talk) (n : ℕ) (u : Turn) (r : Reply) (next : Verdict) → (Fits c.nodes u r → Holds c t next) → Holds c t (judged_at c.nodes n u r next)
at_turn c t n (ForPolys k i) (PolysReply ps) next h = elim (cases_eq (length ps) (claims c.nodes k)) [
  | inl e ↦ subst (Holds c t) (sym (cond-true _ next _ (eq-eqb (length ps) (claims c.nodes k) e))) (h e)
  | inr ne ↦ subst (Holds c t) (sym (cond-false _ next (WrongCount n (claims c.nodes k) (told_count (length ps))) (ne_eqb (length ps) (claims c.nodes k) ne))) tt
]
at_turn c t n (ForPolys k i) (ValuesReply u w) next h = tt
at_turn c t n (ForValues k) (PolysReply ps) next h = tt
at_turn c t n (ForValues k) (ValuesReply u w) next h = h tt

verdict_holds : (c : OrderedCircuit) (answer : Bool) (draws : List ℕ) (replies : List Reply) (r : Reply) → IsFit c 0 draws replies → ReplyHasElements r
    → Holds c (Talked answer draws (replies ++ r ∷ [])) (verdict c.nodes (length c.order) answer draws replies r)
unfolding verdict
verdict_holds c answer draws replies r fit e =
    let left = fit.left in
    let drawn = fit.drawn in
    at_turn c (Talked answer draws (replies ++ r ∷ [])) (suc (length replies)) (get_or (turns c.nodes (length c.order)) (length replies) (ForValues 0)) r _ (λ fits.
    judged_holds c answer draws (replies ++ r ∷ []) (length replies) (omega (arith, length_push replies r)) (omega arith)
    (fits_more c.nodes (length c.order) replies (get_or (turns c.nodes (length c.order)) (length replies) (ForValues 0)) r fit.fitting fit.left refl fits)
    (omega arith)
    (fit.elements.0, reply_more replies r e fit.elements.1))

said_holds : (c : OrderedCircuit) (t : Talk) (s : Said) → IsFitTalk c 0 t → IsReply s → Holds c (with_reply t s) (next_after c.nodes (length c.order) t s)
said_holds c Silent (Answer b) fit e = answer_holds c b
said_holds c Silent (Polys ps) fit e = tt
said_holds c Silent (Values u w) fit e = tt
said_holds c Silent (Refused r) fit e = tt
said_holds c (Talked answer draws replies) (Answer b) fit e = tt
said_holds c (Talked answer draws replies) (Polys ps) fit e = verdict_holds c answer draws replies (PolysReply ps) fit e.2
said_holds c (Talked answer draws replies) (Values u w) fit e = verdict_holds c answer draws replies (ValuesReply u w) fit e
said_holds c (Talked answer draws replies) (Refused r) fit e = tt

drawn_fits : (c : OrderedCircuit) (t : Talk) (r : ℕ) → r < modulus → IsFitTalk c 1 t → IsFitTalk c 0 (with_draw t r)
drawn_fits c Silent r l fit = tt
drawn_fits c (Talked answer draws replies) r l fit =
    let drawn = fit.drawn in
    record {
      fitting = fit.fitting;
      left = fit.left;
      drawn = omega (arith, length_push draws r);
      elements = (draw_more draws r l fit.elements.0, fit.elements.1);
    }

-- ---- the way to acceptance

-- what holds of a position on the way
abbrev Stands : OrderedCircuit → Position → Type 0
Stands c (Awaits ask t n) = IsFitTalk c 0 t
Stands c (Ended (Certified b) t) = IsAcceptedAs c b t × TalkHasElements t
Stands c (Ended (RejectedEnd place) t) = Unit {0}
Stands c (Ended (WrongKindEnd turn) t) = Unit {0}
Stands c (Ended (WrongCountEnd turn want got) t) = Unit {0}
Stands c (Ended (ServerRefused r) t) = Unit {0}
Stands c (Ended NotFrame t) = Unit {0}

onward : (c : OrderedCircuit) (draw : ℕ → ℕ) → ((n : ℕ) → draw n < modulus) → (t : Talk) (n : ℕ) (next : Verdict) → Holds c t next → Stands c (go_on draw t n next)
onward c draw below t n Draw holds = drawn_fits c t (draw n) (below n) holds
onward c draw below t n Go holds = holds
onward c draw below t n (Done b) holds = holds
onward c draw below t n (Rejected place) holds = tt
onward c draw below t n (WrongKind turn) holds = tt
onward c draw below t n (WrongCount turn want got) holds = tt

step : (x : Instance) (draw : ℕ → ℕ) → ((n : ℕ) → draw n < modulus) → (p : Position) (r : Option Said) → IfSome r IsReply → Stands x.circuit p → Stands x.circuit (read_on x draw p r)
step x draw below (Ended e t) r is stands = stands
step x draw below (Awaits ask t n) None is stands = tt
step x draw below (Awaits ask t n) (Some (Refused r)) is stands = tt
step x draw below (Awaits ask t n) (Some (Answer b)) is stands = onward x.circuit draw below _ n _ (said_holds x.circuit t (Answer b) stands is)
step x draw below (Awaits ask t n) (Some (Polys ps)) is stands = onward x.circuit draw below _ n _ (said_holds x.circuit t (Polys ps) stands is)
step x draw below (Awaits ask t n) (Some (Values u w)) is stands = onward x.circuit draw below _ n _ (said_holds x.circuit t (Values u w) stands is)

all_stand : (x : Instance) (draw : ℕ → ℕ) → ((n : ℕ) → draw n < modulus) → (readings : List (Option Said)) (p : Position) → AreReplies readings → Stands x.circuit p
    → Stands x.circuit (position_after x draw p readings)
all_stand x draw below [] p all stands = stands
all_stand x draw below (r ∷ rs) p all stands =
    all_stand x draw below rs (read_on x draw p r) (All-tail (λ s. IfSome s IsReply) r rs all) (step x draw below p r (All-head (λ s. IfSome s IsReply) r rs all) stands)

-- a conversation that ends with an accepted answer, whoever sent the replies: what was said is accepted, and where the answer is wrong it shows a bad draw
pub certified_is_worth : CertifiedIsWorth
certified_is_worth x shaped draw below readings all b talk e =
    let stands = subst (Stands x.circuit) e (all_stand x draw below readings (beginning x) all tt) in
    (stands.0, worth x.circuit shaped b talk stands.0 stands.1)
