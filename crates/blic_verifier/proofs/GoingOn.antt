-- How a conversation goes on after a reply.
use Rattle.std.proofs.Common.{arith, ℕ, suc, ◌≡◌, ◌<◌, ◌≤◌, refl, sym, ◌∙◌, ap, subst, inl, inr, List, [], ◌∷◌, ◌++◌, length, get_or, Bool, true, false, cond, eqb}
use Rattle.std.specs.Prelude.{All, Option, Some, None}
use Rattle.std.proofs.lemmas.Bool.{cases_Bool, eq-eqb, cond-true, cond-false}
use Rattle.std.proofs.lemmas.List.{length_push}
use Rattle.std.proofs.lemmas.List.Elements.{All-nil}
use Rattle.blic_field.specs.Field.{modulus}
use Rattle.blic_model.specs.declared.node.Node.{Node}
use Rattle.blic_model.specs.Counts.{claims}
use Rattle.blic_model.specs.Circuit.{OrderedCircuit}
use Rattle.blic_claims.specs.Turns.{Turn, ForPolys, ForValues, Reply, turns, transcript, wants_draw_after}
use Rattle.blic_claims.specs.Turns.{Polys as PolysReply, Values as ValuesReply}
use Rattle.blic_messages.specs.Replies.{Said, Answer, Polys, Values, Refused}
use Rattle.blic_messages.specs.declared.ask.Ask.{Ask}
use Rattle.blic_verifier.specs.Verdict.{Verdict, Talk, Silent, Talked, fault_upto, place_of, told_count, judged, judged_at, verdict, next_after, with_reply, with_draw}
use Rattle.blic_verifier.specs.Acceptance.{Check}
use Rattle.blic_verifier.specs.Asking.{IsOpen, replies_in}
use Rattle.blic_verifier.specs.Conversation.{Instance, Awaits, go_on, read_on}
use Rattle.blic_verifier.specs.Verdict as verdicts
use Rattle.blic_verifier.proofs.TalkElements.{draw_more}

-- whether the conversation goes on
abbrev pub goes_on : Verdict → Bool
goes_on verdicts.Draw = true
goes_on verdicts.Go = true
goes_on _ = false

-- what is said by whether a condition fails, all replies are there, and a draw stands next
abbrev said_next : Option Check → Bool → Bool → Bool → Verdict
said_next fault done b wants = elim fault [ Some f ↦ verdicts.Rejected (place_of f) | None ↦ cond done (verdicts.Done b) (cond wants verdicts.Draw verdicts.Go) ]

-- where a draw stands next, or none
abbrev pub IsNextDraw : Verdict → OrderedCircuit → ℕ → Type 0
IsNextDraw y c t = y ≡ cond (wants_draw_after (turns c.nodes (length c.order)) t) verdicts.Draw verdicts.Go

-- where it goes on, a reply is left, and a draw stands next or not
abbrev Stands : OrderedCircuit → ℕ → Verdict → Type 0
Stands c t y = (t ≡ length (turns c.nodes (length c.order)) → ⊥) × IsNextDraw y c t

open_next : (fault : Option Check) (done b wants : Bool) → goes_on (said_next fault done b wants) ≡ true
    → (done ≡ false) × (said_next fault done b wants ≡ cond wants verdicts.Draw verdicts.Go)
open_next (Some f) done b wants e = absurd (cc e)
open_next None true b wants e = absurd (cc e)
open_next None false b wants e = (refl, refl)

judged_stands : (c : OrderedCircuit) (b : Bool) (draws : List ℕ) (replies : List Reply) → goes_on (judged c.nodes (length c.order) b draws replies) ≡ true
    → Stands c (length replies) (judged c.nodes (length c.order) b draws replies)
judged_stands c b draws replies e =
    let p = open_next (fault_upto c.nodes (length c.order) (transcript c.nodes (length c.order) b draws replies) (suc (length replies)))
    (eqb (length replies) (length (turns c.nodes (length c.order)))) b (wants_draw_after (turns c.nodes (length c.order)) (length replies)) e in
    (λ same. let done = eq-eqb (length replies) _ same in absurd (cc (sym done ∙ p.0)), p.1)

-- a reply that doesn't fit its turn ends it
in_turn : (nodes : List Node) (t : ℕ) (turn : Turn) (r : Reply) (x : Verdict) → goes_on (judged_at nodes t turn r x) ≡ true → judged_at nodes t turn r x ≡ x
in_turn nodes t (ForPolys k i) (PolysReply ps) x e = elim (cases_Bool (eqb (length ps) (claims nodes k))) [
  | inl right ↦ cond-true _ _ _ right
  | inr wrong ↦ let f : goes_on (verdicts.WrongCount t (claims nodes k) (told_count (length ps))) ≡ true = ap goes_on (sym (cond-false _ _ _ wrong)) ∙ e in absurd (cc f)
]
in_turn nodes t (ForPolys k i) (ValuesReply u w) x e = absurd (cc e)
in_turn nodes t (ForValues k) (PolysReply ps) x e = absurd (cc e)
in_turn nodes t (ForValues k) (ValuesReply u w) x e = refl

verdict_stands : (c : OrderedCircuit) (b : Bool) (draws : List ℕ) (replies : List Reply) (r : Reply) → goes_on (verdict c.nodes (length c.order) b draws replies r) ≡ true
    → Stands c (suc (length replies)) (verdict c.nodes (length c.order) b draws replies r)
unfolding verdict
verdict_stands c b draws replies r e =
    let same = in_turn c.nodes (suc (length replies)) (get_or (turns c.nodes (length c.order)) (length replies) (ForValues 0)) r
    (judged c.nodes (length c.order) b draws (replies ++ r ∷ [])) e in
    let stands = judged_stands c b draws (replies ++ r ∷ []) (ap goes_on (sym same) ∙ e) in
    let long : length (replies ++ r ∷ []) ≡ suc (length replies) = length_push replies r ∙ omega arith in
    (λ all. stands.0 (long ∙ all), same ∙ (stands.1 ∙ ap (λ t. cond (wants_draw_after (turns c.nodes (length c.order)) t) verdicts.Draw verdicts.Go) long))

-- the draws of a talk
abbrev pub draws_in : Talk → List ℕ
draws_in Silent = []
draws_in (Talked b draws replies) = draws

-- a talk with a reply more, after which the conversation goes on
abbrev pub Came : OrderedCircuit → Talk → Talk → Verdict → Type 0
Came c t u y =
    (b : Bool) × (replies : List Reply) × (u ≡ Talked b (draws_in t) replies) × (length replies ≡ replies_in t)
    × (length replies ≡ length (turns c.nodes (length c.order)) → ⊥) × IsNextDraw y c (length replies)

talked_came : (c : OrderedCircuit) (b : Bool) (draws : List ℕ) (replies : List Reply) (r : Reply) → goes_on (verdict c.nodes (length c.order) b draws replies r) ≡ true
    → Came c (Talked b draws replies) (Talked b draws (replies ++ r ∷ [])) (verdict c.nodes (length c.order) b draws replies r)
talked_came c b draws replies r e =
    let long : length (replies ++ r ∷ []) ≡ suc (length replies) = length_push replies r ∙ omega arith in
    let stands = subst (λ t. Stands c t (verdict c.nodes (length c.order) b draws replies r)) (sym long) (verdict_stands c b draws replies r e) in
    (b, replies ++ r ∷ [], refl, long, stands.0, stands.1)

pub came : (c : OrderedCircuit) (t : Talk) (s : Said) → goes_on (next_after c.nodes (length c.order) t s) ≡ true → Came c t (with_reply t s) (next_after c.nodes (length c.order) t s)
came c Silent (Answer b) e = let stands = judged_stands c b [] [] e in (b, [], refl, refl, stands.0, stands.1)
came c Silent (Polys ps) e = absurd (cc e)
came c Silent (Values u w) e = absurd (cc e)
came c Silent (Refused r) e = absurd (cc e)
came c (Talked b draws replies) (Answer a) e = absurd (cc e)
came c (Talked b draws replies) (Polys ps) e = talked_came c b draws replies (PolysReply ps) e
came c (Talked b draws replies) (Values u w) e = talked_came c b draws replies (ValuesReply u w) e
came c (Talked b draws replies) (Refused r) e = absurd (cc e)

-- of what was is_open: at most as many draws as replies, all of them elements
pub few_draws : (c : OrderedCircuit) (t : Talk) (n : ℕ) → IsOpen c t n
    → All (λ r. r < modulus) (draws_in t) × (length (draws_in t) ≡ n) × (n ≤ replies_in t) × (replies_in t ≤ length (turns c.nodes (length c.order)))
few_draws c Silent n is_open = (All-nil (λ r. r < modulus), sym is_open, omega (arith, is_open), omega arith)
few_draws c (Talked b draws replies) n is_open = (is_open.1, is_open.2, omega (arith, is_open.3), omega (arith, is_open.0))

pub draw_wants : (c : OrderedCircuit) (t : ℕ) → IsNextDraw verdicts.Draw c t → wants_draw_after (turns c.nodes (length c.order)) t ≡ true
draw_wants c t e = elim (cases_Bool (wants_draw_after (turns c.nodes (length c.order)) t)) [
  | inl wants ↦ wants
  | inr none ↦ let f : verdicts.Draw ≡ verdicts.Go = e ∙ cond-false _ _ _ none in absurd (cc f)
]

pub go_wants : (c : OrderedCircuit) (t : ℕ) → IsNextDraw verdicts.Go c t → wants_draw_after (turns c.nodes (length c.order)) t ≡ false
go_wants c t e = elim (cases_Bool (wants_draw_after (turns c.nodes (length c.order)) t)) [
  | inl wants ↦ let f : verdicts.Go ≡ verdicts.Draw = e ∙ cond-true _ _ _ wants in absurd (cc f)
  | inr none ↦ none
]

-- a draw comes after a reply of polynomials, and not after the answer
pub draw_room : (c : OrderedCircuit) (t : Talk) (n : ℕ) → IsOpen c t n → wants_draw_after (turns c.nodes (length c.order)) (replies_in t) ≡ true → suc n ≤ replies_in t
draw_room c Silent n is_open wants = absurd (cc wants)
draw_room c (Talked b draws replies) n is_open wants = omega (arith, is_open.3)

-- ---- a reply is left where it goes on

pub after_go : (c : OrderedCircuit) (t u : Talk) (n : ℕ) → IsOpen c t n → Came c t u verdicts.Go → IsOpen c u n
after_go c t u n is_open (b, replies, is, long, left, next) =
    let few = few_draws c t n is_open in
    subst (λ z. IsOpen c z n) (sym is) (omega (arith, long, few.3, left), few.0, few.1, omega (arith, long, few.2))

pub after_draw : (c : OrderedCircuit) (t u : Talk) (n r : ℕ) → r < modulus → IsOpen c t n → Came c t u verdicts.Draw → IsOpen c (with_draw u r) (suc n)
after_draw c t u n r element is_open (b, replies, is, long, left, next) =
    let few = few_draws c t n is_open in
    let wants = draw_wants c (length replies) next in
    let room = draw_room c t n is_open (ap (wants_draw_after (turns c.nodes (length c.order))) (sym long) ∙ wants) in
    subst (λ z. IsOpen c (with_draw z r) (suc n)) (sym is) (
      omega (arith, long, few.3, left),
      draw_more (draws_in t) r element few.0,
      length_push (draws_in t) r ∙ omega (arith, few.1),
      omega (arith, long, room),
    )

next_open : (c : OrderedCircuit) (draw : ℕ → ℕ) → ((n : ℕ) → draw n < modulus) → (asked : Ask) (t u : Talk) (s : Said) (n m : ℕ)
    → IsOpen c t n → go_on draw (with_reply t s) n (next_after c.nodes (length c.order) t s) ≡ Awaits asked u m → IsOpen c u m
next_open c draw elements asked t u s n m is_open e = from (next_after c.nodes (length c.order) t s) refl e
  where
    from : (y : Verdict) → next_after c.nodes (length c.order) t s ≡ y → go_on draw (with_reply t s) n y ≡ Awaits asked u m → IsOpen c u m
    from verdicts.Draw is e =
        let after = after_draw c t (with_reply t s) n (draw n) (elements n) is_open (subst (Came c t (with_reply t s)) is (came c t s (ap goes_on is))) in
        let talk_is : with_draw (with_reply t s) (draw n) ≡ u = cc in
        let count_is : suc n ≡ m = cc in
        subst (λ z. IsOpen c z m) talk_is (subst (λ z. IsOpen c (with_draw (with_reply t s) (draw n)) z) count_is after)
    from verdicts.Go is e =
        let after = after_go c t (with_reply t s) n is_open (subst (Came c t (with_reply t s)) is (came c t s (ap goes_on is))) in
        let talk_is : with_reply t s ≡ u = cc in
        let count_is : n ≡ m = cc in
        subst (λ z. IsOpen c z m) talk_is (subst (λ z. IsOpen c (with_reply t s) z) count_is after)
    from (verdicts.Done b) is e = absurd (cc e)
    from (verdicts.Rejected place) is e = absurd (cc e)
    from (verdicts.WrongKind turn) is e = absurd (cc e)
    from (verdicts.WrongCount turn want got) is e = absurd (cc e)

pub read_open : (x : Instance) (draw : ℕ → ℕ) → ((n : ℕ) → draw n < modulus) → (ask asked : Ask) (t u : Talk) (says : Option Said) (n m : ℕ)
    → IsOpen x.circuit t n → read_on x draw (Awaits ask t n) says ≡ Awaits asked u m → IsOpen x.circuit u m
read_open x draw elements ask asked t u None n m is_open e = absurd (cc e)
read_open x draw elements ask asked t u (Some (Refused r)) n m is_open e = absurd (cc e)
read_open x draw elements ask asked t u (Some (Answer b)) n m is_open e = next_open x.circuit draw elements asked t u (Answer b) n m is_open e
read_open x draw elements ask asked t u (Some (Polys ps)) n m is_open e = next_open x.circuit draw elements asked t u (Polys ps) n m is_open e
read_open x draw elements ask asked t u (Some (Values v w)) n m is_open e = next_open x.circuit draw elements asked t u (Values v w) n m is_open e
