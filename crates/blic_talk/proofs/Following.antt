-- How a conversation goes on after a reply.
use Rattle.std.proofs.Common.{ℕ, suc, ◌≡◌, ◌<◌, refl, sym, ◌∙◌, ap, subst, List, [], ◌∷◌, ◌++◌, length, true}
use Rattle.std.specs.Prelude.{bytes_eq, not}
use Rattle.std.proofs.lemmas.Bool.{eq-eqb, cond-true}
use Rattle.std.proofs.lemmas.Slice.Eq.{bytes_eq-Decides}
use Rattle.blic_field.specs.Field.{modulus}
use Rattle.blic_model.specs.Circuit.{OrderedCircuit}
use Rattle.blic_claims.specs.Turns.{turns, wants_draw_after}
use Rattle.blic_messages.specs.Replies.{Said}
use Rattle.blic_messages.specs.declared.ask.Hello.{Hello as HelloOf}
use Rattle.blic_messages.specs.declared.ask.Ask.{Ask}
use Rattle.blic_messages.specs.declared.ask.Ask.TheVariants.{Hello, Go, Draw, Bye}
use Rattle.blic_prover.specs.Honest.{Progress, Waiting, Running, Replied, honest, move_at, progress, progress_with, same_hello}
use Rattle.blic_prover.proofs.Sessions.{progress_push, replied}
use Rattle.blic_verifier.specs.Verdict.{Verdict, Talk, Silent, Talked, next_after, with_reply, with_draw}
use Rattle.blic_verifier.specs.Conversation.{Instance, Awaits, go_on, honest_reply}
use Rattle.blic_verifier.specs.Verdict as verdicts
use Rattle.blic_verifier.proofs.GoingOn.{Came, came, draw_wants, draws_in, go_wants, goes_on}
use Rattle.blic_verifier.proofs.GoingOn.{after_go as open_after_go, after_draw as open_after_draw}
use Rattle.blic_talk.specs.Talking.{StandsNext}
use Rattle.blic_verifier.specs.Asking.{IsOpen, replies_in}

-- ---- the honest move

abbrev pub about : OrderedCircuit → HelloOf → Instance
about c h = record { circuit = c; hello = h }

same_bytes : (xs : List ℕ) → bytes_eq xs xs ≡ true
same_bytes xs = (bytes_eq-Decides xs xs).1 refl

same_self : (h : HelloOf) → same_hello h h ≡ true
same_self h = rw (eq-eqb h.wire h.wire refl, eq-eqb h.circuit h.circuit refl, eq-eqb h.order h.order refl, same_bytes h.digest) refl

hello_is_served : (h g : HelloOf) → g ≡ h → same_hello h g ≡ true
hello_is_served h g e = subst (λ z. same_hello h z ≡ true) (sym e) (same_self h)

-- the prover's move is the honest reply to the talk
pub honest_move : (c : OrderedCircuit) (h : HelloOf) (asks : List Ask) (ask : Ask) (t : Talk) (n : ℕ) → StandsNext c h asks ask t → IsOpen c t n
    → honest c h asks ask ≡ Replied (honest_reply (about c h) t)
honest_move c h asks (Hello g) Silent n stands is_open =
    ap (λ p. move_at c h p (Hello g)) stands.1 ∙ cond-true (same_hello h g) _ _ (hello_is_served h g stands.0)
honest_move c h asks (Hello g) (Talked b draws replies) n stands is_open = absurd stands
honest_move c h asks Go Silent n stands is_open = absurd stands
honest_move c h asks Go (Talked b draws replies) n stands is_open =
    ap (λ p. move_at c h p Go) stands.0
    ∙ replied c (length replies) draws (not (wants_draw_after (turns c.nodes (length c.order)) (length replies))) is_open.0 (ap not stands.1)
honest_move c h asks (Draw r) Silent n stands is_open = absurd stands
honest_move c h asks (Draw r) (Talked b draws replies) n (before, is, come, wants) is_open =
    ap (λ p. move_at c h p (Draw r)) come
    ∙ (replied c (length replies) (before ++ r ∷ []) (wants_draw_after (turns c.nodes (length c.order)) (length replies)) is_open.0 wants
    ∙ ap (λ ds. Replied (honest_reply (about c h) (Talked b ds replies))) (sym is))
honest_move c h asks Bye t n stands is_open = absurd stands

-- ---- what stands after a reply

-- the progress after one more ask that was answered
progress_replied : (c : OrderedCircuit) (h : HelloOf) (asks : List Ask) (ask : Ask) (t : Talk) (n : ℕ) (p : Progress) → StandsNext c h asks ask t → IsOpen c t n
    → progress c h asks ≡ p → progress c h (asks ++ ask ∷ []) ≡ progress_with p ask (Replied (honest_reply (about c h) t))
progress_replied c h asks ask t n p stands is_open is =
    progress_push c h asks ask
    ∙ (ap (progress_with (progress c h asks) ask) (honest_move c h asks ask t n stands is_open) ∙ ap (λ q. progress_with q ask (Replied (honest_reply (about c h) t))) is)

-- as many replies as came, under the draws so far
pub runs_on : (c : OrderedCircuit) (h : HelloOf) (asks : List Ask) (ask : Ask) (t : Talk) (n : ℕ) → StandsNext c h asks ask t → IsOpen c t n
    → progress c h (asks ++ ask ∷ []) ≡ Running (replies_in t) (draws_in t)
runs_on c h asks (Hello g) Silent n stands is_open = progress_replied c h asks (Hello g) Silent n Waiting stands is_open stands.1
runs_on c h asks (Hello g) (Talked b draws replies) n stands is_open = absurd stands
runs_on c h asks Go Silent n stands is_open = absurd stands
runs_on c h asks Go (Talked b draws replies) n stands is_open = progress_replied c h asks Go (Talked b draws replies) n (Running (length replies) draws) stands is_open stands.0
runs_on c h asks (Draw r) Silent n stands is_open = absurd stands
runs_on c h asks (Draw r) (Talked b draws replies) n (before, is, come, wants) is_open =
    progress_replied c h asks (Draw r) (Talked b draws replies) n (Running (length replies) before) (before, is, come, wants) is_open come
    ∙ ap (Running (suc (length replies))) (sym is)
runs_on c h asks Bye t n stands is_open = absurd stands

-- what stands next, where it goes on with that ask
abbrev pub StandsAfter : OrderedCircuit → HelloOf → List Ask → Ask → Talk → ℕ → ℕ → Type 0
StandsAfter c h asks ask t n came = StandsNext c h asks ask t × IsOpen c t n × (replies_in t ≡ suc came)

after_go : (c : OrderedCircuit) (h : HelloOf) (asks : List Ask) (ask : Ask) (t u : Talk) (n : ℕ) → StandsNext c h asks ask t → IsOpen c t n → Came c t u verdicts.Go
    → StandsAfter c h (asks ++ ask ∷ []) Go u n (replies_in t)
after_go c h asks ask t u n stands is_open (b, replies, is, long, left, next) = (
  subst (λ z. StandsNext c h (asks ++ ask ∷ []) Go z) (sym is)
      (runs_on c h asks ask t n stands is_open ∙ ap (λ m. Running m (draws_in t)) (sym long), go_wants c (length replies) next),
  open_after_go c t u n is_open (b, replies, is, long, left, next),
  ap replies_in is ∙ ap suc long,
)

after_draw : (c : OrderedCircuit) (h : HelloOf) (asks : List Ask) (ask : Ask) (t u : Talk) (n r : ℕ) → r < modulus → StandsNext c h asks ask t → IsOpen c t n → Came c t u verdicts.Draw
    → StandsAfter c h (asks ++ ask ∷ []) (Draw r) (with_draw u r) (suc n) (replies_in t)
after_draw c h asks ask t u n r element stands is_open (b, replies, is, long, left, next) = (
  subst (λ z. StandsNext c h (asks ++ ask ∷ []) (Draw r) (with_draw z r)) (sym is)
      (draws_in t, refl, runs_on c h asks ask t n stands is_open ∙ ap (λ m. Running m (draws_in t)) (sym long), draw_wants c (length replies) next),
  open_after_draw c t u n r element is_open (b, replies, is, long, left, next),
  ap (λ z. replies_in (with_draw z r)) is ∙ ap suc long,
)

-- from one position to the next
pub next_stands : (c : OrderedCircuit) (h : HelloOf) (draw : ℕ → ℕ) → ((n : ℕ) → draw n < modulus) → (asks : List Ask) (ask asked : Ask) (t u : Talk) (s : Said) (n m : ℕ)
    → StandsNext c h asks ask t → IsOpen c t n → go_on draw (with_reply t s) n (next_after c.nodes (length c.order) t s) ≡ Awaits asked u m
    → StandsAfter c h (asks ++ ask ∷ []) asked u m (replies_in t)
next_stands c h draw elements asks ask asked t u s n m stands is_open e = from (next_after c.nodes (length c.order) t s) refl e
  where
    from : (y : Verdict) → next_after c.nodes (length c.order) t s ≡ y → go_on draw (with_reply t s) n y ≡ Awaits asked u m
        → StandsAfter c h (asks ++ ask ∷ []) asked u m (replies_in t)
    from verdicts.Draw is e =
        let came_so = came c t s (ap goes_on is) in
        let after = after_draw c h asks ask t (with_reply t s) n (draw n) (elements n) stands is_open (subst (Came c t (with_reply t s)) is came_so) in
        let ask_is : Draw (draw n) ≡ asked = cc in
        let talk_is : with_draw (with_reply t s) (draw n) ≡ u = cc in
        let count_is : suc n ≡ m = cc in
        subst (λ z. StandsAfter c h (asks ++ ask ∷ []) z u m (replies_in t)) ask_is
        (subst (λ z. StandsAfter c h (asks ++ ask ∷ []) (Draw (draw n)) z m (replies_in t)) talk_is
        (subst (λ z. StandsAfter c h (asks ++ ask ∷ []) (Draw (draw n)) (with_draw (with_reply t s) (draw n)) z (replies_in t)) count_is after))
    from verdicts.Go is e =
        let came_so = came c t s (ap goes_on is) in
        let after = after_go c h asks ask t (with_reply t s) n stands is_open (subst (Came c t (with_reply t s)) is came_so) in
        let ask_is : Go ≡ asked = cc in
        let talk_is : with_reply t s ≡ u = cc in
        let count_is : n ≡ m = cc in
        subst (λ z. StandsAfter c h (asks ++ ask ∷ []) z u m (replies_in t)) ask_is
        (subst (λ z. StandsAfter c h (asks ++ ask ∷ []) Go z m (replies_in t)) talk_is
        (subst (λ z. StandsAfter c h (asks ++ ask ∷ []) Go (with_reply t s) z (replies_in t)) count_is after))
    from (verdicts.Done b) is e = absurd (cc e)
    from (verdicts.Rejected place) is e = absurd (cc e)
    from (verdicts.WrongKind turn) is e = absurd (cc e)
    from (verdicts.WrongCount turn want got) is e = absurd (cc e)
