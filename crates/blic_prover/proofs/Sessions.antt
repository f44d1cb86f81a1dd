-- What a prover stands for, stage by stage, and after one more ask.
use Rattle.std.proofs.Common.{arith, ℕ, suc, ◌≡◌, ◌<◌, refl, sym, ◌∙◌, ap, subst, List, [], ◌∷◌, ◌++◌, length, get_or, Bool, true, false, cond, eqb, not}
use Rattle.std.specs.Prelude.{fold}
use Rattle.std.proofs.lemmas.Bool.{eq-eqb, ne_eqb, cond-true, cond-false}
use Rattle.blic_model.specs.Circuit.{OrderedCircuit, free}
use Rattle.blic_claims.specs.Honest.{honest_replies}
use Rattle.blic_claims.specs.Points.{PointTable, ArePointsOf, Draws}
use Rattle.blic_claims.specs.Turns.{turns, no_reply, reply_by, is_polys, wants_draw_after, polys_number}
use Rattle.blic_claims.proofs.Turns.{values_below, polys_turn}
use Rattle.blic_messages.specs.Replies.{Polys, Values}
use Rattle.blic_messages.specs.declared.ask.Hello.{Hello as HelloOf}
use Rattle.blic_messages.specs.declared.ask.Ask.{Ask}
use Rattle.blic_messages.specs.declared.ask.Ask.TheVariants.{Go, Draw, Bye}
use Rattle.blic_prover.specs.Honest.{Move, Replied, OutOfTurn, NothingLeft, Ended as NoMore, Progress, Waiting, Running, Over as Ended, reply_at, move_at, progress_with, progress}
use Rattle.blic_prover.proofs.Drawing.{draw_ready}
use Rattle.blic_prover.specs.Standing.{Proving, IsReady, IsDrawing, WantsGo, ServesAt, ServesFor}
use Rattle.blic_prover.specs.declared.stage.Stage.TheVariants.{Fresh, Going, Drawing, Over}

-- the progress at each stage
pub fresh_waits : (s : Proving) (p : Progress) → s.stage ≡ Fresh → ServesAt s s.stage p → p ≡ Waiting
fresh_waits s p e st = go p (subst (λ z. ServesAt s z p) e st)
  where
    go : (p : Progress) → ServesAt s Fresh p → p ≡ Waiting
    go Waiting h = refl
    go (Running t draws) h = absurd h
    go Ended h = absurd h

pub going_runs : (s : Proving) (p : Progress) (k : ℕ) → s.stage ≡ Going k → ServesAt s s.stage p
    → (t : ℕ) × (draws : List ℕ) × (p ≡ Running t draws) × IsReady s.circuit draws t k (length (free s.circuit.nodes (length s.circuit.order) k)) s.points × WantsGo s.circuit t
going_runs s p k e st = go p (subst (λ z. ServesAt s z p) e st)
  where
    go : (p : Progress) → ServesAt s (Going k) p → (t : ℕ) × (draws : List ℕ) × (p ≡ Running t draws) × IsReady s.circuit draws t k (length (free s.circuit.nodes (length s.circuit.order) k)) s.points × WantsGo s.circuit t
    go Waiting h = absurd h
    go (Running t draws) h = (t, draws, refl, h.0, h.1)
    go Ended h = absurd h

pub drawing_runs : (s : Proving) (p : Progress) (k i : ℕ) → s.stage ≡ Drawing k i → ServesAt s s.stage p
    → (t : ℕ) × (draws : List ℕ) × (p ≡ Running t draws) × IsDrawing s.circuit draws t k i s.points
drawing_runs s p k i e st = go p (subst (λ z. ServesAt s z p) e st)
  where
    go : (p : Progress) → ServesAt s (Drawing k i) p → (t : ℕ) × (draws : List ℕ) × (p ≡ Running t draws) × IsDrawing s.circuit draws t k i s.points
    go Waiting h = absurd h
    go (Running t draws) h = (t, draws, refl, h)
    go Ended h = absurd h

-- what an ask gets where so many replies were given
pub replied : (c : OrderedCircuit) (t : ℕ) (draws : List ℕ) (b : Bool) → t < length (turns c.nodes (length c.order)) → b ≡ true
    → reply_at c t draws b ≡ Replied (reply_by Polys Values (get_or (honest_replies c.nodes (length c.order) draws (suc t)) t no_reply))
replied c t draws b l e =
    let r = Replied (reply_by Polys Values (get_or (honest_replies c.nodes (length c.order) draws (suc t)) t no_reply)) in
    cond-false (eqb t (length (turns c.nodes (length c.order)))) NothingLeft (cond b r OutOfTurn) (ne_eqb t (length (turns c.nodes (length c.order))) (λ q. omega arith))
    ∙ cond-true b r OutOfTurn e

pub refused : (c : OrderedCircuit) (t : ℕ) (draws : List ℕ) (b : Bool) → t < length (turns c.nodes (length c.order)) → b ≡ false
    → reply_at c t draws b ≡ OutOfTurn
refused c t draws b l e =
    let r = Replied (reply_by Polys Values (get_or (honest_replies c.nodes (length c.order) draws (suc t)) t no_reply)) in
    cond-false (eqb t (length (turns c.nodes (length c.order)))) NothingLeft (cond b r OutOfTurn) (ne_eqb t (length (turns c.nodes (length c.order))) (λ q. omega arith))
    ∙ cond-false b r OutOfTurn e

pub none_left : (c : OrderedCircuit) (t : ℕ) (draws : List ℕ) (b : Bool) → t ≡ length (turns c.nodes (length c.order)) → reply_at c t draws b ≡ NothingLeft
none_left c t draws b e =
    cond-true (eqb t (length (turns c.nodes (length c.order)))) NothingLeft (cond b (Replied (reply_by Polys Values (get_or (honest_replies c.nodes (length c.order) draws (suc t)) t no_reply))) OutOfTurn)
    (eq-eqb t (length (turns c.nodes (length c.order))) e)

-- a reply stands next
pub ready_below : (c : OrderedCircuit) (draws : List ℕ) (t k i : ℕ) (points : PointTable) → IsReady c draws t k i points
    → t < length (turns c.nodes (length c.order))
ready_below c draws t k i points r =
    let e = r.reply_count in
    omega (arith, values_below c.nodes (length c.order) k r.inside r.binary)

pub drawing_below : (c : OrderedCircuit) (draws : List ℕ) (t k i : ℕ) (points : PointTable) → IsDrawing c draws t k i points
    → t < length (turns c.nodes (length c.order))
drawing_below c draws t k i points d =
    let e = d.reply_count in
    let l = d.left in
    omega (arith, values_below c.nodes (length c.order) k d.inside d.binary)

-- a draw stands after polynomials
pub drawing_wants : (c : OrderedCircuit) (draws : List ℕ) (t k i : ℕ) (points : PointTable) → IsDrawing c draws t k i points
    → wants_draw_after (turns c.nodes (length c.order)) t ≡ true
drawing_wants c draws t k i points d =
    let e : t ≡ suc (polys_number c.nodes (length c.order) k i) = (let q = d.reply_count in omega arith) in
    ap (wants_draw_after (turns c.nodes (length c.order))) e ∙ ap is_polys (polys_turn c.nodes (length c.order) k i d.inside d.binary d.left)

-- the progress after no ask, and after one more
pub fresh_stands : (s : Proving) → s.stage ≡ Fresh → ServesFor s []
unfolding progress
fresh_stands s e = subst (λ z. ServesAt s z Waiting) (sym e) tt

pub progress_push : (c : OrderedCircuit) (served : HelloOf) (asks : List Ask) (a : Ask)
    → progress c served (asks ++ a ∷ []) ≡ progress_with (progress c served asks) a (move_at c served (progress c served asks) a)
unfolding progress
progress_push c served asks a = from Waiting asks
  where
    next : Progress → Ask → Progress
    next p ask = progress_with p ask (move_at c served p ask)

    from : (p : Progress) (asks : List Ask) → fold next p (asks ++ a ∷ []) ≡ next (fold next p asks) a
    from p [] = refl
    from p (b ∷ bs) = from (next p b) bs

pub stands_after : (s n : Proving) (asks : List Ask) (a : Ask) (m : Move) → n.circuit ≡ s.circuit → n.served ≡ s.served
    → m ≡ move_at s.circuit s.served (progress s.circuit s.served asks) a
    → ServesAt n n.stage (progress_with (progress s.circuit s.served asks) a m) → ServesFor n (asks ++ a ∷ [])
stands_after s n asks a m ec es em st =
    let p = progress s.circuit s.served asks in
    let after : progress n.circuit n.served (asks ++ a ∷ []) ≡ progress_with p a m =
    ap (λ z. progress z n.served (asks ++ a ∷ [])) ec ∙ (ap (λ z. progress s.circuit z (asks ++ a ∷ [])) es ∙ (progress_push s.circuit s.served asks a ∙ sym (ap (progress_with p a) em))) in
    subst (ServesAt n n.stage) (sym after) st

-- the node's first reply stands next
pub going_said : (s : Proving) (p : Progress) (k : ℕ) (m : Move) → s.stage ≡ Going k → ServesAt s s.stage p
    → ((draws : List ℕ) (t : ℕ) → IsReady s.circuit draws t k (length (free s.circuit.nodes (length s.circuit.order) k)) s.points
    → m ≡ Replied (reply_by Polys Values (get_or (honest_replies s.circuit.nodes (length s.circuit.order) draws (suc t)) t no_reply)))
    → m ≡ move_at s.circuit s.served p Go
going_said s p k m e st h =
    let u = going_runs s p k e st in
    let t = u.0 in
    let draws = u.1 in
    h draws t u.3
    ∙ (sym (replied s.circuit t draws (not (wants_draw_after (turns s.circuit.nodes (length s.circuit.order)) t)) (ready_below s.circuit draws t k (length (free s.circuit.nodes (length s.circuit.order) k)) s.points u.3) (ap not u.4))
    ∙ ap (λ z. move_at s.circuit s.served z Go) (sym u.2))

pub going_stands : (s n : Proving) (p : Progress) (k : ℕ) (m : Move) → s.stage ≡ Going k → ServesAt s s.stage p
    → ((draws : List ℕ) (t : ℕ) → IsReady s.circuit draws t k (length (free s.circuit.nodes (length s.circuit.order) k)) s.points
    → m ≡ Replied (reply_by Polys Values (get_or (honest_replies s.circuit.nodes (length s.circuit.order) draws (suc t)) t no_reply)))
    → ((draws : List ℕ) (t : ℕ) → IsReady s.circuit draws t k (length (free s.circuit.nodes (length s.circuit.order) k)) s.points → ServesAt n n.stage (Running (suc t) draws))
    → ServesAt n n.stage (progress_with p Go m)
going_stands s n p k m e st h g =
    let u = going_runs s p k e st in
    let t = u.0 in
    let draws = u.1 in
    subst (λ z. ServesAt n n.stage (progress_with p Go z)) (sym (h draws t u.3))
    (subst (λ z. ServesAt n n.stage (progress_with z Go (Replied (reply_by Polys Values (get_or (honest_replies s.circuit.nodes (length s.circuit.order) draws (suc t)) t no_reply))))) (sym u.2) (g draws t u.3))

-- no Go stands there
pub drawing_refuses : (s : Proving) (p : Progress) (k i : ℕ) → s.stage ≡ Drawing k i → ServesAt s s.stage p → OutOfTurn ≡ move_at s.circuit s.served p Go
drawing_refuses s p k i e st =
    let u = drawing_runs s p k i e st in
    let t = u.0 in
    let draws = u.1 in
    sym (ap (λ z. move_at s.circuit s.served z Go) u.2
    ∙ refused s.circuit t draws (not (wants_draw_after (turns s.circuit.nodes (length s.circuit.order)) t)) (drawing_below s.circuit draws t k i s.points u.3) (ap not (drawing_wants s.circuit draws t k i s.points u.3)))

pub fresh_refuses : (s : Proving) (p : Progress) → s.stage ≡ Fresh → ServesAt s s.stage p → OutOfTurn ≡ move_at s.circuit s.served p Go
fresh_refuses s p e st = sym (ap (λ z. move_at s.circuit s.served z Go) (fresh_waits s p e st))

-- no draw stands there
pub going_refuses : (s : Proving) (p : Progress) (k r : ℕ) → s.stage ≡ Going k → ServesAt s s.stage p → OutOfTurn ≡ move_at s.circuit s.served p (Draw r)
going_refuses s p k r e st =
    let u = going_runs s p k e st in
    let t = u.0 in
    let draws = u.1 in
    sym (ap (λ z. move_at s.circuit s.served z (Draw r)) u.2
    ∙ refused s.circuit t (draws ++ r ∷ []) (wants_draw_after (turns s.circuit.nodes (length s.circuit.order)) t) (ready_below s.circuit draws t k (length (free s.circuit.nodes (length s.circuit.order) k)) s.points u.3) u.4)

pub fresh_refuses_draw : (s : Proving) (p : Progress) (r : ℕ) → s.stage ≡ Fresh → ServesAt s s.stage p → OutOfTurn ≡ move_at s.circuit s.served p (Draw r)
fresh_refuses_draw s p r e st = sym (ap (λ z. move_at s.circuit s.served z (Draw r)) (fresh_waits s p e st))

-- the draw stands next: the points with it drawn are ready
pub drawn_said : (s : Proving) (p : Progress) (k i r : ℕ) (q : PointTable) (m : Move) → s.stage ≡ Drawing k i → ServesAt s s.stage p
    → ArePointsOf s.points s.circuit → Draws s.points k i r q
    → ((draws : List ℕ) (t : ℕ) → IsReady s.circuit draws t k i q
    → m ≡ Replied (reply_by Polys Values (get_or (honest_replies s.circuit.nodes (length s.circuit.order) draws (suc t)) t no_reply)))
    → m ≡ move_at s.circuit s.served p (Draw r)
drawn_said s p k i r q m e st ep hd h =
    let u = drawing_runs s p k i e st in
    let t = u.0 in
    let draws = u.1 in
    h (draws ++ r ∷ []) t (draw_ready s.circuit draws t k i r s.points q ep hd u.3)
    ∙ (sym (replied s.circuit t (draws ++ r ∷ []) (wants_draw_after (turns s.circuit.nodes (length s.circuit.order)) t) (drawing_below s.circuit draws t k i s.points u.3) (drawing_wants s.circuit draws t k i s.points u.3))
    ∙ ap (λ z. move_at s.circuit s.served z (Draw r)) (sym u.2))

pub drawn_stands : (s n : Proving) (p : Progress) (k i r : ℕ) (q : PointTable) (m : Move) → s.stage ≡ Drawing k i → ServesAt s s.stage p
    → ArePointsOf s.points s.circuit → Draws s.points k i r q
    → ((draws : List ℕ) (t : ℕ) → IsReady s.circuit draws t k i q
    → m ≡ Replied (reply_by Polys Values (get_or (honest_replies s.circuit.nodes (length s.circuit.order) draws (suc t)) t no_reply)))
    → ((draws : List ℕ) (t : ℕ) → IsReady s.circuit draws t k i q → ServesAt n n.stage (Running (suc t) draws))
    → ServesAt n n.stage (progress_with p (Draw r) m)
drawn_stands s n p k i r q m e st ep hd h g =
    let u = drawing_runs s p k i e st in
    let t = u.0 in
    let draws = u.1 in
    let ready = draw_ready s.circuit draws t k i r s.points q ep hd u.3 in
    subst (λ z. ServesAt n n.stage (progress_with p (Draw r) z)) (sym (h (draws ++ r ∷ []) t ready))
    (subst (λ z. ServesAt n n.stage (progress_with z (Draw r) (Replied (reply_by Polys Values (get_or (honest_replies s.circuit.nodes (length s.circuit.order) (draws ++ r ∷ []) (suc t)) t no_reply))))) (sym u.2) (g (draws ++ r ∷ []) t ready))

-- after Bye a session is over
pub bye_ended : (c : OrderedCircuit) (served : HelloOf) (p : Progress) → NoMore ≡ move_at c served p Bye
bye_ended c served Waiting = refl
bye_ended c served (Running t draws) = refl
bye_ended c served Ended = refl

pub bye_stands : (n : Proving) (p : Progress) → n.stage ≡ Over → ServesAt n n.stage (progress_with p Bye NoMore)
bye_stands n p e = subst (λ z. ServesAt n z (progress_with p Bye NoMore)) (sym e) (go p)
  where
    go : (p : Progress) → ServesAt n Over (progress_with p Bye NoMore)
    go Waiting = tt
    go (Running t draws) = tt
    go Ended = tt
