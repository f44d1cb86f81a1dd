-- What an honest prover answers to the asks of one session.
use Rattle.std.specs.Prelude.{ℕ, suc, Bool, true, false, cond, not, ◌==◌, ◌&&◌, List, [], ◌∷◌, ◌++◌, slice_index_or, length, fold, bytes_eq}
use Rattle.blic_model.specs.Circuit.{OrderedCircuit}
use Rattle.blic_claims.specs.Turns.{turns, no_reply, reply_by, wants_draw_after}
use Rattle.blic_claims.specs.Honest.{honest_answer, honest_replies}
use Rattle.blic_messages.specs.Replies.{Said, Answer, Polys, Values}
use Rattle.blic_messages.specs.declared.ask.Hello.{Hello as HelloOf}
use Rattle.blic_messages.specs.declared.ask.Ask.{Ask}
use Rattle.blic_messages.specs.declared.ask.Ask.TheVariants.{Hello, Go, Draw, Bye}

-- an answer to an ask: a reply, or why there is none; `NotServed` tells what is served and what was asked for
pub data Move : Type 0 where
  Replied : Said → Move
  OutOfTurn : Move
  NothingLeft : Move
  NotServed : HelloOf → HelloOf → Move
  Ended : Move

-- how far a session has come: no Hello was answered; so many replies after the answer were given, under these draws; it is over
pub data Progress : Type 0 where
  Waiting : Progress
  Running : ℕ → List ℕ → Progress
  Over : Progress

-- two Hellos that are equal in each field
abbrev pub same_hello : HelloOf → HelloOf → Bool
same_hello g h = (g.wire == h.wire) && (g.circuit == h.circuit) && (g.order == h.order) && bytes_eq g.digest h.digest

-- reply t after the answer, if the ask is the one that stands there: the honest reply under the draws (challenges)
abbrev pub reply_at : OrderedCircuit → ℕ → List ℕ → Bool → Move
reply_at c t draws stands =
    cond (t == length (turns c.nodes (length c.order))) NothingLeft
    (cond stands (Replied (reply_by Polys Values (slice_index_or (honest_replies c.nodes (length c.order) draws (suc t)) t no_reply))) OutOfTurn)

-- the answer to an ask after some progress
abbrev pub move_at : OrderedCircuit → HelloOf → Progress → Ask → Move
move_at c served Over ask = Ended
move_at c served Waiting Bye = Ended
move_at c served Waiting (Hello h) = cond (same_hello served h) (Replied (Answer (honest_answer c.nodes (length c.order)))) (NotServed served h)
move_at c served Waiting Go = OutOfTurn
move_at c served Waiting (Draw r) = OutOfTurn
move_at c served (Running t draws) Bye = Ended
move_at c served (Running t draws) (Hello h) = OutOfTurn
move_at c served (Running t draws) Go = reply_at c t draws (not (wants_draw_after (turns c.nodes (length c.order)) t))
move_at c served (Running t draws) (Draw r) = reply_at c t (draws ++ r ∷ []) (wants_draw_after (turns c.nodes (length c.order)) t)

-- the progress after an ask that was answered so; an ask that got no reply is passed over
abbrev pub progress_with : Progress → Ask → Move → Progress
progress_with p ask OutOfTurn = p
progress_with p ask NothingLeft = p
progress_with p ask (NotServed served asked) = p
progress_with p ask Ended = Over
progress_with Over ask (Replied s) = Over
progress_with Waiting ask (Replied s) = Running 0 []
progress_with (Running t draws) (Draw r) (Replied s) = Running (suc t) (draws ++ r ∷ [])
progress_with (Running t draws) (Hello h) (Replied s) = Running (suc t) draws
progress_with (Running t draws) Go (Replied s) = Running (suc t) draws
progress_with (Running t draws) Bye (Replied s) = Running (suc t) draws

-- the progress after a list of asks
unfoldable pub progress : OrderedCircuit → HelloOf → List Ask → Progress
progress c served asks = fold (λ p ask. progress_with p ask (move_at c served p ask)) Waiting asks

-- the honest answer to one more ask after a list of asks
abbrev pub honest : OrderedCircuit → HelloOf → List Ask → Ask → Move
honest c served asks ask = move_at c served (progress c served asks) ask

-- whether the answer changes the prover
abbrev pub changes : Move → Bool
changes (Replied s) = true
changes OutOfTurn = false
changes NothingLeft = false
changes (NotServed served asked) = false
changes Ended = true
