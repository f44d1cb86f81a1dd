-- How a turn ends a session.
use Rattle.std.proofs.Common.{arith, ℕ, ◌≡◌, ◌<◌, ◌≤◌, refl, sym, ◌∙◌, ap, subst, List, [], ◌∷◌, ◌++◌, length, take, drop, true, false, inl, inr, append_assoc, append-nil}
use Rattle.std.specs.Prelude.{Bool, Option, Some, None, IfSome, ◌⊎◌}
use Rattle.std.proofs.lemmas.List.{length-take, length-append}
use Rattle.std.proofs.lemmas.List.Concat.{flat_map-cons}
use Rattle.std.proofs.lemmas.List.{take-append-drop}
use Rattle.blic_link.specs.Pace.{Begins}
use Rattle.blic_link.specs.Passing.{Piece, sent_bytes}
use Rattle.blic_model.specs.Circuit.{OrderedCircuit}
use Rattle.blic_messages.specs.Frames.{reply_spelling}
use Rattle.blic_messages.specs.Fronts.{ask_grammar}
use Rattle.blic_messages.specs.Grammar.{Whole, Broken, Partial, front}
use Rattle.blic_messages.specs.Replies.{Said, Refused}
use Rattle.blic_messages.specs.declared.reply.Refusal.{Refusal}
use Rattle.blic_messages.specs.declared.reply.Refusal.TheVariants as refusals
use Rattle.blic_messages.specs.declared.ask.Ask.{Ask}
use Rattle.blic_messages.specs.declared.ask.Hello.{Hello as HelloOf}
use Rattle.blic_prover.specs.Honest.{Progress, Move, move_at}
use Rattle.blic_prover.specs.Honest as moves
use Rattle.blic_server.specs.Sent.{Session, answered, refused, session_at, session_from, spelled, unless_more}
use Rattle.blic_server.specs.Serving.{IsEnding, sent_whole}
use Rattle.blic_server.specs.Streams.{Nothing, Begun, Garbled, stream, tail_of, ends_with}
use Rattle.blic_server.specs.UnderWay.{IsOver, IsRefused, IsSent}
use Rattle.blic_server.specs.declared.served.Ended.{Ended}
use Rattle.blic_server.specs.declared.served.Ended.TheVariants as endings
use Rattle.blic_server.proofs.Reading.{stream_partial, stream_garbled, stream_whole}
use Rattle.blic_server.proofs.Replying.{by_move, first_move, sent_one, sent_part}

-- the session over these bytes, from where it stands
abbrev pub session_over : OrderedCircuit → HelloOf → Progress → List ℕ → Session
session_over c h p bytes = session_from c h p (stream bytes).asks (stream bytes).tail

pub over_partial : (c : OrderedCircuit) (h : HelloOf) (p : Progress) (bytes : List ℕ) → front ask_grammar bytes ≡ Partial → session_over c h p bytes ≡ session_at (tail_of bytes)
over_partial c h p bytes e = ap (λ s. session_from c h p s.asks s.tail) (stream_partial bytes e)

pub over_garbled : (c : OrderedCircuit) (h : HelloOf) (p : Progress) (bytes : List ℕ) → front ask_grammar bytes ≡ Broken → session_over c h p bytes ≡ refused refusals.Broken endings.Broken
over_garbled c h p bytes e = ap (λ s. session_from c h p s.asks s.tail) (stream_garbled bytes e)

pub over_whole : (c : OrderedCircuit) (h : HelloOf) (p : Progress) (bytes : List ℕ) (a : Ask) (size : ℕ) (m : Move) → front ask_grammar bytes ≡ Whole a size → move_at c h p a ≡ m
    → session_over c h p bytes ≡ by_move c h p a (stream (drop size bytes)).asks (stream (drop size bytes)).tail m
over_whole c h p bytes a size m e is =
    ap (λ s. session_from c h p s.asks s.tail) (stream_whole bytes a size e) ∙ first_move c h p a (stream (drop size bytes)).asks (stream (drop size bytes)).tail m is

-- nothing is said, and more may come
open_over : (e : Ended) (coming : Option (List ℕ)) → IfSome coming (λ bytes. bytes ≡ []) → IsEnding (unless_more e) [] coming e → IsOver (unless_more e) [] coming e
open_over e coming none ending = record { begins = ([], refl); ended = ending; none = refl }

-- the link ended inside a frame, or between two
pub ends_cut : (bytes : List ℕ) (coming : Option (List ℕ)) → IfSome coming (λ more. more ≡ []) → tail_of bytes ≡ Begun → IsOver (session_at (tail_of bytes)) [] coming endings.Cut
ends_cut bytes coming none e =
    subst (λ t. IsOver (session_at t) [] coming endings.Cut) (sym e) (open_over endings.Cut coming none (refl, refl, λ f. none))

pub ends_closed : (bytes : List ℕ) (coming : Option (List ℕ)) → IfSome coming (λ more. more ≡ []) → tail_of bytes ≡ Nothing → IsOver (session_at (tail_of bytes)) [] coming endings.Closed
ends_closed bytes coming none e =
    subst (λ t. IsOver (session_at t) [] coming endings.Closed) (sym e) (open_over endings.Closed coming none (refl, refl, λ f. none))

-- or it failed
pub ends_gone : (bytes : List ℕ) (coming : Option (List ℕ)) → IsOver (session_at (tail_of bytes)) [] coming endings.Gone
ends_gone [] coming = record { begins = ([], refl); ended = inl refl; none = refl }
ends_gone (b ∷ bytes) coming = record { begins = ([], refl); ended = inl refl; none = refl }

-- Bye came
pub ends_parted : (coming : Option (List ℕ)) → IsOver (record { said = []; ended = endings.Closed; is_over = true }) [] coming endings.Closed
ends_parted coming = record { begins = ([], refl); ended = (refl, refl, λ f. absurd (true_is_not f)); none = refl }
  where
    true_is_not : true ≡ false → ⊥
    true_is_not e = cc

-- a frame of which a front was sent
short_front : (frame sent : List ℕ) (n : ℕ) → n < length frame → sent ≡ take n frame → (length sent < length frame) × Begins sent frame
short_front frame sent n less is = (omega (arith, less, ap length is, length-take n frame), (drop n frame, sym (take-append-drop n frame) ∙ ap (λ z. z ++ drop n frame) (sym is)))

-- a reply was not sent whole
pub ends_short : (s : Said) (rest : Session) (sent : List ℕ) (coming : Option (List ℕ)) (said : List Said) (ended : Ended) (over : Bool) (n : ℕ) → n < length (reply_spelling s)
    → sent ≡ take n (reply_spelling s) → IsOver (record { said = s ∷ said; ended = ended; is_over = over }) sent coming endings.Gone
ends_short s rest sent coming said ended over n less is =
    let front_of = short_front (reply_spelling s) sent n less is in
    let first : spelled (s ∷ said) ≡ reply_spelling s ++ spelled said = flat_map-cons reply_spelling s said in
    let all : spelled (s ∷ said) ≡ sent ++ (front_of.1.0 ++ spelled said) = first ∙ (ap (λ z. z ++ spelled said) front_of.1.1 ∙ append_assoc sent front_of.1.0 (spelled said)) in
    record {
      begins = (front_of.1.0 ++ spelled said, all);
      ended = inr (let long = length-append (reply_spelling s) (spelled said) in let whole = ap length first in let less' = front_of.0 in omega arith);
      none = ap answered (sent_part s said sent front_of.0);
    }

-- a refusal ends the session
pub ends_refused : (r : Refusal) (ended result : Ended) (sent : List ℕ) (coming : Option (List ℕ)) (pieces : List Piece) → ((e : Ended) → ended ≡ e → e ≡ endings.Gone → ⊥) → sent_bytes pieces ≡ sent
    → IsRefused (reply_spelling (Refused r)) pieces ended result → IsOver (refused r ended) sent coming result
ends_refused r ended result sent coming pieces other is (inl (same, went)) =
    let all : sent ≡ reply_spelling (Refused r) = sym is ∙ went in
    let whole : spelled (Refused r ∷ []) ≡ reply_spelling (Refused r) = flat_map-cons reply_spelling (Refused r) [] ∙ append-nil (reply_spelling (Refused r)) in
    subst (λ e. IsOver (refused r ended) sent coming e) (sym same)
    (subst (λ z. IsOver (refused r ended) z coming ended) (sym all)
    (record {
      begins = ([], whole ∙ sym (append-nil (reply_spelling (Refused r))));
      ended = by_ended ended refl (sym whole);
      none = ap answered (ap (sent_whole (Refused r ∷ [])) (sym (append-nil (reply_spelling (Refused r)))) ∙ sent_one (Refused r) [] []);
    }))
  where
    true_is_not : true ≡ false → ⊥
    true_is_not e = cc

    by_ended : (e : Ended) → ended ≡ e → reply_spelling (Refused r) ≡ spelled (Refused r ∷ []) → IsEnding (refused r e) (reply_spelling (Refused r)) coming e
    by_ended endings.Gone e whole = absurd (other endings.Gone e refl)
    by_ended endings.Closed e whole = (refl, whole, λ f. absurd (true_is_not f))
    by_ended endings.Broken e whole = (refl, whole, λ f. absurd (true_is_not f))
    by_ended endings.Cut e whole = (refl, whole, λ f. absurd (true_is_not f))
    by_ended endings.OutOfTurn e whole = (refl, whole, λ f. absurd (true_is_not f))
    by_ended endings.NothingLeft e whole = (refl, whole, λ f. absurd (true_is_not f))
    by_ended (endings.NotServed a b) e whole = (refl, whole, λ f. absurd (true_is_not f))
ends_refused r ended result sent coming pieces other is (inr (gone, part)) =
    subst (λ e. IsOver (refused r ended) sent coming e) (sym gone)
    (ends_short (Refused r) (refused r ended) sent coming [] ended true part.0 part.1 (sym is ∙ part.2))
