-- A session that is under way, from its beginning to its end.
use Rattle.std.proofs.Common.{arith, ℕ, suc, ◌≡◌, ◌+◌, ◌≤◌, refl, sym, ◌∙◌, ap, subst, List, [], ◌∷◌, ◌++◌, length, true, append_assoc}
use Rattle.std.specs.Prelude.{Option, Some, None}
use Rattle.blic_link.specs.Passing.{Piece, got, sent_bytes, with_pieces}
use Rattle.blic_link.proofs.Joined.{with_none, with_pieces-append}
use Rattle.blic_model.specs.Circuit.{OrderedCircuit}
use Rattle.blic_claims.specs.Turns.{turns}
use Rattle.blic_messages.specs.Replies.{Said}
use Rattle.blic_messages.specs.declared.ask.Ask.{Ask}
use Rattle.blic_messages.specs.declared.ask.Hello.{Hello as HelloOf}
use Rattle.blic_prover.specs.Honest.{Progress, Waiting, Replied, move_at, progress}
use Rattle.blic_prover.specs.Standing.{Proving, ServesFor}
use Rattle.blic_server.specs.Sent.{answered, sent_for}
use Rattle.blic_server.specs.Serving.{IsServed}
use Rattle.blic_server.specs.Streams.{stream}
use Rattle.blic_server.specs.UnderWay.{IsOver}
use Rattle.blic_server.specs.declared.served.Ended.{Ended}
use Rattle.blic_server.proofs.Onward.{IsAt, IsCount, answered_one, behind, counts_on, few_answered, listened, one_answered, over, progress_more}
use Rattle.blic_server.proofs.Turning.{session_over}
use Rattle.blic_server.proofs.Turns.{HasTurned}

-- so many asks were answered since this was told
pub record IsSoFar (c : OrderedCircuit) (h : HelloOf) (told told_now : Option (List Piece)) (prover : Proving) (inbox : List ℕ) (count : ℕ) : Type 0 where
  pub pieces : List Piece
  pub done : List Ask
  pub said : List Said
  pub told_is : told_now ≡ with_pieces told pieces
  pub circuit : prover.circuit ≡ c
  pub served : prover.served ≡ h
  pub stands : ServesFor prover done
  pub at : IsAt c h pieces done said inbox
  pub answers : answered said ≡ count
  pub counts : IsCount c (progress c h done) count

pub at_first : (c : OrderedCircuit) (h : HelloOf) (told : Option (List Piece)) (prover : Proving) (inbox : List ℕ) → prover.circuit ≡ c → prover.served ≡ h → ServesFor prover [] → inbox ≡ []
    → IsSoFar c h told told prover inbox 0
unfolding progress
at_first c h told prover inbox circuit served stands empty = record {
  pieces = [];
  done = [];
  said = [];
  told_is = sym (with_none told);
  circuit = circuit;
  served = served;
  stands = stands;
  at = record { replies = refl; reads = λ more. ap (λ z. stream (z ++ more)) (sym empty); sent = refl; pace = (sent_for c h [], refl) };
  answers = refl;
  counts = refl;
}

pub one_turn : (c : OrderedCircuit) (h : HelloOf) (told mid now : Option (List Piece)) (old new : Proving) (inbox rest : List ℕ) (coming : Option (List ℕ)) (count : ℕ) → IsSoFar c h told mid old inbox count
    → HasTurned mid now inbox old new rest coming None → new.circuit ≡ old.circuit → new.served ≡ old.served → IsSoFar c h told now new rest (count + 1)
one_turn c h told mid now old new inbox rest coming count so (heard, went, told_is, l, all, turn) circuit served =
    let bytes : List ℕ = inbox ++ got heard in
    let at : IsAt c h (so.pieces ++ heard) so.done so.said bytes = listened c h so.pieces heard so.done so.said inbox so.at l in
    let says : move_at c h (progress c h so.done) turn.ask ≡ Replied turn.said =
    subst (λ z. move_at z h (progress z h so.done) turn.ask ≡ Replied turn.said) so.circuit
    (subst (λ z. move_at old.circuit z (progress old.circuit z so.done) turn.ask ≡ Replied turn.said) so.served (turn.replied so.done so.stands)) in
    let next = answered_one c h (so.pieces ++ heard) went so.done so.said bytes turn.ask turn.said turn.size at all turn.whole says turn.sent in
    record {
      pieces = (so.pieces ++ heard) ++ went;
      done = so.done ++ turn.ask ∷ [];
      said = so.said ++ turn.said ∷ [];
      told_is = told_is ∙ (ap (λ z. with_pieces z (heard ++ went)) so.told_is ∙ (with_pieces-append told so.pieces (heard ++ went) ∙ ap (with_pieces told) (sym (append_assoc so.pieces heard went))));
      circuit = circuit ∙ so.circuit;
      served = served ∙ so.served;
      stands = turn.stands so.done so.stands;
      at = subst (IsAt c h ((so.pieces ++ heard) ++ went) (so.done ++ turn.ask ∷ []) (so.said ++ turn.said ∷ [])) (sym turn.left) next;
      answers = one_answered so.said turn.said count so.answers turn.answers;
      counts = subst (λ p. IsCount c p (count + 1)) (sym (progress_more c h so.done turn.ask (Replied turn.said) says)) (counts_on c h (progress c h so.done) turn.ask turn.said count so.counts says);
    }

pub last_turn : (c : OrderedCircuit) (h : HelloOf) (told mid now : Option (List Piece)) (old new : Proving) (inbox rest : List ℕ) (coming : Option (List ℕ)) (count : ℕ) (e : Ended) → IsSoFar c h told mid old inbox count
    → HasTurned mid now inbox old new rest coming (Some e) → (pieces : List Piece) × (now ≡ with_pieces told pieces) × IsServed c h pieces coming (record { asks = count; ended = e })
last_turn c h told mid now old new inbox rest coming count e so (heard, went, told_is, l, all, turn) =
    let bytes : List ℕ = inbox ++ got heard in
    let at : IsAt c h (so.pieces ++ heard) so.done so.said bytes = listened c h so.pieces heard so.done so.said inbox so.at l in
    let ends : IsOver (session_over c h (progress c h so.done) bytes) (sent_bytes went) coming e =
    subst (λ z. IsOver (session_over z h (progress z h so.done) bytes) (sent_bytes went) coming e) so.circuit
    (subst (λ z. IsOver (session_over old.circuit z (progress old.circuit z so.done) bytes) (sent_bytes went) coming e) so.served (turn so.done so.stands)) in (
      (so.pieces ++ heard) ++ went,
      told_is ∙ (ap (λ z. with_pieces z (heard ++ went)) so.told_is ∙ (with_pieces-append told so.pieces (heard ++ went) ∙ ap (with_pieces told) (sym (append_assoc so.pieces heard went)))),
      over c h (so.pieces ++ heard) went so.done so.said bytes coming count e at so.answers all ends,
    )

pub few_so_far : (c : OrderedCircuit) (h : HelloOf) (told now : Option (List Piece)) (prover : Proving) (inbox : List ℕ) (count : ℕ) → IsSoFar c h told now prover inbox count
    → count ≤ suc (length (turns c.nodes (length c.order)))
few_so_far c h told now prover inbox count so = few_answered c (progress c h so.done) count so.counts
