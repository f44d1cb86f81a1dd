-- What an asker heard of a frame, and the machines afterwards.
use Rattle.std.proofs.Common.{arith, ℕ, ◌≡◌, ◌+◌, ◌*◌, ◌≤◌, sym, ◌∙◌, ap, subst, List, ◌++◌, length, take, drop, Bor}
use Rattle.std.proofs.lemmas.List.{length-append, length-drop, length-take}
use Rattle.std.specs.Prelude.{Option, Some, None, option_copied, option_map}
use Rattle.blic_model.specs.Circuit.{OrderedCircuit}
use Rattle.blic_claims.specs.Places.{HasMostClaims}
use Rattle.blic_claims.specs.Turns.{turns}
use Rattle.blic_messages.specs.Replies.{Said, said}
use Rattle.blic_messages.specs.declared.reply.Reply.{Reply}
use Rattle.blic_verifier.specs.Asking.{Asking, IsAt, IsSaidAt}
use Rattle.blic_verifier.specs.Conversation.{Position}
use Rattle.blic_verifier.specs.declared.asker.Following.{Following}
use Rattle.blic_talk.specs.Talking.{AreFitted, HasFrameRoom, position_by}
use Rattle.blic_talk.specs.declared.machines.Machines.{Machines}

-- how an asker moves when it hears this
abbrev pub IsMoved : Asking → Asking → Following → Position → Option Said → Type 0
IsMoved a b result p says = IsAt b (position_by a p says) × IsSaidAt result (position_by a p says)

-- a lent reply says what the reply says
pub copied_says : (lent : Option (Bor Reply)) (o : Option Reply) → option_copied lent ≡ o → option_map (λ r. said r.now) lent ≡ option_map said o
copied_says None o is = ap (option_map said) is
copied_says (Some r) o is = ap (option_map said) is

-- polynomials put at the front of a buffer leave its length
pub kept_length : {X : Type 0} (n : ℕ) (new items : List X) → n ≡ length items → length new ≡ length items → length (take n (new ++ drop (length new) items)) ≡ length items
kept_length n new items all same =
    let joined : length (new ++ drop (length new) items) ≡ length items = length-append new (drop (length new) items) ∙ (ap (λ m. length new + m) (length-drop (length new) items) ∙ omega (arith, same)) in
    length-take n (new ++ drop (length new) items) ∙ omega (arith, all, joined)

-- there is the same room for an equal circuit
pub room_for : (c d : OrderedCircuit) (bytes polys : ℕ) → c ≡ d → HasFrameRoom c bytes polys → HasFrameRoom d bytes polys
room_for c d bytes polys same room = subst (λ z. HasFrameRoom z bytes polys) same room

-- machines that are about the same still fit
pub fitted_after : (x y : Machines) → y.circuit.now ≡ x.circuit.now → y.prover ≡ x.prover → y.turns ≡ x.turns → length y.frame.items ≡ length x.frame.items
    → y.asker.about ≡ x.asker.about → length y.polys.items ≡ length x.polys.items → AreFitted x → AreFitted y
fitted_after x y circuit prover counted frame about polys fitted =
    let same = sym (ap (λ z. z.circuit) about) in
    record {
      circuit = circuit ∙ (fitted.circuit ∙ same);
      proves = ap (λ z. z.circuit) prover ∙ (fitted.proves ∙ same);
      serves = ap (λ z. z.served) prover ∙ (fitted.serves ∙ sym (ap (λ z. z.hello) about));
      most = fitted.most;
      room = room_for _ _ _ _ same (subst (λ n. HasFrameRoom x.asker.about.circuit n fitted.most) (sym frame) fitted.room);
      polys = subst (λ n. 65536 ≤ n) (sym polys) fitted.polys;
      turns = counted ∙ (fitted.turns ∙ ap (λ z. length (turns z.nodes (length z.order))) same);
    }

-- new machines fit
pub fitted_new : (x : Machines) (most : ℕ) → x.asker.about.circuit ≡ x.circuit.now → x.prover.circuit ≡ x.circuit.now → x.prover.served ≡ x.asker.about.hello
    → HasMostClaims x.circuit.now most → length x.frame.items ≡ 43 + 24 * most → 65536 ≤ length x.polys.items
    → x.turns ≡ length (turns x.circuit.now.nodes (length x.circuit.now.order)) → AreFitted x
fitted_new x most about proves serves claims long polys counted =
    let same = sym about in
    record {
      circuit = same;
      proves = proves ∙ same;
      serves = serves;
      most = most;
      room = room_for _ _ _ _ same (record { most = claims; long = long });
      polys = polys;
      turns = counted ∙ ap (λ z. length (turns z.nodes (length z.order))) same;
    }
