use Rattle.std.proofs.Common.{◌≡◌, ◌≢◌, ◌+◌, ℕ, suc, [], ◌∷◌, List, length, take, drop, get_or, refl, ap, sym, ◌∙◌, arith}
use Rattle.std.proofs.lemmas.List.{length-take-le}
use Rattle.blic_messages.specs.declared.ask.Ask.{Ask}
use Rattle.blic_messages.specs.declared.ask_decoder.AskState.{AskState}
use Rattle.blic_messages.specs.declared.ask_decoder.AskState.TheVariants as states
use Rattle.blic_messages.specs.declared.feeding.Fed.TheVariants as feds
use Rattle.blic_messages.specs.Fronts.{ask_grammar}
use Rattle.blic_messages.specs.Decoding.{Decoding, Stopped}
use Rattle.blic_messages.specs.AskStates.{ask_decoding}
use Rattle.blic_messages.proofs.AskBodies.{ask_sizes}
use Rattle.blic_messages.proofs.Pieces.{TellsPiece, piece_whole, piece_broken, around}
use Rattle.blic_messages.proofs.ask_decoder.AskDecoder.feed.Goals as goal

not_stopped : (s : AskState) (held : List ℕ) (d : Decoding Ask) → ask_decoding s held ≡ d → (s ≡ states.Broken → ⊥) → d ≢ Stopped
not_stopped states.Open held d e on stopped = cc
not_stopped (states.Whole ask) held d e on stopped = cc
not_stopped states.Broken held d e on stopped = on refl

tells_whole : (c : goal.In-Whole) → TellsPiece ask_grammar c.args.self.now c.loop-i.self c.take.new.self (take c.loop-i.i c.args.piece.now) (get_or c.args.piece.now c.loop-i.i 0 ∷ [])
    (drop (suc c.loop-i.i) c.args.piece.now) c.args.piece.now (feds.Whole c.in-Whole.field-0)
tells_whole c = record {
  goes_on = not_stopped c.self.inside.state (take c.self.inside.len c.self.inside.held) c.args.self.now c.self.view_is c.in_default.not-Broken;
  held = c.loop-i.invariant.held;
  partial = c.loop-i.invariant.partial;
  piece_is = around c.args.piece.now c.loop-i.i c.loop-i-test.true;
  answer = sym c.in-Whole.is ∙ c.take.ensures.answer;
  state = c.take.ensures.state;
}

pub returns-in-Whole-clause-answer : goal.returns-in-Whole-clause-answer
returns-in-Whole-clause-answer c =
    let before = take c.loop-i.i c.args.piece.now in
    let h = piece_whole ask_grammar ask_sizes c.args.self.now c.loop-i.self c.take.new.self before (get_or c.args.piece.now c.loop-i.i 0 ∷ [])
    (drop (suc c.loop-i.i) c.args.piece.now) c.args.piece.now c.in-Whole.field-0 (tells_whole c) in
    let some = h.2 in
    let few = h.3 in
    let long = length-take-le c.loop-i.i c.args.piece.now (omega arith) in
    ap feds.Whole (let e : c.loop-i.i + 1 ≡ length before + c.in-Whole.field-0 = omega arith in e) ∙ h.0

pub returns-in-Whole-clause-state : goal.returns-in-Whole-clause-state
returns-in-Whole-clause-state c =
    (piece_whole ask_grammar ask_sizes c.args.self.now c.loop-i.self c.take.new.self (take c.loop-i.i c.args.piece.now) (get_or c.args.piece.now c.loop-i.i 0 ∷ [])
    (drop (suc c.loop-i.i) c.args.piece.now) c.args.piece.now c.in-Whole.field-0 (tells_whole c)).1

pub returns-in-Broken-take : goal.returns-in-Broken-take
returns-in-Broken-take c =
    let t : TellsPiece ask_grammar c.args.self.now c.loop-i.self c.take.new.self (take c.loop-i.i c.args.piece.now) (get_or c.args.piece.now c.loop-i.i 0 ∷ [])
    (drop (suc c.loop-i.i) c.args.piece.now) c.args.piece.now feds.Broken = record {
      goes_on = not_stopped c.self.inside.state (take c.self.inside.len c.self.inside.held) c.args.self.now c.self.view_is c.in_default.not-Broken;
      held = c.loop-i.invariant.held;
      partial = c.loop-i.invariant.partial;
      piece_is = around c.args.piece.now c.loop-i.i c.loop-i-test.true;
      answer = sym c.in-Broken-take.is ∙ c.take.ensures.answer;
      state = c.take.ensures.state;
    } in
    let h = piece_broken ask_grammar ask_sizes c.args.self.now c.loop-i.self c.take.new.self (take c.loop-i.i c.args.piece.now) (get_or c.args.piece.now c.loop-i.i 0 ∷ [])
    (drop (suc c.loop-i.i) c.args.piece.now) c.args.piece.now t in
    record { answer = h.0; state = h.1; taken = λ n e. cc }
