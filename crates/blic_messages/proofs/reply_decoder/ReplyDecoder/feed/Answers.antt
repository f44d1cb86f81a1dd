use Rattle.std.proofs.Common.{◌≡◌, ◌≢◌, ◌+◌, ℕ, suc, [], ◌∷◌, List, length, take, drop, get_or, refl, ap, sym, ◌∙◌, arith}
use Rattle.std.proofs.lemmas.List.{length-take-le}
use Rattle.blic_field.specs.Quadratic.{Quadratic}
use Rattle.blic_messages.specs.Replies.{Said}
use Rattle.blic_messages.specs.declared.reply_decoder.ReplyState.{ReplyState}
use Rattle.blic_messages.specs.declared.reply_decoder.ReplyState.TheVariants as states
use Rattle.blic_messages.specs.declared.feeding.Fed.TheVariants as feds
use Rattle.blic_messages.specs.Fronts.{reply_grammar}
use Rattle.blic_messages.specs.Decoding.{Decoding, Stopped}
use Rattle.blic_messages.specs.ReplyStates.{reply_decoding}
use Rattle.blic_messages.proofs.ReplyBodies.{reply_sizes}
use Rattle.blic_messages.proofs.Pieces.{TellsPiece, piece_whole, piece_broken, around}
use Rattle.blic_messages.proofs.reply_decoder.ReplyDecoder.feed.Goals as goal

not_stopped : (s : ReplyState) (kept : List ℕ) (ps : List Quadratic) (d : Decoding Said) → reply_decoding s kept ps ≡ d → (s ≡ states.Broken → ⊥) → d ≢ Stopped
not_stopped states.Open kept ps d e on stopped = cc
not_stopped (states.Whole k) kept ps d e on stopped = cc
not_stopped states.Broken kept ps d e on stopped = on refl

tells_whole : (c : goal.In-Whole) → TellsPiece reply_grammar c.args.self.now c.loop-i.self c.take.new.self (take c.loop-i.i c.args.piece.now) (get_or c.args.piece.now c.loop-i.i 0 ∷ [])
    (drop (suc c.loop-i.i) c.args.piece.now) c.args.piece.now (feds.Whole c.in-Whole.field-0)
tells_whole c = record {
  goes_on = not_stopped c.self.inside.state (take c.self.inside.len c.self.inside.held) c.self.inside.polys.items c.args.self.now c.self.view_is c.in_default.not-Broken;
  held = c.loop-i.invariant.held;
  partial = c.loop-i.invariant.partial;
  piece_is = around c.args.piece.now c.loop-i.i c.loop-i-test.true;
  answer = sym c.in-Whole.is ∙ c.take.ensures.answer;
  state = c.take.ensures.state;
}

pub returns-in-Whole-clause-answer : goal.returns-in-Whole-clause-answer
returns-in-Whole-clause-answer c =
    let before = take c.loop-i.i c.args.piece.now in
    let h = piece_whole reply_grammar reply_sizes c.args.self.now c.loop-i.self c.take.new.self before (get_or c.args.piece.now c.loop-i.i 0 ∷ [])
    (drop (suc c.loop-i.i) c.args.piece.now) c.args.piece.now c.in-Whole.field-0 (tells_whole c) in
    let some = h.2 in
    let few = h.3 in
    let long = length-take-le c.loop-i.i c.args.piece.now (omega arith) in
    ap feds.Whole (let e : c.loop-i.i + 1 ≡ length before + c.in-Whole.field-0 = omega arith in e) ∙ h.0

pub returns-in-Whole-clause-state : goal.returns-in-Whole-clause-state
returns-in-Whole-clause-state c =
    (piece_whole reply_grammar reply_sizes c.args.self.now c.loop-i.self c.take.new.self (take c.loop-i.i c.args.piece.now) (get_or c.args.piece.now c.loop-i.i 0 ∷ [])
    (drop (suc c.loop-i.i) c.args.piece.now) c.args.piece.now c.in-Whole.field-0 (tells_whole c)).1

pub returns-in-Broken-take : goal.returns-in-Broken-take
returns-in-Broken-take c =
    let t : TellsPiece reply_grammar c.args.self.now c.loop-i.self c.take.new.self (take c.loop-i.i c.args.piece.now) (get_or c.args.piece.now c.loop-i.i 0 ∷ [])
    (drop (suc c.loop-i.i) c.args.piece.now) c.args.piece.now feds.Broken = record {
      goes_on = not_stopped c.self.inside.state (take c.self.inside.len c.self.inside.held) c.self.inside.polys.items c.args.self.now c.self.view_is c.in_default.not-Broken;
      held = c.loop-i.invariant.held;
      partial = c.loop-i.invariant.partial;
      piece_is = around c.args.piece.now c.loop-i.i c.loop-i-test.true;
      answer = sym c.in-Broken-take.is ∙ c.take.ensures.answer;
      state = c.take.ensures.state;
    } in
    let h = piece_broken reply_grammar reply_sizes c.args.self.now c.loop-i.self c.take.new.self (take c.loop-i.i c.args.piece.now) (get_or c.args.piece.now c.loop-i.i 0 ∷ [])
    (drop (suc c.loop-i.i) c.args.piece.now) c.args.piece.now t in
    record { answer = h.0; state = h.1; taken = λ n e. cc }
