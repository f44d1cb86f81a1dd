-- Private: what the fields of a decoder of asks say.
use Rattle.std.specs.Prelude.{ℕ, List}
use Rattle.blic_messages.specs.declared.ask.Ask.{Ask}
use Rattle.blic_messages.specs.declared.ask_decoder.AskFront.{AskFront}
use Rattle.blic_messages.specs.declared.ask_decoder.AskFront.TheVariants as fronts
use Rattle.blic_messages.specs.declared.ask_decoder.AskState.{AskState}
use Rattle.blic_messages.specs.declared.ask_decoder.AskState.TheVariants as states
use Rattle.blic_messages.specs.Grammar.{Front, Whole, Broken, Partial}
use Rattle.blic_messages.specs.Decoding.{Decoding, Inside, At, Stopped}

abbrev pub front_shown : AskFront → Front Ask
front_shown (fronts.Whole ask n) = Whole ask n
front_shown fronts.Broken = Broken
front_shown fronts.Partial = Partial

abbrev pub ask_decoding : AskState → List ℕ → Decoding Ask
ask_decoding states.Open held = Inside held
ask_decoding (states.Whole ask) held = At ask
ask_decoding states.Broken held = Stopped
