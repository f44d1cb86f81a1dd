-- The laws of what asks begin with.
use Rattle.std.proofs.Common.{[], ◌++◌, length}
use Rattle.blic_messages.specs.declared.ask.Ask.TheVariants as asks
use Rattle.blic_messages.specs.Frames.{ask_spelling}
use Rattle.blic_messages.specs.Reading.{IsAsk}
use Rattle.blic_messages.specs.Fronts.{ask_grammar}
use Rattle.blic_messages.specs.FrontLaws.{SpellingsAreWhole, WholeIsSpelled, FrontStays, BrokenIsNoFrame, OneSpellingBegins, PartialBegins}
use Rattle.blic_messages.proofs.Headers.{spelling_whole, whole_spelled, front_stays, broken_no_frame, one_begins}
use Rattle.blic_messages.proofs.Beginnings.{AllPass, Passes, element_passes, free_passes, partial_begins}
use Rattle.blic_messages.proofs.AskBodies.{ask_rows, ask_sizes, ask_body, ask_body_spelled}

pub whole : SpellingsAreWhole ask_grammar IsAsk ask_spelling
whole a more ok = spelling_whole ask_grammar a (ask_spelling a) more (ask_body a ok)

pub spelled : WholeIsSpelled ask_grammar IsAsk ask_spelling
spelled = whole_spelled ask_grammar IsAsk ask_spelling ask_sizes ask_body_spelled

pub stays : FrontStays ask_grammar
stays = front_stays ask_grammar ask_sizes

pub broken : BrokenIsNoFrame ask_grammar IsAsk ask_spelling
broken = broken_no_frame ask_grammar IsAsk ask_spelling whole stays

pub one : OneSpellingBegins IsAsk ask_spelling
one = one_begins ask_grammar IsAsk ask_spelling whole

passes : Passes ask_grammar
passes = ask_rows (λ kind len ps. AllPass ps) (free_passes 38, tt) tt (element_passes, tt) tt

pub begins : PartialBegins ask_grammar
begins = partial_begins ask_grammar passes (ask_spelling asks.Go ++ [], asks.Go, length (ask_spelling asks.Go), whole asks.Go [] tt)
