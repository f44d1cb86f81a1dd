-- The laws of what replies begin with.
use Rattle.std.proofs.Common.{◌*◌, [], ◌∷◌, ◌++◌, length, true, refl}
use Rattle.blic_messages.specs.Replies.{Answer}
use Rattle.blic_messages.specs.Frames.{reply_spelling}
use Rattle.blic_messages.specs.Reading.{IsReply}
use Rattle.blic_messages.specs.Fronts.{reply_grammar}
use Rattle.blic_messages.specs.FrontLaws.{SpellingsAreWhole, WholeIsSpelled, FrontStays, BrokenIsNoFrame, OneSpellingBegins, PartialBegins}
use Rattle.blic_messages.proofs.Headers.{spelling_whole, whole_spelled, front_stays, broken_no_frame, one_begins}
use Rattle.blic_messages.proofs.Beginnings.{AllPass, Passes, element_passes, elements_pass, free_passes, partial_begins}
use Rattle.blic_messages.proofs.ReplyBodies.{reply_rows, reply_sizes, reply_body, reply_body_spelled}

pub whole : SpellingsAreWhole reply_grammar IsReply reply_spelling
whole s more ok = spelling_whole reply_grammar s (reply_spelling s) more (reply_body s ok)

pub spelled : WholeIsSpelled reply_grammar IsReply reply_spelling
spelled = whole_spelled reply_grammar IsReply reply_spelling reply_sizes reply_body_spelled

pub stays : FrontStays reply_grammar
stays = front_stays reply_grammar reply_sizes

pub broken : BrokenIsNoFrame reply_grammar IsReply reply_spelling
broken = broken_no_frame reply_grammar IsReply reply_spelling whole stays

pub one : OneSpellingBegins IsReply reply_spelling
one = one_begins reply_grammar IsReply reply_spelling whole

passes : Passes reply_grammar
passes =
    reply_rows (λ kind len ps. AllPass ps) ((0 ∷ [], refl, refl), tt) (λ n some few. elements_pass (3 * n)) (element_passes, (element_passes, tt))
    ((1 ∷ [], refl, refl), tt) ((3 ∷ [], refl, refl), (free_passes 38, tt))

pub begins : PartialBegins reply_grammar
begins = partial_begins reply_grammar passes (reply_spelling (Answer true) ++ [], Answer true, length (reply_spelling (Answer true)), whole (Answer true) [] tt)
