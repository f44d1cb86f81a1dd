use Rattle.std.proofs.Common.{ap, ◌∙◌, map, string_bytes}
use Rattle.clap.specs.Words.{app_of}
use Rattle.blic_words.specs.Commands.{certify}
use Rattle.blic_words.specs.Requests.{certify_asked}
use Rattle.blic_words.proofs.Parsing.{asked_is, texts_now}
use Rattle.blic_words.proofs.words.certify.Goals as goal

pub returns-in_default : goal.returns-in_default
returns-in_default c =
    asked_is certify certify_asked (app_of c.in_ok-command.command) (map string_bytes c.args.words.now) _ _ c.in_ok-command.ensures c.in_ok-texts.ensures c.in_default.is

pub returns : goal.returns
returns c =
    c.certify_request.ensures
    ∙ ap (λ t. certify_asked (texts_now t) c.in-Some.options) c.deref.ensures.value
    ∙ asked_is certify certify_asked (app_of c.in_ok-command.command) (map string_bytes c.args.words.now) _ _ c.in_ok-command.ensures c.in_ok-texts.ensures c.in-Some.is
