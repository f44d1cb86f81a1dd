use Rattle.std.proofs.Common.{ap, ◌∙◌, map, string_bytes}
use Rattle.clap.specs.Words.{app_of}
use Rattle.blic_words.specs.Commands.{exercise}
use Rattle.blic_words.specs.Requests.{exercise_asked}
use Rattle.blic_words.proofs.Parsing.{asked_is, texts_now}
use Rattle.blic_words.proofs.words.exercise.Goals as goal

pub returns-in_default : goal.returns-in_default
returns-in_default c =
    asked_is exercise exercise_asked (app_of c.in_ok-command.command) (map string_bytes c.args.words.now) _ _ c.in_ok-command.ensures c.in_ok-texts.ensures c.in_default.is

pub returns : goal.returns
returns c =
    c.exercise_request.ensures
    ∙ ap (λ t. exercise_asked (texts_now t) c.in-Some.options) c.deref.ensures.value
    ∙ asked_is exercise exercise_asked (app_of c.in_ok-command.command) (map string_bytes c.args.words.now) _ _ c.in_ok-command.ensures c.in_ok-texts.ensures c.in-Some.is
