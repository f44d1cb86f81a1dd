use Rattle.std.proofs.Common.{ap, ◌∙◌}
use Rattle.clap.specs.Words.{app_of, new_app, with_rule}
use Rattle.blic_words.specs.Commands.{flag_word, option_word, required_word}
use Rattle.blic_words.proofs.Building.{rule_more}
use Rattle.blic_words.proofs.command.command.Goals as goal

pub loop-operand_name-preserved : goal.loop-operand_name-preserved
loop-operand_name-preserved c =
    rule_more required_word c.args.operands.now c.loop-operand_name.operand_name-index _ (new_app c.args.name.now) (app_of c.loop-operand_name.command) (app_of c.in_ok-command.command) c.loop-operand_name-test.true
    c.loop-operand_name.invariant (c.in_ok-command.ensures.shape c.required.ensures.local ∙ ap (with_rule (app_of c.loop-operand_name.command)) c.required.ensures.rule)

pub loop-option_name-preserved : goal.loop-option_name-preserved
loop-option_name-preserved c =
    rule_more option_word c.args.options.now c.loop-option_name.option_name-index _ (app_of c.loop-operand_name.command) (app_of c.loop-option_name.command) (app_of c.in_ok-command-2.command) c.loop-option_name-test.true
    c.loop-option_name.invariant (c.in_ok-command-2.ensures.shape c.option.ensures.local ∙ ap (with_rule (app_of c.loop-option_name.command)) c.option.ensures.rule)

pub loop-flag_name-preserved : goal.loop-flag_name-preserved
loop-flag_name-preserved c =
    rule_more flag_word c.args.flags.now c.loop-flag_name.flag_name-index _ (app_of c.loop-option_name.command) (app_of c.loop-flag_name.command) (app_of c.in_ok-command-3.command) c.loop-flag_name-test.true
    c.loop-flag_name.invariant (c.in_ok-command-3.ensures.shape c.flag.ensures.local ∙ ap (with_rule (app_of c.loop-flag_name.command)) c.flag.ensures.rule)
