use Rattle.std.proofs.Common.{◌≡◌, map, take}
use Rattle.std.specs.Prelude.{fold}
use Rattle.clap.specs.Words.{app_of, new_app, with_rule}
use Rattle.blic_words.specs.Commands.{flag_word, option_word, required_word}
use Rattle.blic_words.proofs.command.command.Given as goal

-- the rules so far
abbrev pub invariant-loop-operand_name : goal.invariant-loop-operand_name
invariant-loop-operand_name l =
    app_of l.command ≡ fold with_rule (new_app l.name) (map required_word (map (λ o. o.now) (take l.operand_name-index l.operands)))

abbrev pub invariant-loop-option_name : goal.invariant-loop-option_name
invariant-loop-option_name l =
    app_of l.command ≡ fold with_rule (app_of l.initial.command) (map option_word (map (λ o. o.now) (take l.option_name-index l.options)))

abbrev pub invariant-loop-flag_name : goal.invariant-loop-flag_name
invariant-loop-flag_name l =
    app_of l.command ≡ fold with_rule (app_of l.initial.command) (map flag_word (map (λ f. f.now) (take l.flag_name-index l.flags)))
