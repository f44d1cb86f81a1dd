-- Rules that a command is given one after another.
use Rattle.std.proofs.Common.{◌≡◌, ℕ, ◌+◌, ◌<◌, List, length, get_or, take, map, ap, ◌∙◌}
use Rattle.std.proofs.lemmas.List.{take_more, map-append}
use Rattle.std.proofs.lemmas.Grind.{fold-append}
use Rattle.std.specs.Prelude.{fold}
use Rattle.std.specs.Borrow.{Bor}
use Rattle.clap.specs.Words.{App, Rule, Text, with_rule}

-- one more
pub rule_more : (rule : Text → Rule) (names : List (Bor Text)) (i : ℕ) (d : Bor Text) (app command next : App) → i < length names
    → command ≡ fold with_rule app (map rule (map (λ o. o.now) (take i names))) → next ≡ with_rule command (rule (get_or names i d).now)
    → next ≡ fold with_rule app (map rule (map (λ o. o.now) (take (i + 1) names)))
rule_more rule names i d app command next l so_far is =
    rw (take_more names i d l) (simp (map-append, fold-append) (is ∙ ap (λ z. with_rule z (rule (get_or names i d).now)) so_far))
