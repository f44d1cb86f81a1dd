use Rattle.std.proofs.Common.{ap, ◌∙◌}
use Rattle.rand_chacha.specs.ChaCha.{word_at}
use Rattle.blic_draw.proofs.Words.{draw_of_words, second_word}
use Rattle.blic_draw.proofs.draws.Draws.next.Goals as goal

-- src/draws.rt:52:5
pub returns-clause-draw : goal.returns-clause-draw
returns-clause-draw c = rw (← c.self.view_is)
    (c.element_of.ensures ∙ draw_of_words c.self.inside.seed c.self.inside.place c.from-low.result c.from-high.result
    (c.from-low.ensures ∙ (ap (λ p. p.0) c.next_word.ensures ∙ ap (λ g. word_at 10 g.key g.stream g.word_pos) c.self.invariant.0))
    (c.from-high.ensures ∙ (ap (λ p. p.0) c.next_word-2.ensures ∙ (ap (λ g. word_at 10 g.key g.stream g.word_pos) (ap (λ p. p.1) c.next_word.ensures)
    ∙ second_word c.self.inside.words c.self.inside.seed c.self.inside.place c.self.invariant.0 c.self.invariant.1))))
