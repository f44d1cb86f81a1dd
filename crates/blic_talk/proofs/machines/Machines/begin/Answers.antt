use Rattle.std.proofs.Common.{◌∙◌, ap, sym, subst}
use Rattle.blic_messages.specs.declared.ask.Ask.TheVariants.{Hello}
use Rattle.blic_verifier.specs.Asking.{IsAt as AskerIsAt}
use Rattle.blic_verifier.specs.Conversation.{beginning}
use Rattle.blic_talk.proofs.Starting.{asker_at_start, at_start}
use Rattle.blic_talk.proofs.machines.Machines.begin.Goals as goal

pub returns-clause-begun : goal.returns-clause-begun
returns-clause-begun c =
    let about = c.begin.ensures.about in
    let hello = c.begin.ensures.ask ∙ ap (λ x. Hello x.hello) (sym about) in
    let serves = ap (λ p. p.served) c.reset.ensures.exact ∙ (c.requires.fitted.serves ∙ ap (λ x. x.hello) (sym about)) in
    let at = subst (λ x. AskerIsAt c.begin.new.self (beginning x)) (sym about) c.begin.ensures.at in
    record {
      hello = hello;
      place = c.begin.ensures.at.1;
      fresh = ap (λ p. p.stage) c.reset.ensures.exact;
      at = record {
        asked = at_start c.reset.new.self c.begin.new.self.about.hello c.begin.result c.begin.new.self.draws.place c.reset.ensures.silent serves hello c.begin.ensures.at.1;
        at = asker_at_start c.begin.new.self c.begin.result at hello;
      };
    }
