use Rattle.std.proofs.Common.{◌∙◌, refl, sym, subst}
use Rattle.blic_model.specs.Limits.{IsFormula}
use Rattle.blic_gen.proofs.ChainFormula.{chain_from}
use Rattle.blic_gen.proofs.chain.xor_chain.Goals as goal

pub new-requires : goal.new-requires
new-requires c =
    subst IsFormula (sym (chain_from c.args.n c.args.truth _ refl c.in_ok-prefix.ensures c.in_ok-clauses.ensures))
    (c.chain_law.ensures c.args.n c.args.truth c.requires.0 c.requires.1)

pub returns : goal.returns
returns c = c.new.ensures ∙ chain_from c.args.n c.args.truth _ refl c.in_ok-prefix.ensures c.in_ok-clauses.ensures
