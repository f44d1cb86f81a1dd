use Rattle.blic_gen.proofs.ChainFormula.{chain_is_formula}
use Rattle.blic_gen.proofs.laws.chain_law.Goals as goal

pub returns : goal.returns
returns c = chain_is_formula
