use Rattle.blic_eval.proofs.Extensions.{extension_same}
use Rattle.blic_eval.proofs.CircuitValues.{value_extension, conjunction, disjunction, same_joined}
use Rattle.blic_eval.proofs.laws.circuit_law.Goals as goal

pub returns : goal.returns
returns c = record {
  value = value_extension;
  conjunction = λ nodes levels h k a b j e l. conjunction nodes levels h k a b j e;
  disjunction = λ nodes levels h k a b j e l. disjunction nodes levels h k a b j e;
  same = extension_same;
  same_joined = same_joined;
}
