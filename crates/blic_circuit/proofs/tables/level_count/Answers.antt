use Rattle.std.proofs.Common.{arith, length, ap}
use Rattle.blic_circuit.proofs.Bounds.{few_levels}
use Rattle.blic_circuit.proofs.tables.level_count.Goals as goal

pub overflow_cast-result : goal.overflow_cast-result
overflow_cast-result c = omega (arith, few_levels c.args.formula.now c.is_within_limits.ensures, ap length c.prefix.ensures)

pub returns-clause-few : goal.returns-clause-few
returns-clause-few c = omega (arith, few_levels c.args.formula.now c.is_within_limits.ensures, ap length c.prefix.ensures)
