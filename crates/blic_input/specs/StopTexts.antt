-- The status and the text of each stop.
use Rattle.std.specs.Prelude.{ℕ, List, ◌++◌, codes, decimal}
use Rattle.blic_model.specs.declared.circuit.CircuitError.{CircuitError}
use Rattle.blic_model.specs.declared.circuit.CircuitError.TheVariants as circuits
pub use Rattle.blic_qdimacs.specs.Text.{line_end}
use Rattle.blic_qdimacs.specs.declared.error.ReadError.{ReadError}
use Rattle.blic_qdimacs.specs.declared.error.ReadError.TheVariants as errors
use Rattle.blic_solve.specs.declared.plan.SolveError.{SolveError}
use Rattle.blic_solve.specs.declared.plan.SolveError.TheVariants as solving
use Rattle.blic_input.specs.declared.stop.Stop.{Stop}
use Rattle.blic_input.specs.declared.stop.Stop.TheVariants.{NotRead, NotBuilt, NotSolved, NoSeed}

-- 3 for a fault, 9 for out of memory, 2 for a refused file
abbrev pub read_status : ReadError → ℕ
read_status errors.Fault = 3
read_status errors.NoMem = 9
read_status _ = 2

-- 9 for out of memory, 8 for a limit
abbrev pub circuit_status : CircuitError → ℕ
circuit_status circuits.NoMem = 9
circuit_status _ = 8

abbrev pub solving_status : SolveError → ℕ
solving_status solving.NoMem = 9
solving_status _ = 8

abbrev pub stop_status : Stop → ℕ
stop_status (NotRead error) = read_status error
stop_status (NotBuilt error) = circuit_status error
stop_status (NotSolved error) = solving_status error
stop_status NoSeed = 11

-- the name of the refusal and its line
abbrev pub refused_at : List ℕ → ℕ → List ℕ
refused_at name line = codes "c refused " ++ name ++ codes " line " ++ decimal line ++ line_end

abbrev pub refusal_text : ReadError → List ℕ
refusal_text (errors.NoProblemLine line) = refused_at (codes "NoProblemLine") line
refusal_text (errors.BadProblemLine line) = refused_at (codes "BadProblemLine") line
refusal_text (errors.BadToken line) = refused_at (codes "BadToken") line
refusal_text (errors.NumberTooLarge line) = refused_at (codes "NumberTooLarge") line
refusal_text (errors.VariableTooLarge line) = refused_at (codes "VariableTooLarge") line
refusal_text (errors.BoundTwice line) = refused_at (codes "BoundTwice") line
refusal_text (errors.SetAfterClause line) = refused_at (codes "SetAfterClause") line
refusal_text (errors.TooManyClauses line) = refused_at (codes "TooManyClauses") line
refusal_text (errors.TooFewClauses line) = refused_at (codes "TooFewClauses") line
refusal_text (errors.Unended line) = refused_at (codes "Unended") line
refusal_text (errors.TooManyVariables line) = refused_at (codes "TooManyVariables") line
refusal_text (errors.TooManyLiterals line) = refused_at (codes "TooManyLiterals") line
refusal_text (errors.ClauseLimit line) = refused_at (codes "ClauseLimit") line
refusal_text (errors.TooLong line) = refused_at (codes "TooLong") line
refusal_text errors.Fault = codes "c read fault" ++ line_end
refusal_text errors.NoMem = codes "c want of memory" ++ line_end

abbrev pub circuit_text : CircuitError → List ℕ
circuit_text (circuits.TooManyClaims node count) = codes "c limit claims at " ++ decimal node ++ codes " count " ++ decimal count ++ line_end
circuit_text (circuits.TooManyPoints count) = codes "c limit points count " ++ decimal count ++ line_end
circuit_text circuits.NoMem = codes "c want of memory" ++ line_end

abbrev pub solving_text : SolveError → List ℕ
solving_text (solving.PairLimit node) = codes "c limit pairs at " ++ decimal node ++ line_end
solving_text (solving.NodeLimit node) = codes "c limit nodes at " ++ decimal node ++ line_end
solving_text solving.NoMem = codes "c want of memory" ++ line_end

abbrev pub stop_text : Stop → List ℕ
stop_text (NotRead error) = refusal_text error
stop_text (NotBuilt error) = circuit_text error
stop_text (NotSolved error) = solving_text error
stop_text NoSeed = codes "c entropy fault" ++ line_end
