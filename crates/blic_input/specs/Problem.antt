-- What the program works on.
use Rattle.std.specs.Prelude.{ℕ, Bool, List, length}
use Rattle.sha2.specs.Sha256.{sha256}
use Rattle.blic_model.specs.Formula.{PrenexFormula}
use Rattle.blic_model.specs.Truth.{truth}
use Rattle.blic_model.specs.Building.{circuit_of}
use Rattle.blic_model.specs.Circuit.{OrderedCircuit}
use Rattle.blic_qdimacs.specs.Text.{canonical_text}
use Rattle.blic_messages.specs.declared.ask.Hello.{Hello}
use Rattle.blic_verifier.specs.Conversation.{Instance}

-- all that is said of it: its truth, its circuit, the digest that names it, and the numbers in the answer line
pub record Problem : Type 0 where
  pub truth : Bool
  pub circuit : OrderedCircuit
  pub digest : List ℕ
  pub vars : ℕ
  pub clauses : ℕ

-- that of a formula in QDIMACS; its name is the digest of its canonical text
unfoldable pub problem_of : PrenexFormula → Problem
problem_of f = record { truth = truth f; circuit = circuit_of f; digest = sha256 (canonical_text f); vars = f.vars; clauses = length f.clauses }

-- what a conversation about it names: the versions of the wire and of the circuit, the order of the prefix, and the digest
abbrev pub hello_by : Problem → Hello
hello_by p = record { wire = 1; circuit = 1; order = 0; digest = p.digest }

abbrev pub instance_of : Problem → Instance
instance_of p = record { circuit = p.circuit; hello = hello_by p }
