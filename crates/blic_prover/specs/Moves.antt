-- The answers of a prover as contracts see them.
use Rattle.std.specs.Prelude.{List}
use Rattle.blic_field.specs.Quadratic.{Quadratic}
use Rattle.blic_messages.specs.Replies.{Said, Answer, Polys, Values}
use Rattle.blic_prover.specs.Honest.{Move, Replied, OutOfTurn, NothingLeft, NotServed, Ended}
use Rattle.blic_prover.specs.declared.step.Given.{Given}
use Rattle.blic_prover.specs.declared.step.Given.TheVariants as given
use Rattle.blic_prover.specs.declared.step.Step.{Step}
use Rattle.blic_prover.specs.declared.step.Step.TheVariants as answers

-- what a reply says, given the polynomials that the prover keeps
abbrev pub said_by : List Quadratic → Given → Said
said_by ps (given.Answer b) = Answer b
said_by ps given.Polys = Polys ps
said_by ps (given.Values u w) = Values u w

abbrev pub move_of : List Quadratic → Step → Move
move_of ps (answers.Reply g) = Replied (said_by ps g)
move_of ps answers.OutOfTurn = OutOfTurn
move_of ps answers.NothingLeft = NothingLeft
move_of ps (answers.NotServed served asked) = NotServed served asked
move_of ps answers.Ended = Ended
