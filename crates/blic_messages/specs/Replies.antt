-- Replies as contracts see them: a kind with its numbers, wherever the polynomials lie.
use Rattle.std.specs.Prelude.{ℕ, Bool, List, length}
use Rattle.blic_field.specs.Quadratic.{Quadratic}
use Rattle.blic_messages.specs.declared.reply.Refusal.{Refusal}
use Rattle.blic_messages.specs.declared.reply.Reply.{Reply}
use Rattle.blic_messages.specs.declared.reply.Reply.TheVariants as replies

pub data Said : Type 0 where
  Answer : Bool → Said
  Polys : List Quadratic → Said
  Values : ℕ → ℕ → Said
  Refused : Refusal → Said

abbrev pub said : Reply → Said
said (replies.Answer b) = Answer b
said (replies.Polys ps) = Polys ps.now
said (replies.Values u w) = Values u w
said (replies.Refused r) = Refused r

-- how many polynomials a reply has
abbrev pub polynomials_in : Said → ℕ
polynomials_in (Answer b) = 0
polynomials_in (Polys ps) = length ps
polynomials_in (Values u w) = 0
polynomials_in (Refused r) = 0
