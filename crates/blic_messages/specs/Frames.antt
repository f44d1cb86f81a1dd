-- How messages are spelled as frames: the body's length as four bytes, the kind, and the body. Numbers are big endian.
use Rattle.std.specs.Prelude.{ℕ, cond, List, [], ◌∷◌, ◌++◌, length, flat_map}
use Rattle.byteorder.specs.Endian.{big_bytes}
use Rattle.blic_field.specs.Quadratic.{Quadratic}
use Rattle.blic_messages.specs.declared.ask.Hello.{Hello}
use Rattle.blic_messages.specs.declared.ask.Ask.{Ask}
use Rattle.blic_messages.specs.declared.ask.Ask.TheVariants as asks
use Rattle.blic_messages.specs.declared.reply.Refusal.{Refusal}
use Rattle.blic_messages.specs.declared.reply.Refusal.TheVariants as refusals
use Rattle.blic_messages.specs.Replies.{Said, Answer, Polys, Values, Refused}

abbrev pub framed : ℕ → List ℕ → List ℕ
framed kind body = big_bytes 4 (length body) ++ kind ∷ body

-- the three versions and the digest
abbrev pub hello_body : Hello → List ℕ
hello_body h = big_bytes 2 h.wire ++ big_bytes 2 h.circuit ++ big_bytes 2 h.order ++ h.digest

abbrev pub ask_spelling : Ask → List ℕ
ask_spelling (asks.Hello h) = framed 1 (hello_body h)
ask_spelling asks.Go = framed 2 []
ask_spelling (asks.Draw e) = framed 3 (big_bytes 8 e)
ask_spelling asks.Bye = framed 5 []

-- the coefficients, from the constant one up
abbrev pub poly_body : Quadratic → List ℕ
poly_body p = big_bytes 8 p.c0 ++ big_bytes 8 p.c1 ++ big_bytes 8 p.c2

abbrev pub refusal_body : Refusal → List ℕ
refusal_body refusals.OutOfTurn = 1 ∷ []
refusal_body refusals.NothingLeft = 2 ∷ []
refusal_body (refusals.NotServed h) = 3 ∷ hello_body h
refusal_body refusals.Broken = 4 ∷ []

abbrev pub reply_spelling : Said → List ℕ
reply_spelling (Answer b) = framed 129 (cond b 1 0 ∷ [])
reply_spelling (Polys ps) = framed 130 (flat_map poly_body ps)
reply_spelling (Values u w) = framed 131 (big_bytes 8 u ++ big_bytes 8 w)
reply_spelling (Refused r) = framed 132 (refusal_body r)
