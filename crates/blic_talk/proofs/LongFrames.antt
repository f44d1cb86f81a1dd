-- A frame that is longer than the longest reply's says none.
use Rattle.std.proofs.Common.{arith, ℕ, ◌<◌, ap, List, length}
use Rattle.std.specs.Prelude.{None}
use Rattle.blic_messages.specs.Frames.{reply_spelling}
use Rattle.blic_messages.specs.Reading.{IsRefusal, IsReply, Reads}
use Rattle.blic_messages.specs.Replies.{Said, Answer, Polys, Values, Refused}
use Rattle.blic_messages.specs.declared.reply.Refusal.{Refusal}
use Rattle.blic_messages.specs.declared.reply.Refusal.TheVariants.{OutOfTurn, NothingLeft, NotServed, Broken}
use Rattle.blic_messages.proofs.Bodies.{length-poly_bodies}

refusal_short : (r : Refusal) → IsRefusal r → length (reply_spelling (Refused r)) < 1572870
refusal_short OutOfTurn ok = omega arith
refusal_short NothingLeft ok = omega arith
refusal_short (NotServed h) ok = omega (arith, ok.digest.0)
refusal_short Broken ok = omega arith

reply_short : (s : Said) → IsReply s → length (reply_spelling s) < 1572870
reply_short (Answer b) ok = omega arith
reply_short (Polys ps) ok = omega (arith, length-poly_bodies ps, ok.1)
reply_short (Values u w) ok = omega arith
reply_short (Refused r) ok = refusal_short r ok

pub too_long : (frame : List ℕ) → 1572869 < length frame → Reads frame None
too_long frame long s ok is = omega (arith, long, ap length is, reply_short s ok)
