use Rattle.std.proofs.Common.{arith, ap, subst, sym, ◌≤◌, length, List, ℕ}
use Rattle.blic_field.specs.Quadratic.{Quadratic}
use Rattle.blic_messages.specs.Frames.{reply_spelling}
use Rattle.blic_messages.specs.Replies.{said, polynomials_in, Polys}
use Rattle.blic_messages.proofs.Bodies.{length-poly_bodies}
use Rattle.blic_server.proofs.serving.reply_room.Goals as goal

polys_room : (ps : List Quadratic) → length ps ≤ 65536 → length (reply_spelling (Polys ps)) ≤ 1572869
polys_room ps few = omega (arith, length-poly_bodies ps)

pub returns-in-Polys : goal.returns-in-Polys
returns-in-Polys c =
    subst (λ r. length (reply_spelling (said r)) ≤ 1572869) (sym c.in-Polys.is)
    (polys_room c.in-Polys.field-0.now (subst (λ r. polynomials_in (said r) ≤ 65536) c.in-Polys.is c.requires))
