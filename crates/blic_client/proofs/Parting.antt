-- Room for frames, and an end at which nothing is sent.
use Rattle.std.proofs.Common.{arith, ℕ, ◌≡◌, ◌≤◌, refl, sym, List, [], length, Bool, true, false, cond, inl}
use Rattle.std.specs.Prelude.{IsTrue, Option}
use Rattle.std.specs.Io.KnownBytes.{append_known}
use Rattle.blic_link.specs.Passing.{Piece, with_pieces}
use Rattle.blic_link.specs.Sending.{all_sent}
use Rattle.blic_link.proofs.Joined.{with_none}
use Rattle.blic_messages.specs.Frames.{reply_spelling}
use Rattle.blic_messages.specs.Reading.{IsRefusal, IsReply}
use Rattle.blic_messages.specs.Replies.{Said, Answer, Polys, Values, Refused}
use Rattle.blic_messages.specs.declared.reply.Refusal.{Refusal}
use Rattle.blic_messages.specs.declared.reply.Refusal.TheVariants.{OutOfTurn, NothingLeft, NotServed, Broken}
use Rattle.blic_messages.proofs.Bodies.{length-poly_bodies}
use Rattle.blic_verifier.specs.declared.ending.Ending.{Ending}
use Rattle.blic_verifier.specs.declared.ending.Ending.TheVariants.{Certified, Rejected, WrongKind, WrongCount, ServerRefused, NotFrame}
use Rattle.blic_client.specs.UnderWay.{IsParting}
use Rattle.blic_client.specs.Linked.{LinkCounts}
use Rattle.blic_client.specs.declared.verdict.Verdict.TheVariants.{Ended}
use Rattle.blic_client.proofs.Lines.{nothing_more}

refusal_room : (r : Refusal) → IsRefusal r → length (reply_spelling (Refused r)) ≤ 1572869
refusal_room OutOfTurn ok = omega arith
refusal_room NothingLeft ok = omega arith
refusal_room (NotServed h) ok = omega (arith, ok.digest.0)
refusal_room Broken ok = omega arith

pub reply_room : (s : Said) → IsReply s → length (reply_spelling s) ≤ 1572869
reply_room (Answer b) ok = omega arith
reply_room (Polys ps) ok = omega (arith, length-poly_bodies ps, ok.1)
reply_room (Values u w) ok = omega arith
reply_room (Refused r) ok = refusal_room r ok

quiet : (held : Option (List ℕ)) (talk : Bool) → held ≡ append_known held (cond talk [] [])
quiet held true = nothing_more held
quiet held false = nothing_more held

-- nothing is sent at the end of a conversation whose answer was not accepted
pub nothing_sent : (e : Ending) (talk : Bool) (faults : ℕ) (told : Option (List Piece)) (held : Option (List ℕ)) → ((b : Bool) → e ≡ Certified b → ⊥)
    → (pieces : List Piece) × (told ≡ with_pieces told pieces) × IsTrue (all_sent pieces) × IsParting e talk faults faults pieces held held (Ended e)
nothing_sent (Certified b) talk faults told held not = absurd (not b refl)
nothing_sent (Rejected place) talk faults told held not = ([], sym (with_none told), refl, (refl, inl (refl, quiet held talk)))
nothing_sent (WrongKind turn) talk faults told held not = ([], sym (with_none told), refl, (refl, inl (refl, quiet held talk)))
nothing_sent (WrongCount turn want got) talk faults told held not = ([], sym (with_none told), refl, (refl, inl (refl, quiet held talk)))
nothing_sent (ServerRefused r) talk faults told held not = ([], sym (with_none told), refl, (refl, inl (refl, quiet held talk)))
nothing_sent NotFrame talk faults told held not = ([], sym (with_none told), refl, (refl, inl (refl, quiet held talk)))

pub no_fault : (e : Ending) (faults : ℕ) → ((b : Bool) → e ≡ Certified b → ⊥) → LinkCounts faults faults (Ended e)
no_fault (Certified b) faults not = absurd (not b refl)
no_fault (Rejected place) faults not = refl
no_fault (WrongKind turn) faults not = refl
no_fault (WrongCount turn want got) faults not = refl
no_fault (ServerRefused r) faults not = refl
no_fault NotFrame faults not = refl
