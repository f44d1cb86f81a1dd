-- What is told of the replies so far.
use Rattle.std.proofs.Common.{ℕ, suc, ◌≡◌, ap, List, length, Bool, cond, eqb}
use Rattle.std.specs.Prelude.{Some, None}
use Rattle.blic_model.specs.declared.node.Node.{Node}
use Rattle.blic_claims.specs.Turns.{Reply, turns, transcript, wants_draw_after}
use Rattle.blic_verifier.specs.Acceptance.{Check}
use Rattle.blic_verifier.specs.Verdict.{Verdict, Draw, Go, Done, Rejected, fault_upto, judged, place_of}

-- what stands next after m replies of which none is refused
abbrev pub what_stands : List Node → ℕ → Bool → ℕ → Verdict
what_stands nodes levels answer m = cond (eqb m (length (turns nodes levels))) (Done answer) (cond (wants_draw_after (turns nodes levels) m) Draw Go)

-- a fault that is shown is told
pub judged_fault : (nodes : List Node) (levels : ℕ) (answer : Bool) (draws : List ℕ) (replies : List Reply) (c : Check)
    → fault_upto nodes levels (transcript nodes levels answer draws replies) (suc (length replies)) ≡ Some c
    → judged nodes levels answer draws replies ≡ Rejected (place_of c)
judged_fault nodes levels answer draws replies c e =
    ap (λ o. elim o [ Some d ↦ Rejected (place_of d) | None ↦ what_stands nodes levels answer (length replies) ]) e

-- without one it is told what stands next
pub judged_fine : (nodes : List Node) (levels : ℕ) (answer : Bool) (draws : List ℕ) (replies : List Reply)
    → fault_upto nodes levels (transcript nodes levels answer draws replies) (suc (length replies)) ≡ None
    → judged nodes levels answer draws replies ≡ what_stands nodes levels answer (length replies)
judged_fine nodes levels answer draws replies e =
    ap (λ o. elim o [ Some d ↦ Rejected (place_of d) | None ↦ what_stands nodes levels answer (length replies) ]) e
