-- Soundness: a wrong value, or a wrong truth, shows in a bad draw.
use Rattle.std.proofs.Common.{arith, ◌≡◌, refl, ◌∙◌, length, Bool, true, false}
use Rattle.blic_model.specs.Value.{bit}
use Rattle.blic_model.proofs.Ordered.{ordered_all}
use Rattle.blic_model.proofs.Shaped.{size_of, ordered_of}
use Rattle.blic_claims.specs.Claims.{zero_point}
use Rattle.blic_claims.specs.Turns.{transcript}
use Rattle.blic_claims.proofs.Drawn.{levelled_from_shape}
use Rattle.blic_verifier.specs.SoundnessLaws.{WrongValueHasBadDraw, WrongTruthHasBadDraw}
use Rattle.blic_verifier.proofs.OfElements.{of_elements}
use Rattle.blic_verifier.proofs.Descent.{soundness}
use Rattle.blic_verifier.proofs.FixedBefore.{bad_of_root}

pub wrong_value : WrongValueHasBadDraw
unfolding transcript
wrong_value nodes levels h answer draws replies e p ne =
    let drawn = soundness nodes levels (size_of nodes levels h).0 (ordered_all nodes (ordered_of nodes levels h)) (levelled_from_shape nodes levels h)
    (transcript nodes levels answer draws replies) (of_elements nodes levels answer draws replies e) p.2 ne in
    (drawn.0, drawn.1, drawn.2, drawn.3, drawn.4, bad_of_root nodes levels answer draws replies drawn.0 drawn.1 _ drawn.2 drawn.4 drawn.5)

pub same_bit : (a b : Bool) → bit a ≡ bit b → a ≡ b
same_bit true true e = refl
same_bit false false e = refl
same_bit true false e = absurd (omega arith)
same_bit false true e = absurd (omega arith)

pub wrong_truth : WrongTruthHasBadDraw
wrong_truth c t shaped root answer draws replies e p ne =
    wrong_value c.nodes (length c.order) shaped answer draws replies e p (λ w. ne (same_bit answer t (w ∙ root zero_point)))
