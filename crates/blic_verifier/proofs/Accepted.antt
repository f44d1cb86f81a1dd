-- The law of acceptance over lists of draws and replies.
use Rattle.std.proofs.Common.{◌≡◌, ◌∙◌, subst, length}
use Rattle.blic_model.proofs.Ordered.{ordered_all}
use Rattle.blic_model.proofs.Shaped.{ordered_of}
use Rattle.blic_claims.specs.Claims.{zero_point}
use Rattle.blic_claims.specs.Turns.{turns}
use Rattle.blic_claims.specs.Honest.{honest_answer, honest_replies}
use Rattle.blic_claims.proofs.Drawn.{levelled_from_shape}
use Rattle.blic_claims.proofs.SomeClaim.{some_claim_law}
use Rattle.blic_claims.proofs.HonestReplies.{answer_honest}
use Rattle.blic_verifier.specs.Acceptance.{Passes}
use Rattle.blic_verifier.specs.HonestLaws.{HonestRepliesPass, HonestRepliesPassWithTruth}
use Rattle.blic_verifier.proofs.OfElements.{draw_element}
use Rattle.blic_verifier.proofs.HonestPasses.{honest_fits, honest_passes}
use Rattle.blic_verifier.proofs.Sound.{same_bit}

pub pass : HonestRepliesPass
pass nodes levels h draws d = (
  d.1,
  honest_fits nodes levels draws,
  honest_passes nodes levels (ordered_all nodes (ordered_of nodes levels h)) (levelled_from_shape nodes levels h) draws
      (draw_element draws d.0) (some_claim_law nodes levels h),
)

pub pass_with_truth : HonestRepliesPassWithTruth
pass_with_truth c t shaped root draws d =
    let e : honest_answer c.nodes (length c.order) ≡ t =
    same_bit _ _ (answer_honest c.nodes (length c.order) (ordered_all c.nodes (ordered_of c.nodes (length c.order) shaped)) ∙ root zero_point) in (
      e,
      subst (λ b. Passes c.nodes (length c.order) b draws (honest_replies c.nodes (length c.order) draws (length (turns c.nodes (length c.order))))) e
          (pass c.nodes (length c.order) shaped draws d),
    )
