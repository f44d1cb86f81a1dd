-- What an accepted talk is worth.
use Rattle.std.proofs.Common.{length, ◌∙◌, Bool, List, ℕ}
use Rattle.blic_model.specs.Circuit.{OrderedCircuit}
use Rattle.blic_model.specs.Shape.{IsShaped}
use Rattle.blic_claims.specs.Turns.{Reply}
use Rattle.blic_verifier.specs.Acceptance.{Passes}
use Rattle.blic_verifier.specs.SoundnessLaws.{AreElements, TalkHasElements}
use Rattle.blic_verifier.specs.Verdict.{Talk, Silent, Talked, IsAcceptedAs}
use Rattle.blic_verifier.specs.Accepting.{ShowsBadDraw, IsWorth}
use Rattle.blic_claims.specs.Claims.{zero_point}
use Rattle.blic_verifier.proofs.Sound.{wrong_value, same_bit}
use Rattle.blic_verifier.proofs.BadCount.{few_bad_at_draw}
use Rattle.blic_verifier.proofs.SumOfBad.{few_bad_in_all}

pub shows : (c : OrderedCircuit) → IsShaped c.nodes (length c.order) → (answer : Bool) (draws : List ℕ) (replies : List Reply) → AreElements draws replies
    → Passes c.nodes (length c.order) answer draws replies → ShowsBadDraw c answer draws replies
shows c h answer draws replies e p = record {
  value = wrong_value c.nodes (length c.order) h answer draws replies e p;
  truth = λ t root ne. wrong_value c.nodes (length c.order) h answer draws replies e p (λ w. ne (same_bit answer t (w ∙ root zero_point)));
  few = λ prime. few_bad_at_draw prime c.nodes (length c.order) h answer draws replies e;
  few_in_all = λ prime. few_bad_in_all few_bad_at_draw prime c.nodes (length c.order) h answer draws replies e;
}

-- what is accepted as b is worth that
pub worth : (c : OrderedCircuit) → IsShaped c.nodes (length c.order) → (b : Bool) (t : Talk) → IsAcceptedAs c b t → TalkHasElements t → IsWorth c b t
worth c h b Silent a e = a
worth c h b (Talked answer draws replies) a e = (a.0, shows c h answer draws replies e a.1)
