-- What it is worth that a conversation was accepted, whoever sent the replies.
use Rattle.std.specs.Prelude.{ℕ, ◌≡◌, ◌*◌, ◌<◌, ◌≤◌, Bool, List, length, sum_by, All, AllPairs}
use Rattle.blic_field.specs.Field.{modulus, IsPrime}
use Rattle.blic_model.specs.Circuit.{OrderedCircuit, root, free}
use Rattle.blic_model.specs.Value.{RootIs, bit, value}
use Rattle.blic_model.specs.Counts.{claims, bad}
use Rattle.blic_claims.specs.Claims.{zero_point}
use Rattle.blic_claims.specs.Turns.{Turn, Reply, turns}
use Rattle.blic_verifier.specs.Soundness.{AreBadAt, IsBad, SomeDrawIsBad}
use Rattle.blic_verifier.specs.Verdict.{Talk, Silent, Talked}

-- a wrong answer shows in a bad draw: one other than the root's value, and so one other than the truth that the root stands for;
-- given that the modulus is prime, few elements are bad at each draw, and in all
pub record ShowsBadDraw (c : OrderedCircuit) (answer : Bool) (draws : List ℕ) (replies : List Reply) : Type 0 where
  pub value : (bit answer ≡ value c.nodes (length c.order) (root c.nodes) zero_point → ⊥) → SomeDrawIsBad c.nodes (length c.order) answer draws replies
  pub truth : (t : Bool) → RootIs c t → (answer ≡ t → ⊥) → SomeDrawIsBad c.nodes (length c.order) answer draws replies
  pub few : IsPrime modulus → (k i : ℕ) → k < length c.nodes → i < length (free c.nodes (length c.order) k)
      → (elements : List ℕ) → AllPairs (λ x y. x ≡ y → ⊥) elements → All (λ r. (r < modulus) × IsBad c.nodes (length c.order) answer draws replies k i r) elements
      → length elements ≤ 2 * claims c.nodes k
  pub few_in_all : IsPrime modulus → (elements : Turn → List ℕ)
      → All (λ t. AreBadAt c.nodes (length c.order) answer draws replies t (elements t)) (turns c.nodes (length c.order))
      → sum_by (λ t. length (elements t)) (turns c.nodes (length c.order)) ≤ bad c.nodes (length c.order)

-- the talk (transcript) was accepted with answer b, and shows what that is worth
abbrev pub IsWorth : OrderedCircuit → Bool → Talk → Type 0
IsWorth c b Silent = ⊥
IsWorth c b (Talked answer draws replies) = (b ≡ answer) × ShowsBadDraw c answer draws replies
