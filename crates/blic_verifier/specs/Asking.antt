-- The verifier's end of a conversation: at which position it stands.
use Rattle.std.specs.Prelude.{ℕ, suc, ◌≡◌, ◌<◌, ◌≤◌, false, length, All, Option, Some, None}
use Rattle.blic_field.specs.Field.{modulus}
use Rattle.blic_model.specs.Circuit.{OrderedCircuit}
use Rattle.blic_claims.specs.Turns.{turns}
use Rattle.blic_draw.specs.DrawRun.{DrawsOf}
use Rattle.blic_verifier.specs.Verdict.{Talk, Silent, Talked}
use Rattle.blic_verifier.specs.Conversation.{Instance, Position, Awaits, Ended}
use Rattle.blic_verifier.specs.Standing.{Verifying, StandsFor, is_over, wants_draw}
use Rattle.blic_verifier.specs.declared.ending.Ending.{Ending}
use Rattle.blic_verifier.specs.declared.asker.Following.{Following}
use Rattle.blic_verifier.specs.declared.asker.Following.TheVariants.{Asks, Ends}

-- what it is about, the run of its draws, its verifier, and how the conversation ended, if it has
pub record Asking : Type 0 where
  pub about : Instance
  pub draws : DrawsOf
  pub verifier : Verifying
  pub ended : Option Ending

-- how many replies have come
abbrev pub replies_in : Talk → ℕ
replies_in Silent = 0
replies_in (Talked b draws replies) = suc (length replies)

-- a reply is left to come, and draws are elements, not more than there were replies; so many were made
abbrev pub IsOpen : OrderedCircuit → Talk → ℕ → Type 0
IsOpen c Silent n = n ≡ 0
IsOpen c (Talked b draws replies) n =
    (length replies < length (turns c.nodes (length c.order))) × All (λ r. r < modulus) draws × (length draws ≡ n) × (n ≤ length replies)

-- no verdict was given, and no draw stands next
abbrev pub IsWaiting : Verifying → Type 0
IsWaiting v = (is_over v.stage ≡ false) × (wants_draw v.stage ≡ false)

-- it stands at that position of its conversation
abbrev pub IsAt : Asking → Position → Type 0
IsAt a (Awaits ask t n) = (a.ended ≡ None) × (a.draws.place ≡ n) × StandsFor a.verifier t × IsWaiting a.verifier × IsOpen a.about.circuit t n
IsAt a (Ended e t) = a.ended ≡ Some e

-- the ask that stands next at a position, or how the conversation has ended there
abbrev pub IsSaidAt : Following → Position → Type 0
IsSaidAt (Asks ask) p = (t : Talk) × (n : ℕ) × (p ≡ Awaits ask t n)
IsSaidAt (Ends e) p = (t : Talk) × (p ≡ Ended e t)
