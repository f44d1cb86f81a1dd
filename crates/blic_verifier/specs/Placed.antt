-- Private: what an asker keeps to.
use Rattle.std.specs.Prelude.{◌≡◌}
use Rattle.blic_draw.specs.DrawRun.{DrawsOf}
use Rattle.blic_verifier.specs.Asking.{Asking, IsAt, IsWaiting}
use Rattle.blic_verifier.specs.Conversation.{Position, Awaits, Ended}
use Rattle.blic_verifier.specs.Standing.{Verifying, StandsFor}
use Rattle.blic_verifier.specs.Verdict.{Talk}
use Rattle.blic_verifier.specs.declared.asker.Following.{Following}
use Rattle.blic_verifier.specs.declared.asker.Following.TheVariants.{Asks, Ends}

-- what holds of every asker
pub record IsPlaced (a : Asking) : Type 0 where
  pub verifies : a.verifier.circuit ≡ a.about.circuit
  pub position : Position
  pub at : IsAt a position

-- the verifier and the draws stand at a position that goes on with an ask; or the conversation has ended
abbrev pub IsFollowed : Verifying → DrawsOf → Position → Following → Type 0
IsFollowed v d p (Asks ask) = (t : Talk) × (p ≡ Awaits ask t d.place) × StandsFor v t × IsWaiting v
IsFollowed v d p (Ends e) = (t : Talk) × (p ≡ Ended e t)
