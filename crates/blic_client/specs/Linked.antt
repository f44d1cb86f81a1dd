-- A conversation that a verifier leads over a link: how it ends, what was sent, and what is printed.
use Rattle.std.specs.Prelude.{ℕ, ◌≡◌, ◌≢◌, ◌<◌, Bool, true, false, cond, List, [], length, take, filter, Option, IfSome, ◌⊎◌}
use Rattle.std.specs.Io.KnownBytes.{append_known}
use Rattle.blic_basic.specs.Outside.{Rose}
use Rattle.blic_link.specs.Pace.{Begins, KeepsPace}
use Rattle.blic_link.specs.Passing.{Piece, got, sent_bytes}
use Rattle.blic_messages.specs.declared.ask.Ask.{Ask}
use Rattle.blic_messages.specs.declared.ask.Ask.TheVariants as asks
use Rattle.blic_print.specs.Printing.{talk_text}
use Rattle.blic_verifier.specs.Accepting.{IsWorth}
use Rattle.blic_verifier.specs.Conversation.{Instance, Position, Awaits, Ended}
use Rattle.blic_verifier.specs.Hearing.{asked, position_of, spelled}
use Rattle.blic_verifier.specs.Verdict.{Talk}
use Rattle.blic_verifier.specs.declared.ending.Ending.{Ending}
use Rattle.blic_verifier.specs.declared.ending.Ending.TheVariants.{Certified}
use Rattle.blic_client.specs.declared.verdict.Verdict.{Verdict}
use Rattle.blic_client.specs.declared.verdict.Verdict.TheVariants as verdicts

-- what conversations are about, and whether the lines of their frames are printed
pub record Linking : Type 0 where
  pub about : Instance
  pub talk : Bool

-- a reply is awaited
abbrev pub IsAwaiting : Position → Type 0
IsAwaiting (Awaits ask t n) = Unit {0}
IsAwaiting (Ended e t) = ⊥

-- all but Bye
abbrev pub wants_reply : Ask → Bool
wants_reply asks.Bye = false
wants_reply _ = true

-- the bytes of all that is asked once these have come, and of all but Bye
abbrev pub wanted : Instance → (ℕ → ℕ) → List ℕ → List ℕ
wanted x draw came = spelled (asked x draw came)

abbrev pub questions : Instance → (ℕ → ℕ) → List ℕ → List ℕ
questions x draw came = spelled (filter wants_reply (asked x draw came))

-- what a certified answer is worth
abbrev pub IsSound : Instance → Ending → Talk → Type 0
IsSound x (Certified b) t = IsWorth x.circuit b t
IsSound x _ t = Unit {0}

-- the verdict is that of the bytes that came, whose asks but Bye were all sent; or the link ended or failed before there was one
abbrev pub IsVerdict : Linking → (ℕ → ℕ) → List ℕ → List ℕ → Option (List ℕ) → Verdict → Type 0
IsVerdict x draw came went coming (verdicts.Ended e) =
    (t : Talk) × (position_of x.about draw came ≡ Ended e t) × Begins (questions x.about draw came) went × IsSound x.about e t
IsVerdict x draw came went coming verdicts.Cut =
    IsAwaiting (position_of x.about draw came) × (went ≡ wanted x.about draw came) × IfSome coming (λ bytes. bytes ≡ [])
IsVerdict x draw came went coming verdicts.LinkFault = IsAwaiting (position_of x.about draw came) ⊎ (length went < length (questions x.about draw came))
IsVerdict x draw came went coming verdicts.WriteFault = x.talk ≡ true

-- the lines of the record are printed if they are to be; or a prefix of them, if a call on the output failed
abbrev pub IsRecorded : Linking → List (List ℕ) → Option (List ℕ) → Option (List ℕ) → Verdict → Type 0
IsRecorded x frames held held_now verdicts.WriteFault = (n : ℕ) × (held_now ≡ append_known held (take n (talk_text frames)))
IsRecorded x frames held held_now _ = held_now ≡ append_known held (cond x.talk (talk_text frames) [])

-- a fault of the link ends the conversation, but for one of Bye
abbrev pub LinkCounts : ℕ → ℕ → Verdict → Type 0
LinkCounts before now verdicts.LinkFault = Rose before now
LinkCounts before now (verdicts.Ended (Certified b)) = (now ≡ before) ⊎ Rose before now
LinkCounts before now _ = now ≡ before

-- only a fault raises the output's count
abbrev pub WriteCounts : ℕ → ℕ → Verdict → Type 0
WriteCounts before now verdicts.WriteFault = Rose before now
WriteCounts before now _ = now ≡ before

-- a conversation by the pieces that passed over the link: it keeps pace with what came, ends as that says, and sends all that is asked
-- if no call fails
pub record IsHeld (x : Linking) (draw : ℕ → ℕ) (pieces : List Piece) (coming : Option (List ℕ)) (faults faults_now : ℕ) (verdict : Verdict) : Type 0 where
  pub pace : KeepsPace (wanted x.about draw) pieces
  pub cause : IsVerdict x draw (got pieces) (sent_bytes pieces) coming verdict
  pub all : ¬ (Rose faults faults_now) → verdict ≢ verdicts.WriteFault → sent_bytes pieces ≡ wanted x.about draw (got pieces)
