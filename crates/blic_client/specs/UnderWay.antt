-- Private: a conversation over a link that is under way. No public contract cites this file, but for what a client is made of.
use Rattle.std.specs.Prelude.{ℕ, ◌≡◌, ◌<◌, ◌≤◌, ◌⊎◌, Bool, true, cond, List, [], length, take, drop, map, Option, Some, None, IfSome, Result, Ok, Err}
use Rattle.std.specs.Io.KnownBytes.{append_known}
use Rattle.blic_basic.specs.Outside.{Rose}
use Rattle.blic_claims.specs.Turns.{turns}
use Rattle.blic_draw.specs.DrawRun.{draw_from}
use Rattle.blic_link.specs.Passing.{Piece, sent_bytes}
use Rattle.blic_messages.specs.Frames.{ask_spelling, reply_spelling}
use Rattle.blic_messages.specs.Fronts.{reply_grammar}
use Rattle.blic_messages.specs.Grammar.{Whole, Broken, Partial, front}
use Rattle.blic_messages.specs.Replies.{Said}
use Rattle.blic_messages.specs.declared.ask.Ask.TheVariants.{Bye}
use Rattle.blic_print.specs.Printing.{frame_line, talk_text}
use Rattle.blic_verifier.specs.Asking.{Asking, IsAt, IsSaidAt}
use Rattle.blic_verifier.specs.Conversation.{Position, read_on}
use Rattle.blic_verifier.specs.Hearing.{last_asks, spelled}
use Rattle.blic_verifier.specs.declared.asker.Following.{Following}
use Rattle.blic_verifier.specs.declared.ending.Ending.{Ending}
use Rattle.blic_verifier.specs.declared.ending.Ending.TheVariants.{Certified}
use Rattle.blic_client.specs.Linked.{Linking, LinkCounts, WriteCounts}
use Rattle.blic_client.specs.declared.machine.Machine.{Machine}
use Rattle.blic_client.specs.declared.verdict.Verdict.{Verdict}
use Rattle.blic_client.specs.declared.verdict.Verdict.TheVariants.{Ended, Cut, LinkFault, WriteFault}

abbrev pub linking : Machine → Linking
linking m = record { about = m.asker.about; talk = m.talk }

-- what holds of the parts: they are of one circuit, whose turns are counted, and there is room for the longest line
pub record AreFitted (m : Machine) : Type 0 where
  pub circuit : m.circuit.now ≡ m.asker.about.circuit
  pub turns : m.turns ≡ length (turns m.asker.about.circuit.nodes (length m.asker.about.circuit.order))
  pub room : m.talk ≡ true → 1572869 ≤ length m.frame.items

-- a result that isn't a verdict leaves the counts as they were
abbrev pub LinkRises : {X : Type 0} → ℕ → ℕ → Result X Verdict → Type 0
LinkRises before now (Ok x) = now ≡ before
LinkRises before now (Err verdict) = LinkCounts before now verdict

abbrev pub WriteRises : {X : Type 0} → ℕ → ℕ → Result X Verdict → Type 0
WriteRises before now (Ok x) = now ≡ before
WriteRises before now (Err verdict) = WriteCounts before now verdict

-- the text is printed if it is to be; or a prefix of it, if a call failed
abbrev pub IsPrinted : Bool → List ℕ → Result Unit Verdict → Option (List ℕ) → Option (List ℕ) → Type 0
IsPrinted talk text (Ok u) held held_now = held_now ≡ append_known held (cond talk text [])
IsPrinted talk text (Err WriteFault) held held_now = (talk ≡ true) × ((n : ℕ) × (held_now ≡ append_known held (take n text)))
IsPrinted talk text (Err _) held held_now = ⊥

-- the frame was sent, and its line printed if it is to be; or a call failed, and a prefix of one of them is there
abbrev pub IsSaying : Bool → List ℕ → Result Unit Verdict → List Piece → Option (List ℕ) → Option (List ℕ) → Type 0
IsSaying talk frame (Ok u) pieces held held_now = (sent_bytes pieces ≡ frame) × (held_now ≡ append_known held (cond talk (frame_line frame) []))
IsSaying talk frame (Err LinkFault) pieces held held_now = ((n : ℕ) × (n < length frame) × (sent_bytes pieces ≡ take n frame)) × (held_now ≡ held)
IsSaying talk frame (Err WriteFault) pieces held held_now =
    (talk ≡ true) × (sent_bytes pieces ≡ frame) × ((n : ℕ) × (held_now ≡ append_known held (take n (frame_line frame))))
IsSaying talk frame (Err _) pieces held held_now = ⊥

-- the line of a reply, if there is one
abbrev pub reply_line : Option Said → List ℕ
reply_line None = []
reply_line (Some s) = frame_line (reply_spelling s)

-- the bytes begin with that reply, behind which these are left; or they are none
abbrev pub IsReading : Option Said → List ℕ → List ℕ → Type 0
IsReading (Some s) bytes rest = (n : ℕ) × (front reply_grammar bytes ≡ Whole s n) × (rest ≡ drop n bytes)
IsReading None bytes rest = front reply_grammar bytes ≡ Broken

-- by the reading the asker goes on from where it stands
abbrev pub IsJudged : Asking → Asking → Option Said → Following → Type 0
IsJudged a b reading following =
    (p : Position) → IsAt a p → IsAt b (read_on a.about (draw_from a.draws.source) p reading) × IsSaidAt following (read_on a.about (draw_from a.draws.source) p reading)

-- what came of an ask, by all bytes that were not read yet
abbrev pub IsHearing : Machine → Machine → List ℕ → Option (List ℕ) → Option (List ℕ) → Option (List ℕ) → Result Following Verdict → Type 0
IsHearing m new bytes coming held held_now (Ok following) =
    (reading : Option Said) × IsReading reading bytes new.inbox × (held_now ≡ append_known held (cond m.talk (reply_line reading) []))
    × IsJudged m.asker new.asker reading following
IsHearing m new bytes coming held held_now (Err Cut) = (front reply_grammar bytes ≡ Partial) × IfSome coming (λ more. more ≡ []) × (held_now ≡ held)
IsHearing m new bytes coming held held_now (Err LinkFault) = (front reply_grammar bytes ≡ Partial) × (held_now ≡ held)
IsHearing m new bytes coming held held_now (Err WriteFault) =
    (m.talk ≡ true) × (reading : Option Said) × (rest : List ℕ) × IsReading reading bytes rest × (n : ℕ) × (held_now ≡ append_known held (take n (reply_line reading)))
IsHearing m new bytes coming held held_now (Err (Ended e)) = ⊥

-- Bye was sent if an answer was accepted, and its line printed if it is to be; or a call failed, and a prefix of one of them is there
abbrev pub IsParting : Ending → Bool → ℕ → ℕ → List Piece → Option (List ℕ) → Option (List ℕ) → Verdict → Type 0
IsParting e talk faults faults_now pieces held held_now (Ended f) =
    (f ≡ e) × (((sent_bytes pieces ≡ spelled (last_asks e)) × (held_now ≡ append_known held (cond talk (talk_text (map ask_spelling (last_asks e))) [])))
    ⊎ ((b : Bool) × (e ≡ Certified b) × Rose faults faults_now × IsSaying talk (ask_spelling Bye) (Err LinkFault) pieces held held_now))
IsParting e talk faults faults_now pieces held held_now WriteFault = (b : Bool) × (e ≡ Certified b) × IsSaying talk (ask_spelling Bye) (Err WriteFault) pieces held held_now
IsParting e talk faults faults_now pieces held held_now _ = ⊥
