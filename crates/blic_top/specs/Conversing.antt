-- One conversation of a series: in one process, or over a link.
use Rattle.std.specs.Prelude.{◌≡◌, ◌≢◌, ℕ, ◌+◌, Bool, true, false, cond, List, [], ◌∷◌, ◌++◌, length, flat_map, map, Some, ◌⊎◌}
use Rattle.blic_claims.specs.Turns.{turns}
use Rattle.blic_client.specs.Linked.{IsHeld, IsSound, LinkCounts}
use Rattle.blic_client.specs.declared.verdict.Verdict.{Verdict}
use Rattle.blic_client.specs.declared.verdict.Verdict.TheVariants as verdicts
use Rattle.blic_link.specs.Dialing.{Entry}
use Rattle.blic_link.specs.Passing.{got, sent_bytes}
use Rattle.blic_messages.specs.Frames.{reply_spelling}
use Rattle.blic_messages.specs.Replies.{Said}
use Rattle.blic_model.specs.Value.{RootIs}
use Rattle.blic_print.specs.Printing.{talk_text}
use Rattle.blic_talk.specs.Wire.{IsConversation, IsStepping, spoken}
use Rattle.blic_verifier.specs.Conversation.{Instance, AreHonest, beginning}
use Rattle.blic_verifier.specs.Hearing.{record_frames}
use Rattle.blic_verifier.specs.Verdict.{Talk}
use Rattle.blic_verifier.specs.declared.ending.Ending.{Ending}
use Rattle.blic_verifier.specs.declared.ending.Ending.TheVariants.{Certified}
use Rattle.blic_input.specs.Problem.{Problem, instance_of}
use Rattle.blic_top.specs.Deed.{Trace}
use Rattle.blic_top.specs.Series.{certified}

-- ---- in one process

-- the frames are those of a conversation about the problem that ended so, whatever a watch altered: if a wrong answer was certified,
-- what was said shows a bad draw. Where nothing was altered, the truth was certified
pub record Converses (p : Problem) (draw : ℕ → ℕ) (alters : Bool) (frames : List (List ℕ)) (e : Ending) : Type 0 where
  pub talk : Talk
  pub conversed : IsConversation (instance_of p) draw alters frames e talk
  pub root : RootIs p.circuit p.truth
  pub sound : IsSound (instance_of p) e talk
  pub truly : alters ≡ false → e ≡ Certified p.truth

-- what a conversation in one process leaves: its frames, and if they are to be printed a line for each
abbrev pub shown : List (List ℕ) → List ℕ → Trace
shown fs text = record { frames = fs; talks = []; missed = 0; lines = text }

abbrev pub InProcess : Problem → (ℕ → ℕ → ℕ) → Bool → Bool → ℕ → Trace → Verdict → Type 0
InProcess p draws alters talk k trace (verdicts.Ended e) =
    (frames : List (List ℕ)) × Converses p (draws k) alters frames e × (trace ≡ shown frames (cond talk (talk_text (spoken e frames)) []))
InProcess p draws alters talk k trace _ = ⊥

-- its lines are printed, and those of a step are under way
abbrev pub Steps : Problem → (ℕ → ℕ → ℕ) → Bool → Bool → ℕ → Trace → List ℕ → Type 0
Steps p draws alters talk k trace piece =
    (frames : List (List ℕ)) × (lines : List ℕ) × (talk ≡ true) × IsStepping (instance_of p) (draws k) alters frames lines piece × (trace ≡ shown frames lines)

-- ---- over a link

-- the bytes begin with all replies that a prover gives
pub record AreHonestBytes (x : Instance) (draw : ℕ → ℕ) (bytes : List ℕ) : Type 0 where
  pub replies : List Said
  pub honest : AreHonest x draw (beginning x) (map Some replies)
  pub all : length replies ≡ 1 + length (turns x.circuit.nodes (length x.circuit.order))
  pub rest : List ℕ
  pub begin : bytes ≡ flat_map reply_spelling replies ++ rest

-- over the link there passed a conversation about the problem that came to this verdict, whoever sent the replies: if a wrong answer
-- was certified, what was said shows a bad draw. Where no call failed and honest replies came, the truth was certified
pub record Leads (p : Problem) (draw : ℕ → ℕ) (talk : Bool) (entry : Entry) (verdict : Verdict) : Type 0 where
  pub held : IsHeld (record { about = instance_of p; talk = talk }) draw entry.pieces (Some entry.coming) 0 entry.faults verdict
  pub faults : LinkCounts 0 entry.faults verdict
  pub root : RootIs p.circuit p.truth
  pub truly : entry.faults ≡ 0 → verdict ≢ verdicts.WriteFault → AreHonestBytes (instance_of p) draw (got entry.pieces ++ entry.coming)
      → verdict ≡ certified p.truth

-- the text of the record: a line for each ask that was sent and each reply that came
abbrev pub record_text : Problem → (ℕ → ℕ) → Entry → List ℕ
record_text p draw entry = talk_text (record_frames (instance_of p) draw (got entry.pieces) (sent_bytes entry.pieces))

-- what a conversation over a link leaves: the link, hung up, and the lines; or a dial that failed
abbrev pub linked : Entry → List ℕ → Trace
linked entry text = record { frames = []; talks = entry ∷ []; missed = 0; lines = text }

abbrev pub undialed : Trace
undialed = record { frames = []; talks = []; missed = 1; lines = [] }

abbrev pub OverLink : Problem → (ℕ → ℕ → ℕ) → Bool → ℕ → Trace → Verdict → Type 0
OverLink p draws talk k trace verdicts.WriteFault = ⊥
OverLink p draws talk k trace verdict =
    ((trace ≡ undialed) × (verdict ≡ verdicts.LinkFault))
    ⊎ ((entry : Entry) × Leads p (draws k) talk entry verdict × (trace ≡ linked entry (cond talk (record_text p (draws k) entry) [])))

-- its lines are being printed
abbrev pub Records : Problem → (ℕ → ℕ → ℕ) → Bool → ℕ → Trace → List ℕ → Type 0
Records p draws talk k trace piece =
    (entry : Entry) × (talk ≡ true) × Leads p (draws k) talk entry verdicts.WriteFault × (trace ≡ linked entry []) × (piece ≡ record_text p (draws k) entry)
