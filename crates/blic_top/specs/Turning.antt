-- Private: conversations one after another, as they are held. No public contract cites this file.
use Rattle.std.specs.Prelude.{◌≡◌, ℕ, ◌<◌, Bool, true, not, List, [], ◌++◌, take, Option, Some, None, Result, Ok, Err, ◌⊎◌}
use Rattle.std.specs.Io.KnownBytes.{append_known}
use Rattle.blic_basic.specs.Outside.{Rose}
use Rattle.blic_client.specs.declared.verdict.Verdict.{Verdict}
use Rattle.blic_client.specs.declared.verdict.Verdict.TheVariants as verdicts
use Rattle.blic_talk.specs.Wire.{Shows}
use Rattle.blic_top.specs.Deed.{Trace, Deed, Dials, DialerTold, TookSeed}
use Rattle.blic_top.specs.Series.{AreCertified, BreaksOff, Decided, InTurn, UnderWay, certified}
use Rattle.blic_top.specs.declared.conversations.Course.{Course}
use Rattle.blic_top.specs.declared.conversations.Course.TheVariants.{Agreed, Differ, Failed}

-- a call on the output failed at this piece, behind the lines
abbrev pub IsCut : Trace → List ℕ → Option (List ℕ) → Option (List ℕ) → Type 0
IsCut trace piece old new = (n : ℕ) × (new ≡ append_known old (trace.lines ++ take n piece))

-- conversation number k was held: it left this trace, whose lines are printed; or a line was cut off
abbrev pub IsTurn : InTurn → UnderWay → ℕ → Trace → Option (List ℕ) → Option (List ℕ) → Verdict → Type 0
IsTurn Held Steps k trace old new verdicts.WriteFault = (piece : List ℕ) × Steps k trace piece × IsCut trace piece old new
IsTurn Held Steps k trace old new verdict = Held k trace verdict × (new ≡ append_known old trace.lines)

-- no answer was certified, and no line was cut off
abbrev pub IsFailure : Verdict → Type 0
IsFailure verdict = ((b : Bool) → verdict ≡ certified b → ⊥) × (verdict ≡ verdicts.WriteFault → ⊥)

-- what conversations came to, with all their lines printed; or a line was cut off
abbrev pub Comes : InTurn → UnderWay → ℕ → Trace → Option (List ℕ) → Option (List ℕ) → Course → Type 0
Comes Held Steps count trace old new (Agreed b) = AreCertified Held count b trace × (new ≡ append_known old trace.lines)
Comes Held Steps count trace old new Differ =
    ((d : Decided Held count trace (λ b. certified (not b))) × (0 < d.number)) × (new ≡ append_known old trace.lines)
Comes Held Steps count trace old new (Failed verdicts.WriteFault) = (piece : List ℕ) × BreaksOff Held Steps count trace piece × IsCut trace piece old new
Comes Held Steps count trace old new (Failed verdict) = Decided Held count trace (λ b. verdict) × IsFailure verdict × (new ≡ append_known old trace.lines)

-- the verdict that comes next to an answer on which those before agreed, if there are any
abbrev pub Agrees : Option Bool → Verdict → Result Bool Course → Type 0
Agrees agreed verdict (Ok b) = (verdict ≡ certified b) × ((agreed ≡ None) ⊎ (agreed ≡ Some b))
Agrees agreed verdict (Err (Agreed b)) = ⊥
Agrees agreed verdict (Err Differ) = (b : Bool) × (agreed ≡ Some b) × (verdict ≡ certified (not b))
Agrees agreed verdict (Err (Failed v)) = (v ≡ verdict) × ((b : Bool) → verdict ≡ certified b → ⊥)

-- so many conversations were held, which agreed on this answer, if there are any
abbrev pub HaveAgreed : InTurn → ℕ → Trace → Option Bool → Type 0
HaveAgreed Held k trace None = (k ≡ 0) × AreCertified Held k true trace
HaveAgreed Held k trace (Some b) = (0 < k) × AreCertified Held k b trace

-- the frames that a watch saw, and no link
abbrev pub IsSeen : Option (List (List ℕ)) → Option (List (List ℕ)) → Trace → Type 0
IsSeen seen seen_now trace = Shows seen seen_now trace.frames × (trace.talks ≡ []) × (trace.missed ≡ 0)

-- the links that were dialed, and no frames
abbrev pub IsDialed : DialerTold → DialerTold → Trace → Type 0
IsDialed before now trace = Dials before now trace.talks trace.missed × (trace.frames ≡ [])

-- a deed in one process, and one over links
abbrev pub IsDoneHere : Option (ℕ → Option (List ℕ)) → Option (ℕ → Option (List ℕ)) → Option (List (List ℕ)) → Option (List (List ℕ)) → Deed → Type 0
IsDoneHere seeds seeds_now seen seen_now deed = TookSeed seeds seeds_now deed.seed × IsSeen seen seen_now deed.trace

abbrev pub IsDoneOver : Option (ℕ → Option (List ℕ)) → Option (ℕ → Option (List ℕ)) → DialerTold → DialerTold → Deed → Type 0
IsDoneOver seeds seeds_now before now deed = TookSeed seeds seeds_now deed.seed × IsDialed before now deed.trace

-- only a fault of the output raises its count
abbrev pub CourseCounts : ℕ → ℕ → Course → Type 0
CourseCounts before now (Failed verdicts.WriteFault) = Rose before now
CourseCounts before now _ = now ≡ before
