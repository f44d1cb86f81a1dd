-- How what is said of each reply is acceptance, and the first fault, of the whole conversation.
use Rattle.std.specs.Prelude.{ℕ, ◌≡◌, ◌+◌, ◌-◌, ◌≤◌, ◌↔◌, Bool, List, ◌++◌, length, take, filter, Some}
use Rattle.std.specs.List.{AllZip}
use Rattle.blic_model.specs.declared.node.Node.{Node}
use Rattle.blic_model.specs.Counts.{draws as draw_count}
use Rattle.blic_claims.specs.Claims.{Transcript}
use Rattle.blic_claims.specs.Turns.{Reply, Fits, turns, transcript, is_polys}
use Rattle.blic_verifier.specs.Acceptance.{Check, Passes, first_fault}
use Rattle.blic_verifier.specs.Verdict.{Done, judged, fault_upto}

-- of an answer, all draws and all replies, which fit their turns, it is said that the answer stands exactly if they pass
abbrev pub DoneIsAcceptance : Type 0
DoneIsAcceptance =
    (nodes : List Node) (levels : ℕ) (answer : Bool) (draws : List ℕ) (replies : List Reply)
    → length draws ≡ draw_count nodes levels → AllZip (Fits nodes) (turns nodes levels) replies
    → (judged nodes levels answer draws replies ≡ Done answer) ↔ Passes nodes levels answer draws replies

-- a condition that is the first of those shown so far to fail is the first of all to fail
abbrev pub ShownFaultIsFirst : Type 0
ShownFaultIsFirst =
    (nodes : List Node) (levels : ℕ) (T : Transcript) (n : ℕ) (c : Check)
    → fault_upto nodes levels T n ≡ Some c → first_fault nodes levels T ≡ Some c

-- what the replies so far show stays as it is, whatever is drawn and said afterwards; a draw comes after each reply of polynomials
-- but the last
abbrev pub FaultIsFixed : Type 0
FaultIsFixed =
    (nodes : List Node) (levels : ℕ) (answer : Bool) (draws others : List ℕ) (replies more : List Reply)
    → length (filter is_polys (take (length replies - 1) (turns nodes levels))) ≤ length draws
    → fault_upto nodes levels (transcript nodes levels answer draws replies) (length replies + 1)
    ≡ fault_upto nodes levels (transcript nodes levels answer (draws ++ others) (replies ++ more)) (length replies + 1)
