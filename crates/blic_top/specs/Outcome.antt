-- The status and the text of each outcome.
use Rattle.std.specs.Prelude.{ℕ, Bool, cond, List, ◌++◌, codes, decimal}
use Rattle.blic_input.specs.StopTexts.{line_end, stop_status, stop_text}
use Rattle.hex.specs.Hex.{encode_lower}
use Rattle.blic_messages.specs.declared.ask.Hello.{Hello}
use Rattle.blic_messages.specs.declared.reply.Refusal.{Refusal}
use Rattle.blic_messages.specs.declared.reply.Refusal.TheVariants.{OutOfTurn, NothingLeft, NotServed, Broken}
use Rattle.blic_verifier.specs.declared.place.Part.{Part}
use Rattle.blic_verifier.specs.declared.place.Part.TheVariants.{Poly, Ends, Combine, Leaf}
use Rattle.blic_top.specs.declared.outcome.Failure.{Failure}
use Rattle.blic_top.specs.declared.outcome.Failure.TheVariants.{Rejected, WrongKind, WrongCount, NotFrame, Refused, Cut, LinkFault}
use Rattle.blic_top.specs.declared.outcome.Answer.{Answer}
use Rattle.blic_top.specs.declared.outcome.Tally.{Tally}
use Rattle.blic_top.specs.declared.outcome.End.{End}
use Rattle.blic_top.specs.declared.outcome.End.TheVariants.{Solved, Certified, Exercised, Failed, Differ}
use Rattle.blic_top.specs.declared.outcome.Outcome.{Outcome}
use Rattle.blic_top.specs.declared.outcome.Outcome.TheVariants.{Usage, NoMemory, Stopped, Done}

-- 13 for what is no frame, 6 for a reply that the verifier refuses, 7 for a refusal of the server, 12 for a link that ended, 5 for one that failed
abbrev pub failure_status : Failure → ℕ
failure_status (Rejected place) = 6
failure_status (WrongKind turn) = 6
failure_status (WrongCount turn want got) = 6
failure_status NotFrame = 13
failure_status (Refused refusal ours) = 7
failure_status Cut = 12
failure_status LinkFault = 5

abbrev pub truth_status : Bool → ℕ
truth_status t = cond t 10 20

abbrev pub end_status : End → ℕ
end_status (Solved a) = truth_status a.truth
end_status (Certified a n) = truth_status a.truth
end_status (Exercised a n) = 0
end_status (Failed failure) = failure_status failure
end_status Differ = 15

abbrev pub status_of : Outcome → ℕ
status_of Usage = 1
status_of NoMemory = 9
status_of (Stopped stop) = stop_status stop
status_of (Done end) = end_status end

-- which check of a node fails, and for which claim
abbrev pub check_text : Part → ℕ → List ℕ
check_text (Poly i) claim = codes " poly " ++ decimal i ++ codes " claim " ++ decimal claim
check_text Ends claim = codes " ends claim " ++ decimal claim
check_text Combine claim = codes " combine"
check_text Leaf claim = codes " leaf claim " ++ decimal claim

-- the versions of the wire and of the circuit, the order, and the digest
abbrev pub hello_text : Hello → List ℕ
hello_text h = decimal h.wire ++ codes " " ++ decimal h.circuit ++ codes " " ++ decimal h.order ++ codes " " ++ encode_lower h.digest

abbrev pub refusal_text : Refusal → Hello → List ℕ
refusal_text OutOfTurn ours = codes "OutOfTurn"
refusal_text NothingLeft ours = codes "NothingLeft"
refusal_text (NotServed theirs) ours = codes "NotServed ours " ++ hello_text ours ++ codes " theirs " ++ hello_text theirs
refusal_text Broken ours = codes "Broken"

abbrev pub failure_text : Failure → List ℕ
failure_text (Rejected place) = codes "c rejected node " ++ decimal place.node ++ check_text place.part place.claim ++ line_end
failure_text (WrongKind turn) = codes "c rejected kind turn " ++ decimal turn ++ line_end
failure_text (WrongCount turn want got) =
    codes "c rejected count turn " ++ decimal turn ++ codes " want " ++ decimal want ++ codes " got " ++ decimal got ++ line_end
failure_text NotFrame = codes "c not a frame" ++ line_end
failure_text (Refused refusal ours) = codes "c server refused " ++ refusal_text refusal ours ++ line_end
failure_text Cut = codes "c link cut" ++ line_end
failure_text LinkFault = codes "c link fault" ++ line_end

-- the answer line of QDIMACS
abbrev pub answer_text : Answer → List ℕ
answer_text a = cond a.truth (codes "s cnf 1 ") (codes "s cnf 0 ") ++ decimal a.vars ++ codes " " ++ decimal a.clauses ++ line_end

abbrev pub tally_text : Tally → List ℕ
tally_text n = codes "runs " ++ decimal n.runs ++ line_end ++ codes "draws " ++ decimal n.draws ++ line_end ++ codes "bad " ++ decimal n.bad ++ line_end

abbrev pub exercised_text : Answer → Tally → List ℕ
exercised_text a n =
    cond a.truth (codes "true") (codes "false") ++ codes " vars " ++ decimal a.vars ++ codes " clauses " ++ decimal a.clauses
    ++ codes " draws " ++ decimal n.draws ++ codes " bad " ++ decimal n.bad ++ line_end

abbrev pub end_text : End → List ℕ
end_text (Solved a) = answer_text a
end_text (Certified a n) = answer_text a ++ tally_text n
end_text (Exercised a n) = exercised_text a n
end_text (Failed failure) = failure_text failure
end_text Differ = codes "c runs differ" ++ line_end

abbrev pub text_of : Outcome → List ℕ
text_of Usage = codes "usage: blic solve FILE, certify FILE, verify FILE ADDR or exercise N" ++ line_end
text_of NoMemory = codes "c want of memory" ++ line_end
text_of (Stopped stop) = stop_text stop
text_of (Done end) = end_text end
