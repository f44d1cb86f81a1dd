-- Honest replies as frames.
use Rattle.std.proofs.Common.{arith, ℕ, suc, ◌≡◌, ◌+◌, ◌-◌, ◌*◌, ◌<◌, ◌≤◌, refl, sym, ◌∙◌, ap, subst, List, ◌++◌, length, get_or, take, drop}
use Rattle.std.proofs.Math.Seq.{take-append_seam}
use Rattle.std.proofs.lemmas.List.{length-append, length-drop}
use Rattle.blic_model.specs.Circuit.{OrderedCircuit}
use Rattle.blic_model.specs.CircuitLimits.{IsWithinLimits}
use Rattle.blic_model.specs.Shape.{IsShaped}
use Rattle.blic_claims.specs.ClaimLaws.{SomeClaimLaw}
use Rattle.blic_claims.specs.Honest.{honest_replies}
use Rattle.blic_claims.specs.Places.{HasMostClaims}
use Rattle.blic_claims.specs.Turns.{Turn, ForPolys, ForValues, Fits, turns, no_reply, reply_by}
use Rattle.blic_claims.specs.Turns.{Reply as ReplyOf}
use Rattle.blic_claims.specs.Turns.{Polys as PolysReply, Values as ValuesReply}
use Rattle.blic_messages.specs.Frames.{ask_spelling, reply_spelling}
use Rattle.blic_messages.specs.Reading.{IsReply}
use Rattle.blic_messages.specs.Replies.{Said, Answer, Polys, Values, Refused, polynomials_in}
use Rattle.blic_messages.specs.declared.ask.Ask.{Ask}
use Rattle.blic_messages.specs.declared.ask.Hello.{Hello as HelloOf}
use Rattle.blic_messages.specs.declared.ask.Ask.TheVariants.{Hello}
use Rattle.blic_messages.specs.declared.reply.Refusal.{Refusal}
use Rattle.blic_messages.proofs.Bodies.{length-poly_bodies}
use Rattle.blic_verifier.specs.HonestLaws.{HonestReplyFits, TurnsAreOfNodes}
use Rattle.blic_verifier.specs.SoundnessLaws.{ReplyHasElements}
use Rattle.blic_verifier.specs.Verdict.{Talk, Silent, Talked}
use Rattle.blic_verifier.specs.Conversation.{honest_reply}
use Rattle.blic_prover.specs.Honest.{Replied, honest}
use Rattle.blic_prover.specs.Honest.{OutOfTurn as NoTurn, NothingLeft as NoneLeft, NotServed as OtherServed, Ended as IsOver}
use Rattle.blic_prover.specs.Moves.{move_of, said_by}
use Rattle.blic_prover.specs.declared.step.Given.{Given}
use Rattle.blic_prover.specs.declared.step.Step.{Step}
use Rattle.blic_prover.specs.declared.step.Step.TheVariants.{Reply, OutOfTurn, NothingLeft, NotServed, Ended}
use Rattle.blic_field.specs.Quadratic.{Quadratic}
use Rattle.blic_prover.specs.Standing.{Proving}
use Rattle.blic_prover.specs.Standing.{ServesFor}
use Rattle.blic_talk.specs.Talking.{HasFrameRoom, IsAsked, StandsNext}
use Rattle.blic_verifier.specs.Asking.{IsOpen}
use Rattle.blic_talk.proofs.Following.{about, honest_move}

-- a reply for the frame: as the grammar has it, and with so many polynomials at most
abbrev pub IsHonestReply : ℕ → Said → Type 0
IsHonestReply most s = IsReply s × (polynomials_in s ≤ most) × ((r : Refusal) → s ≡ Refused r → ⊥)

-- what a reply at a turn is
of_turn : (c : OrderedCircuit) (most t : ℕ) → IsShaped c.nodes (length c.order) → IsWithinLimits c.nodes (length c.order) → TurnsAreOfNodes → SomeClaimLaw → HasMostClaims c most
    → t < length (turns c.nodes (length c.order)) → (u : Turn) → get_or (turns c.nodes (length c.order)) t (ForValues 0) ≡ u → (r : ReplyOf) → Fits c.nodes u r → ReplyHasElements r
    → IsHonestReply most (reply_by Polys Values r)
of_turn c most t shaped small of_nodes some is_most inside (ForPolys k i) is (PolysReply ps) fits elements =
    let node = (of_nodes c.nodes (length c.order) shaped).0 t k i inside is in
    let one = some c.nodes (length c.order) shaped k node.0 in
    let few = small.0 k (omega arith) node.0 node.1 in
    let within = is_most k node.0 node.1 in
    ((omega (arith, one, fits), omega (arith, few, fits), elements), omega (arith, within, fits), λ r e. cc e)
of_turn c most t shaped small of_nodes some is_most inside (ForPolys k i) is (ValuesReply u w) fits elements = absurd fits
of_turn c most t shaped small of_nodes some is_most inside (ForValues k) is (PolysReply ps) fits elements = absurd fits
of_turn c most t shaped small of_nodes some is_most inside (ForValues k) is (ValuesReply u w) fits elements = (elements, omega arith, λ r e. cc e)

pub honest_is : (c : OrderedCircuit) (h : HelloOf) (most : ℕ) (t : Talk) (n : ℕ) → IsShaped c.nodes (length c.order) → IsWithinLimits c.nodes (length c.order) → HonestReplyFits → TurnsAreOfNodes → SomeClaimLaw
    → HasMostClaims c most → IsOpen c t n → IsHonestReply most (honest_reply (about c h) t)
honest_is c h most Silent n shaped small fits of_nodes some is_most is_open = (tt, omega arith, λ r e. cc e)
honest_is c h most (Talked b draws replies) n shaped small fits of_nodes some is_most is_open =
    let both = fits c.nodes (length c.order) shaped draws is_open.1 (length replies) is_open.0 in
    of_turn c most (length replies) shaped small of_nodes some is_most is_open.0 (get_or (turns c.nodes (length c.order)) (length replies) (ForValues 0)) refl
    (get_or (honest_replies c.nodes (length c.order) draws (suc (length replies))) (length replies) no_reply) both.0 both.1

-- its frame is short enough
pub reply_room : (most : ℕ) (s : Said) → IsHonestReply most s → (5 ≤ length (reply_spelling s)) × (length (reply_spelling s) ≤ 28 + 24 * most)
reply_room most (Answer b) h = (omega arith, omega arith)
reply_room most (Polys ps) h = (omega arith, omega (arith, length-poly_bodies ps, h.1))
reply_room most (Values u w) h = (omega arith, omega arith)
reply_room most (Refused r) h = absurd (h.2 r refl)

-- a frame with the head of another reply's is no refusal
pub no_refusal_by : (came : List ℕ) (s : Said) (r : Refusal) → ((q : Refusal) → s ≡ Refused q → ⊥) → take 5 came ≡ take 5 (reply_spelling s) → came ≡ reply_spelling (Refused r) → ⊥
no_refusal_by came (Answer b) r none head is = omega (arith, ap (λ ys. get_or (take 5 ys) 4 0) (sym is) ∙ ap (λ ys. get_or ys 4 0) head)
no_refusal_by came (Polys ps) r none head is = omega (arith, ap (λ ys. get_or (take 5 ys) 4 0) (sym is) ∙ ap (λ ys. get_or ys 4 0) head)
no_refusal_by came (Values u w) r none head is = omega (arith, ap (λ ys. get_or (take 5 ys) 4 0) (sym is) ∙ ap (λ ys. get_or ys 4 0) head)
no_refusal_by came (Refused q) r none head is = absurd (none q refl)

-- the frame of a hello
pub hello_room : (ask : Ask) (h : HelloOf) → ask ≡ Hello h → length h.digest ≡ 32
    → (5 ≤ length (ask_spelling ask)) × (length (ask_spelling ask) ≤ 43) × (get_or (ask_spelling ask) 4 0 < 129)
hello_room ask h is long =
    subst (λ a. (5 ≤ length (ask_spelling a)) × (length (ask_spelling a) ≤ 43) × (get_or (ask_spelling a) 4 0 < 129)) (sym is) (omega arith, omega (arith, long), omega arith)

-- an honest reply that is given is the one that stands there
pub given_is : (c : OrderedCircuit) (h : HelloOf) (asks : List Ask) (ask : Ask) (t : Talk) (n : ℕ) (ps : List Quadratic) (g : Given) (s : Said) → StandsNext c h asks ask t → IsOpen c t n
    → move_of ps (Reply g) ≡ honest c h asks ask → s ≡ said_by ps g → s ≡ honest_reply (about c h) t
given_is c h asks ask t n ps g s stands is_open is same =
    let moves : Replied (said_by ps g) ≡ Replied (honest_reply (about c h) t) = is ∙ honest_move c h asks ask t n stands is_open in
    let one : said_by ps g ≡ honest_reply (about c h) t = cc in
    same ∙ one

-- no other step is taken
pub no_other : (c : OrderedCircuit) (h : HelloOf) (asks : List Ask) (ask : Ask) (t : Talk) (n : ℕ) (ps : List Quadratic) (x : Step) → StandsNext c h asks ask t → IsOpen c t n
    → move_of ps x ≡ honest c h asks ask → ((g : Given) → x ≡ Reply g → ⊥) → ⊥
no_other c h asks ask t n ps x stands is_open is not = from x refl
  where
    moves : move_of ps x ≡ Replied (honest_reply (about c h) t)
    moves = is ∙ honest_move c h asks ask t n stands is_open

    from : (y : Step) → x ≡ y → ⊥
    from (Reply g) e = not g e
    from OutOfTurn e = let m : NoTurn ≡ Replied (honest_reply (about c h) t) = ap (move_of ps) (sym e) ∙ moves in cc m
    from NothingLeft e = let m : NoneLeft ≡ Replied (honest_reply (about c h) t) = ap (move_of ps) (sym e) ∙ moves in cc m
    from (NotServed served other) e = let m : OtherServed served other ≡ Replied (honest_reply (about c h) t) = ap (move_of ps) (sym e) ∙ moves in cc m
    from Ended e = let m : IsOver ≡ Replied (honest_reply (about c h) t) = ap (move_of ps) (sym e) ∙ moves in cc m

-- the reply that was given is the one that stands there
pub given_reply : (p : Proving) (c : OrderedCircuit) (asks : List Ask) (ask : Ask) (t : Talk) (n : ℕ) (ps : List Quadratic) (g : Given) (x : Step) (s : Said) → p.circuit ≡ c → IsAsked p asks ask t n
    → x ≡ Reply g → ((qs : List Ask) → ServesFor p qs → move_of ps x ≡ honest p.circuit p.served qs ask) → s ≡ said_by ps g → (h : HelloOf) → s ≡ honest_reply (about c h) t
given_reply p c asks ask t n ps g x s same asked is says shown h =
    given_is p.circuit p.served asks ask t n ps g s asked.next asked.left (ap (move_of ps) (sym is) ∙ says asks asked.stands) shown ∙ ap (λ z. honest_reply (about z h) t) same

pub never : (p : Proving) (asks : List Ask) (ask : Ask) (t : Talk) (n : ℕ) (ps : List Quadratic) (x : Step) → IsAsked p asks ask t n
    → ((qs : List Ask) → ServesFor p qs → move_of ps x ≡ honest p.circuit p.served qs ask) → ((g : Given) → x ≡ Reply g → ⊥) → ⊥
never p asks ask t n ps x asked says not = no_other p.circuit p.served asks ask t n ps x asked.next asked.left (says asks asked.stands) not

-- and has the shape of one
pub honest_shape : (p : Proving) (c : OrderedCircuit) (h : HelloOf) (asks : List Ask) (ask : Ask) (t : Talk) (n bytes polys : ℕ) → p.circuit ≡ c → IsShaped c.nodes (length c.order)
    → IsWithinLimits c.nodes (length c.order) → HonestReplyFits → TurnsAreOfNodes → SomeClaimLaw → HasFrameRoom c bytes polys → IsAsked p asks ask t n → IsHonestReply polys (honest_reply (about c h) t)
honest_shape p c h asks ask t n bytes polys same shaped small fits of_nodes some room asked =
    honest_is c h polys t n shaped small fits of_nodes some room.most (subst (λ z. IsOpen z t n) same asked.left)

-- at most as many polynomials as the format allows
pub few_polys : (most : ℕ) (s : Said) → IsHonestReply most s → polynomials_in s ≤ 65536
few_polys most (Answer b) h = omega arith
few_polys most (Polys ps) h = h.0.1
few_polys most (Values u w) h = omega arith
few_polys most (Refused r) h = omega arith

-- a frame that stands at the front of the buffer
pub at_front : (out spelled rest : List ℕ) (n : ℕ) → out ≡ spelled ++ rest → n ≡ length spelled → take n out ≡ spelled
at_front out spelled rest n is long = ap (take n) is ∙ (ap (λ k. take k (spelled ++ rest)) long ∙ take-append_seam spelled rest)

-- and leaves room behind it
pub room_behind : (out old : List ℕ) (s said : Said) (n most : ℕ) → IsHonestReply most s → said ≡ s → out ≡ reply_spelling said ++ drop n old → n ≡ length (reply_spelling said)
    → length old ≡ 43 + 24 * most → (5 ≤ n) × (n + 15 ≤ length out)
room_behind out old s said n most shape is written long room =
    let short = reply_room most s shape in
    let count : n ≡ length (reply_spelling s) = long ∙ ap (λ z. length (reply_spelling z)) is in
    let all : length out ≡ length (reply_spelling said) + (length old - n) = ap length written ∙ (length-append (reply_spelling said) (drop n old) ∙ ap (λ m. length (reply_spelling said) + m) (length-drop n old)) in
    (omega (arith, short.0, count), omega (arith, short.1, count, all, long, room))
