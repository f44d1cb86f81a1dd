-- A conversation in which no reply is altered.
use Rattle.std.proofs.Common.{arith, ℕ, ◌≡◌, ◌<◌, refl, ◌∙◌, ap, subst, List, [], ◌∷◌, ◌++◌, length, Bool, true, false, eqb}
use Rattle.std.specs.Prelude.{IfSome, Option, None, Some}
use Rattle.blic_field.specs.Field.{modulus}
use Rattle.blic_model.specs.Circuit.{OrderedCircuit}
use Rattle.blic_model.specs.CircuitLimits.{IsWithinLimits}
use Rattle.blic_model.specs.Shape.{IsShaped}
use Rattle.blic_model.specs.Value.{RootIs, bit}
use Rattle.blic_claims.specs.Claims.{zero_point}
use Rattle.blic_claims.specs.ClaimLaws.{SomeClaimLaw}
use Rattle.blic_claims.specs.Honest.{honest_answer}
use Rattle.blic_claims.specs.Places.{HasMostClaims}
use Rattle.blic_messages.specs.Reading.{IsReply, Reads}
use Rattle.std.proofs.lemmas.List.Elements.{All-cons, All-nil}
use Rattle.blic_messages.specs.Replies.{Said}
use Rattle.blic_messages.specs.declared.ask.Hello.{Hello as HelloOf}
use Rattle.blic_messages.specs.declared.ask.Ask.{Ask}
use Rattle.blic_verifier.specs.Verdict.{Talk}
use Rattle.blic_verifier.specs.HonestLaws.{HonestConversationAccepts, HonestReplyFits, TurnsAreOfNodes}
use Rattle.blic_verifier.specs.Conversation.{Instance, AreHonest, Awaits, Ended, GoesOnOrAccepts, Position, beginning, honest_reply, position_after, read_on}
use Rattle.blic_verifier.specs.declared.ending.Ending.{Ending}
use Rattle.blic_verifier.specs.declared.ending.Ending.TheVariants.{Certified}
use Rattle.blic_verifier.specs.Certified.{AreReplies}
use Rattle.blic_talk.specs.Wire.{Leads}
use Rattle.blic_talk.specs.Talking.{StandsNext}
use Rattle.blic_verifier.specs.Asking.{IsOpen}
use Rattle.blic_talk.proofs.Turning.{read_stands}
use Rattle.blic_talk.proofs.Following.{about}
use Rattle.blic_talk.proofs.Replying.{honest_is}
use Rattle.blic_talk.proofs.Starting.{nothing_asked}

-- a frame says one thing
abbrev pub OneMeaning : Type 0
OneMeaning = (frame : List ℕ) (r q : Option Said) → Reads frame r → Reads frame q → r ≡ q

-- an ask that stands next, with a reply left to come
abbrev IsFine : OrderedCircuit → HelloOf → Position → Type 0
IsFine c h (Awaits ask t n) = (asks : List Ask) × StandsNext c h asks ask t × IsOpen c t n
IsFine c h (Ended e t) = Unit {0}

fine_next : (c : OrderedCircuit) (h : HelloOf) (draw : ℕ → ℕ) → ((n : ℕ) → draw n < modulus) → (ask : Ask) (t : Talk) (n : ℕ) (says : Option Said) → IsFine c h (Awaits ask t n)
    → IsFine c h (read_on (about c h) draw (Awaits ask t n) says)
fine_next c h draw elements ask t n says (asks, stands, is_open) = from (read_on (about c h) draw (Awaits ask t n) says) refl
  where
    from : (q : Position) → read_on (about c h) draw (Awaits ask t n) says ≡ q → IsFine c h q
    from (Awaits asked u m) e = let after = read_stands c h draw elements asks ask asked t u says n m stands is_open e in (asks ++ ask ∷ [], after.0, after.1)
    from (Ended end u) e = tt

-- what holds of the circuit
pub record HasLaws (c : OrderedCircuit) : Type 0 where
  pub shaped : IsShaped c.nodes (length c.order)
  pub small : IsWithinLimits c.nodes (length c.order)
  pub fits : HonestReplyFits
  pub of_nodes : TurnsAreOfNodes
  pub some : SomeClaimLaw
  pub meaning : OneMeaning
  pub accepts : HonestConversationAccepts

most_is : (c : OrderedCircuit) → IsWithinLimits c.nodes (length c.order) → HasMostClaims c 65536
most_is c small k inside binary = small.0 k (omega arith) inside binary

-- what is read of frames that came unaltered
readings_of : (c : OrderedCircuit) → HasLaws c → (h : HelloOf) (draw : ℕ → ℕ) → ((n : ℕ) → draw n < modulus) → (p : Position) (way : List (List ℕ)) (q : Position) → IsFine c h p
    → Leads (about c h) draw false p way q → (readings : List (Option Said)) × AreHonest (about c h) draw p readings × (position_after (about c h) draw p readings ≡ q)
readings_of c laws h draw elements p [] q fine e = ([], tt, e)
readings_of c laws h draw elements p (a ∷ []) q fine l = absurd l
readings_of c laws h draw elements (Ended end u) (a ∷ b ∷ way) q fine l = absurd l
readings_of c laws h draw elements (Awaits ask t n) (a ∷ b ∷ way) q fine (is, carried, (says, reads, rest)) =
    let reply = honest_is c h 65536 t n laws.shaped laws.small laws.fits laws.of_nodes laws.some (most_is c laws.small) fine.2 in
    let said_is : says ≡ Some (honest_reply (about c h) t) = laws.meaning b says (Some (honest_reply (about c h) t)) reads (reply.0, carried.1 refl) in
    let more = readings_of c laws h draw elements (read_on (about c h) draw (Awaits ask t n) says) way q (fine_next c h draw elements ask t n says fine) rest in
    (says ∷ more.0, (said_is, more.1), more.2)

ended_so : (x : Instance) (b : Bool) (n : ℕ) (e : Ending) (t : Talk) (p : Position) → p ≡ Ended e t → GoesOnOrAccepts x b n p → e ≡ Certified b
ended_so x b n e t p is accepts = (subst (GoesOnOrAccepts x b n) is accepts).0

-- it ends with the honest answer certified
pub honest_end : (c : OrderedCircuit) → HasLaws c → (h : HelloOf) (draw : ℕ → ℕ) → ((n : ℕ) → draw n < modulus) → (way : List (List ℕ)) (e : Ending) (t : Talk)
    → Leads (about c h) draw false (beginning (about c h)) way (Ended e t) → e ≡ Certified (honest_answer c.nodes (length c.order))
honest_end c laws h draw elements way e t leads =
    let read = readings_of c laws h draw elements (beginning (about c h)) way (Ended e t) ([], (refl, nothing_asked c h), refl) leads in
    ended_so (about c h) _ (length read.0) e t _ read.2 (laws.accepts (about c h) laws.shaped draw elements read.0 read.1)

-- and the honest answer is the one that the root stands for
pub honest_truth : (c : OrderedCircuit) (t : Bool) → RootIs c t → honest_answer c.nodes (length c.order) ≡ t
honest_truth c t root = ap (λ n. eqb n 1) (root zero_point) ∙ of_bit t
  where
    of_bit : (b : Bool) → eqb (bit b) 1 ≡ b
    of_bit true = refl
    of_bit false = refl

-- what is read of the frames of any conversation, and that it leads as far
pub all_readings : (x : Instance) (draw : ℕ → ℕ) (alters : Bool) (p : Position) (way : List (List ℕ)) (q : Position) → Leads x draw alters p way q
    → (readings : List (Option Said)) × AreReplies readings × (position_after x draw p readings ≡ q)
all_readings x draw alters p [] q e = ([], All-nil (λ r. IfSome r IsReply), e)
all_readings x draw alters p (a ∷ []) q l = absurd l
all_readings x draw alters (Ended e t) (a ∷ b ∷ way) q l = absurd l
all_readings x draw alters (Awaits ask t n) (a ∷ b ∷ way) q (is, carried, (says, reads, rest)) =
    let more = all_readings x draw alters (read_on x draw (Awaits ask t n) says) way q rest in
    (says ∷ more.0, All-cons (λ r. IfSome r IsReply) says more.0 (is_reply says reads) more.1, more.2)
  where
    is_reply : (s : Option Said) → Reads b s → IfSome s IsReply
    is_reply None reads = tt
    is_reply (Some s) reads = reads.0
