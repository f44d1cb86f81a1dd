-- Private: a conversation under way. No public contract cites this file.
use Rattle.std.specs.Prelude.{◌≡◌, ℕ, suc, ◌+◌, ◌*◌, ◌≤◌, Bool, true, false, cond, List, [], ◌∷◌, ◌++◌, length, take, Option, Some, None}
use Rattle.std.specs.Io.KnownBytes.{append_known}
use Rattle.blic_basic.specs.Outside.{Rose}
use Rattle.blic_model.specs.Circuit.{OrderedCircuit}
use Rattle.blic_claims.specs.Places.{HasMostClaims}
use Rattle.blic_claims.specs.Turns.{turns, wants_draw_after}
use Rattle.blic_draw.specs.DrawRun.{draw_from}
use Rattle.blic_messages.specs.declared.ask.Hello.{Hello as HelloOf}
use Rattle.blic_messages.specs.declared.ask.Ask.{Ask}
use Rattle.blic_messages.specs.declared.ask.Ask.TheVariants.{Hello, Go, Draw, Bye}
use Rattle.blic_messages.specs.Frames.{reply_spelling}
use Rattle.blic_messages.specs.Replies.{Said}
use Rattle.blic_messages.specs.Reading.{Reads}
use Rattle.blic_print.specs.Printing.{talk_text}
use Rattle.blic_prover.specs.Honest.{progress, Waiting, Running}
use Rattle.blic_prover.specs.Standing.{Proving}
use Rattle.blic_prover.specs.Standing.{ServesFor}
use Rattle.blic_prover.specs.declared.stage.Stage.TheVariants.{Fresh}
use Rattle.blic_verifier.specs.Asking.{Asking, IsOpen, replies_in}
use Rattle.blic_verifier.specs.Asking.{IsAt as AskerIsAt}
use Rattle.blic_verifier.specs.Verdict.{Talk, Silent, Talked}
use Rattle.blic_verifier.specs.Conversation.{Position, Awaits, Ended, beginning, honest_reply, read_on}
use Rattle.blic_verifier.specs.declared.asker.Following.{Following}
use Rattle.blic_verifier.specs.declared.asker.Following.TheVariants.{Asks, Ends}
use Rattle.blic_verifier.specs.declared.ending.Ending.{Ending}
use Rattle.blic_verifier.specs.declared.ending.Ending.TheVariants.{Certified, NotFrame}
use Rattle.blic_talk.specs.Holding.{Conversing, IsBrokenOff, lines_at}
use Rattle.blic_talk.specs.Wire.{IsCarried, Leads, Shows}
use Rattle.blic_talk.specs.declared.machines.Machines.{Machines}

-- the ask stands next after the talk, and the prover, who was asked these, has come as far
abbrev pub StandsNext : OrderedCircuit → HelloOf → List Ask → Ask → Talk → Type 0
StandsNext c h asks (Hello g) Silent = (g ≡ h) × (progress c h asks ≡ Waiting)
StandsNext c h asks (Hello g) (Talked b draws replies) = ⊥
StandsNext c h asks Go Silent = ⊥
StandsNext c h asks Go (Talked b draws replies) =
    (progress c h asks ≡ Running (length replies) draws) × (wants_draw_after (turns c.nodes (length c.order)) (length replies) ≡ false)
StandsNext c h asks (Draw r) Silent = ⊥
StandsNext c h asks (Draw r) (Talked b draws replies) =
    (before : List ℕ) × (draws ≡ before ++ r ∷ []) × (progress c h asks ≡ Running (length replies) before)
    × (wants_draw_after (turns c.nodes (length c.order)) (length replies) ≡ true)
StandsNext c h asks Bye t = ⊥

-- the ask stands next for the prover, who was asked the others, after this talk with so many draws
pub record IsAsked (p : Proving) (asks : List Ask) (ask : Ask) (t : Talk) (n : ℕ) : Type 0 where
  pub stands : ServesFor p asks
  pub next : StandsNext p.circuit p.served asks ask t
  pub left : IsOpen p.circuit t n

-- room for the frames of all asks and replies, and for the polynomials in them
pub record HasFrameRoom (c : OrderedCircuit) (bytes polys : ℕ) : Type 0 where
  pub most : HasMostClaims c polys
  pub long : bytes ≡ 43 + 24 * polys

-- what they talk about
abbrev pub conversing : Machines → Conversing
conversing x = record { about = x.asker.about; talk = x.talk }

-- what holds of the parts: they are of one circuit, there is room, and the turns are counted
pub record AreFitted (x : Machines) : Type 0 where
  pub circuit : x.circuit.now ≡ x.asker.about.circuit
  pub proves : x.prover.circuit ≡ x.asker.about.circuit
  pub serves : x.prover.served ≡ x.asker.about.hello
  pub most : ℕ
  pub room : HasFrameRoom x.asker.about.circuit (length x.frame.items) most
  pub polys : 65536 ≤ length x.polys.items
  pub turns : x.turns ≡ length (turns x.asker.about.circuit.nodes (length x.asker.about.circuit.order))

-- it is about what it was about
abbrev pub IsSame : Machines → Machines → Type 0
IsSame x y = conversing y ≡ conversing x

-- prover and asker stand where this ask is next, after this talk
pub record IsAt (x : Machines) (asks : List Ask) (ask : Ask) (t : Talk) : Type 0 where
  pub asked : IsAsked x.prover asks ask t x.asker.draws.place
  pub at : AskerIsAt x.asker (Awaits ask t x.asker.draws.place)

-- nothing was asked, and this is the first ask
pub record IsBegun (x : Machines) (ask : Ask) : Type 0 where
  pub hello : ask ≡ Hello x.asker.about.hello
  pub place : x.asker.draws.place ≡ 0
  pub fresh : x.prover.stage ≡ Fresh
  pub at : IsAt x [] ask Silent

-- where an asker's conversation is after a reply that says this
abbrev pub position_by : Asking → Position → Option Said → Position
position_by a p says = read_on a.about (draw_from a.draws.source) p says

-- the position after a reply that says this
abbrev pub position_of : Machines → Ask → Talk → Option Said → Position
position_of x ask t says = read_on x.asker.about (draw_from x.asker.draws.source) (Awaits ask t x.asker.draws.place) says

-- an ask and its reply lead to this position
abbrev pub IsLed : Machines → List Ask → Ask → Talk → Position → Following → Type 0
IsLed x asks ask t p (Asks next) = (u : Talk) × (p ≡ Awaits next u x.asker.draws.place) × IsAt x (asks ++ ask ∷ []) next u × (replies_in u ≡ suc (replies_in t))
IsLed x asks ask t p (Ends e) = (u : Talk) × (p ≡ Ended e u)

-- so it is, if the lines could be printed
abbrev pub IsLedOn : Machines → List Ask → Ask → Talk → Position → Option Following → Type 0
IsLedOn x asks ask t p (Some following) = IsLed x asks ask t p following
IsLedOn x asks ask t p None = Unit {0}

-- the reply came as the watch left it, and what it says leads on
abbrev pub HasCome : Machines → Machines → Bool → List Ask → Ask → Talk → List ℕ → Option Said → Option Following → Type 0
HasCome old x alters asks ask t frame says result =
    IsCarried alters (reply_spelling (honest_reply old.asker.about t)) frame × Reads frame says × IsLedOn x asks ask t (position_of old ask t says) result

-- the lines of an ask and of its reply, if that is a frame
abbrev pub turn_text : Following → List ℕ → List ℕ → List ℕ
turn_text (Ends NotFrame) asked came = talk_text (asked ∷ [])
turn_text _ asked came = talk_text (asked ∷ came ∷ [])

-- the text is printed if it is to be; or a prefix of it, if a call failed
abbrev pub ArePrinted : Option (List ℕ) → Option (List ℕ) → Bool → List ℕ → Option Following → Type 0
ArePrinted old new talk text (Some following) = new ≡ append_known old (cond talk text [])
ArePrinted old new talk text None = (talk ≡ true) × ((n : ℕ) × (new ≡ append_known old (take n text)))

-- only a fault of the output raises its count
abbrev pub TurnCounts : ℕ → ℕ → Option Following → Type 0
TurnCounts before now (Some following) = now ≡ before
TurnCounts before now None = Rose before now

-- the way of a conversation up to its end, or up to where a line could not be printed
abbrev pub IsWay : Conversing → (ℕ → ℕ) → Bool → List (List ℕ) → Option (List ℕ) → Option (List ℕ) → Option Ending → Type 0
IsWay x draw alters way old new (Some e) =
    (t : Talk) × Leads x.about draw alters (beginning x.about) way (Ended e t) × (new ≡ append_known old (lines_at x.talk (Ended e t) way))
IsWay x draw alters way old new None = IsBrokenOff x draw alters way old new

-- the line of Bye is printed if it is to be, or a prefix of it
abbrev pub IsParted : Option (List ℕ) → Option (List ℕ) → Bool → List ℕ → Bool → Option Ending → Type 0
IsParted old new talk line answer (Some e) = (e ≡ Certified answer) × (new ≡ append_known old (cond talk line []))
IsParted old new talk line answer None = (talk ≡ true) × ((n : ℕ) × (new ≡ append_known old (take n line)))

-- the way so far, from the first ask to the one that stands next; so many replies have come on it
abbrev pub IsOnWay : Conversing → (ℕ → ℕ) → Bool → Machines → Ask → Option (List (List ℕ)) → Option (List (List ℕ)) → Option (List ℕ) → Option (List ℕ) → ℕ → Type 0
IsOnWay first draw alters x ask seen seen_now held held_now count =
    (asks : List Ask) × (t : Talk) × (way : List (List ℕ)) × IsAt x asks ask t
    × Leads first.about draw alters (beginning first.about) way (Awaits ask t x.asker.draws.place)
    × Shows seen seen_now way × (held_now ≡ append_known held (cond first.talk (talk_text way) [])) × (replies_in t ≡ count)
