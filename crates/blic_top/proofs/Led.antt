-- What a conversation over a link comes to.
use Rattle.std.proofs.Common.{ℕ, ◌≡◌, ◌≢◌, ◌+◌, ◌≤◌, ◌<◌, ◌-◌, ◌^◌, min, ◌∙◌, refl, sym, ap, subst, arith, List, [], ◌∷◌, ◌++◌, append-nil, length, cond, Bool, true, inl, inr}
use Rattle.std.specs.Prelude.{Option, Some, None, IfSome, unwrap_or}
use Rattle.blic_basic.specs.Outside.{Rose}
use Rattle.blic_field.specs.Field.{modulus}
use Rattle.blic_model.specs.CircuitLimits.{IsWithinLimits}
use Rattle.blic_model.specs.Shape.{IsShaped}
use Rattle.blic_model.specs.Value.{RootIs}
use Rattle.blic_draw.proofs.Elements.{element_drawn}
use Rattle.blic_client.specs.Linked.{IsAwaiting, IsHeld, IsRecorded, IsVerdict, Linking, LinkCounts}
use Rattle.blic_client.specs.declared.verdict.Verdict.{Verdict}
use Rattle.blic_client.specs.declared.verdict.Verdict.TheVariants as verdicts
use Rattle.blic_link.specs.Dialing.{Entry, HangsUp}
use Rattle.blic_link.specs.Passing.{Piece, got, sent_bytes, with_pieces}
use Rattle.blic_verifier.specs.Conversation.{Instance, Position, Ended, beginning, position_after, read_on}
use Rattle.blic_messages.specs.Replies.{Said}
use Rattle.blic_verifier.specs.Hearing.{position_of, readings, record_frames}
use Rattle.blic_verifier.specs.HearingLaws.{HonestBytesEnd}
use Rattle.blic_verifier.specs.Verdict.{Talk}
use Rattle.blic_verifier.specs.declared.ending.Ending.{Ending}
use Rattle.blic_verifier.specs.declared.ending.Ending.TheVariants.{Certified}
use Rattle.blic_verifier.proofs.Hearing.{readings_grow}
use Rattle.blic_talk.proofs.Honesty.{honest_truth}
use Rattle.blic_talk.proofs.Onward.{nothing_more}
use Rattle.blic_input.specs.Problem.{Problem, instance_of}
use Rattle.blic_top.specs.Conversing.{AreHonestBytes, Leads, OverLink, Records, linked, record_text, undialed}
use Rattle.blic_top.specs.Deed.{Trace, DialerTold, HungUp}
use Rattle.blic_top.specs.Series.{certified, draws_of}
use Rattle.blic_top.specs.Turning.{HaveAgreed, IsDialed, IsTurn}
use Rattle.blic_top.proofs.Traces.{hung_none}
use Rattle.blic_top.proofs.Truly.{no_misses}

-- ---- a dial that failed

pub not_dialed : (before now : DialerTold) → now.ended ≡ before.ended → Rose before.faults now.faults → Rose before.missed now.missed → IsDialed before now undialed
not_dialed before now same rose missed = (
  record {
    later = rose.0;
    ended = subst (λ e. HungUp before.ended e []) (sym same) (hung_none before.ended);
    missed = (now.missed, missed, refl);
    faults = (now.faults, rose, refl);
  },
  refl,
)

pub turn_undialed : (p : Problem) (draws : ℕ → ℕ → ℕ) (talk : Bool) (k : ℕ) (held : Option (List ℕ)) → IsTurn (OverLink p draws talk) (Records p draws talk) k undialed held held verdicts.LinkFault
turn_undialed p draws talk k held = (inl (refl, refl), nothing_more held)

-- ---- a link that was hung up

-- what was still coming, or nothing if that isn't told
abbrev pub entry_of : List Piece → Option (List ℕ) → ℕ → Entry
entry_of ps coming count = record { pieces = ps; coming = unwrap_or coming []; faults = count }

-- what passed over a new link
all_pieces : (told : Option (List Piece)) (pieces ps : List Piece) → IfSome told (λ before. before ≡ []) → Some ps ≡ with_pieces told pieces → ps ≡ pieces
all_pieces None pieces ps new e = absurd (cc e)
all_pieces (Some before) pieces ps new e = let same : ps ≡ before ++ pieces = cc e in same ∙ ap (λ b. b ++ pieces) new

hung_one : (old new : Option (List Entry)) (told told_now : Option (List Piece)) (coming : Option (List ℕ)) (count : ℕ) (pieces : List Piece) → IfSome told (λ before. before ≡ [])
    → told_now ≡ with_pieces told pieces → HangsUp old new told_now coming count → HungUp old new (entry_of pieces coming count ∷ [])
hung_one old None told told_now coming count pieces fresh is hangs = tt
hung_one None (Some now) told told_now coming count pieces fresh is hangs = absurd hangs
hung_one (Some before) (Some now) told None coming count pieces fresh is hangs = absurd hangs
hung_one (Some before) (Some now) told (Some ps) None count pieces fresh is hangs = absurd hangs
hung_one (Some before) (Some now) told (Some ps) (Some bytes) count pieces fresh is hangs =
    hangs ∙ ap (λ (q : List Piece). before ++ record { pieces = q; coming = bytes; faults = count } ∷ []) (all_pieces told pieces ps fresh is)

pub dialed_one : (before mid now : DialerTold) (told told_now : Option (List Piece)) (coming : Option (List ℕ)) (count : ℕ) (pieces : List Piece) (text : List ℕ) → mid ≡ before
    → IfSome told (λ ps. ps ≡ []) → told_now ≡ with_pieces told pieces → HangsUp mid.ended now.ended told_now coming count → mid.faults ≤ now.faults
    → now.faults ≡ min (mid.faults + count) (2 ^ 64 - 1) → now.missed ≡ mid.missed → IsDialed before now (linked (entry_of pieces coming count) text)
dialed_one before mid now told told_now coming count pieces text same fresh is hangs later adds missed =
    subst (λ (b : DialerTold). IsDialed b now (linked (entry_of pieces coming count) text)) same (
      record { later = later; ended = hung_one mid.ended now.ended told told_now coming count pieces fresh is hangs; missed = missed; faults = adds },
      refl,
    )

-- ---- honest replies

-- what ended stays ended
ended_stays : (x : Instance) (draw : ℕ → ℕ) (e : Ending) (t : Talk) (rest : List (Option Said)) → position_after x draw (Ended e t) rest ≡ Ended e t
ended_stays x draw e t [] = refl
ended_stays x draw e t (r ∷ rest) = ended_stays x draw e t rest

after_append : (x : Instance) (draw : ℕ → ℕ) (p : Position) (first rest : List (Option Said)) → position_after x draw p (first ++ rest) ≡ position_after x draw (position_after x draw p first) rest
after_append x draw p [] rest = refl
after_append x draw p (r ∷ first) rest = after_append x draw (read_on x draw p r) first rest

stays : (x : Instance) (draw : ℕ → ℕ) (came more : List ℕ) (e : Ending) (t : Talk) → position_of x draw came ≡ Ended e t → position_of x draw (came ++ more) ≡ Ended e t
stays x draw came more e t is =
    let grown = readings_grow came more in
    ap (position_after x draw (beginning x)) grown.1
    ∙ (after_append x draw (beginning x) (readings came) grown.0 ∙ (ap (λ q. position_after x draw q grown.0) is ∙ ended_stays x draw e t grown.0))

-- once honest replies have come the truth is certified
honest_position : (p : Problem) (draw : ℕ → ℕ) (bytes : List ℕ) → HonestBytesEnd → IsShaped p.circuit.nodes (length p.circuit.order) → IsWithinLimits p.circuit.nodes (length p.circuit.order)
    → RootIs p.circuit p.truth → ((n : ℕ) → draw n < modulus) → AreHonestBytes (instance_of p) draw bytes → (t : Talk) × (position_of (instance_of p) draw bytes ≡ Ended (Certified p.truth) t)
honest_position p draw bytes law shaped small root below honest =
    let end = law (instance_of p) shaped small draw below honest.replies honest.honest honest.all in (
      end.0,
      ap (position_of (instance_of p) draw) honest.begin
          ∙ (stays (instance_of p) draw _ honest.rest _ end.0 end.1 ∙ ap (λ b. Ended (Certified b) end.0) (honest_truth p.circuit p.truth root)),
    )

same_ending : (e f : Ending) (t u : Talk) → Ended e t ≡ Ended f u → e ≡ f
same_ending e f t u is = cc is

not_awaiting : (q : Position) (e : Ending) (t : Talk) → q ≡ Ended e t → IsAwaiting q → ⊥
not_awaiting q e t is waits = subst IsAwaiting is waits

truly_so : (p : Problem) (draw : ℕ → ℕ) (came went coming : List ℕ) (count : ℕ) (talk : Bool) (v : Verdict) → HonestBytesEnd → IsShaped p.circuit.nodes (length p.circuit.order)
    → IsWithinLimits p.circuit.nodes (length p.circuit.order) → RootIs p.circuit p.truth → ((n : ℕ) → draw n < modulus)
    → IsVerdict (record { about = instance_of p; talk = talk }) draw came went (Some coming) v → LinkCounts 0 count v → count ≡ 0 → v ≢ verdicts.WriteFault
    → AreHonestBytes (instance_of p) draw (came ++ coming) → v ≡ certified p.truth
truly_so p draw came went coming count talk verdicts.WriteFault law shaped small root below verdict faults none written honest = absurd (written refl)
truly_so p draw came went coming count talk verdicts.LinkFault law shaped small root below verdict faults none written honest = absurd (no_rise (2 ^ 64 - 1) count refl none faults.1)
  where
    no_rise : (m n : ℕ) → m ≡ 2 ^ 64 - 1 → n ≡ 0 → min 1 m ≤ n → ⊥
    no_rise m n is none le = omega (arith, is, none, le)
truly_so p draw came went coming count talk verdicts.Cut law shaped small root below verdict faults none written honest =
    let end = honest_position p draw (came ++ coming) law shaped small root below honest in
    let all : came ++ coming ≡ came = ap (λ b. came ++ b) verdict.2 ∙ append-nil came in
    absurd (not_awaiting (position_of (instance_of p) draw came) (Certified p.truth) end.0 (ap (position_of (instance_of p) draw) (sym all) ∙ end.1) verdict.0)
truly_so p draw came went coming count talk (verdicts.Ended e) law shaped small root below verdict faults none written honest =
    let end = honest_position p draw (came ++ coming) law shaped small root below honest in
    ap verdicts.Ended (same_ending e (Certified p.truth) verdict.0 end.0 (sym (stays (instance_of p) draw came coming e verdict.0 verdict.1) ∙ end.1))

-- ---- a conversation that was held

-- what was still coming, told or not
told_coming : (x : Linking) (draw : ℕ → ℕ) (came went : List ℕ) (coming : Option (List ℕ)) (v : Verdict) → IsVerdict x draw came went coming v → IsVerdict x draw came went (Some (unwrap_or coming [])) v
told_coming x draw came went coming (verdicts.Ended e) is = is
told_coming x draw came went None verdicts.Cut is = (is.0, is.1, refl)
told_coming x draw came went (Some bytes) verdicts.Cut is = is
told_coming x draw came went coming verdicts.LinkFault is = is
told_coming x draw came went coming verdicts.WriteFault is = is

leads_so : (p : Problem) (draw : ℕ → ℕ) (talk : Bool) (x : Linking) (pieces : List Piece) (coming : Option (List ℕ)) (count : ℕ) (v : Verdict) → HonestBytesEnd
    → IsShaped p.circuit.nodes (length p.circuit.order) → IsWithinLimits p.circuit.nodes (length p.circuit.order) → RootIs p.circuit p.truth → ((n : ℕ) → draw n < modulus)
    → x ≡ record { about = instance_of p; talk = talk } → IsHeld x draw pieces coming 0 count v → LinkCounts 0 count v → Leads p draw talk (entry_of pieces coming count) v
leads_so p draw talk x pieces coming count v law shaped small root below same held_x faults =
    let held = subst (λ (z : Linking). IsHeld z draw pieces coming 0 count v) same held_x in
    let cause = told_coming (record { about = instance_of p; talk = talk }) draw (got pieces) (sent_bytes pieces) coming v held.cause in
    record {
      held = record { pace = held.pace; cause = cause; all = held.all };
      faults = faults;
      root = root;
      truly = λ none written honest. truly_so p draw (got pieces) (sent_bytes pieces) (unwrap_or coming []) count talk v law shaped small root below cause faults none written honest;
    }

-- the turn: its lines are printed, or cut off
turn_of : (p : Problem) (draws : ℕ → ℕ → ℕ) (talk : Bool) (k : ℕ) (entry : Entry) (old new : Option (List ℕ)) (x : Linking) (v : Verdict) → x ≡ record { about = instance_of p; talk = talk }
    → Leads p (draws k) talk entry v → IsRecorded x (record_frames x.about (draws k) (got entry.pieces) (sent_bytes entry.pieces)) old new v
    → (text : List ℕ) × IsTurn (OverLink p draws talk) (Records p draws talk) k (linked entry text) old new v
turn_of p draws talk k entry old new x verdicts.WriteFault same leads recorded =
    let rec = subst (λ (z : Linking). IsRecorded z (record_frames z.about (draws k) (got entry.pieces) (sent_bytes entry.pieces)) old new verdicts.WriteFault) same recorded in
    ([], (record_text p (draws k) entry, (entry, leads.held.cause, leads, refl, refl), rec))
turn_of p draws talk k entry old new x (verdicts.Ended e) same leads recorded =
    let rec = subst (λ (z : Linking). IsRecorded z (record_frames z.about (draws k) (got entry.pieces) (sent_bytes entry.pieces)) old new (verdicts.Ended e)) same recorded in
    (cond talk (record_text p (draws k) entry) [], (inr (entry, leads, refl), rec))
turn_of p draws talk k entry old new x verdicts.Cut same leads recorded =
    let rec = subst (λ (z : Linking). IsRecorded z (record_frames z.about (draws k) (got entry.pieces) (sent_bytes entry.pieces)) old new verdicts.Cut) same recorded in
    (cond talk (record_text p (draws k) entry) [], (inr (entry, leads, refl), rec))
turn_of p draws talk k entry old new x verdicts.LinkFault same leads recorded =
    let rec = subst (λ (z : Linking). IsRecorded z (record_frames z.about (draws k) (got entry.pieces) (sent_bytes entry.pieces)) old new verdicts.LinkFault) same recorded in
    (cond talk (record_text p (draws k) entry) [], (inr (entry, leads, refl), rec))

-- conversation number k was held over a link, which was hung up
pub turn_linked : (p : Problem) (seed : List ℕ) (first k : ℕ) (talk : Bool) (x : Linking) (before mid now : DialerTold) (told told_now : Option (List Piece)) (coming : Option (List ℕ)) (fresh_count count : ℕ)
    (pieces : List Piece) (old new : Option (List ℕ)) (v : Verdict) → HonestBytesEnd
    → IsShaped p.circuit.nodes (length p.circuit.order) → IsWithinLimits p.circuit.nodes (length p.circuit.order) → RootIs p.circuit p.truth
    → x ≡ record { about = instance_of p; talk = talk } → fresh_count ≡ 0 → IfSome told (λ ps. ps ≡ []) → told_now ≡ with_pieces told pieces
    → IsHeld x (draws_of p seed first k) pieces coming fresh_count count v → LinkCounts fresh_count count v
    → IsRecorded x (record_frames x.about (draws_of p seed first k) (got pieces) (sent_bytes pieces)) old new v
    → mid ≡ before → HangsUp mid.ended now.ended told_now coming count → mid.faults ≤ now.faults → now.faults ≡ min (mid.faults + count) (2 ^ 64 - 1) → now.missed ≡ mid.missed
    → (trace : Trace) × IsDialed before now trace × IsTurn (OverLink p (draws_of p seed first) talk) (Records p (draws_of p seed first) talk) k trace old new v
turn_linked p seed first k talk x before mid now told told_now coming fresh_count count pieces old new v law shaped small root same none fresh is held faults recorded same_told hangs later adds missed =
    let leads = leads_so p (draws_of p seed first k) talk x pieces coming count v law shaped small root (λ n. element_drawn _ n) same
    (subst (λ f. IsHeld x (draws_of p seed first k) pieces coming f count v) none held) (subst (λ f. LinkCounts f count v) none faults) in
    let turn = turn_of p (draws_of p seed first) talk k (entry_of pieces coming count) old new x v same leads recorded in (
      linked (entry_of pieces coming count) turn.0,
      dialed_one before mid now told told_now coming count pieces turn.0 same_told fresh is hangs later adds missed,
      turn.1,
    )

-- the turn of a client that is as before
pub same_turn : (p : Problem) (draws : ℕ → ℕ → ℕ) (talk talking : Bool) (k : ℕ) (trace : Trace) (old new : Option (List ℕ)) (v : Verdict) → talking ≡ talk
    → IsTurn (OverLink p draws talking) (Records p draws talking) k trace old new v → IsTurn (OverLink p draws talk) (Records p draws talk) k trace old new v
same_turn p draws talk talking k trace old new v still turn = subst (λ b. IsTurn (OverLink p draws b) (Records p draws b) k trace old new v) still turn

-- one that was certified missed no dial
pub none_missed : (p : Problem) (draws : ℕ → ℕ → ℕ) (talk : Bool) (k : ℕ) (trace : Trace) (agreed : Option Bool) → HaveAgreed (OverLink p draws talk) k trace agreed → trace.missed ≡ 0
none_missed p draws talk k trace None (none, have) = no_misses p draws talk k true trace have
none_missed p draws talk k trace (Some b) (some, have) = no_misses p draws talk k b trace have
