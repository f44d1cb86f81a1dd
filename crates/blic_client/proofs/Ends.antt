-- How a conversation over a link ends, by what came of its last calls.
use Rattle.std.proofs.Common.{arith, ℕ, ◌≡◌, ◌<◌, refl, sym, ◌∙◌, ap, subst, List, [], ◌∷◌, ◌++◌, length, take, drop, Bool, cond, inl, inr, append-nil, append_assoc}
use Rattle.std.specs.Prelude.{Option, Some, None, IsTrue, filter, map, Err}
use Rattle.std.specs.Io.KnownBytes.{append_known}
use Rattle.std.proofs.lemmas.List.{length-append, length-take, take-append-drop}
use Rattle.blic_basic.specs.Outside.{Rose}
use Rattle.blic_field.specs.Field.{modulus}
use Rattle.blic_model.specs.Shape.{IsShaped}
use Rattle.blic_link.specs.Pace.{Begins}
use Rattle.blic_link.specs.Passing.{Piece, got, sent_bytes}
use Rattle.blic_link.specs.Sending.{all_sent}
use Rattle.blic_messages.specs.Frames.{ask_spelling, reply_spelling}
use Rattle.blic_messages.specs.Replies.{Said}
use Rattle.blic_messages.specs.declared.ask.Ask.{Ask}
use Rattle.blic_messages.specs.declared.ask.Ask.TheVariants.{Bye}
use Rattle.blic_print.specs.Printing.{frame_line, talk_text}
use Rattle.blic_verifier.specs.Certified.{AreReplies}
use Rattle.blic_verifier.specs.Conversation.{Instance, Awaits, Ended, beginning, read_on, position_after}
use Rattle.blic_verifier.specs.Hearing.{asks_from, frames_of_asks, last_asks, position_of, readings, record_frames, record_from, spelled}
use Rattle.blic_verifier.specs.Verdict.{Talk}
use Rattle.blic_verifier.specs.declared.ending.Ending.{Ending}
use Rattle.blic_verifier.specs.declared.ending.Ending.TheVariants.{Certified, Rejected, WrongKind, WrongCount, ServerRefused, NotFrame}
use Rattle.blic_verifier.proofs.CertifiedWorth.{certified_is_worth}
use Rattle.blic_verifier.proofs.Hearing.{readings_partial}
use Rattle.blic_client.specs.Linked.{IsAwaiting, IsHeld, IsRecorded, IsSound, LinkCounts, Linking, questions, wanted, wants_reply}
use Rattle.blic_client.specs.UnderWay.{IsHearing, IsParting, IsSaying, reply_line}
use Rattle.blic_client.specs.declared.machine.Machine.{Machine}
use Rattle.blic_client.specs.declared.verdict.Verdict.{Verdict}
use Rattle.blic_client.specs.declared.verdict.Verdict.TheVariants as verdicts
use Rattle.blic_client.proofs.Lines.{Printed, printed_more, prefix_more}
use Rattle.blic_client.proofs.Splitting.{asks_before, asks_next, frames_before, next_wants, record_next, record_short, sent_alone, sent_part, sent_whole, stays_ended, keep_one}
use Rattle.blic_client.proofs.Way.{IsSoFar, Reads, got_same, position_is, questions_are, read_first, reads_now, record_is, sent_more, spelled_next, wanted_is}

-- how it was led, and what was recorded
abbrev pub IsLed : Linking → (ℕ → ℕ) → List Piece → Option (List ℕ) → ℕ → ℕ → Option (List ℕ) → Option (List ℕ) → Verdict → Type 0
IsLed first draw pieces coming faults faults_now held held_now v =
    IsHeld first draw pieces coming faults faults_now v × IsRecorded first (record_frames first.about draw (got pieces) (sent_bytes pieces)) held held_now v

-- the lines so far are those of the record
recorded : (talk : Bool) (frames all : List (List ℕ)) (held now : Option (List ℕ)) → all ≡ frames → Printed talk frames held now → Printed talk all held now
recorded talk frames all held now is printed = printed ∙ ap (λ z. append_known held (cond talk (talk_text z) [])) (sym is)

taken_less : (n : ℕ) (xs : List ℕ) → n < length xs → length (take n xs) < length xs
taken_less n xs less = omega (arith, less, length-take n xs)

-- ---- an ask couldn't be sent, or its line not be printed

pub unsaid : (first : Linking) (draw : ℕ → ℕ) (pieces new : List Piece) (heard : List (Option Said)) (inbox : List ℕ) (ask : Ask) (t : Talk) (n : ℕ) (v : Verdict)
    (coming : Option (List ℕ)) (faults faults_now : ℕ) (held mid now : Option (List ℕ))
    → IsSoFar first.about draw pieces heard (Awaits ask t n) [] → Reads pieces heard inbox → Printed first.talk (frames_before first.about draw (beginning first.about) heard) held mid
    → IsTrue (all_sent new) → IsSaying first.talk (ask_spelling ask) (Err v) new mid now → LinkCounts faults faults_now v
    → IsLed first draw (pieces ++ new) coming faults faults_now held now v
unsaid first draw pieces new heard inbox ask t n (verdicts.Ended e) coming faults faults_now held mid now so reads printed all says counts = absurd says
unsaid first draw pieces new heard inbox ask t n verdicts.Cut coming faults faults_now held mid now so reads printed all says counts = absurd says
unsaid first draw pieces new heard inbox ask t n verdicts.LinkFault coming faults faults_now held mid now so reads printed all ((k, short, part), same) counts =
    let x = first.about in
    let e = reads_now pieces heard inbox reads in
    let later = asks_next x draw ask t n (readings inbox) in
    let frame = ask_spelling ask in
    let before : List ℕ = spelled (asks_before x draw (beginning x) heard) in
    let next : spelled (asks_from x draw (Awaits ask t n) (readings inbox)) ≡ take k frame ++ (drop k frame ++ spelled later.0)
    = spelled_next ask _ later.0 later.1 ∙ (ap (λ z. z ++ spelled later.0) (sym (take-append-drop k frame)) ∙ append_assoc (take k frame) (drop k frame) (spelled later.0)) in
    let here = sent_more x draw pieces new heard (readings inbox) (Awaits ask t n) (take k frame) (drop k frame ++ spelled later.0) so e all part next in
    let there : readings (got (pieces ++ new)) ≡ heard ++ readings inbox = ap readings (got_same pieces new all) ∙ e in
    let asks : questions x draw (got (pieces ++ new)) ≡ before ++ (frame ++ spelled (filter wants_reply later.0))
    = questions_are x draw (pieces ++ new) heard (readings inbox) (Awaits ask t n) (take k frame) here there
    ∙ ap (λ z. before ++ z) (spelled_next ask _ (filter wants_reply later.0) (ap (filter wants_reply) later.1 ∙ keep_one ask later.0 (next_wants x draw heard ask t n so.reached))) in
    let less : length (sent_bytes (pieces ++ new)) < length (questions x draw (got (pieces ++ new)))
    = omega (
      arith,
      ap length here.sent,
      length-append before (take k frame),
      taken_less k frame short,
      ap length asks,
      length-append before (frame ++ spelled (filter wants_reply later.0)),
      length-append frame (spelled (filter wants_reply later.0)),
    ) in
    let frames = record_is x draw (pieces ++ new) heard (readings inbox) (Awaits ask t n) (take k frame) here there
    ∙ (ap (λ z. frames_before x draw (beginning x) heard ++ z) (record_short x draw ask t n (readings inbox) (take k frame) (taken_less k frame short))
    ∙ append-nil (frames_before x draw (beginning x) heard)) in (
      record { pace = here.pace; cause = inr less; all = λ calm other. absurd (calm counts) },
      recorded first.talk _ _ held now frames (same ∙ printed),
    )
unsaid first draw pieces new heard inbox ask t n verdicts.WriteFault coming faults faults_now held mid now so reads printed all (talks, whole, (k, part)) counts =
    let x = first.about in
    let e = reads_now pieces heard inbox reads in
    let later = asks_next x draw ask t n (readings inbox) in
    let frame = ask_spelling ask in
    let here = sent_more x draw pieces new heard (readings inbox) (Awaits ask t n) frame (spelled later.0) so e all whole (spelled_next ask _ later.0 later.1) in
    let there : readings (got (pieces ++ new)) ≡ heard ++ readings inbox = ap readings (got_same pieces new all) ∙ e in
    let next = record_next x draw ask t n (readings inbox) in
    let frames = record_is x draw (pieces ++ new) heard (readings inbox) (Awaits ask t n) frame here there in
    let prefix = prefix_more first.talk (frames_before x draw (beginning x) heard) (frame ∷ next.0) (frame_line frame) (talk_text next.0) held mid now k talks refl printed part in (
      record { pace = here.pace; cause = talks; all = λ calm other. absurd (other refl) },
      (prefix.0, prefix.1 ∙ ap (λ z. append_known held (take prefix.0 (talk_text z))) (sym (frames ∙ ap (λ z. frames_before x draw (beginning x) heard ++ z) next.1))),
    )

-- ---- no reply came, or its line couldn't be printed

-- what is recorded behind an ask that was sent
record_read : (x : Instance) (draw : ℕ → ℕ) (ask : Ask) (t : Talk) (n : ℕ) (r : Option Said) (rs : List (Option Said))
    → (more : List (List ℕ)) × (tail : List ℕ) × (record_from x draw (Awaits ask t n) (r ∷ rs) (ask_spelling ask) ≡ ask_spelling ask ∷ more) × (talk_text more ≡ reply_line r ++ tail)
record_read x draw ask t n None rs = ([], [], sent_alone ask [], refl)
record_read x draw ask t n (Some s) rs =
    let later : List (List ℕ) = record_from x draw (read_on x draw (Awaits ask t n) (Some s)) rs (drop (length (ask_spelling ask)) (ask_spelling ask)) in
    (reply_spelling s ∷ later, talk_text later, sent_alone ask (reply_spelling s ∷ later), refl)

pub unheard : (first : Linking) (draw : ℕ → ℕ) (pieces : List Piece) (heard : List (Option Said)) (bytes : List ℕ) (ask : Ask) (t : Talk) (n : ℕ) (v : Verdict) (m new : Machine)
    (coming : Option (List ℕ)) (faults faults_now : ℕ) (held mid now : Option (List ℕ))
    → IsSoFar first.about draw pieces heard (Awaits ask t n) (ask_spelling ask) → Reads pieces heard bytes
    → Printed first.talk (frames_before first.about draw (beginning first.about) heard ++ ask_spelling ask ∷ []) held mid
    → m.talk ≡ first.talk → IsHearing m new bytes coming mid now (Err v) → LinkCounts faults faults_now v
    → IsLed first draw pieces coming faults faults_now held now v
unheard first draw pieces heard bytes ask t n (verdicts.Ended e) m new coming faults faults_now held mid now so reads printed talk hears counts = absurd hears
unheard first draw pieces heard bytes ask t n verdicts.Cut m new coming faults faults_now held mid now so reads printed talk (partial, ends, same) counts =
    let x = first.about in
    let e : readings (got pieces) ≡ heard ++ [] = reads_now pieces heard bytes reads ∙ ap (λ z. heard ++ z) (readings_partial bytes partial) in
    let all : sent_bytes pieces ≡ wanted x draw (got pieces)
    = so.sent ∙ (ap (λ z. spelled (asks_before x draw (beginning x) heard) ++ z) (sym (append-nil (ask_spelling ask))) ∙ sym (wanted_is x draw pieces heard [] (Awaits ask t n) (ask_spelling ask) so e)) in
    let frames = record_is x draw pieces heard [] (Awaits ask t n) (ask_spelling ask) so e ∙ ap (λ z. frames_before x draw (beginning x) heard ++ z) (sent_alone ask []) in (
      record {
        pace = so.pace;
        cause = (subst IsAwaiting (sym (position_is x draw pieces heard [] (Awaits ask t n) (ask_spelling ask) so e)) tt, all, ends);
        all = λ calm other. all;
      },
      recorded first.talk _ _ held now frames (same ∙ printed),
    )
unheard first draw pieces heard bytes ask t n verdicts.LinkFault m new coming faults faults_now held mid now so reads printed talk (partial, same) counts =
    let x = first.about in
    let e : readings (got pieces) ≡ heard ++ [] = reads_now pieces heard bytes reads ∙ ap (λ z. heard ++ z) (readings_partial bytes partial) in
    let frames = record_is x draw pieces heard [] (Awaits ask t n) (ask_spelling ask) so e ∙ ap (λ z. frames_before x draw (beginning x) heard ++ z) (sent_alone ask []) in (
      record {
        pace = so.pace;
        cause = inl (subst IsAwaiting (sym (position_is x draw pieces heard [] (Awaits ask t n) (ask_spelling ask) so e)) tt);
        all = λ calm other. absurd (calm counts);
      },
      recorded first.talk _ _ held now frames (same ∙ printed),
    )
unheard first draw pieces heard bytes ask t n verdicts.WriteFault m new coming faults faults_now held mid now so reads printed talk (talks, r, rest, reading, k, part) counts =
    let x = first.about in
    let rs = read_first r bytes rest reading in
    let e : readings (got pieces) ≡ heard ++ r ∷ rs.0 = reads_now pieces heard bytes reads ∙ ap (λ z. heard ++ z) rs.1 in
    let next = record_read x draw ask t n r rs.0 in
    let before : List (List ℕ) = frames_before x draw (beginning x) heard in
    let frames = record_is x draw pieces heard (r ∷ rs.0) (Awaits ask t n) (ask_spelling ask) so e
    ∙ (ap (λ z. before ++ z) next.2 ∙ sym (append_assoc before (ask_spelling ask ∷ []) next.0)) in
    let prefix = prefix_more first.talk (before ++ ask_spelling ask ∷ []) next.0 (reply_line r) next.1 held mid now k (sym talk ∙ talks) next.3 printed part in (
      record { pace = so.pace; cause = sym talk ∙ talks; all = λ calm other. absurd (other refl) },
      (prefix.0, prefix.1 ∙ ap (λ z. append_known held (take prefix.0 (talk_text z))) (sym frames)),
    )

-- ---- the conversation has ended

no_questions : (e : Ending) → filter wants_reply (last_asks e) ≡ []
no_questions (Certified b) = refl
no_questions (Rejected place) = refl
no_questions (WrongKind turn) = refl
no_questions (WrongCount turn want got) = refl
no_questions (ServerRefused r) = refl
no_questions NotFrame = refl

all_recorded : (e : Ending) → frames_of_asks (last_asks e) (spelled (last_asks e)) ≡ map ask_spelling (last_asks e)
all_recorded (Certified b) = sent_whole Bye [] []
all_recorded (Rejected place) = refl
all_recorded (WrongKind turn) = refl
all_recorded (WrongCount turn want got) = refl
all_recorded (ServerRefused r) = refl
all_recorded NotFrame = refl

sound : (x : Instance) (draw : ℕ → ℕ) (heard : List (Option Said)) (e : Ending) (t : Talk) → IsShaped x.circuit.nodes (length x.circuit.order) → ((n : ℕ) → draw n < modulus) → AreReplies heard
    → position_after x draw (beginning x) heard ≡ Ended e t → IsSound x e t
sound x draw heard (Certified b) t shaped elements replies is = (certified_is_worth x shaped draw elements heard replies b t is).1
sound x draw heard (Rejected place) t shaped elements replies is = tt
sound x draw heard (WrongKind turn) t shaped elements replies is = tt
sound x draw heard (WrongCount turn want got) t shaped elements replies is = tt
sound x draw heard (ServerRefused r) t shaped elements replies is = tt
sound x draw heard NotFrame t shaped elements replies is = tt

-- where it stands in the end
pub record HasEnded (first : Linking) (draw : ℕ → ℕ) (pieces : List Piece) (e : Ending) (t : Talk) (held mid : Option (List ℕ)) : Type 0 where
  pub heard : List (Option Said)
  pub rest : List (Option Said)
  pub so : IsSoFar first.about draw pieces heard (Ended e t) []
  pub reads : readings (got pieces) ≡ heard ++ rest
  pub printed : Printed first.talk (frames_before first.about draw (beginning first.about) heard) held mid

-- so it is, with more of the last asks sent
ended_so : (x : Instance) (draw : ℕ → ℕ) (pieces : List Piece) (heard rest : List (Option Said)) (e : Ending) (t : Talk) (more : List ℕ)
    → IsShaped x.circuit.nodes (length x.circuit.order) → ((n : ℕ) → draw n < modulus) → IsSoFar x draw pieces heard (Ended e t) more → readings (got pieces) ≡ heard ++ rest
    → (t : Talk) × (position_of x draw (got pieces) ≡ Ended e t) × Begins (questions x draw (got pieces)) (sent_bytes pieces) × IsSound x e t
ended_so x draw pieces heard rest e t more shaped elements so reads =
    let before : List ℕ = spelled (asks_before x draw (beginning x) heard) in
    let asks : questions x draw (got pieces) ≡ before
    = questions_are x draw pieces heard rest (Ended e t) more so reads ∙ (ap (λ z. before ++ spelled z) (no_questions e) ∙ append-nil before) in (
      t,
      position_is x draw pieces heard rest (Ended e t) more so reads ∙ stays_ended x draw e t rest,
      (more, so.sent ∙ ap (λ z. z ++ more) (sym asks)),
      sound x draw heard e t shaped elements so.replies so.reached,
    )

-- all that is asked was sent
parted_all : (first : Linking) (draw : ℕ → ℕ) (pieces new : List Piece) (e : Ending) (t : Talk) (coming : Option (List ℕ)) (faults faults_now : ℕ) (held mid now : Option (List ℕ))
    → IsShaped first.about.circuit.nodes (length first.about.circuit.order) → ((n : ℕ) → draw n < modulus) → HasEnded first draw pieces e t held mid → IsTrue (all_sent new)
    → sent_bytes new ≡ spelled (last_asks e) → now ≡ append_known mid (cond first.talk (talk_text (map ask_spelling (last_asks e))) [])
    → IsLed first draw (pieces ++ new) coming faults faults_now held now (verdicts.Ended e)
parted_all first draw pieces new e t coming faults faults_now held mid now shaped elements ended all sent lines =
    let x = first.about in
    let here = sent_more x draw pieces new ended.heard ended.rest (Ended e t) (spelled (last_asks e)) [] ended.so ended.reads all sent (sym (append-nil (spelled (last_asks e)))) in
    let there : readings (got (pieces ++ new)) ≡ ended.heard ++ ended.rest = ap readings (got_same pieces new all) ∙ ended.reads in
    let before : List (List ℕ) = frames_before x draw (beginning x) ended.heard in
    let frames = record_is x draw (pieces ++ new) ended.heard ended.rest (Ended e t) (spelled (last_asks e)) here there ∙ ap (λ z. before ++ z) (all_recorded e) in (
      record {
        pace = here.pace;
        cause = ended_so x draw (pieces ++ new) ended.heard ended.rest e t (spelled (last_asks e)) shaped elements here there;
        all = λ calm other. here.sent ∙ sym (wanted_is x draw (pieces ++ new) ended.heard ended.rest (Ended e t) (spelled (last_asks e)) here there);
      },
      recorded first.talk _ _ held now frames (printed_more first.talk before (map ask_spelling (last_asks e)) (talk_text (map ask_spelling (last_asks e))) held mid now refl ended.printed lines),
    )

-- a prefix of Bye was sent
parted_cut : (first : Linking) (draw : ℕ → ℕ) (pieces new : List Piece) (b : Bool) (t : Talk) (coming : Option (List ℕ)) (faults faults_now : ℕ) (held mid now : Option (List ℕ))
    → IsShaped first.about.circuit.nodes (length first.about.circuit.order) → ((n : ℕ) → draw n < modulus) → HasEnded first draw pieces (Certified b) t held mid → IsTrue (all_sent new)
    → Rose faults faults_now → IsSaying first.talk (ask_spelling Bye) (Err verdicts.LinkFault) new mid now
    → IsLed first draw (pieces ++ new) coming faults faults_now held now (verdicts.Ended (Certified b))
parted_cut first draw pieces new b t coming faults faults_now held mid now shaped elements ended all rose ((k, short, part), same) =
    let x = first.about in
    let frame = ask_spelling Bye in
    let next : spelled (last_asks (Certified b)) ≡ take k frame ++ drop k frame = append-nil frame ∙ sym (take-append-drop k frame) in
    let here = sent_more x draw pieces new ended.heard ended.rest (Ended (Certified b) t) (take k frame) (drop k frame) ended.so ended.reads all part next in
    let there : readings (got (pieces ++ new)) ≡ ended.heard ++ ended.rest = ap readings (got_same pieces new all) ∙ ended.reads in
    let before : List (List ℕ) = frames_before x draw (beginning x) ended.heard in
    let frames = record_is x draw (pieces ++ new) ended.heard ended.rest (Ended (Certified b) t) (take k frame) here there
    ∙ (ap (λ z. before ++ z) (sent_part Bye (take k frame) [] (taken_less k frame short)) ∙ append-nil before) in (
      record {
        pace = here.pace;
        cause = ended_so x draw (pieces ++ new) ended.heard ended.rest (Certified b) t (take k frame) shaped elements here there;
        all = λ calm other. absurd (calm rose);
      },
      recorded first.talk _ _ held now frames (same ∙ ended.printed),
    )

-- the line of Bye couldn't be printed
parted_unprinted : (first : Linking) (draw : ℕ → ℕ) (pieces new : List Piece) (b : Bool) (t : Talk) (coming : Option (List ℕ)) (faults faults_now : ℕ) (held mid now : Option (List ℕ))
    → HasEnded first draw pieces (Certified b) t held mid → IsTrue (all_sent new) → IsSaying first.talk (ask_spelling Bye) (Err verdicts.WriteFault) new mid now
    → IsLed first draw (pieces ++ new) coming faults faults_now held now verdicts.WriteFault
parted_unprinted first draw pieces new b t coming faults faults_now held mid now ended all (talks, whole, (k, part)) =
    let x = first.about in
    let frame = ask_spelling Bye in
    let here = sent_more x draw pieces new ended.heard ended.rest (Ended (Certified b) t) frame [] ended.so ended.reads all whole refl in
    let there : readings (got (pieces ++ new)) ≡ ended.heard ++ ended.rest = ap readings (got_same pieces new all) ∙ ended.reads in
    let before : List (List ℕ) = frames_before x draw (beginning x) ended.heard in
    let frames = record_is x draw (pieces ++ new) ended.heard ended.rest (Ended (Certified b) t) frame here there ∙ ap (λ z. before ++ z) (sent_alone Bye []) in
    let prefix = prefix_more first.talk before (frame ∷ []) (frame_line frame) [] held mid now k talks refl ended.printed part in (
      record { pace = here.pace; cause = talks; all = λ calm other. absurd (other refl) },
      (prefix.0, prefix.1 ∙ ap (λ z. append_known held (take prefix.0 (talk_text z))) (sym frames)),
    )

pub parted : (first : Linking) (draw : ℕ → ℕ) (pieces new : List Piece) (e : Ending) (t : Talk) (talk : Bool) (v : Verdict) (coming : Option (List ℕ)) (faults faults_now : ℕ) (held mid now : Option (List ℕ))
    → IsShaped first.about.circuit.nodes (length first.about.circuit.order) → ((n : ℕ) → draw n < modulus) → HasEnded first draw pieces e t held mid → IsTrue (all_sent new)
    → talk ≡ first.talk → IsParting e talk faults faults_now new mid now v → IsLed first draw (pieces ++ new) coming faults faults_now held now v
parted first draw pieces new e t talk (verdicts.Ended f) coming faults faults_now held mid now shaped elements ended all talks (is, inl (sent, lines)) =
    subst (λ z. IsLed first draw (pieces ++ new) coming faults faults_now held now (verdicts.Ended z)) (sym is)
    (parted_all first draw pieces new e t coming faults faults_now held mid now shaped elements ended all sent (lines ∙ ap (λ z. append_known mid (cond z (talk_text (map ask_spelling (last_asks e))) [])) talks))
parted first draw pieces new e t talk (verdicts.Ended f) coming faults faults_now held mid now shaped elements ended all talks (is, inr (b, certified, rose, says)) =
    subst (λ z. IsLed first draw (pieces ++ new) coming faults faults_now held now (verdicts.Ended z)) (sym (is ∙ certified))
    (parted_cut first draw pieces new b t coming faults faults_now held mid now shaped elements (subst (λ z. HasEnded first draw pieces z t held mid) certified ended) all rose
    (subst (λ z. IsSaying z (ask_spelling Bye) (Err verdicts.LinkFault) new mid now) talks says))
parted first draw pieces new e t talk verdicts.WriteFault coming faults faults_now held mid now shaped elements ended all talks (b, certified, says) =
    parted_unprinted first draw pieces new b t coming faults faults_now held mid now (subst (λ z. HasEnded first draw pieces z t held mid) certified ended) all
    (subst (λ z. IsSaying z (ask_spelling Bye) (Err verdicts.WriteFault) new mid now) talks says)
parted first draw pieces new e t talk verdicts.Cut coming faults faults_now held mid now shaped elements ended all talks parts = absurd parts
parted first draw pieces new e t talk verdicts.LinkFault coming faults faults_now held mid now shaped elements ended all talks parts = absurd parts
