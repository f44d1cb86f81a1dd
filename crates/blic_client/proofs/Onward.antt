-- The way of a conversation over a link, from one ask to the next.
use Rattle.std.proofs.Common.{arith, ℕ, suc, ◌≡◌, ◌+◌, ◌<◌, refl, sym, ◌∙◌, ap, subst, List, [], ◌∷◌, ◌++◌, length, Bool, cond, append-nil, append_assoc}
use Rattle.std.specs.Prelude.{Option, Some, None, IsTrue, Ok, Err}
use Rattle.std.specs.Io.KnownBytes.{append_known}
use Rattle.std.proofs.lemmas.List.Elements.{All-nil}
use Rattle.blic_claims.specs.Turns.{turns}
use Rattle.blic_draw.specs.DrawRun.{draw_from}
use Rattle.blic_inbox.specs.Listening.{Listens}
use Rattle.blic_link.specs.Passing.{Piece, got, sent_bytes, with_pieces}
use Rattle.blic_link.specs.Sending.{all_sent}
use Rattle.blic_link.proofs.Joined.{with_none, with_pieces-append}
use Rattle.blic_messages.specs.FrontLaws.{AreBytes}
use Rattle.blic_messages.specs.Frames.{ask_spelling}
use Rattle.blic_messages.specs.Fronts.{reply_grammar}
use Rattle.blic_messages.specs.Replies.{Said}
use Rattle.blic_messages.specs.declared.ask.Ask.{Ask}
use Rattle.blic_messages.specs.declared.ask.Ask.TheVariants.{Hello}
use Rattle.blic_print.specs.Printing.{frame_line, talk_text}
use Rattle.blic_verifier.specs.Asking.{IsAt, replies_in}
use Rattle.blic_verifier.specs.Conversation.{Instance, Position, Awaits, Ended, beginning, read_on}
use Rattle.blic_verifier.specs.Hearing.{readings}
use Rattle.blic_verifier.specs.Verdict.{Talk, Silent, Talked}
use Rattle.blic_verifier.specs.declared.asker.Following.TheVariants.{Asks, Ends}
use Rattle.blic_verifier.specs.declared.ending.Ending.{Ending}
use Rattle.blic_client.specs.Linked.{LinkCounts, Linking, wanted}
use Rattle.blic_client.specs.UnderWay.{IsHearing, IsReading, IsSaying, linking, reply_line}
use Rattle.blic_client.specs.declared.machine.Machine.{Machine}
use Rattle.blic_client.specs.declared.verdict.Verdict.{Verdict}
use Rattle.blic_client.proofs.Ends.{HasEnded, IsLed, unheard, unsaid}
use Rattle.blic_client.proofs.Judging.{one_reply_more}
use Rattle.blic_client.proofs.Lines.{Printed, none_printed, printed_more}
use Rattle.blic_client.proofs.Splitting.{asks_next, frames_before, frames_more, one_told, reply_frames}
use Rattle.blic_client.proofs.Way.{IsSoFar, Reads, heard_more, is_reply, listened, read_first, reads_now, reads_sent, reads_whole, sent_more, spelled_next}

-- this ask stands next, behind some lines; so many replies have come
pub record IsWay (first : Linking) (draw : ℕ → ℕ) (m : Machine) (ask : Ask) (told told_now : Option (List Piece)) (held held_now : Option (List ℕ)) (count : ℕ) (sent : List ℕ) (lines : List (List ℕ)) : Type 0 where
  pub pieces : List Piece
  pub heard : List (Option Said)
  pub talk : Talk
  pub draws : ℕ
  pub told_is : told_now ≡ with_pieces told pieces
  pub so : IsSoFar first.about draw pieces heard (Awaits ask talk draws) sent
  pub reads : Reads pieces heard m.inbox
  pub printed : Printed first.talk (frames_before first.about draw (beginning first.about) heard ++ lines) held held_now
  pub at : IsAt m.asker (Awaits ask talk draws)
  pub counted : replies_in talk ≡ count

-- the ask was not sent, or it was
abbrev pub IsOnWay : Linking → (ℕ → ℕ) → Machine → Ask → Option (List Piece) → Option (List Piece) → Option (List ℕ) → Option (List ℕ) → ℕ → Type 0
IsOnWay first draw m ask told told_now held held_now count = IsWay first draw m ask told told_now held held_now count [] []

abbrev pub IsSent : Linking → (ℕ → ℕ) → Machine → Ask → Option (List Piece) → Option (List Piece) → Option (List ℕ) → Option (List ℕ) → ℕ → Type 0
IsSent first draw m ask told told_now held held_now count = IsWay first draw m ask told told_now held held_now count (ask_spelling ask) (ask_spelling ask ∷ [])

-- the whole conversation
abbrev pub IsOver : Linking → (ℕ → ℕ) → Option (List Piece) → Option (List Piece) → Option (List ℕ) → ℕ → ℕ → Option (List ℕ) → Option (List ℕ) → Verdict → Type 0
IsOver first draw told told_now coming faults faults_now held held_now v =
    (pieces : List Piece) × (told_now ≡ with_pieces told pieces) × IsLed first draw pieces coming faults faults_now held held_now v

pub told_more : (told mid now : Option (List Piece)) (pieces more : List Piece) → mid ≡ with_pieces told pieces → now ≡ with_pieces mid more → now ≡ with_pieces told (pieces ++ more)
told_more told mid now pieces more first second = second ∙ (ap (λ z. with_pieces z more) first ∙ with_pieces-append told pieces more)

pub at_the_start : (draw : ℕ → ℕ) (m : Machine) (ask : Ask) (told : Option (List Piece)) (held : Option (List ℕ)) → ask ≡ Hello m.asker.about.hello → IsAt m.asker (beginning m.asker.about) → m.inbox ≡ []
    → IsOnWay (linking m) draw m ask told told held held 0
at_the_start draw m ask told held is at empty = record {
  pieces = [];
  heard = [];
  talk = Silent;
  draws = 0;
  told_is = sym (with_none told);
  so = record {
    reached = ap (λ a. Awaits a Silent 0) (sym is);
    replies = All-nil _;
    sent = refl;
    pace = (wanted m.asker.about draw [], refl);
  };
  reads = λ more. ap (λ z. readings (z ++ more)) (sym empty);
  printed = none_printed m.talk held;
  at = subst (λ a. IsAt m.asker (Awaits a Silent 0)) (sym is) at;
  counted = refl;
}

-- the ask was sent
pub said : (first : Linking) (draw : ℕ → ℕ) (m : Machine) (ask : Ask) (told mid now : Option (List Piece)) (held held_mid held_now : Option (List ℕ)) (count : ℕ) (new : List Piece)
    → IsOnWay first draw m ask told mid held held_mid count → linking m ≡ first → now ≡ with_pieces mid new → IsTrue (all_sent new)
    → (sent_bytes new ≡ ask_spelling ask) × (held_now ≡ append_known held_mid (cond m.talk (frame_line (ask_spelling ask)) [])) → IsSent first draw m ask told now held held_now count
said first draw m ask told mid now held held_mid held_now count new w same tells all (is, line) =
    let before : List (List ℕ) = frames_before first.about draw (beginning first.about) w.heard in
    let later = asks_next first.about draw ask w.talk w.draws (readings m.inbox) in record {
      pieces = w.pieces ++ new;
      heard = w.heard;
      talk = w.talk;
      draws = w.draws;
      told_is = told_more told mid now w.pieces new w.told_is tells;
      so = sent_more first.about draw w.pieces new w.heard (readings m.inbox) (Awaits ask w.talk w.draws) (ask_spelling ask) _ w.so (reads_now w.pieces w.heard m.inbox w.reads) all is
          (spelled_next ask _ later.0 later.1);
      reads = reads_sent w.pieces new w.heard m.inbox all w.reads;
      printed = printed_more first.talk before (ask_spelling ask ∷ []) (frame_line (ask_spelling ask)) held held_mid held_now (append-nil (frame_line (ask_spelling ask)))
          (w.printed ∙ ap (λ z. append_known held (cond first.talk (talk_text z) [])) (append-nil before))
          (line ∙ ap (λ z. append_known held_mid (cond z.talk (frame_line (ask_spelling ask)) [])) same);
      at = w.at;
      counted = w.counted;
    }

-- it couldn't be sent, or its line not be printed
pub not_said : (first : Linking) (draw : ℕ → ℕ) (m : Machine) (ask : Ask) (told mid now : Option (List Piece)) (coming : Option (List ℕ)) (faults faults_now : ℕ) (held held_mid held_now : Option (List ℕ)) (count : ℕ)
    (new : List Piece) (v : Verdict) → IsOnWay first draw m ask told mid held held_mid count → linking m ≡ first → now ≡ with_pieces mid new → IsTrue (all_sent new)
    → IsSaying m.talk (ask_spelling ask) (Err v) new held_mid held_now → LinkCounts faults faults_now v → IsOver first draw told now coming faults faults_now held held_now v
not_said first draw m ask told mid now coming faults faults_now held held_mid held_now count new v w same tells all says counts = (
  w.pieces ++ new,
  told_more told mid now w.pieces new w.told_is tells,
  unsaid first draw w.pieces new w.heard m.inbox ask w.talk w.draws v coming faults faults_now held held_mid held_now w.so w.reads
      (w.printed ∙ ap (λ z. append_known held (cond first.talk (talk_text z) [])) (append-nil (frames_before first.about draw (beginning first.about) w.heard))) all
      (subst (λ z. IsSaying z.talk (ask_spelling ask) (Err v) new held_mid held_now) same says) counts,
)

-- no reply was heard, or its line not printed
pub not_heard : (first : Linking) (draw : ℕ → ℕ) (m k : Machine) (ask : Ask) (told mid now : Option (List Piece)) (coming : Option (List ℕ)) (faults faults_now : ℕ) (held held_mid held_now : Option (List ℕ)) (count : ℕ)
    (new : List Piece) (v : Verdict) → IsSent first draw m ask told mid held held_mid count → linking m ≡ first → now ≡ with_pieces mid new → Listens reply_grammar m.inbox new
    → IsHearing m k (m.inbox ++ got new) coming held_mid held_now (Err v) → LinkCounts faults faults_now v → IsOver first draw told now coming faults faults_now held held_now v
not_heard first draw m k ask told mid now coming faults faults_now held held_mid held_now count new v w same tells listens hears counts =
    let here = listened first.about draw ask w.talk w.draws w.heard w.pieces new m.inbox w.so w.reads listens in (
      w.pieces ++ new,
      told_more told mid now w.pieces new w.told_is tells,
      unheard first draw (w.pieces ++ new) w.heard (m.inbox ++ got new) ask w.talk w.draws v m k coming faults faults_now held held_mid held_now here.0 here.1 w.printed (ap (λ z. z.talk) same) hears counts,
    )

-- where a reading leads, seen from the first position on
from_first : (first : Linking) (draw : ℕ → ℕ) (m : Machine) (p : Position) (r : Option Said) → linking m ≡ first → draw ≡ draw_from m.asker.draws.source
    → read_on first.about draw p r ≡ read_on m.asker.about (draw_from m.asker.draws.source) p r
from_first first draw m p r same is = ap (λ z. read_on first.about z p r) is ∙ ap (λ z. read_on z.about (draw_from m.asker.draws.source) p r) (sym same)

reply_text : (r : Option Said) → talk_text (reply_frames r) ≡ reply_line r
reply_text None = refl
reply_text (Some s) = append-nil _

-- the lines behind a reading
lines_so : (first : Linking) (draw : ℕ → ℕ) (pieces : List Piece) (heard : List (Option Said)) (ask : Ask) (t : Talk) (n : ℕ) (r : Option Said) (talked : Bool) (held mid now : Option (List ℕ))
    → IsSoFar first.about draw pieces heard (Awaits ask t n) (ask_spelling ask) → talked ≡ first.talk
    → Printed first.talk (frames_before first.about draw (beginning first.about) heard ++ ask_spelling ask ∷ []) held mid
    → now ≡ append_known mid (cond talked (reply_line r) []) → Printed first.talk (frames_before first.about draw (beginning first.about) (heard ++ r ∷ [])) held now
lines_so first draw pieces heard ask t n r talked held mid now so talks printed line =
    let before : List (List ℕ) = frames_before first.about draw (beginning first.about) heard in
    let frames : frames_before first.about draw (beginning first.about) (heard ++ r ∷ []) ≡ (before ++ ask_spelling ask ∷ []) ++ reply_frames r
    = frames_more first.about draw (beginning first.about) heard (r ∷ [])
    ∙ (ap (λ z. before ++ z) (ap (λ p. frames_before first.about draw p (r ∷ [])) so.reached ∙ one_told first.about draw ask t n r)
    ∙ sym (append_assoc before (ask_spelling ask ∷ []) (reply_frames r))) in
    printed_more first.talk (before ++ ask_spelling ask ∷ []) (reply_frames r) (reply_line r) held mid now (reply_text r) printed (line ∙ ap (λ z. append_known mid (cond z (reply_line r) [])) talks)
    ∙ ap (λ z. append_known held (cond first.talk (talk_text z) [])) (sym frames)

reads_on : (pieces : List Piece) (heard : List (Option Said)) (bytes rest : List ℕ) (x : Instance) (draw : ℕ → ℕ) (ask next : Ask) (t u : Talk) (n m : ℕ) (r : Option Said)
    → read_on x draw (Awaits ask t n) r ≡ Awaits next u m → IsReading r bytes rest → Reads pieces heard bytes → Reads pieces (heard ++ r ∷ []) rest
reads_on pieces heard bytes rest x draw ask next t u n m None is reading reads = absurd (cc is)
reads_on pieces heard bytes rest x draw ask next t u n m (Some s) is (size, e, left) reads = subst (Reads pieces (heard ++ Some s ∷ [])) (sym left) (reads_whole pieces heard bytes s size e reads)

-- a reply was heard, and the next ask stands
pub onward : (first : Linking) (draw : ℕ → ℕ) (m k : Machine) (ask next : Ask) (told mid now : Option (List Piece)) (coming held held_mid held_now : Option (List ℕ)) (count : ℕ) (new : List Piece)
    → IsSent first draw m ask told mid held held_mid count → linking m ≡ first → draw ≡ draw_from m.asker.draws.source → now ≡ with_pieces mid new → Listens reply_grammar m.inbox new → AreBytes (m.inbox ++ got new)
    → IsHearing m k (m.inbox ++ got new) coming held_mid held_now (Ok (Asks next)) → IsOnWay first draw k next told now held held_now (count + 1)
onward first draw m k ask next told mid now coming held held_mid held_now count new w same is_draw tells listens are (r, reading, line, judged) =
    let here = listened first.about draw ask w.talk w.draws w.heard w.pieces new m.inbox w.so w.reads listens in
    let led = judged (Awaits ask w.talk w.draws) w.at in
    let there = from_first first draw m (Awaits ask w.talk w.draws) r same is_draw ∙ led.1.2 in record {
      pieces = w.pieces ++ new;
      heard = w.heard ++ r ∷ [];
      talk = led.1.0;
      draws = led.1.1;
      told_is = told_more told mid now w.pieces new w.told_is tells;
      so = heard_more first.about draw (w.pieces ++ new) w.heard ask w.talk w.draws r (Awaits next led.1.0 led.1.1) here.0 (is_reply r (m.inbox ++ got new) k.inbox are reading) there;
      reads = reads_on (w.pieces ++ new) w.heard (m.inbox ++ got new) k.inbox first.about draw ask next w.talk led.1.0 w.draws led.1.1 r there reading here.1;
      printed = lines_so first draw (w.pieces ++ new) w.heard ask w.talk w.draws r m.talk held held_mid held_now here.0 (ap (λ z. z.talk) same) w.printed line
          ∙ ap (λ z. append_known held (cond first.talk (talk_text z) [])) (sym (append-nil (frames_before first.about draw (beginning first.about) (w.heard ++ r ∷ []))));
      at = subst (IsAt k.asker) led.1.2 led.0;
      counted = one_reply_more first.about draw ask next w.talk led.1.0 r w.draws led.1.1 there ∙ (ap suc w.counted ∙ omega arith);
    }

-- what was heard ends it
pub to_the_end : (first : Linking) (draw : ℕ → ℕ) (m k : Machine) (ask : Ask) (e : Ending) (told mid now : Option (List Piece)) (coming held held_mid held_now : Option (List ℕ)) (count : ℕ) (new : List Piece)
    → IsSent first draw m ask told mid held held_mid count → linking m ≡ first → draw ≡ draw_from m.asker.draws.source → now ≡ with_pieces mid new → Listens reply_grammar m.inbox new → AreBytes (m.inbox ++ got new)
    → IsHearing m k (m.inbox ++ got new) coming held_mid held_now (Ok (Ends e))
    → (pieces : List Piece) × (t : Talk) × (now ≡ with_pieces told pieces) × HasEnded first draw pieces e t held held_now
to_the_end first draw m k ask e told mid now coming held held_mid held_now count new w same is_draw tells listens are (r, reading, line, judged) =
    let here = listened first.about draw ask w.talk w.draws w.heard w.pieces new m.inbox w.so w.reads listens in
    let led = judged (Awaits ask w.talk w.draws) w.at in
    let there = from_first first draw m (Awaits ask w.talk w.draws) r same is_draw ∙ led.1.1 in
    let rs = read_first r (m.inbox ++ got new) k.inbox reading in (
      w.pieces ++ new,
      led.1.0,
      told_more told mid now w.pieces new w.told_is tells,
      record {
        heard = w.heard ++ r ∷ [];
        rest = rs.0;
        so = heard_more first.about draw (w.pieces ++ new) w.heard ask w.talk w.draws r (Ended e led.1.0) here.0 (is_reply r (m.inbox ++ got new) k.inbox are reading) there;
        reads = reads_now (w.pieces ++ new) w.heard (m.inbox ++ got new) here.1 ∙ (ap (λ z. w.heard ++ z) rs.1 ∙ sym (append_assoc w.heard (r ∷ []) rs.0));
        printed = lines_so first draw (w.pieces ++ new) w.heard ask w.talk w.draws r m.talk held held_mid held_now here.0 (ap (λ z. z.talk) same) w.printed line;
      },
    )

-- there are no more turns
pub no_more_turns : (first : Linking) (draw : ℕ → ℕ) (m : Machine) (ask : Ask) (told told_now : Option (List Piece)) (held held_now : Option (List ℕ)) (count : ℕ)
    → IsOnWay first draw m ask told told_now held held_now count → linking m ≡ first → length (turns first.about.circuit.nodes (length first.about.circuit.order)) < count → ⊥
no_more_turns first draw m ask told told_now held held_now count w same last =
    by_talk w.talk w.at w.counted (ap (λ z. length (turns z.about.circuit.nodes (length z.about.circuit.order))) same)
  where
    by_talk : (t : Talk) → IsAt m.asker (Awaits ask t w.draws) → replies_in t ≡ count
        → length (turns m.asker.about.circuit.nodes (length m.asker.about.circuit.order)) ≡ length (turns first.about.circuit.nodes (length first.about.circuit.order)) → ⊥
    by_talk Silent at counted circuit = omega (arith, counted, last)
    by_talk (Talked b draws replies) at counted circuit = omega (arith, counted, last, at.4.0, circuit)
