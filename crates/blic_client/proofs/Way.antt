-- The way of a conversation over a link, turn by turn.
use Rattle.std.proofs.Common.{ℕ, ◌≡◌, ◌≢◌, refl, sym, ◌∙◌, ap, subst, List, [], ◌∷◌, ◌++◌, drop, append-nil, append_assoc}
use Rattle.std.specs.Prelude.{Option, Some, None, IfSome, IsTrue, filter}
use Rattle.std.proofs.lemmas.Grind.{flat_map-append}
use Rattle.std.proofs.lemmas.List.{drop-append-le}
use Rattle.std.proofs.lemmas.List.Concat.{flat_map-cons}
use Rattle.std.proofs.lemmas.List.Sums.{fold-append}
use Rattle.std.proofs.lemmas.List.Elements.{All-nil, All-cons, All-append}
use Rattle.blic_inbox.specs.Listening.{Listens}
use Rattle.blic_link.specs.Pace.{Grows, KeepsPace}
use Rattle.blic_link.specs.Passing.{Piece, Came, Went, got, sent_bytes}
use Rattle.blic_link.specs.Sending.{all_sent}
use Rattle.blic_link.proofs.Joined.{got-append, got-all_sent, sent_bytes-append}
use Rattle.blic_link.proofs.Paces.{receiving, sending_all}
use Rattle.blic_messages.specs.FrontLaws.{AreBytes}
use Rattle.blic_messages.specs.Frames.{ask_spelling}
use Rattle.blic_messages.specs.Fronts.{reply_grammar}
use Rattle.blic_messages.specs.Grammar.{Whole, Partial, front}
use Rattle.blic_messages.specs.Reading.{IsReply}
use Rattle.blic_messages.specs.Replies.{Said}
use Rattle.blic_messages.specs.declared.ask.Ask.{Ask}
use Rattle.blic_messages.proofs.Headers.{whole_le}
use Rattle.blic_messages.proofs.ReplyBodies.{reply_sizes}
use Rattle.blic_messages.proofs.ReplyFronts.{stays}
use Rattle.blic_messages.proofs.ReplyFronts.{spelled as whole_spelled}
use Rattle.blic_verifier.specs.Certified.{AreReplies}
use Rattle.blic_verifier.specs.Conversation.{Instance, Position, Awaits, beginning, read_on, position_after}
use Rattle.blic_verifier.specs.Hearing.{asked, asks_from, position_of, readings, record_frames, record_from, spelled}
use Rattle.blic_verifier.specs.Verdict.{Talk}
use Rattle.blic_verifier.proofs.Hearing.{asks_grow, readings_broken, readings_partial, readings_whole}
use Rattle.blic_client.specs.Linked.{questions, wanted, wants_reply}
use Rattle.blic_client.specs.UnderWay.{IsReading}
use Rattle.blic_client.proofs.Splitting.{asks_before, asks_more, asks_split, frames_before, one_asked, questions_split, record_split}

-- after these readings the conversation stands there; all asks before were sent, and these bytes behind them
pub record IsSoFar (x : Instance) (draw : ℕ → ℕ) (pieces : List Piece) (heard : List (Option Said)) (p : Position) (more : List ℕ) : Type 0 where
  pub reached : position_after x draw (beginning x) heard ≡ p
  pub replies : AreReplies heard
  pub sent : sent_bytes pieces ≡ spelled (asks_before x draw (beginning x) heard) ++ more
  pub pace : KeepsPace (wanted x draw) pieces

-- what was not read yet is read behind the readings, whatever follows
abbrev pub Reads : List Piece → List (Option Said) → List ℕ → Type 0
Reads pieces heard inbox = (more : List ℕ) → readings (got pieces ++ more) ≡ heard ++ readings (inbox ++ more)

pub reads_now : (pieces : List Piece) (heard : List (Option Said)) (inbox : List ℕ) → Reads pieces heard inbox → readings (got pieces) ≡ heard ++ readings inbox
reads_now pieces heard inbox reads = ap readings (sym (append-nil (got pieces))) ∙ (reads [] ∙ ap (λ z. heard ++ readings z) (append-nil inbox))

reads_same : (pieces others : List Piece) (heard : List (Option Said)) (inbox rest : List ℕ) → got others ≡ got pieces → inbox ≡ rest → Reads pieces heard inbox → Reads others heard rest
reads_same pieces others heard inbox rest e f reads more = ap (λ z. readings (z ++ more)) e ∙ (reads more ∙ ap (λ z. heard ++ readings (z ++ more)) f)

-- ---- by the readings

pub asked_is : (x : Instance) (draw : ℕ → ℕ) (pieces : List Piece) (heard rest : List (Option Said)) (p : Position) (more : List ℕ) → IsSoFar x draw pieces heard p more
    → readings (got pieces) ≡ heard ++ rest → asked x draw (got pieces) ≡ asks_before x draw (beginning x) heard ++ asks_from x draw p rest
asked_is x draw pieces heard rest p more so e =
    ap (asks_from x draw (beginning x)) e ∙ (asks_split x draw (beginning x) heard rest ∙ ap (λ q. asks_before x draw (beginning x) heard ++ asks_from x draw q rest) so.reached)

pub wanted_is : (x : Instance) (draw : ℕ → ℕ) (pieces : List Piece) (heard rest : List (Option Said)) (p : Position) (more : List ℕ) → IsSoFar x draw pieces heard p more
    → readings (got pieces) ≡ heard ++ rest → wanted x draw (got pieces) ≡ spelled (asks_before x draw (beginning x) heard) ++ spelled (asks_from x draw p rest)
wanted_is x draw pieces heard rest p more so e =
    ap spelled (asked_is x draw pieces heard rest p more so e) ∙ flat_map-append ask_spelling (asks_before x draw (beginning x) heard) (asks_from x draw p rest)

pub questions_are : (x : Instance) (draw : ℕ → ℕ) (pieces : List Piece) (heard rest : List (Option Said)) (p : Position) (more : List ℕ) → IsSoFar x draw pieces heard p more
    → readings (got pieces) ≡ heard ++ rest → questions x draw (got pieces) ≡ spelled (asks_before x draw (beginning x) heard) ++ spelled (filter wants_reply (asks_from x draw p rest))
questions_are x draw pieces heard rest p more so e =
    ap (λ asks. spelled (filter wants_reply asks)) (asked_is x draw pieces heard rest p more so e) ∙ questions_split x draw heard (asks_from x draw p rest)

pub position_is : (x : Instance) (draw : ℕ → ℕ) (pieces : List Piece) (heard rest : List (Option Said)) (p : Position) (more : List ℕ) → IsSoFar x draw pieces heard p more
    → readings (got pieces) ≡ heard ++ rest → position_of x draw (got pieces) ≡ position_after x draw p rest
position_is x draw pieces heard rest p more so e =
    ap (position_after x draw (beginning x)) e ∙ (fold-append (read_on x draw) (beginning x) heard rest ∙ ap (λ q. position_after x draw q rest) so.reached)

pub record_is : (x : Instance) (draw : ℕ → ℕ) (pieces : List Piece) (heard rest : List (Option Said)) (p : Position) (more : List ℕ) → IsSoFar x draw pieces heard p more
    → readings (got pieces) ≡ heard ++ rest
    → record_frames x draw (got pieces) (sent_bytes pieces) ≡ frames_before x draw (beginning x) heard ++ record_from x draw p rest more
record_is x draw pieces heard rest p more so e =
    ap (λ rs. record_from x draw (beginning x) rs (sent_bytes pieces)) e ∙ (ap (record_from x draw (beginning x) (heard ++ rest)) so.sent
    ∙ (record_split x draw (beginning x) heard rest more ∙ ap (λ q. frames_before x draw (beginning x) heard ++ record_from x draw q rest more) so.reached))

-- ---- pieces more

wanted_grows : (x : Instance) (draw : ℕ → ℕ) → Grows (wanted x draw)
wanted_grows x draw came more = let longer = asks_grow x draw came more in (spelled longer.0, ap spelled longer.1 ∙ flat_map-append ask_spelling (asked x draw came) longer.0)

pub got_same : (pieces new : List Piece) → IsTrue (all_sent new) → got (pieces ++ new) ≡ got pieces
got_same pieces new all = got-append pieces new ∙ (ap (λ z. got pieces ++ z) (got-all_sent new all) ∙ append-nil (got pieces))

-- the next of what is wanted was sent
pub sent_more : (x : Instance) (draw : ℕ → ℕ) (pieces new : List Piece) (heard rest : List (Option Said)) (p : Position) (more tail : List ℕ) → IsSoFar x draw pieces heard p []
    → readings (got pieces) ≡ heard ++ rest → IsTrue (all_sent new) → sent_bytes new ≡ more → spelled (asks_from x draw p rest) ≡ more ++ tail → IsSoFar x draw (pieces ++ new) heard p more
sent_more x draw pieces new heard rest p more tail so e all is next =
    let before : List ℕ = spelled (asks_before x draw (beginning x) heard) in
    let sent : sent_bytes pieces ≡ before = so.sent ∙ append-nil before in
    let both : sent_bytes pieces ++ sent_bytes new ≡ before ++ more = ap (λ z. z ++ sent_bytes new) sent ∙ ap (λ z. before ++ z) is in
    let begins : wanted x draw (got pieces) ≡ (sent_bytes pieces ++ sent_bytes new) ++ tail
    = wanted_is x draw pieces heard rest p [] so e ∙ (ap (λ z. before ++ z) next ∙ (sym (append_assoc before more tail) ∙ ap (λ z. z ++ tail) (sym both))) in
    record {
      reached = so.reached;
      replies = so.replies;
      sent = sent_bytes-append pieces new ∙ both;
      pace = sending_all (wanted x draw) pieces new so.pace all (tail, begins);
    }

pub reads_sent : (pieces new : List Piece) (heard : List (Option Said)) (inbox : List ℕ) → IsTrue (all_sent new) → Reads pieces heard inbox → Reads (pieces ++ new) heard inbox
reads_sent pieces new heard inbox all reads = reads_same pieces (pieces ++ new) heard inbox inbox (got_same pieces new all) refl reads

-- an ask and what is wanted behind it
pub spelled_next : (ask : Ask) (asks later : List Ask) → asks ≡ ask ∷ later → spelled asks ≡ ask_spelling ask ++ spelled later
spelled_next ask asks later e = ap spelled e ∙ flat_map-cons ask_spelling ask later

-- pieces came while all that is wanted was sent
pub listened : (x : Instance) (draw : ℕ → ℕ) (ask : Ask) (t : Talk) (n : ℕ) (heard : List (Option Said)) (pieces new : List Piece) (inbox : List ℕ)
    → IsSoFar x draw pieces heard (Awaits ask t n) (ask_spelling ask) → Reads pieces heard inbox → Listens reply_grammar inbox new
    → IsSoFar x draw (pieces ++ new) heard (Awaits ask t n) (ask_spelling ask) × Reads (pieces ++ new) heard (inbox ++ got new)
listened x draw ask t n heard pieces [] inbox so reads l = (
  subst (λ z. IsSoFar x draw z heard (Awaits ask t n) (ask_spelling ask)) (sym (append-nil pieces)) so,
  reads_same pieces (pieces ++ []) heard inbox (inbox ++ []) (ap got (append-nil pieces)) (sym (append-nil inbox)) reads,
)
listened x draw ask t n heard pieces (Went b ∷ new) inbox so reads l = absurd l
listened x draw ask t n heard pieces (Came b ∷ new) inbox so reads l =
    let mid : List Piece = pieces ++ Came b ∷ [] in
    let none : readings (got pieces) ≡ heard ++ [] = reads_now pieces heard inbox reads ∙ ap (λ z. heard ++ z) (readings_partial inbox l.0) in
    let all : sent_bytes pieces ≡ wanted x draw (got pieces)
    = so.sent ∙ (ap (λ z. spelled (asks_before x draw (beginning x) heard) ++ z) (sym (append-nil (ask_spelling ask)))
    ∙ sym (wanted_is x draw pieces heard [] (Awaits ask t n) (ask_spelling ask) so none)) in
    let came : got mid ≡ got pieces ++ b = got-append pieces (Came b ∷ []) ∙ ap (λ z. got pieces ++ z) (append-nil b) in
    let so_mid : IsSoFar x draw mid heard (Awaits ask t n) (ask_spelling ask) = record {
      reached = so.reached;
      replies = so.replies;
      sent = sent_bytes-append pieces (Came b ∷ []) ∙ (append-nil (sent_bytes pieces) ∙ so.sent);
      pace = receiving (wanted x draw) pieces b (wanted_grows x draw) so.pace all;
    } in
    let reads_mid : Reads mid heard (inbox ++ b) = λ more. ap (λ z. readings (z ++ more)) came ∙ (ap readings (append_assoc (got pieces) b more) ∙ (reads (b ++ more) ∙ ap (λ z. heard ++ readings z) (sym (append_assoc inbox b more)))) in
    let later = listened x draw ask t n heard mid new (inbox ++ b) so_mid reads_mid l.1 in (
      subst (λ z. IsSoFar x draw z heard (Awaits ask t n) (ask_spelling ask)) (append_assoc pieces (Came b ∷ []) new) later.0,
      reads_same (mid ++ new) (pieces ++ Came b ∷ new) heard ((inbox ++ b) ++ got new) (inbox ++ (b ++ got new)) (ap got (sym (append_assoc pieces (Came b ∷ []) new))) (append_assoc inbox b (got new)) later.1,
    )

-- ---- a reading more

told_whole : (bytes : List ℕ) (s : Said) (n : ℕ) → front reply_grammar bytes ≡ Whole s n → front reply_grammar bytes ≢ Partial
told_whole bytes s n e p = cc

pub reads_whole : (pieces : List Piece) (heard : List (Option Said)) (bytes : List ℕ) (s : Said) (n : ℕ) → front reply_grammar bytes ≡ Whole s n → Reads pieces heard bytes
    → Reads pieces (heard ++ Some s ∷ []) (drop n bytes)
reads_whole pieces heard bytes s n e reads more =
    let stay : front reply_grammar (bytes ++ more) ≡ Whole s n = stays bytes more (told_whole bytes s n e) ∙ e in
    reads more ∙ (ap (λ z. heard ++ z) (readings_whole (bytes ++ more) s n stay)
    ∙ (ap (λ z. heard ++ Some s ∷ readings z) (drop-append-le n bytes more (whole_le reply_grammar reply_sizes bytes s n e))
    ∙ sym (append_assoc heard (Some s ∷ []) (readings (drop n bytes ++ more)))))

-- what is read first
pub read_first : (r : Option Said) (bytes rest : List ℕ) → IsReading r bytes rest → (rs : List (Option Said)) × (readings bytes ≡ r ∷ rs)
read_first None bytes rest e = ([], readings_broken bytes e)
read_first (Some s) bytes rest (n, e, is) = (readings (drop n bytes), readings_whole bytes s n e)

pub is_reply : (r : Option Said) (bytes rest : List ℕ) → AreBytes bytes → IsReading r bytes rest → IfSome r IsReply
is_reply None bytes rest are e = tt
is_reply (Some s) bytes rest are (n, e, is) = (whole_spelled bytes s n are e).1

pub heard_more : (x : Instance) (draw : ℕ → ℕ) (pieces : List Piece) (heard : List (Option Said)) (ask : Ask) (t : Talk) (n : ℕ) (r : Option Said) (q : Position)
    → IsSoFar x draw pieces heard (Awaits ask t n) (ask_spelling ask) → IfSome r IsReply → read_on x draw (Awaits ask t n) r ≡ q → IsSoFar x draw pieces (heard ++ r ∷ []) q []
heard_more x draw pieces heard ask t n r q so ok is =
    let asks : asks_before x draw (beginning x) (heard ++ r ∷ []) ≡ asks_before x draw (beginning x) heard ++ ask ∷ []
    = asks_more x draw (beginning x) heard (r ∷ [])
    ∙ ap (λ z. asks_before x draw (beginning x) heard ++ z) (ap (λ p. asks_before x draw p (r ∷ [])) so.reached ∙ one_asked x draw ask t n r) in
    let all : spelled (asks_before x draw (beginning x) (heard ++ r ∷ [])) ≡ spelled (asks_before x draw (beginning x) heard) ++ ask_spelling ask
    = ap spelled asks ∙ (flat_map-append ask_spelling (asks_before x draw (beginning x) heard) (ask ∷ [])
    ∙ ap (λ z. spelled (asks_before x draw (beginning x) heard) ++ z) (append-nil (ask_spelling ask))) in
    record {
      reached = fold-append (read_on x draw) (beginning x) heard (r ∷ []) ∙ (ap (λ p. read_on x draw p r) so.reached ∙ is);
      replies = All-append (λ r. IfSome r IsReply) heard (r ∷ []) so.replies (All-cons (λ r. IfSome r IsReply) r [] ok (All-nil (λ r. IfSome r IsReply)));
      sent = so.sent ∙ (sym all ∙ sym (append-nil (spelled (asks_before x draw (beginning x) (heard ++ r ∷ [])))));
      pace = so.pace;
    }
