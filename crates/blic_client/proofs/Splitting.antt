-- What was asked and recorded over the first of some readings, and what is over the others.
use Rattle.std.proofs.Common.{arith, ℕ, ◌≡◌, ◌<◌, refl, sym, ◌∙◌, ap, subst, List, [], ◌∷◌, ◌++◌, length, take, drop, true, inl, inr, append-nil, append_assoc}
use Rattle.std.specs.Prelude.{Option, Some, None, bytes_eq, filter}
use Rattle.std.proofs.Math.Seq.{take-append_seam, drop-append_seam}
use Rattle.std.proofs.lemmas.Bool.{cases_Bool, cond-true, cond-false}
use Rattle.std.proofs.lemmas.Grind.{flat_map-append}
use Rattle.std.proofs.lemmas.List.{length-take}
use Rattle.std.proofs.lemmas.List.Concat.{flat_map-cons}
use Rattle.std.proofs.lemmas.List.Elements.{filter-append}
use Rattle.std.proofs.lemmas.Slice.Eq.{bytes_eq-Decides}
use Rattle.blic_messages.specs.Frames.{ask_spelling, reply_spelling}
use Rattle.blic_messages.specs.Replies.{Said, Answer, Polys, Values, Refused}
use Rattle.blic_messages.specs.declared.ask.Ask.{Ask}
use Rattle.blic_verifier.specs.Conversation.{Instance, Position, Awaits, Ended, beginning, go_on, read_on, position_after}
use Rattle.blic_verifier.specs.Hearing.{asks_from, if_sent, record_from, spelled}
use Rattle.blic_verifier.specs.Verdict.{Talk, Verdict, next_after, with_reply}
use Rattle.blic_verifier.specs.Verdict as verdicts
use Rattle.blic_verifier.specs.declared.ending.Ending.{Ending}
use Rattle.blic_client.specs.Linked.{wants_reply}

-- the asks that these readings followed on
abbrev pub asks_before : Instance → (ℕ → ℕ) → Position → List (Option Said) → List Ask
asks_before x draw p [] = []
asks_before x draw (Awaits ask t n) (r ∷ rs) = ask ∷ asks_before x draw (read_on x draw (Awaits ask t n) r) rs
asks_before x draw (Ended e t) (r ∷ rs) = []

-- the frames of these asks and of the readings
abbrev pub frames_before : Instance → (ℕ → ℕ) → Position → List (Option Said) → List (List ℕ)
frames_before x draw p [] = []
frames_before x draw (Awaits ask t n) (None ∷ rs) = ask_spelling ask ∷ []
frames_before x draw (Awaits ask t n) (Some s ∷ rs) = ask_spelling ask ∷ reply_spelling s ∷ frames_before x draw (read_on x draw (Awaits ask t n) (Some s)) rs
frames_before x draw (Ended e t) (r ∷ rs) = []

-- what has ended stays so
pub stays_ended : (x : Instance) (draw : ℕ → ℕ) (e : Ending) (t : Talk) (rs : List (Option Said)) → position_after x draw (Ended e t) rs ≡ Ended e t
stays_ended x draw e t [] = refl
stays_ended x draw e t (r ∷ rs) = stays_ended x draw e t rs

pub asks_split : (x : Instance) (draw : ℕ → ℕ) (p : Position) (rs more : List (Option Said))
    → asks_from x draw p (rs ++ more) ≡ asks_before x draw p rs ++ asks_from x draw (position_after x draw p rs) more
asks_split x draw p [] more = refl
asks_split x draw (Awaits ask t n) (r ∷ rs) more = ap (λ asks. ask ∷ asks) (asks_split x draw (read_on x draw (Awaits ask t n) r) rs more)
asks_split x draw (Ended e t) (r ∷ rs) more = ap (λ p. asks_from x draw p more) (sym (stays_ended x draw e t rs))

none_asked : (x : Instance) (draw : ℕ → ℕ) (e : Ending) (t : Talk) (rs : List (Option Said)) → asks_before x draw (Ended e t) rs ≡ []
none_asked x draw e t [] = refl
none_asked x draw e t (r ∷ rs) = refl

pub asks_more : (x : Instance) (draw : ℕ → ℕ) (p : Position) (rs more : List (Option Said))
    → asks_before x draw p (rs ++ more) ≡ asks_before x draw p rs ++ asks_before x draw (position_after x draw p rs) more
asks_more x draw p [] more = refl
asks_more x draw (Awaits ask t n) (r ∷ rs) more = ap (λ asks. ask ∷ asks) (asks_more x draw (read_on x draw (Awaits ask t n) r) rs more)
asks_more x draw (Ended e t) (r ∷ rs) more = sym (none_asked x draw e t more) ∙ ap (λ p. asks_before x draw p more) (sym (stays_ended x draw e t rs))

pub one_asked : (x : Instance) (draw : ℕ → ℕ) (ask : Ask) (t : Talk) (n : ℕ) (r : Option Said) → asks_before x draw (Awaits ask t n) (r ∷ []) ≡ ask ∷ []
one_asked x draw ask t n r = refl

none_told : (x : Instance) (draw : ℕ → ℕ) (e : Ending) (t : Talk) (rs : List (Option Said)) → frames_before x draw (Ended e t) rs ≡ []
none_told x draw e t [] = refl
none_told x draw e t (r ∷ rs) = refl

pub frames_more : (x : Instance) (draw : ℕ → ℕ) (p : Position) (rs more : List (Option Said))
    → frames_before x draw p (rs ++ more) ≡ frames_before x draw p rs ++ frames_before x draw (position_after x draw p rs) more
frames_more x draw p [] more = refl
frames_more x draw (Awaits ask t n) (None ∷ rs) more =
    ap (λ z. ask_spelling ask ∷ z) (sym (none_told x draw _ t more) ∙ ap (λ p. frames_before x draw p more) (sym (stays_ended x draw _ t rs)))
frames_more x draw (Awaits ask t n) (Some s ∷ rs) more = ap (λ z. ask_spelling ask ∷ reply_spelling s ∷ z) (frames_more x draw (read_on x draw (Awaits ask t n) (Some s)) rs more)
frames_more x draw (Ended e t) (r ∷ rs) more = sym (none_told x draw e t more) ∙ ap (λ p. frames_before x draw p more) (sym (stays_ended x draw e t rs))

-- the frame of a reply, if there is one
abbrev pub reply_frames : Option Said → List (List ℕ)
reply_frames None = []
reply_frames (Some s) = reply_spelling s ∷ []

pub one_told : (x : Instance) (draw : ℕ → ℕ) (ask : Ask) (t : Talk) (n : ℕ) (r : Option Said) → frames_before x draw (Awaits ask t n) (r ∷ []) ≡ ask_spelling ask ∷ reply_frames r
one_told x draw ask t n None = refl
one_told x draw ask t n (Some s) = refl

-- ---- what was sent of an ask

pub sent_whole : (ask : Ask) (rest : List ℕ) (frames : List (List ℕ)) → if_sent ask (ask_spelling ask ++ rest) frames ≡ ask_spelling ask ∷ frames
sent_whole ask rest frames =
    cond-true _ _ _ (ap (bytes_eq (ask_spelling ask)) (take-append_seam (ask_spelling ask) rest) ∙ (bytes_eq-Decides (ask_spelling ask) (ask_spelling ask)).1 refl)

pub sent_alone : (ask : Ask) (frames : List (List ℕ)) → if_sent ask (ask_spelling ask) frames ≡ ask_spelling ask ∷ frames
sent_alone ask frames = ap (λ z. if_sent ask z frames) (sym (append-nil (ask_spelling ask))) ∙ sent_whole ask [] frames

pub sent_part : (ask : Ask) (sent : List ℕ) (frames : List (List ℕ)) → length sent < length (ask_spelling ask) → if_sent ask sent frames ≡ []
sent_part ask sent frames short = elim (cases_Bool (bytes_eq (ask_spelling ask) (take (length (ask_spelling ask)) sent))) [
  | inl same ↦ let is = (bytes_eq-Decides (ask_spelling ask) (take (length (ask_spelling ask)) sent)).0 same in
      absurd (omega (arith, short, ap length is, length-take (length (ask_spelling ask)) sent))
  | inr other ↦ cond-false _ _ _ other
]

spelled_first : (ask : Ask) (asks : List Ask) (sent : List ℕ) → spelled (ask ∷ asks) ++ sent ≡ ask_spelling ask ++ (spelled asks ++ sent)
spelled_first ask asks sent = ap (λ z. z ++ sent) (flat_map-cons ask_spelling ask asks) ∙ append_assoc (ask_spelling ask) (spelled asks) sent

pub record_split : (x : Instance) (draw : ℕ → ℕ) (p : Position) (rs more : List (Option Said)) (sent : List ℕ)
    → record_from x draw p (rs ++ more) (spelled (asks_before x draw p rs) ++ sent) ≡ frames_before x draw p rs ++ record_from x draw (position_after x draw p rs) more sent
record_split x draw p [] more sent = refl
record_split x draw (Awaits ask t n) (None ∷ rs) more sent =
    ap (λ z. if_sent ask z []) (spelled_first ask (asks_before x draw (read_on x draw (Awaits ask t n) None) rs) sent)
    ∙ (sent_whole ask (spelled (asks_before x draw (read_on x draw (Awaits ask t n) None) rs) ++ sent) []
    ∙ ap (λ p. ask_spelling ask ∷ record_from x draw p more sent) (sym (stays_ended x draw _ t rs)))
record_split x draw (Awaits ask t n) (Some s ∷ rs) more sent =
    let next : Position = read_on x draw (Awaits ask t n) (Some s) in
    let rest : List ℕ = spelled (asks_before x draw next rs) ++ sent in
    ap (λ z. if_sent ask z (reply_spelling s ∷ record_from x draw next (rs ++ more) (drop (length (ask_spelling ask)) z))) (spelled_first ask (asks_before x draw next rs) sent)
    ∙ (sent_whole ask rest (reply_spelling s ∷ record_from x draw next (rs ++ more) (drop (length (ask_spelling ask)) (ask_spelling ask ++ rest)))
    ∙ (ap (λ z. ask_spelling ask ∷ reply_spelling s ∷ record_from x draw next (rs ++ more) z) (drop-append_seam (ask_spelling ask) rest)
    ∙ ap (λ z. ask_spelling ask ∷ reply_spelling s ∷ z) (record_split x draw next rs more sent)))
record_split x draw (Ended e t) (r ∷ rs) more sent = ap (λ p. record_from x draw p more sent) (sym (stays_ended x draw e t rs))

-- ---- asks that want a reply

abbrev WantsReply : Position → Type 0
WantsReply (Awaits ask t n) = wants_reply ask ≡ true
WantsReply (Ended e t) = Unit {0}

going_wants : (draw : ℕ → ℕ) (t : Talk) (n : ℕ) (y : Verdict) → WantsReply (go_on draw t n y)
going_wants draw t n verdicts.Draw = refl
going_wants draw t n verdicts.Go = refl
going_wants draw t n (verdicts.Done b) = tt
going_wants draw t n (verdicts.Rejected place) = tt
going_wants draw t n (verdicts.WrongKind turn) = tt
going_wants draw t n (verdicts.WrongCount turn want got) = tt

reading_wants : (x : Instance) (draw : ℕ → ℕ) (p : Position) (r : Option Said) → WantsReply (read_on x draw p r)
reading_wants x draw (Ended e t) r = tt
reading_wants x draw (Awaits ask t n) None = tt
reading_wants x draw (Awaits ask t n) (Some (Refused r)) = tt
reading_wants x draw (Awaits ask t n) (Some (Answer b)) = going_wants draw (with_reply t (Answer b)) n (next_after x.circuit.nodes (length x.circuit.order) t (Answer b))
reading_wants x draw (Awaits ask t n) (Some (Polys ps)) = going_wants draw (with_reply t (Polys ps)) n (next_after x.circuit.nodes (length x.circuit.order) t (Polys ps))
reading_wants x draw (Awaits ask t n) (Some (Values u w)) = going_wants draw (with_reply t (Values u w)) n (next_after x.circuit.nodes (length x.circuit.order) t (Values u w))

pub keep_one : (ask : Ask) (asks : List Ask) → wants_reply ask ≡ true → filter wants_reply (ask ∷ asks) ≡ ask ∷ filter wants_reply asks
keep_one ask asks wants = cond-true _ _ _ wants

keep_from : (x : Instance) (draw : ℕ → ℕ) (p : Position) (rs : List (Option Said)) → WantsReply p → filter wants_reply (asks_before x draw p rs) ≡ asks_before x draw p rs
keep_from x draw p [] wants = refl
keep_from x draw (Awaits ask t n) (r ∷ rs) wants =
    keep_one ask (asks_before x draw (read_on x draw (Awaits ask t n) r) rs) wants
    ∙ ap (λ asks. ask ∷ asks) (keep_from x draw (read_on x draw (Awaits ask t n) r) rs (reading_wants x draw (Awaits ask t n) r))
keep_from x draw (Ended e t) (r ∷ rs) wants = refl

-- all that was answered wants a reply
pub all_wanting : (x : Instance) (draw : ℕ → ℕ) (rs : List (Option Said)) → filter wants_reply (asks_before x draw (beginning x) rs) ≡ asks_before x draw (beginning x) rs
all_wanting x draw rs = keep_from x draw (beginning x) rs refl

wanting_from : (x : Instance) (draw : ℕ → ℕ) (p : Position) (rs : List (Option Said)) → WantsReply p → WantsReply (position_after x draw p rs)
wanting_from x draw p [] wants = wants
wanting_from x draw p (r ∷ rs) wants = wanting_from x draw (read_on x draw p r) rs (reading_wants x draw p r)

-- and so does the ask that stands next
pub next_wants : (x : Instance) (draw : ℕ → ℕ) (rs : List (Option Said)) (ask : Ask) (t : Talk) (n : ℕ) → position_after x draw (beginning x) rs ≡ Awaits ask t n → wants_reply ask ≡ true
next_wants x draw rs ask t n is = subst WantsReply is (wanting_from x draw (beginning x) rs refl)

-- of all that is wanted, the questions are what was answered and those that follow
pub questions_split : (x : Instance) (draw : ℕ → ℕ) (rs : List (Option Said)) (later : List Ask)
    → spelled (filter wants_reply (asks_before x draw (beginning x) rs ++ later)) ≡ spelled (asks_before x draw (beginning x) rs) ++ spelled (filter wants_reply later)
questions_split x draw rs later =
    ap spelled (filter-append wants_reply (asks_before x draw (beginning x) rs) later ∙ ap (λ z. z ++ filter wants_reply later) (all_wanting x draw rs))
    ∙ flat_map-append ask_spelling (asks_before x draw (beginning x) rs) (filter wants_reply later)

-- an ask that stands next is asked next
pub asks_next : (x : Instance) (draw : ℕ → ℕ) (ask : Ask) (t : Talk) (n : ℕ) (rest : List (Option Said)) → (later : List Ask) × (asks_from x draw (Awaits ask t n) rest ≡ ask ∷ later)
asks_next x draw ask t n [] = ([], refl)
asks_next x draw ask t n (r ∷ rest) = (asks_from x draw (read_on x draw (Awaits ask t n) r) rest, refl)

pub record_next : (x : Instance) (draw : ℕ → ℕ) (ask : Ask) (t : Talk) (n : ℕ) (rest : List (Option Said)) → (later : List (List ℕ)) × (record_from x draw (Awaits ask t n) rest (ask_spelling ask) ≡ ask_spelling ask ∷ later)
record_next x draw ask t n [] = ([], sent_alone ask [])
record_next x draw ask t n (None ∷ rest) = ([], sent_alone ask [])
record_next x draw ask t n (Some s ∷ rest) = (_, sent_alone ask _)

pub record_short : (x : Instance) (draw : ℕ → ℕ) (ask : Ask) (t : Talk) (n : ℕ) (rest : List (Option Said)) (sent : List ℕ) → length sent < length (ask_spelling ask)
    → record_from x draw (Awaits ask t n) rest sent ≡ []
record_short x draw ask t n [] sent short = sent_part ask sent [] short
record_short x draw ask t n (None ∷ rest) sent short = sent_part ask sent [] short
record_short x draw ask t n (Some s ∷ rest) sent short = sent_part ask sent _ short
