-- One piece more keeps pace.
use Rattle.std.proofs.Common.{◌≡◌, ℕ, List, [], ◌∷◌, ◌++◌, ap, sym, subst, ◌∙◌, append_assoc, append-nil}
use Rattle.blic_link.specs.Passing.{Piece, Came, Went, got, sent_bytes}
use Rattle.blic_link.specs.Pace.{Begins, KeepsPaceFrom, KeepsPace, Grows}
use Rattle.blic_link.specs.PaceLaws.{KeepsPaceReceiving, KeepsPaceSending, KeepsPaceSendingAll}
use Rattle.blic_link.proofs.Joined.{got-append, sent_bytes-append}

receiving_from : (wanted : List ℕ → List ℕ) (came went : List ℕ) (pieces : List Piece) (bytes : List ℕ) → Grows wanted → KeepsPaceFrom wanted came went pieces
    → went ++ sent_bytes pieces ≡ wanted (came ++ got pieces) → KeepsPaceFrom wanted came went (pieces ++ Came bytes ∷ [])
receiving_from wanted came went [] bytes grows pace all =
    let same : went ≡ wanted came = sym (append-nil went) ∙ all ∙ ap wanted (append-nil came) in
    (same, ((grows came bytes).0, (grows came bytes).1 ∙ ap (λ front. front ++ (grows came bytes).0) (sym same)))
receiving_from wanted came went (Came b ∷ pieces) bytes grows pace all =
    (pace.0, receiving_from wanted (came ++ b) went pieces bytes grows pace.1 (all ∙ ap wanted (sym (append_assoc came b (got pieces)))))
receiving_from wanted came went (Went b ∷ pieces) bytes grows pace all =
    (pace.0, receiving_from wanted came (went ++ b) pieces bytes grows pace.1 (append_assoc went b (sent_bytes pieces) ∙ all))

sending_from : (wanted : List ℕ → List ℕ) (came went : List ℕ) (pieces : List Piece) (bytes : List ℕ) → KeepsPaceFrom wanted came went pieces
    → Begins (went ++ (sent_bytes pieces ++ bytes)) (wanted (came ++ got pieces)) → KeepsPaceFrom wanted came went (pieces ++ Went bytes ∷ [])
sending_from wanted came went [] bytes pace next = (pace, (next.0, ap wanted (sym (append-nil came)) ∙ next.1))
sending_from wanted came went (Came b ∷ pieces) bytes pace next =
    (pace.0, sending_from wanted (came ++ b) went pieces bytes pace.1 (next.0, ap wanted (append_assoc came b (got pieces)) ∙ next.1))
sending_from wanted came went (Went b ∷ pieces) bytes pace next =
    let same : went ++ ((b ++ sent_bytes pieces) ++ bytes) ≡ (went ++ b) ++ (sent_bytes pieces ++ bytes)
    = ap (λ tail. went ++ tail) (append_assoc b (sent_bytes pieces) bytes) ∙ sym (append_assoc went b (sent_bytes pieces ++ bytes)) in
    (pace.0, sending_from wanted came (went ++ b) pieces bytes pace.1 (next.0, next.1 ∙ ap (λ front. front ++ next.0) same))

pub receiving : KeepsPaceReceiving
receiving wanted pieces bytes grows pace all = receiving_from wanted [] [] pieces bytes grows pace all

pub sending : KeepsPaceSending
sending wanted pieces bytes pace next = sending_from wanted [] [] pieces bytes pace next

-- the front of a front is one
begins_less : (front more bytes : List ℕ) → Begins (front ++ more) bytes → Begins front bytes
begins_less front more bytes whole = (more ++ whole.0, whole.1 ∙ append_assoc front more whole.0)

pub sending_all : KeepsPaceSendingAll
sending_all wanted pieces [] pace all next = subst (KeepsPace wanted) (sym (append-nil pieces)) pace
sending_all wanted pieces (Came b ∷ more) pace all next = cc
sending_all wanted pieces (Went b ∷ more) pace all next =
    let went : List Piece = pieces ++ Went b ∷ [] in
    let sent : sent_bytes went ≡ sent_bytes pieces ++ b = sent_bytes-append pieces (Went b ∷ []) ∙ ap (λ tail. sent_bytes pieces ++ tail) (append-nil b) in
    let came : got went ≡ got pieces = got-append pieces (Went b ∷ []) ∙ append-nil (got pieces) in
    let joined : sent_bytes pieces ++ (b ++ sent_bytes more) ≡ sent_bytes went ++ sent_bytes more
    = sym (append_assoc (sent_bytes pieces) b (sent_bytes more)) ∙ ap (λ front. front ++ sent_bytes more) (sym sent) in
    let whole : Begins ((sent_bytes pieces ++ b) ++ sent_bytes more) (wanted (got pieces))
    = (next.0, next.1 ∙ ap (λ front. front ++ next.0) (sym (append_assoc (sent_bytes pieces) b (sent_bytes more)))) in
    let first : KeepsPace wanted went = sending wanted pieces b pace (begins_less (sent_bytes pieces ++ b) (sent_bytes more) (wanted (got pieces)) whole) in
    let rest : Begins (sent_bytes went ++ sent_bytes more) (wanted (got went))
    = (next.0, ap wanted came ∙ next.1 ∙ ap (λ front. front ++ next.0) joined) in
    subst (KeepsPace wanted) (append_assoc pieces (Went b ∷ []) more) (sending_all wanted went more first all rest)
