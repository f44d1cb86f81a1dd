-- Conversations over bytes.
use Rattle.std.proofs.Common.{arith, ℕ, zero, suc, ◌≡◌, ◌≢◌, ◌+◌, ◌<◌, ◌≤◌, refl, sym, ◌∙◌, ap, subst, List, [], ◌∷◌, ◌++◌, length, drop, append-nil}
use Rattle.std.specs.Prelude.{Bool, map, flat_map, All, Option, Some, None, IfSome}
use Rattle.std.proofs.lemmas.List.{length-drop, drop-append-le, length-map}
use Rattle.std.proofs.lemmas.List.Concat.{flat_map-cons}
use Rattle.std.proofs.lemmas.List.Elements.{All-nil, All-cons, All-head, All-tail, All-drop}
use Rattle.std.proofs.Math.Seq.{drop-append_seam}
use Rattle.blic_claims.specs.Turns.{turns}
use Rattle.blic_claims.specs.Honest.{honest_answer}
use Rattle.blic_messages.specs.Replies.{Said}
use Rattle.blic_messages.specs.declared.ask.Ask.{Ask}
use Rattle.blic_messages.specs.Frames.{reply_spelling}
use Rattle.blic_messages.specs.Reading.{IsReply}
use Rattle.blic_messages.specs.Grammar.{Front, Whole, Broken, Partial, front}
use Rattle.blic_messages.specs.Fronts.{reply_grammar}
use Rattle.blic_messages.specs.FrontLaws.{AreBytes}
use Rattle.blic_messages.proofs.Headers.{front_early, has_whole, whole_le}
use Rattle.blic_messages.proofs.ReplyBodies.{reply_sizes}
use Rattle.blic_messages.proofs.ReplyFronts.{whole, spelled, stays}
use Rattle.blic_verifier.specs.Verdict.{Talk}
use Rattle.blic_verifier.specs.Conversation.{Instance, Position, Awaits, Ended, GoesOnOrAccepts, beginning, read_on, position_after}
use Rattle.blic_verifier.specs.Hearing.{readings_within, readings, asks_from}
use Rattle.blic_verifier.specs.HearingLaws.{AsksGrow, SpelledIsRead, AreReplies, HonestBytesEnd}
use Rattle.blic_verifier.specs.declared.ending.Ending.TheVariants.{Certified}
use Rattle.blic_verifier.proofs.HonestSaid.{all_honest_said}
use Rattle.blic_verifier.proofs.HonestWay.{honest_way}

-- what is read, n replies at most, by what the bytes begin with
abbrev read_front : ℕ → List ℕ → Front Said → List (Option Said)
read_front n bytes f = elim f [
  | Whole said size ↦ Some said ∷ readings_within n (drop size bytes)
  | Broken ↦ None ∷ []
  | Partial ↦ []
]

within : (n : ℕ) (bytes : List ℕ) (f : Front Said) → front reply_grammar bytes ≡ f → readings_within (suc n) bytes ≡ read_front n bytes f
within n bytes f e = ap (read_front n bytes) e

-- a frame has bytes
size_positive : (bytes : List ℕ) (s : Said) (size : ℕ) → front reply_grammar bytes ≡ Whole s size → 1 ≤ size
size_positive bytes s size e = let end = (has_whole reply_grammar bytes s size e).end in omega (arith, end)

-- with room for as many replies as bytes it doesn't matter how much there is
abbrev IsSame : ℕ → ℕ → Type 0
IsSame n m = (bytes : List ℕ) → length bytes ≤ n → length bytes ≤ m → readings_within n bytes ≡ readings_within m bytes

same_step : (n m : ℕ) → IsSame n m → IsSame (suc n) (suc m)
same_step n m same bytes ln lm = by_front (front reply_grammar bytes) refl
  where
    by_front : (f : Front Said) → front reply_grammar bytes ≡ f → readings_within (suc n) bytes ≡ readings_within (suc m) bytes
    by_front (Whole s size) e =
        let some = size_positive bytes s size e in
        let long = length-drop size bytes in
        within n bytes (Whole s size) e
        ∙ (ap (λ rs. Some s ∷ rs) (same (drop size bytes) (omega (arith, some, long, ln)) (omega (arith, some, long, lm)))
        ∙ sym (within m bytes (Whole s size) e))
    by_front Broken e = within n bytes Broken e ∙ sym (within m bytes Broken e)
    by_front Partial e = within n bytes Partial e ∙ sym (within m bytes Partial e)

no_bytes : (n : ℕ) (bytes : List ℕ) → length bytes ≤ 0 → readings_within n bytes ≡ []
no_bytes zero bytes l = refl
no_bytes (suc n) bytes l = within n bytes Partial (front_early reply_grammar bytes (omega (arith, l)))

same : (n m : ℕ) → IsSame n m
same zero m bytes ln lm = sym (no_bytes m bytes ln)
same (suc n) zero bytes ln lm = no_bytes (suc n) bytes lm
same (suc n) (suc m) bytes ln lm = same_step n m (same n m) bytes ln lm

with_room : (n : ℕ) (bytes : List ℕ) → length bytes ≤ n → readings_within n bytes ≡ readings bytes
unfolding readings
with_room n bytes l = same n (length bytes) bytes l (omega arith)

one_more : (bytes : List ℕ) (f : Front Said) → front reply_grammar bytes ≡ f → readings bytes ≡ read_front (length bytes) bytes f
one_more bytes f e = sym (with_room (suc (length bytes)) bytes (omega arith)) ∙ within (length bytes) bytes f e

pub readings_whole : (bytes : List ℕ) (s : Said) (size : ℕ) → front reply_grammar bytes ≡ Whole s size → readings bytes ≡ Some s ∷ readings (drop size bytes)
readings_whole bytes s size e =
    let long = length-drop size bytes in
    one_more bytes (Whole s size) e ∙ ap (λ rs. Some s ∷ rs) (with_room (length bytes) (drop size bytes) (omega (arith, long)))

pub readings_broken : (bytes : List ℕ) → front reply_grammar bytes ≡ Broken → readings bytes ≡ None ∷ []
readings_broken bytes e = one_more bytes Broken e

pub readings_partial : (bytes : List ℕ) → front reply_grammar bytes ≡ Partial → readings bytes ≡ []
readings_partial bytes e = one_more bytes Partial e

pub spelled_is_read : SpelledIsRead
spelled_is_read s more ok =
    readings_whole (reply_spelling s ++ more) s (length (reply_spelling s)) (whole s more ok)
    ∙ ap (λ bytes. Some s ∷ readings bytes) (drop-append_seam (reply_spelling s) more)

whole_is_told : (f : Front Said) (s : Said) (size : ℕ) → f ≡ Whole s size → f ≢ Partial
whole_is_told f s size e p = cc

broken_is_told : (f : Front Said) → f ≡ Broken → f ≢ Partial
broken_is_told f e p = cc

-- what was read stays read
abbrev Grows : List ℕ → List ℕ → Type 0
Grows got more = (rest : List (Option Said)) × (readings (got ++ more) ≡ readings got ++ rest)

grow_step : (got more : List ℕ) → ((s : Said) (size : ℕ) → front reply_grammar got ≡ Whole s size → Grows (drop size got) more) → Grows got more
grow_step got more later = by_front (front reply_grammar got) refl
  where
    by_front : (f : Front Said) → front reply_grammar got ≡ f → Grows got more
    by_front (Whole s size) e =
        let stay : front reply_grammar (got ++ more) ≡ Whole s size = stays got more (whole_is_told (front reply_grammar got) s size e) ∙ e in
        let rest = later s size e in (
          rest.0,
          readings_whole (got ++ more) s size stay
              ∙ (ap (λ bytes. Some s ∷ readings bytes) (drop-append-le size got more (whole_le reply_grammar reply_sizes got s size e))
              ∙ (ap (λ rs. Some s ∷ rs) rest.1 ∙ ap (λ rs. rs ++ rest.0) (sym (readings_whole got s size e)))),
        )
    by_front Broken e =
        let stay : front reply_grammar (got ++ more) ≡ Broken = stays got more (broken_is_told (front reply_grammar got) e) ∙ e in
        ([], readings_broken (got ++ more) stay ∙ (sym (readings_broken got e) ∙ sym (append-nil (readings got))))
    by_front Partial e = (readings (got ++ more), ap (λ rs. rs ++ readings (got ++ more)) (sym (readings_partial got e)))

grow_within : (n : ℕ) (got more : List ℕ) → length got ≤ n → Grows got more
grow_within zero got more l = grow_step got more (λ s size e. let some = size_positive got s size e in let all = whole_le reply_grammar reply_sizes got s size e in absurd (omega (arith, l, some, all)))
grow_within (suc n) got more l = grow_step got more (λ s size e.
    let some = size_positive got s size e in
    let long = length-drop size got in grow_within n (drop size got) more (omega (arith, l, some, long)))

pub readings_grow : (got more : List ℕ) → Grows got more
readings_grow got more = grow_within (length got) got more (omega arith)

-- what follows an ask
after : (x : Instance) (draw : ℕ → ℕ) (p : Position) (more : List (Option Said)) → List Ask
after x draw (Ended e t) more = []
after x draw (Awaits ask t n) [] = []
after x draw (Awaits ask t n) (r ∷ more) = asks_from x draw (read_on x draw (Awaits ask t n) r) more

from_here : (x : Instance) (draw : ℕ → ℕ) (p : Position) (more : List (Option Said)) → asks_from x draw p more ≡ asks_from x draw p [] ++ after x draw p more
unfolding after
from_here x draw (Awaits ask t n) [] = refl
from_here x draw (Awaits ask t n) (r ∷ more) = refl
from_here x draw (Ended e t) more = sym (append-nil _)

asks_more : (x : Instance) (draw : ℕ → ℕ) (p : Position) (rs more : List (Option Said)) → (rest : List Ask) × (asks_from x draw p (rs ++ more) ≡ asks_from x draw p rs ++ rest)
asks_more x draw p [] more = (after x draw p more, from_here x draw p more)
asks_more x draw (Ended e t) (r ∷ rs) more = ([], sym (append-nil _))
asks_more x draw (Awaits ask t n) (r ∷ rs) more =
    let rest = asks_more x draw (read_on x draw (Awaits ask t n) r) rs more in
    (rest.0, ap (λ asks. ask ∷ asks) rest.1)

pub asks_grow : AsksGrow
asks_grow x draw got more =
    let longer = readings_grow got more in
    let asks = asks_more x draw (beginning x) (readings got) longer.0 in
    (asks.0, ap (asks_from x draw (beginning x)) longer.1 ∙ asks.1)

abbrev IsReadReply : Option Said → Type 0
IsReadReply r = IfSome r IsReply

replies_step : (got : List ℕ) → AreBytes got → ((s : Said) (size : ℕ) → front reply_grammar got ≡ Whole s size → All IsReadReply (readings (drop size got)))
    → All IsReadReply (readings got)
replies_step got are later = by_front (front reply_grammar got) refl
  where
    by_front : (f : Front Said) → front reply_grammar got ≡ f → All IsReadReply (readings got)
    by_front (Whole s size) e =
        let ok : IsReply s = (spelled got s size are e).1 in
        subst (All IsReadReply) (sym (readings_whole got s size e)) (All-cons IsReadReply (Some s) (readings (drop size got)) ok (later s size e))
    by_front Broken e = subst (All IsReadReply) (sym (readings_broken got e)) (All-cons IsReadReply None [] tt (All-nil IsReadReply))
    by_front Partial e = subst (All IsReadReply) (sym (readings_partial got e)) (All-nil IsReadReply)

replies_within : (n : ℕ) (got : List ℕ) → length got ≤ n → AreBytes got → All IsReadReply (readings got)
replies_within zero got l are = replies_step got are (λ s size e. let some = size_positive got s size e in let all = whole_le reply_grammar reply_sizes got s size e in absurd (omega (arith, l, some, all)))
replies_within (suc n) got l are = replies_step got are (λ s size e.
    let some = size_positive got s size e in
    let long = length-drop size got in replies_within n (drop size got) (omega (arith, l, some, long)) (All-drop (λ b. b < 256) size got are))

pub are_replies : AreReplies
are_replies got are = replies_within (length got) got (omega arith) are

-- replies that were spelled one after another are read as these
pub all_read : (replies : List Said) → All IsReply replies → readings (flat_map reply_spelling replies) ≡ map Some replies
all_read [] ok = readings_partial [] (front_early reply_grammar [] (omega arith))
all_read (s ∷ replies) ok =
    ap readings (flat_map-cons reply_spelling s replies)
    ∙ (spelled_is_read s (flat_map reply_spelling replies) (All-head IsReply s replies ok)
    ∙ ap (λ rs. Some s ∷ rs) (all_read replies (All-tail IsReply s replies ok)))

accepted : (x : Instance) (b : Bool) (n : ℕ) (p : Position) → GoesOnOrAccepts x b n p → n ≡ 1 + length (turns x.circuit.nodes (length x.circuit.order))
    → (t : Talk) × (p ≡ Ended (Certified b) t)
accepted x b n (Awaits ask t d) left all = absurd (omega (arith, left, all))
accepted x b n (Ended e t) is all = (t, ap (λ z. Ended z t) is.0)

pub honest_bytes_end : HonestBytesEnd
honest_bytes_end x shaped limits draw below replies honest all =
    let b = honest_answer x.circuit.nodes (length x.circuit.order) in
    let ok = all_honest_said x shaped limits draw below replies 0 (beginning x) refl honest in
    let way = honest_way x shaped draw below (map Some replies) honest in
    let ends = accepted x b (length (map Some replies)) (position_after x draw (beginning x) (map Some replies)) way (length-map replies Some ∙ all) in
    (ends.0, ap (position_after x draw (beginning x)) (all_read replies ok) ∙ ends.1)
