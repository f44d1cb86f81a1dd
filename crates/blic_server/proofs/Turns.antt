-- What comes of a turn.
use Rattle.std.proofs.Common.{arith, ℕ, ◌≡◌, ◌<◌, refl, sym, ◌∙◌, ap, subst, List, [], ◌∷◌, ◌++◌, length, take, drop, true, false, append-nil}
use Rattle.std.specs.Prelude.{Bool, Option, Some, None, IfSome, IsTrue}
use Rattle.blic_field.specs.Quadratic.{Quadratic}
use Rattle.blic_link.specs.Passing.{Piece, got, sent_bytes, with_pieces}
use Rattle.blic_link.specs.Sending.{all_sent}
use Rattle.blic_link.proofs.Joined.{with_pieces-append}
use Rattle.blic_messages.specs.Decoding.{Decoding, Inside, At, Stopped, frame_at, is_inside}
use Rattle.blic_messages.specs.Frames.{reply_spelling}
use Rattle.blic_messages.specs.Fronts.{ask_grammar}
use Rattle.blic_messages.specs.Grammar.{Front, Whole, Broken, Partial, front}
use Rattle.blic_messages.specs.Replies.{Said, Refused}
use Rattle.blic_messages.specs.declared.reply.Refusal.{Refusal}
use Rattle.blic_messages.specs.declared.reply.Refusal.TheVariants as refusals
use Rattle.blic_messages.specs.declared.ask.Ask.{Ask}
use Rattle.blic_inbox.specs.Listening.{IsDecided, Listens}
use Rattle.blic_prover.specs.Honest.{Move, honest, progress}
use Rattle.blic_prover.specs.Honest as moves
use Rattle.blic_prover.specs.Moves.{said_by}
use Rattle.blic_prover.specs.Standing.{Proving, ServesFor}
use Rattle.blic_prover.specs.declared.step.Given.{Given}
use Rattle.blic_prover.specs.declared.step.Given.TheVariants as given
use Rattle.blic_server.specs.Sent.{Session, is_answer, refused, session_at}
use Rattle.blic_server.specs.Streams.{Nothing, Begun, Stream, stream, tail_of}
use Rattle.blic_server.specs.UnderWay.{IsAnswered, IsOver, IsRefused, IsSent, IsTurn}
use Rattle.blic_server.specs.declared.served.Ended.{Ended}
use Rattle.blic_server.specs.declared.served.Ended.TheVariants as endings
use Rattle.blic_server.proofs.Replying.{by_move}
use Rattle.blic_server.proofs.Turning.{ends_closed, ends_cut, ends_gone, ends_parted, ends_refused, ends_short, over_garbled, over_partial, over_whole, session_over}

-- a turn over what waited in the inbox
abbrev pub HasTurned : Option (List Piece) → Option (List Piece) → List ℕ → Proving → Proving → List ℕ → Option (List ℕ) → Option Ended → Type 0
HasTurned told told_now inbox old new rest coming result =
    (heard : List Piece) × (went : List Piece) × (told_now ≡ with_pieces told (heard ++ went)) × Listens ask_grammar inbox heard × IsTrue (all_sent went)
    × IsTurn old new (inbox ++ got heard) rest coming went result

-- what was told so far
told_both : (told mid now : Option (List Piece)) (a b : List Piece) → mid ≡ with_pieces told a → now ≡ with_pieces mid b → now ≡ with_pieces told (a ++ b)
told_both told mid now a b one two = two ∙ (ap (λ z. with_pieces z b) one ∙ with_pieces-append told a b)

told_one : (told mid : Option (List Piece)) (a : List Piece) → mid ≡ with_pieces told a → mid ≡ with_pieces told (a ++ [])
told_one told mid a one = one ∙ ap (with_pieces told) (sym (append-nil a))

begun : (bytes : List ℕ) (decoder : Decoding Ask) → decoder ≡ Inside bytes → is_inside decoder ≡ true → tail_of bytes ≡ Begun
begun [] decoder is inside = absurd (differ (sym (ap is_inside is) ∙ inside))
  where
    differ : false ≡ true → ⊥
    differ e = cc
begun (b ∷ bytes) decoder is inside = refl

unbegun : (bytes : List ℕ) (decoder : Decoding Ask) → decoder ≡ Inside bytes → is_inside decoder ≡ false → tail_of bytes ≡ Nothing
unbegun [] decoder is inside = refl
unbegun (b ∷ bytes) decoder is inside = absurd (differ (sym (ap is_inside is) ∙ inside))
  where
    differ : true ≡ false → ⊥
    differ e = cc

pub cut_turn : (told mid : Option (List Piece)) (inbox rest : List ℕ) (old new : Proving) (coming : Option (List ℕ)) (decoder : Decoding Ask) (heard : List Piece) → mid ≡ with_pieces told heard
    → Listens ask_grammar inbox heard → front ask_grammar (inbox ++ got heard) ≡ Partial → decoder ≡ Inside (inbox ++ got heard) → IfSome coming (λ more. more ≡ []) → is_inside decoder ≡ true
    → HasTurned told mid inbox old new rest coming (Some endings.Cut)
cut_turn told mid inbox rest old new coming decoder heard one l partial is none inside = (
  heard,
  [],
  told_one told mid heard one,
  l,
  refl,
  λ asks serves. subst (λ s. IsOver s [] coming endings.Cut) (sym (over_partial old.circuit old.served (progress old.circuit old.served asks) (inbox ++ got heard) partial))
      (ends_cut (inbox ++ got heard) coming none (begun (inbox ++ got heard) decoder is inside)),
)

pub closed_turn : (told mid : Option (List Piece)) (inbox rest : List ℕ) (old new : Proving) (coming : Option (List ℕ)) (decoder : Decoding Ask) (heard : List Piece) → mid ≡ with_pieces told heard
    → Listens ask_grammar inbox heard → front ask_grammar (inbox ++ got heard) ≡ Partial → decoder ≡ Inside (inbox ++ got heard) → IfSome coming (λ more. more ≡ []) → is_inside decoder ≡ false
    → HasTurned told mid inbox old new rest coming (Some endings.Closed)
closed_turn told mid inbox rest old new coming decoder heard one l partial is none inside = (
  heard,
  [],
  told_one told mid heard one,
  l,
  refl,
  λ asks serves. subst (λ s. IsOver s [] coming endings.Closed) (sym (over_partial old.circuit old.served (progress old.circuit old.served asks) (inbox ++ got heard) partial))
      (ends_closed (inbox ++ got heard) coming none (unbegun (inbox ++ got heard) decoder is inside)),
)

pub gone_turn : (told mid : Option (List Piece)) (inbox rest : List ℕ) (old new : Proving) (coming : Option (List ℕ)) (heard : List Piece) → mid ≡ with_pieces told heard
    → Listens ask_grammar inbox heard → front ask_grammar (inbox ++ got heard) ≡ Partial → HasTurned told mid inbox old new rest coming (Some endings.Gone)
gone_turn told mid inbox rest old new coming heard one l partial = (
  heard,
  [],
  told_one told mid heard one,
  l,
  refl,
  λ asks serves. subst (λ s. IsOver s [] coming endings.Gone) (sym (over_partial old.circuit old.served (progress old.circuit old.served asks) (inbox ++ got heard) partial))
      (ends_gone (inbox ++ got heard) coming),
)

-- no frame is whole
pub is_garbled : (bytes rest : List ℕ) (decoder : Decoding Ask) (f : Front Ask) → front ask_grammar bytes ≡ f → IsDecided f bytes decoder rest → ((a : Ask) → frame_at decoder ≡ Some a → ⊥) → front ask_grammar bytes ≡ Broken
is_garbled bytes rest decoder (Whole a n) e is none = absurd (none a (ap frame_at is.0))
is_garbled bytes rest decoder Broken e is none = e
is_garbled bytes rest decoder Partial e is none = absurd is

-- a whole one is what the bytes begin with
pub is_whole : (bytes rest : List ℕ) (decoder : Decoding Ask) (a : Ask) (f : Front Ask) → front ask_grammar bytes ≡ f → IsDecided f bytes decoder rest → frame_at decoder ≡ Some a
    → (n : ℕ) × (front ask_grammar bytes ≡ Whole a n) × (rest ≡ drop n bytes)
is_whole bytes rest decoder a (Whole b n) e is some =
    let same : b ≡ a = unwrap (sym (ap frame_at is.0) ∙ some) in
    (n, e ∙ ap (λ z. Whole z n) same, is.1)
  where
    unwrap : {b a : Ask} → Some b ≡ Some a → b ≡ a
    unwrap e = cc
is_whole bytes rest decoder a Broken e is some = absurd (differ (sym (ap frame_at is) ∙ some))
  where
    differ : None ≡ Some a → ⊥
    differ e = cc
is_whole bytes rest decoder a Partial e is some = absurd is

-- an ask that gets no reply, or bytes that are none
pub refused_turn : (told mid now : Option (List Piece)) (inbox rest : List ℕ) (old new : Proving) (coming : Option (List ℕ)) (heard went : List Piece) (r : Refusal) (ended result : Ended)
    → mid ≡ with_pieces told heard → now ≡ with_pieces mid went → Listens ask_grammar inbox heard → IsTrue (all_sent went)
    → IsRefused (reply_spelling (Refused r)) went ended result → ((e : Ended) → ended ≡ e → e ≡ endings.Gone → ⊥)
    → ((asks : List Ask) → ServesFor old asks → session_over old.circuit old.served (progress old.circuit old.served asks) (inbox ++ got heard) ≡ refused r ended)
    → HasTurned told now inbox old new rest coming (Some result)
refused_turn told mid now inbox rest old new coming heard went r ended result one two l all is other so = (
  heard,
  went,
  told_both told mid now heard went one two,
  l,
  all,
  λ asks serves. subst (λ s. IsOver s (sent_bytes went) coming result) (sym (so asks serves)) (ends_refused r ended result (sent_bytes went) coming went other refl is),
)

-- Bye came
pub parted_turn : (told mid : Option (List Piece)) (inbox rest : List ℕ) (old new : Proving) (coming : Option (List ℕ)) (heard : List Piece) (a : Ask) (size : ℕ) → mid ≡ with_pieces told heard
    → Listens ask_grammar inbox heard → front ask_grammar (inbox ++ got heard) ≡ Whole a size
    → ((asks : List Ask) → ServesFor old asks → moves.Ended ≡ honest old.circuit old.served asks a)
    → HasTurned told mid inbox old new rest coming (Some endings.Closed)
parted_turn told mid inbox rest old new coming heard a size one l whole says = (
  heard,
  [],
  told_one told mid heard one,
  l,
  refl,
  λ asks serves. subst (λ s. IsOver s [] coming endings.Closed)
      (sym (over_whole old.circuit old.served (progress old.circuit old.served asks) (inbox ++ got heard) a size moves.Ended whole (sym (says asks serves))))
      (ends_parted coming),
)

pub given_answers : (ps : List Quadratic) (g : Given) → is_answer (said_by ps g) ≡ true
given_answers ps (given.Answer b) = refl
given_answers ps given.Polys = refl
given_answers ps (given.Values u w) = refl

-- a reply was sent, or a front of it
pub replied_turn : (told mid now : Option (List Piece)) (inbox rest : List ℕ) (old new : Proving) (coming : Option (List ℕ)) (heard went : List Piece) (a : Ask) (s : Said) (size : ℕ) (result : Option Ended)
    → mid ≡ with_pieces told heard → now ≡ with_pieces mid went → Listens ask_grammar inbox heard → IsTrue (all_sent went) → IsSent (reply_spelling s) went result
    → front ask_grammar (inbox ++ got heard) ≡ Whole a size → rest ≡ drop size (inbox ++ got heard)
    → ((asks : List Ask) → ServesFor old asks → moves.Replied s ≡ honest old.circuit old.served asks a)
    → ((asks : List Ask) → ServesFor old asks → ServesFor new (asks ++ a ∷ [])) → is_answer s ≡ true
    → HasTurned told now inbox old new rest coming result
replied_turn told mid now inbox rest old new coming heard went a s size None one two l all is whole left says stands answers = (
  heard,
  went,
  told_both told mid now heard went one two,
  l,
  all,
  record { ask = a; said = s; size = size; whole = whole; left = left; replied = λ asks serves. sym (says asks serves); stands = stands; answers = answers; sent = is },
)
replied_turn told mid now inbox rest old new coming heard went a s size (Some e) one two l all is whole left says stands answers = (
  heard,
  went,
  told_both told mid now heard went one two,
  l,
  all,
  λ asks serves.
      let p = progress old.circuit old.served asks in
      let bytes = inbox ++ got heard in
      let session = by_move old.circuit old.served p a (stream (drop size bytes)).asks (stream (drop size bytes)).tail (moves.Replied s) in
      subst (λ z. IsOver (session_over old.circuit old.served p bytes) (sent_bytes went) coming z) (sym is.0)
      (subst (λ z. IsOver z (sent_bytes went) coming endings.Gone) (sym (over_whole old.circuit old.served p bytes a size (moves.Replied s) whole (sym (says asks serves))))
      (ends_short s session (sent_bytes went) coming _ session.ended session.is_over is.1.0 is.1.1 is.1.2)),
)
