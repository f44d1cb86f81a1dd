-- What a stream of bytes says.
use Rattle.std.proofs.Common.{arith, ℕ, zero, suc, ◌≡◌, ◌≢◌, ◌+◌, ◌<◌, ◌≤◌, refl, sym, ◌∙◌, ap, subst, List, [], ◌∷◌, ◌++◌, length, drop, append-nil, append_assoc}
use Rattle.std.proofs.lemmas.List.{length-drop, drop-append-le}
use Rattle.blic_messages.specs.declared.ask.Ask.{Ask}
use Rattle.blic_messages.specs.Grammar.{Front, Whole, Broken, Partial, front}
use Rattle.blic_messages.specs.Fronts.{ask_grammar}
use Rattle.blic_messages.proofs.Headers.{front_early, has_whole, whole_le}
use Rattle.blic_messages.proofs.AskBodies.{ask_sizes}
use Rattle.blic_messages.proofs.AskFronts.{stays}
use Rattle.blic_server.specs.Streams.{Stream, Tail, Nothing, Begun, Garbled, with_ask, ends_with, tail_of, stream_within, stream}

-- what is read, n asks at most, by what the bytes begin with
abbrev read_front : ℕ → List ℕ → Front Ask → Stream
read_front n bytes f = elim f [
  | Whole ask size ↦ with_ask ask (stream_within n (drop size bytes))
  | Broken ↦ ends_with Garbled
  | Partial ↦ ends_with (tail_of bytes)
]

within : (n : ℕ) (bytes : List ℕ) (f : Front Ask) → front ask_grammar bytes ≡ f → stream_within (suc n) bytes ≡ read_front n bytes f
within n bytes f e = ap (read_front n bytes) e

-- a frame has bytes
size_positive : (bytes : List ℕ) (a : Ask) (size : ℕ) → front ask_grammar bytes ≡ Whole a size → 1 ≤ size
size_positive bytes a size e = let end = (has_whole ask_grammar bytes a size e).end in omega (arith, end)

pub size_within : (bytes : List ℕ) (a : Ask) (size : ℕ) → front ask_grammar bytes ≡ Whole a size → size ≤ length bytes
size_within bytes a size e = whole_le ask_grammar ask_sizes bytes a size e

-- with room for as many asks as bytes it doesn't matter how much there is
abbrev IsSame : ℕ → ℕ → Type 0
IsSame n m = (bytes : List ℕ) → length bytes ≤ n → length bytes ≤ m → stream_within n bytes ≡ stream_within m bytes

same_step : (n m : ℕ) → IsSame n m → IsSame (suc n) (suc m)
same_step n m same bytes ln lm = by_front (front ask_grammar bytes) refl
  where
    by_front : (f : Front Ask) → front ask_grammar bytes ≡ f → stream_within (suc n) bytes ≡ stream_within (suc m) bytes
    by_front (Whole a size) e =
        let some = size_positive bytes a size e in
        let long = length-drop size bytes in
        within n bytes (Whole a size) e
        ∙ (ap (with_ask a) (same (drop size bytes) (omega (arith, some, long, ln)) (omega (arith, some, long, lm)))
        ∙ sym (within m bytes (Whole a size) e))
    by_front Broken e = within n bytes Broken e ∙ sym (within m bytes Broken e)
    by_front Partial e = within n bytes Partial e ∙ sym (within m bytes Partial e)

no_tail : (bytes : List ℕ) → length bytes ≤ 0 → tail_of bytes ≡ Nothing
no_tail [] l = refl
no_tail (b ∷ bytes) l = absurd (omega (arith, l))

no_bytes : (n : ℕ) (bytes : List ℕ) → length bytes ≤ 0 → stream_within n bytes ≡ ends_with Nothing
no_bytes zero bytes l = refl
no_bytes (suc n) bytes l = within n bytes Partial (front_early ask_grammar bytes (omega (arith, l))) ∙ ap ends_with (no_tail bytes l)

same : (n m : ℕ) → IsSame n m
same zero m bytes ln lm = sym (no_bytes m bytes ln)
same (suc n) zero bytes ln lm = no_bytes (suc n) bytes lm
same (suc n) (suc m) bytes ln lm = same_step n m (same n m) bytes ln lm

with_room : (n : ℕ) (bytes : List ℕ) → length bytes ≤ n → stream_within n bytes ≡ stream bytes
unfolding stream
with_room n bytes l = same n (length bytes) bytes l (omega arith)

one_more : (bytes : List ℕ) (f : Front Ask) → front ask_grammar bytes ≡ f → stream bytes ≡ read_front (length bytes) bytes f
one_more bytes f e = sym (with_room (suc (length bytes)) bytes (omega arith)) ∙ within (length bytes) bytes f e

pub stream_whole : (bytes : List ℕ) (a : Ask) (size : ℕ) → front ask_grammar bytes ≡ Whole a size → stream bytes ≡ with_ask a (stream (drop size bytes))
stream_whole bytes a size e =
    let long = length-drop size bytes in
    one_more bytes (Whole a size) e ∙ ap (with_ask a) (with_room (length bytes) (drop size bytes) (omega (arith, long)))

pub stream_garbled : (bytes : List ℕ) → front ask_grammar bytes ≡ Broken → stream bytes ≡ ends_with Garbled
stream_garbled bytes e = one_more bytes Broken e

pub stream_partial : (bytes : List ℕ) → front ask_grammar bytes ≡ Partial → stream bytes ≡ ends_with (tail_of bytes)
stream_partial bytes e = one_more bytes Partial e

whole_is_told : (f : Front Ask) (a : Ask) (size : ℕ) → f ≡ Whole a size → f ≢ Partial
whole_is_told f a size e p = cc

broken_is_told : (f : Front Ask) → f ≡ Broken → f ≢ Partial
broken_is_told f e p = cc

-- a whole ask stays so, and what follows is read behind it
pub whole_stays : (bytes more : List ℕ) (a : Ask) (size : ℕ) → front ask_grammar bytes ≡ Whole a size → stream (bytes ++ more) ≡ with_ask a (stream (drop size bytes ++ more))
whole_stays bytes more a size e =
    let stay : front ask_grammar (bytes ++ more) ≡ Whole a size = stays bytes more (whole_is_told (front ask_grammar bytes) a size e) ∙ e in
    stream_whole (bytes ++ more) a size stay ∙ ap (λ z. with_ask a (stream z)) (drop-append-le size bytes more (size_within bytes a size e))

-- what follows a stream: nothing if it is garbled, else asks behind its asks
abbrev pub then_by : Tail → List Ask → Stream → Stream
then_by Nothing asks next = record { asks = asks ++ next.asks; tail = next.tail }
then_by Begun asks next = record { asks = asks ++ next.asks; tail = next.tail }
then_by Garbled asks next = record { asks = asks; tail = Garbled }

abbrev pub then : Stream → Stream → Stream
then s next = then_by s.tail s.asks next

pub then_ask : (a : Ask) (t : Tail) (asks : List Ask) (next : Stream) → then_by t (a ∷ asks) next ≡ with_ask a (then_by t asks next)
then_ask a Nothing asks next = refl
then_ask a Begun asks next = refl
then_ask a Garbled asks next = refl

-- what was read stays read
abbrev pub IsReadOn : List ℕ → List ℕ → Type 0
IsReadOn bytes more = (next : Stream) × (stream (bytes ++ more) ≡ then (stream bytes) next)

then_tail : (bytes : List ℕ) (next : Stream) → then_by (tail_of bytes) [] next ≡ next
then_tail [] next = refl
then_tail (b ∷ bytes) next = refl

read_step : (bytes more : List ℕ) → ((a : Ask) (size : ℕ) → front ask_grammar bytes ≡ Whole a size → IsReadOn (drop size bytes) more) → IsReadOn bytes more
read_step bytes more later = by_front (front ask_grammar bytes) refl
  where
    by_front : (f : Front Ask) → front ask_grammar bytes ≡ f → IsReadOn bytes more
    by_front (Whole a size) e =
        let rest = later a size e in (
          rest.0,
          whole_stays bytes more a size e
              ∙ (ap (with_ask a) rest.1
              ∙ (sym (then_ask a (stream (drop size bytes)).tail (stream (drop size bytes)).asks rest.0)
              ∙ ap (λ s. then s rest.0) (sym (stream_whole bytes a size e)))),
        )
    by_front Broken e =
        let stay : front ask_grammar (bytes ++ more) ≡ Broken = stays bytes more (broken_is_told (front ask_grammar bytes) e) ∙ e in
        (ends_with Nothing, stream_garbled (bytes ++ more) stay ∙ ap (λ s. then s (ends_with Nothing)) (sym (stream_garbled bytes e)))
    by_front Partial e =
        (stream (bytes ++ more), sym (then_tail bytes (stream (bytes ++ more))) ∙ ap (λ s. then s (stream (bytes ++ more))) (sym (stream_partial bytes e)))

read_within : (n : ℕ) (bytes more : List ℕ) → length bytes ≤ n → IsReadOn bytes more
read_within zero bytes more l = read_step bytes more (λ a size e. let some = size_positive bytes a size e in let all = size_within bytes a size e in absurd (omega (arith, l, some, all)))
read_within (suc n) bytes more l =
    read_step bytes more (λ a size e. let some = size_positive bytes a size e in let long = length-drop size bytes in read_within n (drop size bytes) more (omega (arith, l, some, long)))

pub read_on : (bytes more : List ℕ) → IsReadOn bytes more
read_on bytes more = read_within (length bytes) bytes more (omega arith)
