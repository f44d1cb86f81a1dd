-- How it stands while a frame is awaited.
use Rattle.std.proofs.Common.{arith, ℕ, ◌≡◌, ◌+◌, ◌-◌, ◌<◌, ◌≤◌, sym, ◌∙◌, ap, subst, List, [], ◌∷◌, ◌++◌, length, drop, Option, length-append, append_assoc, append-nil}
use Rattle.std.proofs.Math.Seq.{drop-append-add}
use Rattle.std.proofs.lemmas.List.Elements.{All-nil, All-append}
use Rattle.blic_link.specs.Passing.{Piece, Came, Went, got, with_pieces}
use Rattle.blic_link.proofs.Joined.{with_none, with_pieces-append, got-append}
use Rattle.blic_messages.specs.declared.feeding.Fed.TheVariants as feds
use Rattle.blic_messages.specs.Decoding.{Decoding, Inside, decoding_at, decoding_with, fed_at, fed_with}
use Rattle.blic_messages.specs.Grammar.{Grammar, Front, Whole, Broken, Partial, front}
use Rattle.blic_messages.specs.FrontLaws.{AreBytes}
use Rattle.blic_messages.proofs.Headers.{front_early}
use Rattle.blic_messages.proofs.Pieces.{front_of_fed}
use Rattle.blic_inbox.specs.Listening.{Listens, IsDecided}

-- a frame that isn't whole is held, and what came behind it waits; each pass but the first took a byte
pub record Waits {F : Type 0} (g : Grammar F) (told told_now : Option (List Piece)) (before : List ℕ) (decoder : Decoding F) (inbox : List ℕ) (passes : ℕ) : Type 0 where
  pub pieces : List Piece
  pub held : List ℕ
  pub told_is : told_now ≡ with_pieces told pieces
  pub listens : Listens g before pieces
  pub inside : decoder ≡ Inside held
  pub partial : front g held ≡ Partial
  pub are : AreBytes held
  pub all : held ++ inbox ≡ before ++ got pieces
  pub few : passes ≤ 1 + length held
  pub enough : passes ≤ length held + length inbox

pub waits_first : {F : Type 0} → (g : Grammar F) → (told : Option (List Piece)) (before : List ℕ) (decoder : Decoding F) → decoder ≡ Inside [] → Waits g told told before decoder before 0
waits_first g told before decoder fresh =
    record {
      pieces = [];
      held = [];
      told_is = sym (with_none told);
      listens = tt;
      inside = fresh;
      partial = front_early g [] (omega arith);
      are = All-nil (λ b. b < 256);
      all = sym (append-nil before);
      few = omega arith;
      enough = omega arith;
    }

listens_more : {F : Type 0} → (g : Grammar F) → (before : List ℕ) (pieces : List Piece) (bytes : List ℕ) → Listens g before pieces → front g (before ++ got pieces) ≡ Partial
    → Listens g before (pieces ++ Came bytes ∷ [])
listens_more g before [] bytes listens partial = (ap (front g) (sym (append-nil before)) ∙ partial, tt)
listens_more g before (Came first ∷ pieces) bytes listens partial =
    (listens.0, listens_more g (before ++ first) pieces bytes listens.1 (ap (front g) (append_assoc before first (got pieces)) ∙ partial))
listens_more g before (Went first ∷ pieces) bytes listens partial = absurd listens

-- what is told when the decoder wants more
pub partial_more : {F : Type 0} → (g : Grammar F) → (told told_now : Option (List Piece)) (before : List ℕ) (decoder : Decoding F) (inbox : List ℕ) (passes : ℕ)
    → (w : Waits g told told_now before decoder inbox passes) → feds.More ≡ fed_with g decoder inbox → front g (w.held ++ inbox) ≡ Partial
partial_more g told told_now before decoder inbox passes w more =
    front_of_fed g w.held inbox feds.More (more ∙ ap (λ d. fed_with g d inbox) w.inside)

-- all bytes that came are held, and a piece follows
pub waits_on : {F : Type 0} → (g : Grammar F) → (told told_now told_next : Option (List Piece)) (before : List ℕ) (decoder next : Decoding F) (inbox piece : List ℕ) (passes : ℕ)
    → Waits g told told_now before decoder inbox passes → feds.More ≡ fed_with g decoder inbox → next ≡ decoding_with g decoder inbox
    → AreBytes inbox → 0 < length piece → told_next ≡ with_pieces told_now (Came piece ∷ []) → Waits g told told_next before next piece (passes + 1)
waits_on g told told_now told_next before decoder next inbox piece passes w more state are some came =
    let partial = partial_more g told told_now before decoder inbox passes w more in
    let long = length-append w.held inbox in
    let few = w.few in
    let enough = w.enough in
    record {
      pieces = w.pieces ++ Came piece ∷ [];
      held = w.held ++ inbox;
      told_is = came ∙ (ap (λ t. with_pieces t (Came piece ∷ [])) w.told_is ∙ with_pieces-append told w.pieces (Came piece ∷ []));
      listens = listens_more g before w.pieces piece w.listens (ap (front g) (sym w.all) ∙ partial);
      inside = state ∙ (ap (λ d. decoding_with g d inbox) w.inside ∙ ap (decoding_at (w.held ++ inbox)) partial);
      partial = partial;
      are = All-append (λ b. b < 256) w.held inbox w.are are;
      all = ap (λ bytes. bytes ++ piece) w.all
          ∙ (append_assoc before (got w.pieces) piece
          ∙ ap (λ bytes. before ++ bytes) (ap (λ bytes. got w.pieces ++ bytes) (sym (append-nil piece)) ∙ sym (got-append w.pieces (Came piece ∷ []))));
      few = omega arith;
      enough = omega arith;
    }

-- all that came so far is of bytes
pub all_bytes : {F : Type 0} → (g : Grammar F) → (told told_now : Option (List Piece)) (before : List ℕ) (decoder : Decoding F) (inbox : List ℕ) (passes : ℕ)
    → (w : Waits g told told_now before decoder inbox passes) → AreBytes inbox → AreBytes (before ++ got w.pieces)
all_bytes g told told_now before decoder inbox passes w are = subst AreBytes w.all (All-append (λ b. b < 256) w.held inbox w.are are)

drop_behind : (xs ys : List ℕ) (n k : ℕ) → k ≡ n - length xs → 1 ≤ k → drop k ys ≡ drop n (xs ++ ys)
drop_behind xs ys n k is some = sym (drop-append-add xs ys k) ∙ ap (λ m. drop m (xs ++ ys)) (let e : length xs + k ≡ n = omega arith in e)

decided_by : {F : Type 0} → (held inbox rest : List ℕ) (next : Decoding F) (count : ℕ) (f : Front F) → feds.Whole count ≡ fed_at (length held) f → 1 ≤ count
    → next ≡ decoding_at (held ++ inbox) f → rest ≡ drop count inbox → IsDecided f (held ++ inbox) next rest
decided_by held inbox rest next count (Whole s n) answer some state left =
    let is : count ≡ n - length held = cc in
    (state, left ∙ drop_behind held inbox n count is some)
decided_by held inbox rest next count Broken answer some state left = cc
decided_by held inbox rest next count Partial answer some state left = cc

pub decided_whole : {F : Type 0} → (g : Grammar F) → (told told_now : Option (List Piece)) (before : List ℕ) (decoder next : Decoding F) (inbox rest : List ℕ) (passes count : ℕ)
    → (w : Waits g told told_now before decoder inbox passes) → feds.Whole count ≡ fed_with g decoder inbox → next ≡ decoding_with g decoder inbox → 1 ≤ count
    → rest ≡ drop count inbox → IsDecided (front g (before ++ got w.pieces)) (before ++ got w.pieces) next rest
decided_whole g told told_now before decoder next inbox rest passes count w answer state some left =
    subst (λ bytes. IsDecided (front g bytes) bytes next rest) w.all
    (decided_by w.held inbox rest next count (front g (w.held ++ inbox)) (answer ∙ ap (λ d. fed_with g d inbox) w.inside) some
    (state ∙ ap (λ d. decoding_with g d inbox) w.inside) left)

pub decided_broken : {F : Type 0} → (g : Grammar F) → (told told_now : Option (List Piece)) (before : List ℕ) (decoder next : Decoding F) (inbox rest : List ℕ) (passes : ℕ)
    → (w : Waits g told told_now before decoder inbox passes) → feds.Broken ≡ fed_with g decoder inbox → next ≡ decoding_with g decoder inbox
    → IsDecided (front g (before ++ got w.pieces)) (before ++ got w.pieces) next rest
decided_broken g told told_now before decoder next inbox rest passes w answer state =
    let broken : front g (w.held ++ inbox) ≡ Broken =
    front_of_fed g w.held inbox feds.Broken (answer ∙ ap (λ d. fed_with g d inbox) w.inside) in
    subst (λ bytes. IsDecided (front g bytes) bytes next rest) w.all
    (subst (λ f. IsDecided f (w.held ++ inbox) next rest) (sym broken)
    (state ∙ (ap (λ d. decoding_with g d inbox) w.inside ∙ ap (decoding_at (w.held ++ inbox)) broken)))

-- nothing of what came is a whole frame, and all of it is held
pub inside_more : {F : Type 0} → (g : Grammar F) → (told told_now : Option (List Piece)) (before : List ℕ) (decoder next : Decoding F) (inbox : List ℕ) (passes : ℕ)
    → (w : Waits g told told_now before decoder inbox passes) → feds.More ≡ fed_with g decoder inbox → next ≡ decoding_with g decoder inbox → next ≡ Inside (before ++ got w.pieces)
inside_more g told told_now before decoder next inbox passes w more state =
    let partial = partial_more g told told_now before decoder inbox passes w more in
    state ∙ (ap (λ d. decoding_with g d inbox) w.inside ∙ (ap (decoding_at (w.held ++ inbox)) partial ∙ ap Inside w.all))

-- so many passes are never made
pub no_more_passes : {F : Type 0} → (g : Grammar F) → (told told_now : Option (List Piece)) (before : List ℕ) (decoder : Decoding F) (inbox : List ℕ) (passes most : ℕ)
    → ((bytes : List ℕ) → front g bytes ≡ Partial → length bytes < most) → Waits g told told_now before decoder inbox passes → most + 2 ≤ passes → ⊥
no_more_passes g told told_now before decoder inbox passes most short w many =
    let few = w.few in
    let less = short w.held w.partial in absurd (omega arith)
