-- A piece fed in parts.
use Rattle.std.proofs.Common.{arith, ℕ, ◌≡◌, ◌≢◌, ◌+◌, ◌-◌, ◌<◌, ◌≤◌, refl, sym, ◌∙◌, ap, List, [], ◌∷◌, ◌++◌, length, take, drop, get_or, suc, nat_lt, length-append, append_assoc, drop-cons}
use Rattle.std.proofs.lemmas.List.{take-append-drop}
use Rattle.blic_messages.specs.declared.feeding.Fed.{Fed}
use Rattle.blic_messages.specs.declared.feeding.Fed.TheVariants as feds
use Rattle.blic_messages.specs.Grammar.{Grammar, Front, Whole, Broken, Partial, front}
use Rattle.blic_messages.specs.FrontLaws.{FrontStays}
use Rattle.blic_messages.specs.Decoding.{Decoding, Inside, At, Stopped, decoding_at, decoding_with, fed_at, fed_with, held_by, is_inside}
use Rattle.blic_messages.proofs.Judging.{below_true}
use Rattle.blic_messages.proofs.Headers.{HasSizes, front_stays, whole_later}

-- a decoding that isn't stopped goes on from the bytes that it holds
pub going_on : {F : Type 0} (g : Grammar F) (d : Decoding F) (piece : List ℕ) → d ≢ Stopped
    → (decoding_with g d piece ≡ decoding_with g (Inside (held_by d)) piece) × (fed_with g d piece ≡ fed_with g (Inside (held_by d)) piece)
going_on g (Inside held) piece on = (refl, refl)
going_on g (At f) piece on = (refl, refl)
going_on g Stopped piece on = absurd (on refl)

-- the front that an answer tells of
abbrev pub FrontOf : {F : Type 0} → Grammar F → List ℕ → List ℕ → Fed → Type 0
FrontOf g held piece feds.More = front g (held ++ piece) ≡ Partial
FrontOf {F = F} g held piece (feds.Whole n) = (f : F) × (m : ℕ) × (front g (held ++ piece) ≡ Whole f m) × (m - length held ≡ n)
FrontOf g held piece feds.Broken = front g (held ++ piece) ≡ Broken

pub front_of_fed : {F : Type 0} (g : Grammar F) (held piece : List ℕ) (r : Fed) → r ≡ fed_with g (Inside held) piece → FrontOf g held piece r
front_of_fed {F = F} g held piece r e = by_front (front g (held ++ piece)) refl r e
  where
    by_front : (fr : Front F) → front g (held ++ piece) ≡ fr → (r : Fed) → r ≡ fed_at (length held) fr → FrontOf g held piece r
    by_front (Whole f n) is feds.More e = cc
    by_front (Whole f n) is (feds.Whole k) e = (f, n, is, sym cc)
    by_front (Whole f n) is feds.Broken e = cc
    by_front Broken is feds.More e = cc
    by_front Broken is (feds.Whole k) e = cc
    by_front Broken is feds.Broken e = is
    by_front Partial is feds.More e = is
    by_front Partial is (feds.Whole k) e = cc
    by_front Partial is feds.Broken e = cc

-- a byte that ends a frame
pub byte_ends : {F : Type 0} (g : Grammar F) → HasSizes g → (held : List ℕ) (byte : ℕ) (f : F) (n : ℕ) → front g held ≡ Partial
    → front g (held ++ byte ∷ []) ≡ Whole f n → n ≡ length held + 1
byte_ends g sizes held byte f n partial whole = let h = whole_later g sizes held (byte ∷ []) f n partial whole in omega arith

-- a decoding of bytes of which nothing is told, that goes on with a part of a piece of which something is told
pub record TellsPiece {F : Type 0} (g : Grammar F) (d now new : Decoding F) (before part rest piece : List ℕ) (told : Fed) : Type 0 where
  pub goes_on : d ≢ Stopped
  pub held : now ≡ Inside (held_by d ++ before)
  pub partial : front g (held_by d ++ before) ≡ Partial
  pub piece_is : piece ≡ before ++ (part ++ rest)
  pub answer : told ≡ fed_with g now part
  pub state : new ≡ decoding_with g now part

later_front : {F : Type 0} (g : Grammar F) → FrontStays g → (held before part rest : List ℕ) → front g ((held ++ before) ++ part) ≢ Partial
    → front g (held ++ (before ++ (part ++ rest))) ≡ front g ((held ++ before) ++ part)
later_front g stays held before part rest seen =
    ap (front g) (sym (append_assoc held before (part ++ rest)) ∙ sym (append_assoc (held ++ before) part rest)) ∙ stays ((held ++ before) ++ part) rest seen

pub piece_whole : {F : Type 0} (g : Grammar F) → HasSizes g → (d now new : Decoding F) (before part rest piece : List ℕ) (k : ℕ)
    → TellsPiece g d now new before part rest piece (feds.Whole k)
    → (feds.Whole (length before + k) ≡ fed_with g d piece) × (new ≡ decoding_with g d piece) × (1 ≤ k) × (k ≤ length part)
piece_whole {F = F} g sizes d now new before part rest piece k t =
    let held = held_by d in
    let on = going_on g d piece t.goes_on in
    let told = front_of_fed g (held ++ before) part (feds.Whole k) (t.answer ∙ ap (λ e. fed_with g e part) t.held) in
    let f = told.0 in
    let m = told.1 in
    let here = told.2 in
    let late = whole_later g sizes (held ++ before) part f m t.partial here in
    let all : front g (held ++ piece) ≡ Whole f m =
    ap (λ p. front g (held ++ p)) t.piece_is
    ∙ (later_front g (front_stays g sizes) held before part rest (λ p. let bad : Whole f m ≡ Partial = sym here ∙ p in cc) ∙ here) in
    let long = length-append held before in
    let taken : m - length held ≡ length before + k = omega (arith, told.3) in (
      sym (on.1 ∙ (ap (fed_at (length held)) all ∙ ap feds.Whole taken)),
      t.state ∙ (ap (λ e. decoding_with g e part) t.held ∙ (ap (decoding_at ((held ++ before) ++ part)) here ∙ sym (on.0 ∙ ap (decoding_at (held ++ piece)) all))),
      omega (arith, told.3),
      omega (arith, told.3),
    )

pub piece_broken : {F : Type 0} (g : Grammar F) → HasSizes g → (d now new : Decoding F) (before part rest piece : List ℕ)
    → TellsPiece g d now new before part rest piece feds.Broken → (feds.Broken ≡ fed_with g d piece) × (new ≡ decoding_with g d piece)
piece_broken {F = F} g sizes d now new before part rest piece t =
    let held = held_by d in
    let on = going_on g d piece t.goes_on in
    let here = front_of_fed g (held ++ before) part feds.Broken (t.answer ∙ ap (λ e. fed_with g e part) t.held) in
    let all : front g (held ++ piece) ≡ Broken =
    ap (λ p. front g (held ++ p)) t.piece_is
    ∙ (later_front g (front_stays g sizes) held before part rest (λ p. let bad : Broken ≡ Partial = sym here ∙ p in cc) ∙ here) in (
      sym (on.1 ∙ ap (fed_at (length held)) all),
      t.state ∙ (ap (λ e. decoding_with g e part) t.held ∙ (ap (decoding_at ((held ++ before) ++ part)) here ∙ sym (on.0 ∙ ap (decoding_at (held ++ piece)) all))),
    )

-- a piece up to a byte, that byte, and what follows
pub around : (piece : List ℕ) (i : ℕ) → i < length piece → piece ≡ take i piece ++ ((get_or piece i 0 ∷ []) ++ drop (suc i) piece)
around piece i l = sym (take-append-drop i piece) ∙ ap (λ ys. take i piece ++ ys) (drop-cons piece i 0 l)

pub some_inside : {F : Type 0} (d : Decoding F) (held : List ℕ) → Inside held ≡ d → nat_lt 0 (length held) ≡ is_inside d
some_inside d [] e = ap is_inside e
some_inside d (b ∷ bs) e = below_true 0 (suc (length bs)) (omega arith) ∙ ap is_inside e

-- what a byte makes of bytes of which nothing is told
pub byte_partial : {F : Type 0} (g : Grammar F) (d : Decoding F) (held new : List ℕ) (b : ℕ) → d ≡ Inside held → new ≡ held ++ b ∷ [] → front g new ≡ Partial
    → (feds.More ≡ fed_with g d (b ∷ [])) × (Inside new ≡ decoding_with g d (b ∷ []))
byte_partial g d held new b is more told =
    let here : front g (held ++ b ∷ []) ≡ Partial = ap (front g) (sym more) ∙ told in (
      sym (ap (λ e. fed_with g e (b ∷ [])) is ∙ ap (fed_at (length held)) here),
      ap Inside more ∙ sym (ap (λ e. decoding_with g e (b ∷ [])) is ∙ ap (decoding_at (held ++ b ∷ [])) here),
    )

pub byte_broken : {F : Type 0} (g : Grammar F) (d : Decoding F) (held new : List ℕ) (b : ℕ) → d ≡ Inside held → new ≡ held ++ b ∷ [] → front g new ≡ Broken
    → (feds.Broken ≡ fed_with g d (b ∷ [])) × (Stopped ≡ decoding_with g d (b ∷ []))
byte_broken g d held new b is more told =
    let here : front g (held ++ b ∷ []) ≡ Broken = ap (front g) (sym more) ∙ told in (
      sym (ap (λ e. fed_with g e (b ∷ [])) is ∙ ap (fed_at (length held)) here),
      sym (ap (λ e. decoding_with g e (b ∷ [])) is ∙ ap (decoding_at (held ++ b ∷ [])) here),
    )

pub byte_whole : {F : Type 0} (g : Grammar F) → HasSizes g → (d : Decoding F) (held new : List ℕ) (b : ℕ) (f : F) (n : ℕ) → d ≡ Inside held → front g held ≡ Partial
    → new ≡ held ++ b ∷ [] → front g new ≡ Whole f n → (feds.Whole 1 ≡ fed_with g d (b ∷ [])) × (At f ≡ decoding_with g d (b ∷ []))
byte_whole g sizes d held new b f n is partial more told =
    let here : front g (held ++ b ∷ []) ≡ Whole f n = ap (front g) (sym more) ∙ told in
    let last = byte_ends g sizes held b f n partial here in (
      sym (ap (λ e. fed_with g e (b ∷ [])) is ∙ (ap (fed_at (length held)) here ∙ ap feds.Whole (let e : n - length held ≡ 1 = omega arith in e))),
      sym (ap (λ e. decoding_with g e (b ∷ [])) is ∙ ap (decoding_at (held ++ b ∷ [])) here),
    )
