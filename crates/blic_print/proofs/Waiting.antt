-- A text whose end waits for what comes behind it.
use Rattle.std.proofs.Common.{◌≡◌, ℕ, ◌+◌, ◌<◌, List, [], ◌∷◌, ◌++◌, length, take, drop, get_or, refl, ap, sym, ◌∙◌, subst, append_assoc, append-nil, Option, Some, None}
use Rattle.std.proofs.lemmas.List.{take_more, take-append-drop}
use Rattle.std.proofs.lemmas.Grind.{flat_map-append}
use Rattle.std.specs.List.{flat_map}
use Rattle.std.specs.Prelude.{Result, Ok, Err}
use Rattle.std.specs.Io.KnownBytes.{append_known}
use Rattle.blic_basic.proofs.Appended.{append_known-append}
use Rattle.blic_print.specs.Gathering.{Gathers, IsUnderWay}
use Rattle.blic_print.specs.Printing.{Prints}
use Rattle.blic_print.specs.declared.write_fault.WriteFault.{WriteFault}
use Rattle.blic_print.proofs.Printed.{front_after, longer_front, prints_after}

nothing_more : (old : Option (List ℕ)) → append_known old [] ≡ old
nothing_more None = refl
nothing_more (Some held) = ap Some (append-nil held)

-- all of the text waits
pub all_waits : (old : Option (List ℕ)) (text waits : List ℕ) → waits ≡ text → IsUnderWay old old text waits
all_waits old text waits same = record { written = []; appended = sym (nothing_more old); parts = same }

-- more is put behind what waits
pub under_way_more : (old mid new : Option (List ℕ)) (text waits more later : List ℕ)
    → IsUnderWay old mid text waits → IsUnderWay mid new (waits ++ more) later → IsUnderWay old new (text ++ more) later
under_way_more old mid new text waits more later one two = record {
  written = one.written ++ two.written;
  appended = two.appended ∙ (ap (λ m. append_known m two.written) one.appended ∙ append_known-append old one.written two.written);
  parts = append_assoc one.written two.written later ∙ (ap (λ t. one.written ++ t) two.parts ∙ (sym (append_assoc one.written waits more) ∙ ap (λ t. t ++ more) one.parts));
}

-- more was to be put behind what waits, and a call failed
pub cut_more : (old mid new : Option (List ℕ)) (text waits more : List ℕ)
    → IsUnderWay old mid text waits → (n : ℕ) × (new ≡ append_known mid (take n (waits ++ more))) → (n : ℕ) × (new ≡ append_known old (take n (text ++ more)))
cut_more old mid new text waits more one cut =
    subst (λ t. (n : ℕ) × (new ≡ append_known old (take n t))) (sym (append_assoc one.written waits more) ∙ ap (λ t. t ++ more) one.parts)
    (front_after old mid new one.written (waits ++ more) one.appended cut)

pub gathers_more : (old mid new : Option (List ℕ)) (r : Result Unit WriteFault) (text waits more later : List ℕ)
    → IsUnderWay old mid text waits → Gathers mid new r (waits ++ more) later → Gathers old new r (text ++ more) later
gathers_more old mid new (Ok u) text waits more later one two = under_way_more old mid new text waits more later one two
gathers_more old mid new (Err e) text waits more later one cut = cut_more old mid new text waits more one cut

-- what waits is written
pub gathers_end : (old mid new : Option (List ℕ)) (r : Result Unit WriteFault) (text waits : List ℕ)
    → IsUnderWay old mid text waits → Prints mid new r waits → Prints old new r text
gathers_end old mid new r text waits one rest = subst (Prints old new r) one.parts (prints_after old mid new r one.written waits one.appended rest)

-- where nothing waits, more is written at once
pub gathers_all : (old mid new : Option (List ℕ)) (r : Result Unit WriteFault) (text more waits : List ℕ)
    → mid ≡ append_known old text → waits ≡ [] → Prints mid new r more → Gathers old new r (text ++ more) waits
gathers_all old mid new (Ok u) text more waits before none after = record {
  written = text ++ more;
  appended = prints_after old mid new (Ok u) text more before after;
  parts = ap (λ t. (text ++ more) ++ t) none ∙ append-nil (text ++ more);
}
gathers_all old mid new (Err e) text more waits before none cut = front_after old mid new text more before cut

-- the text of one element more
text_more : {X : Type 0} (f : X → List ℕ) (xs : List X) (i : ℕ) (d : X) → i < length xs
    → flat_map f (take i xs) ++ f (get_or xs i d) ≡ flat_map f (take (i + 1) xs)
text_more f xs i d inside = sym (
    ap (flat_map f) (take_more xs i d inside) ∙ flat_map-append f (take i xs) (get_or xs i d ∷ [])
    ∙ ap (λ t. flat_map f (take i xs) ++ t) (append-nil (f (get_or xs i d)))
    )

-- the whole text, as it goes on behind the first elements
text_on : {X : Type 0} (f : X → List ℕ) (xs : List X) (i : ℕ) → flat_map f (take i xs) ++ flat_map f (drop i xs) ≡ flat_map f xs
text_on f xs i = sym (flat_map-append f (take i xs) (drop i xs)) ∙ ap (flat_map f) (take-append-drop i xs)

-- behind the first elements one more is put
pub puts_more : {X : Type 0} (f : X → List ℕ) (xs : List X) (i : ℕ) (d : X) (old mid new : Option (List ℕ)) (waits later : List ℕ)
    → i < length xs → IsUnderWay old mid (flat_map f (take i xs)) waits → IsUnderWay mid new (waits ++ f (get_or xs i d)) later
    → IsUnderWay old new (flat_map f (take (i + 1) xs)) later
puts_more f xs i d old mid new waits later inside before after =
    subst (λ t. IsUnderWay old new t later) (text_more f xs i d inside) (under_way_more old mid new (flat_map f (take i xs)) waits (f (get_or xs i d)) later before after)

-- where that is cut off, so is the whole text
pub puts_front : {X : Type 0} (f : X → List ℕ) (xs : List X) (i : ℕ) (d : X) (old mid new : Option (List ℕ)) (waits : List ℕ)
    → i < length xs → IsUnderWay old mid (flat_map f (take i xs)) waits → (n : ℕ) × (new ≡ append_known mid (take n (waits ++ f (get_or xs i d))))
    → (n : ℕ) × (new ≡ append_known old (take n (flat_map f xs)))
puts_front f xs i d old mid new waits inside before cut =
    subst (λ t. (n : ℕ) × (new ≡ append_known old (take n t))) (text_on f xs (i + 1))
    (longer_front old new (flat_map f (take (i + 1) xs)) (flat_map f (drop (i + 1) xs))
    (subst (λ t. (n : ℕ) × (new ≡ append_known old (take n t))) (text_more f xs i d inside) (cut_more old mid new (flat_map f (take i xs)) waits (f (get_or xs i d)) before cut)))
