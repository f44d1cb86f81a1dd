-- Lines that are printed one after another.
use Rattle.std.proofs.Common.{arith, ℕ, ◌≡◌, ◌+◌, refl, sym, ◌∙◌, ap, List, [], ◌++◌, length, take, Bool, true, false, cond, append-nil}
use Rattle.std.specs.Prelude.{Option, Some, None, min}
use Rattle.std.specs.Io.KnownBytes.{append_known}
use Rattle.std.proofs.Math.Seq.{take-append-add}
use Rattle.std.proofs.lemmas.List.{take-append-le, take_min}
use Rattle.std.proofs.lemmas.Grind.{flat_map-append}
use Rattle.blic_basic.proofs.Appended.{append_known-append}
use Rattle.blic_print.specs.Printing.{frame_line, talk_text}

pub nothing_more : (held : Option (List ℕ)) → held ≡ append_known held []
nothing_more None = refl
nothing_more (Some bytes) = ap Some (sym (append-nil bytes))

-- the lines are printed if they are to be
abbrev pub Printed : Bool → List (List ℕ) → Option (List ℕ) → Option (List ℕ) → Type 0
Printed talk frames held held_now = held_now ≡ append_known held (cond talk (talk_text frames) [])

pub none_printed : (talk : Bool) (held : Option (List ℕ)) → Printed talk [] held held
none_printed true held = nothing_more held
none_printed false held = nothing_more held

cond_append : (talk : Bool) (a b : List ℕ) → cond talk a [] ++ cond talk b [] ≡ cond talk (a ++ b) []
cond_append true a b = refl
cond_append false a b = refl

-- a text behind lines
pub printed_more : (talk : Bool) (frames more : List (List ℕ)) (line : List ℕ) (held mid now : Option (List ℕ)) → talk_text more ≡ line → Printed talk frames held mid
    → now ≡ append_known mid (cond talk line []) → Printed talk (frames ++ more) held now
printed_more talk frames more line held mid now is before after =
    after ∙ (ap (λ m. append_known m (cond talk line [])) before ∙ (append_known-append held (cond talk (talk_text frames) []) (cond talk line [])
    ∙ ap (append_known held) (cond_append talk (talk_text frames) line
    ∙ ap (λ z. cond talk z []) (ap (λ z. talk_text frames ++ z) (sym is) ∙ sym (flat_map-append frame_line frames more)))))

-- a prefix of a text behind lines, as a prefix of all lines
pub prefix_more : (talk : Bool) (frames more : List (List ℕ)) (line tail : List ℕ) (held mid now : Option (List ℕ)) (k : ℕ) → talk ≡ true → talk_text more ≡ line ++ tail → Printed talk frames held mid
    → now ≡ append_known mid (take k line) → (n : ℕ) × (now ≡ append_known held (take n (talk_text (frames ++ more))))
prefix_more talk frames more line tail held mid now k talks is before after =
    let part : take (min k (length line)) (line ++ tail) ≡ take k line = take-append-le (min k (length line)) line tail (omega arith) ∙ take_min k line in
    let whole : take (length (talk_text frames) + min k (length line)) (talk_text (frames ++ more)) ≡ talk_text frames ++ take k line
    = ap (take (length (talk_text frames) + min k (length line))) (flat_map-append frame_line frames more ∙ ap (λ z. talk_text frames ++ z) is)
    ∙ (take-append-add (talk_text frames) (line ++ tail) (min k (length line)) ∙ ap (λ z. talk_text frames ++ z) part) in (
      length (talk_text frames) + min k (length line),
      after ∙ (ap (λ m. append_known m (take k line)) (before ∙ ap (λ z. append_known held (cond z (talk_text frames) [])) talks)
          ∙ (append_known-append held (talk_text frames) (take k line) ∙ ap (append_known held) (sym whole))),
    )
