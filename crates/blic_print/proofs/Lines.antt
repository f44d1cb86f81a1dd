-- A line of three parts, each put behind what waits.
use Rattle.std.proofs.Common.{◌≡◌, ℕ, List, ◌++◌, take, sym, ◌∙◌, subst, append_assoc, Option}
use Rattle.std.specs.Prelude.{Result}
use Rattle.std.specs.Io.KnownBytes.{append_known}
use Rattle.blic_print.specs.Gathering.{Gathers, IsUnderWay}
use Rattle.blic_print.specs.declared.write_fault.WriteFault.{WriteFault}
use Rattle.blic_print.proofs.Printed.{longer_front}
use Rattle.blic_print.proofs.Waiting.{cut_more, gathers_more, under_way_more}

regrouped : (before mark digits end line : List ℕ) → line ≡ mark ++ digits ++ end → ((before ++ mark) ++ digits) ++ end ≡ before ++ line
regrouped before mark digits end line is = rw is (simp append_assoc)

pub line_put : (before mark digits end line : List ℕ) (old one two new : Option (List ℕ)) (r : Result Unit WriteFault) (first second later : List ℕ)
    → line ≡ mark ++ digits ++ end → IsUnderWay old one (before ++ mark) first → IsUnderWay one two (first ++ digits) second
    → Gathers two new r (second ++ end) later → Gathers old new r (before ++ line) later
line_put before mark digits end line old one two new r first second later is marked coded ended =
    subst (λ t. Gathers old new r t later) (regrouped before mark digits end line is)
    (gathers_more old two new r ((before ++ mark) ++ digits) second end later (under_way_more old one two (before ++ mark) first digits second marked coded) ended)

pub line_cut_in_mark : (before mark digits end line : List ℕ) (old new : Option (List ℕ))
    → line ≡ mark ++ digits ++ end → (n : ℕ) × (new ≡ append_known old (take n (before ++ mark)))
    → (n : ℕ) × (new ≡ append_known old (take n (before ++ line)))
line_cut_in_mark before mark digits end line old new is cut =
    subst (λ t. (n : ℕ) × (new ≡ append_known old (take n t)))
    (sym (append_assoc (before ++ mark) digits end) ∙ regrouped before mark digits end line is)
    (longer_front old new (before ++ mark) (digits ++ end) cut)

pub line_cut_in_digits : (before mark digits end line : List ℕ) (old one new : Option (List ℕ)) (first : List ℕ)
    → line ≡ mark ++ digits ++ end → IsUnderWay old one (before ++ mark) first
    → (n : ℕ) × (new ≡ append_known one (take n (first ++ digits)))
    → (n : ℕ) × (new ≡ append_known old (take n (before ++ line)))
line_cut_in_digits before mark digits end line old one new first is marked cut =
    subst (λ t. (n : ℕ) × (new ≡ append_known old (take n t))) (regrouped before mark digits end line is)
    (longer_front old new ((before ++ mark) ++ digits) end (cut_more old one new (before ++ mark) first digits marked cut))
