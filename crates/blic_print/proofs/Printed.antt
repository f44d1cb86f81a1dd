-- A text that is printed in parts, one after another.
use Rattle.std.proofs.Common.{◌≡◌, ℕ, ◌+◌, min, List, ◌++◌, length, take, ap, sym, ◌∙◌, Option, arith}
use Rattle.std.proofs.Math.Seq.{take-append-add}
use Rattle.std.proofs.lemmas.List.{take-append-le, take_min}
use Rattle.std.specs.Prelude.{Result, Ok, Err}
use Rattle.std.specs.Io.KnownBytes.{append_known}
use Rattle.blic_basic.proofs.Appended.{append_known-append}
use Rattle.blic_print.specs.Printing.{Prints}
use Rattle.blic_print.specs.declared.write_fault.WriteFault.{WriteFault}

-- a front of a text is a front of the text that goes on after it
front : (n : ℕ) (xs ys : List ℕ) → take (min n (length xs)) (xs ++ ys) ≡ take n xs
front n xs ys = take-append-le (min n (length xs)) xs ys (omega arith) ∙ take_min n xs

-- a front of a text behind one that was printed whole
pub front_after : (old mid new : Option (List ℕ)) (a b : List ℕ) → mid ≡ append_known old a → (n : ℕ) × (new ≡ append_known mid (take n b)) → (m : ℕ) × (new ≡ append_known old (take m (a ++ b)))
front_after old mid new a b before (n, after) = (
  length a + n,
  after ∙ (ap (λ m. append_known m (take n b)) before ∙ (append_known-append old a (take n b) ∙ ap (append_known old) (sym (take-append-add a b n)))),
)

-- a text behind one that was printed whole
pub prints_after : (old mid new : Option (List ℕ)) (result : Result Unit WriteFault) (a b : List ℕ) → mid ≡ append_known old a → Prints mid new result b → Prints old new result (a ++ b)
prints_after old mid new (Ok u) a b before after = after ∙ (ap (λ m. append_known m b) before ∙ append_known-append old a b)
prints_after old mid new (Err e) a b before after = front_after old mid new a b before after

-- a front of a text is a front of the longer one
pub longer_front : (old new : Option (List ℕ)) (a b : List ℕ) → (n : ℕ) × (new ≡ append_known old (take n a)) → (m : ℕ) × (new ≡ append_known old (take m (a ++ b)))
longer_front old new a b (n, is) = (min n (length a), is ∙ ap (append_known old) (sym (front n a b)))
