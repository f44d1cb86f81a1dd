use Rattle.std.proofs.Common.{arith, ℕ, ◌≡◌, ◌<◌, ◌≤◌, ◌↔◌, List, length, take, get_or, sym, ◌∙◌, ap, refl, Option, Some, None, IfSome, IsNone}
use Rattle.std.proofs.lemmas.Bool.{false≢true}
use Rattle.std.specs.Int.{bytes_high_first}
use Rattle.byteorder.specs.Endian.{big_from}
use Rattle.blic_field.specs.Field.{modulus}
use Rattle.blic_messages.specs.Parts.{IsElement, IsSpelling}
use Rattle.blic_messages.proofs.Numbers.{bytes-number, number-bytes}
use Rattle.blic_messages.proofs.decode.read_element.Goals as goal

element_read : (xs : List ℕ) (n : ℕ) (r : Option ℕ) → 8 ≤ length xs → ((k : ℕ) → get_or xs k 0 < 256) → n ≡ big_from 0 8 xs
    → IfSome r (λ e. e ≡ n) → (IsNone r ↔ (modulus ≤ n)) → IsSpelling IsElement (bytes_high_first 8) (take 8 xs) r
element_read xs n (Some e) room bytes is same none =
    (let no : modulus ≤ e → ⊥ = λ l. false≢true (sym (none.1 (omega arith))) in omega arith, sym (bytes-number 8 xs room bytes) ∙ ap (bytes_high_first 8) (sym is ∙ sym same))
element_read xs n None room bytes is same none =
    λ x small e. let big : modulus ≤ n = none.0 refl in let back = number-bytes 8 x xs (omega arith) e in omega arith

pub returns : goal.returns
returns c =
    element_read c.args.bytes.now c.read_u64.result c.from_u64.result c.requires (λ k. omega (arith, c.type_inv.bytes k)) c.read_u64.ensures c.from_u64.ensures.value c.from_u64.ensures.none
