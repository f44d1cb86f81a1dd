use Rattle.std.proofs.Common.{◌≡◌, ◌≢◌, ℕ, ◌+◌, ◌-◌, ◌*◌, ◌/◌, ◌%◌, ◌≤◌, nat_lt, List, [], ◌∷◌, ◌++◌, length, get_or, take, drop, refl, ap, sym, ◌∙◌, arith}
use Rattle.std.proofs.lemmas.List.{length-take-le, take_rest}
use Rattle.std.proofs.lemmas.Bool.{false≢true}
use Rattle.byteorder.specs.Endian.{big_number}
use Rattle.blic_field.specs.Field.{modulus}
use Rattle.blic_messages.specs.Grammar.{Short, judged}
use Rattle.blic_messages.proofs.Judging.{behind, not_below, below_true}
use Rattle.blic_messages.proofs.ReplyBodies.{many}
use Rattle.blic_messages.proofs.PolyFronts.{inside_element, end_element, some_to_come, last_byte}
use Rattle.blic_messages.proofs.reply_decoder.poly_front.Goals as goal

abbrev before : List ℕ → List ℕ
before part = take (length part - 1) part

inside : (part : List ℕ) → 1 ≤ length part → judged (many 3) (before part) ≡ Short → length part % 8 ≢ 0 → judged (many 3) part ≡ Short
inside part some short within =
    let long : length (before part) ≡ length part - 1 = length-take-le (length part - 1) part (omega arith) in
    ap (judged (many 3)) (last_byte part some) ∙ inside_element 3 (before part) (get_or part (length part - 1) 0) short (omega arith)

-- at the end of the first element or of the second
ends : (part : List ℕ) (n : ℕ) → 1 ≤ length part → length part ≤ 24 → judged (many 3) (before part) ≡ Short → length part % 8 ≡ 0 → length part ≢ 24
    → n ≡ big_number 8 (take (length part - (length part - 8)) (drop (length part - 8) part)) → judged (many 3) part ≡ behind (nat_lt n modulus) Short
ends part n some few short whole fewer is =
    let old = before part in
    let b = get_or part (length part - 1) 0 in
    let j = length part / 8 - 1 in
    let long : length old ≡ length part - 1 = length-take-le (length part - 1) part (omega arith) in
    let place : 8 * j ≡ length part - 8 = omega arith in
    let number : big_number 8 (drop (8 * j) (old ++ b ∷ [])) ≡ n =
    ap (λ xs. big_number 8 (drop (8 * j) xs)) (sym (last_byte part some))
    ∙ (ap (λ k. big_number 8 (drop k part)) place ∙ (ap (big_number 8) (sym (take_rest part (length part - 8))) ∙ sym is)) in
    ap (judged (many 3)) (last_byte part some)
    ∙ (end_element 3 old b j short (omega arith)
    ∙ (ap (λ m. behind (nat_lt m modulus) (judged (many (3 - (j + 1))) [])) number ∙ ap (behind (nat_lt n modulus)) (some_to_come (3 - (j + 1)) (omega arith))))

pub returns-then-part-ne0 : goal.returns-then-part-ne0
returns-then-part-ne0 c = inside c.args.part.now c.requires.some c.requires.before c.if-part-ne0.true

pub returns-in-None : goal.returns-in-None
returns-in-None c =
    let n = c.read_u64.result in
    let big : modulus ≤ n = c.in-None.ensures.none.0 refl in
    ends c.args.part.now n c.requires.some c.requires.few c.requires.before c.if-part-ne0.false c.if-part-eq24.false c.read_u64.ensures
    ∙ ap (λ t. behind t Short) (not_below n modulus big)

pub returns-in-Some : goal.returns-in-Some
returns-in-Some c =
    let n = c.read_u64.result in
    let no : modulus ≤ n → ⊥ = λ l. false≢true (sym (c.in-Some.ensures.none.1 l)) in
    ends c.args.part.now n c.requires.some c.requires.few c.requires.before c.if-part-ne0.false c.if-part-eq24.false c.read_u64.ensures
    ∙ ap (λ t. behind t Short) (below_true n modulus (omega arith))
