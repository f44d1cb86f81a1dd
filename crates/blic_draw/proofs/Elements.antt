-- Each draw is an element.
use Rattle.std.proofs.Common.{arith, ℕ, ◌+◌, ◌*◌, ◌%◌, ◌<◌, ◌^◌, sym, subst, inl, inr, eqb, List}
use Rattle.std.proofs.lemmas.Bool.{cases_eq, eq-eqb, ne_eqb, cond-true, cond-false}
use Rattle.blic_field.specs.Field.{modulus}
use Rattle.blic_draw.specs.Draws.{draw_at, element_of, word_of}
use Rattle.blic_draw.specs.DrawRun.{Source, draw_from}

element_below : (w : ℕ) → w < 2 ^ 61 → element_of w < modulus
element_below w small = elim (cases_eq w modulus) [
  | inl e ↦ subst (λ z. z < modulus) (sym (cond-true (eqb w modulus) 0 w (eq-eqb w modulus e))) (omega arith)
  | inr other ↦ subst (λ z. z < modulus) (sym (cond-false (eqb w modulus) 0 w (ne_eqb w modulus other))) (omega arith)
]

draw_element : (seed : List ℕ) (t : ℕ) → draw_at seed t < modulus
unfolding draw_at
draw_element seed t = element_below ((word_of seed (2 * t) + 2 ^ 32 * word_of seed (2 * t + 1)) % 2 ^ 61) (omega arith)

pub element_drawn : (source : Source) (n : ℕ) → draw_from source n < modulus
element_drawn source n = draw_element source.seed (source.first + n)
