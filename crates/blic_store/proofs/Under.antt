-- A ref with some topmost levels fixed.
use Rattle.std.proofs.Common.{arith, ℕ, zero, suc, ◌+◌, ◌<◌, ◌≤◌, ◌≡◌, ◌≢◌, refl, sym, ◌∙◌, ap, subst, inl, inr, List, [], ◌∷◌, ◌++◌, length, get_or, Bool, false, append_assoc, append-nil}
use Rattle.std.proofs.lemmas.Bool.{cases_eq, cases_lt}
use Rattle.std.proofs.lemmas.List.{get_or_append_left, get_or_past, get_or_default, length_push}
use Rattle.std.proofs.Math.Seq.{get_or-append_seam}
use mathlib.Core.Path.{fun_ext}
use Rattle.blic_store.specs.declared.decision.Decision.{Decision}
use Rattle.blic_store.specs.Canonical.{IsCanonical}
use Rattle.blic_store.specs.Under.{IsUnder}
use Rattle.blic_store.specs.Diagram.{function, level_of, cofactor, IsRef}
use Rattle.blic_store.specs.Function.{after}
use Rattle.blic_store.proofs.Functions.{function-false, function-true}
use Rattle.blic_store.proofs.Canonical.{with_bit, with_bit-here, with_bit-other, blind}
use Rattle.blic_store.proofs.Cofactors.{is_cofactor}

pub after_step : (u : List Bool) (p : ℕ → Bool) (v : Bool) (y : ℕ) → after u (with_bit p (length u) v) y ≡ after (u ++ v ∷ []) p y
after_step u p v y = elim (cases_lt y (length u)) [
  | inl l ↦ get_or_default u y (with_bit p (length u) v y) (p y) l ∙ sym (get_or_append_left u (v ∷ []) (p y) y l)
  | inr l ↦ elim (cases_eq y (length u)) [
    | inl q ↦ get_or_past u y (with_bit p (length u) v y) l
        ∙ (ap (with_bit p (length u) v) q ∙ (with_bit-here p (length u) v
        ∙ sym (ap (λ z. get_or (u ++ v ∷ []) z (p y)) q ∙ get_or-append_seam u v [] (p y))))
    | inr n ↦ get_or_past u y (with_bit p (length u) v y) l
        ∙ (with_bit-other p (length u) v y n
        ∙ sym (get_or_past (u ++ v ∷ []) y (p y) (let ne : y ≢ length u = n in let w = length_push u v in omega arith)))
  ]
]

-- A constant is the same under each prefix.
pub constant_stays : (nodes : List Decision) (r : ℕ) → r < 2 → (p q : ℕ → Bool) → function nodes r p ≡ function nodes r q
constant_stays nodes zero h p q = ap (λ f. f p) (function-false nodes) ∙ sym (ap (λ f. f q) (function-false nodes))
constant_stays nodes (suc zero) h p q = ap (λ f. f p) (function-true nodes) ∙ sym (ap (λ f. f q) (function-true nodes))
constant_stays nodes (suc (suc r)) h p q = absurd (omega arith)

pub under_constant : (nodes : List Decision) (a : ℕ) (u : List Bool) (v : Bool) (r : ℕ) → IsUnder nodes a u r → r < 2 → IsUnder nodes a (u ++ v ∷ []) r
under_constant nodes a u v r x h = record {
  held = x.held;
  value = λ p. constant_stays nodes r h p (with_bit p (length u) v) ∙ (x.value (with_bit p (length u) v) ∙ ap (function nodes a) (fun_ext (after_step u p v)));
  below = λ i. absurd (omega arith);
}

pub under_cofactor : (nodes : List Decision) → IsCanonical nodes → (a : ℕ) (u : List Bool) (v : Bool) (r : ℕ) → IsUnder nodes a u r → 2 ≤ r → IsUnder nodes a (u ++ v ∷ []) (cofactor nodes r (length u) v)
under_cofactor nodes c a u v r x i =
    let b = is_cofactor nodes c r (length u) v x.held i (x.below i) in
    let below = b.below in
    record {
      held = b.held;
      value = λ p. b.value p ∙ (x.value (with_bit p (length u) v) ∙ ap (function nodes a) (fun_ext (after_step u p v)));
      below = λ j. let w = length_push u v in omega arith;
    }

-- A prefix may be longer, up to the ref's level.
pad_one : (nodes : List Decision) → IsCanonical nodes → (a : ℕ) (u : List Bool) (r : ℕ) → IsUnder nodes a u r → length u < level_of nodes r → IsUnder nodes a (u ++ false ∷ []) r
pad_one nodes c a u r x l = record {
  held = x.held;
  value = λ p. sym (blind nodes c r x.held p (length u) false l) ∙ (x.value (with_bit p (length u) false) ∙ ap (function nodes a) (fun_ext (after_step u p false)));
  below = λ i. let w = length_push u false in omega arith;
}

-- a prefix with n bits more
pub padded : List Bool → ℕ → List Bool
padded u zero = u
padded u (suc n) = padded (u ++ false ∷ []) n

pub length-padded : (u : List Bool) (n : ℕ) → length (padded u n) ≡ length u + n
unfolding padded
length-padded u zero = omega arith
length-padded u (suc n) = omega (arith, length-padded (u ++ false ∷ []) n, length_push u false)

pub pad_to : (nodes : List Decision) → IsCanonical nodes → (a r n : ℕ) (u : List Bool) → length u + n ≤ level_of nodes r → IsUnder nodes a u r → IsUnder nodes a (padded u n) r
unfolding padded
pad_to nodes c a r zero u l x = x
pad_to nodes c a r (suc n) u l x = pad_to nodes c a r n (u ++ false ∷ []) (let w = length_push u false in omega arith) (pad_one nodes c a u r x (omega arith))

-- A ref under no prefix.
pub under_none : (nodes : List Decision) (a : ℕ) → IsRef nodes a → IsUnder nodes a [] a
under_none nodes a h = record { held = h; value = λ p. refl; below = λ k. omega arith }

-- One bit more.
pub under_bit : (nodes : List Decision) → IsCanonical nodes → (a : ℕ) (u : List Bool) (v : Bool) → (r : ℕ) × IsUnder nodes a u r → (r : ℕ) × IsUnder nodes a (u ++ v ∷ []) r
under_bit nodes c a u v x = elim (cases_lt x.0 2) [
  | inl l ↦ (x.0, under_constant nodes a u v x.0 x.1 l)
  | inr l ↦ (cofactor nodes x.0 (length u) v, under_cofactor nodes c a u v x.0 x.1 l)
]

under_bits : (nodes : List Decision) → IsCanonical nodes → (a : ℕ) (vs u : List Bool) → (r : ℕ) × IsUnder nodes a u r → (r : ℕ) × IsUnder nodes a (u ++ vs) r
under_bits nodes c a [] u x = subst (λ z. (r : ℕ) × IsUnder nodes a z r) (sym (append-nil u)) x
under_bits nodes c a (v ∷ vs) u x = subst (λ z. (r : ℕ) × IsUnder nodes a z r) (append_assoc u (v ∷ []) vs) (under_bits nodes c a vs (u ++ v ∷ []) (under_bit nodes c a u v x))

-- A part of a ref's function is a ref's function.
pub part_held : (nodes : List Decision) → IsCanonical nodes → (r : ℕ) → IsRef nodes r → (bits : List Bool) → (s : ℕ) × IsUnder nodes r bits s
part_held nodes c r h bits = under_bits nodes c r bits [] (r, under_none nodes r h)
