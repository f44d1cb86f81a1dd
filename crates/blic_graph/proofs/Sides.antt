-- Pairs of which one side is set.
use Rattle.std.proofs.Common.{arith, ℕ, ◌<◌, ◌≡◌, ◌≢◌, refl, sym, ◌∙◌, ap, subst, ◌⊎◌, inl, inr, List, length, Bool, true, false}
use Rattle.std.specs.Prelude.{set}
use Rattle.std.proofs.lemmas.Bool.{cases_eq}
use Rattle.std.proofs.lemmas.Grind.{get_or-set_at}
use Rattle.std.proofs.lemmas.List.{get_or-set_other, length-set}
use Rattle.blic_graph.specs.declared.pair.Pair.{Pair}
use Rattle.blic_graph.specs.declared.pair.Side.{Side}
use Rattle.blic_graph.specs.Pairs.{StandsAt, pair_at}
use Rattle.blic_graph.specs.Listing.{side_of, with_side}

none : Pair
none = record { level = 0; first = 0; second = 0; low = Side.Done 0 0; high = Side.Done 0 0 }

pub cases_bit : (a b : Bool) → (a ≡ b) ⊎ (a ≡ b → ⊥)
cases_bit false false = inl refl
cases_bit true true = inl refl
cases_bit false true = inr (λ e. differ e)
  where
    differ : false ≡ true → ⊥
    differ e = cc
cases_bit true false = inr (λ e. differ e)
  where
    differ : true ≡ false → ⊥
    differ e = cc

-- The pairs with one side set.
abbrev pub named : List Pair → ℕ → Bool → Side → List Pair
named pairs p bit side = set pairs p (with_side (pair_at pairs p) bit side)

pub side-here : (x : Pair) (bit : Bool) (side : Side) → side_of (with_side x bit side) bit ≡ side
side-here x false side = refl
side-here x true side = refl

side-there : (x : Pair) (bit b : Bool) (side : Side) → (b ≡ bit → ⊥) → side_of (with_side x bit side) b ≡ side_of x b
side-there x false false side n = absurd (n refl)
side-there x false true side n = refl
side-there x true false side n = refl
side-there x true true side n = absurd (n refl)

pub record SameKeys (x y : Pair) : Type 0 where
  pub level : y.level ≡ x.level
  pub first : y.first ≡ x.first
  pub second : y.second ≡ x.second

keys-with : (x : Pair) (bit : Bool) (side : Side) → SameKeys x (with_side x bit side)
keys-with x false side = record { level = refl; first = refl; second = refl }
keys-with x true side = record { level = refl; first = refl; second = refl }

pub at-here : (pairs : List Pair) (p : ℕ) (bit : Bool) (side : Side) → p < length pairs → pair_at (named pairs p bit side) p ≡ with_side (pair_at pairs p) bit side
unfolding none
at-here pairs p bit side l = get_or-set_at pairs p p (with_side (pair_at pairs p) bit side) none refl l

at-there : (pairs : List Pair) (p j : ℕ) (bit : Bool) (side : Side) → j ≢ p → pair_at (named pairs p bit side) j ≡ pair_at pairs j
unfolding none
at-there pairs p j bit side n = get_or-set_other pairs p j (with_side (pair_at pairs p) bit side) none n

pub keys-named : (pairs : List Pair) (p j : ℕ) (bit : Bool) (side : Side) → p < length pairs → SameKeys (pair_at pairs j) (pair_at (named pairs p bit side) j)
keys-named pairs p j bit side l = elim (cases_eq j p) [
  | inl q ↦ subst (λ z. SameKeys (pair_at pairs z) (pair_at (named pairs p bit side) z)) (sym q)
      (subst (SameKeys (pair_at pairs p)) (sym (at-here pairs p bit side l)) (keys-with (pair_at pairs p) bit side))
  | inr n ↦ subst (SameKeys (pair_at pairs j)) (sym (at-there pairs p j bit side n)) (record { level = refl; first = refl; second = refl })
]

pub stands-named : (pairs : List Pair) (p j r s : ℕ) (bit : Bool) (side : Side) → p < length pairs → StandsAt pairs j r s → StandsAt (named pairs p bit side) j r s
stands-named pairs p j r s bit side l h =
    let e = keys-named pairs p j bit side l in
    let len = length-set pairs p (with_side (pair_at pairs p) bit side) in
    let i = h.in_range in
    record { in_range = omega arith; first = e.first ∙ h.first; second = e.second ∙ h.second }

-- Another side stays.
pub side-named : (pairs : List Pair) (p j : ℕ) (bit b : Bool) (side : Side) → p < length pairs → (j ≡ p → b ≡ bit → ⊥) → side_of (pair_at (named pairs p bit side) j) b ≡ side_of (pair_at pairs j) b
side-named pairs p j bit b side l n = elim (cases_eq j p) [
  | inl q ↦ ap (λ z. side_of (pair_at (named pairs p bit side) z) b) q
      ∙ (ap (λ (z : Pair). side_of z b) (at-here pairs p bit side l) ∙ (side-there (pair_at pairs p) bit b side (n q) ∙ ap (λ z. side_of (pair_at pairs z) b) (sym q)))
  | inr m ↦ ap (λ (z : Pair). side_of z b) (at-there pairs p j bit side m)
]
