-- A graph has as many pairs as its operands have pairs of subfunctions.
use Rattle.std.proofs.Common.{arith, ℕ, ◌<◌, ◌≤◌, ◌≡◌, sym, ◌∙◌, ap, subst, inl, inr, List, length, get_or, map, Bool, true, ◌&&◌}
use Rattle.std.specs.List.{filter}
use Rattle.std.proofs.lemmas.Bool.{cases_Bool, and_parts, and_from}
use mathlib.Core.Path.{ap₂}
use Rattle.blic_model.specs.declared.node.Node.{Node}
use Rattle.blic_model.specs.Value.{holds}
use Rattle.blic_model.specs.Subfunctions.{prefixes, subfunction, same_pair, operand_pairs}
use Rattle.blic_store.specs.declared.decision.Decision.{Decision}
use Rattle.blic_store.specs.Function.{Same, after}
use Rattle.blic_store.specs.Diagram.{function}
use Rattle.blic_store.specs.Canonical.{IsCanonical}
use Rattle.blic_store.proofs.Under.{part_held}
use Rattle.blic_graph.specs.declared.pair.Pair.{Pair}
use Rattle.blic_graph.specs.Pairs.{IsPairOf, pair_at, IsGraph, PassesMost}
use Rattle.blic_solve.proofs.Members.{IsIn, in_map, from_map, in_filter, from_filter}
use Rattle.blic_solve.proofs.DistinctCounts.{IsImageOf, IsApart, at_least, exact}
use Rattle.blic_solve.proofs.Tables.{LooksBelow, table, same_pair_true, pair_laws, table_same}
use Rattle.blic_solve.proofs.Subfunctions.{under, is_varying, looks_under, subfunction_is, cut_table, cut_in_prefixes}
use Rattle.blic_solve.proofs.Sizes.{AllLookBelow, StandsFor, varying, inner, same_table, looks_same}

-- two operands and their refs
pub record AreOperands (nodes : List Node) (levels : ℕ) (decisions : List Decision) (a b r s : ℕ) : Type 0 where
  pub canonical : IsCanonical decisions
  pub first : StandsFor decisions r (holds nodes a)
  pub second : StandsFor decisions s (holds nodes b)
  pub looks : AllLookBelow nodes levels

abbrev table_of : List Decision → ℕ → ℕ → List Bool
table_of decisions levels r = table levels (function decisions r)

abbrev tables_of : List Decision → ℕ → ℕ × ℕ → List Bool × List Bool
tables_of decisions levels x = (table_of decisions levels x.0, table_of decisions levels x.1)

abbrev both_vary : List Bool × List Bool → Bool
both_vary p = is_varying p.0 && is_varying p.1

abbrev all_pairs : List Node → ℕ → ℕ → ℕ → List (List Bool × List Bool)
all_pairs nodes levels a b = filter both_vary (map (λ w. (subfunction nodes levels a w, subfunction nodes levels b w)) (prefixes levels))

module _ (nodes : List Node) (levels : ℕ) (decisions : List Decision) (a b r s : ℕ) (o : AreOperands nodes levels decisions a b r s) where
  first_is : (x y : ℕ) → (p : IsPairOf decisions r s x y) → Same (function decisions x) (under (holds nodes a) p.bits)
  first_is x y p q = p.first q ∙ o.first.value (after p.bits q)

  second_is : (x y : ℕ) → (p : IsPairOf decisions r s x y) → Same (function decisions y) (under (holds nodes b) p.bits)
  second_is x y p q = p.second q ∙ o.second.value (after p.bits q)

  first_looks : (x y : ℕ) → IsPairOf decisions r s x y → LooksBelow levels (function decisions x)
  first_looks x y p = looks_same levels (function decisions x) (under (holds nodes a) p.bits) (first_is x y p) (looks_under levels (holds nodes a) p.bits (o.looks a))

  second_looks : (x y : ℕ) → IsPairOf decisions r s x y → LooksBelow levels (function decisions y)
  second_looks x y p = looks_same levels (function decisions y) (under (holds nodes b) p.bits) (second_is x y p) (looks_under levels (holds nodes b) p.bits (o.looks b))

  -- the tables of a pair of refs are those of subfunctions
  within : (x y : ℕ) → IsPairOf decisions r s x y → IsIn (all_pairs nodes levels a b) (tables_of decisions levels (x, y))
  within x y p =
      in_filter both_vary (map (λ w. (subfunction nodes levels a w, subfunction nodes levels b w)) (prefixes levels)) (tables_of decisions levels (x, y))
      (subst (IsIn (map (λ w. (subfunction nodes levels a w, subfunction nodes levels b w)) (prefixes levels)))
      (ap₂ (λ u v. (u, v)) (cut_table nodes levels a p.bits (o.looks a) (function decisions x) (first_is x y p)) (cut_table nodes levels b p.bits (o.looks b) (function decisions y) (second_is x y p)))
      (in_map (λ w. (subfunction nodes levels a w, subfunction nodes levels b w)) (prefixes levels) _ (cut_in_prefixes levels p.bits)))
      (and_from _ _ (varying decisions o.canonical levels x p.first_inner.inner p.first_inner.held (first_looks x y p)) (varying decisions o.canonical levels y p.second_inner.inner p.second_inner.held (second_looks x y p)))

  -- pairs of refs with the same tables are one
  same_refs : (x y z w : ℕ) → IsPairOf decisions r s x y → IsPairOf decisions r s z w → same_pair (tables_of decisions levels (x, y)) (tables_of decisions levels (z, w)) ≡ true → (x ≡ z) × (y ≡ w)
  same_refs x y z w p q e =
      let t = same_pair_true (tables_of decisions levels (x, y)) (tables_of decisions levels (z, w)) e in (
        same_table decisions o.canonical levels x z p.first_inner.held q.first_inner.held (first_looks x y p) (first_looks z w q) t.0,
        same_table decisions o.canonical levels y w p.second_inner.held q.second_inner.held (second_looks x y p) (second_looks z w q) t.1,
      )

  -- a pair of refs with these tables
  record HasTables (q : List Bool × List Bool) : Type 0 where
    first : ℕ
    second : ℕ
    pair : IsPairOf decisions r s first second
    tables : tables_of decisions levels (first, second) ≡ q

  -- the tables of subfunctions that vary are those of a pair of refs
  found : (q : List Bool × List Bool) → IsIn (all_pairs nodes levels a b) q → HasTables q
  found q i =
      let kept = from_filter both_vary (map (λ w. (subfunction nodes levels a w, subfunction nodes levels b w)) (prefixes levels)) q i in
      let word = from_map (λ w. (subfunction nodes levels a w, subfunction nodes levels b w)) (prefixes levels) q kept.held in
      let bits = word.from in
      let vary = and_parts (is_varying q.0) (is_varying q.1) kept.passed in
      let x = part_held decisions o.canonical r o.first.held bits in
      let y = part_held decisions o.canonical s o.second.held bits in
      let fx : Same (function decisions x.0) (under (holds nodes a) bits) = λ p. x.1.value p ∙ o.first.value (after bits p) in
      let fy : Same (function decisions y.0) (under (holds nodes b) bits) = λ p. y.1.value p ∙ o.second.value (after bits p) in
      let qx : table levels (under (holds nodes a) bits) ≡ q.0 = sym (subfunction_is nodes levels a bits) ∙ ap (λ z. z.0) word.value in
      let qy : table levels (under (holds nodes b) bits) ≡ q.1 = sym (subfunction_is nodes levels b bits) ∙ ap (λ z. z.1) word.value in
      record {
        first = x.0;
        second = y.0;
        pair = record {
          first_inner = record { held = x.1.held; inner = inner decisions levels x.0 (under (holds nodes a) bits) fx (ap is_varying qx ∙ vary.0) };
          second_inner = record { held = y.1.held; inner = inner decisions levels y.0 (under (holds nodes b) bits) fy (ap is_varying qy ∙ vary.1) };
          bits = bits;
          first = x.1.value;
          second = y.1.value;
        };
        tables = ap₂ (λ u v. (u, v)) (table_same levels (function decisions x.0) (under (holds nodes a) bits) fx ∙ qx) (table_same levels (function decisions y.0) (under (holds nodes b) bits) fy ∙ qy);
      }

  module _ (h : ℕ → ℕ × ℕ) (n : ℕ) (each : (k : ℕ) → k < n → IsPairOf decisions r s (h k).0 (h k).1)
      (once : (j k : ℕ) → j < k → k < n → (h j).0 ≡ (h k).0 → (h j).1 ≡ (h k).1 → ⊥) where
    apart : IsApart same_pair (λ k. tables_of decisions levels (h k)) n
    apart j k i l = elim (cases_Bool (same_pair (tables_of decisions levels (h j)) (tables_of decisions levels (h k)))) [
      | inl e ↦ absurd (let t = same_refs (h j).0 (h j).1 (h k).0 (h k).1 (each j (omega arith)) (each k l) e in once j k i l t.0 t.1)
      | inr e ↦ e
    ]

    pub pairs_at_least : n ≤ operand_pairs nodes levels a b
    unfolding operand_pairs
    pairs_at_least = at_least pair_laws (λ k. tables_of decisions levels (h k)) n (all_pairs nodes levels a b) apart (λ k l. within (h k).0 (h k).1 (each k l))

    pub pairs_exact : ((x y : ℕ) → IsPairOf decisions r s x y → (k : ℕ) × (k < n) × (h k ≡ (x, y))) → n ≡ operand_pairs nodes levels a b
    unfolding operand_pairs
    pairs_exact complete = exact pair_laws (λ k. tables_of decisions levels (h k)) n (all_pairs nodes levels a b) apart (λ k l. within (h k).0 (h k).1 (each k l)) (covered complete)
      where
        covered : ((x y : ℕ) → IsPairOf decisions r s x y → (k : ℕ) × (k < n) × (h k ≡ (x, y))) → (q : List Bool × List Bool) → IsIn (all_pairs nodes levels a b) q
            → IsImageOf (λ k. tables_of decisions levels (h k)) n q
        covered complete q i =
            let f = found q i in
            let at = complete f.first f.second f.pair in
            record { place = at.0; below = at.1; value = ap (tables_of decisions levels) at.2 ∙ f.tables }

  pub graph_length : (pairs : List Pair) → IsGraph decisions r s pairs → length pairs ≡ operand_pairs nodes levels a b
  graph_length pairs g =
      pairs_exact (λ k. ((pair_at pairs k).first, (pair_at pairs k).second)) (length pairs) (λ k l. (g.listed k l).of) g.once
      (λ x y p. (let at = g.complete x y p in (at.0, at.1.in_range, ap₂ (λ u v. (u, v)) at.1.first at.1.second)))

  pub more_pairs : (most : ℕ) → PassesMost decisions r s most → most < operand_pairs nodes levels a b
  more_pairs most g =
      let least = pairs_at_least (λ k. get_or g.some k (0, 0)) (length g.some) g.each (λ j k i l e f. g.once j k i l (ap₂ (λ u v. (u, v)) e f)) in
      let more = g.more in
      omega arith
