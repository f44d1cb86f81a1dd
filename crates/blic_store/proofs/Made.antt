-- Stores with a node more.
use Rattle.std.proofs.Common.{arith, ℕ, zero, suc, ◌+◌, ◌-◌, ◌^◌, ◌<◌, ◌≤◌, ◌≡◌, ◌≢◌, refl, sym, ◌∙◌, ap, subst, inl, inr, List, [], ◌∷◌, ◌++◌, length, map, false, true}
use Rattle.std.specs.Prelude.{◌==◌, Result, Ok, Err, OnOk, IfOk}
use Rattle.std.specs.Result.{is_err}
use Rattle.std.proofs.lemmas.Bool.{cases_lt}
use Rattle.std.proofs.lemmas.Bool.Decides.{nat_tests}
use Rattle.std.proofs.lemmas.List.{get_or_append_left, length_push, append-nil, map-append}
use Rattle.std.proofs.Math.Seq.{get_or-append_seam}
use Rattle.blic_store.specs.declared.decision.Decision.{Decision}
use Rattle.blic_store.specs.Canonical.{IsPlaced, IsCanonical}
use Rattle.blic_store.specs.Diagram.{function, decision_at, level_of, IsRef}
use Rattle.blic_store.specs.Function.{Function, Same, choice, IsPart}
use Rattle.blic_store.specs.Growth.{Adds, Diagrams, Answers, PassesLimit}
use Rattle.blic_store.specs.Store.{IsStore, hash_of}
use Rattle.blic_store.proofs.Levels.{level_of-suc, level_of-const}
use Rattle.blic_store.proofs.Canonical.{function-node}
use Rattle.blic_store.proofs.Functions.{function-last}

pub decision-append : (xs : List Decision) (e : Decision) (k : ℕ) → k < length xs → decision_at (xs ++ e ∷ []) k ≡ decision_at xs k
decision-append xs e k h = get_or_append_left xs (e ∷ []) (record { level = 0; low = 0; high = 0 }) k h

pub decision-last : (xs : List Decision) (e : Decision) (k : ℕ) → k ≡ length xs → decision_at (xs ++ e ∷ []) k ≡ e
decision-last xs e k h = ap (decision_at (xs ++ e ∷ [])) h ∙ get_or-append_seam xs e [] (record { level = 0; low = 0; high = 0 })

pub level-append : (xs : List Decision) (e : Decision) (r : ℕ) → r < length xs + 2 → level_of (xs ++ e ∷ []) r ≡ level_of xs r
level-append xs e zero h = level_of-const (xs ++ e ∷ []) 0 (omega arith) ∙ sym (level_of-const xs 0 (omega arith))
level-append xs e (suc zero) h = level_of-const (xs ++ e ∷ []) 1 (omega arith) ∙ sym (level_of-const xs 1 (omega arith))
level-append xs e (suc (suc k)) h = level_of-suc (xs ++ e ∷ []) k ∙ (ap (λ z. z.level) (decision-append xs e k (omega arith)) ∙ sym (level_of-suc xs k))

placed-append : (xs : List Decision) (e d : Decision) (k : ℕ) → k ≤ length xs → IsPlaced xs k d → IsPlaced (xs ++ e ∷ []) k d
placed-append xs e d k h o =
    let a = o.low_before in let b = o.high_before in
    record {
      in_range = o.in_range;
      low_before = a;
      high_before = b;
      above_low = omega (arith, level-append xs e d.low (omega arith), o.above_low);
      above_high = omega (arith, level-append xs e d.high (omega arith), o.above_high);
      reduced = o.reduced;
    }

-- A canonical list with a new node is canonical.
pub canonical-append : (xs : List Decision) (e : Decision) → IsCanonical xs → IsPlaced xs (length xs) e → ((k : ℕ) → k < length xs → decision_at xs k ≢ e) → IsCanonical (xs ++ e ∷ [])
canonical-append xs e c o new =
    let len = length_push xs e in
    record {
      placed = λ k h. elim (cases_lt k (length xs)) [
        | inl l ↦ subst (IsPlaced (xs ++ e ∷ []) k) (sym (decision-append xs e k l)) (placed-append xs e (decision_at xs k) k (omega arith) (c.placed k l))
        | inr l ↦ (let q : k ≡ length xs = omega arith in
            subst (λ z. IsPlaced (xs ++ e ∷ []) z (decision_at (xs ++ e ∷ []) z)) (sym q)
            (subst (IsPlaced (xs ++ e ∷ []) (length xs)) (sym (decision-last xs e (length xs) refl)) (placed-append xs e e (length xs) (omega arith) o)))
      ];
      unique = λ j k l h q. elim (cases_lt k (length xs)) [
        | inl w ↦ c.unique j k l w (sym (decision-append xs e j (omega arith)) ∙ (q ∙ decision-append xs e k w))
        | inr w ↦ (let z : k ≡ length xs = omega arith in
            new j (omega arith) (sym (decision-append xs e j (omega arith)) ∙ (q ∙ decision-last xs e k z)))
      ];
    }

part_self : (f g : Function) → Same g f → IsPart f g
part_self f g e = ([], e)

-- A canonical list with one node more adds that node's function.
pub adds_one : (xs : List Decision) (e : Decision) → IsCanonical xs → IsPlaced xs (length xs) e → ((k : ℕ) → k < length xs → decision_at xs k ≢ e) → Adds (choice e.level (function xs e.low) (function xs e.high)) xs (xs ++ e ∷ [])
adds_one xs e c o new =
    let len = length_push xs e in
    record {
      canonical = canonical-append xs e c o new;
      extends = (e ∷ [], refl);
      parts = λ r l h. part_self (choice e.level (function xs e.low) (function xs e.high)) (function (xs ++ e ∷ []) r)
          (λ p. ap (λ f. f p) (function-last xs e r (omega arith)));
    }

pub adds_none : (f : Function) (xs : List Decision) → IsCanonical xs → Adds f xs xs
adds_none f xs c = record { canonical = c; extends = ([], sym (append-nil xs)); parts = λ r l h. absurd (omega arith) }

-- A node that is held.
pub answers_found : (xs : Diagrams) (e : Decision) (k r : ℕ) → IsCanonical xs.nodes → k < length xs.nodes → decision_at xs.nodes k ≡ e → r ≡ k + 2
    → Answers (choice e.level (function xs.nodes e.low) (function xs.nodes e.high)) xs xs r
answers_found xs e k r c h q w = record {
  adds = adds_none (choice e.level (function xs.nodes e.low) (function xs.nodes e.high)) xs.nodes c;
  same_limit = refl;
  held = omega arith;
  value = λ p. ap (λ z. function xs.nodes z p) (let u : r ≡ suc (suc k) = omega arith in u)
      ∙ (ap (λ f. f p) (function-node xs.nodes k h (c.placed k h)) ∙ ap (λ z. choice z.level (function xs.nodes z.low) (function xs.nodes z.high) p) q);
}

-- A node that is new.
pub answers_new : (xs ys : Diagrams) (e : Decision) (r : ℕ) → IsCanonical xs.nodes → IsPlaced xs.nodes (length xs.nodes) e → ((k : ℕ) → k < length xs.nodes → decision_at xs.nodes k ≢ e)
    → ys.nodes ≡ xs.nodes ++ e ∷ [] → ys.limit ≡ xs.limit → r ≡ length xs.nodes + 2 → Answers (choice e.level (function xs.nodes e.low) (function xs.nodes e.high)) xs ys r
answers_new xs ys e r c o new q l w =
    let len = length_push xs.nodes e in
    record {
      adds = subst (λ z. Adds (choice e.level (function xs.nodes e.low) (function xs.nodes e.high)) xs.nodes z) (sym q) (adds_one xs.nodes e c o new);
      same_limit = l;
      held = omega (arith, ap length q);
      value = λ p. ap (λ z. function z r p) q ∙ ap (λ f. f p) (function-last xs.nodes e r w);
    }

pub full_new : (xs : Diagrams) (e : Decision) → IsCanonical xs.nodes → IsPlaced xs.nodes (length xs.nodes) e → ((k : ℕ) → k < length xs.nodes → decision_at xs.nodes k ≢ e)
    → xs.limit ≤ length xs.nodes → PassesLimit (choice e.level (function xs.nodes e.low) (function xs.nodes e.high)) xs
full_new xs e c o new l = (xs.nodes ++ e ∷ [], adds_one xs.nodes e c o new, let len = length_push xs.nodes e in omega arith)

-- A node that may be made next.
pub placed_made : (xs : Diagrams) (e : Decision) → e.level < 2 ^ 32 → IsRef xs.nodes e.low → IsRef xs.nodes e.high → e.level < level_of xs.nodes e.low → e.level < level_of xs.nodes e.high → e.low ≢ e.high → IsPlaced xs.nodes (length xs.nodes) e
placed_made xs e i a b c d n = record { in_range = i; low_before = a; high_before = b; above_low = c; above_high = d; reduced = n }

-- What a store keeps, with a new decision.
pub store_more : (nodes more : List Decision) (d : Decision) (hashes entered : List ℕ) (limit : ℕ) → IsStore nodes hashes limit → IsPlaced nodes (length nodes) d → ((k : ℕ) → k < length nodes → decision_at nodes k ≢ d)
    → more ≡ nodes ++ d ∷ [] → entered ≡ hashes ++ hash_of d ∷ [] → length nodes < limit → length nodes < 2 ^ 32 - 2 → IsStore more entered limit
store_more nodes more d hashes entered limit s placed new q e room few =
    let len : length more ≡ length nodes + 1 = ap length q ∙ length_push nodes d in
    record {
      canonical = subst IsCanonical (sym q) (canonical-append nodes d s.canonical placed new);
      entered = e ∙ (ap (λ z. z ++ hash_of d ∷ []) s.entered ∙ (sym (map-append hash_of nodes (d ∷ [])) ∙ ap (map hash_of) (sym q)));
      within = omega arith;
      few = omega arith;
    }

pub on_ok : {T E : Type 0} (r : Result T E) (P : Type 0) → false ≡ is_err r → OnOk r P → P
on_ok (Ok x) P e h = h
on_ok (Err x) P e h = absurd (differ e)
  where
    differ : false ≡ true → ⊥
    differ q = cc

pub unequal_numbers : (a b : ℕ) → (a == b) ≡ false → a ≢ b
unequal_numbers a b e = grind (arith, nat_tests)

-- The answer of a store to which the decision was added.
pub answers_if_ok : {E : Type 0} (xs ys : Diagrams) (d : Decision) (result : Result ℕ E) → IsCanonical xs.nodes → IsPlaced xs.nodes (length xs.nodes) d → ((k : ℕ) → k < length xs.nodes → decision_at xs.nodes k ≢ d)
    → OnOk result (ys.nodes ≡ xs.nodes ++ d ∷ []) → ys.limit ≡ xs.limit → IfOk result (λ r. r ≡ length xs.nodes + 2) → IfOk result (Answers (choice d.level (function xs.nodes d.low) (function xs.nodes d.high)) xs ys)
answers_if_ok xs ys d (Ok r) c placed new q l e = answers_new xs ys d r c placed new q l e
answers_if_ok xs ys d (Err x) c placed new q l e = tt
