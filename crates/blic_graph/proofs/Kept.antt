-- A graph stays one while the store grows.
use Rattle.std.proofs.Common.{arith, ℕ, zero, suc, ◌-◌, ◌<◌, ◌≡◌, sym, ◌∙◌, ap, subst, List, length, Bool, true, false, cond}
use Rattle.std.specs.Prelude.{min, ◌==◌}
use mathlib.Core.Path.{ap₂}
use Rattle.std.proofs.lemmas.List.{get_or_append_left}
use Rattle.blic_store.specs.declared.decision.Decision.{Decision}
use Rattle.blic_store.specs.Function.{Function, Same, after}
use Rattle.blic_store.specs.Diagram.{IsRef, cofactor, decision_at, function, level_of}
use Rattle.blic_store.specs.Canonical.{IsCanonical}
use Rattle.blic_store.specs.Growth.{Adds}
use Rattle.blic_store.proofs.Canonical.{same_ref}
use Rattle.blic_store.proofs.Levels.{level_of-const, level_of-suc}
use Rattle.blic_store.proofs.Parts.{function-kept, no_shorter}
use Rattle.blic_store.proofs.Under.{part_held}
use Rattle.blic_graph.specs.declared.pair.Pair.{Pair}
use Rattle.blic_graph.specs.declared.pair.Side.{Side}
use Rattle.blic_graph.specs.Pairs.{IsGraph, IsInner, IsListed, IsPairOf, IsSide, pair_at}

decision-kept : (f : Function) (old new : List Decision) → Adds f old new → (k : ℕ) → k < length old → decision_at new k ≡ decision_at old k
decision-kept f old new d k h = ap (λ z. decision_at z k) d.extends.1 ∙ get_or_append_left old d.extends.0 (record { level = 0; low = 0; high = 0 }) k h

level-kept : (f : Function) (old new : List Decision) → Adds f old new → (r : ℕ) → IsRef old r → level_of new r ≡ level_of old r
level-kept f old new d zero h = level_of-const new 0 (omega arith) ∙ sym (level_of-const old 0 (omega arith))
level-kept f old new d (suc zero) h = level_of-const new 1 (omega arith) ∙ sym (level_of-const old 1 (omega arith))
level-kept f old new d (suc (suc k)) h = level_of-suc new k ∙ (ap (λ (z : Decision). z.level) (decision-kept f old new d k (omega arith)) ∙ sym (level_of-suc old k))

cofactor-kept : (f : Function) (old new : List Decision) → Adds f old new → (r x : ℕ) (v : Bool) → IsInner old r → cofactor new r x v ≡ cofactor old r x v
cofactor-kept f old new d r x v i =
    let h = i.held in
    let n = i.inner in
    let e = decision-kept f old new d (r - 2) (omega arith) in
    ap₂ (λ (y : ℕ) (z : Decision). cond (y == x) (cond v z.high z.low) r) (level-kept f old new d r i.held) e

side_kept : (pairs : List Pair) (side : Side) (r s t u : ℕ) → r ≡ t → s ≡ u → IsSide pairs side t u → IsSide pairs side r s
side_kept pairs side r s t u e f h = subst (λ z. IsSide pairs side z s) (sym e) (subst (IsSide pairs side t) (sym f) h)

pair_kept : (f : Function) (old new : List Decision) → Adds f old new → (a b r s : ℕ) → IsRef old a → IsRef old b → IsPairOf old a b r s → IsPairOf new a b r s
pair_kept f old new d a b r s h i p =
    let longer = no_shorter f old new d in
    let fh = p.first_inner.held in
    let sh = p.second_inner.held in
    record {
      first_inner = record { held = omega arith; inner = p.first_inner.inner };
      second_inner = record { held = omega arith; inner = p.second_inner.inner };
      bits = p.bits;
      first = λ q. ap (λ z. z q) (function-kept f old new d r fh) ∙ (p.first q ∙ sym (ap (λ z. z (after p.bits q)) (function-kept f old new d a h)));
      second = λ q. ap (λ z. z q) (function-kept f old new d s sh) ∙ (p.second q ∙ sym (ap (λ z. z (after p.bits q)) (function-kept f old new d b i)));
    }

listed_kept : (f : Function) (old new : List Decision) → Adds f old new → (a b : ℕ) (pairs : List Pair) (x : Pair) → IsRef old a → IsRef old b → IsListed old a b pairs x → IsListed new a b pairs x
listed_kept f old new d a b pairs x h i l =
    let p = l.of in
    record {
      of = pair_kept f old new d a b x.first x.second h i p;
      level = l.level ∙ sym (ap₂ min (level-kept f old new d x.first p.first_inner.held) (level-kept f old new d x.second p.second_inner.held));
      low = side_kept pairs x.low (cofactor new x.first x.level false) (cofactor new x.second x.level false) (cofactor old x.first x.level false) (cofactor old x.second x.level false)
          (cofactor-kept f old new d x.first x.level false p.first_inner) (cofactor-kept f old new d x.second x.level false p.second_inner) l.low;
      high = side_kept pairs x.high (cofactor new x.first x.level true) (cofactor new x.second x.level true) (cofactor old x.first x.level true) (cofactor old x.second x.level true)
          (cofactor-kept f old new d x.first x.level true p.first_inner) (cofactor-kept f old new d x.second x.level true p.second_inner) l.high;
    }

-- A ref of the new store that is a part of an old function is an old ref.
record IsOld (old : List Decision) (a r : ℕ) (bits : List Bool) : Type 0 where
  pub held : IsRef old r
  pub value : Same (function old r) (λ p. function old a (after bits p))

is_old : (f : Function) (old new : List Decision) → IsCanonical old → Adds f old new → (a r : ℕ) (bits : List Bool) → IsRef old a → IsRef new r → Same (function new r) (λ p. function new a (after bits p)) → IsOld old a r bits
is_old f old new c d a r bits h i e =
    let w = part_held old c a h bits in
    let s = w.0 in
    let u = w.1 in
    let held = u.held in
    let longer = no_shorter f old new d in
    let q : s ≡ r = same_ref new d.canonical s r (omega arith) i
    (λ p. ap (λ z. z p) (function-kept f old new d s held) ∙ (u.value p ∙ (sym (ap (λ z. z (after bits p)) (function-kept f old new d a h)) ∙ sym (e p)))) in
    record { held = subst (IsRef old) q held; value = subst (λ z. Same (function old z) (λ p. function old a (after bits p))) q u.value }

pub graph_kept : (f : Function) (old new : List Decision) (a b : ℕ) (pairs : List Pair) → IsCanonical old → IsRef old a → IsRef old b → Adds f old new → IsGraph old a b pairs → IsGraph new a b pairs
graph_kept f old new a b pairs c h i d g = record {
  listed = λ k l. listed_kept f old new d a b pairs (pair_at pairs k) h i (g.listed k l);
  complete = λ r s p.
      let x = is_old f old new c d a r p.bits h p.first_inner.held p.first in
      let y = is_old f old new c d b s p.bits i p.second_inner.held p.second in
      g.complete r s (record {
        first_inner = record { held = x.held; inner = p.first_inner.inner };
        second_inner = record { held = y.held; inner = p.second_inner.inner };
        bits = p.bits;
        first = x.value;
        second = y.value;
      });
  once = g.once;
  rising = g.rising;
  some = g.some;
  root = g.root;
}
