-- One step up the pairs.
use Rattle.std.proofs.Common.{arith, ℕ, suc, ◌-◌, ◌^◌, ◌<◌, ◌≤◌, ◌≡◌, ◌≢◌, refl, sym, ◌∙◌, ap, subst, ◌⊎◌, inl, inr, List, length, get_or, Bool, false, true, ◌&&◌, ◌||◌, cond}
use Rattle.std.specs.Prelude.{set}
use Rattle.std.proofs.lemmas.Bool.{cases_eq, cases_lt}
use Rattle.std.proofs.lemmas.List.{get_or-set_same, get_or-set_other, length-set}
use mathlib.Core.Path.{ap₂, fun_ext}
use Rattle.blic_store.specs.declared.decision.Decision.{Decision}
use Rattle.blic_store.specs.Function.{Function, Same, choice, after, IsPart}
use Rattle.blic_store.specs.Diagram.{IsRef, cofactor, function, level_of}
use Rattle.blic_store.specs.Canonical.{IsCanonical}
use Rattle.blic_store.specs.Growth.{Diagrams, Adds, Answers}
use Rattle.blic_store.proofs.Canonical.{with_bit, with_bit-here, with_bit-other, blind}
use Rattle.blic_store.proofs.Cofactors.{IsCofactor, is_cofactor}
use Rattle.blic_store.proofs.Parts.{function-kept, no_shorter, adds_more, level_above}
use Rattle.blic_graph.specs.declared.pair.Pair.{Pair}
use Rattle.blic_graph.specs.declared.pair.Side.{Side}
use Rattle.blic_graph.specs.Pairs.{IsSide, StandsAt, IsListed, IsGraph, pair_at}
use Rattle.blic_apply.specs.declared.operation.Op.{Op}
use Rattle.blic_apply.specs.declared.operation.Op.TheVariants.{And, Or}
use Rattle.blic_apply.specs.Operations.{combined}
use Rattle.blic_apply.specs.Combining.{IsLeaf, IsResult, InRange}

-- the operation on two bits
abbrev bit_of : Op → Bool → Bool → Bool
bit_of And x y = x && y
bit_of Or x y = x || y

combined-bit : (op : Op) (f g : Function) (p : ℕ → Bool) → combined op f g p ≡ bit_of op (f p) (g p)
combined-bit And f g p = refl
combined-bit Or f g p = refl

-- What a combined function is at a point rests on the two alone.
combined_at : (op : Op) (f g h i : Function) (p q : ℕ → Bool) → f p ≡ h q → g p ≡ i q → combined op f g p ≡ combined op h i q
combined_at op f g h i p q a b = combined-bit op f g p ∙ (ap₂ (bit_of op) a b ∙ sym (combined-bit op h i q))

-- What stays the same in one call.
pub record IsCall (old : List Decision) (a b : ℕ) (pairs : List Pair) : Type 0 where
  pub canonical : IsCanonical old
  pub a_held : IsRef old a
  pub b_held : IsRef old b
  pub graph : IsGraph old a b pairs

abbrev pub whole : Op → List Decision → ℕ → ℕ → Function
whole op old a b = combined op (function old a) (function old b)

abbrev pub of_pair : Op → List Decision → Pair → Function
of_pair op old x = combined op (function old x.first) (function old x.second)

-- ref t of the new list stands for old refs r and s combined
pub record IsAnswer (op : Op) (old now : List Decision) (r s t : ℕ) : Type 0 where
  pub held : IsRef now t
  pub value : Same (function now t) (combined op (function old r) (function old s))

-- The pairs from k on have their answers in the store.
pub record IsDone (op : Op) (old now : List Decision) (pairs : List Pair) (results : List ℕ) (k : ℕ) : Type 0 where
  pub each : (j : ℕ) → k ≤ j → j < length pairs → IsAnswer op old now (pair_at pairs j).first (pair_at pairs j).second (get_or results j 0)

answer_leaf : (op : Op) (f : Function) (old now : List Decision) → Adds f old now → (r s t : ℕ) → IsRef old r → IsRef old s → IsLeaf op r s t → IsAnswer op old now r s t
answer_leaf op f old now d r s t h i leaf =
    let w = no_shorter f old now d in
    let c = leaf now (omega arith) (omega arith) in
    record {
      held = c.held;
      value = λ p. c.value p ∙ combined_at op (function now r) (function now s) (function old r) (function old s) p p
          (ap (λ z. z p) (function-kept f old now d r h)) (ap (λ z. z p) (function-kept f old now d s i));
    }

answer_side : (op : Op) (f : Function) (old now : List Decision) → Adds f old now → (pairs : List Pair) (results : List ℕ) (k : ℕ) → IsDone op old now pairs results (suc k)
    → (r s : ℕ) → IsRef old r → IsRef old s
    → (side : Side) → IsSide pairs side r s → ((j : ℕ) → StandsAt pairs j r s → k < j)
    → (t : ℕ) → IsResult op side results t → IsAnswer op old now r s t
answer_side op f old now d pairs results k done r s h i (Side.Pair j) e later t q =
    let l = later j e in
    let w = done.each j (omega arith) e.in_range in
    let same : IsAnswer op old now r s (get_or results j 0) = subst (λ z. IsAnswer op old now r z (get_or results j 0)) e.second (subst (λ z. IsAnswer op old now z (pair_at pairs j).second (get_or results j 0)) e.first w) in
    subst (IsAnswer op old now r s) (sym q) same
answer_side op f old now d pairs results k done r s h i (Side.Done u w) e later t q =
    answer_leaf op f old now d r s t h i (subst (λ z. IsLeaf op r z t) e.1 (subst (λ z. IsLeaf op z w t) e.0 q))

-- What is made of a pair at one bit of its level.
pub record IsHalf (op : Op) (old now : List Decision) (x : Pair) (v : Bool) (t : ℕ) : Type 0 where
  pub held : IsRef now t
  pub below : x.level < level_of now t
  pub value : (p : ℕ → Bool) → function now t p ≡ of_pair op old x (with_bit p x.level v)

half : (op : Op) (f : Function) (old now : List Decision) → IsCanonical old → Adds f old now → (x : Pair) (v : Bool) (r s t : ℕ) → x.level < 2 ^ 32
    → IsCofactor old x.first x.level v r → IsCofactor old x.second x.level v s → IsAnswer op old now r s t → IsHalf op old now x v t
half op f old now c d x v r s t i br bs a =
    let br_below = br.below in
    let bs_below = bs.below in
    record {
      held = a.held;
      below = level_above now d.canonical t x.level a.held i (λ p y b l.
          a.value (with_bit p y b)
          ∙ (combined_at op (function old r) (function old s) (function old r) (function old s) (with_bit p y b) p
          (blind old c r br.held p y b (omega arith)) (blind old c s bs.held p y b (omega arith)) ∙ sym (a.value p)));
      value = λ p. a.value p ∙ combined_at op (function old r) (function old s) (function old x.first) (function old x.second) p (with_bit p x.level v) (br.value p) (bs.value p);
    }

half_at : (op : Op) (old now : List Decision) (a b : ℕ) (pairs : List Pair) (results : List ℕ) (k : ℕ) → IsCall old a b pairs → Adds (whole op old a b) old now
    → IsDone op old now pairs results (suc k) → k < length pairs → (pair_at pairs k).level < 2 ^ 32 → (v : Bool) (side : Side)
    → IsSide pairs side (cofactor old (pair_at pairs k).first (pair_at pairs k).level v) (cofactor old (pair_at pairs k).second (pair_at pairs k).level v)
    → (t : ℕ) → IsResult op side results t → IsHalf op old now (pair_at pairs k) v t
half_at op old now a b pairs results k call d done h i v side e t q =
    let x = pair_at pairs k in
    let l = call.graph.listed k h in
    let level = l.level in
    let r = cofactor old x.first x.level v in
    let s = cofactor old x.second x.level v in
    let br = is_cofactor old call.canonical x.first x.level v l.of.first_inner.held l.of.first_inner.inner (omega arith) in
    let bs = is_cofactor old call.canonical x.second x.level v l.of.second_inner.held l.of.second_inner.inner (omega arith) in
    half op (whole op old a b) old now call.canonical d x v r s t i br bs
    (answer_side op (whole op old a b) old now d pairs results k done r s br.held bs.held side e (λ j w. later j w br.below bs.below (cases_lt k j)) t q)
  where
    later : (j : ℕ) → StandsAt pairs j (cofactor old (pair_at pairs k).first (pair_at pairs k).level v) (cofactor old (pair_at pairs k).second (pair_at pairs k).level v)
        → (pair_at pairs k).level < level_of old (cofactor old (pair_at pairs k).first (pair_at pairs k).level v) → (pair_at pairs k).level < level_of old (cofactor old (pair_at pairs k).second (pair_at pairs k).level v)
        → (k < j) ⊎ (j ≤ k) → k < j
    later j w br bs (inl l) = l
    later j w br bs (inr l) =
        let above = (call.graph.listed j w.in_range).level in
        let wf = ap (level_of old) w.first in
        let ws = ap (level_of old) w.second in
        elim (cases_eq j k) [
          | inl q ↦ absurd (let e : (pair_at pairs j).level ≡ (pair_at pairs k).level = ap (λ z. (pair_at pairs z).level) q in omega arith)
          | inr n ↦ absurd (let e = call.graph.rising j k (let ne : j ≢ k = n in omega arith) h in omega arith)
        ]

-- A pair's function is the choice between its halves.
with_own : (p : ℕ → Bool) (x : ℕ) (b : Bool) → p x ≡ b → with_bit p x b ≡ p
with_own p x b e = fun_ext (λ y. elim (cases_eq y x) [
  | inl q ↦ ap (with_bit p x b) q ∙ (with_bit-here p x b ∙ (sym e ∙ ap p (sym q)))
  | inr n ↦ with_bit-other p x b y n
])

choice_is : (op : Op) (old now : List Decision) (x : Pair) (low high : ℕ) → IsHalf op old now x false low → IsHalf op old now x true high
    → Same (choice x.level (function now low) (function now high)) (of_pair op old x)
choice_is op old now x low high l h p = chosen (p x.level) refl
  where
    chosen : (b : Bool) → p x.level ≡ b → choice x.level (function now low) (function now high) p ≡ of_pair op old x p
    chosen true e = ap (λ z. cond z (function now high p) (function now low p)) e ∙ (h.value p ∙ ap (of_pair op old x) (with_own p x.level true e))
    chosen false e = ap (λ z. cond z (function now high p) (function now low p)) e ∙ (l.value p ∙ ap (of_pair op old x) (with_own p x.level false e))

-- and a part of the whole.
pair_is_part : (op : Op) (old : List Decision) (a b : ℕ) (pairs : List Pair) (x : Pair) (g : Function) → IsListed old a b pairs x → Same g (of_pair op old x) → IsPart (whole op old a b) g
pair_is_part op old a b pairs x g l e =
    (l.of.bits, λ p. e p ∙ combined_at op (function old x.first) (function old x.second) (function old a) (function old b) p (after l.of.bits p) (l.of.first p) (l.of.second p))

-- An answer stays one where decisions are added.
answer_kept : (op : Op) (g : Function) (old now new : List Decision) → Adds g now new → (r s t : ℕ) → IsAnswer op old now r s t → IsAnswer op old new r s t
answer_kept op g old now new d r s t a =
    let w = no_shorter g now new d in
    let h = a.held in
    record { held = omega arith; value = λ p. ap (λ z. z p) (function-kept g now new d t h) ∙ a.value p }

-- One more pair is done.
done_more : (op : Op) (old now new : List Decision) (pairs : List Pair) (results : List ℕ) (k made : ℕ) (g : Function)
    → IsDone op old now pairs results (suc k) → Adds g now new → k < length pairs → length results ≡ length pairs → IsAnswer op old new (pair_at pairs k).first (pair_at pairs k).second made
    → IsDone op old new pairs (set results k made) k
done_more op old now new pairs results k made g done d h len a = record {
  each = λ j l m. elim (cases_eq j k) [
    | inl q ↦ subst (λ z. IsAnswer op old new (pair_at pairs z).first (pair_at pairs z).second (get_or (set results k made) z 0)) (sym q)
        (subst (IsAnswer op old new (pair_at pairs k).first (pair_at pairs k).second) (sym (get_or-set_same results k made 0 (omega arith))) a)
    | inr n ↦ subst (IsAnswer op old new (pair_at pairs j).first (pair_at pairs j).second) (sym (get_or-set_other results k j made 0 n))
        (answer_kept op g old now new d (pair_at pairs j).first (pair_at pairs j).second (get_or results j 0) (done.each j (let ne : j ≢ k = n in omega arith) m))
  ];
}

-- What is known at the start of a turn of the loop, which does pair k - 1.
pub record IsTurn (op : Op) (old now : List Decision) (a b : ℕ) (pairs : List Pair) (results : List ℕ) (k : ℕ) : Type 0 where
  pub call : IsCall old a b pairs
  pub adds : Adds (whole op old a b) old now
  pub one_each : length results ≡ length pairs
  pub in_range : k ≤ length pairs
  pub done : IsDone op old now pairs results k

-- A named pair comes later, so its result is there.
pub in_range : (op : Op) (old now : List Decision) (a b : ℕ) (pairs : List Pair) (results : List ℕ) (k : ℕ) → IsTurn op old now a b pairs results k → (r s : ℕ) (side : Side) → IsSide pairs side r s → InRange side results
in_range op old now a b pairs results k turn r s (Side.Pair j) e = let w = e.in_range in let q = turn.one_each in omega arith
in_range op old now a b pairs results k turn r s (Side.Done c d) e = e.2

-- What `make` is asked for in a turn: the choice between the halves of pair k.
pub record IsAsked (op : Op) (old now : List Decision) (pairs : List Pair) (k level low high : ℕ) : Type 0 where
  pub level_is : level ≡ (pair_at pairs k).level
  pub low_half : IsHalf op old now (pair_at pairs k) false low
  pub high_half : IsHalf op old now (pair_at pairs k) true high

abbrev pub choice_of : List Decision → ℕ → ℕ → ℕ → Function
choice_of now level low high = choice level (function now low) (function now high)

turn_half : (op : Op) (old now : List Decision) (a b : ℕ) (pairs : List Pair) (results : List ℕ) (k : ℕ) → IsTurn op old now a b pairs results (suc k) → (pair_at pairs k).level < 2 ^ 32
    → (v : Bool) (side : Side) → IsSide pairs side (cofactor old (pair_at pairs k).first (pair_at pairs k).level v) (cofactor old (pair_at pairs k).second (pair_at pairs k).level v)
    → (t : ℕ) → IsResult op side results t → IsHalf op old now (pair_at pairs k) v t
turn_half op old now a b pairs results k turn l v side i t q =
    let r = turn.in_range in
    half_at op old now a b pairs results k turn.call turn.adds turn.done (omega arith) l v side i t q

turn_asked : (op : Op) (old now : List Decision) (a b : ℕ) (pairs : List Pair) (results : List ℕ) (k level low high : ℕ) → IsTurn op old now a b pairs results (suc k) → level ≡ (pair_at pairs k).level → level < 2 ^ 32
    → IsResult op (pair_at pairs k).low results low → IsResult op (pair_at pairs k).high results high → IsAsked op old now pairs k level low high
turn_asked op old now a b pairs results k level low high turn e l rl rh =
    let range = turn.in_range in
    let listed = turn.call.graph.listed k (omega arith) in
    record {
      level_is = e;
      low_half = turn_half op old now a b pairs results k turn (omega arith) false (pair_at pairs k).low listed.low low rl;
      high_half = turn_half op old now a b pairs results k turn (omega arith) true (pair_at pairs k).high listed.high high rh;
    }

-- The same in the turn's own terms: n is the number of pairs to do, and the sides and the results are what was read of them.
pub asked : (op : Op) (old now : List Decision) (a b : ℕ) (pairs : List Pair) (results : List ℕ) (n level low high : ℕ) → IsTurn op old now a b pairs results n → n ≢ 0 → level ≡ (pair_at pairs (n - 1)).level → level < 2 ^ 32
    → (side : Side) (read : List ℕ) → side ≡ (pair_at pairs (n - 1)).low → read ≡ results → IsResult op side read low
    → (side : Side) (read : List ℕ) → side ≡ (pair_at pairs (n - 1)).high → read ≡ results → IsResult op side read high
    → IsAsked op old now pairs (n - 1) level low high
asked op old now a b pairs results n level low high turn ne e l s xs es ex rl t ys et ey rh =
    turn_asked op old now a b pairs results (n - 1) level low high
    (subst (IsTurn op old now a b pairs results) (let w : n ≡ suc (n - 1) = omega arith in w) turn) e l
    (subst (λ z. IsResult op z results low) es (subst (λ z. IsResult op s z low) ex rl))
    (subst (λ z. IsResult op z results high) et (subst (λ z. IsResult op t z high) ey rh))

asked_is : (op : Op) (old now : List Decision) (pairs : List Pair) (k level low high : ℕ) → IsAsked op old now pairs k level low high → Same (choice_of now level low high) (of_pair op old (pair_at pairs k))
asked_is op old now pairs k level low high w p =
    ap (λ z. choice_of now z low high p) w.level_is ∙ choice_is op old now (pair_at pairs k) low high w.low_half w.high_half p

-- What the store adds in a turn are parts of the whole, also where `make` found it full.
pub turn_adds : (op : Op) (old now new : List Decision) (a b : ℕ) (pairs : List Pair) (results : List ℕ) (n level low high : ℕ) → IsTurn op old now a b pairs results n → n ≢ 0
    → IsAsked op old now pairs (n - 1) level low high → Adds (choice_of now level low high) now new → Adds (whole op old a b) old new
turn_adds op old now new a b pairs results n level low high turn ne w d =
    let r = turn.in_range in
    adds_more (whole op old a b) (choice_of now level low high) old now new turn.adds
    (pair_is_part op old a b pairs (pair_at pairs (n - 1)) (choice_of now level low high) (turn.call.graph.listed (n - 1) (omega arith)) (asked_is op old now pairs (n - 1) level low high w)) d

-- The next turn.
pub turn_next : (op : Op) (old : List Decision) (now new : Diagrams) (a b : ℕ) (pairs : List Pair) (results : List ℕ) (n level low high made : ℕ) → IsTurn op old now.nodes a b pairs results n → n ≢ 0
    → IsAsked op old now.nodes pairs (n - 1) level low high → Answers (choice_of now.nodes level low high) now new made → IsTurn op old new.nodes a b pairs (set results (n - 1) made) (n - 1)
turn_next op old now new a b pairs results n level low high made turn ne w r =
    let range = turn.in_range in
    record {
      call = turn.call;
      adds = turn_adds op old now.nodes new.nodes a b pairs results n level low high turn ne w r.adds;
      one_each = length-set results (n - 1) made ∙ turn.one_each;
      in_range = omega arith;
      done = done_more op old now.nodes new.nodes pairs results (n - 1) made (choice_of now.nodes level low high) (subst (IsDone op old now.nodes pairs results) (let q : n ≡ suc (n - 1) = omega arith in q) turn.done)
          r.adds (omega arith) turn.one_each (record { held = r.held; value = λ p. r.value p ∙ asked_is op old now.nodes pairs (n - 1) level low high w p });
    }
