-- The values and polynomials of circuits are those of their nodes' functions.
use Rattle.std.proofs.Common.{arith, ℕ, zero, suc, ◌≡◌, ◌+◌, ◌<◌, ◌≤◌, refl, sym, ◌∙◌, ap, subst, ◌⊎◌, inl, inr, List, [], ◌∷◌, ◌++◌, length, get_or, take, Bool, true, false, cond, eqb}
use Rattle.std.specs.Prelude.{fold, filter}
use mathlib.Core.Path.{ap₂, fun_ext}
use Rattle.std.proofs.lemmas.Bool.{cases_eq, cases_lt, cases_Bool, false≢true}
use Rattle.std.proofs.lemmas.List.{get_or_append_left, get_or_push, length-append, take-append-le}
use Rattle.std.proofs.Math.Seq.{take-append_seam}
use Rattle.std.proofs.lemmas.List.Elements.{filter-append}
use Rattle.std.proofs.lemmas.List.Sums.{fold-append}
use Rattle.blic_field.specs.Field.{modulus, minus_one, add, mul, blend}
use Rattle.blic_field.specs.Quadratic.{interpolate}
use Rattle.blic_field.proofs.Ring.{ring, mul_below, or_below}
use Rattle.blic_model.specs.declared.node.Node.{Node}
use Rattle.blic_model.specs.declared.node.Node.TheVariants.{Const, Var, Not, Fix, And, Or}
use Rattle.blic_model.specs.Circuit.{below, free, is_free, node_at}
use Rattle.blic_model.specs.Degree.{IsLinear, IsPoint}
use Rattle.blic_model.specs.Shape.{IsShaped}
use Rattle.blic_model.specs.Reduction.{combined, part, poly}
use Rattle.blic_model.specs.Value.{Point, put, bit, holds, linearize, value}
use Rattle.blic_model.proofs.Put.{put_here, put_other, put_own, IsPoint-put}
use Rattle.blic_model.proofs.Degrees.{Ignores, linearize-def}
use Rattle.blic_model.proofs.Ordered.{AllOrdered, ordered_all}
use Rattle.blic_model.proofs.LinearValues.{value_linear}
use Rattle.blic_model.proofs.BitPoints.{value_holds}
use Rattle.blic_model.proofs.Depends.{value_depends, part_depends}
use Rattle.blic_model.proofs.Reduced.{part_none}
use Rattle.blic_model.proofs.Shaped.{ordered_of}
use Rattle.blic_store.specs.Function.{Function, Same}
use Rattle.blic_apply.specs.declared.operation.Op.{Op}
use Rattle.blic_eval.specs.Extension.{bits_of, extension, joined, joined_poly}
use Rattle.blic_eval.proofs.FreeBelow.{free_below_levels}
use Rattle.blic_eval.proofs.Linearized.{AllBelow, reduced, reduced-none, reduced-more, AllBelow-reduced, linearize_ignored, Ignores-reduced, reduced_agree}
use Rattle.blic_eval.proofs.Extensions.{at_bits, extension-def}

-- A function that is linear in a level is made linear there by itself.
on_line : (a b t : ℕ) → blend t (add a (mul b 0)) (add a (mul b 1)) ≡ add a (mul b t)
on_line a b t = simp ring (omega arith)

linear_own : (f : Point → ℕ) (x : ℕ) → IsLinear f x → (s : Point) → IsPoint s → linearize f x s ≡ f s
linear_own f x h s p =
    let w = h s p in
    linearize-def f x s
    ∙ (ap₂ (blend (s x)) (w.2 0 (omega arith)) (w.2 1 (omega arith))
    ∙ (on_line w.0 w.1 (s x)
    ∙ (sym (w.2 (s x) (p x)) ∙ ap f (put_own s x (s x) refl))))

reduced_own : (f : Point → ℕ) (n : ℕ) → ((x : ℕ) → x < n → IsLinear f x) → (s : Point) → IsPoint s → reduced f n s ≡ f s
reduced_own f zero h s p = ap (λ z. z s) (reduced-none f)
reduced_own f (suc n) h s p =
    ap (λ z. z s) (reduced-more f n)
    ∙ (linearize-def (reduced f n) n s
    ∙ (ap₂ (blend (s n)) (reduced_own f n (λ x l. h x (omega arith)) (put s n 0) (IsPoint-put s n 0 p (omega arith)))
    (reduced_own f n (λ x l. h x (omega arith)) (put s n 1) (IsPoint-put s n 1 p (omega arith)))
    ∙ (sym (linearize-def f n s) ∙ linear_own f n (h n (omega arith)) s p)))

-- the levels below n are bits
abbrev HasBits : Point → ℕ → Type 0
HasBits s n = (x : ℕ) → x < n → s x ≡ bit (bits_of s x)

-- Only where the levels below n are bits do the values of what is made linear matter.
reduced_from_bits : (f g : Point → ℕ) (levels n m : ℕ) → n + m ≡ levels → ((s : Point) → IsPoint s → HasBits s levels → f s ≡ g s) → (s : Point) → IsPoint s
    → ((x : ℕ) → n ≤ x → x < levels → s x ≡ bit (bits_of s x)) → reduced f n s ≡ reduced g n s
reduced_from_bits f g levels zero m e h s p b = ap (λ z. z s) (reduced-none f) ∙ (h s p (λ x l. b x (omega arith) l) ∙ sym (ap (λ z. z s) (reduced-none g)))
reduced_from_bits f g levels (suc n) m e h s p b =
    ap (λ z. z s) (reduced-more f n)
    ∙ (linearize-def (reduced f n) n s
    ∙ (ap₂ (blend (s n))
    (reduced_from_bits f g levels n (suc m) (omega arith) h (put s n 0) (IsPoint-put s n 0 p (omega arith)) (λ x l k. put_bit s n x false (λ q. b x (omega arith) k)))
    (reduced_from_bits f g levels n (suc m) (omega arith) h (put s n 1) (IsPoint-put s n 1 p (omega arith)) (λ x l k. put_bit s n x true (λ q. b x (omega arith) k)))
    ∙ sym (ap (λ z. z s) (reduced-more g n) ∙ linearize-def (reduced g n) n s)))
  where
    bit_self : (c : Bool) → bit c ≡ bit (eqb (bit c) 1)
    bit_self true = refl
    bit_self false = refl

    put_bit : (s : Point) (n x : ℕ) (c : Bool) → ((x ≡ n → ⊥) → s x ≡ bit (bits_of s x)) → put s n (bit c) x ≡ bit (bits_of (put s n (bit c)) x)
    put_bit s n x c h = elim (cases_eq x n) [
      | inl q ↦ subst (λ z. put s n (bit c) z ≡ bit (bits_of (put s n (bit c)) z)) (sym q) (subst (λ z. z ≡ bit (eqb z 1)) (sym (put_here s n (bit c))) (bit_self c))
      | inr q ↦ subst (λ z. z ≡ bit (eqb z 1)) (sym (put_other s n (bit c) x q)) (h q)
    ]

-- At bits a node's value is its function's bit.
value_at_bits : (nodes : List Node) (levels : ℕ) → IsShaped nodes levels → (k : ℕ) (s : Point) → HasBits s levels → value nodes levels k s ≡ at_bits (holds nodes k) s
value_at_bits nodes levels h k s b =
    let o = ordered_all nodes (ordered_of nodes levels h) in
    value_depends nodes levels o k s (λ x. bit (bits_of s x)) (λ x e. b x (free_below_levels nodes levels h x k e))
    ∙ value_holds nodes levels o k (bits_of s)

-- The value of a node is the extension of its function.
pub value_extension : (nodes : List Node) (levels : ℕ) → IsShaped nodes levels → (k : ℕ) (s : Point) → IsPoint s → value nodes levels k s ≡ extension (holds nodes k) levels s
value_extension nodes levels h k s p =
    let o = ordered_all nodes (ordered_of nodes levels h) in
    sym (reduced_own (value nodes levels k) levels (λ x l. value_linear nodes levels o x l k) s p)
    ∙ (reduced_from_bits (value nodes levels k) (at_bits (holds nodes k)) levels levels 0 (omega arith) (λ r q b. value_at_bits nodes levels h k r b) s p (λ x l m. absurd (omega arith))
    ∙ sym (ap (λ u. u s) (extension-def (holds nodes k) levels)))

-- the levels that pass a test

filter_one : (test : ℕ → Bool) (n : ℕ) (c : Bool) → test n ≡ c → filter test (n ∷ []) ≡ cond c (n ∷ []) []
filter_one test n c e = rw e refl

filter_below : (test : ℕ → Bool) (n : ℕ) (c : Bool) → test n ≡ c → filter test (below (suc n)) ≡ filter test (below n) ++ cond c (n ∷ []) []
unfolding below
filter_below test n c e = filter-append test (below n) (n ∷ []) ∙ ap (λ ys. filter test (below n) ++ ys) (filter_one test n c e)

filter_none : (test : ℕ → Bool) → filter test (below zero) ≡ []
unfolding below
filter_none test = refl

-- Levels on which a function doesn't depend need not be made linear.
reduced_filter : (f : Point → ℕ) (test : ℕ → Bool) → AllBelow f → ((x : ℕ) → test x ≡ false → Ignores f x) → (n : ℕ) → fold linearize f (filter test (below n)) ≡ reduced f n
reduced_filter f test h i zero = ap (fold linearize f) (filter_none test) ∙ sym (reduced-none f)
reduced_filter f test h i (suc n) = elim (cases_Bool (test n)) [
  | inl e ↦ ap (fold linearize f) (filter_below test n true e)
      ∙ (fold-append linearize f (filter test (below n)) (n ∷ [])
      ∙ (ap (λ g. linearize g n) (reduced_filter f test h i n) ∙ sym (reduced-more f n)))
  | inr e ↦ ap (fold linearize f) (filter_below test n false e)
      ∙ (fold-append linearize f (filter test (below n)) []
      ∙ (reduced_filter f test h i n
      ∙ (sym (linearize_ignored (reduced f n) n (AllBelow-reduced f n h) (Ignores-reduced f n n h (i n e))) ∙ sym (reduced-more f n))))
]

-- The levels that pass, up to one of them.
take_filter : (test : ℕ → Bool) (n j : ℕ) → j < length (filter test (below n)) → take j (filter test (below n)) ≡ filter test (below (get_or (filter test (below n)) j 0))
take_filter test zero j l = absurd (let e = ap length (filter_none test) in omega arith)
take_filter test (suc n) j l = go (test n) refl (cases_lt j (length (filter test (below n)))) (take_filter test n j)
  where
    go : (c : Bool) → test n ≡ c → (j < length (filter test (below n))) ⊎ (length (filter test (below n)) ≤ j)
        → (j < length (filter test (below n)) → take j (filter test (below n)) ≡ filter test (below (get_or (filter test (below n)) j 0)))
        → take j (filter test (below (suc n))) ≡ filter test (below (get_or (filter test (below (suc n))) j 0))
    go c e (inl m) before =
        let w = filter_below test n c e in
        ap (take j) w
        ∙ (take-append-le j (filter test (below n)) (cond c (n ∷ []) []) (omega arith)
        ∙ (before m
        ∙ sym (ap (λ z. filter test (below z)) (ap (λ ys. get_or ys j 0) w ∙ get_or_append_left (filter test (below n)) (cond c (n ∷ []) []) 0 j m))))
    go false e (inr m) before =
        absurd (let w = ap length (filter_below test n false e) in let v = length-append (filter test (below n)) [] in omega arith)
    go true e (inr m) before =
        let w = filter_below test n true e in
        let v = length-append (filter test (below n)) (n ∷ []) in
        let u = ap length w in
        let q : length (filter test (below n)) ≡ j = omega arith in
        ap (take j) w
        ∙ (ap (λ z. take z (filter test (below n) ++ n ∷ [])) (sym q)
        ∙ (take-append_seam (filter test (below n)) (n ∷ [])
        ∙ sym (ap (λ z. filter test (below z)) (ap (λ ys. get_or ys j 0) w ∙ get_or_push (filter test (below n)) n 0 j q))))

combined_below : (m : Node) (values : ℕ → Point → ℕ) → AllBelow (combined m values)
combined_below (Const b) values s = omega arith
combined_below (Var x) values s = omega arith
combined_below (Not a) values s = omega arith
combined_below (Fix x b a) values s = omega arith
combined_below (And a b) values s = mul_below _ _
combined_below (Or a b) values s = or_below _ _

Ignores-combined : (nodes : List Node) (levels : ℕ) → AllOrdered nodes → (k x : ℕ) → is_free nodes k x ≡ false → Ignores (combined (node_at nodes k) (value nodes levels)) x
Ignores-combined nodes levels o k x e s t =
    sym (part_none nodes levels k (put s x t))
    ∙ (part_depends nodes levels o k 0 (put s x t) s (λ y f. put_other s x t y (λ q. false≢true (sym e ∙ (ap (is_free nodes k) (sym q) ∙ f))))
    ∙ part_none nodes levels k s)

-- The part with the first free levels made linear is made linear in all levels above the next one.
part_reduced : (nodes : List Node) (levels : ℕ) → AllOrdered nodes → (k j : ℕ) → j < length (free nodes levels k)
    → part nodes levels k j ≡ reduced (combined (node_at nodes k) (value nodes levels)) (get_or (free nodes levels k) j 0)
unfolding part free
part_reduced nodes levels o k j l =
    ap (fold linearize (combined (node_at nodes k) (value nodes levels))) (take_filter (is_free nodes k) levels j l)
    ∙ reduced_filter (combined (node_at nodes k) (value nodes levels)) (is_free nodes k) (combined_below (node_at nodes k) (value nodes levels))
    (Ignores-combined nodes levels o k) (get_or (filter (is_free nodes k) (below levels)) j 0)

same_poly : (f g : ℕ → ℕ) → ((t : ℕ) → t < modulus → f t ≡ g t) → interpolate f ≡ interpolate g
unfolding interpolate
same_poly f g h = rw (h 0 (omega arith), h 1 (omega arith), h minus_one (omega arith)) refl

-- the node's operands are a and b, joined by op
abbrev IsJoin : Node → Op → ℕ → ℕ → Type 0
IsJoin m op a b = (values : ℕ → Point → ℕ) (s : Point) → combined m values s ≡ joined op (values a s) (values b s)

-- The polynomial of a binary node is that of its operands' functions joined.
joined_node : (nodes : List Node) (levels : ℕ) → IsShaped nodes levels → (op : Op) (k a b j : ℕ) → IsJoin (node_at nodes k) op a b → j < length (free nodes levels k)
    → (s : Point) → IsPoint s → poly nodes levels k j s ≡ joined_poly op (holds nodes a) (holds nodes b) levels (get_or (free nodes levels k) j 0) s
unfolding poly joined_poly
joined_node nodes levels h op k a b j e l s p =
    let o = ordered_all nodes (ordered_of nodes levels h) in
    let x = get_or (free nodes levels k) j 0 in
    same_poly (λ t. part nodes levels k j (put s x t)) (λ t. reduced (λ r. joined op (extension (holds nodes a) levels r) (extension (holds nodes b) levels r)) x (put s x t)) (λ t m.
    ap (λ u. u (put s x t)) (part_reduced nodes levels o k j l)
    ∙ reduced_agree (combined (node_at nodes k) (value nodes levels)) (λ r. joined op (extension (holds nodes a) levels r) (extension (holds nodes b) levels r)) x
    (λ r q. e (value nodes levels) r ∙ ap₂ (joined op) (value_extension nodes levels h a r q) (value_extension nodes levels h b r q)) (put s x t) (IsPoint-put s x t p m))

pub conjunction : (nodes : List Node) (levels : ℕ) → IsShaped nodes levels → (k a b j : ℕ) → node_at nodes k ≡ And a b → j < length (free nodes levels k)
    → (s : Point) → IsPoint s → poly nodes levels k j s ≡ joined_poly Op.And (holds nodes a) (holds nodes b) levels (get_or (free nodes levels k) j 0) s
conjunction nodes levels h k a b j e = joined_node nodes levels h Op.And k a b j (λ values s. ap (λ m. combined m values s) e)

pub disjunction : (nodes : List Node) (levels : ℕ) → IsShaped nodes levels → (k a b j : ℕ) → node_at nodes k ≡ Or a b → j < length (free nodes levels k)
    → (s : Point) → IsPoint s → poly nodes levels k j s ≡ joined_poly Op.Or (holds nodes a) (holds nodes b) levels (get_or (free nodes levels k) j 0) s
disjunction nodes levels h k a b j e = joined_node nodes levels h Op.Or k a b j (λ values s. ap (λ m. combined m values s) e)

-- Equal functions give one polynomial.
pub same_joined : (op : Op) (f g h i : Function) → Same f h → Same g i → (levels level : ℕ) (s : Point) → joined_poly op f g levels level s ≡ joined_poly op h i levels level s
same_joined op f g h i e d levels level s = ap₂ (λ u w. joined_poly op u w levels level s) (fun_ext e) (fun_ext d)
