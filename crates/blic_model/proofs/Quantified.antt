-- The quantified levels of a formula mean in its circuit what they mean in the formula.
use Rattle.std.proofs.Common.{ℕ, suc, ◌≡◌, refl, sym, ◌∙◌, ap, subst, inl, inr, List, [], ◌∷◌, Bool, true, false, cond, eqb, not, ◌&&◌, ◌||◌}
use Rattle.std.specs.List.{list_any}
use mathlib.Core.Path.{ap₂, fun_ext}
use Rattle.std.proofs.lemmas.Bool.{cases_eq, cases_Bool, eqb-false, or_parts}
use Rattle.blic_model.specs.declared.node.Node.{Node}
use Rattle.blic_model.specs.declared.node.Node.TheVariants.{Fix}
use Rattle.blic_model.specs.declared.prefix.Quant.{Quant}
use Rattle.blic_model.specs.declared.prefix.Quant.TheVariants.{Exists, Forall}
use Rattle.blic_model.specs.declared.prefix.Bound.{Bound}
use Rattle.blic_model.specs.declared.formula.Lit.{Lit}
use Rattle.blic_model.specs.Value.{put}
use Rattle.blic_model.specs.Building.{Added, add_node, level_of, joined_by, stands_in, add_level, add_levels}
use Rattle.blic_model.specs.Truth.{clause_holds, matrix_holds, quantified, truth_under}
use Rattle.blic_model.proofs.Put.{put_here, put_other, put_twice, put_swap}
use Rattle.blic_model.proofs.Ordered.{AreOrdered}
use Rattle.blic_model.proofs.Adding.{Means, Gives, kept, after, reads, add_fix, add_and, add_or}
use Rattle.blic_model.proofs.Matrix.{by_level}
use Rattle.blic_model.proofs.LevelOf.{HasLevels}

unused_clause : (v : ℕ) (x : Bool) (a : ℕ → Bool) (c : List Lit) → list_any (λ l. eqb l.var v) c ≡ false
    → clause_holds (put a v x) c ≡ clause_holds a c
unused_clause v x a [] h = refl
unused_clause v x a (l ∷ ls) h =
    let w = or_parts (eqb l.var v) (list_any (λ l. eqb l.var v) ls) h in
    let e : put a v x l.var ≡ a l.var = put_other a v x l.var (eqb-false l.var v w.0) in
    ap₂ (λ p q. p || q) (ap (λ p. cond l.negative (not p) p) e) (unused_clause v x a ls w.1)

unused_matrix : (v : ℕ) (x : Bool) (a : ℕ → Bool) (cs : List (List Lit)) → stands_in v cs ≡ false → matrix_holds (put a v x) cs ≡ matrix_holds a cs
unused_matrix v x a [] h = refl
unused_matrix v x a (c ∷ cs) h =
    let w = or_parts (list_any (λ l. eqb l.var v) c) (stands_in v cs) h in
    ap₂ (λ p q. p && q) (unused_clause v x a c w.0) (unused_matrix v x a cs w.1)

unused : (v : ℕ) (x : Bool) (bs : List Bound) (cs : List (List Lit)) → stands_in v cs ≡ false → (a : ℕ → Bool)
    → truth_under bs cs (put a v x) ≡ truth_under bs cs a
unused v x [] cs h a = unused_matrix v x a cs h
unused v x (b ∷ bs) cs h a = ap₂ (quantified b.quant) (side (unused v x bs cs h) false) (side (unused v x bs cs h) true)
  where
    side : ((a : ℕ → Bool) → truth_under bs cs (put a v x) ≡ truth_under bs cs a) → (y : Bool)
        → truth_under bs cs (put (put a v x) b.var y) ≡ truth_under bs cs (put a b.var y)
    side ih y = elim (cases_eq v b.var) [
      | inl q ↦ ap (truth_under bs cs) (subst (λ w. put (put a v x) w y ≡ put a w y) q (put_twice a v x y))
      | inr ne ↦ ap (truth_under bs cs) (put_swap a v x b.var y (λ q. ne (sym q))) ∙ ih (put a b.var y)
    ]

quantified_same : (q : Quant) (x : Bool) → quantified q x x ≡ x
quantified_same Exists true = refl
quantified_same Exists false = refl
quantified_same Forall true = refl
quantified_same Forall false = refl

put_level : (prefix : List Bound) (k v : ℕ) → level_of prefix v ≡ k → ((w : ℕ) → level_of prefix w ≡ k → w ≡ v) → (a : ℕ → Bool) (x : Bool)
    → by_level prefix (put a k x) ≡ put (by_level prefix a) v x
put_level prefix k v e u a x = fun_ext (λ w. elim (cases_eq w v) [
  | inl q ↦ put_at a k x (level_of prefix w) (ap (level_of prefix) q ∙ e) ∙ sym (put_at (by_level prefix a) v x w q)
  | inr ne ↦ put_other a k x (level_of prefix w) (λ q. ne (u w q)) ∙ sym (put_other (by_level prefix a) v x w ne)
])
  where
    put_at : (s : ℕ → Bool) (y : ℕ) (t : Bool) (z : ℕ) → z ≡ y → put s y t z ≡ t
    put_at s y t z q = subst (λ z. put s y t z ≡ t) (sym q) (put_here s y t)

join_gives : (q : Quant) (nodes : List Node) (j k : ℕ) (f g : (ℕ → Bool) → Bool) → AreOrdered nodes → Means nodes j f → Means nodes k g
    → Gives nodes (add_node (joined_by q j k) nodes) (λ a. quantified q (f a) (g a))
join_gives Exists nodes j k f g o m n = add_or nodes j k f g o m n
join_gives Forall nodes j k f g o m n = add_and nodes j k f g o m n

pub level_gives : (prefix : List Bound) (clauses : List (List Lit)) (k : ℕ) (b : Bound) (bs : List Bound) → level_of prefix b.var ≡ k
    → ((v : ℕ) → level_of prefix v ≡ k → v ≡ b.var)
    → (nodes : List Node) (so_far : Added) → Gives nodes so_far (λ a. truth_under bs clauses (by_level prefix a))
    → Gives nodes (add_level k b clauses so_far) (λ a. truth_under (b ∷ bs) clauses (by_level prefix a))
unfolding add_level
level_gives prefix clauses k b bs e u nodes so_far h = elim (cases_Bool (stands_in b.var clauses)) [
  | inl t ↦ subst (λ c. Gives nodes (cond c (add_node (joined_by b.quant z.number o.number) o.nodes) so_far) (λ a. truth_under (b ∷ bs) clauses (by_level prefix a))) (sym t) there
  | inr t ↦ subst (λ c. Gives nodes (cond c (add_node (joined_by b.quant z.number o.number) o.nodes) so_far) (λ a. truth_under (b ∷ bs) clauses (by_level prefix a))) (sym t)
      (reads nodes so_far _ _ (λ a. sym (quantified_same b.quant _) ∙ ap₂ (quantified b.quant) (sym (unused b.var false bs clauses t (by_level prefix a))) (sym (unused b.var true bs clauses t (by_level prefix a)))) h)
]
  where
    z : Added
    z = add_node (Fix k false so_far.number) so_far.nodes

    o : Added
    o = add_node (Fix k true so_far.number) z.nodes

    zf : Gives so_far.nodes z (λ a. truth_under bs clauses (by_level prefix (put a k false)))
    zf = add_fix so_far.nodes k false so_far.number (λ a. truth_under bs clauses (by_level prefix a)) h.ordered h.means

    of : Gives z.nodes o (λ a. truth_under bs clauses (by_level prefix (put a k true)))
    of = add_fix z.nodes k true so_far.number (λ a. truth_under bs clauses (by_level prefix a)) zf.ordered (kept so_far.nodes z _ h.ordered zf so_far.number _ h.means)

    there : Gives nodes (add_node (joined_by b.quant z.number o.number) o.nodes) (λ a. truth_under (b ∷ bs) clauses (by_level prefix a))
    there = after nodes o _ _ _ (after nodes z o _ _ (after nodes so_far z _ _ h zf) of)
        (reads o.nodes _ _ _ (λ a. ap₂ (quantified b.quant) (ap (truth_under bs clauses) (put_level prefix k b.var e u a false)) (ap (truth_under bs clauses) (put_level prefix k b.var e u a true)))
        (join_gives b.quant o.nodes z.number o.number _ _ of.ordered (kept z.nodes o _ zf.ordered of z.number _ zf.means) of.means))

pub levels_give : (prefix : List Bound) (clauses : List (List Lit)) (k : ℕ) (bs : List Bound) → HasLevels prefix k bs
    → (nodes : List Node) (matrix : Added) → Gives nodes matrix (λ a. matrix_holds (by_level prefix a) clauses)
    → Gives nodes (add_levels k bs clauses matrix) (λ a. truth_under bs clauses (by_level prefix a))
unfolding add_levels
levels_give prefix clauses k [] l nodes matrix h = h
levels_give prefix clauses k (b ∷ bs) l nodes matrix h =
    level_gives prefix clauses k b bs l.0 l.1 nodes (add_levels (suc k) bs clauses matrix) (levels_give prefix clauses (suc k) bs l.2 nodes matrix h)
