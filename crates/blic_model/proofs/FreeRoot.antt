-- No level is free in the root of a formula's circuit.
use Rattle.std.proofs.Common.{arith, ℕ, suc, ◌≡◌, ◌+◌, ◌<◌, refl, sym, ◌∙◌, ap, subst, inl, inr, List, [], ◌∷◌, length, get_or, true, false, cond, eqb}
use Rattle.std.specs.Prelude.{All}
use Rattle.std.specs.List.{list_all, list_any}
use Rattle.std.proofs.lemmas.Bool.{cases_Bool, eq-eqb, eqb-false, false≢true}
use Rattle.std.proofs.lemmas.List.Folds.{list_any_at}
use Rattle.std.proofs.lemmas.List.Sums.{AllPass-from_list_all}
use Rattle.blic_model.specs.declared.node.Node.TheVariants.{Fix}
use Rattle.blic_model.specs.declared.prefix.Quant.{Quant}
use Rattle.blic_model.specs.declared.prefix.Quant.TheVariants.{Exists, Forall}
use Rattle.blic_model.specs.declared.prefix.Bound.{Bound}
use Rattle.blic_model.specs.declared.formula.Lit.{Lit}
use Rattle.blic_model.specs.Formula.{PrenexFormula}
use Rattle.blic_model.specs.Circuit.{is_free}
use Rattle.blic_model.specs.Value.{holds_step, holds}
use Rattle.blic_model.specs.Building.{Added, add_node, level_of, add_matrix, joined_by, stands_in, add_level, add_levels, nodes_of}
use Rattle.blic_model.specs.Limits.{is_bound, is_closed}
use Rattle.blic_model.specs.Truth.{matrix_holds}
use Rattle.blic_model.proofs.Ordered.{AreOrdered}
use Rattle.blic_model.proofs.Adding.{Gives, longer, add_gives}
use Rattle.blic_model.proofs.Matrix.{by_level, matrix_gives}
use Rattle.blic_model.proofs.Quantified.{levels_give}
use Rattle.blic_model.proofs.LevelOf.{VarsDiffer, HasLevels, has_levels, level_below}
use Rattle.blic_model.proofs.FreeLevels.{HasFreeIn, LevelIn, free_still, fix_free, and_free, or_free, matrix_free}

-- x is below k, and the level of a variable that stands in a clause
abbrev pub Stands : List Bound → List (List Lit) → ℕ → ℕ → Type 0
Stands prefix clauses k x = (x < k) × (v : ℕ) × (stands_in v clauses ≡ true) × (level_of prefix v ≡ x)

level_free : (prefix : List Bound) (clauses : List (List Lit)) (k : ℕ) (b : Bound) → ((v : ℕ) → level_of prefix v ≡ k → v ≡ b.var) → (so_far : Added)
    → AreOrdered so_far.nodes → so_far.number < length so_far.nodes
    → HasFreeIn (Stands prefix clauses (suc k)) so_far → HasFreeIn (Stands prefix clauses k) (add_level k b clauses so_far)
unfolding add_level
level_free prefix clauses k b u so_far so l t = elim (cases_Bool (stands_in b.var clauses)) [
  | inl q ↦ subst (λ c. HasFreeIn (Stands prefix clauses k) (cond c (add_node (joined_by b.quant z.number o.number) o.nodes) so_far)) (sym q) (join b.quant)
  | inr q ↦ subst (λ c. HasFreeIn (Stands prefix clauses k) (cond c (add_node (joined_by b.quant z.number o.number) o.nodes) so_far)) (sym q) (unused q)
]
  where
    z : Added
    z = add_node (Fix k false so_far.number) so_far.nodes

    o : Added
    o = add_node (Fix k true so_far.number) z.nodes

    zg : Gives so_far.nodes z (λ a. holds_step 0 (Fix k false so_far.number) (holds so_far.nodes) a)
    zg = add_gives (Fix k false so_far.number) so_far.nodes so l

    inside : so_far.number < length z.nodes
    inside = omega (arith, l, longer so_far.nodes z _ zg)

    og : Gives z.nodes o (λ a. holds_step 0 (Fix k true so_far.number) (holds z.nodes) a)
    og = add_gives (Fix k true so_far.number) z.nodes zg.ordered inside

    before : z.number < length o.nodes
    before = omega (arith, zg.means.0, longer z.nodes o _ og)

    lower : (x : ℕ) → Stands prefix clauses (suc k) x → (x ≡ k → ⊥) → Stands prefix clauses k x
    lower x s n = let m : x < suc k = s.0 in (omega arith, s.1, s.2, s.3)

    zf : HasFreeIn (Stands prefix clauses k) z
    zf x e = let w = fix_free (Stands prefix clauses (suc k)) k false so_far.number so_far.nodes so l t x e in lower x w.0 (eqb-false x k w.1)

    of : HasFreeIn (Stands prefix clauses k) o
    of x e = let w = fix_free (Stands prefix clauses (suc k)) k true so_far.number z.nodes zg.ordered inside (free_still (Stands prefix clauses (suc k)) so_far.nodes z _ so zg so_far.number l t) x e in lower x w.0 (eqb-false x k w.1)

    join : (q : Quant) → HasFreeIn (Stands prefix clauses k) (add_node (joined_by q z.number o.number) o.nodes)
    join Exists = or_free (Stands prefix clauses k) z.number o.number o.nodes og.ordered before og.means.0 (free_still (Stands prefix clauses k) z.nodes o _ zg.ordered og z.number zg.means.0 zf) of
    join Forall = and_free (Stands prefix clauses k) z.number o.number o.nodes og.ordered before og.means.0 (free_still (Stands prefix clauses k) z.nodes o _ zg.ordered og z.number zg.means.0 zf) of

    unused : stands_in b.var clauses ≡ false → HasFreeIn (Stands prefix clauses k) so_far
    unused q x e =
        let s = t x e in
        lower x s (λ (w : x ≡ k). false≢true (sym q ∙ (ap (λ v. stands_in v clauses) (sym (u s.1 (s.3 ∙ w))) ∙ s.2)))

levels_free : (prefix : List Bound) (clauses : List (List Lit)) (k : ℕ) (bs : List Bound) → k + length bs ≡ length prefix → HasLevels prefix k bs
    → (matrix : Added)
    → Gives [] matrix (λ a. matrix_holds (by_level prefix a) clauses) → HasFreeIn (Stands prefix clauses (length prefix)) matrix
    → HasFreeIn (Stands prefix clauses k) (add_levels k bs clauses matrix)
unfolding add_levels
levels_free prefix clauses k [] e l matrix h t =
    let q : length prefix ≡ k = omega arith in subst (λ n. HasFreeIn (Stands prefix clauses n) matrix) q t
levels_free prefix clauses k (b ∷ bs) e l matrix h t =
    let g = levels_give prefix clauses (suc k) bs l.2 [] matrix h in
    level_free prefix clauses k b l.1 (add_levels (suc k) bs clauses matrix) g.ordered g.means.0 (levels_free prefix clauses (suc k) bs (omega arith) l.2 matrix h t)

-- the levels of a closed formula's literals are those of the prefix
pub levels_stand : (prefix : List Bound) (clauses : List (List Lit)) → is_closed prefix clauses ≡ true
    → All (All (LevelIn (Stands prefix clauses (length prefix)) prefix)) clauses
levels_stand prefix clauses h i c li j d lj =
    let v = (get_or (get_or clauses i c) j d).var in (
      level_below prefix v (AllPass-from_list_all (λ l. is_bound prefix l.var) (get_or clauses i c) (AllPass-from_list_all (list_all (λ l. is_bound prefix l.var)) clauses h i c li) j d lj),
      v,
      list_any_at (list_any (λ l. eqb l.var v)) clauses i c li (list_any_at (λ l. eqb l.var v) (get_or clauses i c) j d lj (eq-eqb v v refl)),
      refl,
    )

pub nothing_free : (f : PrenexFormula) → VarsDiffer f.prefix → is_closed f.prefix f.clauses ≡ true → (x : ℕ)
    → is_free (nodes_of f).nodes (nodes_of f).number x ≡ false
unfolding nodes_of
nothing_free f d c x = elim (cases_Bool (is_free (nodes_of f).nodes (nodes_of f).number x)) [ inl e ↦ absurd (none e) | inr e ↦ e ]
  where
    empty : AreOrdered []
    empty k l = absurd (omega arith)

    t : HasFreeIn (Stands f.prefix f.clauses 0) (nodes_of f)
    t = levels_free f.prefix f.clauses 0 f.prefix (omega arith) (has_levels f.prefix d (length f.prefix) 0 (omega arith)) (add_matrix f.prefix (length f.clauses) [] f.clauses)
        (matrix_gives f.prefix (length f.clauses) [] f.clauses (omega arith) empty)
        (matrix_free (Stands f.prefix f.clauses (length f.prefix)) f.prefix (length f.clauses) [] f.clauses (omega arith) empty (levels_stand f.prefix f.clauses c))

    none : is_free (nodes_of f).nodes (nodes_of f).number x ≡ true → ⊥
    none e = let w : x < 0 = (t x e).0 in omega arith
