-- A table of levels that is filled from the innermost entry on, and the levels in the steps that take them away.
use Rattle.std.proofs.Common.{◌≡◌, ◌≢◌, ℕ, suc, ◌+◌, ◌<◌, ◌≤◌, List, [], ◌∷◌, length, drop, get_or, refl, ap, sym, ◌∙◌, inl, inr, arith, Bool, true, false, not, cond}
use Rattle.std.specs.Prelude.{slice_set}
use Rattle.std.proofs.lemmas.Bool.{cases_eq, eq-eqb, ne_eqb}
use Rattle.std.proofs.lemmas.Grind.{get_or-set_at}
use Rattle.std.proofs.lemmas.List.{get_or-set_other, drop_all}
use Rattle.std.proofs.Math.Seq.{drop-cons}
use Rattle.blic_model.specs.declared.prefix.Bound.{Bound}
use Rattle.blic_model.specs.declared.node.Node.{Node}
use Rattle.blic_model.specs.declared.node.Node.TheVariants.{Fix}
use Rattle.blic_model.specs.declared.formula.Lit.{Lit}
use Rattle.blic_model.specs.Building.{Added, add_node, level_of, joined_by, stands_in, add_level, add_levels}
use Rattle.blic_circuit.proofs.Literals.{added}

level_here : (b : Bound) (inner : List Bound) (v : ℕ) → b.var ≡ v → level_of (b ∷ inner) v ≡ 0
unfolding level_of
level_here b inner v e = ap (λ t. cond (not t) (1 + level_of inner v) 0) (eq-eqb b.var v e)

level_behind : (b : Bound) (inner : List Bound) (v : ℕ) → b.var ≢ v → level_of (b ∷ inner) v ≡ 1 + level_of inner v
unfolding level_of
level_behind b inner v ne = ap (λ t. cond (not t) (1 + level_of inner v) 0) (ne_eqb b.var v ne)

-- the level of one more entry is put into the table
pub level_put : (prefix : List Bound) (levels : List ℕ) (i j n v : ℕ) (d : Bound) → i ≡ j + 1 → j < length prefix → (get_or prefix j d).var < length levels
    → get_or levels v n ≡ i + level_of (drop i prefix) v → get_or (slice_set levels (get_or prefix j d).var j) v n ≡ j + level_of (drop j prefix) v
level_put prefix levels i j n v d next inside room before =
    let b = get_or prefix j d in
    let here : suc j ≡ i = omega arith in
    let split : drop j prefix ≡ b ∷ drop i prefix = drop-cons prefix j d inside ∙ ap (λ k. b ∷ drop k prefix) here in
    elim (cases_eq v b.var) [
      | inl e ↦
          let z : level_of (drop j prefix) v ≡ 0 = ap (λ xs. level_of xs v) split ∙ level_here b (drop i prefix) v (sym e) in
          get_or-set_at levels b.var v j n e room ∙ omega arith
      | inr ne ↦
          let z : level_of (drop j prefix) v ≡ 1 + level_of (drop i prefix) v = ap (λ xs. level_of xs v) split ∙ level_behind b (drop i prefix) v (λ e. ne (sym e)) in
          get_or-set_other levels b.var v j n ne ∙ (before ∙ omega arith)
    ]

level_none : (v : ℕ) → level_of [] v ≡ 0
unfolding level_of
level_none v = refl

-- no entry is left behind the last
pub level_behind_all : (prefix : List Bound) (v : ℕ) → level_of (drop (length prefix) prefix) v ≡ 0
level_behind_all prefix v = ap (λ xs. level_of xs v) (drop_all (length prefix) prefix (omega arith)) ∙ level_none v

-- a level whose variable stands in no clause stays
pub level_skipped : (k : ℕ) (b : Bound) (clauses : List (List Lit)) (so_far : Added) (stands : Bool) → stands ≡ stands_in b.var clauses → stands ≡ false
    → so_far ≡ add_level k b clauses so_far
unfolding add_level
level_skipped k b clauses so_far stands e no' =
    let z = add_node (Fix k false so_far.number) so_far.nodes in
    let o = add_node (Fix k true so_far.number) z.nodes in
    sym (ap (λ t. cond t (add_node (joined_by b.quant z.number o.number) o.nodes) so_far) (sym e ∙ no'))

-- another is taken away
pub level_taken : (k : ℕ) (b : Bound) (clauses : List (List Lit)) (so_far taken : Added) (stands : Bool) (ns ms : List Node) (zero' one : ℕ) → stands ≡ stands_in b.var clauses → stands ≡ true
    → added ns zero' ≡ add_node (Fix k false so_far.number) so_far.nodes → added ms one ≡ add_node (Fix k true so_far.number) ns
    → taken ≡ add_node (joined_by b.quant zero' one) ms → taken ≡ add_level k b clauses so_far
unfolding add_level
level_taken k b clauses so_far taken stands ns ms zero' one e yes' low high joined =
    let z = add_node (Fix k false so_far.number) so_far.nodes in
    let o = add_node (Fix k true so_far.number) z.nodes in
    joined
    ∙ (ap (λ (w : Added). add_node (joined_by b.quant zero' w.number) w.nodes) high
    ∙ (ap (λ (v : Added). let w = add_node (Fix k true so_far.number) v.nodes in add_node (joined_by b.quant v.number w.number) w.nodes) low
    ∙ sym (ap (λ t. cond t (add_node (joined_by b.quant z.number o.number) o.nodes) so_far) (sym e ∙ yes'))))

-- one more level from the innermost on
pub levels_more : (prefix : List Bound) (clauses : List (List Lit)) (start so_far taken : Added) (i j : ℕ) (d : Bound) → i ≡ j + 1 → j < length prefix
    → so_far ≡ add_levels i (drop i prefix) clauses start → taken ≡ add_level j (get_or prefix j d) clauses so_far → taken ≡ add_levels j (drop j prefix) clauses start
unfolding add_levels
levels_more prefix clauses start so_far taken i j d next inside before step =
    let here : suc j ≡ i = omega arith in
    let split : drop j prefix ≡ get_or prefix j d ∷ drop (suc j) prefix = drop-cons prefix j d inside in
    step
    ∙ (ap (add_level j (get_or prefix j d) clauses) (before ∙ ap (λ k. add_levels k (drop k prefix) clauses start) (sym here))
    ∙ ap (λ xs. add_levels j xs clauses start) (sym split))

no_levels : (k : ℕ) (clauses : List (List Lit)) (start : Added) → start ≡ add_levels k [] clauses start
unfolding add_levels
no_levels k clauses start = refl

pub levels_start : (prefix : List Bound) (clauses : List (List Lit)) (start : Added) (k n : ℕ) → length prefix ≤ n → start ≡ add_levels k (drop n prefix) clauses start
levels_start prefix clauses start k n h = no_levels k clauses start ∙ ap (λ xs. add_levels k xs clauses start) (sym (drop_all n prefix h))
