-- Tables of sets of levels.
use Rattle.std.proofs.Common.{arith, ℕ, zero, suc, ◌≡◌, ◌+◌, ◌<◌, refl, sym, ◌∙◌, ap, inl, inr, List, [], ◌∷◌, length, get_or, Bool, true, false, cond, not, ◌&&◌, ◌||◌, ◌==◌, ◌⊎◌}
use Rattle.std.specs.Prelude.{slice_set}
use mathlib.Core.Path.{ap₂}
use Rattle.std.proofs.lemmas.Bool.{cases_eq, and_parts, eqb-true, ltb-true}
use Rattle.std.proofs.lemmas.List.{get_or_read, get_or-set_same, get_or-set_other}
use Rattle.blic_model.specs.declared.node.Node.{Node}
use Rattle.blic_model.specs.declared.node.Node.TheVariants.{And, Or}
use Rattle.blic_model.specs.declared.level_set.LevelSet.{LevelSet}
use Rattle.blic_model.specs.Circuit.{node_at, free_step, is_free}
use Rattle.blic_model.specs.Shape.{children_below}
use Rattle.blic_model.specs.LevelSets.{no_level, sets_at, set_where}
use Rattle.blic_model.proofs.FreeLists.{is_free_by_children}

pub length_of_sets : (marks : List Bool) (sets : List LevelSet) → length marks ≡ length sets → length (sets_at marks sets) ≡ length sets
length_of_sets [] [] e = refl
length_of_sets [] (s ∷ sets) e = absurd (omega arith)
length_of_sets (m ∷ marks) [] e = absurd (omega arith)
length_of_sets (m ∷ marks) (s ∷ sets) e = ap suc (length_of_sets marks sets (omega arith))

pub entry_of_sets : (marks : List Bool) (sets : List LevelSet) (k : ℕ) → length marks ≡ length sets → get_or (sets_at marks sets) k no_level ≡ cond (get_or marks k false) (get_or sets k no_level) no_level
entry_of_sets [] [] k e = refl
entry_of_sets [] (s ∷ sets) k e = absurd (omega arith)
entry_of_sets (m ∷ marks) [] k e = absurd (omega arith)
entry_of_sets (m ∷ marks) (s ∷ sets) zero e = refl
entry_of_sets (m ∷ marks) (s ∷ sets) (suc k) e = entry_of_sets marks sets k (omega arith)

-- a marked set is written
pub put_marked : (marks : List Bool) (sets : List LevelSet) (k : ℕ) (s : LevelSet) → length marks ≡ length sets
    → sets_at (slice_set marks k true) (slice_set sets k s) ≡ slice_set (sets_at marks sets) k s
put_marked [] [] k s e = refl
put_marked [] (t ∷ sets) k s e = absurd (omega arith)
put_marked (m ∷ marks) [] k s e = absurd (omega arith)
put_marked (m ∷ marks) (t ∷ sets) zero s e = refl
put_marked (m ∷ marks) (t ∷ sets) (suc k) s e = ap (λ ts. cond m t no_level ∷ ts) (put_marked marks sets k s (omega arith))

-- for one without a level the mark is enough
pub put_unmarked : (marks : List Bool) (sets : List LevelSet) (k : ℕ) → length marks ≡ length sets
    → sets_at (slice_set marks k false) sets ≡ slice_set (sets_at marks sets) k no_level
put_unmarked [] [] k e = refl
put_unmarked [] (t ∷ sets) k e = absurd (omega arith)
put_unmarked (m ∷ marks) [] k e = absurd (omega arith)
put_unmarked (m ∷ marks) (t ∷ sets) zero e = refl
put_unmarked (m ∷ marks) (t ∷ sets) (suc k) e = ap (λ ts. cond m t no_level ∷ ts) (put_unmarked marks sets k (omega arith))

pub sets_inside : (marks : List Bool) (sets table : List LevelSet) (k : ℕ) → sets_at marks sets ≡ table → length marks ≡ length sets → k < length table
    → (k < length marks) × (k < length sets)
sets_inside marks sets table k view e l = (omega (arith, ap length view, length_of_sets marks sets e), omega (arith, ap length view, length_of_sets marks sets e))

pub read_set : (marks : List Bool) (sets table : List LevelSet) (k : ℕ) (m : Bool) → sets_at marks sets ≡ table → length marks ≡ length sets → k < length table
    → m ≡ get_or marks k m → get_or table k no_level ≡ cond m (get_or sets k no_level) no_level
read_set marks sets table k m view e l r =
    let read : m ≡ get_or marks k false = get_or_read marks k m (sets_inside marks sets table k view e l).0 r false in
    ap (λ ts. get_or ts k no_level) (sym view) ∙ (entry_of_sets marks sets k e ∙ ap (λ b. cond b (get_or sets k no_level) no_level) (sym read))

pub read_marked : (marks : List Bool) (sets table : List LevelSet) (k : ℕ) (m : Bool) (s : LevelSet) → sets_at marks sets ≡ table → length marks ≡ length sets → k < length table
    → m ≡ get_or marks k m → m ≡ true → s ≡ get_or sets k s → s ≡ get_or table k no_level
read_marked marks sets table k m s view e l r t q =
    get_or_read sets k s (sets_inside marks sets table k view e l).1 q no_level
    ∙ sym (read_set marks sets table k m view e l r ∙ ap (λ b. cond b (get_or sets k no_level) no_level) t)

pub read_unmarked : (marks : List Bool) (sets table : List LevelSet) (k : ℕ) (m : Bool) (s : LevelSet) → sets_at marks sets ≡ table → length marks ≡ length sets → k < length table
    → m ≡ get_or marks k m → m ≡ false → s ≡ no_level → s ≡ get_or table k no_level
read_unmarked marks sets table k m s view e l r t q =
    q ∙ sym (read_set marks sets table k m view e l r ∙ ap (λ b. cond b (get_or sets k no_level) no_level) t)

pub put_some : (marks : List Bool) (sets table : List LevelSet) (k : ℕ) (b : Bool) (s : LevelSet) → sets_at marks sets ≡ table → length marks ≡ length sets → b ≡ false
    → sets_at (slice_set marks k (not b)) (slice_set sets k s) ≡ slice_set table k s
put_some marks sets table k b s view e t =
    ap (λ m. sets_at (slice_set marks k (not m)) (slice_set sets k s)) t ∙ (put_marked marks sets k s e ∙ ap (λ ts. slice_set ts k s) view)

empty_set : (s : LevelSet) → ((s.low == 0) && (s.high == 0)) ≡ true → s ≡ no_level
empty_set s e =
    let w = and_parts (s.low == 0) (s.high == 0) e in
    λ i. record { low = eqb-true s.low 0 w.0 i; high = eqb-true s.high 0 w.1 i }

pub put_none : (marks : List Bool) (sets table : List LevelSet) (k : ℕ) (b : Bool) (s : LevelSet) → sets_at marks sets ≡ table → length marks ≡ length sets
    → b ≡ ((s.low == 0) && (s.high == 0)) → b ≡ true → sets_at (slice_set marks k (not b)) sets ≡ slice_set table k s
put_none marks sets table k b s view e t f =
    ap (λ m. sets_at (slice_set marks k (not m)) sets) f
    ∙ (put_unmarked marks sets k e ∙ (ap (λ ts. slice_set ts k no_level) view ∙ ap (slice_set table k) (sym (empty_set s (sym t ∙ f)))))

-- the sets of the first nodes are those of their free levels
abbrev pub AreFilled : List Node → ℕ → ℕ → List LevelSet → Type 0
AreFilled nodes first k sets = (j : ℕ) → j < k → get_or sets j no_level ≡ set_where (is_free nodes j) first

pub fill_step : (nodes : List Node) (first k m : ℕ) (sets more : List LevelSet) (s : LevelSet) → m ≡ k + 1 → k < length sets → children_below k (node_at nodes k) ≡ true
    → AreFilled nodes first k sets → s ≡ set_where (free_step k (node_at nodes k) (is_free nodes)) first → more ≡ slice_set sets k s → AreFilled nodes first m more
fill_step nodes first k m sets more s e l h filled is put j u =
    elim (cases_eq j k) [
      | inl q ↦ ap₂ (λ ts i. get_or ts i no_level) put q
          ∙ (get_or-set_same sets k s no_level l ∙ (is ∙ (ap (λ f. set_where f first) (sym (is_free_by_children nodes k h)) ∙ ap (λ i. set_where (is_free nodes i) first) (sym q))))
      | inr ne ↦ ap (λ ts. get_or ts j no_level) put ∙ (get_or-set_other sets k j s no_level ne ∙ filled j (omega arith))
    ]

-- the set of a node from those of its two children
pub joined_sets : (node : Node) (a b : ℕ) (first : ℕ) (sets : List LevelSet) (l r s : LevelSet) → (node ≡ And a b) ⊎ (node ≡ Or a b) → l ≡ get_or sets a no_level → r ≡ get_or sets b no_level
    → ((p q : ℕ → Bool) (first : ℕ) → l ≡ set_where p first → r ≡ set_where q first → s ≡ set_where (λ x. p x || q x) first)
    → (k : ℕ) (free : ℕ → ℕ → Bool) → children_below k node ≡ true → ((j : ℕ) → j < k → get_or sets j no_level ≡ set_where (free j) first) → s ≡ set_where (free_step k node free) first
joined_sets node a b first sets l r s (inl e) el er union k free h known =
    let w = and_parts _ _ (ap (children_below k) (sym e) ∙ h) in
    union (free a) (free b) first (el ∙ known a (ltb-true a k w.0)) (er ∙ known b (ltb-true b k w.1)) ∙ ap (λ n. set_where (free_step k n free) first) (sym e)
joined_sets node a b first sets l r s (inr e) el er union k free h known =
    let w = and_parts _ _ (ap (children_below k) (sym e) ∙ h) in
    union (free a) (free b) first (el ∙ known a (ltb-true a k w.0)) (er ∙ known b (ltb-true b k w.1)) ∙ ap (λ n. set_where (free_step k n free) first) (sym e)
