-- Private: lists of levels that stand in one list; only the free levels of circuits are stored so.
use Rattle.std.specs.Prelude.{ℕ, ◌-◌, ◌≤◌, cond, not, ◌==◌, nat_lt, List, [], ◌∷◌, take, drop, filter, length, map, slice_index_or}
use Rattle.blic_model.specs.declared.node.Node.{Node}
use Rattle.blic_model.specs.declared.node.Node.TheVariants.{Const, Var, Not, Fix, And, Or}
use Rattle.blic_model.specs.Circuit.{below, free}

-- the elements from one place to another
unfoldable pub stretch : List ℕ → ℕ → ℕ → List ℕ
stretch levels start end = take (end - start) (drop start levels)

-- the level stands in the list at most once
abbrev pub StandsOnce : ℕ → List ℕ → Type 0
StandsOnce level levels = length (filter (λ x. x == level) levels) ≤ 1

-- the number is put into a rising list, before what the rest is joined to
abbrev pub put_in : ℕ → (List ℕ → List ℕ) → List ℕ → List ℕ
put_in x rest [] = x ∷ rest []
put_in x rest (y ∷ ys) = cond (nat_lt x y) (x ∷ rest (y ∷ ys)) (cond (nat_lt y x) (y ∷ put_in x rest ys) (x ∷ rest ys))

-- two rising lists in one, in which what both have stands once
abbrev pub merged : List ℕ → List ℕ → List ℕ
merged [] ys = ys
merged (x ∷ xs) ys = put_in x (merged xs) ys

-- a node's free levels from those of the nodes before it
abbrev pub free_entry : Node → List (List ℕ) → List ℕ
free_entry (Const b) lists = []
free_entry (Var x) lists = x ∷ []
free_entry (Not a) lists = slice_index_or lists a []
free_entry (Fix y b a) lists = filter (λ x. not (x == y)) (slice_index_or lists a [])
free_entry (And a b) lists = merged (slice_index_or lists a []) (slice_index_or lists b [])
free_entry (Or a b) lists = merged (slice_index_or lists a []) (slice_index_or lists b [])

-- the free levels of each of the first nodes
abbrev pub free_lists : List Node → ℕ → ℕ → List (List ℕ)
free_lists nodes levels count = map (free nodes levels) (below count)
