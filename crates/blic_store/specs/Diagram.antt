-- Diagrams: a list of decisions, each after those that it leads to, and the functions that refs to them stand for.
use Rattle.std.specs.Prelude.{ℕ, zero, suc, ◌+◌, ◌-◌, ◌^◌, ◌<◌, ◌≡◌, ◌⊎◌, Bool, false, true, cond, ◌==◌, List, [], ◌∷◌, ◌++◌, fold, length, slice_index_or}
use Rattle.blic_store.specs.declared.decision.Decision.{Decision}
use Rattle.blic_store.specs.Function.{Function, choice}

-- a number that refers: 0 to false, 1 to true, and k + 2 to decision k
abbrev pub IsRef : List Decision → ℕ → Type 0
IsRef nodes r = r < length nodes + 2

-- decision k
abbrev pub decision_at : List Decision → ℕ → Decision
decision_at nodes k = slice_index_or nodes k (record { level = 0; low = 0; high = 0 })

-- the functions of the refs so far, and that of one decision more
abbrev pub add_function : List Function → Decision → List Function
add_function known d = known ++ choice d.level (slice_index_or known d.low (λ p. false)) (slice_index_or known d.high (λ p. false)) ∷ []

-- the functions of all refs: the two constants, then one for each decision
unfoldable pub functions : List Decision → List Function
functions nodes = fold add_function ((λ p. false) ∷ (λ p. true) ∷ []) nodes

-- the function that a ref stands for
unfoldable pub function : List Decision → ℕ → Function
function nodes r = slice_index_or (functions nodes) r (λ p. false)

-- the level at which a ref decides; the constants lie below all levels
unfoldable pub level_of : List Decision → ℕ → ℕ
level_of nodes zero = 2 ^ 32
level_of nodes (suc zero) = 2 ^ 32
level_of nodes (suc (suc k)) = (decision_at nodes k).level

-- where a ref that is no constant leads to, if its level's bit is 0
abbrev pub low_of : List Decision → ℕ → ℕ
low_of nodes r = (decision_at nodes (r - 2)).low

-- where it leads to, if its level's bit is 1
abbrev pub high_of : List Decision → ℕ → ℕ
high_of nodes r = (decision_at nodes (r - 2)).high

-- one of a ref's two sides
abbrev pub IsSideOf : List Decision → ℕ → ℕ → Type 0
IsSideOf nodes at r = (r ≡ low_of nodes at) ⊎ (r ≡ high_of nodes at)

-- the ref with the level's bit fixed, if the level is the ref's own; else the ref
abbrev pub cofactor : List Decision → ℕ → ℕ → Bool → ℕ
cofactor nodes r level bit = cond (level_of nodes r == level) (cond bit (high_of nodes r) (low_of nodes r)) r
