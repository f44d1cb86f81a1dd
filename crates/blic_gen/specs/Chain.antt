-- The formula that says: each of n existential variables is the exclusive or of the one before and a universal variable.
use Rattle.std.specs.Prelude.{ℕ, ◌+◌, ◌*◌, Bool, true, false, cond, ◌==◌, ◌||◌, nat_lt, List, [], ◌∷◌, flat_map}
use Rattle.blic_model.specs.declared.prefix.Bound.{Bound}
use Rattle.blic_model.specs.declared.prefix.Quant.TheVariants.{Exists, Forall}
use Rattle.blic_model.specs.declared.formula.Lit.{Lit}
use Rattle.blic_model.specs.Formula.{PrenexFormula}
use Rattle.blic_model.specs.Circuit.{below}

abbrev pub universal : ℕ → Bound
universal v = record { quant = Forall; var = v }

abbrev pub existential : ℕ → Bound
existential v = record { quant = Exists; var = v }

abbrev pub plus : ℕ → Lit
plus v = record { var = v; negative = false }

abbrev pub minus : ℕ → Lit
minus v = record { var = v; negative = true }

-- the entries of pair k, counted from 0: a universal variable and then an existential one, but in the last pair of the false
-- formula the other way round
abbrev pub entries_of : ℕ → Bool → ℕ → List Bound
entries_of n truth k =
    cond (truth || nat_lt (k + 1) n) (universal (2 * k + 1) ∷ existential (2 * k + 2) ∷ []) (existential (2 * k + 2) ∷ universal (2 * k + 1) ∷ [])

-- e is the exclusive or of d and u
abbrev pub xor : ℕ → ℕ → ℕ → List (List Lit)
xor d u e =
    (minus d ∷ plus u ∷ plus e ∷ []) ∷ (plus d ∷ minus u ∷ plus e ∷ []) ∷ (plus d ∷ plus u ∷ minus e ∷ []) ∷ (minus d ∷ minus u ∷ minus e ∷ []) ∷ []

-- the clauses of pair k: the first existential variable is the first universal one, and a further one is the exclusive or of
-- the existential variable before and its universal one
abbrev pub link : ℕ → List (List Lit)
link k = cond (k == 0) ((minus 1 ∷ plus 2 ∷ []) ∷ (plus 1 ∷ minus 2 ∷ []) ∷ []) (xor (2 * k) (2 * k + 1) (2 * k + 2))

abbrev pub prefix_of : ℕ → Bool → List Bound
prefix_of n truth = flat_map (entries_of n truth) (below n)

abbrev pub clauses_of : ℕ → List (List Lit)
clauses_of n = flat_map link (below n)

-- the chain of n pairs of variables
unfoldable pub chain : ℕ → Bool → PrenexFormula
chain n truth = record { vars = 2 * n; prefix = prefix_of n truth; clauses = clauses_of n }
