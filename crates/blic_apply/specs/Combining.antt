-- Private: what is known of the refs that stand for combined functions.
use Rattle.std.specs.Prelude.{ℕ, ◌<◌, ◌≡◌, List, length, min, slice_index_or}
use Rattle.blic_store.specs.declared.decision.Decision.{Decision}
use Rattle.blic_store.specs.Function.{Same}
use Rattle.blic_store.specs.Diagram.{IsRef, function}
use Rattle.blic_graph.specs.declared.pair.Side.{Side}
use Rattle.blic_apply.specs.Operations.{combined}
use Rattle.blic_apply.specs.declared.operation.Op.{Op}
use Rattle.blic_apply.specs.declared.operation.Op.TheVariants.{And, Or}

-- the constant with which the other function stays itself
abbrev pub unit_of : Op → ℕ
unit_of And = 1
unit_of Or = 0

-- ref t stands for the functions of refs r and s combined
pub record IsCombined (op : Op) (nodes : List Decision) (r s t : ℕ) : Type 0 where
  pub held : IsRef nodes t
  pub value : Same (function nodes t) (combined op (function nodes r) (function nodes s))

-- t stands for r and s combined, in each list of decisions
abbrev pub IsLeaf : Op → ℕ → ℕ → ℕ → Type 0
IsLeaf op r s t = (nodes : List Decision) → IsRef nodes r → IsRef nodes s → IsCombined op nodes r s t

-- a pair that is named has a result
abbrev pub InRange : Side → List ℕ → Type 0
InRange (Side.Pair j) results = j < length results
InRange (Side.Done r s) results = min r s < 2

-- t is the result of a side
abbrev pub IsResult : Op → Side → List ℕ → ℕ → Type 0
IsResult op (Side.Pair j) results t = t ≡ slice_index_or results j 0
IsResult op (Side.Done r s) results t = IsLeaf op r s t
