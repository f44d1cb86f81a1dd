-- Private: decisions with their levels in words: where the words rise, the levels fall.
use Rattle.std.specs.Prelude.{ℕ, ◌+◌, ◌-◌, ◌*◌, ◌%◌, List}
use Rattle.blic_store.specs.declared.decision.Decision.{Decision}
use Rattle.blic_store.specs.Diagram.{decision_at}

-- decision k and its level
unfoldable pub word_of : List Decision → ℕ → ℕ
word_of nodes k = (4294967295 - (decision_at nodes k).level) * 4294967296 + k

-- the decision's number
unfoldable pub number_in : ℕ → ℕ
number_in word = word % 4294967296
