-- Levels of refs.
use Rattle.std.proofs.Common.{arith, ℕ, zero, suc, ◌≡◌, ◌-◌, ◌^◌, ◌<◌, ◌≤◌, refl, ap, ◌∙◌, List}
use Rattle.blic_store.specs.declared.decision.Decision.{Decision}
use Rattle.blic_store.specs.Diagram.{level_of, decision_at}

pub level_of-suc : (nodes : List Decision) (k : ℕ) → level_of nodes (suc (suc k)) ≡ (decision_at nodes k).level
unfolding level_of
level_of-suc nodes k = refl

pub level_of-node : (nodes : List Decision) (r : ℕ) → 2 ≤ r → level_of nodes r ≡ (decision_at nodes (r - 2)).level
level_of-node nodes r h =
    let e : r ≡ suc (suc (r - 2)) = omega arith in
    ap (level_of nodes) e ∙ level_of-suc nodes (r - 2)

pub level_of-const : (nodes : List Decision) (r : ℕ) → r < 2 → level_of nodes r ≡ 2 ^ 32
unfolding level_of
level_of-const nodes zero h = refl
level_of-const nodes (suc zero) h = refl
level_of-const nodes (suc (suc k)) h = absurd (omega arith)
