-- What a store shows, how it grows when a function is made in it, and when that passes its limit.
use Rattle.std.specs.Prelude.{ℕ, ◌+◌, ◌<◌, ◌≤◌, ◌≡◌, List, ◌++◌, length}
use Rattle.blic_store.specs.declared.decision.Decision.{Decision}
use Rattle.blic_store.specs.Function.{Function, Same, IsPart}
use Rattle.blic_store.specs.Diagram.{IsRef, function}
use Rattle.blic_store.specs.Canonical.{IsCanonical}

-- a store as contracts see it: its decisions, and how many it may hold
pub record Diagrams : Type 0 where
  pub nodes : List Decision
  pub limit : ℕ

-- the new list is canonical and begins with the old one, and each decision that was added stands for a part of f
pub record Adds (f : Function) (old new : List Decision) : Type 0 where
  pub canonical : IsCanonical new
  pub extends : (more : List Decision) × (new ≡ old ++ more)
  pub parts : (r : ℕ) → length old + 2 ≤ r → IsRef new r → IsPart f (function new r)

-- ref r of the new store stands for f
pub record Answers (f : Function) (old new : Diagrams) (r : ℕ) : Type 0 where
  pub adds : Adds f old.nodes new.nodes
  pub same_limit : new.limit ≡ old.limit
  pub held : IsRef new.nodes r
  pub value : Same (function new.nodes r) f

-- the old decisions and the parts of f are together more than the limit
abbrev pub PassesLimit : Function → Diagrams → Type 0
PassesLimit f old = (nodes : List Decision) × Adds f old.nodes nodes × (old.limit < length nodes)
