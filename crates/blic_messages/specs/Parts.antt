-- Private: what a part of a frame says.
use Rattle.std.specs.Prelude.{ℕ, ◌≡◌, ◌<◌, List, Option, Some, None}
use Rattle.blic_field.specs.Field.{modulus}

-- the bytes are the spelling of a thing of the kind, or of none
abbrev pub IsSpelling : {X : Type 0} → (X → Type 0) → (X → List ℕ) → List ℕ → Option X → Type 0
IsSpelling ok spell bytes (Some x) = ok x × (bytes ≡ spell x)
IsSpelling {X = X} ok spell bytes None = (x : X) → ok x → bytes ≡ spell x → ⊥

abbrev pub IsElement : ℕ → Type 0
IsElement e = e < modulus
