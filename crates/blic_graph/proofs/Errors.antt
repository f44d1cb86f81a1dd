-- Errors that are passed on.
use Rattle.std.proofs.Common.{◌≡◌, ap}
use Rattle.std.specs.Prelude.{Result, Err}

-- One error is another, whatever the calls would answer.
pub same_error : {A B E : Type 0} (x y : E) → ◌≡◌ {A = Result A E} (Err x) (Err y) → ◌≡◌ {A = Result B E} (Err x) (Err y)
same_error {A} {B} {E} x y e = let q : x ≡ y = cc in ap {A = E} {B = Result B E} (λ (z : E). Err z) q
