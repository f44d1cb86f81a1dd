-- What an assignment in the code stands for, as private contracts speak of it: no public contract cites this file.
use Rattle.std.specs.Prelude.{ℕ, Bool}
use Rattle.blic_model.specs.Truth.{with_value, nothing_set}
use Rattle.blic_cases.specs.declared.cases.Assignment.{Assignment, Nothing, With'}

abbrev pub values_of : Assignment → ℕ → Bool
values_of Nothing = nothing_set
values_of (With' var value p rest) = with_value (values_of rest) var value
