-- Lists to which two entries are added one after the other.
use Rattle.std.proofs.Common.{◌≡◌, ◌∙◌, ap, List, [], ◌∷◌, ◌++◌, append_assoc}

pub two_added : {X : Type 0} (xs ys zs : List X) (a b : X) → ys ≡ xs ++ a ∷ [] → zs ≡ ys ++ b ∷ [] → zs ≡ xs ++ a ∷ b ∷ []
two_added xs ys zs a b e f = f ∙ (ap (λ w. w ++ b ∷ []) e ∙ append_assoc xs (a ∷ []) (b ∷ []))
