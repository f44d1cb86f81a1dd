-- What is appended, or taken, piece by piece.
use Rattle.std.proofs.Common.{◌≡◌, ℕ, ◌+◌, ◌-◌, List, ◌++◌, length, take, drop, refl, ap, sym, ◌∙◌, append_assoc, Option, Some, None, length-drop, arith}
use Rattle.std.proofs.Math.Seq.{take-add}
use Rattle.std.proofs.lemmas.List.{take_all, take-append-drop, drop-drop}
use Rattle.std.specs.Io.KnownBytes.{append_known}

pub append_known-append : (old : Option (List ℕ)) (a b : List ℕ) → append_known (append_known old a) b ≡ append_known old (a ++ b)
append_known-append None a b = refl
append_known-append (Some held) a b = ap Some (append_assoc held a b)

-- the next n bytes after the first i, of the slice from i on
pub append_known_more : (old mid new : Option (List ℕ)) (bytes : List ℕ) (i n : ℕ) → mid ≡ append_known old (take i bytes)
    → new ≡ append_known mid (take n (take (length bytes - i) (drop i bytes))) → new ≡ append_known old (take (i + n) bytes)
append_known_more old mid new bytes i n before after =
    after ∙ ap (λ piece. append_known mid (take n piece)) (take_all (length bytes - i) (drop i bytes) (omega (arith, length-drop i bytes)))
    ∙ ap (λ m. append_known m (take n (drop i bytes))) before ∙ append_known-append old _ _ ∙ ap (append_known old) (sym (take-add i n bytes))

-- what is left, after n of it are taken
pub taken_front : (bytes : List ℕ) (i n : ℕ) → take n (drop i bytes) ++ drop (i + n) bytes ≡ drop i bytes
taken_front bytes i n = ap (λ rest. take n (drop i bytes) ++ rest) (sym (drop-drop n i bytes)) ∙ take-append-drop n (drop i bytes)

-- the same where a buffer has the front of what was left
pub taken_bytes : (bytes buf : List ℕ) (i n : ℕ) → take n buf ≡ take n (take (length bytes - i) (drop i bytes)) → drop i bytes ≡ take n buf ++ drop (i + n) bytes
taken_bytes bytes buf i n copied =
    sym (taken_front bytes i n) ∙ ap (λ front. front ++ drop (i + n) bytes)
    (sym (copied ∙ ap (take n) (take_all (length bytes - i) (drop i bytes) (omega (arith, length-drop i bytes)))))
