-- What a transcript keeps when a reply is added.
use Rattle.std.proofs.Common.{arith, ℕ, suc, ◌≡◌, refl, sym, ◌∙◌, ap, List, [], ◌∷◌, ◌++◌, length, Bool}
use Rattle.std.proofs.lemmas.List.{get_or_append_left}
use Rattle.std.specs.Prelude.{find, None}
use Rattle.blic_model.specs.declared.node.Node.{Node}
use Rattle.blic_claims.specs.Claims.{Transcript}
use Rattle.blic_claims.specs.Turns.{polys_number, values_number, Reply, transcript, polys_of, values_of, no_reply}
use Rattle.blic_verifier.proofs.ShownKept.{Agree, checks_kept}
use Rattle.blic_verifier.specs.Acceptance.{fails}
use Rattle.blic_verifier.specs.Verdict.{fault_upto}

-- a reply more: the first replies and all draws are the same
pub agree_reply : (nodes : List Node) (levels : ℕ) (answer : Bool) (draws : List ℕ) (replies : List Reply) (r : Reply)
    → Agree nodes levels (transcript nodes levels answer draws replies) (transcript nodes levels answer draws (replies ++ r ∷ [])) (suc (length replies))
unfolding transcript
agree_reply nodes levels answer draws replies r = record {
  answers = refl;
  values = λ k b h. ap values_of (sym (get_or_append_left replies (r ∷ []) no_reply (values_number nodes levels k) (omega arith)));
  polys = λ k i b l h. ap polys_of (sym (get_or_append_left replies (r ∷ []) no_reply (polys_number nodes levels k i) (omega arith)));
  draws = λ k i b l h. refl;
}

-- no fault so far, whatever is added
pub sound_kept : (nodes : List Node) (levels : ℕ) (T S : Transcript) (n : ℕ) → Agree nodes levels T S n → fault_upto nodes levels T n ≡ None
    → fault_upto nodes levels S n ≡ None
sound_kept nodes levels T S n a e = ap (find fails) (sym (checks_kept nodes levels T S n a)) ∙ e
