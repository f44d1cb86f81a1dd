-- What a transcript has is of elements, where its draws and its replies are.
use Rattle.std.proofs.Common.{arith, ℕ, ◌<◌, sym, subst, inl, inr, List, length, get_or, Bool}
use Rattle.std.specs.Prelude.{All}
use Rattle.std.proofs.lemmas.Bool.{cases_lt}
use Rattle.std.proofs.lemmas.List.{get_or_past}
use Rattle.std.proofs.lemmas.List.Elements.{All-get_or}
use Rattle.blic_field.specs.Field.{modulus}
use Rattle.blic_field.specs.Quadratic.{HasElements}
use Rattle.blic_model.specs.declared.node.Node.{Node}
use Rattle.blic_claims.specs.Claims.{Transcript}
use Rattle.blic_claims.specs.Turns.{Reply, Polys, Values, transcript, polys_of, values_of, no_reply}
use Rattle.blic_verifier.specs.Acceptance.{no_poly, sent}
use Rattle.blic_verifier.specs.SoundnessLaws.{ReplyHasElements, AreElements}

-- draws and values are elements
pub record IsOfElements (T : Transcript) : Type 0 where
  pub draws : (k i : ℕ) → T.draw k i < modulus
  pub first : (k : ℕ) → (T.values k).0 < modulus
  pub second : (k : ℕ) → (T.values k).1 < modulus

reply_elements : (replies : List Reply) → All ReplyHasElements replies → (k : ℕ) → ReplyHasElements (get_or replies k no_reply)
reply_elements replies h k = elim (cases_lt k (length replies)) [
  | inl l ↦ All-get_or ReplyHasElements replies k no_reply l h
  | inr l ↦ subst ReplyHasElements (sym (get_or_past replies k no_reply l)) (omega arith, omega arith)
]

values_elements : (r : Reply) → ReplyHasElements r → ((values_of r).0 < modulus) × ((values_of r).1 < modulus)
values_elements (Polys ps) h = (omega arith, omega arith)
values_elements (Values u w) h = h

polys_elements : (r : Reply) → ReplyHasElements r → (j : ℕ) → HasElements (get_or (polys_of r) j no_poly)
polys_elements (Polys ps) h j = elim (cases_lt j (length ps)) [
  | inl l ↦ All-get_or HasElements ps j no_poly l h
  | inr l ↦ subst HasElements (sym (get_or_past ps j no_poly l)) (omega arith, omega arith, omega arith)
]
polys_elements (Values u w) h j = (omega arith, omega arith, omega arith)

pub draw_element : (draws : List ℕ) → All (λ r. r < modulus) draws → (k : ℕ) → get_or draws k 0 < modulus
draw_element draws h k = elim (cases_lt k (length draws)) [
  | inl l ↦ All-get_or (λ r. r < modulus) draws k 0 l h
  | inr l ↦ subst (λ z. z < modulus) (sym (get_or_past draws k 0 l)) (omega arith)
]

pub of_elements : (nodes : List Node) (levels : ℕ) (answer : Bool) (draws : List ℕ) (replies : List Reply) → AreElements draws replies
    → IsOfElements (transcript nodes levels answer draws replies)
unfolding transcript
of_elements nodes levels answer draws replies h = record {
  draws = λ k i. draw_element draws h.0 _;
  first = λ k. (values_elements _ (reply_elements replies h.1 _)).0;
  second = λ k. (values_elements _ (reply_elements replies h.1 _)).1;
}

pub sent_elements : (nodes : List Node) (levels : ℕ) (answer : Bool) (draws : List ℕ) (replies : List Reply) → AreElements draws replies
    → (k i j : ℕ) → HasElements (sent (transcript nodes levels answer draws replies) k i j)
unfolding transcript
sent_elements nodes levels answer draws replies h k i j = polys_elements _ (reply_elements replies h.1 _) j
