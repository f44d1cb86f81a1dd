-- The honest replies under any draws pass.
use Rattle.std.proofs.Common.{arith, ℕ, suc, ◌≡◌, ◌+◌, ◌<◌, sym, ◌∙◌, ap, subst, List, [], ◌∷◌, length, get_or, true}
use Rattle.std.specs.List.{AllZip}
use Rattle.std.proofs.lemmas.List.{length-map, get_or-map}
use Rattle.blic_field.specs.Field.{modulus}
use Rattle.blic_model.specs.declared.node.Node.{Node}
use Rattle.blic_model.specs.Circuit.{node_at, table, free}
use Rattle.blic_model.specs.Counts.{is_binary, claims}
use Rattle.blic_model.specs.Reduction.{poly}
use Rattle.blic_model.proofs.Ordered.{AllOrdered}
use Rattle.blic_model.proofs.Entries.{get-table, length-table}
use Rattle.blic_claims.specs.Claims.{Transcript, claims_on, point_at, no_claim}
use Rattle.blic_claims.specs.Turns.{Turn, ForPolys, ForValues, turns, Fits, no_reply, polys_of, transcript, polys_number}
use Rattle.blic_claims.specs.Honest.{honest_at, honest_answer, honest_replies}
use Rattle.blic_claims.proofs.Turns.{polys_turn, values_first, polys_below, values_below, binary_inside}
use Rattle.blic_claims.proofs.ClaimCounts.{length-claims_on}
use Rattle.blic_claims.proofs.Drawn.{AllLevelled}
use Rattle.blic_claims.proofs.HonestReplies.{honest_entry, honest_upto, claims_same, values_honest, answer_honest}
use Rattle.blic_verifier.specs.Acceptance.{sent, no_poly, AllHold}
use Rattle.blic_verifier.proofs.HonestTranscript.{IsHonest, acceptance}

sent_honest : (nodes : List Node) (levels : ℕ) (draws : List ℕ) (n k i j : ℕ) → k < length nodes → is_binary (node_at nodes k) ≡ true → i < length (free nodes levels k) → polys_number nodes levels k i < n
    → j < length (claims_on nodes levels (honest_upto nodes levels draws n) k)
    → sent (honest_upto nodes levels draws n) k i j ≡ poly nodes levels k i (point_at nodes levels (honest_upto nodes levels draws n) k (get_or (claims_on nodes levels (honest_upto nodes levels draws n) k) j no_claim) (i + 1))
unfolding transcript
sent_honest nodes levels draws n k i j l b h q lj =
    let t = polys_number nodes levels k i in
    let same : claims_on nodes levels (honest_upto nodes levels draws t) k ≡ claims_on nodes levels (honest_upto nodes levels draws n) k =
    claims_same nodes levels draws t n k (omega arith) (λ m r s c. (omega (arith, values_first nodes levels k m r s c), omega (arith, values_first nodes levels k m r s c))) in
    ap (λ r. get_or (polys_of r) j no_poly) (get-table (honest_entry nodes levels draws) no_reply n t q ∙ ap (honest_at nodes levels (honest_upto nodes levels draws t)) (polys_turn nodes levels k i l b h))
    ∙ (get_or-map (λ c. poly nodes levels k i (point_at nodes levels (honest_upto nodes levels draws t) k c (i + 1))) (claims_on nodes levels (honest_upto nodes levels draws t) k) j no_claim no_poly (subst (λ cs. j < length cs) (sym same) lj)
    ∙ ap (λ cs. poly nodes levels k i (point_at nodes levels (honest_upto nodes levels draws t) k (get_or cs j no_claim) (i + 1))) same)

-- For all draws that are elements, the honest replies make an honest transcript.
pub honest_is : (nodes : List Node) (levels : ℕ) → AllOrdered nodes → (draws : List ℕ) → ((t : ℕ) → get_or draws t 0 < modulus) → IsHonest nodes levels (honest_upto nodes levels draws (length (turns nodes levels)))
unfolding transcript
honest_is nodes levels o draws d = record {
  draws = λ k i. d _;
  answers = answer_honest nodes levels o;
  polynomials = λ k i j b h lj. sent_honest nodes levels draws (length (turns nodes levels)) k i j (binary_inside nodes k b) b h (polys_below nodes levels k i (binary_inside nodes k b) b h) lj;
  first = λ k b. ap (λ p. p.0) (values_honest nodes levels draws (length (turns nodes levels)) k (binary_inside nodes k b) b (values_below nodes levels k (binary_inside nodes k b) b));
  second = λ k b. ap (λ p. p.1) (values_honest nodes levels draws (length (turns nodes levels)) k (binary_inside nodes k b) b (values_below nodes levels k (binary_inside nodes k b) b));
}

-- Acceptance: under every list of draws the honest replies pass.
pub honest_passes : (nodes : List Node) (levels : ℕ) → AllOrdered nodes → AllLevelled nodes levels → (draws : List ℕ) → ((t : ℕ) → get_or draws t 0 < modulus)
    → ((k : ℕ) → k < length nodes → 0 < claims nodes k) → AllHold nodes levels (transcript nodes levels (honest_answer nodes levels) draws (honest_replies nodes levels draws (length (turns nodes levels))))
unfolding honest_replies
honest_passes nodes levels o v draws d l =
    acceptance nodes levels o v (honest_upto nodes levels draws (length (turns nodes levels))) (honest_is nodes levels o draws d)
    (λ k lk. subst (λ n. 0 < n) (sym (length-claims_on nodes levels (honest_upto nodes levels draws (length (turns nodes levels))) k)) (l k lk))

zip_from : {A B : Type 0} (R : A → B → Type 0) (d : A) (e : B) (xs : List A) (ys : List B) → length xs ≡ length ys → ((t : ℕ) → t < length xs → R (get_or xs t d) (get_or ys t e)) → AllZip R xs ys
zip_from R d e [] [] l h = tt
zip_from R d e [] (y ∷ ys) l h = absurd (omega arith)
zip_from R d e (x ∷ xs) [] l h = absurd (omega arith)
zip_from R d e (x ∷ xs) (y ∷ ys) l h = (h 0 (omega arith), zip_from R d e xs ys (omega arith) (λ t m. h (suc t) (omega arith)))

pub fits_honest : (nodes : List Node) (levels : ℕ) (T : Transcript) (u : Turn) → Fits nodes u (honest_at nodes levels T u)
fits_honest nodes levels T (ForPolys k i) = length-map (claims_on nodes levels T k) _ ∙ length-claims_on nodes levels T k
fits_honest nodes levels T (ForValues k) = tt

pub honest_fits : (nodes : List Node) (levels : ℕ) (draws : List ℕ) → AllZip (Fits nodes) (turns nodes levels) (honest_replies nodes levels draws (length (turns nodes levels)))
unfolding honest_replies
honest_fits nodes levels draws =
    zip_from (Fits nodes) (ForValues 0) no_reply (turns nodes levels) (table (honest_entry nodes levels draws) (length (turns nodes levels))) (sym (length-table (honest_entry nodes levels draws) (length (turns nodes levels))))
    (λ t l. subst (Fits nodes (get_or (turns nodes levels) t (ForValues 0))) (sym (get-table (honest_entry nodes levels draws) no_reply (length (turns nodes levels)) t l))
    (fits_honest nodes levels (transcript nodes levels (honest_answer nodes levels) draws (table (honest_entry nodes levels draws) t)) (get_or (turns nodes levels) t (ForValues 0))))
