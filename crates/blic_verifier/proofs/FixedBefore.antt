-- Which elements are bad at a draw is fixed by the answer, the draws before it and the replies before it.
use Rattle.std.proofs.Common.{arith, ℕ, ◌≡◌, ◌+◌, ◌<◌, ◌≤◌, refl, sym, ◌∙◌, ap, subst, Bool, List, length, get_or, take}
use Rattle.std.proofs.lemmas.List.{get_or-take}
use Rattle.blic_field.specs.Quadratic.{at}
use Rattle.blic_model.specs.declared.node.Node.{Node}
use Rattle.blic_model.specs.Circuit.{root, free}
use Rattle.blic_model.specs.Reduction.{poly}
use Rattle.blic_claims.specs.Claims.{Transcript, claims_on, no_claim, point_at}
use Rattle.blic_claims.specs.Turns.{Reply, transcript, no_reply, polys_of, values_of, draw_number, polys_number, values_number}
use Rattle.blic_claims.proofs.Agreement.{AgreeAt, claims_agree, node_point_agree, point_at_agree}
use Rattle.blic_claims.proofs.Turns.{values_first, draws_first, binary_inside}
use Rattle.blic_verifier.specs.Acceptance.{no_poly, sent}
use Rattle.blic_verifier.specs.Soundness.{IsBad, IsRootAt, true_poly}
use Rattle.blic_verifier.specs.SoundnessLaws.{BadIsFixedBefore}

-- `IsRootAt` looks at the answer, at larger nodes, and at the polynomials and the draws of this node before this draw.
root_agree : (nodes : List Node) (levels : ℕ) (T S : Transcript) → T.answer ≡ S.answer → (k i r : ℕ) → k ≤ root nodes
    → ((j : ℕ) → k < j → AgreeAt nodes levels T S j) → T.polys k i ≡ S.polys k i
    → ((j : ℕ) → i < j → j < length (free nodes levels k) → T.draw k j ≡ S.draw k j)
    → IsRootAt nodes levels T k i r → IsRootAt nodes levels S k i r
root_agree nodes levels T S e k i r l a p d (j, lj, ne, same) =
    let cs : claims_on nodes levels T k ≡ claims_on nodes levels S k = claims_agree nodes levels T S e k a l in
    let q : true_poly nodes levels T k i j ≡ true_poly nodes levels S k i j
    = ap (poly nodes levels k i) (ap (λ c. point_at nodes levels T k c (i + 1)) (ap (λ z. get_or z j no_claim) cs)
    ∙ point_at_agree nodes levels T S k (i + 1) (get_or (claims_on nodes levels S k) j no_claim) (λ n h m. d n (omega arith) m)) in
    let u : sent T k i j ≡ sent S k i j = ap (λ z. get_or z j no_poly) p in
    (j, subst (λ z. j < length z) cs lj, (λ z. ne (u ∙ (z ∙ sym q))), ap (λ z. at z r) (sym u) ∙ (same ∙ ap (λ z. at z r) q))

-- draws and replies that agree as far as the draw have the same roots there
root_before : (nodes : List Node) (levels : ℕ) (answer : Bool) (draws others : List ℕ) (replies more : List Reply) (k i r : ℕ) → k < length nodes → i < length (free nodes levels k)
    → ((t : ℕ) → t < draw_number nodes levels k i → get_or draws t 0 ≡ get_or others t 0)
    → ((t : ℕ) → t ≤ polys_number nodes levels k i → get_or replies t no_reply ≡ get_or more t no_reply)
    → IsRootAt nodes levels (transcript nodes levels answer draws replies) k i r → IsRootAt nodes levels (transcript nodes levels answer others more) k i r
unfolding transcript
root_before nodes levels answer draws others replies more k i r lk li d p =
    root_agree nodes levels (transcript nodes levels answer draws replies) (transcript nodes levels answer others more) refl k i r (omega arith)
    (λ j h b.
    let lj = binary_inside nodes j b in
    let v = values_first nodes levels k j h lj b in
    let w = draws_first nodes levels k j h lj b in (
      ap values_of (p (values_number nodes levels j) (omega arith)),
      node_point_agree nodes levels (transcript nodes levels answer draws replies) (transcript nodes levels answer others more) j
          (λ m l. d (draw_number nodes levels j m) (omega arith)),
    ))
    (ap polys_of (p (polys_number nodes levels k i) (omega arith)))
    (λ j h l. d (draw_number nodes levels k j) (omega arith))

-- what comes after a draw doesn't count
pub bad_of_root : (nodes : List Node) (levels : ℕ) (answer : Bool) (draws : List ℕ) (replies : List Reply) (k i r : ℕ) → k < length nodes → i < length (free nodes levels k)
    → IsRootAt nodes levels (transcript nodes levels answer draws replies) k i r → IsBad nodes levels answer draws replies k i r
bad_of_root nodes levels answer draws replies k i r lk li =
    root_before nodes levels answer draws (take (draw_number nodes levels k i) draws) replies (take (polys_number nodes levels k i + 1) replies) k i r lk li
    (λ t l. sym (get_or-take (draw_number nodes levels k i) draws t 0 l))
    (λ t l. sym (get_or-take (polys_number nodes levels k i + 1) replies t no_reply (omega arith)))

pub root_of_bad : (nodes : List Node) (levels : ℕ) (answer : Bool) (draws : List ℕ) (replies : List Reply) (k i r : ℕ) → k < length nodes → i < length (free nodes levels k)
    → IsBad nodes levels answer draws replies k i r → IsRootAt nodes levels (transcript nodes levels answer draws replies) k i r
root_of_bad nodes levels answer draws replies k i r lk li =
    root_before nodes levels answer (take (draw_number nodes levels k i) draws) draws (take (polys_number nodes levels k i + 1) replies) replies k i r lk li
    (λ t l. get_or-take (draw_number nodes levels k i) draws t 0 l)
    (λ t l. get_or-take (polys_number nodes levels k i + 1) replies t no_reply (omega arith))

pub bad_before : BadIsFixedBefore
bad_before nodes levels answer draws others replies more k i r lk li d p bad =
    bad_of_root nodes levels answer others more k i r lk li
    (root_before nodes levels answer draws others replies more k i r lk li d p (root_of_bad nodes levels answer draws replies k i r lk li bad))
