-- What a solved circuit answers, as the definitions have it.
use Rattle.std.proofs.Common.{ℕ, ◌≡◌, refl, sym, ◌∙◌, ap, List, get_or, Bool, true, false, cond, eqb, inl, inr}
use Rattle.blic_field.specs.Field.{minus_one}
use Rattle.blic_field.specs.Quadratic.{interpolate}
use Rattle.blic_model.specs.declared.node.Node.{Node}
use Rattle.blic_model.specs.Circuit.{free, node_at, root}
use Rattle.blic_model.specs.Reduction.{part, poly}
use Rattle.blic_model.specs.Shape.{IsShaped}
use Rattle.blic_model.specs.Value.{Point, put, bit, holds, value}
use Rattle.blic_model.proofs.BitPoints.{value_holds}
use Rattle.blic_model.proofs.Depends.{part_depends, value_depends}
use Rattle.blic_model.proofs.Ordered.{ordered_all}
use Rattle.blic_model.proofs.Shaped.{ordered_of}
use Rattle.blic_claims.specs.Claims.{zero_point}
use Rattle.blic_claims.specs.Honest.{honest_answer}
use Rattle.blic_claims.proofs.Pairs.{IsPair, pair_free}
use Rattle.blic_engine.specs.Rooms.{AgreesAt}

bit_is_one : (b : Bool) → b ≡ eqb (bit b) 1
bit_is_one true = refl
bit_is_one false = refl

-- the root's value is 1 where the root holds
pub answer_is : (nodes : List Node) (levels : ℕ) → IsShaped nodes levels → (b : Bool) → b ≡ holds nodes (root nodes) (λ x. false) → b ≡ honest_answer nodes levels
answer_is nodes levels h b e =
    let o = ordered_all nodes (ordered_of nodes levels h) in
    let v : value nodes levels (root nodes) zero_point ≡ bit (holds nodes (root nodes) (λ x. false)) = value_holds nodes levels o (root nodes) (λ x. false) in
    bit_is_one b ∙ ap (λ z. eqb z 1) (ap bit e ∙ sym v)

agree_put : (nodes : List Node) (k : ℕ) (s r : Point) → AgreesAt nodes k s r → (y t : ℕ) → AgreesAt nodes k (put s y t) (put r y t)
agree_put nodes k s r h y t x f = ap (λ z. cond (eqb x y) t z) (h x f)

-- only the free levels of a node matter
pub poly_agrees : (nodes : List Node) (levels : ℕ) → IsShaped nodes levels → (k i : ℕ) (s r : Point) → AgreesAt nodes k s r → poly nodes levels k i s ≡ poly nodes levels k i r
unfolding poly interpolate
poly_agrees nodes levels h k i s r e =
    let o = ordered_all nodes (ordered_of nodes levels h) in
    let y = get_or (free nodes levels k) i 0 in
    let at : (t : ℕ) → part nodes levels k i (put s y t) ≡ part nodes levels k i (put r y t) =
    λ t. part_depends nodes levels o k i (put s y t) (put r y t) (agree_put nodes k s r e y t) in
    rw (at 0, at 1, at minus_one) refl

pub operands_agree : (nodes : List Node) (levels : ℕ) → IsShaped nodes levels → (k a b : ℕ) → IsPair (node_at nodes k) a b → (s r : Point) → AgreesAt nodes k s r
    → (value nodes levels a s ≡ value nodes levels a r) × (value nodes levels b s ≡ value nodes levels b r)
operands_agree nodes levels h k a b p s r e =
    let o = ordered_all nodes (ordered_of nodes levels h) in (
      value_depends nodes levels o a s r (λ x f. e x (pair_free nodes levels k a b x h p (inl f))),
      value_depends nodes levels o b s r (λ x f. e x (pair_free nodes levels k a b x h p (inr f))),
    )
