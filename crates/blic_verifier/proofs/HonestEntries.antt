-- Each honest reply fits its turn, and is of elements.
use Rattle.std.proofs.Common.{arith, ℕ, suc, ◌+◌, ◌<◌, sym, subst, List, get_or}
use Rattle.std.specs.Prelude.{All}
use Rattle.std.proofs.lemmas.List.Elements.{All-map}
use Rattle.blic_field.specs.Field.{modulus}
use Rattle.blic_field.specs.Quadratic.{HasElements}
use Rattle.blic_model.specs.declared.node.Node.{Node}
use Rattle.blic_model.specs.Circuit.{node_at}
use Rattle.blic_model.specs.Reduction.{poly}
use Rattle.blic_model.proofs.Ordered.{AllOrdered, ordered_all}
use Rattle.blic_model.proofs.Reduced.{HasElements-poly}
use Rattle.blic_model.proofs.Shaped.{ordered_of}
use Rattle.blic_model.proofs.Values.{value_below}
use Rattle.blic_claims.specs.Claims.{Transcript, Claim, claims_on, node_point, point_at}
use Rattle.blic_claims.specs.Honest.{honest_answer, honest_at, honest_replies, operands}
use Rattle.blic_claims.specs.Turns.{Turn, ForPolys, ForValues, Fits, transcript, turns}
use Rattle.blic_claims.proofs.Drawn.{IsPoint-node_point}
use Rattle.blic_claims.proofs.Settling.{entry_is}
use Rattle.blic_verifier.specs.HonestLaws.{HonestReplyFits}
use Rattle.blic_verifier.specs.SoundnessLaws.{ReplyHasElements}
use Rattle.blic_verifier.proofs.HonestPasses.{fits_honest}
use Rattle.blic_verifier.proofs.OfElements.{draw_element}

-- the transcript of the draws and the first t honest replies
abbrev pub honest_talk : List Node → ℕ → List ℕ → ℕ → Transcript
honest_talk nodes levels draws t = transcript nodes levels (honest_answer nodes levels) draws (honest_replies nodes levels draws t)

draws_below : (nodes : List Node) (levels : ℕ) (draws : List ℕ) (t : ℕ) → All (λ r. r < modulus) draws → (k i : ℕ)
    → (honest_talk nodes levels draws t).draw k i < modulus
unfolding transcript
draws_below nodes levels draws t h k i = draw_element draws h _

elements_at : (nodes : List Node) (levels : ℕ) → AllOrdered nodes → (T : Transcript) → ((k i : ℕ) → T.draw k i < modulus) → (u : Turn)
    → ReplyHasElements (honest_at nodes levels T u)
elements_at nodes levels o T h (ForPolys k i) =
    let f = λ (c : Claim). poly nodes levels k i (point_at nodes levels T k c (i + 1)) in
    All-map HasElements f (claims_on nodes levels T k) (λ j d l. HasElements-poly nodes levels k i (point_at nodes levels T k (get_or (claims_on nodes levels T k) j d) (i + 1)))
elements_at nodes levels o T h (ForValues k) =
    let p = IsPoint-node_point nodes levels T k (h k) in
    (value_below nodes levels o (operands (node_at nodes k)).0 (node_point nodes levels T k) p, value_below nodes levels o (operands (node_at nodes k)).1 (node_point nodes levels T k) p)

pub honest_reply_fits : HonestReplyFits
honest_reply_fits nodes levels shaped draws h t l =
    let e = entry_is nodes levels draws (suc t) t (omega arith) in
    let turn = get_or (turns nodes levels) t (ForValues 0) in (
      subst (Fits nodes turn) (sym e) (fits_honest nodes levels (honest_talk nodes levels draws t) turn),
      subst ReplyHasElements (sym e) (elements_at nodes levels (ordered_all nodes (ordered_of nodes levels shaped)) (honest_talk nodes levels draws t) (draws_below nodes levels draws t h) turn),
    )
