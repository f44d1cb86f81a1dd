-- What has one spelling is one thing.
use Rattle.std.proofs.Common.{arith, ℕ, ◌≡◌, ◌^◌, ◌<◌, refl, sym, ◌∙◌, ap, Bool, true, false, cond, List, [], ◌∷◌, ◌++◌, length, get_or, take, drop}
use mathlib.Core.Path.{ap₂}
use Rattle.std.specs.Prelude.{flat_map, All, Option, Some, None}
use Rattle.std.proofs.lemmas.List.Elements.{All-head, All-tail}
use Rattle.byteorder.specs.Endian.{big_bytes, big_from}
use Rattle.byteorder.specs.Numbers.{big_number-reads_back}
use Rattle.blic_field.specs.Quadratic.{Quadratic, HasElements}
use Rattle.blic_messages.specs.declared.ask.Hello.{Hello}
use Rattle.blic_messages.specs.declared.reply.Refusal.{Refusal}
use Rattle.blic_messages.specs.declared.reply.Refusal.TheVariants as refusals
use Rattle.blic_messages.specs.Replies.{Said, Answer, Polys, Values, Refused}
use Rattle.blic_messages.specs.Frames.{hello_body, poly_body, refusal_body}
use Rattle.blic_messages.specs.Reading.{IsHello, IsRefusal, IsReply, Reads}
use Rattle.blic_messages.proofs.Spelled.{kind_of, body_of, same_spelling}

number_one : (n x y : ℕ) → x < 256 ^ n → y < 256 ^ n → big_bytes n x ≡ big_bytes n y → x ≡ y
number_one n x y small other e = sym (big_number-reads_back n x [] small) ∙ (ap (λ ys. big_from 0 n (ys ++ [])) e ∙ big_number-reads_back n y [] other)

poly_one : (p q : Quadratic) → HasElements p → HasElements q → poly_body p ≡ poly_body q → p ≡ q
poly_one p q ok also e =
    let first : p.c0 ≡ q.c0 = number_one 8 p.c0 q.c0 (omega (arith, ok.0)) (omega (arith, also.0)) (ap (take 8) e) in
    let second : p.c1 ≡ q.c1 = number_one 8 p.c1 q.c1 (omega (arith, ok.1)) (omega (arith, also.1)) (ap (λ ys. take 8 (drop 8 ys)) e) in
    let third : p.c2 ≡ q.c2 = number_one 8 p.c2 q.c2 (omega (arith, ok.2)) (omega (arith, also.2)) (ap (drop 16) e) in
    λ i. record { c0 = first i; c1 = second i; c2 = third i }

polys_one : (ps qs : List Quadratic) → All HasElements ps → All HasElements qs → flat_map poly_body ps ≡ flat_map poly_body qs → ps ≡ qs
polys_one [] [] ok also e = refl
polys_one [] (q ∷ qs) ok also e = absurd (omega (arith, ap (λ ys. length (take 1 ys)) e))
polys_one (p ∷ ps) [] ok also e = absurd (omega (arith, ap (λ ys. length (take 1 ys)) e))
polys_one (p ∷ ps) (q ∷ qs) ok also e =
    ap₂ (λ r rs. r ∷ rs) (poly_one p q (All-head HasElements p ps ok) (All-head HasElements q qs also) (ap (take 24) e))
    (polys_one ps qs (All-tail HasElements p ps ok) (All-tail HasElements q qs also) (ap (drop 24) e))

hello_one : (h g : Hello) → IsHello h → IsHello g → hello_body h ≡ hello_body g → h ≡ g
hello_one h g ok also e =
    let first : h.wire ≡ g.wire = number_one 2 h.wire g.wire ok.wire also.wire (ap (take 2) e) in
    let second : h.circuit ≡ g.circuit = number_one 2 h.circuit g.circuit ok.circuit also.circuit (ap (λ ys. take 2 (drop 2 ys)) e) in
    let third : h.order ≡ g.order = number_one 2 h.order g.order ok.order also.order (ap (λ ys. take 2 (drop 4 ys)) e) in
    let last : h.digest ≡ g.digest = ap (drop 6) e in
    λ i. record { wire = first i; circuit = second i; order = third i; digest = last i }

bit_one : (a b : Bool) → ◌≡◌ {A = ℕ} (cond a 1 0) (cond b 1 0) → a ≡ b
bit_one true true e = refl
bit_one true false e = absurd (omega arith)
bit_one false true e = absurd (omega arith)
bit_one false false e = refl

refusal_one : (r q : Refusal) → IsRefusal r → IsRefusal q → refusal_body r ≡ refusal_body q → r ≡ q
refusal_one refusals.OutOfTurn refusals.OutOfTurn ok also e = refl
refusal_one refusals.OutOfTurn refusals.NothingLeft ok also e = absurd (omega (arith, ap (λ ys. get_or ys 0 0) e))
refusal_one refusals.OutOfTurn (refusals.NotServed g) ok also e = absurd (omega (arith, ap (λ ys. get_or ys 0 0) e))
refusal_one refusals.OutOfTurn refusals.Broken ok also e = absurd (omega (arith, ap (λ ys. get_or ys 0 0) e))
refusal_one refusals.NothingLeft refusals.OutOfTurn ok also e = absurd (omega (arith, ap (λ ys. get_or ys 0 0) e))
refusal_one refusals.NothingLeft refusals.NothingLeft ok also e = refl
refusal_one refusals.NothingLeft (refusals.NotServed g) ok also e = absurd (omega (arith, ap (λ ys. get_or ys 0 0) e))
refusal_one refusals.NothingLeft refusals.Broken ok also e = absurd (omega (arith, ap (λ ys. get_or ys 0 0) e))
refusal_one (refusals.NotServed h) refusals.OutOfTurn ok also e = absurd (omega (arith, ap (λ ys. get_or ys 0 0) e))
refusal_one (refusals.NotServed h) refusals.NothingLeft ok also e = absurd (omega (arith, ap (λ ys. get_or ys 0 0) e))
refusal_one (refusals.NotServed h) (refusals.NotServed g) ok also e = ap refusals.NotServed (hello_one h g ok also (ap (drop 1) e))
refusal_one (refusals.NotServed h) refusals.Broken ok also e = absurd (omega (arith, ap (λ ys. get_or ys 0 0) e))
refusal_one refusals.Broken refusals.OutOfTurn ok also e = absurd (omega (arith, ap (λ ys. get_or ys 0 0) e))
refusal_one refusals.Broken refusals.NothingLeft ok also e = absurd (omega (arith, ap (λ ys. get_or ys 0 0) e))
refusal_one refusals.Broken (refusals.NotServed g) ok also e = absurd (omega (arith, ap (λ ys. get_or ys 0 0) e))
refusal_one refusals.Broken refusals.Broken ok also e = refl

-- replies that are written as one body of one kind
one_body : (s t : Said) → IsReply s → IsReply t → kind_of s ≡ kind_of t → body_of s ≡ body_of t → s ≡ t
one_body (Answer a) (Answer b) ok also k e = ap Answer (bit_one a b (ap (λ ys. get_or ys 0 0) e))
one_body (Answer a) (Polys qs) ok also k e = absurd (omega arith)
one_body (Answer a) (Values u w) ok also k e = absurd (omega arith)
one_body (Answer a) (Refused q) ok also k e = absurd (omega arith)
one_body (Polys ps) (Answer b) ok also k e = absurd (omega arith)
one_body (Polys ps) (Polys qs) ok also k e = ap Polys (polys_one ps qs ok.2 also.2 e)
one_body (Polys ps) (Values u w) ok also k e = absurd (omega arith)
one_body (Polys ps) (Refused q) ok also k e = absurd (omega arith)
one_body (Values u w) (Answer b) ok also k e = absurd (omega arith)
one_body (Values u w) (Polys qs) ok also k e = absurd (omega arith)
one_body (Values u w) (Values v x) ok also k e =
    ap₂ Values (number_one 8 u v (omega (arith, ok.0)) (omega (arith, also.0)) (ap (take 8) e))
    (number_one 8 w x (omega (arith, ok.1)) (omega (arith, also.1)) (ap (drop 8) e))
one_body (Values u w) (Refused q) ok also k e = absurd (omega arith)
one_body (Refused r) (Answer b) ok also k e = absurd (omega arith)
one_body (Refused r) (Polys qs) ok also k e = absurd (omega arith)
one_body (Refused r) (Values u w) ok also k e = absurd (omega arith)
one_body (Refused r) (Refused q) ok also k e = ap Refused (refusal_one r q ok also e)

pub one_reading : (frame : List ℕ) (r q : Option Said) → Reads frame r → Reads frame q → r ≡ q
one_reading frame (Some s) (Some t) reads also =
    let h = same_spelling s t (sym reads.1 ∙ also.1) in
    ap Some (one_body s t reads.0 also.0 h.0 h.1)
one_reading frame (Some s) None reads also = absurd (also s reads.0 reads.1)
one_reading frame None (Some t) reads also = absurd (reads t also.0 also.1)
one_reading frame None None reads also = refl
