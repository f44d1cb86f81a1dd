-- What frames that spell a reply have in common.
use Rattle.std.proofs.Common.{arith, ℕ, ◌≡◌, ◌+◌, ◌-◌, ◌^◌, ◌<◌, ◌≤◌, refl, sym, ◌∙◌, ap, cond, List, [], ◌∷◌, ◌++◌, length, get_or, take, drop}
use Rattle.std.specs.Prelude.{flat_map, All}
use Rattle.std.proofs.Common.{length-drop, drop-cons}
use Rattle.std.proofs.lemmas.List.{take_rest, take-append-drop}
use Rattle.byteorder.specs.Endian.{big_bytes, big_number}
use Rattle.blic_field.specs.Quadratic.{Quadratic, HasElements}
use Rattle.blic_messages.specs.declared.reply.Refusal.{Refusal}
use Rattle.blic_messages.specs.declared.reply.Refusal.TheVariants as refusals
use Rattle.blic_messages.specs.Replies.{Said, Answer, Polys, Values, Refused}
use Rattle.blic_messages.specs.Frames.{framed, reply_spelling, poly_body, refusal_body}
use Rattle.blic_messages.specs.Parts.{IsElement}
use Rattle.blic_messages.specs.Reading.{IsReply}
use Rattle.blic_messages.proofs.Bodies.{length-poly_bodies}
use Rattle.blic_messages.proofs.Numbers.{bytes-number, number-bytes}

abbrev pub kind_of : Said → ℕ
kind_of (Answer b) = 129
kind_of (Polys ps) = 130
kind_of (Values u w) = 131
kind_of (Refused r) = 132

abbrev pub body_of : Said → List ℕ
body_of (Answer b) = cond b 1 0 ∷ []
body_of (Polys ps) = flat_map poly_body ps
body_of (Values u w) = big_bytes 8 u ++ big_bytes 8 w
body_of (Refused r) = refusal_body r

spelling_framed : (s : Said) → reply_spelling s ≡ framed (kind_of s) (body_of s)
spelling_framed (Answer b) = refl
spelling_framed (Polys ps) = refl
spelling_framed (Values u w) = refl
spelling_framed (Refused r) = refl

kind_range : (s : Said) → (129 ≤ kind_of s) × (kind_of s ≤ 132)
kind_range (Answer b) = (omega arith, omega arith)
kind_range (Polys ps) = (omega arith, omega arith)
kind_range (Values u w) = (omega arith, omega arith)
kind_range (Refused r) = (omega arith, omega arith)

short_refusal : (r : Refusal) → IsReply (Refused r) → length (refusal_body r) < 256 ^ 4
short_refusal refusals.OutOfTurn ok = omega arith
short_refusal refusals.NothingLeft ok = omega arith
short_refusal (refusals.NotServed h) ok = let l = ok.digest.0 in omega arith
short_refusal refusals.Broken ok = omega arith

short_body : (s : Said) → IsReply s → length (body_of s) < 256 ^ 4
short_body (Answer b) ok = omega arith
short_body (Polys ps) ok = let l = length-poly_bodies ps in let few = ok.1 in omega arith
short_body (Values u w) ok = omega arith
short_body (Refused r) ok = short_refusal r ok

same_parts : (k j : ℕ) (body other : List ℕ) → framed k body ≡ framed j other → (k ≡ j) × (body ≡ other)
same_parts k j body other e = let h : k ∷ body ≡ j ∷ other = ap (drop 4) e in (cc, cc)

-- the kind and the body of a frame that spells a reply are that reply's
pub spelled_parts : (k : ℕ) (body : List ℕ) (s : Said) → framed k body ≡ reply_spelling s → (k ≡ kind_of s) × (body ≡ body_of s)
spelled_parts k body s e = same_parts k (kind_of s) body (body_of s) (e ∙ spelling_framed s)

pub no_polys : (body : List ℕ) → ((ps : List Quadratic) → 1 ≤ length ps → length ps ≤ 65536 → All HasElements ps → body ≡ flat_map poly_body ps → ⊥)
    → (s : Said) → IsReply s → framed 130 body ≡ reply_spelling s → ⊥
no_polys body never (Answer b) ok e = let h = (spelled_parts 130 body (Answer b) e).0 in omega arith
no_polys body never (Polys ps) ok e = never ps ok.0 ok.1 ok.2 (spelled_parts 130 body (Polys ps) e).1
no_polys body never (Values u w) ok e = let h = (spelled_parts 130 body (Values u w) e).0 in omega arith
no_polys body never (Refused r) ok e = let h = (spelled_parts 130 body (Refused r) e).0 in omega arith

pub no_values : (body : List ℕ) → ((u w : ℕ) → IsElement u → IsElement w → body ≡ big_bytes 8 u ++ big_bytes 8 w → ⊥)
    → (s : Said) → IsReply s → framed 131 body ≡ reply_spelling s → ⊥
no_values body never (Answer b) ok e = let h = (spelled_parts 131 body (Answer b) e).0 in omega arith
no_values body never (Polys ps) ok e = let h = (spelled_parts 131 body (Polys ps) e).0 in omega arith
no_values body never (Values u w) ok e = never u w ok.0 ok.1 (spelled_parts 131 body (Values u w) e).1
no_values body never (Refused r) ok e = let h = (spelled_parts 131 body (Refused r) e).0 in omega arith

pub no_refusal : (body : List ℕ) → ((r : Refusal) → IsReply (Refused r) → body ≡ refusal_body r → ⊥)
    → (s : Said) → IsReply s → framed 132 body ≡ reply_spelling s → ⊥
no_refusal body never (Answer b) ok e = let h = (spelled_parts 132 body (Answer b) e).0 in omega arith
no_refusal body never (Polys ps) ok e = let h = (spelled_parts 132 body (Polys ps) e).0 in omega arith
no_refusal body never (Values u w) ok e = let h = (spelled_parts 132 body (Values u w) e).0 in omega arith
no_refusal body never (Refused r) ok e = never r ok (spelled_parts 132 body (Refused r) e).1

pub same_spelling : (s t : Said) → reply_spelling s ≡ reply_spelling t → (kind_of s ≡ kind_of t) × (body_of s ≡ body_of t)
same_spelling s t e = same_parts (kind_of s) (kind_of t) (body_of s) (body_of t) (sym (spelling_framed s) ∙ (e ∙ spelling_framed t))

-- the length field, the length and the kind of a frame that spells a reply
pub spelled_head : (frame : List ℕ) (s : Said) → IsReply s → frame ≡ reply_spelling s
    → (5 ≤ length frame) × (big_number 4 frame ≡ length frame - 5) × (129 ≤ get_or frame 4 0) × (get_or frame 4 0 ≤ 132)
spelled_head frame s ok e =
    let whole : frame ≡ framed (kind_of s) (body_of s) = e ∙ spelling_framed s in
    let long : length frame ≡ 5 + length (body_of s) = ap length whole ∙ omega arith in
    let kind : get_or frame 4 0 ≡ kind_of s = ap (λ f. get_or f 4 0) whole in
    let range = kind_range s in
    let field : big_number 4 frame ≡ length (body_of s) = number-bytes 4 (length (body_of s)) frame (short_body s ok) (ap (take 4) whole) in
    (omega arith, omega arith, omega arith, omega arith)

-- a frame whose length field tells its length is its kind with its body
pub framed_whole : (frame : List ℕ) → 5 ≤ length frame → ((k : ℕ) → get_or frame k 0 < 256) → big_number 4 frame ≡ length frame - 5
    → (k : ℕ) → get_or frame 4 0 ≡ k → framed k (take (length frame - 5) (drop 5 frame)) ≡ frame
framed_whole frame room bytes field k is =
    let rest : take (length frame - 5) (drop 5 frame) ≡ drop 5 frame = take_rest frame 5 in
    let long : length (drop 5 frame) ≡ length frame - 5 = length-drop 5 frame in
    let head : big_bytes 4 (length (drop 5 frame)) ≡ take 4 frame = ap (big_bytes 4) (long ∙ sym field) ∙ bytes-number 4 frame (omega arith) bytes in
    let fifth : drop 4 frame ≡ k ∷ drop 5 frame = drop-cons frame 4 0 (omega arith) ∙ ap (λ j. j ∷ drop 5 frame) is in
    ap (framed k) rest ∙ (ap (λ ys. ys ++ k ∷ drop 5 frame) head ∙ (ap (λ ys. take 4 frame ++ ys) (sym fifth) ∙ take-append-drop 4 frame))
