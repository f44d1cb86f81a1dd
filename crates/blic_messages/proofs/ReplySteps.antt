-- A decoder of replies, byte by byte.
use Rattle.std.proofs.Common.{arith, ℕ, suc, ◌≡◌, ◌≢◌, ◌+◌, ◌-◌, ◌*◌, ◌/◌, ◌<◌, ◌≤◌, Bool, true, false, nat_lt, refl, ap, sym, ◌∙◌, subst, List, [], ◌∷◌, ◌++◌, length, take, drop, length-append, length-drop, append_assoc}
use mathlib.Core.Path.{ap₂}
use Rattle.std.specs.Prelude.{flat_map, All}
use Rattle.std.proofs.lemmas.List.{append-nil, take-append-drop, take-append-le, drop-append-le, drop_all, take_all, drop_at, get_or_append_left, get_or_past, get_or-take, length-take-le}
use Rattle.std.proofs.lemmas.List.Elements.{All-append, All-cons, All-nil}
use Rattle.std.proofs.lemmas.Grind.{flat_map-append}
use Rattle.byteorder.specs.Numbers.{big_from-append}
use Rattle.blic_field.specs.Quadratic.{Quadratic, HasElements}
use Rattle.blic_messages.specs.Replies.{Polys}
use Rattle.blic_messages.specs.Frames.{poly_body}
use Rattle.blic_messages.specs.Grammar.{Part, size_of, is_part, Good, Bad, Short, judged, Whole, Broken, Partial, front, front_of_body, front_of_judged, kind_at, length_at}
use Rattle.blic_messages.specs.Fronts.{reply_grammar, reply_in, polys_in}
use Rattle.blic_messages.specs.ReplyStates.{IsOpen, stream_of}
use Rattle.blic_messages.proofs.Judging.{is_below, below_true, at_least, total, total_le, total_gt, behind, judged_part, judged_short}
use Rattle.blic_messages.proofs.Bodies.{length-poly_bodies}
use Rattle.blic_messages.proofs.Headers.{front_at, front_early, body_front, partial_parts}
use Rattle.blic_messages.proofs.ReplyBodies.{many, reply_rows, judged_polys, polys_back, polys_parts, total_many}
use Rattle.blic_messages.proofs.PolyFronts.{some_to_come}

-- of 44 bytes of which none are of polynomials a reply is told
pub replies_short : (bytes : List ℕ) → front reply_grammar bytes ≡ Partial → (kind_at bytes ≡ 130 → length bytes ≤ 5) → length bytes < 44
replies_short bytes is few = by_test (nat_lt (length bytes) 5) refl
  where
    by_test : (t : Bool) → nat_lt (length bytes) 5 ≡ t → length bytes < 44
    by_test true e = let l = is_below (length bytes) 5 e in omega arith
    by_test false e =
        let room = at_least (length bytes) 5 e in
        let h = partial_parts reply_grammar bytes room is in
        let rest = length-drop 5 bytes in
        reply_rows (λ kind len ps. (kind ≡ 130 → length bytes ≤ 5) → length (drop 5 bytes) < total ps → length bytes < 44)
        (λ p l. omega arith) (λ n some most p l. let few = p refl in omega arith) (λ p l. omega arith) (λ p l. omega arith) (λ p l. omega arith)
        (kind_at bytes) (length_at bytes) h.0 h.1 few (total_gt h.0 (drop 5 bytes) h.2)

-- a header in front
front_behind : (h body : List ℕ) → length h ≡ 5 → front reply_grammar (h ++ body) ≡ body_front reply_grammar (kind_at h) (length_at h) body
front_behind h body five =
    front_at reply_grammar (h ++ body) (omega (arith, length-append h body))
    ∙ (ap (λ k. body_front reply_grammar k (length_at (h ++ body)) (drop 5 (h ++ body))) (get_or_append_left h body 0 4 (omega arith))
    ∙ (ap (λ n. body_front reply_grammar (kind_at h) n (drop 5 (h ++ body))) (big_from-append 4 h body (omega arith))
    ∙ ap (body_front reply_grammar (kind_at h) (length_at h)) (drop_at h body 5 five)))

pub front_polys : (h body : List ℕ) (n : ℕ) → length h ≡ 5 → kind_at h ≡ 130 → length_at h ≡ 24 * n → 1 ≤ n → n ≤ 65536
    → front reply_grammar (h ++ body) ≡ front_of_judged (reply_in 130 (take (24 * n) body)) (5 + 24 * n) (judged (many (3 * n)) body)
front_polys h body n five kind len some few =
    front_behind h body five
    ∙ (ap (λ k. body_front reply_grammar k (length_at h) body) kind
    ∙ (ap (λ l. body_front reply_grammar 130 l body) len ∙ ap (λ o. front_of_body reply_grammar 130 (24 * n) o body) (polys_parts n some few)))

-- a header of n polynomials, and the bytes of fewer behind it
pub record InPolys (kept : List ℕ) (ps : List Quadratic) : Type 0 where
  pub n : ℕ
  pub len : length_at (take 5 kept) ≡ 24 * n
  pub some : 1 ≤ n
  pub few : n ≤ 65536
  pub fewer : length ps < n
  pub rest : judged (many (3 * (n - length ps))) (drop 5 kept) ≡ Short

head_kind : (kept : List ℕ) → 5 ≤ length kept → kind_at (take 5 kept) ≡ kind_at kept
head_kind kept room = get_or-take 5 kept 4 0 (omega arith)

behind_polys : (n : ℕ) (ps : List Quadratic) (part : List ℕ) → length ps ≤ n → All HasElements ps
    → judged (many (3 * n)) (flat_map poly_body ps ++ part) ≡ judged (many (3 * (n - length ps))) part
behind_polys n ps part l ok =
    ap (λ k. judged (many k) (flat_map poly_body ps ++ part)) (let e : 3 * n ≡ 3 * length ps + 3 * (n - length ps) = omega arith in e)
    ∙ judged_polys ps (3 * (n - length ps)) part ok

pub in_polys : (kept : List ℕ) (ps : List Quadratic) → IsOpen kept ps → 5 ≤ length kept → kind_at kept ≡ 130 → InPolys kept ps
in_polys kept ps is room kind =
    let h = take 5 kept in
    let body = flat_map poly_body ps ++ drop 5 kept in
    let five : length h ≡ 5 = length-take-le 5 kept room in
    let all = h ++ body in
    let long : 5 ≤ length all = omega (arith, length-append h body) in
    let parts = partial_parts reply_grammar all long is.partial in
    let kind' : kind_at all ≡ 130 = get_or_append_left h body 0 4 (omega arith) ∙ (head_kind kept room ∙ kind) in
    let len' : length_at all ≡ length_at h = big_from-append 4 h body (omega arith) in
    let behind : drop 5 all ≡ body = drop_at h body 5 five in
    reply_rows (λ k l qs. k ≡ 130 → l ≡ length_at h → judged qs body ≡ Short → InPolys kept ps)
    (λ k l s. absurd (omega arith)) (made h body) (λ k l s. absurd (omega arith)) (λ k l s. absurd (omega arith)) (λ k l s. absurd (omega arith))
    (kind_at all) (length_at all) parts.0 parts.1 kind' len' (ap (judged parts.0) (sym behind) ∙ parts.2)
  where
    made : (h body : List ℕ) → (n : ℕ) → 1 ≤ n → n ≤ 65536 → ◌≡◌ {A = ℕ} 130 130 → 24 * n ≡ length_at (take 5 kept) → judged (many (3 * n)) (flat_map poly_body ps ++ drop 5 kept) ≡ Short → InPolys kept ps
    made h body n some few k l short =
        let fewer : length ps < n =
        omega (arith, total_gt (many (3 * n)) (flat_map poly_body ps ++ drop 5 kept) short, total_many (3 * n), length-append (flat_map poly_body ps) (drop 5 kept), length-poly_bodies ps) in
        record { n = n; len = sym l; some = some; few = few; fewer = fewer; rest = sym (behind_polys n ps (drop 5 kept) (omega arith) is.elements) ∙ short }

-- what is told of the first parts is told of all
judged_more : (ps qs : List Part) (bytes : List ℕ) → judged ps bytes ≢ Good → judged (ps ++ qs) bytes ≡ judged ps bytes
judged_more [] qs bytes seen = absurd (seen refl)
judged_more (p ∷ ps) qs bytes seen = by_test (nat_lt (length bytes) (size_of p)) refl (judged_more ps qs (drop (size_of p) bytes))
  where
    by_part : size_of p ≤ length bytes → (t : Bool) → is_part p (take (size_of p) bytes) ≡ t
        → (judged ps (drop (size_of p) bytes) ≢ Good → judged (ps ++ qs) (drop (size_of p) bytes) ≡ judged ps (drop (size_of p) bytes))
        → judged (p ∷ (ps ++ qs)) bytes ≡ judged (p ∷ ps) bytes
    by_part room true e later =
        let mine = judged_part p ps bytes room ∙ ap (λ t. behind t (judged ps (drop (size_of p) bytes))) e in
        judged_part p (ps ++ qs) bytes room
        ∙ (ap (λ t. behind t (judged (ps ++ qs) (drop (size_of p) bytes))) e ∙ (later (λ g. seen (mine ∙ g)) ∙ sym mine))
    by_part room false e later =
        judged_part p (ps ++ qs) bytes room
        ∙ (ap (λ t. behind t (judged (ps ++ qs) (drop (size_of p) bytes))) e
        ∙ sym (judged_part p ps bytes room ∙ ap (λ t. behind t (judged ps (drop (size_of p) bytes))) e))

    by_test : (t : Bool) → nat_lt (length bytes) (size_of p) ≡ t
        → (judged ps (drop (size_of p) bytes) ≢ Good → judged (ps ++ qs) (drop (size_of p) bytes) ≡ judged ps (drop (size_of p) bytes))
        → judged (p ∷ (ps ++ qs)) bytes ≡ judged (p ∷ ps) bytes
    by_test true e later =
        let few = is_below (length bytes) (size_of p) e in judged_short p (ps ++ qs) bytes few ∙ sym (judged_short p ps bytes few)
    by_test false e later = by_part (at_least (length bytes) (size_of p) e) (is_part p (take (size_of p) bytes)) refl later

-- one polynomial of those to come
one_of : (m : ℕ) (part : List ℕ) → 1 ≤ m → judged (many 3) part ≢ Good → judged (many (3 * m)) part ≡ judged (many 3) part
one_of m part some seen =
    ap (λ k. judged (many k) part) (let e : 3 * m ≡ suc (suc (suc (3 * m - 3))) = omega arith in e) ∙ judged_more (many 3) (many (3 * m - 3)) part seen

pub poly_before : (kept : List ℕ) (ps : List Quadratic) → InPolys kept ps → length (drop 5 kept) < 24 → judged (many 3) (drop 5 kept) ≡ Short
poly_before kept ps i few =
    let fewer = i.fewer in
    let seen : judged (many 3) (drop 5 kept) ≢ Good = λ e. let l = total_le (many 3) (drop 5 kept) e in absurd (omega arith) in
    sym (one_of (i.n - length ps) (drop 5 kept) (omega arith) seen) ∙ i.rest

-- with a byte more
stream_more : (kept : List ℕ) (ps : List Quadratic) (b : ℕ) → 5 ≤ length kept → stream_of (kept ++ b ∷ []) ps ≡ stream_of kept ps ++ b ∷ []
stream_more kept ps b room =
    ap₂ (λ h t. h ++ (flat_map poly_body ps ++ t)) (take-append-le 5 kept (b ∷ []) room) (drop-append-le 5 kept (b ∷ []) room)
    ∙ (ap (λ t. take 5 kept ++ t) (sym (append_assoc (flat_map poly_body ps) (drop 5 kept) (b ∷ []))) ∙ sym (append_assoc (take 5 kept) (flat_map poly_body ps ++ drop 5 kept) (b ∷ [])))

pub stream_nothing : (kept : List ℕ) → stream_of kept [] ≡ kept
stream_nothing kept = take-append-drop 5 kept

pub open_empty : IsOpen [] []
open_empty = record {
  partial = front_early reply_grammar [] (omega arith);
  small = omega arith;
  elements = All-nil HasElements;
  kind = λ l. absurd (omega arith);
  part = λ e. omega arith;
}

-- a kind is that of a header
header_there : (kept : List ℕ) → kind_at kept ≡ 130 → 5 ≤ length kept
header_there kept e = by_test (nat_lt (length kept) 5) refl
  where
    by_test : (t : Bool) → nat_lt (length kept) 5 ≡ t → 5 ≤ length kept
    by_test true s =
        let few = is_below (length kept) 5 s in
        let none = get_or_past kept 4 0 (omega arith) in absurd (omega arith)
    by_test false s = at_least (length kept) 5 s

-- no polynomial is kept before bytes of polynomials came
pub no_polys_yet : (kept : List ℕ) (ps : List Quadratic) (b : ℕ) → IsOpen kept ps → (kind_at (kept ++ b ∷ []) ≡ 130 → length (kept ++ b ∷ []) ≤ 5) → ps ≡ []
no_polys_yet kept [] b is few = refl
no_polys_yet kept (p ∷ ps) b is few =
    let kind = is.kind (omega arith) in
    let room = header_there kept kind in
    let long = length-append kept (b ∷ []) in
    let bad = few (get_or_append_left kept (b ∷ []) 0 4 (omega arith) ∙ kind) in absurd (omega arith)

-- a stream has begun if bytes are kept
pub stream_begun : (kept : List ℕ) (ps : List Quadratic) → IsOpen kept ps → nat_lt 0 (length kept) ≡ nat_lt 0 (length (stream_of kept ps))
stream_begun kept [] is = ap (λ xs. nat_lt 0 (length xs)) (sym (stream_nothing kept))
stream_begun kept (p ∷ ps) is =
    let room = header_there kept (is.kind (omega arith)) in
    let rest = flat_map poly_body (p ∷ ps) ++ drop 5 kept in
    let long : length (stream_of kept (p ∷ ps)) ≡ length (take 5 kept) + length rest = length-append (take 5 kept) rest in
    below_true 0 (length kept) (omega arith) ∙ sym (below_true 0 (length (stream_of kept (p ∷ ps))) (omega (arith, length-take-le 5 kept room)))

-- the bytes of a small frame, with a byte more
pub small_more : (kept : List ℕ) (ps : List Quadratic) (b : ℕ) → IsOpen kept ps → (kind_at (kept ++ b ∷ []) ≡ 130 → length (kept ++ b ∷ []) ≤ 5)
    → kept ++ b ∷ [] ≡ stream_of kept ps ++ b ∷ []
small_more kept ps b is few = ap (λ s. s ++ b ∷ []) (sym (ap (stream_of kept) (no_polys_yet kept ps b is few) ∙ stream_nothing kept))

pub small_open : (kept : List ℕ) (ps : List Quadratic) (b : ℕ) → IsOpen kept ps → (kind_at (kept ++ b ∷ []) ≡ 130 → length (kept ++ b ∷ []) ≤ 5)
    → front reply_grammar (kept ++ b ∷ []) ≡ Partial → IsOpen (kept ++ b ∷ []) ps
small_open kept ps b is few told =
    let none = no_polys_yet kept ps b is few in
    let new = kept ++ b ∷ [] in
    subst (IsOpen new) (sym none) (record {
      partial = ap (front reply_grammar) (stream_nothing new) ∙ told;
      small = replies_short new told few;
      elements = All-nil HasElements;
      kind = λ l. absurd (omega arith);
      part = λ e. let l = few e in omega arith;
    })

-- the bytes behind a header of polynomials: their judgement is that of the stream
pub front_part : (kept : List ℕ) (ps : List Quadratic) (part : List ℕ) (i : InPolys kept ps) → 5 ≤ length kept → kind_at kept ≡ 130 → All HasElements ps
    → front reply_grammar (take 5 kept ++ (flat_map poly_body ps ++ part))
    ≡ front_of_judged (reply_in 130 (take (24 * i.n) (flat_map poly_body ps ++ part))) (5 + 24 * i.n) (judged (many (3 * (i.n - length ps))) part)
front_part kept ps part i room kind ok =
    let body = flat_map poly_body ps ++ part in
    let fewer = i.fewer in
    front_polys (take 5 kept) body i.n (length-take-le 5 kept room) (head_kind kept room ∙ kind) i.len i.some i.few
    ∙ ap (front_of_judged (reply_in 130 (take (24 * i.n) body)) (5 + 24 * i.n)) (behind_polys i.n ps part (omega arith) ok)

stream_new : (kept : List ℕ) (ps : List Quadratic) (b : ℕ) → 5 ≤ length kept
    → stream_of (kept ++ b ∷ []) ps ≡ take 5 kept ++ (flat_map poly_body ps ++ drop 5 (kept ++ b ∷ []))
stream_new kept ps b room = ap (λ h. h ++ (flat_map poly_body ps ++ drop 5 (kept ++ b ∷ []))) (take-append-le 5 kept (b ∷ []) room)

-- a byte behind a header of polynomials
pub record IsPolyByte (kept : List ℕ) (ps : List Quadratic) (b : ℕ) : Type 0 where
  pub is : IsOpen kept ps
  pub room : 5 ≤ length kept
  pub kind : kind_at kept ≡ 130
  pub within : InPolys kept ps

pub poly_byte : (kept : List ℕ) (ps : List Quadratic) (b : ℕ) → IsOpen kept ps → 6 ≤ length (kept ++ b ∷ []) → kind_at (kept ++ b ∷ []) ≡ 130 → IsPolyByte kept ps b
poly_byte kept ps b is long k =
    let room : 5 ≤ length kept = omega (arith, length-append kept (b ∷ [])) in
    let kind : kind_at kept ≡ 130 = sym (get_or_append_left kept (b ∷ []) 0 4 (omega arith)) ∙ k in
    record { is = is; room = room; kind = kind; within = in_polys kept ps is room kind }

new_kind : (kept : List ℕ) (b : ℕ) → 5 ≤ length kept → kind_at (kept ++ b ∷ []) ≡ kind_at kept
new_kind kept b room = get_or_append_left kept (b ∷ []) 0 4 (omega arith)

-- what three elements tell is told of the stream, if they aren't all there
poly_front : (kept : List ℕ) (ps : List Quadratic) (b : ℕ) (h : IsPolyByte kept ps b) → judged (many 3) (drop 5 (kept ++ b ∷ [])) ≢ Good
    → front reply_grammar (stream_of (kept ++ b ∷ []) ps)
    ≡ front_of_judged (reply_in 130 (take (24 * h.within.n) (flat_map poly_body ps ++ drop 5 (kept ++ b ∷ [])))) (5 + 24 * h.within.n) (judged (many 3) (drop 5 (kept ++ b ∷ [])))
poly_front kept ps b h seen =
    let part = drop 5 (kept ++ b ∷ []) in
    let i = h.within in
    let fewer = i.fewer in
    ap (front reply_grammar) (stream_new kept ps b h.room)
    ∙ (front_part kept ps part i h.room h.kind h.is.elements
    ∙ ap (front_of_judged (reply_in 130 (take (24 * i.n) (flat_map poly_body ps ++ part))) (5 + 24 * i.n)) (one_of (i.n - length ps) part (omega arith) seen))

pub poly_inside : (kept : List ℕ) (ps : List Quadratic) (b : ℕ) → IsPolyByte kept ps b → judged (many 3) (drop 5 (kept ++ b ∷ [])) ≡ Short → IsOpen (kept ++ b ∷ []) ps
poly_inside kept ps b h short =
    let new = kept ++ b ∷ [] in
    let part = drop 5 new in
    let i = h.within in
    let told = poly_front kept ps b h (λ g. let bad : Good ≡ Short = sym g ∙ short in cc) in
    let fewer : length new < 29 = omega (arith, total_gt (many 3) part short, length-drop 5 new) in
    record {
      partial = told ∙ ap (front_of_judged (reply_in 130 (take (24 * i.n) (flat_map poly_body ps ++ part))) (5 + 24 * i.n)) short;
      small = omega arith;
      elements = h.is.elements;
      kind = λ l. new_kind kept b h.room ∙ h.kind;
      part = λ e. fewer;
    }

pub poly_bad : (kept : List ℕ) (ps : List Quadratic) (b : ℕ) → IsPolyByte kept ps b → judged (many 3) (drop 5 (kept ++ b ∷ [])) ≡ Bad
    → front reply_grammar (stream_of (kept ++ b ∷ []) ps) ≡ Broken
poly_bad kept ps b h bad =
    let part = drop 5 (kept ++ b ∷ []) in
    let i = h.within in
    poly_front kept ps b h (λ g. let bad : Good ≡ Bad = sym g ∙ bad in cc)
    ∙ ap (front_of_judged (reply_in 130 (take (24 * i.n) (flat_map poly_body ps ++ part))) (5 + 24 * i.n)) bad

pub byte_stream : (kept : List ℕ) (ps : List Quadratic) (b : ℕ) → IsPolyByte kept ps b → stream_of (kept ++ b ∷ []) ps ≡ stream_of kept ps ++ b ∷ []
byte_stream kept ps b h = stream_more kept ps b h.room

-- with the polynomial that the byte ends
pub poly_stream : (kept : List ℕ) (ps : List Quadratic) (b : ℕ) (p : Quadratic) → IsPolyByte kept ps b → drop 5 (kept ++ b ∷ []) ≡ poly_body p
    → stream_of (take 5 (kept ++ b ∷ [])) (ps ++ p ∷ []) ≡ stream_of kept ps ++ b ∷ []
poly_stream kept ps b p h e =
    let new = kept ++ b ∷ [] in
    let head = take 5 new in
    let room = h.room in
    let long : length head ≡ 5 = length-take-le 5 new (omega (arith, length-append kept (b ∷ []))) in
    let bodies : flat_map poly_body (ps ++ p ∷ []) ≡ flat_map poly_body ps ++ poly_body p =
    flat_map-append poly_body ps (p ∷ []) ∙ ap (λ ys. flat_map poly_body ps ++ ys) (append-nil (poly_body p)) in
    ap₂ (λ x y. x ++ y) (take_all 5 head (omega arith))
    (ap₂ (λ x y. x ++ y) (bodies ∙ ap (λ ys. flat_map poly_body ps ++ ys) (sym e)) (drop_all 5 head (omega arith)) ∙ append-nil (flat_map poly_body ps ++ drop 5 new))
    ∙ byte_stream kept ps b h

more_elements : (ps : List Quadratic) (p : Quadratic) → All HasElements ps → HasElements p → All HasElements (ps ++ p ∷ [])
more_elements ps p ok also = All-append HasElements ps (p ∷ []) ok (All-cons HasElements p [] also (All-nil HasElements))

-- what is told of so many whole polynomials
whole_front : (kept : List ℕ) (ps : List Quadratic) (b : ℕ) (p : Quadratic) (h : IsPolyByte kept ps b) → HasElements p
    → front reply_grammar (stream_of (take 5 (kept ++ b ∷ [])) (ps ++ p ∷ []))
    ≡ front_of_judged (reply_in 130 (take (24 * h.within.n) (flat_map poly_body (ps ++ p ∷ []) ++ []))) (5 + 24 * h.within.n) (judged (many (3 * (h.within.n - (length ps + 1)))) [])
whole_front kept ps b p h ok =
    let new = kept ++ b ∷ [] in
    let head = take 5 new in
    let i = h.within in
    let room = h.room in
    let fewer = i.fewer in
    let all = more_elements ps p h.is.elements ok in
    let long : length head ≡ 5 = length-take-le 5 new (omega (arith, length-append kept (b ∷ []))) in
    let same : head ≡ take 5 kept = take-append-le 5 kept (b ∷ []) room in
    let count : length (ps ++ p ∷ []) ≡ length ps + 1 = length-append ps (p ∷ []) in
    let body = flat_map poly_body (ps ++ p ∷ []) ++ [] in
    ap₂ (λ x y. front reply_grammar (x ++ (flat_map poly_body (ps ++ p ∷ []) ++ y))) (take_all 5 head (omega arith)) (drop_all 5 head (omega arith))
    ∙ (front_polys head body i.n long (ap kind_at same ∙ (head_kind kept room ∙ h.kind)) (ap length_at same ∙ i.len) i.some i.few
    ∙ (ap (front_of_judged (reply_in 130 (take (24 * i.n) body)) (5 + 24 * i.n)) (behind_polys i.n (ps ++ p ∷ []) [] (omega arith) all)
    ∙ ap (λ c. front_of_judged (reply_in 130 (take (24 * i.n) body)) (5 + 24 * i.n) (judged (many (3 * (i.n - c))) [])) count))

pub poly_more : (kept : List ℕ) (ps : List Quadratic) (b : ℕ) (p : Quadratic) (h : IsPolyByte kept ps b) → HasElements p → length ps + 1 < h.within.n
    → IsOpen (take 5 (kept ++ b ∷ [])) (ps ++ p ∷ [])
poly_more kept ps b p h ok l =
    let new = kept ++ b ∷ [] in
    let head = take 5 new in
    let i = h.within in
    let room = h.room in
    let body = flat_map poly_body (ps ++ p ∷ []) ++ [] in
    let long : length head ≡ 5 = length-take-le 5 new (omega (arith, length-append kept (b ∷ []))) in
    let kind : kind_at head ≡ 130 = ap kind_at (take-append-le 5 kept (b ∷ []) room) ∙ (head_kind kept room ∙ h.kind) in
    record {
      partial = whole_front kept ps b p h ok ∙ ap (front_of_judged (reply_in 130 (take (24 * i.n) body)) (5 + 24 * i.n)) (some_to_come (3 * (i.n - (length ps + 1))) (omega arith));
      small = omega arith;
      elements = more_elements ps p h.is.elements ok;
      kind = λ s. kind;
      part = λ e. omega arith;
    }

pub poly_last : (kept : List ℕ) (ps : List Quadratic) (b : ℕ) (p : Quadratic) (h : IsPolyByte kept ps b) → HasElements p → h.within.n ≤ length ps + 1
    → front reply_grammar (stream_of (take 5 (kept ++ b ∷ [])) (ps ++ p ∷ [])) ≡ Whole (Polys (ps ++ p ∷ [])) (5 + 24 * h.within.n)
poly_last kept ps b p h ok l =
    let i = h.within in
    let n = i.n in
    let fewer = i.fewer in
    let qs = ps ++ p ∷ [] in
    let bodies = flat_map poly_body qs in
    let count : length qs ≡ n = length-append ps (p ∷ []) ∙ (let e : length ps + 1 ≡ n = omega arith in e) in
    let long : length bodies ≡ 24 * n = length-poly_bodies qs ∙ ap (λ c. 24 * c) count in
    let body : take (24 * n) (bodies ++ []) ≡ bodies = ap (take (24 * n)) (append-nil bodies) ∙ take_all (24 * n) bodies (omega arith) in
    let read : polys_in (length bodies / 24) bodies ≡ qs =
    ap (λ c. polys_in c bodies) (let e : length bodies / 24 ≡ length qs = omega arith in e) ∙ polys_back qs (more_elements ps p h.is.elements ok) in
    whole_front kept ps b p h ok
    ∙ (ap (λ k. front_of_judged (reply_in 130 (take (24 * n) (bodies ++ []))) (5 + 24 * n) (judged (many k) [])) (let e : 3 * (n - (length ps + 1)) ≡ 0 = omega arith in e)
    ∙ ap (λ s. Whole s (5 + 24 * n)) (ap (reply_in 130) body ∙ ap Polys read))
