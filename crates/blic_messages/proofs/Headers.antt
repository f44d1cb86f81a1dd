-- What bytes begin with, by their header and their body.
use Rattle.std.proofs.Common.{◌≡◌, ◌≢◌, ℕ, zero, suc, ◌+◌, ◌-◌, ◌^◌, ◌<◌, ◌≤◌, Bool, true, false, cond, List, [], ◌∷◌, ◌++◌, length, get_or, take, drop, refl, ap, sym, ◌∙◌, arith, length-append, drop-cons, subst}
use mathlib.Core.Path.{ap₂}
use Rattle.std.specs.Prelude.{nat_lt, Option, Some, None}
use Rattle.std.proofs.lemmas.List.{take-append-le, drop-append-le, length-drop, length-take-le, take-take, drop-take, take-append-drop, take_rest, get_or-drop, get_or-take, get_or_append_left}
use Rattle.std.proofs.lemmas.List.Elements.{All-head, All-tail}
use Rattle.std.proofs.Math.Seq.{take-append_seam, take-add}
use Rattle.byteorder.specs.Endian.{big_bytes, big_number}
use Rattle.byteorder.specs.Numbers.{big_number-reads_back, big_from-append, big_from-take}
use Rattle.blic_messages.specs.Frames.{framed}
use Rattle.blic_messages.specs.Grammar.{Grammar, Part, Judged, Good, Bad, Short, judged, Front, Whole, Broken, Partial, front, front_of_judged, front_of_body, kind_at, length_at}
use Rattle.blic_messages.specs.FrontLaws.{AreBytes, SpellingsAreWhole, WholeIsSpelled, FrontStays, BrokenIsNoFrame, OneSpellingBegins}
use Rattle.blic_messages.proofs.Numbers.{bytes-number}
use Rattle.blic_messages.proofs.Judging.{not_below, below_true, is_below, at_least, total, total_le, judged_longer, judged_take}

-- the body's front, by the header's kind and length
abbrev pub body_front : {F : Type 0} → Grammar F → ℕ → ℕ → List ℕ → Front F
body_front g kind len body = front_of_body g kind len (g.parts kind len) body

pub front_at : {F : Type 0} (g : Grammar F) (bytes : List ℕ) → 5 ≤ length bytes → front g bytes ≡ body_front g (kind_at bytes) (length_at bytes) (drop 5 bytes)
unfolding front
front_at g bytes l = ap (λ t. cond t Partial (body_front g (kind_at bytes) (length_at bytes) (drop 5 bytes))) (not_below (length bytes) 5 l)

pub front_early : {F : Type 0} (g : Grammar F) (bytes : List ℕ) → length bytes < 5 → front g bytes ≡ Partial
unfolding front
front_early g bytes l = ap (λ t. cond t Partial (body_front g (kind_at bytes) (length_at bytes) (drop 5 bytes))) (below_true (length bytes) 5 l)

-- with the kind and the length read
pub header_read : {F : Type 0} (g : Grammar F) (bytes : List ℕ) (kind len read : ℕ) → 5 ≤ length bytes → kind_at bytes ≡ kind → read ≡ len → read ≡ big_number 4 bytes
    → body_front g kind len (take (length bytes - 5) (drop 5 bytes)) ≡ front g bytes
header_read g bytes kind len read room k n is =
    ap (body_front g kind len) (take_rest bytes 5)
    ∙ (ap (λ j. body_front g j len (drop 5 bytes)) (sym k)
    ∙ (ap (λ l. body_front g (kind_at bytes) l (drop 5 bytes)) (sym n ∙ is) ∙ sym (front_at g bytes room)))

-- with no row of the table
pub no_row : {F : Type 0} (g : Grammar F) (bytes : List ℕ) (len : ℕ) → 5 ≤ length bytes → len ≡ big_number 4 bytes → g.parts (kind_at bytes) len ≡ None → Broken ≡ front g bytes
no_row g bytes len room is none =
    sym (ap (λ o. front_of_body g (kind_at bytes) len o (take (length bytes - 5) (drop 5 bytes))) none) ∙ header_read g bytes (kind_at bytes) len len room refl refl is

-- bytes of which something is told have a header
pub has_header : {F : Type 0} (g : Grammar F) (bytes : List ℕ) → front g bytes ≢ Partial → 5 ≤ length bytes
has_header g bytes seen = by_test (nat_lt (length bytes) 5) refl
  where
    by_test : (t : Bool) → nat_lt (length bytes) 5 ≡ t → 5 ≤ length bytes
    by_test true e = absurd (seen (front_early g bytes (is_below (length bytes) 5 e)))
    by_test false e = at_least (length bytes) 5 e

pub front_framed : {F : Type 0} (g : Grammar F) (kind len : ℕ) (body : List ℕ) → len < 256 ^ 4 → front g (big_bytes 4 len ++ kind ∷ body) ≡ body_front g kind len body
front_framed g kind len body short =
    front_at g (big_bytes 4 len ++ kind ∷ body) (omega arith) ∙ ap (λ n. body_front g kind n body) (big_number-reads_back 4 len (kind ∷ body) short)

-- the parts of a body have its length
abbrev pub HasSizes : {F : Type 0} → Grammar F → Type 0
HasSizes g = (kind len : ℕ) (ps : List Part) → g.parts kind len ≡ Some ps → total ps ≡ len

body_stays : {F : Type 0} (g : Grammar F) → HasSizes g → (kind len : ℕ) (body more : List ℕ) → body_front g kind len body ≢ Partial
    → body_front g kind len (body ++ more) ≡ body_front g kind len body
body_stays {F = F} g sizes kind len body more = by_parts (g.parts kind len) refl
  where
    by_judged : (ps : List Part) → total ps ≡ len → (j : Judged) → judged ps body ≡ j → front_of_judged (g.frame kind (take len body)) (5 + len) j ≢ Partial
        → front_of_judged (g.frame kind (take len (body ++ more))) (5 + len) (judged ps (body ++ more)) ≡ front_of_judged (g.frame kind (take len body)) (5 + len) j
    by_judged ps is Good e seen =
        let room = total_le ps body e in
        ap₂ (λ b j. front_of_judged (g.frame kind b) (5 + len) j) (take-append-le len body more (omega arith))
        (judged_longer ps body more (λ s. let bad : Good ≡ Short = sym e ∙ s in cc) ∙ e)
    by_judged ps is Bad e seen =
        ap (front_of_judged (g.frame kind (take len (body ++ more))) (5 + len)) (judged_longer ps body more (λ s. let bad : Bad ≡ Short = sym e ∙ s in cc) ∙ e)
    by_judged ps is Short e seen = absurd (seen refl)

    by_parts : (o : Option (List Part)) → g.parts kind len ≡ o → front_of_body g kind len o body ≢ Partial → front_of_body g kind len o (body ++ more) ≡ front_of_body g kind len o body
    by_parts None e seen = refl
    by_parts (Some ps) e seen = by_judged ps (sizes kind len ps e) (judged ps body) refl seen

pub front_stays : {F : Type 0} (g : Grammar F) → HasSizes g → FrontStays g
front_stays g sizes bytes more seen =
    let room = has_header g bytes seen in
    let here = front_at g bytes room in
    front_at g (bytes ++ more) (omega (arith, length-append bytes more))
    ∙ (ap (λ k. body_front g k (length_at (bytes ++ more)) (drop 5 (bytes ++ more))) (get_or_append_left bytes more 0 4 (omega arith))
    ∙ (ap (λ n. body_front g (kind_at bytes) n (drop 5 (bytes ++ more))) (big_from-append 4 bytes more (omega arith))
    ∙ (ap (body_front g (kind_at bytes) (length_at bytes)) (drop-append-le 5 bytes more room)
    ∙ (body_stays g sizes (kind_at bytes) (length_at bytes) (drop 5 bytes) more (λ e. seen (here ∙ e)) ∙ sym here))))

-- a frame's spelling by its kind and its body
pub record IsBodyOf {F : Type 0} (g : Grammar F) (spelling : List ℕ) (f : F) : Type 0 where
  pub kind : ℕ
  pub body : List ℕ
  pub parts : List Part
  pub is : spelling ≡ framed kind body
  pub short : length body < 256 ^ 4
  pub has : g.parts kind (length body) ≡ Some parts
  pub good : judged parts body ≡ Good
  pub frame : g.frame kind body ≡ f

pub spelling_whole : {F : Type 0} (g : Grammar F) (f : F) (spelling more : List ℕ) → IsBodyOf g spelling f → front g (spelling ++ more) ≡ Whole f (length spelling)
spelling_whole g f spelling more b =
    ap (λ s. front g (s ++ more)) b.is
    ∙ (front_framed g b.kind (length b.body) (b.body ++ more) b.short
    ∙ (ap (λ o. front_of_body g b.kind (length b.body) o (b.body ++ more)) b.has
    ∙ (ap (front_of_judged (g.frame b.kind (take (length b.body) (b.body ++ more))) (5 + length b.body))
    (judged_longer b.parts b.body more (λ s. let bad : Good ≡ Short = sym b.good ∙ s in cc) ∙ b.good)
    ∙ ap₂ Whole (ap (g.frame b.kind) (take-append_seam b.body more) ∙ b.frame) (sym (ap length b.is ∙ omega arith)))))

abbrev pub Bytes : List ℕ → Type 0
Bytes xs = (k : ℕ) → get_or xs k 0 < 256

pub bytes_all : (xs : List ℕ) → AreBytes xs → Bytes xs
bytes_all [] all k = omega arith
bytes_all (x ∷ xs) all zero = All-head (λ b. b < 256) x xs all
bytes_all (x ∷ xs) all (suc k) = bytes_all xs (All-tail (λ b. b < 256) x xs all) k

pub bytes_take : (n : ℕ) (xs : List ℕ) → Bytes xs → Bytes (take n xs)
bytes_take zero xs bytes k = omega arith
bytes_take (suc n) [] bytes k = omega arith
bytes_take (suc n) (x ∷ xs) bytes zero = bytes 0
bytes_take (suc n) (x ∷ xs) bytes (suc k) = bytes_take n xs (λ j. bytes (suc j)) k

pub bytes_drop : (n : ℕ) (xs : List ℕ) → Bytes xs → Bytes (drop n xs)
bytes_drop n xs bytes k = omega (arith, get_or-drop n xs k 0, bytes (n + k))

-- a good body spells its frame
abbrev pub BodyIsSpelled : {F : Type 0} → Grammar F → (F → Type 0) → (F → List ℕ) → Type 0
BodyIsSpelled g ok spelling =
    (kind : ℕ) (ps : List Part) (b : List ℕ) → Bytes b → g.parts kind (length b) ≡ Some ps → judged ps b ≡ Good → ok (g.frame kind b) × (framed kind b ≡ spelling (g.frame kind b))

-- the header and a body of the length that it tells
framed_begins : (bytes : List ℕ) → Bytes bytes → 5 ≤ length bytes → length_at bytes ≤ length (drop 5 bytes)
    → take (5 + length_at bytes) bytes ≡ framed (kind_at bytes) (take (length_at bytes) (drop 5 bytes))
framed_begins bytes are room long =
    let len = length_at bytes in
    let body = take len (drop 5 bytes) in
    let head : take 4 bytes ≡ big_bytes 4 (length body) = sym (bytes-number 4 bytes (omega arith) are) ∙ ap (big_bytes 4) (sym (length-take-le len (drop 5 bytes) long)) in
    let fifth : drop 4 bytes ≡ kind_at bytes ∷ drop 5 bytes = drop-cons bytes 4 0 (omega arith) in
    ap (λ n. take n bytes) (let e : 5 + len ≡ 4 + suc len = omega arith in e)
    ∙ (take-add 4 (suc len) bytes ∙ ap₂ (λ ys zs. ys ++ zs) head (ap (take (suc len)) fifth))

-- the header, the parts and the body of bytes that begin with a whole frame
pub record HasWhole {F : Type 0} (g : Grammar F) (bytes : List ℕ) (f : F) (n : ℕ) : Type 0 where
  pub room : 5 ≤ length bytes
  pub parts : List Part
  pub has : g.parts (kind_at bytes) (length_at bytes) ≡ Some parts
  pub good : judged parts (drop 5 bytes) ≡ Good
  pub frame : g.frame (kind_at bytes) (take (length_at bytes) (drop 5 bytes)) ≡ f
  pub end : 5 + length_at bytes ≡ n

pub has_whole : {F : Type 0} (g : Grammar F) (bytes : List ℕ) (f : F) (n : ℕ) → front g bytes ≡ Whole f n → HasWhole g bytes f n
has_whole {F = F} g bytes f n is =
    let room = has_header g bytes (λ p. let bad : Whole f n ≡ Partial = sym is ∙ p in cc) in
    by_parts room (g.parts (kind_at bytes) (length_at bytes)) refl (sym (front_at g bytes room) ∙ is)
  where
    by_judged : 5 ≤ length bytes → (ps : List Part) → g.parts (kind_at bytes) (length_at bytes) ≡ Some ps → (j : Judged) → judged ps (drop 5 bytes) ≡ j
        → front_of_judged (g.frame (kind_at bytes) (take (length_at bytes) (drop 5 bytes))) (5 + length_at bytes) j ≡ Whole f n → HasWhole g bytes f n
    by_judged room ps has Good good e = record { room = room; parts = ps; has = has; good = good; frame = cc; end = cc }
    by_judged room ps has Bad good e = cc
    by_judged room ps has Short good e = cc

    by_parts : 5 ≤ length bytes → (o : Option (List Part)) → g.parts (kind_at bytes) (length_at bytes) ≡ o
        → front_of_body g (kind_at bytes) (length_at bytes) o (drop 5 bytes) ≡ Whole f n → HasWhole g bytes f n
    by_parts room None has e = cc
    by_parts room (Some ps) has e = by_judged room ps has (judged ps (drop 5 bytes)) refl e

-- the body is all there
body_there : {F : Type 0} (g : Grammar F) → HasSizes g → (bytes : List ℕ) (f : F) (n : ℕ) (h : HasWhole g bytes f n) → length_at bytes ≤ length (drop 5 bytes)
body_there g sizes bytes f n h =
    omega (arith, sizes (kind_at bytes) (length_at bytes) h.parts h.has, total_le h.parts (drop 5 bytes) h.good)

body_good : {F : Type 0} (g : Grammar F) → HasSizes g → (bytes : List ℕ) (f : F) (n : ℕ) (h : HasWhole g bytes f n)
    → judged h.parts (take (length_at bytes) (drop 5 bytes)) ≡ Good
body_good g sizes bytes f n h =
    ap (λ m. judged h.parts (take m (drop 5 bytes))) (sym (sizes (kind_at bytes) (length_at bytes) h.parts h.has)) ∙ judged_take h.parts (drop 5 bytes) h.good

pub whole_le : {F : Type 0} (g : Grammar F) → HasSizes g → (bytes : List ℕ) (f : F) (n : ℕ) → front g bytes ≡ Whole f n → n ≤ length bytes
whole_le g sizes bytes f n is =
    let h = has_whole g bytes f n is in
    let room = h.room in
    let end = h.end in
    let there = body_there g sizes bytes f n h in omega (arith, length-drop 5 bytes)

pub whole_spelled : {F : Type 0} (g : Grammar F) (ok : F → Type 0) (spelling : F → List ℕ) → HasSizes g → BodyIsSpelled g ok spelling → WholeIsSpelled g ok spelling
whole_spelled g ok spelling sizes spelled bytes f n are is =
    let h = has_whole g bytes f n is in
    let len = length_at bytes in
    let long = body_there g sizes bytes f n h in
    let b = take len (drop 5 bytes) in
    let body = spelled (kind_at bytes) h.parts b (bytes_take len (drop 5 bytes) (bytes_drop 5 bytes (bytes_all bytes are)))
    (ap (g.parts (kind_at bytes)) (length-take-le len (drop 5 bytes) long) ∙ h.has) (body_good g sizes bytes f n h) in (
      whole_le g sizes bytes f n is,
      subst ok h.frame body.0,
      ap (λ m. take m bytes) (sym h.end) ∙ (framed_begins bytes (bytes_all bytes are) h.room long ∙ (body.1 ∙ ap spelling h.frame)),
    )

-- a whole frame is told of its own bytes
pub whole_exact : {F : Type 0} (g : Grammar F) → HasSizes g → (bytes : List ℕ) (f : F) (n : ℕ) → front g bytes ≡ Whole f n → front g (take n bytes) ≡ Whole f n
whole_exact g sizes bytes f n is =
    let h = has_whole g bytes f n is in
    let len = length_at bytes in
    let all = whole_le g sizes bytes f n is in
    let end = h.end in
    let first = take n bytes in
    let kind : kind_at first ≡ kind_at bytes = get_or-take n bytes 4 0 (omega arith) in
    let field : length_at first ≡ len = big_from-take 0 4 n bytes (omega arith) in
    let body : drop 5 first ≡ take len (drop 5 bytes) = ap (λ m. drop 5 (take m bytes)) (sym end) ∙ drop-take 5 len bytes in
    front_at g first (omega (arith, h.room, length-take-le n bytes all))
    ∙ (ap (λ k. body_front g k (length_at first) (drop 5 first)) kind
    ∙ (ap (λ l. body_front g (kind_at bytes) l (drop 5 first)) field
    ∙ (ap (body_front g (kind_at bytes) len) body
    ∙ (ap (λ o. front_of_body g (kind_at bytes) len o (take len (drop 5 bytes))) h.has
    ∙ (ap (front_of_judged (g.frame (kind_at bytes) (take len (take len (drop 5 bytes)))) (5 + len)) (body_good g sizes bytes f n h)
    ∙ ap₂ Whole (ap (g.frame (kind_at bytes)) (take-take len len (drop 5 bytes) (omega arith)) ∙ h.frame) end)))))

-- a frame ends behind bytes of which nothing was told
pub whole_later : {F : Type 0} (g : Grammar F) → HasSizes g → (xs ys : List ℕ) (f : F) (n : ℕ)
    → front g xs ≡ Partial → front g (xs ++ ys) ≡ Whole f n → (length xs < n) × (n ≤ length xs + length ys)
whole_later g sizes xs ys f n partial whole =
    let all = whole_le g sizes (xs ++ ys) f n whole in
    (by_test (nat_lt (length xs) n) refl, omega (arith, length-append xs ys))
  where
    by_test : (t : Bool) → nat_lt (length xs) n ≡ t → length xs < n
    by_test true e = is_below (length xs) n e
    by_test false e =
        let within = at_least (length xs) n e in
        let exact : front g (take n xs) ≡ Whole f n = ap (front g) (sym (take-append-le n xs ys within)) ∙ whole_exact g sizes (xs ++ ys) f n whole in
        let longer : front g (take n xs ++ drop n xs) ≡ front g (take n xs) =
        front_stays g sizes (take n xs) (drop n xs) (λ p. let bad : Whole f n ≡ Partial = sym exact ∙ p in cc) in
        let bad : Partial ≡ Whole f n = sym partial ∙ (ap (front g) (sym (take-append-drop n xs)) ∙ (longer ∙ exact)) in
        cc

pub broken_no_frame : {F : Type 0} (g : Grammar F) (ok : F → Type 0) (spelling : F → List ℕ) → SpellingsAreWhole g ok spelling → FrontStays g → BrokenIsNoFrame g ok spelling
broken_no_frame g ok spelling whole stays bytes more rest f broken is e =
    let still : front g (bytes ++ more) ≡ Broken = stays bytes more (λ p. let bad : Broken ≡ Partial = sym broken ∙ p in cc) ∙ broken in
    let read : front g (bytes ++ more) ≡ Whole f (length (spelling f)) = ap (front g) e ∙ whole f rest is in
    let bad : Broken ≡ Whole f (length (spelling f)) = sym still ∙ read in cc

pub one_begins : {F : Type 0} (g : Grammar F) (ok : F → Type 0) (spelling : F → List ℕ) → SpellingsAreWhole g ok spelling → OneSpellingBegins ok spelling
one_begins g ok spelling whole f h more rest is also e =
    let same : Whole f (length (spelling f)) ≡ Whole h (length (spelling h)) = sym (whole f more is) ∙ (ap (front g) e ∙ whole h rest also) in cc

-- bytes of which nothing is told yet have no header, or a header and a body with a part to come
pub partial_parts : {F : Type 0} (g : Grammar F) (bytes : List ℕ) → 5 ≤ length bytes → front g bytes ≡ Partial
    → (ps : List Part) × (g.parts (kind_at bytes) (length_at bytes) ≡ Some ps) × (judged ps (drop 5 bytes) ≡ Short)
partial_parts {F = F} g bytes room is = by_parts (g.parts (kind_at bytes) (length_at bytes)) refl (sym (front_at g bytes room) ∙ is)
  where
    by_judged : (ps : List Part) → (j : Judged) → judged ps (drop 5 bytes) ≡ j
        → front_of_judged (g.frame (kind_at bytes) (take (length_at bytes) (drop 5 bytes))) (5 + length_at bytes) j ≡ Partial → judged ps (drop 5 bytes) ≡ Short
    by_judged ps Good good e = cc
    by_judged ps Bad good e = cc
    by_judged ps Short good e = good

    by_parts : (o : Option (List Part)) → g.parts (kind_at bytes) (length_at bytes) ≡ o → front_of_body g (kind_at bytes) (length_at bytes) o (drop 5 bytes) ≡ Partial
        → (ps : List Part) × (g.parts (kind_at bytes) (length_at bytes) ≡ Some ps) × (judged ps (drop 5 bytes) ≡ Short)
    by_parts None has e = cc
    by_parts (Some ps) has e = (ps, has, by_judged ps (judged ps (drop 5 bytes)) refl e)
