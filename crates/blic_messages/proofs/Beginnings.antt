-- Bytes of which nothing is told begin a frame, but for fewer than eight at their end.
use Rattle.std.proofs.Common.{◌≡◌, ℕ, zero, suc, ◌+◌, ◌-◌, ◌<◌, ◌≤◌, Bool, true, false, nat_lt, List, [], ◌∷◌, ◌++◌, length, take, drop, replicate, Some, refl, ap, sym, ◌∙◌, arith, length-append, length-drop, append_assoc}
use Rattle.std.proofs.lemmas.List.{drop-append-le, take_all, drop-take, take_at, drop_at, get_or_append_left, get_or-take, length-take-le, length-replicate}
use Rattle.std.proofs.Math.Seq.{take-add}
use Rattle.byteorder.specs.Numbers.{big_from-append, big_from-take}
use Rattle.blic_messages.specs.Grammar.{Grammar, Part, Element, OneOf, Free, size_of, is_part, Good, Short, judged, Whole, front, front_of_body, front_of_judged, kind_at, length_at}
use Rattle.blic_messages.specs.FrontLaws.{PartialBegins}
use Rattle.blic_messages.proofs.Judging.{is_below, at_least, behind, judged_part}
use Rattle.blic_messages.proofs.Headers.{front_at, body_front, partial_parts}

-- some bytes pass as the part
abbrev pub CanPass : Part → Type 0
CanPass p = (x : List ℕ) × (length x ≡ size_of p) × (is_part p x ≡ true)

abbrev pub AllPass : List Part → Type 0
AllPass [] = Unit {0}
AllPass (p ∷ ps) = CanPass p × AllPass ps

-- a first part that passes
pass_part : (p : Part) (ps : List Part) (x rest : List ℕ) → length x ≡ size_of p → is_part p x ≡ true → judged (p ∷ ps) (x ++ rest) ≡ judged ps rest
pass_part p ps x rest long ok =
    judged_part p ps (x ++ rest) (omega (arith, length-append x rest))
    ∙ (ap (λ b. behind (is_part p b) (judged ps (drop (size_of p) (x ++ rest)))) (take_at x rest (size_of p) long)
    ∙ (ap (λ t. behind t (judged ps (drop (size_of p) (x ++ rest)))) ok ∙ ap (judged ps) (drop_at x rest (size_of p) long)))

-- bytes that pass as all the parts
fill : (ps : List Part) → AllPass ps → (x : List ℕ) × (judged ps x ≡ Good)
fill [] pass = ([], refl)
fill (p ∷ ps) pass =
    let rest = fill ps pass.1 in
    (pass.0.0 ++ rest.0, pass_part p ps pass.0.0 rest.0 pass.0.1 pass.0.2 ∙ rest.1)

-- a beginning of the bytes that goes on as good ones
record GoesOn (ps : List Part) (bytes : List ℕ) : Type 0 where
  kept : ℕ
  more : List ℕ
  within : kept ≤ length bytes
  near : length bytes < kept + 8
  good : judged ps (take kept bytes ++ more) ≡ Good

goes_on : (ps : List Part) → AllPass ps → (bytes : List ℕ) → judged ps bytes ≡ Short → GoesOn ps bytes
goes_on [] pass bytes short = cc
goes_on (p ∷ ps) pass bytes short = by_test (nat_lt (length bytes) (size_of p)) refl (goes_on ps pass.1 (drop (size_of p) bytes))
  where
    begun : (p : Part) → AllPass (p ∷ ps) → length bytes < size_of p → GoesOn (p ∷ ps) bytes
    begun Element pass few = let all = fill (Element ∷ ps) pass in record { kept = 0; more = all.0; within = omega arith; near = omega arith; good = all.1 }
    begun (OneOf codes) pass few = let all = fill (OneOf codes ∷ ps) pass in record { kept = 0; more = all.0; within = omega arith; near = omega arith; good = all.1 }
    begun (Free n) pass few =
        let rest = fill ps pass.1 in
        let zeros : List ℕ = replicate (n - length bytes) 0 in
        let long : length (bytes ++ zeros) ≡ n = length-append bytes zeros ∙ omega (arith, length-replicate {A = ℕ}) in
        record {
          kept = length bytes;
          more = zeros ++ rest.0;
          within = omega arith;
          near = omega arith;
          good = ap (λ b. judged (Free n ∷ ps) (b ++ (zeros ++ rest.0))) (take_all (length bytes) bytes (omega arith))
              ∙ (ap (judged (Free n ∷ ps)) (sym (append_assoc bytes zeros rest.0)) ∙ (pass_part (Free n) ps (bytes ++ zeros) rest.0 long refl ∙ rest.1));
        }

    passed : (t : Bool) → is_part p (take (size_of p) bytes) ≡ t → behind t (judged ps (drop (size_of p) bytes)) ≡ Short
        → (is_part p (take (size_of p) bytes) ≡ true) × (judged ps (drop (size_of p) bytes) ≡ Short)
    passed true e h = (e, h)
    passed false e h = cc

    by_test : (t : Bool) → nat_lt (length bytes) (size_of p) ≡ t → (judged ps (drop (size_of p) bytes) ≡ Short → GoesOn ps (drop (size_of p) bytes)) → GoesOn (p ∷ ps) bytes
    by_test true e later = begun p pass (is_below (length bytes) (size_of p) e)
    by_test false e later =
        let room = at_least (length bytes) (size_of p) e in
        let s = size_of p in
        let h = passed (is_part p (take s bytes)) refl (sym (judged_part p ps bytes room) ∙ short) in
        let rest = later h.1 in
        let within = rest.within in
        let near = rest.near in
        record {
          kept = s + rest.kept;
          more = rest.more;
          within = omega (arith, length-drop s bytes);
          near = omega (arith, length-drop s bytes);
          good = ap (λ b. judged (p ∷ ps) (b ++ rest.more)) (take-add s rest.kept bytes)
              ∙ (ap (judged (p ∷ ps)) (append_assoc (take s bytes) (take rest.kept (drop s bytes)) rest.more)
              ∙ (pass_part p ps (take s bytes) (take rest.kept (drop s bytes) ++ rest.more) (length-take-le s bytes room) h.0 ∙ rest.good));
        }

-- each part of the grammar is passed by some bytes
abbrev pub Passes : {F : Type 0} → Grammar F → Type 0
Passes g = (kind len : ℕ) (ps : List Part) → g.parts kind len ≡ Some ps → AllPass ps

-- the grammar has a frame
abbrev pub HasFrame : {F : Type 0} → Grammar F → Type 0
HasFrame {F = F} g = (x : List ℕ) × (f : F) × (n : ℕ) × (front g x ≡ Whole f n)

pub partial_begins : {F : Type 0} (g : Grammar F) → Passes g → HasFrame g → PartialBegins g
partial_begins {F = F} g passes some bytes partial = by_test (nat_lt (length bytes) 5) refl
  where
    by_test : (t : Bool) → nat_lt (length bytes) 5 ≡ t
        → (kept : ℕ) × (more : List ℕ) × (f : F) × (n : ℕ) × (kept ≤ length bytes) × (length bytes < kept + 8) × (front g (take kept bytes ++ more) ≡ Whole f n)
    by_test true e =
        let few = is_below (length bytes) 5 e in
        (0, some.0, some.1, some.2, omega arith, omega arith, some.3)
    by_test false e =
        let room = at_least (length bytes) 5 e in
        let h = partial_parts g bytes room partial in
        let on = goes_on h.0 (passes (kind_at bytes) (length_at bytes) h.0 h.1) (drop 5 bytes) h.2 in
        let within = on.within in
        let near = on.near in
        let first = take (5 + on.kept) bytes in
        let all = first ++ on.more in
        let long : length first ≡ 5 + on.kept = length-take-le (5 + on.kept) bytes (omega (arith, length-drop 5 bytes)) in
        let kind : kind_at all ≡ kind_at bytes = get_or_append_left first on.more 0 4 (omega arith) ∙ get_or-take (5 + on.kept) bytes 4 0 (omega arith) in
        let field : length_at all ≡ length_at bytes = big_from-append 4 first on.more (omega arith) ∙ big_from-take 0 4 (5 + on.kept) bytes (omega arith) in
        let body : drop 5 all ≡ take on.kept (drop 5 bytes) ++ on.more = drop-append-le 5 first on.more (omega arith) ∙ ap (λ b. b ++ on.more) (drop-take 5 on.kept bytes) in
        let read = take (length_at bytes) (take on.kept (drop 5 bytes) ++ on.more) in (
          5 + on.kept,
          on.more,
          g.frame (kind_at bytes) read,
          5 + length_at bytes,
          omega (arith, length-drop 5 bytes),
          omega (arith, length-drop 5 bytes),
          front_at g all (omega (arith, length-append first on.more))
              ∙ (ap (λ k. body_front g k (length_at all) (drop 5 all)) kind
              ∙ (ap (λ l. body_front g (kind_at bytes) l (drop 5 all)) field
              ∙ (ap (body_front g (kind_at bytes) (length_at bytes)) body
              ∙ (ap (λ o. front_of_body g (kind_at bytes) (length_at bytes) o (take on.kept (drop 5 bytes) ++ on.more)) h.1
              ∙ ap (front_of_judged (g.frame (kind_at bytes) read) (5 + length_at bytes)) on.good)))),
        )

pub element_passes : CanPass Element
element_passes = (replicate 8 0, refl, refl)

pub free_passes : (n : ℕ) → CanPass (Free n)
free_passes n = (replicate n 0, omega (arith, length-replicate {A = ℕ}), refl)

pub elements_pass : (n : ℕ) → AllPass (replicate n Element)
elements_pass zero = tt
elements_pass (suc n) = (element_passes, elements_pass n)
