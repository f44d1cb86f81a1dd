-- What was not refused yet can still be refused otherwise, so nothing before the last piece decides a refusal.
use Rattle.std.proofs.Common.{◌≡◌, ℕ, zero, suc, ◌+◌, ◌-◌, ◌<◌, ◌≤◌, true, List, [], ◌++◌, length, take, drop, replicate, refl, ap, sym, ◌∙◌, arith, inl, inr, subst, Result, Ok, Err, Option, length-append, append-nil, cond}
use Rattle.std.specs.Prelude.{nat_le, IfErr}
use Rattle.std.specs.Io.KnownBytes.{prepend_known}
use Rattle.std.proofs.KnownBytes.{prepend_known-nil}
use Rattle.std.proofs.lemmas.Bool.{le-leb}
use Rattle.std.proofs.lemmas.Bool.Decides.{leb_tells}
use Rattle.std.proofs.lemmas.List.{take-append-drop, take-append-le, take-take, length-take-le, length-replicate}
use Rattle.blic_model.specs.Formula.{PrenexFormula}
use Rattle.blic_qdimacs.specs.declared.error.ReadError.{ReadError}
use Rattle.blic_qdimacs.specs.declared.error.ReadError.TheVariants as errors
use Rattle.blic_qdimacs.specs.Machine.{Machine, start, inside, after_bytes}
use Rattle.blic_qdimacs.specs.Meaning.{whole_meaning, cut_meaning, meaning_within}
use Rattle.blic_qdimacs.specs.Taking.{ForTaken, StopsEarly}
use Rattle.blic_qdimacs.proofs.Binds.{bind_split}
use Rattle.blic_qdimacs.proofs.Bytes.{after_bytes-append, after_front, take_more_piece, within_cut}
use Rattle.blic_qdimacs.proofs.Judgement.{Fine, is_of_few, fine_whole}
use Rattle.blic_qdimacs.proofs.Meant.{by_bytes}
use Rattle.blic_qdimacs.proofs.Sizes.{false_not_true}
use Rattle.blic_qdimacs.proofs.Written.{prepend_known_more}

-- a word that goes on is not judged
word_goes_on : (k j : ℕ) (m : Machine) → (n : Machine) × (after_bytes m (take k (replicate j 120)) ≡ Ok n)
word_goes_on zero j m = (m, refl)
word_goes_on (suc k) zero m = (m, refl)
word_goes_on (suc k) (suc j) m = word_goes_on k j (inside m.mode 120 m)

-- a prefix of bytes that are not refused is not refused
prefix_reached : (n : ℕ) (bytes : List ℕ) (m : Machine) → after_bytes start bytes ≡ Ok m → (p : Machine) × (after_bytes start (take n bytes) ≡ Ok p)
prefix_reached n bytes m reached =
    let split : after_bytes start (take n bytes ++ drop n bytes) ≡ Ok m = ap (after_bytes start) (take-append-drop n bytes) ∙ reached in
    let s = bind_split (after_bytes start (take n bytes)) (λ p. after_bytes p (drop n bytes)) m (sym (after_bytes-append (take n bytes) (drop n bytes) start) ∙ split) in
    (s.0, s.1)

-- the bytes, and a word that goes on until there are too many
long_word : (most : ℕ) (bytes : List ℕ) (m : Machine) → length bytes ≤ most → after_bytes start bytes ≡ Ok m
    → (line : ℕ) × (meaning_within most (bytes ++ replicate (most + 1) 120) ≡ Err (errors.TooLong line))
long_word most bytes m few reached =
    let word : List ℕ = replicate (most + 1) 120 in
    let on = word_goes_on (most - length bytes) (most + 1) m in
    let many : most < length (bytes ++ word) = omega (arith, length-append bytes word, length-replicate {A = ℕ} (most + 1) 120) in
    let cut : after_bytes start (take most (bytes ++ word)) ≡ Ok on.0 =
    ap (after_bytes start) (take_more_piece most bytes word few) ∙ after_front bytes (take (most - length bytes) word) m reached ∙ on.1 in
    (on.0.line, sym (by_bytes most (bytes ++ word)) ∙ within_cut most (bytes ++ word) on.0 many cut)

refused_fine : (r : Result PrenexFormula ReadError) (e : ReadError) → Fine r → r ≡ Err e → is_of_few e ≡ true
refused_fine r e fine is = subst (λ x. Fine x) is fine

-- the end, after bytes that are not too many
end_fine : (most : ℕ) (bytes : List ℕ) (e : ReadError) → length bytes ≤ most → meaning_within most (bytes ++ []) ≡ Err e → is_of_few e ≡ true
end_fine most bytes e few is =
    let le : nat_le (length bytes) most ≡ true = le-leb (length bytes) most few in
    let whole : meaning_within most bytes ≡ whole_meaning bytes = ap (λ b. cond b (whole_meaning bytes) (cut_meaning (take most bytes))) le in
    refused_fine (whole_meaning bytes) e (fine_whole bytes) (sym whole ∙ ap (meaning_within most) (sym (append-nil bytes)) ∙ is)

-- bytes that are not refused yet decide nothing
nothing_decided : (most : ℕ) (bytes : List ℕ) (m : Machine) (e : ReadError) → length bytes ≤ most → after_bytes start bytes ≡ Ok m
    → ((rest : List ℕ) → meaning_within most (bytes ++ rest) ≡ Err e) → ⊥
nothing_decided most bytes m e few reached decides =
    let fine : is_of_few e ≡ true = end_fine most bytes e few (decides []) in
    let long = long_word most bytes m few reached in
    let same : Err e ≡ Err (errors.TooLong long.0) = sym (decides (replicate (most + 1) 120)) ∙ long.1 in
    let is : e ≡ errors.TooLong long.0 = cc in
    false_not_true (sym (ap is_of_few is) ∙ fine)

-- what decides a refusal reaches into the last piece
decided_late : (most past n : ℕ) (bytes piece : List ℕ) (m : Machine) (e : ReadError) → length bytes + length piece ≤ most + 1 → length piece ≤ past + 1
    → after_bytes start (take most bytes) ≡ Ok m
    → ((rest : List ℕ) → meaning_within most (take n (bytes ++ piece) ++ rest) ≡ Err e) → length (bytes ++ piece) ≤ n + past
decided_late most past n bytes piece m e few small reached decides =
    elim (leb_tells n (length bytes)) [
      | inl before ↦
          elim (leb_tells n most) [
            | inl within ↦
                let p = prefix_reached n (take most bytes) m reached in
                let first : take n (take most bytes) ≡ take n bytes = take-take n most bytes within.1 in
                let same : take n (bytes ++ piece) ≡ take n (take most bytes) = take-append-le n bytes piece before.1 ∙ sym first in
                let short : length (take n (take most bytes)) ≤ most = omega (arith, ap length first, length-take-le n bytes before.1, within.1) in
                absurd (nothing_decided most (take n (take most bytes)) p.0 e short p.1
                (subst (λ t. (rest : List ℕ) → meaning_within most (t ++ rest) ≡ Err e) same decides))
            | inr beyond ↦ omega (arith, length-append bytes piece, few, beyond.1)
          ]
      | inr later ↦ omega (arith, length-append bytes piece, small, later.1)
    ]

-- what comes before the last piece was not refused
pub stops_early : (old mid new : Option (List ℕ)) (bytes piece : List ℕ) (m : Machine) (r : Result PrenexFormula ReadError)
    → length bytes + length piece ≤ 67108865 → length piece ≤ 65536
    → old ≡ prepend_known bytes mid → mid ≡ prepend_known piece new → after_bytes start (take 67108864 bytes) ≡ Ok m
    → IfErr r (λ e. ForTaken old new (StopsEarly 65535 e))
stops_early old mid new bytes piece m (Ok f) few small before after reached = tt
stops_early old mid new bytes piece m (Err e) few small before after reached = (
  bytes ++ piece,
  prepend_known_more old mid new bytes piece before after,
  λ n decides. decided_late 67108864 65535 n bytes piece m e few small reached decides,
)

-- nothing that was taken was refused
pub stops_here : (old new : Option (List ℕ)) (bytes : List ℕ) (m : Machine) (r : Result PrenexFormula ReadError)
    → length bytes ≤ 67108865 → old ≡ prepend_known bytes new → after_bytes start (take 67108864 bytes) ≡ Ok m
    → IfErr r (λ e. ForTaken old new (StopsEarly 65535 e))
stops_here old new bytes m r few before reached =
    stops_early old new new bytes [] m r (omega (arith, few)) (omega arith) before (sym (prepend_known-nil new)) reached
