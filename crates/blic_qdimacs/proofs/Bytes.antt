-- Bytes in pieces, and refusals that stay.
use Rattle.std.proofs.Common.{◌≡◌, ℕ, ◌+◌, ◌-◌, ◌<◌, ◌≤◌, Bool, true, false, List, [], ◌∷◌, ◌++◌, ◌≢◌, length, take, refl, ap, sym, ◌∙◌, Option, Some, None, Result, Ok, Err, arith, min, length-append, length-take, append_assoc, append-nil, inl, inr, subst}
use Rattle.std.specs.Prelude.{nat_le, IfSome, cond}
use Rattle.std.proofs.lemmas.List.{take_all, take-append-le, take-take, length-take-le}
use Rattle.std.proofs.Math.Seq.{take-append-add}
use Rattle.std.proofs.lemmas.Bool.{leb-true, le-leb, lt-leb}
use Rattle.std.proofs.lemmas.Bool.Decides.{leb_tells}
use Rattle.std.specs.Io.KnownBytes.{prepend_known}
use Rattle.blic_model.specs.Formula.{PrenexFormula}
use Rattle.blic_qdimacs.specs.declared.error.ReadError.{ReadError}
use Rattle.blic_qdimacs.specs.declared.error.ReadError.TheVariants as errors
use Rattle.blic_qdimacs.proofs.Written.{prepend_known_more}
use Rattle.blic_qdimacs.proofs.Binds.{bind_assoc, bind_same}
use Rattle.blic_qdimacs.specs.Binding.{◌>>=◌}
use Rattle.blic_qdimacs.specs.Reading.{Reads}
use Rattle.blic_qdimacs.specs.Taking.{ForTaken}
use Rattle.blic_qdimacs.specs.Machine.{Machine, start, after_byte, after_bytes, within_by_bytes, whole_by_bytes, cut_by_bytes, finished, Ends}

pub after_bytes-append : (a b : List ℕ) (m : Machine) → after_bytes m (a ++ b) ≡ after_bytes m a >>= (λ n. after_bytes n b)
after_bytes-append [] b m = refl
after_bytes-append (x ∷ a) b m =
    bind_same (after_byte x m) (λ n. after_bytes n (a ++ b)) (λ n. after_bytes n a >>= (λ p. after_bytes p b)) (λ n. after_bytes-append a b n)
    ∙ sym (bind_assoc (after_byte x m) (λ n. after_bytes n a) (λ p. after_bytes p b))

-- after a prefix, the bytes that follow it
pub after_front : (front more : List ℕ) (m : Machine) → after_bytes start front ≡ Ok m → after_bytes start (front ++ more) ≡ after_bytes m more
after_front front more m reached = after_bytes-append front more start ∙ ap (λ r. r >>= (λ n. after_bytes n more)) reached

-- a prefix that is refused refuses the whole
pub front_refused : (front more : List ℕ) (e : ReadError) → after_bytes start front ≡ Err e → after_bytes start (front ++ more) ≡ Err e
front_refused front more e refused =
    after_bytes-append front more start ∙ ap (λ r. r >>= (λ n. after_bytes n more)) refused

within_from : (most : ℕ) (all : List ℕ) (e : ReadError) (t : Bool) → nat_le (length all) most ≡ t → after_bytes start (take most all) ≡ Err e → within_by_bytes most all ≡ Err e
within_from most all e true few refused =
    let le : length all ≤ most = leb-true (length all) most few in
    ap (λ b. cond b (whole_by_bytes all) (cut_by_bytes (take most all))) few
    ∙ ap (λ r. r >>= finished) (ap (after_bytes start) (sym (take_all most all le)) ∙ refused)
within_from most all e false many refused =
    ap (λ b. cond b (whole_by_bytes all) (cut_by_bytes (take most all))) many
    ∙ ap (λ r. r >>= (λ (m : Machine). let x : Result PrenexFormula ReadError = Err (errors.TooLong m.line) in x)) refused

pub within_refused : (most : ℕ) (all : List ℕ) (e : ReadError) → after_bytes start (take most all) ≡ Err e → within_by_bytes most all ≡ Err e
within_refused most all e refused = within_from most all e (nat_le (length all) most) refl refused

-- not too many bytes, and the end
pub within_whole : (most : ℕ) (all : List ℕ) (m : Machine) → length all ≤ most → after_bytes start (take most all) ≡ Ok m
    → within_by_bytes most all ≡ finished m
within_whole most all m few reached =
    let le : nat_le (length all) most ≡ true = le-leb (length all) most few in
    ap (λ b. cond b (whole_by_bytes all) (cut_by_bytes (take most all))) le
    ∙ ap (λ r. r >>= finished) (ap (after_bytes start) (sym (take_all most all few)) ∙ reached)

-- one byte too many
pub within_cut : (most : ℕ) (all : List ℕ) (m : Machine) → most < length all → after_bytes start (take most all) ≡ Ok m
    → within_by_bytes most all ≡ Err (errors.TooLong m.line)
within_cut most all m many reached =
    let le : nat_le (length all) most ≡ false = lt-leb (length all) most many in
    ap (λ b. cond b (whole_by_bytes all) (cut_by_bytes (take most all))) le
    ∙ ap (λ r. r >>= (λ (m : Machine). let x : Result PrenexFormula ReadError = Err (errors.TooLong m.line) in x)) reached

-- as far as there are not too many, the bytes with a piece more
pub take_more_piece : (most : ℕ) (bytes piece : List ℕ) → length bytes ≤ most → take most (bytes ++ piece) ≡ bytes ++ take (most - length bytes) piece
take_more_piece most bytes piece few =
    let e : most ≡ length bytes + (most - length bytes) = omega arith in
    ap (λ n. take n (bytes ++ piece)) e ∙ take-append-add bytes piece (most - length bytes)

-- a source that tells its bytes has all of them before and after
all_told : (old : Option (List ℕ)) (new : Option (List ℕ)) (taken : List ℕ) (all : List ℕ) → old ≡ prepend_known taken new → old ≡ Some all
    → (rest : List ℕ) × (new ≡ Some rest) × (all ≡ taken ++ rest)
all_told old None taken all told known = let e : None ≡ Some all = sym told ∙ known in absurd (cc)
all_told old (Some rest) taken all told known = (rest, refl, (let e : Some all ≡ Some (taken ++ rest) = sym known ∙ told in cc))

-- the piece is taken
pub piece_taken : (most : ℕ) (old mid new : Option (List ℕ)) (bytes piece fed : List ℕ) (m n : Machine) (taken : ℕ) → length bytes ≡ taken → taken ≤ most
    → old ≡ prepend_known bytes mid → mid ≡ prepend_known piece new → fed ≡ take (most - taken) piece
    → after_bytes start (take most bytes) ≡ Ok m → after_bytes m fed ≡ Ok n
    → (all : List ℕ) × (old ≡ prepend_known all new) × (length all ≡ taken + length piece) × (after_bytes start (take most all) ≡ Ok n)
piece_taken most old mid new bytes piece fed m n taken size few before after fed_is reached step =
    let small : length bytes ≤ most = omega arith in
    let fed' : fed ≡ take (most - length bytes) piece = fed_is ∙ ap (λ t. take (most - t) piece) (sym size) in
    let whole : take most bytes ≡ bytes = take_all most bytes small in (
      bytes ++ piece,
      prepend_known_more old mid new bytes piece before after,
      length-append bytes piece ∙ ap (λ t. t + length piece) size,
      ap (after_bytes start) (take_more_piece most bytes piece small ∙ ap (λ f. bytes ++ f) (sym fed'))
          ∙ after_front bytes fed m (ap (after_bytes start) (sym whole) ∙ reached) ∙ step,
    )

if_some : (o : Option (List ℕ)) (P : List ℕ → Type 0) → ((all : List ℕ) → o ≡ Some all → P all) → IfSome o P
if_some None P h = tt
if_some (Some all) P h = h all refl

-- the piece is refused
pub piece_refused : (most : ℕ) (old mid new : Option (List ℕ)) (bytes piece fed : List ℕ) (m : Machine) (taken : ℕ) (e : ReadError) → length bytes ≡ taken → taken ≤ most
    → old ≡ prepend_known bytes mid → mid ≡ prepend_known piece new → fed ≡ take (most - taken) piece
    → after_bytes start (take most bytes) ≡ Ok m → (e ≢ errors.NoMem → after_bytes m fed ≡ Err e)
    → IfSome old (λ all. Reads (Err e) (within_by_bytes most all))
piece_refused most old mid new bytes piece fed m taken e size few before after fed_is reached step =
    if_some old _ (λ all known fine enough.
    let told = all_told old new (bytes ++ piece) all (prepend_known_more old mid new bytes piece before after) known in
    let small : length bytes ≤ most = omega arith in
    let whole : take most bytes ≡ bytes = take_all most bytes small in
    let fed' : fed ≡ take (most - length bytes) piece = fed_is ∙ ap (λ t. take (most - t) piece) (sym size) in
    let refused : after_bytes start (bytes ++ fed) ≡ Err e =
    after_front bytes fed m (ap (after_bytes start) (sym whole) ∙ reached) ∙ step enough in
    within_refused most all e
    (ap (after_bytes start)
    (ap (take most) (told.2 ∙ append_assoc bytes piece told.0) ∙ take_more_piece most bytes (piece ++ told.0) small ∙ ap (λ t. bytes ++ t) (take_split (most - length bytes) piece told.0 fed fed') ∙ sym (append_assoc bytes fed _))
    ∙ front_refused (bytes ++ fed) _ e refused))
  where
    take_split : (n : ℕ) (piece rest fed : List ℕ) → fed ≡ take n piece → take n (piece ++ rest) ≡ fed ++ take (n - length piece) rest
    take_split n piece rest fed fed_is =
        elim (leb_tells n (length piece)) [
          | inl few ↦
              let none : n - length piece ≡ 0 = omega (arith, few.1) in
              take-append-le n piece rest few.1 ∙ sym fed_is ∙ sym (append-nil fed) ∙ ap (λ j. fed ++ take j rest) (sym none)
          | inr many ↦
              let e : n ≡ length piece + (n - length piece) = omega (arith, many.1) in
              let le : length piece ≤ n = omega (arith, many.1) in
              ap (λ j. take j (piece ++ rest)) e ∙ take-append-add piece rest (n - length piece)
              ∙ ap (λ f. f ++ take (n - length piece) rest) (sym (fed_is ∙ take_all n piece le))
        ]

-- what is fed of a piece of n bytes
pub fed_front : (most taken n few : ℕ) (buffer : List ℕ) → few ≡ min n (most - taken) → n ≤ length buffer → take few buffer ≡ take (most - taken) (take n buffer)
fed_front most taken n few buffer is inside =
    elim (leb_tells n (most - taken)) [
      | inl small ↦
          let e : few ≡ n = omega (arith, is, small.1) in
          let le : length (take n buffer) ≤ most - taken = omega (arith, length-take-le n buffer inside, small.1) in
          ap (λ j. take j buffer) e ∙ sym (take_all (most - taken) (take n buffer) le)
      | inr large ↦
          let e : few ≡ most - taken = omega (arith, is, large.1) in
          let le : most - taken ≤ n = omega (arith, large.1) in
          ap (λ j. take j buffer) e ∙ sym (take-take (most - taken) n buffer le)
    ]

-- the source ended
pub taken_whole : (most : ℕ) (old new : Option (List ℕ)) (bytes : List ℕ) (m : Machine) → length bytes ≤ most → old ≡ prepend_known bytes new → IfSome new (λ rest. rest ≡ [])
    → after_bytes start (take most bytes) ≡ Ok m
    → IfSome old (λ all. within_by_bytes most all ≡ finished m)
taken_whole most old new bytes m few told end reached =
    if_some old _ (λ all known.
    let t = all_told old new bytes all told known in
    let none : t.0 ≡ [] = let P : Option (List ℕ) → Type 0 = λ o. IfSome o (λ rest. rest ≡ []) in subst P t.1 end in
    let same : all ≡ bytes = t.2 ∙ ap (λ r. bytes ++ r) none ∙ append-nil bytes in
    let small : length all ≤ most = omega (arith, ap length same) in
    within_whole most all m small (ap (λ b. after_bytes start (take most b)) same ∙ reached))

-- one byte too many was taken
pub taken_cut : (most : ℕ) (old new : Option (List ℕ)) (bytes : List ℕ) (m : Machine) → length bytes ≡ most + 1 → old ≡ prepend_known bytes new
    → after_bytes start (take most bytes) ≡ Ok m
    → IfSome old (λ all. within_by_bytes most all ≡ Err (errors.TooLong m.line))
taken_cut most old new bytes m size told reached =
    if_some old _ (λ all known.
    let t = all_told old new bytes all told known in
    let many : most < length all = omega (arith, ap length t.2, length-append bytes t.0) in
    let fits : most ≤ length bytes = omega (arith, size) in
    let front : take most all ≡ take most bytes = ap (take most) t.2 ∙ take-append-le most bytes t.0 fits in
    within_cut most all m many (ap (after_bytes start) front ∙ reached))

reads_ended : (all : List ℕ) (r : Result PrenexFormula ReadError) (meant : Result PrenexFormula ReadError) (m : Machine) → meant ≡ finished m → Ends r (finished m) → Reads r meant
reads_ended all (Ok f) meant m is ends = is ∙ ends
reads_ended all (Err e) meant m is ends = λ fine enough. is ∙ ends.1 enough

pub ended_reads : (most : ℕ) (old new : Option (List ℕ)) (bytes : List ℕ) (m : Machine) (taken : ℕ) (r : Result PrenexFormula ReadError) → length bytes ≡ taken → taken ≤ most
    → old ≡ prepend_known bytes new → IfSome new (λ rest. rest ≡ []) → after_bytes start (take most bytes) ≡ Ok m → Ends r (finished m)
    → IfSome old (λ all. Reads r (within_by_bytes most all))
ended_reads most None new bytes m taken r size few told end reached ends = tt
ended_reads most (Some all) new bytes m taken r size few told end reached ends =
    let small : length bytes ≤ most = omega arith in
    reads_ended all r (within_by_bytes most all) m (taken_whole most (Some all) new bytes m small told end reached) ends

pub cut_reads : (most : ℕ) (old new : Option (List ℕ)) (bytes : List ℕ) (m : Machine) → length bytes ≡ most + 1 → old ≡ prepend_known bytes new
    → after_bytes start (take most bytes) ≡ Ok m
    → IfSome old (λ all. Reads (Err (errors.TooLong m.line)) (within_by_bytes most all))
cut_reads most None new bytes m size told reached = tt
cut_reads most (Some all) new bytes m size told reached = λ fine enough. taken_cut most (Some all) new bytes m size told reached

pub fed_few : (most taken n few : ℕ) (buffer : List ℕ) → few ≡ min n (most - taken) → length (take few buffer) ≤ n
fed_few most taken n few buffer is = omega (arith, length-take few buffer, is)

-- with a piece more, no more than that many are taken
pub taken_more : (most : ℕ) (old mid new : Option (List ℕ)) (bytes piece : List ℕ) → length bytes + length piece ≤ most
    → old ≡ prepend_known bytes mid → mid ≡ prepend_known piece new → ForTaken old new (λ taken. length taken ≤ most)
taken_more most old mid new bytes piece few before after =
    (bytes ++ piece, prepend_known_more old mid new bytes piece before after, omega (arith, length-append bytes piece))
