-- The functions of refs: longer lists keep them, and a node is a choice between its parts.
use Rattle.std.proofs.Common.{arith, ℕ, ◌+◌, ◌<◌, ◌≡◌, refl, sym, ◌∙◌, ap, List, [], ◌∷◌, ◌++◌, length, get_or, false, true}
use Rattle.std.specs.Prelude.{fold}
use Rattle.std.proofs.lemmas.List.{get_or_append_left, length-append, length_push}
use Rattle.std.proofs.Math.Seq.{get_or-append_seam}
use Rattle.std.proofs.lemmas.List.Sums.{fold-append}
use Rattle.blic_store.specs.declared.decision.Decision.{Decision}
use Rattle.blic_store.specs.Diagram.{add_function, functions, function}
use Rattle.blic_store.specs.Function.{Function, choice}

none : Function
none = λ p. false

fold-keeps : (ys : List Decision) (known : List Function) (r : ℕ) (d : Function) → r < length known → get_or (fold add_function known ys) r d ≡ get_or known r d
fold-keeps [] known r d h = refl
fold-keeps (y ∷ ys) known r d h =
    fold-keeps ys (add_function known y) r d (omega (arith, length-append known (choice y.level (get_or known y.low (λ p. false)) (get_or known y.high (λ p. false)) ∷ [])))
    ∙ get_or_append_left known (choice y.level (get_or known y.low (λ p. false)) (get_or known y.high (λ p. false)) ∷ []) d r h

length-fold : (ys : List Decision) (known : List Function) → length (fold add_function known ys) ≡ length known + length ys
length-fold [] known = omega arith
length-fold (y ∷ ys) known =
    let e = length_push known (choice y.level (get_or known y.low (λ p. false)) (get_or known y.high (λ p. false))) in
    let w = length-fold ys (add_function known y) in
    omega arith

-- A longer list keeps the functions.
pub function-append : (xs ys : List Decision) (r : ℕ) → r < length xs + 2 → function (xs ++ ys) r ≡ function xs r
unfolding function functions
function-append xs ys r h =
    ap (λ z. get_or z r (λ p. false)) (fold-append add_function ((λ p. false) ∷ (λ p. true) ∷ []) xs ys)
    ∙ fold-keeps ys (fold add_function ((λ p. false) ∷ (λ p. true) ∷ []) xs) r (λ p. false) (let w = length-fold xs ((λ p. false) ∷ (λ p. true) ∷ []) in omega arith)

pub function-false : (nodes : List Decision) → function nodes 0 ≡ (λ p. false)
unfolding function functions
function-false nodes = fold-keeps nodes ((λ p. false) ∷ (λ p. true) ∷ []) 0 (λ p. false) (omega arith)

pub function-true : (nodes : List Decision) → function nodes 1 ≡ (λ p. true)
unfolding function functions
function-true nodes = fold-keeps nodes ((λ p. false) ∷ (λ p. true) ∷ []) 1 (λ p. false) (omega arith)

-- The last node of a list.
pub function-last : (xs : List Decision) (e : Decision) (r : ℕ) → r ≡ length xs + 2 → function (xs ++ e ∷ []) r ≡ choice e.level (function xs e.low) (function xs e.high)
unfolding function functions
function-last xs e r q =
    ap (λ z. get_or z r (λ p. false)) (fold-append add_function ((λ p. false) ∷ (λ p. true) ∷ []) xs (e ∷ []))
    ∙ (ap (λ z. get_or (add_function (fold add_function ((λ p. false) ∷ (λ p. true) ∷ []) xs) e) z (λ p. false)) (q ∙ sym (let w = length-fold xs ((λ p. false) ∷ (λ p. true) ∷ []) in let u : length (fold add_function ((λ p. false) ∷ (λ p. true) ∷ []) xs) ≡ length xs + 2 = omega arith in u))
    ∙ get_or-append_seam (fold add_function ((λ p. false) ∷ (λ p. true) ∷ []) xs) _ [] (λ p. false))
