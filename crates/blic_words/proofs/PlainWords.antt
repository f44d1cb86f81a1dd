-- What a command makes of one word that doesn't begin with a hyphen.
use Rattle.std.proofs.Common.{◌≡◌, ◌≤◌, ℕ, [], ◌∷◌, false, Some, refl, codes, ap, ◌∙◌}
use Rattle.std.specs.Prelude.{decimal, option_and_then, option_map}
use Rattle.clap.specs.Words.{Text}
use Rattle.clap.specs.Walk.{walked}
use Rattle.clap.specs.Faults.{walk_fault, defaults_fault}
use Rattle.blic_words.specs.Commands.{app_of_form, given_of, certify, exercise, solve, verify}
use Rattle.blic_words.specs.Options.{number_in, usual}
use Rattle.blic_words.specs.Requests.{Solve, Certify, Verify, Exercise, begins_with_hyphen, certify_asked, exercise_asked, request_of, solve_asked, verify_asked}
use Rattle.blic_words.proofs.Numbers.{decimal_found, number_begins}

solve_given : (file : Text) → begins_with_hyphen file ≡ false → given_of (app_of_form solve) (codes "FILE" ∷ []) (codes "solve" ∷ file ∷ []) ≡ Some (file ∷ [], usual)
unfolding given_of walked walk_fault defaults_fault
solve_given [] e = refl
solve_given (b ∷ bs) e = rw (e, e)

pub solve_plain : (file : Text) → begins_with_hyphen file ≡ false → request_of (codes "solve" ∷ file ∷ []) ≡ Some (Solve file usual)
solve_plain file e = ap (option_and_then (λ g. solve_asked g.0 g.1)) (solve_given file e)

certify_given : (file : Text) → begins_with_hyphen file ≡ false → given_of (app_of_form certify) (codes "FILE" ∷ []) (codes "certify" ∷ file ∷ []) ≡ Some (file ∷ [], usual)
unfolding given_of walked walk_fault defaults_fault
certify_given [] e = refl
certify_given (b ∷ bs) e = rw (e, e)

pub certify_plain : (file : Text) → begins_with_hyphen file ≡ false → request_of (codes "certify" ∷ file ∷ []) ≡ Some (Certify file usual)
certify_plain file e = ap (option_and_then (λ g. certify_asked g.0 g.1)) (certify_given file e)

verify_given : (file address : Text) → begins_with_hyphen file ≡ false → begins_with_hyphen address ≡ false
    → given_of (app_of_form verify) (codes "FILE" ∷ codes "ADDR" ∷ []) (codes "verify" ∷ file ∷ address ∷ []) ≡ Some (file ∷ address ∷ [], usual)
unfolding given_of walked walk_fault defaults_fault
verify_given [] [] e a = refl
verify_given [] (b ∷ bs) e a = rw (a, a)
verify_given (b ∷ bs) [] e a = rw (e, e)
verify_given (b ∷ bs) (d ∷ ds) e a = rw (e, e, a, a)

pub verify_plain : (file address : Text) → begins_with_hyphen file ≡ false → begins_with_hyphen address ≡ false
    → request_of (codes "verify" ∷ file ∷ address ∷ []) ≡ Some (Verify file address usual)
verify_plain file address e a = ap (option_and_then (λ g. verify_asked g.0 g.1)) (verify_given file address e a)

exercise_given : (number : Text) → begins_with_hyphen number ≡ false → given_of (app_of_form exercise) (codes "N" ∷ []) (codes "exercise" ∷ number ∷ []) ≡ Some (number ∷ [], usual)
unfolding given_of walked walk_fault defaults_fault
exercise_given [] e = refl
exercise_given (b ∷ bs) e = rw (e, e)

pub exercise_plain : (number : Text) (n : ℕ) → number_in 1 500 number ≡ Some n → request_of (codes "exercise" ∷ number ∷ []) ≡ Some (Exercise n usual)
exercise_plain number n is =
    ap (option_and_then (λ g. exercise_asked g.0 g.1)) (exercise_given number (number_begins 1 500 number n is)) ∙ ap (option_map (λ k. Exercise k usual)) is

pub exercise_decimal : (n : ℕ) → 1 ≤ n → n ≤ 500 → request_of (codes "exercise" ∷ decimal n ∷ []) ≡ Some (Exercise n usual)
exercise_decimal n least most = exercise_plain (decimal n) n (decimal_found n least most)
