use Rattle.blic_words.proofs.PlainWords.{certify_plain, exercise_decimal, exercise_plain, solve_plain, verify_plain}
use Rattle.blic_words.proofs.laws.words_law.Goals as goal

pub returns : goal.returns
returns c = record { solve = solve_plain; certify = certify_plain; verify = verify_plain; exercise = exercise_plain; decimal = exercise_decimal }
