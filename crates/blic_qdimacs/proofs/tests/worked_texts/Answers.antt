use Rattle.std.proofs.Common.{refl}
use Rattle.blic_qdimacs.proofs.tests.worked_texts.Goals as goal

pub returns : goal.returns
returns c = record {
  empty = refl;
  no_p = refl;
  three_words = refl;
  minus_zero = refl;
  number = refl;
  variable = refl;
  bound_twice = refl;
  late_set = refl;
  clause_before_variable = refl;
  few_clauses = refl;
  unended = refl;
  variables = refl;
  clauses = refl;
  comment_first = refl;
  unbound_outermost = refl;
  not_judged = refl;
  just_judged = refl;
  line_not_judged = refl;
  line_just_judged = refl;
}
