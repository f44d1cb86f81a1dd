use Rattle.std.proofs.Common.{◌≡◌, ℕ, ◌<◌, ◌||◌, ◌==◌, ap, sym, ◌∙◌, length, map, subst, arith}
use Rattle.std.specs.List.{list_any}
use Rattle.blic_qdimacs.specs.Meaning.{stands_in}
use Rattle.blic_qdimacs.specs.Tables.{Marks, is_marked}
use Rattle.blic_qdimacs.proofs.FreeLaws.{standing_from, written_back}
use Rattle.blic_qdimacs.proofs.free.standing_variables.Goals as goal

pub returns-clause-table : goal.returns-clause-table
returns-clause-table c =
    let old = c.in_ok-marks.marks.items in
    let new = c.mark_clauses.new.marks in
    let lent = c.deref_mut.result.now in
    let same : lent ≡ old = c.deref_mut.ensures.value in
    let size : length new ≡ length old = c.mark_clauses.ensures.size ∙ ap length same in
    let room : length old ≡ 65536 = c.in_ok-marks.ensures.size in
    let len : c.in_ok-marks.marks.len ≡ length old = omega (arith, c.in_ok-marks.marks.ok.0) in
    subst (λ marks. Marks marks (stands_in (map (λ v. v.items) c.args.clauses.now))) (sym (written_back c.in_ok-marks.marks.len new old size len))
    (standing_from (λ v. v.items) old new c.args.clauses.now size (λ v h. c.in_ok-marks.ensures.none v (omega (arith, h, room)))
    (subst (λ o. (v : ℕ) → v < length o → is_marked new v ≡ (is_marked o v || list_any (λ k. list_any (λ l. l.var == v) k.items) c.args.clauses.now)) same c.mark_clauses.ensures.marked))
