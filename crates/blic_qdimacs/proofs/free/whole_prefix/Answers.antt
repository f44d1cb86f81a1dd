use Rattle.std.proofs.Common.{ap, ◌∙◌, ◌++◌, ◌&&◌, ◌<◌, not, map, length, arith}
use Rattle.blic_qdimacs.specs.Meaning.{free_where}
use Rattle.blic_qdimacs.specs.Tables.{is_marked}
use Rattle.blic_qdimacs.proofs.FreeLaws.{free_by_marks}
use Rattle.blic_qdimacs.proofs.free.whole_prefix.Goals as goal

pub returns : goal.returns
returns c =
    let standing = c.in_ok-standing.standing.items in
    let room : c.args.vars < length c.args.bound.now = omega (arith, c.requires.vars, c.requires.size) in
    let room' : c.args.vars < length standing = omega (arith, c.requires.vars, c.in_ok-standing.ensures.size) in
    c.in_ok-extend_from_slice.ensures.items
    ∙ ap (λ bounds. bounds ++ c.args.sets.now)
    (c.in_ok-prefix.ensures
    ∙ ap (λ marks. free_where (λ v. is_marked marks v && not (is_marked c.args.bound.now v)) c.args.vars) c.deref.ensures.value
    ∙ free_by_marks c.args.vars c.args.bound.now standing c.args.sets.now (map (λ v. v.items) c.args.clauses.now) room room' c.requires.table c.in_ok-standing.ensures.table)
