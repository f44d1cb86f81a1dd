use Rattle.std.proofs.Common.{arith, ◌≡◌, length, get_or, map, subst, ap, ◌∙◌}
use Rattle.std.specs.Prelude.{IfSome, IfNone}
use Rattle.std.proofs.lemmas.List.{get_or_read}
use Rattle.blic_store.specs.declared.unique_table.Link.{Link}
use Rattle.blic_store.specs.UniqueTable.{IsLast, HasNone, bucket}
use Rattle.blic_store.proofs.Links.{newest_some, newest_none}
use Rattle.blic_store.proofs.unique_table.UniqueTable.newest.Goals as goal

head : (c : goal.After-last) → c.index.result.now ≡ get_or c.self.inside.heads.items (bucket (length c.self.inside.heads.items) c.args.hash) 0
head c =
    let heads = c.self.inside.heads.items in
    let size : c.len.result ≡ length heads = omega (arith, c.len.ensures, c.deref.ensures.len, ap length c.deref.ensures.value) in
    get_or_read heads c.bucket_of-home.result c.index.result.now (omega (arith, c.bucket_of-home.ensures.in_range)) c.index.ensures 0
    ∙ ap (λ z. get_or heads z 0) (c.bucket_of-home.ensures.value ∙ ap (λ z. bucket z c.args.hash) size)

pub returns-clause-some : goal.returns-clause-some
returns-clause-some c =
    let heads = c.self.inside.heads.items in
    let links = c.self.inside.links.items in
    let o = c.last.result in
    let found : IfSome o (IsLast (map (λ (l : Link). l.hash) links) c.index.result.now c.args.hash) =
    subst (λ z. IfSome o (IsLast (map (λ (l : Link). l.hash) z) c.index.result.now c.args.hash)) c.deref-2.ensures.value c.last.ensures.some in
    subst (λ z. IfSome o (IsLast z (length z) c.args.hash)) c.self.view_is
    (newest_some heads links c.args.hash c.index.result.now o c.self.invariant.chains (head c) found)

pub returns-clause-none : goal.returns-clause-none
returns-clause-none c =
    let heads = c.self.inside.heads.items in
    let links = c.self.inside.links.items in
    let o = c.last.result in
    let found : IfNone o (HasNone (map (λ (l : Link). l.hash) links) c.index.result.now c.args.hash) =
    subst (λ z. IfNone o (HasNone (map (λ (l : Link). l.hash) z) c.index.result.now c.args.hash)) c.deref-2.ensures.value c.last.ensures.none in
    subst (λ z. IfNone o (HasNone z (length z) c.args.hash)) c.self.view_is
    (newest_none heads links c.args.hash c.index.result.now o c.self.invariant.chains (head c) found)
