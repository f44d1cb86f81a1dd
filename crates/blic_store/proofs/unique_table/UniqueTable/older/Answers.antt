use Rattle.std.proofs.Common.{arith, ◌≡◌, ◌<◌, length, map, subst, ap}
use Rattle.std.specs.Prelude.{IfSome, IfNone}
use Rattle.std.proofs.lemmas.List.{get_or_read, length-map}
use Rattle.blic_store.specs.declared.unique_table.Link.{Link}
use Rattle.blic_store.specs.UniqueTable.{IsLast, HasNone, hash_at, link_at}
use Rattle.blic_store.proofs.Links.{older_some, older_none}
use Rattle.blic_store.proofs.unique_table.UniqueTable.older.Goals as goal

below : (c : goal.After-last) → c.args.k < length c.self.inside.links.items
below c = omega (arith, ap length c.self.view_is, length-map c.self.inside.links.items (λ (l : Link). l.hash), c.requires)

read : (c : goal.After-last) → c.index-link.result.now ≡ link_at c.self.inside.links.items c.args.k
read c = get_or_read c.self.inside.links.items c.args.k c.index-link.result.now (below c) c.index-link.ensures (record { hash = 0; older = 0 })

pub returns-clause-some : goal.returns-clause-some
returns-clause-some c =
    let heads = c.self.inside.heads.items in
    let links = c.self.inside.links.items in
    let o = c.last.result in
    let link = c.index-link.result.now in
    let found : IfSome o (IsLast (map (λ (l : Link). l.hash) links) link.older link.hash) =
    subst (λ z. IfSome o (IsLast (map (λ (l : Link). l.hash) z) link.older link.hash)) c.deref-2.ensures.value c.last.ensures.some in
    subst (λ z. IfSome o (IsLast z c.args.k (hash_at z c.args.k))) c.self.view_is
    (older_some heads links c.args.k link.hash link.older o c.self.invariant.chains (below c) (ap (λ (l : Link). l.hash) (read c)) (ap (λ (l : Link). l.older) (read c)) found)

pub returns-clause-none : goal.returns-clause-none
returns-clause-none c =
    let heads = c.self.inside.heads.items in
    let links = c.self.inside.links.items in
    let o = c.last.result in
    let link = c.index-link.result.now in
    let found : IfNone o (HasNone (map (λ (l : Link). l.hash) links) link.older link.hash) =
    subst (λ z. IfNone o (HasNone (map (λ (l : Link). l.hash) z) link.older link.hash)) c.deref-2.ensures.value c.last.ensures.none in
    subst (λ z. IfNone o (HasNone z c.args.k (hash_at z c.args.k))) c.self.view_is
    (older_none heads links c.args.k link.hash link.older o c.self.invariant.chains (below c) (ap (λ (l : Link). l.hash) (read c)) (ap (λ (l : Link). l.older) (read c)) found)
