use Rattle.std.proofs.Common.{arith, ◌≡◌, ◌<◌, length, ap, sym, ◌∙◌, subst, map, List}
use Rattle.std.specs.Prelude.{set}
use Rattle.std.proofs.lemmas.List.{get_or_read, length-map}
use Rattle.blic_graph.specs.declared.pair.Pair.{Pair}
use Rattle.blic_graph.specs.declared.pair.Side.TheVariants as Side
use Rattle.blic_graph.specs.Listing.{Found, IsEntered, with_side}
use Rattle.blic_graph.specs.Packing.{packed_at, side_from, unpacked}
use Rattle.blic_graph.specs.Pairs.{pair_at}
use Rattle.blic_graph.proofs.Keys.{entered-set, hash-with}
use Rattle.blic_graph.proofs.Packing.{side-set, side_from-pair}
use Rattle.blic_graph.proofs.pair_list.PairList.set_side.Goals as goal

named-high : (c : goal.After-self-1) → map unpacked (set c.self.inside.pairs.items c.args.k (let x = c.index_mut.result.now in record { level = x.level; first = x.first; second = x.second; low = x.low; high = c.args.n })) ≡ set (map unpacked c.self.inside.pairs.items) c.args.k (with_side (pair_at (map unpacked c.self.inside.pairs.items) c.args.k) c.args.bit (Side.Pair c.args.n))
named-high c =
    let items = c.self.inside.pairs.items in
    let x = c.index_mut.result.now in
    let here : c.args.k < length items = omega (arith, subst (λ (l : Found). c.args.k < length l.pairs) (sym c.self.view_is) c.requires.k, length-map items unpacked) in
    let read : x ≡ packed_at items c.args.k = get_or_read items c.args.k x here c.index_mut.ensures.value (record { level = 0; first = 0; second = 0; low = 0; high = 0 }) in
    side-set items c.args.k x (record { level = x.level; first = x.first; second = x.second; low = x.low; high = c.args.n }) c.args.bit (Side.Pair c.args.n) here read
    (ap (λ z. record { level = x.level; first = x.first; second = x.second; low = side_from x.low; high = z }) (side_from-pair c.args.n c.requires.n) ∙ ap (λ b. with_side (unpacked x) b (Side.Pair c.args.n)) (sym c.if-bit.true))

pub returns-then-bit : goal.returns-then-bit
returns-then-bit c =
    let i = c.self.inside in
    ap (λ (z : List Pair). record { first = i.first; second = i.second; most = i.most; pairs = z; start = i.start; queue = i.waiting }) (named-high c)
    ∙ ap (λ (l : Found). record l { pairs = set l.pairs c.args.k (with_side (pair_at l.pairs c.args.k) c.args.bit (Side.Pair c.args.n)) }) c.self.view_is

pub invariant_of-self : goal.invariant_of-self
invariant_of-self c =
    let items = c.self.inside.pairs.items in
    subst (λ z. IsEntered z c.self.inside.start c.self.inside.table) (sym (named-high c))
    (entered-set (map unpacked items) c.self.inside.start c.self.inside.table c.args.k (with_side (pair_at (map unpacked items) c.args.k) c.args.bit (Side.Pair c.args.n)) c.self.invariant (hash-with (pair_at (map unpacked items) c.args.k) c.args.bit (Side.Pair c.args.n)))

named-low : (c : goal.After-self-else-bit-1) → map unpacked (set c.self.inside.pairs.items c.args.k (let x = c.index_mut-else-bit.result.now in record { level = x.level; first = x.first; second = x.second; low = c.args.n; high = x.high })) ≡ set (map unpacked c.self.inside.pairs.items) c.args.k (with_side (pair_at (map unpacked c.self.inside.pairs.items) c.args.k) c.args.bit (Side.Pair c.args.n))
named-low c =
    let items = c.self.inside.pairs.items in
    let x = c.index_mut-else-bit.result.now in
    let here : c.args.k < length items = omega (arith, subst (λ (l : Found). c.args.k < length l.pairs) (sym c.self.view_is) c.requires.k, length-map items unpacked) in
    let read : x ≡ packed_at items c.args.k = get_or_read items c.args.k x here c.index_mut-else-bit.ensures.value (record { level = 0; first = 0; second = 0; low = 0; high = 0 }) in
    side-set items c.args.k x (record { level = x.level; first = x.first; second = x.second; low = c.args.n; high = x.high }) c.args.bit (Side.Pair c.args.n) here read
    (ap (λ z. record { level = x.level; first = x.first; second = x.second; low = z; high = side_from x.high }) (side_from-pair c.args.n c.requires.n) ∙ ap (λ b. with_side (unpacked x) b (Side.Pair c.args.n)) (sym c.if-bit.false))

pub returns-else-bit : goal.returns-else-bit
returns-else-bit c =
    let i = c.self.inside in
    ap (λ (z : List Pair). record { first = i.first; second = i.second; most = i.most; pairs = z; start = i.start; queue = i.waiting }) (named-low c)
    ∙ ap (λ (l : Found). record l { pairs = set l.pairs c.args.k (with_side (pair_at l.pairs c.args.k) c.args.bit (Side.Pair c.args.n)) }) c.self.view_is

pub invariant_of-self-else-bit : goal.invariant_of-self-else-bit
invariant_of-self-else-bit c =
    let items = c.self.inside.pairs.items in
    subst (λ z. IsEntered z c.self.inside.start c.self.inside.table) (sym (named-low c))
    (entered-set (map unpacked items) c.self.inside.start c.self.inside.table c.args.k (with_side (pair_at (map unpacked items) c.args.k) c.args.bit (Side.Pair c.args.n)) c.self.invariant (hash-with (pair_at (map unpacked items) c.args.k) c.args.bit (Side.Pair c.args.n)))
