use Rattle.std.proofs.Common.{arith, ◌≡◌, ◌≢◌, ◌<◌, ℕ, [], ◌∷◌, ◌++◌, length, sym, ◌∙◌, ap, subst}
use Rattle.blic_store.specs.Diagram.{decision_at}
use Rattle.blic_store.specs.Canonical.{IsPlaced}
use Rattle.blic_store.proofs.Made.{on_ok, store_more}
use Rattle.blic_store.proofs.store.Store.add.Goals as goal

pub invariant_of-self-2 : goal.invariant_of-self-2
invariant_of-self-2 c =
    let nodes = c.self.inside.nodes.items in
    let d = c.args.decision.now in
    let now : nodes ≡ c.args.self.now.nodes = ap (λ z. z.nodes) c.self.view_is in
    store_more nodes c.push_reserved.new.self.items d c.self.inside.table c.enter.new.self c.self.inside.limit c.self.invariant
    (subst (λ z. IsPlaced z (length z) d) (sym now) c.requires.placed)
    (subst (λ z. (k : ℕ) → k < length z → decision_at z k ≢ d) (sym now) c.requires.new)
    (c.push_reserved.ensures.items ∙ ap (λ z. z ++ d ∷ []) c.reserve.ensures.items)
    (on_ok c.enter.result (c.enter.new.self ≡ c.self.inside.table ++ c.hash.result ∷ []) c.if-is_err-2.ensures.value c.enter.ensures.ok ∙ ap (λ z. c.self.inside.table ++ z ∷ []) c.hash.ensures)
    (omega (arith, c.requires.room, ap length now, ap (λ z. z.limit) c.self.view_is)) (omega arith)
