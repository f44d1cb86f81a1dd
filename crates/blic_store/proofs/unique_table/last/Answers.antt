use Rattle.std.proofs.Common.{arith, ◌≡◌, ◌≢◌, ◌-◌, ◌<◌, ◌≤◌, length, sym, ◌∙◌, ap, inl, inr}
use Rattle.std.proofs.lemmas.Bool.{cases_eq}
use Rattle.blic_store.specs.UniqueTable.{bucket, bucket_at, link_at, older_at}
use Rattle.blic_store.proofs.Links.{hash_at-map}
use Rattle.blic_store.proofs.unique_table.last.Goals as goal

pub loop-at-preserved : goal.loop-at-preserved
loop-at-preserved c =
    let links = c.args.links.now in
    let size = length c.args.heads.now in
    let t = c.requires.chains in
    let at = c.loop-at.at in
    let before : at - 1 < length links = omega (arith, c.loop-at.invariant.in_chain) in
    let older : older_at links (at - 1) ≤ at - 1 = t.link_is_older (at - 1) before in
    let here : bucket_at size links (at - 1) ≡ bucket size c.args.hash = c.loop-at.invariant.in_bucket (omega arith) in
    record {
      in_chain = omega (arith, older, c.loop-at.invariant.in_chain);
      in_bucket = λ p. t.link_in_bucket (at - 1) before p ∙ here;
      older = λ j h e.
          let j_before : j < at = c.loop-at.invariant.older j h e in
          let hash : (link_at links j).hash ≡ c.args.hash = sym (hash_at-map links j) ∙ e in
          elim (cases_eq j (at - 1)) [
            | inl q ↦ absurd (c.if-link-hash.false (sym (ap (λ z. (link_at links z).hash) q) ∙ hash))
            | inr q ↦ (let ne : j ≢ at - 1 = q in t.below_link j (at - 1) (omega arith) before (ap (bucket size) hash ∙ sym here))
          ];
    }
