-- Chains of buckets: those of the same items, and one item more.
use Rattle.std.proofs.Common.{arith, ℕ, ◌+◌, ◌-◌, ◌<◌, ◌≡◌, ◌≢◌, sym, ◌∙◌, ap, subst, inl, inr, List, length, get_or}
use Rattle.std.specs.Prelude.{set}
use Rattle.std.proofs.lemmas.Bool.{cases_eq}
use Rattle.std.proofs.lemmas.List.{get_or-set_other}
use Rattle.std.proofs.lemmas.Grind.{get_or-set_at}
use Rattle.blic_store.specs.UniqueTable.{IsChained}

-- Chains of items whose buckets and links are the same.
pub chained_same : (f g older links : ℕ → ℕ) (n : ℕ) (heads : List ℕ) → ((k : ℕ) → k < n → g k ≡ f k) → ((k : ℕ) → k < n → links k ≡ older k) → IsChained f older n heads → IsChained g links n heads
chained_same f g older links n heads same link t = record {
  below_head = λ k h. subst (λ z. k < get_or heads z 0) (sym (same k h)) (t.below_head k h);
  below_link = λ j k l h q.
      let v = t.below_link j k l h (sym (same j (omega arith)) ∙ (q ∙ same k h)) in
      let w = link k h in omega arith;
  head_is_item = t.head_is_item;
  head_in_bucket = λ b h. let v = t.head_is_item b in same (get_or heads b 0 - 1) (omega arith) ∙ t.head_in_bucket b h;
  link_is_older = λ k h. let v = t.link_is_older k h in let w = link k h in omega arith;
  link_in_bucket = λ k h p.
      let w = link k h in let v = t.link_is_older k h in
      ap (λ z. g (z - 1)) w ∙ (same (older k - 1) (omega arith) ∙ (t.link_in_bucket k h (omega arith) ∙ sym (same k h)));
}

-- Item n is put before the head of its bucket.
pub chained_more : (f older : ℕ → ℕ) (n b : ℕ) (heads : List ℕ) → IsChained f older n heads → b ≡ f n → b < length heads → older n ≡ get_or heads b 0 → IsChained f older (n + 1) (set heads b (n + 1))
chained_more f older n b heads t e l o = record {
  below_head = λ k h. elim (cases_eq (f k) b) [
    | inl q ↦ (let w = here (f k) q in omega arith)
    | inr q ↦ (let ne : k ≢ n = λ (z : k ≡ n). q (ap f z ∙ sym e) in
        let w = there (f k) q in
        let v = t.below_head k (omega arith) in omega arith)
  ];
  below_link = λ j k i h s. elim (cases_eq k n) [
    | inl q ↦ (let v = t.below_head j (omega arith) in
        let u = ap (λ z. get_or heads z 0) (s ∙ (ap f q ∙ sym e)) in
        let w = ap older q in omega arith)
    | inr q ↦ (let ne : k ≢ n = q in t.below_link j k i (omega arith) s)
  ];
  head_is_item = λ c. elim (cases_eq c b) [
    | inl q ↦ (let w = here c q in omega arith)
    | inr q ↦ (let w = there c q in let v = t.head_is_item c in omega arith)
  ];
  head_in_bucket = λ c h. elim (cases_eq c b) [
    | inl q ↦ (let w = here c q in
        let z : get_or (set heads b (n + 1)) c 0 - 1 ≡ n = omega arith in
        ap f z ∙ (sym e ∙ sym q))
    | inr q ↦ (let w = there c q in
        ap (λ z. f (z - 1)) w ∙ t.head_in_bucket c (omega arith))
  ];
  link_is_older = λ k h. elim (cases_eq k n) [
    | inl q ↦ (let w = ap older q in let v = t.head_is_item b in omega arith)
    | inr q ↦ (let ne : k ≢ n = q in t.link_is_older k (omega arith))
  ];
  link_in_bucket = λ k h p. elim (cases_eq k n) [
    | inl q ↦ (let w : older k ≡ get_or heads b 0 = ap older q ∙ o in
        ap (λ z. f (z - 1)) w ∙ (t.head_in_bucket b (omega arith) ∙ (e ∙ sym (ap f q))))
    | inr q ↦ (let ne : k ≢ n = q in t.link_in_bucket k (omega arith) p)
  ];
}
  where
    here : (c : ℕ) → c ≡ b → get_or (set heads b (n + 1)) c 0 ≡ n + 1
    here c q = get_or-set_at heads b c (n + 1) 0 q l

    there : (c : ℕ) → (c ≡ b → ⊥) → get_or (set heads b (n + 1)) c 0 ≡ get_or heads c 0
    there c q = get_or-set_other heads b c (n + 1) 0 q
