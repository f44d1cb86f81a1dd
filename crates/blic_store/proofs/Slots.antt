-- Slots of a unique table, of which one more is filled.
use Rattle.std.proofs.Common.{arith, ℕ, ◌+◌, ◌-◌, ◌<◌, ◌≤◌, ◌≡◌, sym, ◌∙◌, ap, subst, inl, inr, List, [], ◌∷◌, ◌++◌, length}
use Rattle.std.specs.Prelude.{◌/◌, ◌%◌}
use Rattle.std.proofs.lemmas.Bool.{cases_eq, cases_lt}
use Rattle.std.proofs.lemmas.Nat.{and_le_r}
use Rattle.std.proofs.lemmas.List.{get_or-set_same, get_or-set_other, length-set, length_push}
use Rattle.blic_store.specs.SlotTable.{HasSlots, IsSlotTable, Puts, Stands, place, slot_at, slot_of, spot}
use Rattle.blic_store.specs.UniqueTable.{hash_at}
use Rattle.blic_store.proofs.Numbers.{push_front, push_last}

-- A slot of a number isn't empty, and keeps the number and the top of its hash.
pub slot_some : (hash k : ℕ) → 0 < slot_of hash k
slot_some hash k = omega arith

pub slot_number : (hash k : ℕ) → k + 1 < 67108864 → slot_of hash k % 67108864 ≡ k + 1
slot_number hash k l = omega arith

pub slot_tag : (hash k : ℕ) → k + 1 < 67108864 → slot_of hash k / 67108864 ≡ hash / 67108864
slot_tag hash k l = omega arith

pub place_below : (size hash i : ℕ) → 0 < size → place size hash i < size
unfolding place
place_below size hash i l = let w = and_le_r (spot hash i) (size - 1) in omega arith

-- A slot that isn't empty stays when another number is put.
kept : (old new : List ℕ) (hash k p : ℕ) → Puts old new hash k → 0 < slot_at old p → slot_at new p ≡ slot_at old p
kept old new hash k p w some =
    ap (λ z. slot_at z p) w.now ∙ get_or-set_other old (place (length old) hash w.distance) p (slot_of hash k) 0
    (λ e. let empty : slot_at old p ≡ 0 = ap (slot_at old) e ∙ w.was_empty in omega arith)

pub same_length : (old new : List ℕ) (hash k : ℕ) → Puts old new hash k → length new ≡ length old
same_length old new hash k w = ap length w.now ∙ length-set old (place (length old) hash w.distance) (slot_of hash k)

-- The slot that was filled.
filled : (old new : List ℕ) (hash k : ℕ) (w : Puts old new hash k) → slot_at new (place (length old) hash w.distance) ≡ slot_of hash k
filled old new hash k w =
    ap (λ z. slot_at z (place (length old) hash w.distance)) w.now
    ∙ get_or-set_same old (place (length old) hash w.distance) (slot_of hash k) 0 (let n = w.near in place_below (length old) hash w.distance (omega arith))

stands_kept : (old new : List ℕ) (hash k own j : ℕ) → Puts old new hash k → Stands old own j → Stands new own j
stands_kept old new hash k own j w s = (
  s.0,
  let long = same_length old new hash k w in
      record {
        near = let n = s.1.near in omega arith;
        here = let some = slot_some own j in ap (λ z. slot_at new (place z own s.0)) long ∙ (kept old new hash k (place (length old) own s.0) w (omega (arith, s.1.here)) ∙ s.1.here);
        before = λ i l.
            let was = s.1.before i l in
            let now : slot_at new (place (length new) own i) ≡ slot_at old (place (length old) own i) = ap (λ z. slot_at new (place z own i)) long ∙ kept old new hash k (place (length old) own i) w was in
            omega arith;
      },
)

stands_put : (old new : List ℕ) (hash k : ℕ) → Puts old new hash k → Stands new hash k
stands_put old new hash k w = (
  w.distance,
  let long = same_length old new hash k w in
      record {
        near = let n = w.near in omega arith;
        here = ap (λ z. slot_at new (place z hash w.distance)) long ∙ filled old new hash k w;
        before = λ i l.
            let was = w.before i l in
            let now : slot_at new (place (length new) hash i) ≡ slot_at old (place (length old) hash i) = ap (λ z. slot_at new (place z hash i)) long ∙ kept old new hash k (place (length old) hash i) w was in
            omega arith;
      },
)

-- One number more stands.
pub slots_put : (old new hashes : List ℕ) (n : ℕ) → HasSlots old hashes n → Puts old new (hash_at hashes n) n → n + 1 < 67108864 → HasSlots new hashes (n + 1)
slots_put old new hashes n h w few = record {
  each = λ k l. elim (cases_lt k n) [
    | inl m ↦ stands_kept old new (hash_at hashes n) n (hash_at hashes k) k w (h.each k m)
    | inr m ↦ (let e : n ≡ k = omega arith in subst (λ z. Stands new (hash_at hashes z) z) e (stands_put old new (hash_at hashes n) n w))
  ];
  no_other = λ p some. elim (cases_eq p (place (length old) (hash_at hashes n) w.distance)) [
    | inl e ↦ (let here : slot_at new p ≡ slot_of (hash_at hashes n) n = ap (slot_at new) e ∙ filled old new (hash_at hashes n) n w in
        let number : slot_at new p % 67108864 ≡ n + 1 = ap (λ z. z % 67108864) here ∙ slot_number (hash_at hashes n) n few in
        (omega arith, omega arith))
    | inr ne ↦ (let same : slot_at new p ≡ slot_at old p = ap (λ z. slot_at z p) w.now ∙ get_or-set_other old (place (length old) (hash_at hashes n) w.distance) p (slot_of (hash_at hashes n) n) 0 ne in
        let was = h.no_other p (omega arith) in
        let number : slot_at new p % 67108864 ≡ slot_at old p % 67108864 = ap (λ z. z % 67108864) same in
        let low = was.0 in
        let high = was.1 in
        (omega arith, omega arith))
  ];
}

-- Where all slots are empty, no number stands.
pub slots_none : (slots hashes : List ℕ) → ((p : ℕ) → slot_at slots p ≡ 0) → HasSlots slots hashes 0
slots_none slots hashes empty = record {
  each = λ k l. absurd (omega arith);
  no_other = λ p some. absurd (let e = empty p in omega arith);
}

-- With a hash more, the numbers before it stand as they did.
pub slots_push : (slots hashes : List ℕ) (hash n : ℕ) → n ≤ length hashes → HasSlots slots hashes n → HasSlots slots (hashes ++ hash ∷ []) n
slots_push slots hashes hash n l h = record {
  each = λ k m. subst (λ z. Stands slots z k) (sym (push_front hashes hash k (omega arith))) (h.each k m);
  no_other = h.no_other;
}

-- The table with a number more.
pub table_put : (slots new hashes pushed : List ℕ) (hash n : ℕ) → IsSlotTable slots hashes → n ≡ length hashes → Puts slots new hash n → n + 1 < 67108864 → pushed ≡ hashes ++ hash ∷ [] → IsSlotTable new pushed
table_put slots new hashes pushed hash n t e w few p =
    let long = same_length slots new hash n w in
    let len = length_push hashes hash in
    let last : hash_at (hashes ++ hash ∷ []) n ≡ hash = push_last hashes hash n e in
    let size = t.size in
    let some = size.some in
    let most = size.in_range in
    let stand : HasSlots new (hashes ++ hash ∷ []) (n + 1) =
    slots_put slots new (hashes ++ hash ∷ []) n (slots_push slots hashes hash n (omega arith) (subst (HasSlots slots hashes) (sym e) t.stand)) (subst (λ z. Puts slots new z n) (sym last) w) few in
    subst (IsSlotTable new) (sym p) (record {
      size = record { some = omega arith; in_range = omega arith };
      stand = subst (HasSlots new (hashes ++ hash ∷ [])) (let l : n + 1 ≡ length (hashes ++ hash ∷ []) = omega arith in l) stand;
      few = omega arith;
    })

-- no number that stands in one of the first i slots of the hash is the one that is looked for
abbrev pub WasPassed : List ℕ → ℕ → (ℕ → Type 0) → ℕ → Type 0
WasPassed slots hash P i = (j k : ℕ) → j < i → k + 1 < 67108864 → slot_at slots (place (length slots) hash j) ≡ slot_of hash k → P k → ⊥

pub passed_none : (slots : List ℕ) (hash : ℕ) (P : ℕ → Type 0) → WasPassed slots hash P 0
passed_none slots hash P j k l = absurd (omega arith)

-- A slot more was looked at.
pub passed_more : (slots : List ℕ) (hash : ℕ) (P : ℕ → Type 0) (i slot : ℕ) → WasPassed slots hash P i → slot ≡ slot_at slots (place (length slots) hash i)
    → (slot / 67108864 ≡ hash / 67108864 → P (slot % 67108864 - 1) → ⊥) → WasPassed slots hash P (i + 1)
passed_more slots hash P i slot w at none j k l few e x = elim (cases_lt j i) [
  | inl m ↦ w j k m few e x
  | inr m ↦ (let same : j ≡ i = omega arith in
      let here : slot ≡ slot_of hash k = at ∙ (ap (λ z. slot_at slots (place (length slots) hash z)) (sym same) ∙ e) in
      let number : slot % 67108864 - 1 ≡ k = ap (λ z. z % 67108864 - 1) here ∙ (let q = slot_number hash k few in omega arith) in
      none (ap (λ z. z / 67108864) here ∙ slot_tag hash k few) (subst P (sym number) x))
]

-- After an empty slot, or after all slots, there is no number with the hash that is looked for.
pub passed_all : (slots hashes : List ℕ) (hash : ℕ) (P : ℕ → Type 0) (i : ℕ) → HasSlots slots hashes (length hashes) → length hashes < 67108864 → WasPassed slots hash P i
    → ((d : ℕ) → d < length slots → i ≤ d → ((j : ℕ) → j < d → 0 < slot_at slots (place (length slots) hash j)) → 0 < slot_at slots (place (length slots) hash d) → ⊥)
    → (k : ℕ) → k < length hashes → hash_at hashes k ≡ hash → P k → ⊥
passed_all slots hashes hash P i h few w out k l e x =
    let s : Stands slots hash k = subst (λ z. Stands slots z k) e (h.each k l) in
    elim (cases_lt s.0 i) [
      | inl m ↦ w s.0 k m (omega arith) s.1.here x
      | inr m ↦ out s.0 s.1.near (omega arith) s.1.before (let some = slot_some hash k in omega (arith, s.1.here))
    ]

pub passed_empty : (slots hashes : List ℕ) (hash : ℕ) (P : ℕ → Type 0) (i : ℕ) → HasSlots slots hashes (length hashes) → length hashes < 67108864 → WasPassed slots hash P i
    → slot_at slots (place (length slots) hash i) ≡ 0 → (k : ℕ) → k < length hashes → hash_at hashes k ≡ hash → P k → ⊥
passed_empty slots hashes hash P i h few w empty = passed_all slots hashes hash P i h few w (λ d l m before some. elim (cases_lt i d) [
  | inl below ↦ (let b = before i below in omega arith)
  | inr here ↦ (let e : d ≡ i = omega arith in
      let none : slot_at slots (place (length slots) hash d) ≡ 0 = ap (λ z. slot_at slots (place (length slots) hash z)) e ∙ empty in
      omega arith)
])
