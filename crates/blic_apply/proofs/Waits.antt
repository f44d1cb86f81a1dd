-- What the parts on the path of a walk wait for.
use Rattle.std.proofs.Common.{arith, ℕ, ◌+◌, ◌-◌, ◌<◌, ◌≤◌, ◌≡◌, refl, sym, ◌∙◌, ap, subst, inl, inr, List, [], ◌∷◌, ◌++◌, length, map, get_or}
use Rattle.std.proofs.lemmas.Bool.{cases_lt}
use Rattle.std.proofs.lemmas.List.{get_or-map, get_or_append_left, get_or_push, length-map, length_push, map-append}
use Rattle.blic_store.specs.declared.decision.Decision.{Decision}
use Rattle.blic_store.specs.Canonical.{IsCanonical}
use Rattle.blic_store.specs.Diagram.{IsRef, high_of, level_of, low_of}
use Rattle.blic_store.specs.Function.{Function}
use Rattle.blic_store.specs.Growth.{Adds, Answers, Diagrams}
use Rattle.blic_store.proofs.Numbers.{push_front, push_last}
use Rattle.blic_store.proofs.Parts.{decision_kept}
use Rattle.blic_store.proofs.Paths.{IsPath, at_hand, path_up, side_before}
use Rattle.blic_apply.specs.Changing.{IsChanged}
use Rattle.blic_apply.specs.PartTable.{Enters, Table}
use Rattle.blic_apply.specs.declared.change.Change.{Change}
use Rattle.blic_apply.specs.declared.rewriting.Waiting.{Waiting}
use Rattle.blic_apply.specs.declared.rewriting.Waiting.TheVariants.{Low, High}
use Rattle.blic_apply.proofs.Changing.{IsReady}
use Rattle.blic_apply.proofs.Walk.{IsWalk, changed_kept, choice_of, walk_made, walk_up}

abbrev pub waiting_part : Waiting → ℕ
waiting_part (Low part) = part
waiting_part (High part low) = part

-- the part waits for ref r
abbrev pub IsWaitingFor : Change → List Decision → Waiting → ℕ → Type 0
IsWaitingFor change nodes (Low part) r = r ≡ low_of nodes part
IsWaitingFor change nodes (High part low) r = (r ≡ high_of nodes part) × IsChanged change nodes (low_of nodes part) low

-- what is known of its sides once that ref has become s
abbrev pub HasSides : Change → List Decision → Waiting → ℕ → Type 0
HasSides change nodes (Low part) s = IsChanged change nodes (low_of nodes part) s
HasSides change nodes (High part low) s = IsChanged change nodes (low_of nodes part) low × IsChanged change nodes (high_of nodes part) s

abbrev pub path_of : List Waiting → ℕ → List ℕ
path_of waiting at = map waiting_part waiting ++ at ∷ []

abbrev pub waiting_at : List Waiting → ℕ → Waiting
waiting_at waiting k = get_or waiting k (Low 0)

-- each part on the path waits for the one after it
abbrev pub AreWaiting : Change → List Decision → List Waiting → ℕ → Type 0
AreWaiting change nodes waiting at = (k : ℕ) → k < length waiting → IsWaitingFor change nodes (waiting_at waiting k) (get_or (path_of waiting at) (k + 1) 0)

pub waits_none : (change : Change) (nodes : List Decision) (at : ℕ) → AreWaiting change nodes [] at
waits_none change nodes at k l = absurd (omega arith)

-- One more waits.
pub path_push : (waiting : List Waiting) (f : Waiting) → map waiting_part (waiting ++ f ∷ []) ≡ path_of waiting (waiting_part f)
path_push waiting f = map-append waiting_part waiting (f ∷ [])

path_last : (waiting : List Waiting) (f : Waiting) (r : ℕ) → get_or (path_of (waiting ++ f ∷ []) r) (length waiting + 1) 0 ≡ r
path_last waiting f r =
    let len = length_push waiting f in
    let long = length-map (waiting ++ f ∷ []) waiting_part in
    push_last (map waiting_part (waiting ++ f ∷ [])) r (length waiting + 1) (omega arith)

path_before : (waiting : List Waiting) (f : Waiting) (r k : ℕ) → k < length waiting → get_or (path_of (waiting ++ f ∷ []) r) (k + 1) 0 ≡ get_or (path_of waiting (waiting_part f)) (k + 1) 0
path_before waiting f r k l =
    let len = length_push waiting f in
    let long = length-map (waiting ++ f ∷ []) waiting_part in
    push_front (map waiting_part (waiting ++ f ∷ [])) r (k + 1) (omega arith) ∙ ap (λ z. get_or z (k + 1) 0) (path_push waiting f)

waiting_before : (waiting : List Waiting) (f : Waiting) (k : ℕ) → k < length waiting → waiting_at (waiting ++ f ∷ []) k ≡ waiting_at waiting k
waiting_before waiting f k l = get_or_append_left waiting (f ∷ []) (Low 0) k l

waiting_last : (waiting : List Waiting) (f : Waiting) (k : ℕ) → k ≡ length waiting → waiting_at (waiting ++ f ∷ []) k ≡ f
waiting_last waiting f k e = ap (waiting_at (waiting ++ f ∷ [])) e ∙ get_or_push waiting f (Low 0) (length waiting) refl

pub waits_push : (change : Change) (nodes : List Decision) (waiting : List Waiting) (f : Waiting) (r : ℕ) → AreWaiting change nodes waiting (waiting_part f) → IsWaitingFor change nodes f r → AreWaiting change nodes (waiting ++ f ∷ []) r
waits_push change nodes waiting f r w last k l =
    let len = length_push waiting f in
    elim (cases_lt k (length waiting)) [
      | inl m ↦ subst (λ z. IsWaitingFor change nodes z (get_or (path_of (waiting ++ f ∷ []) r) (k + 1) 0)) (sym (waiting_before waiting f k m))
          (subst (IsWaitingFor change nodes (waiting_at waiting k)) (sym (path_before waiting f r k m)) (w k m))
      | inr m ↦ (let e : k ≡ length waiting = omega arith in
          subst (λ z. IsWaitingFor change nodes z (get_or (path_of (waiting ++ f ∷ []) r) (k + 1) 0)) (sym (waiting_last waiting f k e))
          (subst (IsWaitingFor change nodes f) (sym (ap (λ z. get_or (path_of (waiting ++ f ∷ []) r) (z + 1) 0) e ∙ path_last waiting f r)) last))
    ]

waits_last : (change : Change) (nodes : List Decision) (waiting : List Waiting) (f : Waiting) (r : ℕ) → AreWaiting change nodes (waiting ++ f ∷ []) r → IsWaitingFor change nodes f r
waits_last change nodes waiting f r w =
    let len = length_push waiting f in
    subst (λ z. IsWaitingFor change nodes z r) (waiting_last waiting f (length waiting) refl)
    (subst (IsWaitingFor change nodes (waiting_at (waiting ++ f ∷ []) (length waiting))) (path_last waiting f r) (w (length waiting) (omega arith)))

waits_before : (change : Change) (nodes : List Decision) (waiting : List Waiting) (f : Waiting) (r : ℕ) → AreWaiting change nodes (waiting ++ f ∷ []) r → AreWaiting change nodes waiting (waiting_part f)
waits_before change nodes waiting f r w k l =
    let len = length_push waiting f in
    subst (λ z. IsWaitingFor change nodes z (get_or (path_of waiting (waiting_part f)) (k + 1) 0)) (waiting_before waiting f k l)
    (subst (IsWaitingFor change nodes (waiting_at (waiting ++ f ∷ []) k)) (path_before waiting f r k l) (w k (omega arith)))

-- What is known of a part's low side stays where decisions are added.
low_kept : (change : Change) (g : Function) (now new : List Decision) → IsCanonical now → Adds g now new → (part low : ℕ) → IsRef now part → 2 ≤ part → IsChanged change now (low_of now part) low → IsChanged change new (low_of new part) low
low_kept change g now new c d part low h i w =
    let before = side_before now c part (low_of now part) h i (inl refl) in
    subst (λ z. IsChanged change new z low) (sym (ap (λ z. z.low) (decision_kept g now new d (part - 2) (omega arith)))) (changed_kept change g now new d (low_of now part) low (omega arith) w)

-- A part waits for what it did.
waits_kept : (change : Change) (g : Function) (now new : List Decision) → IsCanonical now → Adds g now new → (f : Waiting) (r : ℕ) → IsRef now (waiting_part f) → 2 ≤ waiting_part f → IsWaitingFor change now f r → IsWaitingFor change new f r
waits_kept change g now new c d (Low part) r h i w = w ∙ sym (ap (λ z. z.low) (decision_kept g now new d (part - 2) (omega arith)))
waits_kept change g now new c d (High part low) r h i w = (
  w.0 ∙ sym (ap (λ z. z.high) (decision_kept g now new d (part - 2) (omega arith))),
  low_kept change g now new c d part low h i w.1,
)

-- And once that has become something, its sides have.
sides_known : (change : Change) (nodes : List Decision) (f : Waiting) (r s : ℕ) → IsWaitingFor change nodes f r → IsChanged change nodes r s → HasSides change nodes f s
sides_known change nodes (Low part) r s w m = subst (λ z. IsChanged change nodes z s) w m
sides_known change nodes (High part low) r s w m = (w.1, subst (λ z. IsChanged change nodes z s) w.0 m)

-- what is known once the part in hand is made, of the part that waited for it
pub record IsResumed (change : Change) (old new : List Decision) (a : ℕ) (waiting : List Waiting) (f : Waiting) (table : Table) (s : ℕ) : Type 0 where
  pub walk : IsWalk change old new a (path_of waiting (waiting_part f)) table
  pub waits : AreWaiting change new waiting (waiting_part f)
  pub sides : HasSides change new f s

pub resumed : (change : Change) (old : List Decision) (now new : Diagrams) (a : ℕ) (waiting rest : List Waiting) (f : Waiting) (at level low high made : ℕ) (table next : Table)
    → IsWalk change old now.nodes a (path_of waiting at) table → AreWaiting change now.nodes waiting at → waiting ≡ rest ++ f ∷ []
    → level ≡ level_of now.nodes at → IsReady change now.nodes at low high → Answers (choice_of now.nodes level low high) now new made → Enters table next at made
    → IsResumed change old new.nodes a rest f next made
resumed change old now new a waiting rest f at level low high made table next w waits e l r m t =
    let g = choice_of now.nodes level low high in
    let c = w.adds.canonical in
    let path : map waiting_part waiting ≡ path_of rest (waiting_part f) = ap (map waiting_part) e ∙ path_push rest f in
    let some : 0 < length (map waiting_part waiting) = omega (arith, ap length path, length_push (map waiting_part rest) (waiting_part f)) in
    let leads : IsPath now.nodes a (path_of rest (waiting_part f)) = subst (IsPath now.nodes a) path (path_up now.nodes a (map waiting_part waiting) at some w.leads) in
    let seen : AreWaiting change now.nodes (rest ++ f ∷ []) at = subst (λ z. AreWaiting change now.nodes z at) e waits in
    let last = at_hand now.nodes a (map waiting_part rest) (waiting_part f) leads in
    record {
      walk = subst (λ z. IsWalk change old new.nodes a z next) path
          (walk_up change old now new a (map waiting_part waiting) at level low high made table next w l r m t some);
      waits = λ k i.
          let long = length-map rest waiting_part in
          let longer = length_push (map waiting_part rest) (waiting_part f) in
          let same : get_or (path_of rest (waiting_part f)) k 0 ≡ waiting_part (waiting_at rest k) = push_front (map waiting_part rest) (waiting_part f) k (omega arith) ∙ get_or-map waiting_part rest k (Low 0) 0 i in
          waits_kept change g now.nodes new.nodes c m.adds (waiting_at rest k) (get_or (path_of rest (waiting_part f)) (k + 1) 0)
          (subst (IsRef now.nodes) same (leads.led k (omega arith)).1.held) (subst (λ z. 2 ≤ z) same (leads.inner k (omega arith)))
          (waits_before change now.nodes rest f at seen k i);
      sides = sides_known change new.nodes f at made
          (waits_kept change g now.nodes new.nodes c m.adds f at last.led.1.held last.inner (waits_last change now.nodes rest f at seen))
          (walk_made change old now new a (map waiting_part waiting) at level low high made table w l r m);
    }
