-- The walk over the parts of a function that is changed.
use Rattle.std.proofs.Common.{arith, ℕ, ◌<◌, ◌≤◌, ◌≡◌, ◌≢◌, refl, sym, ◌∙◌, ap, subst, inl, inr, List, [], ◌∷◌, ◌++◌, length, get_or}
use Rattle.std.proofs.lemmas.List.{length_push}
use Rattle.blic_store.specs.declared.decision.Decision.{Decision}
use Rattle.blic_store.specs.Function.{Function, Same, choice, after, IsPart}
use Rattle.blic_store.specs.Diagram.{IsRef, IsSideOf, function, level_of, low_of, high_of}
use Rattle.blic_store.specs.Canonical.{IsCanonical}
use Rattle.blic_store.specs.Growth.{Diagrams, Adds, Answers}
use Rattle.blic_store.specs.Under.{IsLedTo}
use Rattle.blic_store.proofs.Numbers.{Each, each_front, each_last, each_push, falling_above}
use Rattle.blic_store.proofs.Parts.{adds_more, function-kept, level_kept, no_shorter}
use Rattle.blic_store.proofs.Paths.{IsPath, at_hand, path_down, path_first, path_kept, path_up}
use Rattle.blic_store.proofs.Made.{adds_none}
use Rattle.blic_apply.specs.Changing.{HasChanged, IsChanged, IsMissing, IsUnsettled, LeavesOpen, changed}
use Rattle.blic_apply.specs.PartTable.{Enters, HasBecome, IsEmpty, IsNew, Table}
use Rattle.blic_apply.specs.declared.change.Change.{Change}
use Rattle.blic_apply.proofs.Table.{become_enters, new_enters}
use Rattle.blic_apply.proofs.Changing.{IsReady, changed_after, changed_same, ready_is}

-- A part that is changed gives a part of the changed function.
changed_part : (change : Change) (nodes : List Decision) (a at : ℕ) (g : Function) → IsLedTo nodes a at → IsUnsettled change nodes at → Same g (changed change (function nodes at)) → IsPart (changed change (function nodes a)) g
changed_part change nodes a at g x u e = (
  x.0,
  λ p. e p ∙ (changed_same change (function nodes at) (λ q. function nodes a (after x.0 q)) x.1.value p
      ∙ changed_after change (function nodes a) x.0 (level_of nodes at) (x.1.below u.inner) u.open_level p),
)

-- a part that waits to be changed
pub record IsPending (change : Change) (nodes : List Decision) (table : Table) (r : ℕ) : Type 0 where
  pub unsettled : IsUnsettled change nodes r
  pub unmade : IsNew table r

-- what the table has of a part
pub record IsMade (change : Change) (nodes : List Decision) (a r s : ℕ) : Type 0 where
  pub in_range : r ≤ a
  pub changed : IsChanged change nodes r s

-- What is known in a walk: `path` leads from a to the part in hand, and what is on it waits.
pub record IsWalk (change : Change) (old now : List Decision) (a : ℕ) (path : List ℕ) (table : Table) : Type 0 where
  pub a_held : IsRef old a
  pub adds : Adds (changed change (function old a)) old now
  pub leads : IsPath now a path
  pub pending : Each (IsPending change now table) path
  pub made : (r s : ℕ) → HasBecome table r s → IsMade change now a r s

-- The walk's beginning.
pub walk_first : (change : Change) (old : List Decision) (a : ℕ) (table : Table) → IsCanonical old → IsRef old a → IsUnsettled change old a → IsEmpty table → IsWalk change old old a (a ∷ []) table
walk_first change old a table c h u none = record {
  a_held = h;
  adds = adds_none (changed change (function old a)) old c;
  leads = path_first old a h u.inner;
  pending = each_push (IsPending change old table) [] a (λ k l. absurd (omega arith)) (record { unsettled = u; unmade = none a });
  made = λ r s e. absurd (none r e.round);
}

-- the part in hand
pub record IsInHand (change : Change) (nodes : List Decision) (table : Table) (a at : ℕ) : Type 0 where
  pub led : IsLedTo nodes a at
  pub in_range : at ≤ a
  pub unsettled : IsUnsettled change nodes at
  pub unmade : IsNew table at

pub in_hand : (change : Change) (old now : List Decision) (a : ℕ) (xs : List ℕ) (at : ℕ) (table : Table) → IsWalk change old now a (xs ++ at ∷ []) table → IsInHand change now table a at
in_hand change old now a xs at table w =
    let here = at_hand now a xs at w.leads in
    let short = here.short in
    let p = each_last (IsPending change now table) xs at w.pending in
    record { led = here.led; in_range = omega arith; unsettled = p.unsettled; unmade = p.unmade }

pub has_changed : (change : Change) (old now : List Decision) (a : ℕ) (path : List ℕ) (table : Table) → IsWalk change old now a path table → HasChanged change now table
has_changed change old now a path table w r s e = (w.made r s e).changed

-- A side that is missing comes next.
pub walk_down : (change : Change) (old now : List Decision) (a : ℕ) (xs : List ℕ) (at r : ℕ) (table : Table) → IsWalk change old now a (xs ++ at ∷ []) table → IsSideOf now at r → IsMissing change now table r
    → IsWalk change old now a ((xs ++ at ∷ []) ++ r ∷ []) table
walk_down change old now a xs at r table w side m = record {
  a_held = w.a_held;
  adds = w.adds;
  leads = path_down now w.adds.canonical a xs at r w.leads side m.unsettled.inner;
  pending = each_push (IsPending change now table) (xs ++ at ∷ []) r w.pending (record { unsettled = m.unsettled; unmade = m.unmade });
  made = w.made;
}

-- What is known of a ref stays where decisions are added.
pub changed_kept : (change : Change) (f : Function) (now new : List Decision) → Adds f now new → (r s : ℕ) → IsRef now r → IsChanged change now r s → IsChanged change new r s
changed_kept change f now new d r s h w = record {
  held = let l = no_shorter f now new d in let i = w.held in omega arith;
  value = λ p. ap (λ g. g p) (function-kept f now new d s w.held) ∙ (w.value p ∙ sym (ap (λ g. changed change g p) (function-kept f now new d r h)));
}

unsettled_kept : (change : Change) (f : Function) (now new : List Decision) → Adds f now new → (r : ℕ) → IsRef now r → IsUnsettled change now r → IsUnsettled change new r
unsettled_kept change f now new d r h u = record { inner = u.inner; open_level = subst (LeavesOpen change) (sym (level_kept f now new d r h)) u.open_level }

-- What `make` is asked for.
abbrev pub choice_of : List Decision → ℕ → ℕ → ℕ → Function
choice_of now level low high = choice level (function now low) (function now high)

pub is_ready : (change : Change) (old now : List Decision) (a : ℕ) (xs : List ℕ) (at low high : ℕ) (table : Table) → IsWalk change old now a (xs ++ at ∷ []) table
    → IsChanged change now (low_of now at) low × IsChanged change now (high_of now at) high → IsReady change now at low high
is_ready change old now a xs at low high table w r =
    let here = in_hand change old now a xs at table w in
    record { held = here.led.1.held; unsettled = here.unsettled; low_side = r.0; high_side = r.1 }

asked_is : (change : Change) (now : List Decision) (at level low high : ℕ) → IsCanonical now → level ≡ level_of now at → IsReady change now at low high → Same (choice_of now level low high) (changed change (function now at))
asked_is change now at level low high c e w p = ap (λ z. choice_of now z low high p) e ∙ ready_is change now at low high c w p

-- What the store adds then are parts of the changed function, also where `make` found it full.
pub walk_adds : (change : Change) (old now new : List Decision) (a : ℕ) (xs : List ℕ) (at level low high : ℕ) (table : Table) → IsWalk change old now a (xs ++ at ∷ []) table
    → level ≡ level_of now at → IsReady change now at low high → Adds (choice_of now level low high) now new → Adds (changed change (function old a)) old new
walk_adds change old now new a xs at level low high table w e r d =
    let here = in_hand change old now a xs at table w in
    let g = choice_of now level low high in
    let f = changed change (function old a) in
    let kept : changed change (function now a) ≡ f = ap (changed change) (function-kept f old now w.adds a w.a_held) in
    adds_more f g old now new w.adds
    (subst (λ z. IsPart z g) kept (changed_part change now a at g here.led here.unsettled (asked_is change now at level low high w.adds.canonical e r))) d

-- The part in hand is made.
pub walk_made : (change : Change) (old : List Decision) (now new : Diagrams) (a : ℕ) (xs : List ℕ) (at level low high made : ℕ) (table : Table) → IsWalk change old now.nodes a (xs ++ at ∷ []) table
    → level ≡ level_of now.nodes at → IsReady change now.nodes at low high → Answers (choice_of now.nodes level low high) now new made → IsChanged change new.nodes at made
walk_made change old now new a xs at level low high made table w e r m = record {
  held = m.held;
  value = λ p. m.value p ∙ (asked_is change now.nodes at level low high w.adds.canonical e r p
      ∙ sym (ap (λ g. changed change g p) (function-kept (choice_of now.nodes level low high) now.nodes new.nodes m.adds at r.held)));
}

-- It was the last one: the answer.
pub walk_answers : (change : Change) (old now new : Diagrams) (a : ℕ) (at level low high made : ℕ) (table : Table) → IsWalk change old.nodes now.nodes a (at ∷ []) table
    → level ≡ level_of now.nodes at → IsReady change now.nodes at low high → now.limit ≡ old.limit → Answers (choice_of now.nodes level low high) now new made → Answers (changed change (function old.nodes a)) old new made
walk_answers change old now new a at level low high made table w e r l m =
    let d = walk_adds change old.nodes now.nodes new.nodes a [] at level low high table w e r m.adds in
    let i = walk_made change old.nodes now new a [] at level low high made table w e r m in
    record {
      adds = d;
      same_limit = m.same_limit ∙ l;
      held = m.held;
      value = λ p. i.value p ∙ (ap (λ z. changed change (function new.nodes z) p) w.leads.root ∙ ap (λ g. changed change g p) (function-kept (changed change (function old.nodes a)) old.nodes new.nodes d a w.a_held));
    }

-- Else the part that waited for it comes next.
pub walk_up : (change : Change) (old : List Decision) (now new : Diagrams) (a : ℕ) (xs : List ℕ) (at level low high made : ℕ) (table next : Table) → IsWalk change old now.nodes a (xs ++ at ∷ []) table
    → level ≡ level_of now.nodes at → IsReady change now.nodes at low high → Answers (choice_of now.nodes level low high) now new made → Enters table next at made → 0 < length xs
    → IsWalk change old new.nodes a xs next
walk_up change old now new a xs at level low high made table next w e r m t some =
    let g = choice_of now.nodes level low high in
    let len = length_push xs at in
    let a_now : IsRef now.nodes a = let l = no_shorter (changed change (function old a)) old now.nodes w.adds in let h = w.a_held in omega arith in
    record {
      a_held = w.a_held;
      adds = walk_adds change old now.nodes new.nodes a xs at level low high table w e r m.adds;
      leads = path_kept g now.nodes new.nodes m.adds a xs a_now (path_up now.nodes a xs at some w.leads);
      pending = λ k h.
          let p : IsPending change now.nodes table (get_or xs k 0) = each_front (IsPending change now.nodes table) xs at w.pending k h in
          let apart : get_or xs k 0 ≢ at = let f = falling_above xs at w.leads.falling k h in omega arith in
          record {
            unsettled = unsettled_kept change g now.nodes new.nodes m.adds (get_or xs k 0) (each_front (IsLedTo now.nodes a) xs at w.leads.led k h).1.held p.unsettled;
            unmade = new_enters table next at made (get_or xs k 0) t apart p.unmade;
          };
      made = λ q s found. elim (become_enters table next at made q s t found) [
        | inl here ↦ record {
          in_range = let b = (in_hand change old now.nodes a xs at table w).in_range in let e = here.0 in omega arith;
          changed = subst (IsChanged change new.nodes q) here.1 (subst (λ z. IsChanged change new.nodes z made) (sym here.0) (walk_made change old now new a xs at level low high made table w e r m));
        }
        | inr before ↦ (let old_made = w.made q s before in
            let b = old_made.in_range in
            record { in_range = b; changed = changed_kept change g now.nodes new.nodes m.adds q s (omega arith) old_made.changed })
      ];
    }
