-- What the reader's state keeps to, so that its formula is within the limits: only private contracts and proofs cite this.
use Rattle.std.specs.Prelude.{◌≡◌, ◌≤◌, ◌<◌, ℕ, Bool, true, ◌&&◌, nat_le, nat_lt, List, length, Option, Some, None}
use Rattle.std.specs.List.{list_all}
use Rattle.blic_model.specs.declared.formula.Lit.{Lit}
use Rattle.blic_model.specs.Limits.{are_in_range, are_distinct}
use Rattle.blic_qdimacs.specs.declared.items.Place.{Place}
use Rattle.blic_qdimacs.specs.declared.items.Place.TheVariants.{Between, InSet, InClause}
use Rattle.blic_qdimacs.specs.Header.{Header}
use Rattle.blic_qdimacs.specs.Items.{Items, literals, no_items}
use Rattle.blic_qdimacs.specs.Machine.{Machine}

-- each literal's variable is from 1 to `vars`
abbrev pub literals_in_range : ℕ → List Lit → Bool
literals_in_range vars clause = list_all (λ l. nat_lt 0 l.var && nat_le l.var vars) clause

-- a clause that is open is not one too many
abbrev pub HasRoom : ℕ → ℕ → Place → Type 0
HasRoom most count InClause = count < most
HasRoom most count Between = Unit {0}
HasRoom most count (InSet q) = Unit {0}

pub record SoundItems (h : Header) (s : Items) : Type 0 where
  pub vars : h.vars ≤ 65535
  pub most : h.clauses ≤ 1048576
  pub count : length s.clauses ≤ h.clauses
  pub room : HasRoom h.clauses (length s.clauses) s.place
  pub literals : literals s ≤ 1048576
  pub sets : are_in_range h.vars s.sets ≡ true
  pub distinct : are_distinct s.sets ≡ true
  pub clauses : list_all (literals_in_range h.vars) s.clauses ≡ true
  pub clause : literals_in_range h.vars s.clause ≡ true

-- before the problem line nothing was read
abbrev pub SoundWith : Option Header → Items → Type 0
SoundWith None s = s ≡ no_items 0
SoundWith (Some h) s = SoundItems h s

abbrev pub Sound : Machine → Type 0
Sound m = SoundWith m.problem m.items
