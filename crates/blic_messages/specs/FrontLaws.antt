-- How a grammar's fronts and the spellings of its frames belong together.
use Rattle.std.specs.Prelude.{ℕ, ◌≡◌, ◌≢◌, ◌+◌, ◌<◌, ◌≤◌, List, ◌++◌, length, take, All}
use Rattle.blic_messages.specs.Grammar.{Grammar, Whole, Broken, Partial, front}

abbrev pub AreBytes : List ℕ → Type 0
AreBytes = All (λ b. b < 256)

-- each spelling is read as its frame, whatever follows
abbrev pub SpellingsAreWhole : {F : Type 0} → Grammar F → (F → Type 0) → (F → List ℕ) → Type 0
SpellingsAreWhole {F = F} g ok spelling = (f : F) (more : List ℕ) → ok f → front g (spelling f ++ more) ≡ Whole f (length (spelling f))

-- what is read as a frame is its spelling
abbrev pub WholeIsSpelled : {F : Type 0} → Grammar F → (F → Type 0) → (F → List ℕ) → Type 0
WholeIsSpelled {F = F} g ok spelling =
    (bytes : List ℕ) (f : F) (n : ℕ) → AreBytes bytes → front g bytes ≡ Whole f n → (n ≤ length bytes) × ok f × (take n bytes ≡ spelling f)

-- what was decided stays so, whatever follows
abbrev pub FrontStays : {F : Type 0} → Grammar F → Type 0
FrontStays g = (bytes more : List ℕ) → front g bytes ≢ Partial → front g (bytes ++ more) ≡ front g bytes

-- broken bytes go on as no frame
abbrev pub BrokenIsNoFrame : {F : Type 0} → Grammar F → (F → Type 0) → (F → List ℕ) → Type 0
BrokenIsNoFrame {F = F} g ok spelling =
    (bytes more rest : List ℕ) (f : F) → front g bytes ≡ Broken → ok f → bytes ++ more ≡ spelling f ++ rest → ⊥

-- bytes begin with the spelling of one frame at most
abbrev pub OneSpellingBegins : {F : Type 0} → (F → Type 0) → (F → List ℕ) → Type 0
OneSpellingBegins {F = F} ok spelling = (f g : F) (more rest : List ℕ) → ok f → ok g → spelling f ++ more ≡ spelling g ++ rest → f ≡ g

-- bytes of which nothing is told begin a frame, but for fewer than eight bytes at their end
abbrev pub PartialBegins : {F : Type 0} → Grammar F → Type 0
PartialBegins {F = F} g =
    (bytes : List ℕ) → front g bytes ≡ Partial
    → (kept : ℕ) × (more : List ℕ) × (f : F) × (n : ℕ) × (kept ≤ length bytes) × (length bytes < kept + 8) × (front g (take kept bytes ++ more) ≡ Whole f n)
