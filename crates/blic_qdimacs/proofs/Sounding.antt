-- The reader's state keeps to the limits.
use Rattle.std.proofs.Common.{◌≡◌, ℕ, ◌<◌, ◌≤◌, Bool, true, false, cond, not, ◌&&◌, ◌||◌, ◌==◌, List, [], ◌∷◌, ◌++◌, length, refl, ap, sym, ◌∙◌, subst, arith, Option, Some, None, Result, Ok, Err, nat_le, length-append}
use Rattle.std.specs.Prelude.{nat_lt}
use Rattle.std.specs.List.{list_all}
use Rattle.std.proofs.lemmas.Bool.{leb-false, le-leb, lt-ltb, ltb-false, and_parts, and_from, ne_eqb, eqb-false, both_ways}
use Rattle.std.proofs.lemmas.List.Folds.{list_any-append, list_all-append}
use Rattle.std.proofs.lemmas.List.Sums.{sum_by-append}
use Rattle.blic_model.specs.declared.prefix.Quant.{Quant}
use Rattle.blic_model.specs.declared.prefix.Bound.{Bound}
use Rattle.blic_model.specs.declared.formula.Lit.{Lit}
use Rattle.blic_model.specs.Limits.{is_bound, are_in_range, are_distinct}
use Rattle.blic_qdimacs.specs.declared.error.ReadError.{ReadError}
use Rattle.blic_qdimacs.specs.declared.error.ReadError.TheVariants as errors
use Rattle.blic_qdimacs.specs.declared.byte_reader.Mode.{Mode}
use Rattle.blic_qdimacs.specs.declared.byte_reader.Mode.TheVariants.{Start, Comment, Text}
use Rattle.blic_qdimacs.specs.declared.items.Place.{Place}
use Rattle.blic_qdimacs.specs.declared.items.Place.TheVariants.{Between, InSet, InClause}
use Rattle.blic_qdimacs.specs.declared.seen.Seen.{Seen}
use Rattle.blic_qdimacs.specs.declared.seen.Seen.TheVariants as seen
use Rattle.blic_qdimacs.specs.declared.seen.HeaderSeen.{HeaderSeen}
use Rattle.blic_qdimacs.specs.declared.seen.HeaderSeen.TheVariants as headers
use Rattle.blic_qdimacs.specs.Binding.{◌>>=◌}
use Rattle.blic_qdimacs.specs.Header.{Header, within_limits}
use Rattle.blic_qdimacs.specs.Items.{Items, literals, no_items, has_clauses, after_letter, in_set, in_clause, after_number, after_word}
use Rattle.blic_qdimacs.specs.Lines.{is_line_end, is_blank}
use Rattle.blic_qdimacs.specs.Machine.{Machine, start, seen_with, is_nothing, kind_seen, with_items, word_taken, word_ended, some_header, header_seen_end, with_problem, header_ended, line_judged, next_line, inside, after_byte, after_bytes}
use Rattle.blic_qdimacs.specs.Sound.{literals_in_range, HasRoom, SoundItems, SoundWith, Sound}
use Rattle.blic_qdimacs.specs.Words.{Kind, Letter, Number, Other}

-- what holds of an answer that is no refusal
abbrev pub Then : {A : Type 0} → Result A ReadError → (A → Type 0) → Type 0
Then (Ok x) P = P x
Then (Err e) P = Unit {0}

pub then_cond : {A : Type 0} (c : Bool) (x y : Result A ReadError) (P : A → Type 0) → (c ≡ true → Then x P) → (c ≡ false → Then y P) → Then (cond c x y) P
then_cond true x y P h k = h refl
then_cond false x y P h k = k refl

pub then_ok : {A : Type 0} (r : Result A ReadError) (x : A) (P : A → Type 0) → r ≡ Ok x → Then r P → P x
then_ok r x P e h = subst (λ q. Then q P) e h

bound_other : (sets : List Bound) (q : Quant) (v u : ℕ) → (v == u) ≡ false → is_bound (sets ++ record { quant = q; var = v } ∷ []) u ≡ is_bound sets u
bound_other sets q v u other =
    list_any-append (λ (x : Bound). x.var == u) sets (record { quant = q; var = v } ∷ []) ∙ ap (λ t. is_bound sets u || (t || false)) other ∙ or_false (is_bound sets u)
  where
    or_false : (b : Bool) → (b || (false || false)) ≡ b
    or_false true = refl
    or_false false = refl

other_way : (u v : ℕ) → (u == v) ≡ false → (v == u) ≡ false
other_way u v h = ne_eqb v u (λ e. eqb-false u v h (sym e))

neither : (a c : Bool) → (a || c) ≡ false → (a ≡ false) × (c ≡ false)
neither true c h = absurd (both_ways true h refl)
neither false c h = (refl, h)

-- a variable that is in no set joins the sets
distinct_more : (sets : List Bound) (q : Quant) (v : ℕ) → are_distinct sets ≡ true → is_bound sets v ≡ false → are_distinct (sets ++ record { quant = q; var = v } ∷ []) ≡ true
distinct_more [] q v distinct fresh = refl
distinct_more (b ∷ sets) q v distinct fresh =
    let d = and_parts (not (is_bound sets b.var)) (are_distinct sets) distinct in
    let f = neither (b.var == v) (is_bound sets v) fresh in
    and_from (not (is_bound (sets ++ record { quant = q; var = v } ∷ []) b.var)) (are_distinct (sets ++ record { quant = q; var = v } ∷ []))
    (ap not (bound_other sets q v b.var (other_way b.var v f.0)) ∙ d.0) (distinct_more sets q v d.1 f.1)

and_true : (a b c : Bool) → a ≡ true → b ≡ true → (a && (b && true)) ≡ true
and_true a b c h k = ap (λ t. t && (b && true)) h ∙ ap (λ t. t && true) k

in_range : (v n : ℕ) → (v == 0) ≡ false → nat_lt n v ≡ false → (nat_lt 0 v && nat_le v n) ≡ true
in_range v n some few =
    let le : v ≤ n = ltb-false n v few in
    let none : v ≡ 0 → ⊥ = eqb-false v 0 some in
    let positive : 0 < v = omega (arith, none) in
    and_from (nat_lt 0 v) (nat_le v n) (lt-ltb 0 v positive) (le-leb v n le)

range_more : (n : ℕ) (sets : List Bound) (q : Quant) (v : ℕ) → are_in_range n sets ≡ true → (nat_lt 0 v && nat_le v n) ≡ true → are_in_range n (sets ++ record { quant = q; var = v } ∷ []) ≡ true
range_more n sets q v all here =
    list_all-append (λ (b : Bound). nat_lt 0 b.var && nat_le b.var n) sets (record { quant = q; var = v } ∷ [])
    ∙ and_from (are_in_range n sets) ((nat_lt 0 v && nat_le v n) && true) all (and_from (nat_lt 0 v && nat_le v n) true here refl)

literals_more : (n : ℕ) (clause : List Lit) (v : ℕ) (negative : Bool) → literals_in_range n clause ≡ true → (nat_lt 0 v && nat_le v n) ≡ true
    → literals_in_range n (clause ++ record { var = v; negative = negative } ∷ []) ≡ true
literals_more n clause v negative all here =
    list_all-append (λ (l : Lit). nat_lt 0 l.var && nat_le l.var n) clause (record { var = v; negative = negative } ∷ [])
    ∙ and_from (literals_in_range n clause) ((nat_lt 0 v && nat_le v n) && true) all (and_from (nat_lt 0 v && nat_le v n) true here refl)

clauses_more : (n : ℕ) (clauses : List (List Lit)) (clause : List Lit) → list_all (literals_in_range n) clauses ≡ true → literals_in_range n clause ≡ true
    → list_all (literals_in_range n) (clauses ++ clause ∷ []) ≡ true
clauses_more n clauses clause all here =
    list_all-append (literals_in_range n) clauses (clause ∷ [])
    ∙ and_from (list_all (literals_in_range n) clauses) (literals_in_range n clause && true) all (and_from (literals_in_range n clause) true here refl)

sound_placed : (h : Header) (s : Items) (p : Place) (line : ℕ) → HasRoom h.clauses (length s.clauses) p → SoundItems h s → SoundItems h (record s { place = p; line = line })
sound_placed h s p line room sound =
    record { vars = sound.vars; most = sound.most; count = sound.count; room = room; literals = sound.literals; sets = sound.sets; distinct = sound.distinct; clauses = sound.clauses; clause = sound.clause }

sound_letter : (h : Header) (s : Items) (q : Quant) (line : ℕ) (p : Place) → SoundItems h s → Then (after_letter q line p s) (SoundItems h)
sound_letter h s q line (InSet r) sound = tt
sound_letter h s q line InClause sound = tt
sound_letter h s q line Between sound =
    then_cond (has_clauses s.clauses) (Err (errors.SetAfterClause line)) (Ok (record s { place = InSet q; line = line })) (SoundItems h) (λ e. tt) (λ e. sound_placed h s (InSet q) line tt sound)

sound_bound : (h : Header) (s : Items) (q : Quant) (v line : ℕ) (p : Place) → p ≡ s.place → SoundItems h s → (v == 0) ≡ false → nat_lt h.vars v ≡ false → is_bound s.sets v ≡ false
    → SoundItems h (record s { sets = s.sets ++ record { quant = q; var = v } ∷ []; line = line })
sound_bound h s q v line p same sound some few fresh =
    record {
      vars = sound.vars;
      most = sound.most;
      count = sound.count;
      room = sound.room;
      literals = sound.literals;
      sets = range_more h.vars s.sets q v sound.sets (in_range v h.vars some few);
      distinct = distinct_more s.sets q v sound.distinct fresh;
      clauses = sound.clauses;
      clause = sound.clause;
    }

sound_in_set : (h : Header) (s : Items) (q : Quant) (negative : Bool) (v line : ℕ) → SoundItems h s → Then (in_set h q negative v line s) (SoundItems h)
sound_in_set h s q negative v line sound =
    let joined : Items = record s { sets = s.sets ++ record { quant = q; var = v } ∷ []; line = line } in
    then_cond negative (Err (errors.BadToken line)) _ (SoundItems h) (λ e. tt) (λ e.
    then_cond (v == 0) (Ok (record s { place = Between; line = line })) _ (SoundItems h) (λ e. sound_placed h s Between line tt sound) (λ some.
    then_cond (nat_lt h.vars v) (Err (errors.VariableTooLarge line)) _ (SoundItems h) (λ e. tt) (λ few.
    then_cond (is_bound s.sets v) (Err (errors.BoundTwice line)) (Ok joined) (SoundItems h) (λ e. tt) (λ fresh.
    sound_bound h s q v line s.place refl sound some few fresh))))

sound_ended : (h : Header) (s : Items) (line : ℕ) → SoundItems h s → length s.clauses < h.clauses
    → SoundItems h (record s { place = Between; clauses = s.clauses ++ s.clause ∷ []; clause = []; line = line })
sound_ended h s line sound room =
    record {
      vars = sound.vars;
      most = sound.most;
      count = omega (arith, room, length-append s.clauses (s.clause ∷ []));
      room = tt;
      literals = omega (arith, sound.literals, sum_by-append length s.clauses (s.clause ∷ []));
      sets = sound.sets;
      distinct = sound.distinct;
      clauses = clauses_more h.vars s.clauses s.clause sound.clauses sound.clause;
      clause = refl;
    }

sound_literal : (h : Header) (s : Items) (negative : Bool) (v line : ℕ) → SoundItems h s → length s.clauses < h.clauses → (v == 0) ≡ false → nat_lt h.vars v ≡ false → nat_le 1048576 (literals s) ≡ false
    → SoundItems h (record s { place = InClause; clause = s.clause ++ record { var = v; negative = negative } ∷ []; line = line })
sound_literal h s negative v line sound room some few left =
    let fewer : literals s < 1048576 = leb-false 1048576 (literals s) left in
    record {
      vars = sound.vars;
      most = sound.most;
      count = sound.count;
      room = room;
      literals = omega (arith, fewer, length-append s.clause (record { var = v; negative = negative } ∷ []));
      sets = sound.sets;
      distinct = sound.distinct;
      clauses = sound.clauses;
      clause = literals_more h.vars s.clause v negative sound.clause (in_range v h.vars some few);
    }

sound_in_clause : (h : Header) (s : Items) (negative : Bool) (v line : ℕ) → SoundItems h s → length s.clauses < h.clauses → Then (in_clause h negative v line s) (SoundItems h)
sound_in_clause h s negative v line sound room =
    let joined : Items = record s { place = InClause; clause = s.clause ++ record { var = v; negative = negative } ∷ []; line = line } in
    then_cond (v == 0) (Ok (record s { place = Between; clauses = s.clauses ++ s.clause ∷ []; clause = []; line = line })) _ (SoundItems h) (λ e. sound_ended h s line sound room) (λ some.
    then_cond (nat_lt h.vars v) (Err (errors.VariableTooLarge line)) _ (SoundItems h) (λ e. tt) (λ few.
    then_cond (nat_le 1048576 (literals s)) (Err (errors.TooManyLiterals line)) (Ok joined) (SoundItems h) (λ e. tt) (λ left. sound_literal h s negative v line sound room some few left)))

sound_number : (h : Header) (s : Items) (negative : Bool) (v line : ℕ) (p : Place) → s.place ≡ p → SoundItems h s → Then (after_number h negative v line p s) (SoundItems h)
sound_number h s negative v line (InSet q) is sound = sound_in_set h s q negative v line sound
sound_number h s negative v line InClause is sound = sound_in_clause h s negative v line sound (subst (HasRoom h.clauses (length s.clauses)) is sound.room)
sound_number h s negative v line Between is sound =
    then_cond (nat_le h.clauses (length s.clauses)) (Err (errors.TooManyClauses line)) (in_clause h negative v line s) (SoundItems h) (λ e. tt)
    (λ fewer. sound_in_clause h s negative v line sound (leb-false h.clauses (length s.clauses) fewer))

sound_word : (h : Header) (line : ℕ) (k : Kind) (s : Items) → SoundItems h s → Then (after_word h line k s) (SoundItems h)
sound_word h line (Letter q) s sound = sound_letter h s q line s.place sound
sound_word h line Other s sound = tt
sound_word h line (Number negative v) s sound =
    then_cond (nat_lt 2147483647 v) (Err (errors.NumberTooLarge line)) (after_number h negative v line s.place s) (SoundItems h) (λ e. tt) (λ e. sound_number h s negative v line s.place refl sound)

-- the machine's steps
sound_items : (h : Header) (m : Machine) (r : Result Items ReadError) → m.problem ≡ Some h → Then r (SoundItems h) → Then (with_items m r) Sound
sound_items h m (Ok s) is sound = subst (λ p. SoundWith p s) (sym is) sound
sound_items h m (Err e) is sound = tt

sound_taken : (p : Option Header) (w : Seen) (m : Machine) → m.problem ≡ p → SoundWith p m.items → Then (word_taken p w m) Sound
sound_taken None w m is sound = subst (λ p. SoundWith p m.items) (sym is) sound
sound_taken (Some h) w m is sound = sound_items h m (after_word h m.line (kind_seen w) m.items) is (sound_word h m.line (kind_seen w) m.items sound)

sound_word_ended : (m : Machine) → Sound m → Then (word_ended m) Sound
sound_word_ended m sound =
    then_cond (is_nothing m.word) (Ok m) (word_taken m.problem m.word (record m { word = seen.Nothing })) Sound (λ e. sound) (λ e. sound_taken m.problem m.word (record m { word = seen.Nothing }) refl sound)

abbrev SmallHeader : Option Header → Type 0
SmallHeader None = Unit {0}
SmallHeader (Some h) = (h.vars ≤ 65535) × (h.clauses ≤ 1048576)

some_small : (r : Result Header ReadError) → Then r (λ h. (h.vars ≤ 65535) × (h.clauses ≤ 1048576)) → Then (some_header r) SmallHeader
some_small (Ok h) small = small
some_small (Err e) small = tt

limits_small : (line v c : ℕ) → Then (within_limits line v c) (λ h. (h.vars ≤ 65535) × (h.clauses ≤ 1048576))
limits_small line v c =
    let numbers : Header = record { vars = v; clauses = c } in
    let P : Header → Type 0 = λ h. (h.vars ≤ 65535) × (h.clauses ≤ 1048576) in
    then_cond (nat_lt 2147483647 v || nat_lt 2147483647 c) (Err (errors.NumberTooLarge line)) _ P (λ e. tt) (λ e.
    then_cond (nat_lt 65535 v) (Err (errors.TooManyVariables line)) _ P (λ e. tt) (λ few.
    then_cond (nat_lt 1048576 c) (Err (errors.ClauseLimit line)) (Ok numbers) P (λ e. tt) (λ few_clauses. (ltb-false 65535 v few, ltb-false 1048576 c few_clauses))))

header_small : (line : ℕ) (hs : HeaderSeen) → Then (header_seen_end line hs) SmallHeader
header_small line headers.Empty = tt
header_small line headers.NotProblem = tt
header_small line (headers.Both v c) = some_small (within_limits line v c) (limits_small line v c)
header_small line headers.P = tt
header_small line headers.Cnf = tt
header_small line (headers.Vars v) = tt
header_small line headers.Bad = tt

sound_new : (h : Header) (line : ℕ) → h.vars ≤ 65535 → h.clauses ≤ 1048576 → SoundItems h (no_items line)
sound_new h line few few_clauses =
    record { vars = few; most = few_clauses; count = omega arith; room = tt; literals = omega arith; sets = refl; distinct = refl; clauses = refl; clause = refl }

sound_problem : (m : Machine) (r : Result (Option Header) ReadError) → m.items ≡ no_items 0 → Sound m → Then r SmallHeader → Then (with_problem m r) Sound
sound_problem m (Ok None) none sound small = sound
sound_problem m (Ok (Some h)) none sound small = subst (λ s. SoundItems h (record s { line = m.line })) (sym none) (sound_new h m.line small.0 small.1)
sound_problem m (Err e) none sound small = tt

sound_header : (p : Option Header) (m : Machine) → m.problem ≡ p → Sound m → Then (header_ended p m) Sound
sound_header (Some h) m is sound = sound
sound_header None m is sound = sound_problem m (header_seen_end m.line m.header) (subst (λ p. SoundWith p m.items) is sound) sound (header_small m.line m.header)

pub then_bind : {A B : Type 0} (r : Result A ReadError) (f : A → Result B ReadError) (P : A → Type 0) (Q : B → Type 0) → Then r P → ((x : A) → P x → Then (f x) Q) → Then (r >>= f) Q
then_bind (Ok x) f P Q h k = k x h
then_bind (Err e) f P Q h k = tt

pub judged_then : (m : Machine) → Sound m → Then (line_judged m) Sound
judged_then m sound = then_bind (word_ended m) (λ n. header_ended n.problem n) Sound Sound (sound_word_ended m sound) (λ n s. sound_header n.problem n refl s)

sound_inside : (mode : Mode) (b : ℕ) (m : Machine) → Sound m → Sound (inside mode b m)
sound_inside Comment b m sound = sound
sound_inside Text b m sound = sound
sound_inside Start b m sound = first (b == 99)
  where
    first : (c : Bool) → Sound (cond c (record m { mode = Comment }) (record m { mode = Text; word = seen_with m.word b }))
    first true = sound
    first false = sound

sound_byte : (b : ℕ) (m : Machine) → Sound m → Then (after_byte b m) Sound
sound_byte b m sound =
    then_cond (is_line_end b) (line_judged m >>= (λ n. Ok (next_line n))) _ Sound
    (λ e. then_bind (line_judged m) (λ n. Ok (next_line n)) Sound Sound (judged_then m sound) (λ n s. s))
    (λ e. then_cond (is_blank b) (word_ended m) (Ok (inside m.mode b m)) Sound (λ e. sound_word_ended m sound) (λ e. sound_inside m.mode b m sound))

pub bytes_then : (bs : List ℕ) (m : Machine) → Sound m → Then (after_bytes m bs) Sound
bytes_then [] m sound = sound
bytes_then (b ∷ bs) m sound = then_bind (after_byte b m) (λ n. after_bytes n bs) Sound Sound (sound_byte b m sound) (λ n s. bytes_then bs n s)

-- what the bytes lead to keeps to the limits
pub sound_reached : (bytes : List ℕ) (m : Machine) → after_bytes start bytes ≡ Ok m → Sound m
sound_reached bytes m reached = then_ok (after_bytes start bytes) m Sound reached (bytes_then bytes start refl)

pub sound_judged : (m n : Machine) → line_judged m ≡ Ok n → Sound m → Sound n
sound_judged m n e sound = then_ok (line_judged m) n Sound e (judged_then m sound)
