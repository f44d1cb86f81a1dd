-- The way of a conversation, turn by turn.
use Rattle.std.proofs.Common.{arith, ℕ, ◌≡◌, ◌+◌, ◌-◌, refl, sym, ◌∙◌, ap, subst, List, [], ◌∷◌, ◌++◌, length, take, Bool, true, false, cond, inl, inr, append-nil, append_assoc}
use Rattle.std.specs.Prelude.{Option, Some, None}
use Rattle.std.specs.Io.KnownBytes.{append_known}
use Rattle.std.proofs.Math.Seq.{take-append-add}
use Rattle.std.proofs.lemmas.Grind.{flat_map-append}
use Rattle.std.proofs.lemmas.List.{length-append}
use Rattle.blic_basic.proofs.Appended.{append_known-append}
use Rattle.blic_basic.specs.Watching.{Adds}
use Rattle.blic_messages.specs.Frames.{ask_spelling, reply_spelling}
use Rattle.blic_messages.specs.Reading.{Reads}
use Rattle.blic_messages.specs.Replies.{Said}
use Rattle.blic_messages.specs.declared.ask.Ask.{Ask}
use Rattle.blic_messages.specs.declared.ask.Ask.TheVariants.{Bye}
use Rattle.blic_verifier.specs.Verdict.{Talk, Silent}
use Rattle.blic_print.specs.Printing.{frame_line, talk_text}
use Rattle.blic_verifier.specs.Asking.{replies_in}
use Rattle.blic_draw.specs.DrawRun.{draw_from}
use Rattle.blic_verifier.specs.Conversation.{Instance, Position, Awaits, Ended, beginning, honest_reply, read_on}
use Rattle.blic_verifier.specs.declared.asker.Following.TheVariants.{Asks, Ends}
use Rattle.blic_verifier.specs.declared.ending.Ending.{Ending}
use Rattle.blic_verifier.specs.declared.ending.Ending.TheVariants.{Certified, Rejected, WrongKind, WrongCount, ServerRefused, NotFrame}
use Rattle.blic_talk.specs.Holding.{Conversing, IsTalk}
use Rattle.blic_talk.specs.Talking.{ArePrinted, HasCome, IsBegun, IsOnWay, IsParted, IsWay, conversing, position_of}
use Rattle.blic_talk.specs.Wire.{IsCarried, Leads, Shows, spoken_at}
use Rattle.blic_talk.specs.declared.machines.Machines.{Machines}

-- a step more
pub leads_more : (x : Instance) (draw : ℕ → ℕ) (alters : Bool) (p : Position) (way : List (List ℕ)) (ask : Ask) (t : Talk) (n : ℕ) (came : List ℕ) (says : Option Said) (q : Position)
    → Leads x draw alters p way (Awaits ask t n) → IsCarried alters (reply_spelling (honest_reply x t)) came → Reads came says → read_on x draw (Awaits ask t n) says ≡ q
    → Leads x draw alters p (way ++ ask_spelling ask ∷ came ∷ []) q
leads_more x draw alters p [] ask t n came says q e carried reads next =
    subst (λ z. Leads x draw alters z (ask_spelling ask ∷ came ∷ []) q) (sym e) (refl, carried, (says, reads, next))
leads_more x draw alters p (a ∷ []) ask t n came says q l carried reads next = absurd l
leads_more x draw alters (Ended e s) (a ∷ b ∷ way) ask t n came says q l carried reads next = absurd l
leads_more x draw alters (Awaits asked u m) (a ∷ b ∷ way) ask t n came says q (first, second, (said, reading, rest)) carried reads next =
    (first, second, (said, reading, leads_more x draw alters (read_on x draw (Awaits asked u m) said) way ask t n came says q rest carried reads next))

-- frames more
pub shows_more : (old mid new : Option (List (List ℕ))) (xs ys : List (List ℕ)) → Shows old mid xs → Shows mid new ys → Shows old new (xs ++ ys)
shows_more old mid None xs ys first second = tt
shows_more old None (Some now) xs ys first second = absurd second
shows_more None (Some held) (Some now) xs ys first second = absurd first
shows_more (Some before) (Some held) (Some now) xs ys first second = second ∙ (ap (λ z. z ++ ys) first ∙ append_assoc before xs ys)

pub shows_none : (old : Option (List (List ℕ))) → Shows old old []
shows_none None = tt
shows_none (Some frames) = sym (append-nil frames)

pub shows_one : (old new : Option (List (List ℕ))) (x : List ℕ) → Adds old new x → Shows old new (x ∷ [])
shows_one old None x adds = tt
shows_one None (Some now) x adds = absurd adds
shows_one (Some before) (Some now) x adds = adds

-- ---- lines

lines_more : (xs ys : List (List ℕ)) → talk_text (xs ++ ys) ≡ talk_text xs ++ talk_text ys
lines_more xs ys = flat_map-append frame_line xs ys

-- all but the last of two frames behind others
but_last : (xs : List (List ℕ)) (a b : List ℕ) → take (length (xs ++ a ∷ b ∷ []) - 1) (xs ++ a ∷ b ∷ []) ≡ xs ++ a ∷ []
but_last xs a b =
    let long : length (xs ++ a ∷ b ∷ []) - 1 ≡ length xs + 1 = omega (arith, length-append xs (a ∷ b ∷ [])) in
    ap (λ n. take n (xs ++ a ∷ b ∷ [])) long ∙ take-append-add xs (a ∷ b ∷ []) 1

-- the lines of a way with an exchange more
spoken_more : (p : Position) (xs : List (List ℕ)) (a b : List ℕ) → talk_text (spoken_at p (xs ++ a ∷ b ∷ [])) ≡ talk_text xs ++ talk_text (spoken_at p (a ∷ b ∷ []))
spoken_more (Awaits ask t n) xs a b = lines_more xs (a ∷ b ∷ [])
spoken_more (Ended (Certified answer) t) xs a b = lines_more xs (a ∷ b ∷ [])
spoken_more (Ended (Rejected place) t) xs a b = lines_more xs (a ∷ b ∷ [])
spoken_more (Ended (WrongKind turn) t) xs a b = lines_more xs (a ∷ b ∷ [])
spoken_more (Ended (WrongCount turn want got) t) xs a b = lines_more xs (a ∷ b ∷ [])
spoken_more (Ended (ServerRefused r) t) xs a b = lines_more xs (a ∷ b ∷ [])
spoken_more (Ended NotFrame t) xs a b = ap talk_text (but_last xs a b) ∙ lines_more xs (a ∷ [])

cond_append : (talk : Bool) (a b : List ℕ) → cond talk (a ++ b) [] ≡ cond talk a [] ++ cond talk b []
cond_append true a b = refl
cond_append false a b = refl

-- text behind text, if it is to be printed
printed_more : (old mid new : Option (List ℕ)) (talk talked : Bool) (a b whole : List ℕ) → talked ≡ talk → whole ≡ a ++ b → mid ≡ append_known old (cond talk a [])
    → new ≡ append_known mid (cond talked b []) → new ≡ append_known old (cond talk whole [])
printed_more old mid new talk talked a b whole talks is before after =
    after ∙ (ap (λ m. append_known m (cond talked b [])) before ∙ (append_known-append old (cond talk a []) (cond talked b [])
    ∙ ap (append_known old) (ap (λ z. cond talk a [] ++ cond z b []) talks ∙ (sym (cond_append talk a b) ∙ ap (λ z. cond talk z []) (sym is)))))

-- a prefix of a text behind one that stands whole
pub front_behind : (old mid new : Option (List ℕ)) (talk : Bool) (a b : List ℕ) → talk ≡ true → mid ≡ append_known old (cond talk a []) → (n : ℕ) → new ≡ append_known mid (take n b)
    → new ≡ append_known old (a ++ take n b)
front_behind old mid new talk a b talks before n after =
    after ∙ (ap (λ m. append_known m (take n b)) (before ∙ ap (λ z. append_known old (cond z a [])) talks) ∙ append_known-append old a (take n b))

-- ---- the way

-- no frame so far
pub at_the_start : (x : Machines) (draw : ℕ → ℕ) (alters : Bool) (ask : Ask) (seen : Option (List (List ℕ))) (held : Option (List ℕ)) → IsBegun x ask → held ≡ append_known held []
    → IsOnWay (conversing x) draw alters x ask seen seen held held 0
at_the_start x draw alters ask seen held begun same =
    ([], Silent, [], begun.at, ap (λ a. Awaits a Silent 0) (sym begun.hello) ∙ ap (Awaits ask Silent) (sym begun.place), shows_none seen, same ∙ ap (append_known held) (sym (no_lines x.talk)), refl)
  where
    no_lines : (b : Bool) → cond b (talk_text []) [] ≡ []
    no_lines true = refl
    no_lines false = refl

pub nothing_more : (held : Option (List ℕ)) → held ≡ append_known held []
nothing_more None = refl
nothing_more (Some bytes) = ap Some (sym (append-nil bytes))

-- where a reply leads, seen from the first position on
from_first : (first : Conversing) (x : Machines) (draw : ℕ → ℕ) (ask : Ask) (t : Talk) (says : Option Said) → conversing x ≡ first → draw ≡ draw_from x.asker.draws.source
    → read_on first.about draw (Awaits ask t x.asker.draws.place) says ≡ position_of x ask t says
from_first first x draw ask t says same is_draw =
    ap (λ z. read_on first.about z (Awaits ask t x.asker.draws.place) says) is_draw
    ∙ ap (λ z. read_on z.about (draw_from x.asker.draws.source) (Awaits ask t x.asker.draws.place) says) (sym same)

carried_first : (first : Conversing) (x : Machines) (alters : Bool) (t : Talk) (came : List ℕ) → conversing x ≡ first
    → IsCarried alters (reply_spelling (honest_reply x.asker.about t)) came → IsCarried alters (reply_spelling (honest_reply first.about t)) came
carried_first first x alters t came same carried = subst (λ z. IsCarried alters (reply_spelling (honest_reply z.about t)) came) same carried

-- a turn more
pub onward : (first : Conversing) (x y : Machines) (draw : ℕ → ℕ) (alters : Bool) (ask next : Ask) (seen seen_mid seen_now : Option (List (List ℕ))) (held held_mid held_now : Option (List ℕ)) (count : ℕ)
    (asks : List Ask) (t : Talk) (way : List (List ℕ)) (came : List ℕ) (says : Option Said) → conversing x ≡ first → draw ≡ draw_from x.asker.draws.source
    → Leads first.about draw alters (beginning first.about) way (Awaits ask t x.asker.draws.place) → Shows seen seen_mid way → held_mid ≡ append_known held (cond first.talk (talk_text way) []) → replies_in t ≡ count
    → Shows seen_mid seen_now (ask_spelling ask ∷ came ∷ []) → HasCome x y alters asks ask t came says (Some (Asks next))
    → ArePrinted held_mid held_now x.talk (talk_text (spoken_at (position_of x ask t says) (ask_spelling ask ∷ came ∷ []))) (Some (Asks next))
    → IsOnWay first draw alters y next seen seen_now held held_now (count + 1)
onward first x y draw alters ask next seen seen_mid seen_now held held_mid held_now count asks t way came says same is_draw leads shown printed counted shows (carried, reads, (u, is, at, more)) lines = (
  asks ++ ask ∷ [],
  u,
  way ++ ask_spelling ask ∷ came ∷ [],
  at,
  leads_more first.about draw alters (beginning first.about) way ask t x.asker.draws.place came says (Awaits next u y.asker.draws.place) leads (carried_first first x alters t came same carried) reads
      (from_first first x draw ask t says same is_draw ∙ is),
  shows_more seen seen_mid seen_now way (ask_spelling ask ∷ came ∷ []) shown shows,
  printed_more held held_mid held_now first.talk x.talk (talk_text way) (talk_text (ask_spelling ask ∷ came ∷ [])) (talk_text (way ++ ask_spelling ask ∷ came ∷ [])) (ap (λ z. z.talk) same)
      (lines_more way (ask_spelling ask ∷ came ∷ [])) printed
      (subst (λ p. held_now ≡ append_known held_mid (cond x.talk (talk_text (spoken_at p (ask_spelling ask ∷ came ∷ []))) [])) is lines),
  more ∙ omega (arith, counted),
)

-- a turn that ends it
pub to_the_end : (first : Conversing) (x y : Machines) (draw : ℕ → ℕ) (alters : Bool) (ask : Ask) (seen seen_mid seen_now : Option (List (List ℕ))) (held held_mid held_now : Option (List ℕ))
    (asks : List Ask) (t : Talk) (way : List (List ℕ)) (came : List ℕ) (says : Option Said) (e : Ending) → conversing x ≡ first → draw ≡ draw_from x.asker.draws.source
    → Leads first.about draw alters (beginning first.about) way (Awaits ask t x.asker.draws.place) → Shows seen seen_mid way → held_mid ≡ append_known held (cond first.talk (talk_text way) [])
    → Shows seen_mid seen_now (ask_spelling ask ∷ came ∷ []) → HasCome x y alters asks ask t came says (Some (Ends e))
    → ArePrinted held_mid held_now x.talk (talk_text (spoken_at (position_of x ask t says) (ask_spelling ask ∷ came ∷ []))) (Some (Ends e))
    → (all : List (List ℕ)) × Shows seen seen_now all × IsWay first draw alters all held held_now (Some e)
to_the_end first x y draw alters ask seen seen_mid seen_now held held_mid held_now asks t way came says e same is_draw leads shown printed shows (carried, reads, (u, is)) lines = (
  way ++ ask_spelling ask ∷ came ∷ [],
  shows_more seen seen_mid seen_now way (ask_spelling ask ∷ came ∷ []) shown shows,
  (
    u,
    leads_more first.about draw alters (beginning first.about) way ask t x.asker.draws.place came says (Ended e u) leads (carried_first first x alters t came same carried) reads
        (from_first first x draw ask t says same is_draw ∙ is),
    printed_more held held_mid held_now first.talk x.talk (talk_text way) (talk_text (spoken_at (Ended e u) (ask_spelling ask ∷ came ∷ []))) (talk_text (spoken_at (Ended e u) (way ++ ask_spelling ask ∷ came ∷ []))) (ap (λ z. z.talk) same)
        (spoken_more (Ended e u) way (ask_spelling ask) came) printed
        (subst (λ p. held_now ≡ append_known held_mid (cond x.talk (talk_text (spoken_at p (ask_spelling ask ∷ came ∷ []))) [])) is lines),
  ),
)

-- the last turn that is under way
pub off_the_way : (first : Conversing) (x y : Machines) (draw : ℕ → ℕ) (alters : Bool) (ask : Ask) (seen seen_mid seen_now : Option (List (List ℕ))) (held held_mid held_now : Option (List ℕ))
    (asks : List Ask) (t : Talk) (way : List (List ℕ)) (came : List ℕ) (says : Option Said) → conversing x ≡ first → draw ≡ draw_from x.asker.draws.source
    → Leads first.about draw alters (beginning first.about) way (Awaits ask t x.asker.draws.place) → Shows seen seen_mid way → held_mid ≡ append_known held (cond first.talk (talk_text way) [])
    → Shows seen_mid seen_now (ask_spelling ask ∷ came ∷ []) → HasCome x y alters asks ask t came says None
    → ArePrinted held_mid held_now x.talk (talk_text (spoken_at (position_of x ask t says) (ask_spelling ask ∷ came ∷ []))) None
    → (all : List (List ℕ)) × Shows seen seen_now all × IsWay first draw alters all held held_now None
off_the_way first x y draw alters ask seen seen_mid seen_now held held_mid held_now asks t way came says same is_draw leads shown printed shows (carried, reads, led) (talks, (n, lines)) =
    let talk : x.talk ≡ first.talk = ap (λ z. z.talk) same in
    let there : read_on first.about draw (Awaits ask t x.asker.draws.place) says ≡ position_of x ask t says = from_first first x draw ask t says same is_draw in
    let piece : List ℕ = talk_text (spoken_at (read_on first.about draw (Awaits ask t x.asker.draws.place) says) (ask_spelling ask ∷ came ∷ [])) in (
      way ++ ask_spelling ask ∷ came ∷ [],
      shows_more seen seen_mid seen_now way (ask_spelling ask ∷ came ∷ []) shown shows,
      (
        sym talk ∙ talks,
        (
          talk_text way,
          piece,
          record {
            before = way;
            last = ask_spelling ask ∷ came ∷ [];
            from = Awaits ask t x.asker.draws.place;
            to = read_on first.about draw (Awaits ask t x.asker.draws.place) says;
            way = leads;
            step = inl (refl, (refl, carried_first first x alters t came same carried, (says, reads, refl)));
            all = refl;
            before_lines = refl;
            last_lines = refl;
          },
          n,
          front_behind held held_mid held_now first.talk (talk_text way) piece (sym talk ∙ talks) printed n
              (lines ∙ ap (λ p. append_known held_mid (take n (talk_text (spoken_at p (ask_spelling ask ∷ came ∷ []))))) (sym there)),
        ),
      ),
    )

-- Bye is sent
pub parted : (first : Conversing) (draw : ℕ → ℕ) (alters : Bool) (talked : Bool) (seen seen_mid seen_now : Option (List (List ℕ))) (held held_mid held_now : Option (List ℕ)) (way : List (List ℕ)) (answer : Bool) (result : Option Ending)
    → talked ≡ first.talk → Shows seen seen_mid way → IsWay first draw alters way held held_mid (Some (Certified answer)) → Adds seen_mid seen_now (ask_spelling Bye)
    → IsParted held_mid held_now talked (talk_text (ask_spelling Bye ∷ [])) answer result → (frames : List (List ℕ)) × Shows seen seen_now frames × IsTalk first draw alters frames held held_now result
parted first draw alters talked seen seen_mid seen_now held held_mid held_now way answer (Some e) talk shown (t, leads, printed) adds (is, lines) = (
  way ++ ask_spelling Bye ∷ [],
  shows_more seen seen_mid seen_now way (ask_spelling Bye ∷ []) shown (shows_one seen_mid seen_now (ask_spelling Bye) adds),
  subst (λ z. IsTalk first draw alters (way ++ ask_spelling Bye ∷ []) held held_now (Some z)) (sym is) (
    t,
    (way, leads, refl),
    printed_more held held_mid held_now first.talk talked (talk_text way) (talk_text (ask_spelling Bye ∷ [])) (talk_text (way ++ ask_spelling Bye ∷ [])) talk
        (lines_more way (ask_spelling Bye ∷ [])) printed lines,
  ),
)
parted first draw alters talked seen seen_mid seen_now held held_mid held_now way answer None talk shown (t, leads, printed) adds (talks, (n, lines)) = (
  way ++ ask_spelling Bye ∷ [],
  shows_more seen seen_mid seen_now way (ask_spelling Bye ∷ []) shown (shows_one seen_mid seen_now (ask_spelling Bye) adds),
  (
    sym talk ∙ talks,
    (
      talk_text way,
      talk_text (ask_spelling Bye ∷ []),
      record {
        before = way;
        last = ask_spelling Bye ∷ [];
        from = Ended (Certified answer) t;
        to = Ended (Certified answer) t;
        way = leads;
        step = inr (answer, t, refl, refl, refl);
        all = refl;
        before_lines = refl;
        last_lines = refl;
      },
      n,
      front_behind held held_mid held_now first.talk (talk_text way) (talk_text (ask_spelling Bye ∷ [])) (sym talk ∙ talks) printed n lines,
    ),
  ),
)
