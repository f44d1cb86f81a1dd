-- Private: what the fields of a decoder of replies say.
use Rattle.std.specs.Prelude.{◌≡◌, ◌<◌, ℕ, List, [], ◌∷◌, ◌++◌, All, length, take, drop, flat_map}
use Rattle.blic_field.specs.Quadratic.{Quadratic, HasElements}
use Rattle.blic_messages.specs.declared.reply_decoder.Kept.{Kept}
use Rattle.blic_messages.specs.declared.reply_decoder.Kept.TheVariants as keeps
use Rattle.blic_messages.specs.declared.reply_decoder.ReplyFront.{ReplyFront}
use Rattle.blic_messages.specs.declared.reply_decoder.ReplyFront.TheVariants as fronts
use Rattle.blic_messages.specs.declared.reply_decoder.PolyFront.{PolyFront}
use Rattle.blic_messages.specs.declared.reply_decoder.PolyFront.TheVariants as polys
use Rattle.blic_messages.specs.declared.reply_decoder.ReplyState.{ReplyState}
use Rattle.blic_messages.specs.declared.reply_decoder.ReplyState.TheVariants as states
use Rattle.blic_messages.specs.Replies.{Said, Answer, Polys, Values, Refused}
use Rattle.blic_messages.specs.Frames.{poly_body}
use Rattle.blic_messages.specs.Grammar.{Front, Whole, Broken, Partial, Element, Bad, Short, judged, kind_at, front}
use Rattle.blic_messages.specs.Fronts.{reply_grammar}
use Rattle.blic_messages.specs.Decoding.{Decoding, Inside, At, Stopped}

abbrev pub kept_said : Kept → List Quadratic → Said
kept_said (keeps.Answer b) ps = Answer b
kept_said keeps.Polys ps = Polys ps
kept_said (keeps.Values u w) ps = Values u w
kept_said (keeps.Refused r) ps = Refused r

abbrev pub reply_shown : ReplyFront → Front Said
reply_shown (fronts.Whole k n) = Whole (kept_said k []) n
reply_shown fronts.Broken = Broken
reply_shown fronts.Partial = Partial

-- what is told of the bytes of one polynomial
abbrev pub PolyShown : PolyFront → List ℕ → Type 0
PolyShown polys.Inside part = judged (Element ∷ Element ∷ Element ∷ []) part ≡ Short
PolyShown polys.Bad part = judged (Element ∷ Element ∷ Element ∷ []) part ≡ Bad
PolyShown (polys.Ends p) part = HasElements p × (part ≡ poly_body p)

-- the header and the polynomials, and between them and the end the bytes that are kept behind the header
abbrev pub stream_of : List ℕ → List Quadratic → List ℕ
stream_of kept ps = take 5 kept ++ (flat_map poly_body ps ++ drop 5 kept)

abbrev pub reply_decoding : ReplyState → List ℕ → List Quadratic → Decoding Said
reply_decoding states.Open kept ps = Inside (stream_of kept ps)
reply_decoding (states.Whole k) kept ps = At (kept_said k ps)
reply_decoding states.Broken kept ps = Stopped

-- nothing is told of the bytes yet, and less than one polynomial is kept as bytes
pub record IsOpen (kept : List ℕ) (ps : List Quadratic) : Type 0 where
  pub partial : front reply_grammar (stream_of kept ps) ≡ Partial
  pub small : length kept < 44
  pub elements : All HasElements ps
  pub kind : 0 < length ps → kind_at kept ≡ 130
  pub part : kind_at kept ≡ 130 → length kept < 29

abbrev pub IsReplyState : ReplyState → List ℕ → List Quadratic → Type 0
IsReplyState states.Open kept ps = IsOpen kept ps
IsReplyState (states.Whole k) kept ps = Unit {0}
IsReplyState states.Broken kept ps = Unit {0}
