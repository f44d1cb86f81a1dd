use Rattle.std.proofs.Common.{◌≡◌, ℕ, ◌+◌, ◌-◌, ◌*◌, ◌<◌, ◌≤◌, List, [], ◌∷◌, ◌++◌, length, length-append, take, drop, set, refl, ap, sym, ◌∙◌, subst, arith}
use mathlib.Core.Path.{ap₂}
use Rattle.std.proofs.lemmas.List.{length-take-le, length-drop, length-set, drop-take, take-take, take-append-le, drop-append-le}
use Rattle.std.proofs.Math.Seq.{take-append_seam}
use Rattle.std.proofs.lemmas.Grind.{take-set_at}
use Rattle.byteorder.specs.Endian.{big_number}
use Rattle.byteorder.specs.Numbers.{big_from-take}
use Rattle.blic_field.specs.Quadratic.{Quadratic, HasElements}
use Rattle.blic_messages.specs.declared.reply_decoder.Kept.{Kept}
use Rattle.blic_messages.specs.declared.reply_decoder.ReplyState.{ReplyState}
use Rattle.blic_messages.specs.declared.reply_decoder.ReplyState.TheVariants as states
use Rattle.blic_messages.specs.declared.feeding.Fed.TheVariants as feds
use Rattle.blic_messages.specs.Replies.{Said, Polys}
use Rattle.blic_messages.specs.Frames.{poly_body}
use Rattle.blic_messages.specs.Grammar.{Whole, Partial, Short, Bad, front, kind_at, length_at, judged}
use Rattle.blic_messages.specs.Fronts.{reply_grammar}
use Rattle.blic_messages.specs.Decoding.{Decoding, Inside, At, Stopped, held_by, fed_with, decoding_with}
use Rattle.blic_messages.specs.ReplyStates.{reply_decoding, kept_said, IsReplyState, IsOpen, stream_of}
use Rattle.blic_messages.proofs.ReplyBodies.{many, reply_sizes}
use Rattle.blic_messages.proofs.ReplySteps.{IsPolyByte, poly_byte, poly_before, poly_inside, poly_bad, poly_stream, poly_more, poly_last, byte_stream, small_more, small_open, no_polys_yet}
use Rattle.blic_messages.proofs.Pieces.{byte_partial, byte_broken, byte_whole}
use Rattle.blic_messages.proofs.reply_decoder.ReplyDecoder.take.Goals as goal

-- an open decoder, and the byte written behind those that it keeps
record Ready (s : ReplyState) (held : List ℕ) (len byte : ℕ) (ps : List Quadratic) (d : Decoding Said) : Type 0 where
  state : s ≡ states.Open
  opened : IsOpen (take len held) ps
  is : d ≡ Inside (stream_of (take len held) ps)
  room : len < length held
  new : take (len + 1) (set held len byte) ≡ take len held ++ byte ∷ []

ready : (s : ReplyState) (held : List ℕ) (len byte : ℕ) (ps : List Quadratic) (d : Decoding Said) → reply_decoding s (take len held) ps ≡ d → d ≡ Inside (held_by d)
    → IsReplyState s (take len held) ps → len ≤ length held → length held ≡ 44 → Ready s held len byte ps d
ready states.Open held len byte ps d e is inv l long =
    let room : len < length held = omega (arith, inv.small, length-take-le len held l) in
    record { state = refl; opened = inv; is = sym e; room = room; new = take-set_at held len (len + 1) byte refl room }
ready (states.Whole k) held len byte ps d e is inv l long = cc
ready states.Broken held len byte ps d e is inv l long = cc

-- behind a header of polynomials
record InPoly (held : List ℕ) (len byte : ℕ) (ps : List Quadratic) : Type 0 where
  byte_is : IsPolyByte (take len held) ps byte
  five : 5 ≤ len
  part : take (len + 1 - 5) (drop 5 (set held len byte)) ≡ drop 5 (take len held ++ byte ∷ [])

in_poly : (s : ReplyState) (held : List ℕ) (len byte : ℕ) (ps : List Quadratic) (d : Decoding Said) → Ready s held len byte ps d
    → (6 ≤ length (take (len + 1) (set held len byte))) × (kind_at (take (len + 1) (set held len byte)) ≡ 130) → InPoly held len byte ps
in_poly s held len byte ps d h has =
    let room = h.room in
    let long : length (take (len + 1) (set held len byte)) ≡ len + 1 = length-take-le (len + 1) (set held len byte) (omega (arith, length-set {A = ℕ})) in
    let five : 5 ≤ len = omega (arith, has.0) in
    record {
      byte_is = poly_byte (take len held) ps byte h.opened (omega (arith, has.0, ap length h.new)) (ap kind_at (sym h.new) ∙ has.1);
      five = five;
      part = sym (drop-take 5 (len + 1 - 5) (set held len byte))
          ∙ (ap (λ n. drop 5 (take n (set held len byte))) (let e : 5 + (len + 1 - 5) ≡ len + 1 = omega arith in e) ∙ ap (drop 5) h.new);
    }

-- the bytes of the polynomial before this byte
part_before : (s : ReplyState) (held : List ℕ) (len byte : ℕ) (ps : List Quadratic) (d : Decoding Said) → Ready s held len byte ps d → (g : InPoly held len byte ps)
    → (part : List ℕ) → part ≡ take (len + 1 - 5) (drop 5 (set held len byte)) → judged (many 3) (take (length part - 1) part) ≡ Short
part_before s held len byte ps d h g part e =
    let kept = take len held in
    let b = g.byte_is in
    let room = b.room in
    let is : part ≡ drop 5 kept ++ byte ∷ [] = e ∙ (g.part ∙ drop-append-le 5 kept (byte ∷ []) room) in
    let few : length kept < 29 = h.opened.part b.kind in
    let long : length part - 1 ≡ length (drop 5 kept) = omega (arith, ap length is, length-append (drop 5 kept) (byte ∷ [])) in
    ap₂ (λ n xs. judged (many 3) (take n xs)) long is
    ∙ (ap (judged (many 3)) (take-append_seam (drop 5 kept) (byte ∷ [])) ∙ poly_before kept ps b.within (omega (arith, length-drop 5 kept)))

pub poly_front-requires-clause-before : goal.poly_front-requires-clause-before
poly_front-requires-clause-before c =
    let h = ready c.self.inside.state c.self.inside.held c.self.inside.len c.args.byte c.self.inside.polys.items c.args.self.now
    c.self.view_is c.requires c.self.invariant.0 c.self.invariant.2 c.self.told in
    let g = in_poly c.self.inside.state c.self.inside.held c.self.inside.len c.args.byte c.self.inside.polys.items c.args.self.now h (c.has_polys.ensures.yes c.if-has_polys.true) in
    part_before c.self.inside.state c.self.inside.held c.self.inside.len c.args.byte c.self.inside.polys.items c.args.self.now h g
    (take (c.self.inside.len + 1 - 5) (drop 5 (set c.self.inside.held c.self.inside.len c.args.byte))) refl

-- an open decoder with the byte, and what it is told
record Inner (s : ReplyState) (held : List ℕ) (len byte : ℕ) (ps : List Quadratic) (d : Decoding Said) : Type 0 where
  opened : IsReplyState s (take (len + 1) (set held len byte)) ps
  answer : feds.More ≡ fed_with reply_grammar d (byte ∷ [])
  after : reply_decoding s (take (len + 1) (set held len byte)) ps ≡ decoding_with reply_grammar d (byte ∷ [])

inner : (s : ReplyState) (held : List ℕ) (len byte : ℕ) (ps : List Quadratic) (d : Decoding Said) → Ready s held len byte ps d
    → stream_of (take len held ++ byte ∷ []) ps ≡ stream_of (take len held) ps ++ byte ∷ [] → IsOpen (take len held ++ byte ∷ []) ps → Inner s held len byte ps d
inner s held len byte ps d h more now =
    let new = take len held ++ byte ∷ [] in
    let told = byte_partial reply_grammar d (stream_of (take len held) ps) (stream_of new ps) byte h.is more now.partial in
    record {
      opened = subst (λ r. IsReplyState r (take (len + 1) (set held len byte)) ps) (sym h.state) (subst (λ k. IsOpen k ps) (sym h.new) now);
      answer = told.0;
      after = ap (λ r. reply_decoding r (take (len + 1) (set held len byte)) ps) h.state ∙ (ap (λ k. Inside (stream_of k ps)) h.new ∙ told.1);
    }

inner_part : (c : goal.In-Inside) → Inner c.self.inside.state c.self.inside.held c.self.inside.len c.args.byte c.self.inside.polys.items c.args.self.now
inner_part c =
    let kept = take c.self.inside.len c.self.inside.held in
    let ps = c.self.inside.polys.items in
    let h = ready c.self.inside.state c.self.inside.held c.self.inside.len c.args.byte ps c.args.self.now c.self.view_is c.requires c.self.invariant.0 c.self.invariant.2 c.self.told in
    let g = in_poly c.self.inside.state c.self.inside.held c.self.inside.len c.args.byte ps c.args.self.now h (c.has_polys.ensures.yes c.if-has_polys.true) in
    inner c.self.inside.state c.self.inside.held c.self.inside.len c.args.byte ps c.args.self.now h (byte_stream kept ps c.args.byte g.byte_is)
    (poly_inside kept ps c.args.byte g.byte_is (ap (judged (many 3)) (sym g.part) ∙ c.in-Inside.ensures))

pub invariant_of-self : goal.invariant_of-self
invariant_of-self c =
    let room = (ready c.self.inside.state c.self.inside.held c.self.inside.len c.args.byte c.self.inside.polys.items c.args.self.now
    c.self.view_is c.requires c.self.invariant.0 c.self.invariant.2 c.self.told).room in
    ((inner_part c).opened, c.self.invariant.1, omega (arith, length-set {A = ℕ}))

pub returns-in-Inside-clause-answer : goal.returns-in-Inside-clause-answer
returns-in-Inside-clause-answer c = (inner_part c).answer

pub returns-in-Inside-clause-state : goal.returns-in-Inside-clause-state
returns-in-Inside-clause-state c = (inner_part c).after

bad_part : (s : ReplyState) (held : List ℕ) (len byte : ℕ) (ps : List Quadratic) (d : Decoding Said) → Ready s held len byte ps d → InPoly held len byte ps
    → judged (many 3) (take (len + 1 - 5) (drop 5 (set held len byte))) ≡ Bad
    → (feds.Broken ≡ fed_with reply_grammar d (byte ∷ [])) × (Stopped ≡ decoding_with reply_grammar d (byte ∷ []))
bad_part s held len byte ps d h g told =
    let kept = take len held in
    byte_broken reply_grammar d (stream_of kept ps) (stream_of (kept ++ byte ∷ []) ps) byte h.is (byte_stream kept ps byte g.byte_is)
    (poly_bad kept ps byte g.byte_is (ap (judged (many 3)) (sym g.part) ∙ told))

pub returns-in-Bad-clause-answer : goal.returns-in-Bad-clause-answer
returns-in-Bad-clause-answer c =
    let kept = take c.self.inside.len c.self.inside.held in
    let ps = c.self.inside.polys.items in
    let h = ready c.self.inside.state c.self.inside.held c.self.inside.len c.args.byte ps c.args.self.now c.self.view_is c.requires c.self.invariant.0 c.self.invariant.2 c.self.told in
    let g = in_poly c.self.inside.state c.self.inside.held c.self.inside.len c.args.byte ps c.args.self.now h (c.has_polys.ensures.yes c.if-has_polys.true) in
    (bad_part c.self.inside.state c.self.inside.held c.self.inside.len c.args.byte ps c.args.self.now h g c.in-Bad.ensures).0

pub returns-in-Bad-clause-state : goal.returns-in-Bad-clause-state
returns-in-Bad-clause-state c =
    let kept = take c.self.inside.len c.self.inside.held in
    let ps = c.self.inside.polys.items in
    let h = ready c.self.inside.state c.self.inside.held c.self.inside.len c.args.byte ps c.args.self.now c.self.view_is c.requires c.self.invariant.0 c.self.invariant.2 c.self.told in
    let g = in_poly c.self.inside.state c.self.inside.held c.self.inside.len c.args.byte ps c.args.self.now h (c.has_polys.ensures.yes c.if-has_polys.true) in
    (bad_part c.self.inside.state c.self.inside.held c.self.inside.len c.args.byte ps c.args.self.now h g c.in-Bad.ensures).1

pub push_reserved-requires : goal.push_reserved-requires
push_reserved-requires c =
    let kept = take c.self.inside.len c.self.inside.held in
    let ps = c.self.inside.polys.items in
    let h = ready c.self.inside.state c.self.inside.held c.self.inside.len c.args.byte ps c.args.self.now c.self.view_is c.requires c.self.invariant.0 c.self.invariant.2 c.self.told in
    let g = in_poly c.self.inside.state c.self.inside.held c.self.inside.len c.args.byte ps c.args.self.now h (c.has_polys.ensures.yes c.if-has_polys.true) in
    let fewer = g.byte_is.within.fewer in
    let few = g.byte_is.within.few in
    omega (arith, c.self.inside.polys.ok.0, c.self.invariant.1)

-- a decoder with one polynomial more
record Done (s : ReplyState) (held : List ℕ) (len byte : ℕ) (ps qs : List Quadratic) (d : Decoding Said) : Type 0 where
  more : 24 * (length ps + 1) < big_number 4 (set held len byte) → IsReplyState s (take 5 (set held len byte)) qs × (feds.More ≡ fed_with reply_grammar d (byte ∷ []))
      × (reply_decoding s (take 5 (set held len byte)) qs ≡ decoding_with reply_grammar d (byte ∷ []))
  last : big_number 4 (set held len byte) ≤ 24 * (length ps + 1) → (feds.Whole 1 ≡ fed_with reply_grammar d (byte ∷ [])) × (At (Polys qs) ≡ decoding_with reply_grammar d (byte ∷ []))

poly_done : (s : ReplyState) (held : List ℕ) (len byte : ℕ) (ps : List Quadratic) (d : Decoding Said) (p : Quadratic) (qs : List Quadratic) → Ready s held len byte ps d
    → InPoly held len byte ps → HasElements p → take (len + 1 - 5) (drop 5 (set held len byte)) ≡ poly_body p → qs ≡ ps ++ p ∷ [] → Done s held len byte ps qs d
poly_done s held len byte ps d p qs h g ok is items =
    let kept = take len held in
    let new = kept ++ byte ∷ [] in
    let five = g.five in
    let b = g.byte_is in
    let all = set held len byte in
    let head : take 5 all ≡ take 5 new = sym (take-take 5 (len + 1) all (omega arith)) ∙ ap (take 5) h.new in
    let field : big_number 4 all ≡ 24 * b.within.n =
    sym (big_from-take 0 4 5 all (omega arith)) ∙ (ap length_at (head ∙ take-append-le 5 kept (byte ∷ []) b.room) ∙ b.within.len) in
    let end : drop 5 new ≡ poly_body p = sym g.part ∙ is in
    let stream = poly_stream kept ps byte p b end in
    record {
      more = λ l.
          let now = poly_more kept ps byte p b ok (omega arith) in
          let told = byte_partial reply_grammar d (stream_of kept ps) (stream_of (take 5 new) (ps ++ p ∷ [])) byte h.is stream now.partial in (
            subst (λ r. IsReplyState r (take 5 all) qs) (sym h.state) (subst (λ k. IsOpen k qs) (sym head) (subst (IsOpen (take 5 new)) (sym items) now)),
            told.0,
            ap (λ r. reply_decoding r (take 5 all) qs) h.state ∙ (ap₂ (λ k rs. Inside (stream_of k rs)) head items ∙ told.1),
          );
      last = λ l.
          let told = byte_whole reply_grammar reply_sizes d (stream_of kept ps) (stream_of (take 5 new) (ps ++ p ∷ [])) byte (Polys (ps ++ p ∷ [])) (5 + 24 * b.within.n)
          h.is h.opened.partial stream (poly_last kept ps byte p b ok (omega arith)) in
          (told.0, ap (λ rs. At (Polys rs)) items ∙ told.1);
    }

pub invariant_of-self-then-len-read_u32 : goal.invariant_of-self-then-len-read_u32
invariant_of-self-then-len-read_u32 c =
    let kept = take c.self.inside.len c.self.inside.held in
    let ps = c.self.inside.polys.items in
    let h = ready c.self.inside.state c.self.inside.held c.self.inside.len c.args.byte ps c.args.self.now c.self.view_is c.requires c.self.invariant.0 c.self.invariant.2 c.self.told in
    let g = in_poly c.self.inside.state c.self.inside.held c.self.inside.len c.args.byte ps c.args.self.now h (c.has_polys.ensures.yes c.if-has_polys.true) in
    let items = c.push_reserved.ensures.items in
    let read = c.read_u32.ensures in
    let size = c.push_reserved.new.self.ok.0 in
    let count = c.len.ensures in
    let test = c.if-len-read_u32.true in
    let more : length c.push_reserved.new.self.items ≡ length ps + 1 = ap length items ∙ length-append ps (c.in-Ends.poly ∷ []) in
    let done = poly_done c.self.inside.state c.self.inside.held c.self.inside.len c.args.byte ps c.args.self.now c.in-Ends.poly c.push_reserved.new.self.items h g c.in-Ends.ensures.0 c.in-Ends.ensures.1 items in
    let room = h.room in
    let five = g.five in
    ((done.more (omega arith)).0, omega (arith, c.push_reserved.ensures.capacity, c.self.invariant.1), omega (arith, length-set {A = ℕ}))

pub returns-then-len-read_u32-clause-answer : goal.returns-then-len-read_u32-clause-answer
returns-then-len-read_u32-clause-answer c =
    let kept = take c.self.inside.len c.self.inside.held in
    let ps = c.self.inside.polys.items in
    let h = ready c.self.inside.state c.self.inside.held c.self.inside.len c.args.byte ps c.args.self.now c.self.view_is c.requires c.self.invariant.0 c.self.invariant.2 c.self.told in
    let g = in_poly c.self.inside.state c.self.inside.held c.self.inside.len c.args.byte ps c.args.self.now h (c.has_polys.ensures.yes c.if-has_polys.true) in
    let items = c.push_reserved.ensures.items in
    let read = c.read_u32.ensures in
    let size = c.push_reserved.new.self.ok.0 in
    let count = c.len.ensures in
    let test = c.if-len-read_u32.true in
    let more : length c.push_reserved.new.self.items ≡ length ps + 1 = ap length items ∙ length-append ps (c.in-Ends.poly ∷ []) in
    let done = poly_done c.self.inside.state c.self.inside.held c.self.inside.len c.args.byte ps c.args.self.now c.in-Ends.poly c.push_reserved.new.self.items h g c.in-Ends.ensures.0 c.in-Ends.ensures.1 items in
    (done.more (omega arith)).1

pub returns-then-len-read_u32-clause-state : goal.returns-then-len-read_u32-clause-state
returns-then-len-read_u32-clause-state c =
    let kept = take c.self.inside.len c.self.inside.held in
    let ps = c.self.inside.polys.items in
    let h = ready c.self.inside.state c.self.inside.held c.self.inside.len c.args.byte ps c.args.self.now c.self.view_is c.requires c.self.invariant.0 c.self.invariant.2 c.self.told in
    let g = in_poly c.self.inside.state c.self.inside.held c.self.inside.len c.args.byte ps c.args.self.now h (c.has_polys.ensures.yes c.if-has_polys.true) in
    let items = c.push_reserved.ensures.items in
    let read = c.read_u32.ensures in
    let size = c.push_reserved.new.self.ok.0 in
    let count = c.len.ensures in
    let test = c.if-len-read_u32.true in
    let more : length c.push_reserved.new.self.items ≡ length ps + 1 = ap length items ∙ length-append ps (c.in-Ends.poly ∷ []) in
    let done = poly_done c.self.inside.state c.self.inside.held c.self.inside.len c.args.byte ps c.args.self.now c.in-Ends.poly c.push_reserved.new.self.items h g c.in-Ends.ensures.0 c.in-Ends.ensures.1 items in
    (done.more (omega arith)).2

pub returns-else-len-read_u32-clause-answer : goal.returns-else-len-read_u32-clause-answer
returns-else-len-read_u32-clause-answer c =
    let kept = take c.self.inside.len c.self.inside.held in
    let ps = c.self.inside.polys.items in
    let h = ready c.self.inside.state c.self.inside.held c.self.inside.len c.args.byte ps c.args.self.now c.self.view_is c.requires c.self.invariant.0 c.self.invariant.2 c.self.told in
    let g = in_poly c.self.inside.state c.self.inside.held c.self.inside.len c.args.byte ps c.args.self.now h (c.has_polys.ensures.yes c.if-has_polys.true) in
    let items = c.push_reserved.ensures.items in
    let read = c.read_u32.ensures in
    let size = c.push_reserved.new.self.ok.0 in
    let count = c.len.ensures in
    let test = c.if-len-read_u32.false in
    let more : length c.push_reserved.new.self.items ≡ length ps + 1 = ap length items ∙ length-append ps (c.in-Ends.poly ∷ []) in
    let done = poly_done c.self.inside.state c.self.inside.held c.self.inside.len c.args.byte ps c.args.self.now c.in-Ends.poly c.push_reserved.new.self.items h g c.in-Ends.ensures.0 c.in-Ends.ensures.1 items in
    (done.last (omega arith)).0

pub returns-else-len-read_u32-clause-state : goal.returns-else-len-read_u32-clause-state
returns-else-len-read_u32-clause-state c =
    let kept = take c.self.inside.len c.self.inside.held in
    let ps = c.self.inside.polys.items in
    let h = ready c.self.inside.state c.self.inside.held c.self.inside.len c.args.byte ps c.args.self.now c.self.view_is c.requires c.self.invariant.0 c.self.invariant.2 c.self.told in
    let g = in_poly c.self.inside.state c.self.inside.held c.self.inside.len c.args.byte ps c.args.self.now h (c.has_polys.ensures.yes c.if-has_polys.true) in
    let items = c.push_reserved.ensures.items in
    let read = c.read_u32.ensures in
    let size = c.push_reserved.new.self.ok.0 in
    let count = c.len.ensures in
    let test = c.if-len-read_u32.false in
    let more : length c.push_reserved.new.self.items ≡ length ps + 1 = ap length items ∙ length-append ps (c.in-Ends.poly ∷ []) in
    let done = poly_done c.self.inside.state c.self.inside.held c.self.inside.len c.args.byte ps c.args.self.now c.in-Ends.poly c.push_reserved.new.self.items h g c.in-Ends.ensures.0 c.in-Ends.ensures.1 items in
    (done.last (omega arith)).1

-- bytes with no polynomials behind the header
small : (held : List ℕ) (len byte : ℕ) → take (len + 1) (set held len byte) ≡ take len held ++ byte ∷ []
    → (kind_at (take (len + 1) (set held len byte)) ≡ 130 → length (take (len + 1) (set held len byte)) ≤ 5)
    → kind_at (take len held ++ byte ∷ []) ≡ 130 → length (take len held ++ byte ∷ []) ≤ 5
small held len byte new few k = omega (arith, few (ap kind_at new ∙ k), ap length new)

pub invariant_of-self-in-Partial : goal.invariant_of-self-in-Partial
invariant_of-self-in-Partial c =
    let kept = take c.self.inside.len c.self.inside.held in
    let ps = c.self.inside.polys.items in
    let h = ready c.self.inside.state c.self.inside.held c.self.inside.len c.args.byte ps c.args.self.now c.self.view_is c.requires c.self.invariant.0 c.self.invariant.2 c.self.told in
    let few = small c.self.inside.held c.self.inside.len c.args.byte h.new (c.has_polys.ensures.no c.if-has_polys.false) in
    let told : front reply_grammar (kept ++ c.args.byte ∷ []) ≡ Partial = ap (front reply_grammar) (sym h.new) ∙ sym c.in-Partial.ensures in
    let now = small_open kept ps c.args.byte h.opened few told in
    let room = h.room in
    let opened : IsReplyState c.self.inside.state (take (c.self.inside.len + 1) (set c.self.inside.held c.self.inside.len c.args.byte)) ps =
    subst (λ r. IsReplyState r (take (c.self.inside.len + 1) (set c.self.inside.held c.self.inside.len c.args.byte)) ps) (sym h.state)
    (subst (λ k. IsOpen k ps) (sym h.new) now) in
    (opened, c.self.invariant.1, omega (arith, length-set {A = ℕ}))

small_whole : (s : ReplyState) (held : List ℕ) (len byte : ℕ) (ps : List Quadratic) (d : Decoding Said) (k : Kept) (n : ℕ) → Ready s held len byte ps d
    → (kind_at (take (len + 1) (set held len byte)) ≡ 130 → length (take (len + 1) (set held len byte)) ≤ 5)
    → Whole (kept_said k []) n ≡ front reply_grammar (take (len + 1) (set held len byte))
    → (feds.Whole 1 ≡ fed_with reply_grammar d (byte ∷ [])) × (At (kept_said k ps) ≡ decoding_with reply_grammar d (byte ∷ []))
small_whole s held len byte ps d k n h none e =
    let kept = take len held in
    let few = small held len byte h.new none in
    let told = byte_whole reply_grammar reply_sizes d (stream_of kept ps) (kept ++ byte ∷ []) byte (kept_said k []) n
    h.is h.opened.partial (small_more kept ps byte h.opened few) (ap (front reply_grammar) (sym h.new) ∙ sym e) in
    (told.0, ap (λ qs. At (kept_said k qs)) (no_polys_yet kept ps byte h.opened few) ∙ told.1)

pub returns-in-Whole-clause-answer : goal.returns-in-Whole-clause-answer
returns-in-Whole-clause-answer c =
    let kept = take c.self.inside.len c.self.inside.held in
    let ps = c.self.inside.polys.items in
    let h = ready c.self.inside.state c.self.inside.held c.self.inside.len c.args.byte ps c.args.self.now c.self.view_is c.requires c.self.invariant.0 c.self.invariant.2 c.self.told in
    (small_whole c.self.inside.state c.self.inside.held c.self.inside.len c.args.byte ps c.args.self.now c.in-Whole.kept c.in-Whole.field-1 h (c.has_polys.ensures.no c.if-has_polys.false) c.in-Whole.ensures).0

pub returns-in-Whole-clause-state : goal.returns-in-Whole-clause-state
returns-in-Whole-clause-state c =
    let kept = take c.self.inside.len c.self.inside.held in
    let ps = c.self.inside.polys.items in
    let h = ready c.self.inside.state c.self.inside.held c.self.inside.len c.args.byte ps c.args.self.now c.self.view_is c.requires c.self.invariant.0 c.self.invariant.2 c.self.told in
    (small_whole c.self.inside.state c.self.inside.held c.self.inside.len c.args.byte ps c.args.self.now c.in-Whole.kept c.in-Whole.field-1 h (c.has_polys.ensures.no c.if-has_polys.false) c.in-Whole.ensures).1
